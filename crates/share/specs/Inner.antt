-- Names for the contracts of the functions inside the crate: the running state of step 1's formula, from side to side (see specs/Carry.antt).
use Rattle.std.specs.Prelude.{ℕ, ◌+◌, ◌≡◌}
use Rattle.share.specs.Share.{share_at}
use Rattle.share.specs.Carry.{Carries, Carriable}
use Rattle.share.specs.declared.Running.{Running}

-- r shared over t, at the running total c
pub record Runs (r t c : ℕ) (run : Running) : Type 0 where
  pub amount : run.amount ≡ r
  pub over : run.over ≡ t
  pub carries : Carries r t c run.carried.quotient run.carried.remainder

-- a side of this weight may come next
abbrev pub CanCarry : Running → ℕ → Type 0
CanCarry run weight = Carriable run.amount run.over weight run.carried.quotient run.carried.remainder

-- the side's share, and the state after it
pub record Stepped (run : Running) (weight side : ℕ) (past : Running) : Type 0 where
  pub share : (r t c : ℕ) → Runs r t c run → side ≡ share_at r t c weight
  pub next : (r t c : ℕ) → Runs r t c run → Runs r t (c + weight) past
