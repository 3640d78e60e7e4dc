-- Step 1's formula from side to side: what is carried, and the running state.
use mathlib.Core.Path.{◌≡◌, sym, ap, ◌∙◌}
use Prim.Native.Nat.{ℕ, ◌+◌, ◌-◌, ◌*◌, ◌/◌, ◌%◌, ◌^◌, ◌≤◌, ◌<◌}
use native.Mathlib.Omega.{arith}
use native.Mathlib.Nat.{mul-le-mul, mul-add, add-mul, div-add-mod', div-eq_of_lt, mod-eq_of_lt, add-mul-div_right, add-mul-mod_self_right, mod-lt}
use lib.Dec.{lit<}
use Rattle.share.specs.Share.{most_total}
use Rattle.share.specs.Carry.{widest, farthest, Carries, Carriable, CarriedOn}
use Rattle.share.specs.Inner.{Runs, CanCarry, Stepped}
use Rattle.share.specs.declared.Carried.{Carried}
use Rattle.share.specs.declared.Running.{Running}
use Rattle.share.proofs.Lists.{part-le}

-- ---- one side's step over plain numbers

module _ (r t w q m : ℕ) where
  -- ONE SIDE'S STEP IS RIGHT, for every total: a quotient and a remainder that hold the side's product too
  carried_on : (p n : ℕ) → n < t → n + p * t ≡ m + r * w + q * t → q ≤ p → CarriedOn r t w q m p n
  carried_on p n l e h = record {
    carries = λ c s. record { quotient = up c s; remainder = over c s };
    share = λ c s. let a = up c s in let b = s.quotient in omega arith;
    kept = e;
    below = l;
    rises = h;
  }
    where
      held : (c : ℕ) → Carries r t c q m → r * (c + w) ≡ n + p * t
      held c s = let d = div-add-mod' (r * c) t in let k = ap (λ (x : ℕ). x * t) s.quotient in mul-add r c w ∙ omega (arith, s.remainder)

      up : (c : ℕ) → Carries r t c q m → p ≡ r * (c + w) / t
      up c s =
          let some : 0 < t = omega arith in
          let d = ap (λ (x : ℕ). x / t) (held c s) ∙ add-mul-div_right n p some in
          omega (arith, div-eq_of_lt l)

      over : (c : ℕ) → Carries r t c q m → n ≡ r * (c + w) % t
      over c s = sym (ap (λ (x : ℕ). x % t) (held c s) ∙ add-mul-mod_self_right n p t ∙ mod-eq_of_lt l)

  -- the two remainders, the carried one and that of the side's own product, are below the total; or they reach it, and no more than once
  module _ {own : ℕ} (e : own ≡ r * w) where
    pub stays : m + own % t < t → CarriedOn r t w q m (q + own / t) (m + own % t)
    stays l = carried_on (q + own / t) (m + own % t) l (rw (add-mul q (own / t) t) (omega (arith, div-add-mod' own t))) (omega arith)

    pub reaches : m < t → t ≤ m + own % t → CarriedOn r t w q m (q + own / t + 1) (m + own % t - t)
    reaches h l =
        let some : 0 < t = omega arith in
        carried_on (q + own / t + 1) (m + own % t - t) (omega (arith, mod-lt own some))
        (rw (add-mul (q + own / t) 1 t, add-mul q (own / t) t) (omega (arith, div-add-mod' own t))) (omega arith)

-- whatever the total, what is carried at a running total of no more than that may be handed to the step
pub carriable : {r t : ℕ} (c w : ℕ) → r ≤ widest → w ≤ widest → 0 < t → t ≤ farthest → c ≤ t → Carriable r t w (r * c / t) (r * c % t)
carriable {r} {t} c w h n p k l = record {
  amount = h;
  weight = n;
  some = p;
  over = k;
  remainder = mod-lt (r * c) p;
  quotient = omega (arith, part-le r p l);
}

-- where the old product would not fit 64 bits
pub old-too-wide : 2 ^ 64 < widest * farthest
old-too-wide = lit< tt

pub narrow : {r w : ℕ} → r ≤ widest → w ≤ widest → r * w ≤ 1152921504606846976
narrow h k = mul-le-mul h k

-- ---- the running state

-- what the loop over the sides knows makes a state ready
pub ready : {r t c : ℕ} {run : Running} (w : ℕ) → Runs r t c run → r ≤ 1073741823 → t ≤ most_total → 0 < t → c + w ≤ t → w ≤ widest → CanCarry run w
ready {r} {t} {c} {run} w s h k p l n =
    rw (s.amount, s.over, s.carries.quotient, s.carries.remainder) (carriable c w (omega arith) n p (omega arith) (omega arith))

-- `next` is what is carried past the side
pub stepped : (run : Running) (w : ℕ) (next : Carried) → CarriedOn run.amount run.over w run.carried.quotient run.carried.remainder next.quotient next.remainder
    → Stepped run w (next.quotient - run.carried.quotient) (record { amount = run.amount; over = run.over; carried = next })
stepped run w next h = record {
  share = λ r t c s. (rw (s.amount, s.over) at (h.share c)) s.carries;
  next = λ r t c s. record { amount = s.amount; over = s.over; carries = (rw (s.amount, s.over) at (h.carries c)) s.carries };
}
