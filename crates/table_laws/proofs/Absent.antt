-- An absent direction means what an empty one means (document 01, "The table"): the same parts, and in the sheet the same bytes.
use Rattle.std.specs.Prelude.{None}
use Prim.Native.Nat.{ℕ, zero, suc, ◌+◌, ◌≤◌, ◌<◌}
use mathlib.Core.Path.{◌≡◌, refl, sym, ap, ap₂, ◌∙◌}
use mathlib.Core.Bool.{Bool, true, false, cond}
use mathlib.Core.Logic.{◌⊎◌, inl, inr}
use mathlib.Core.Option.{none}
use mathlib.Core.List.{List, [], ◌∷◌}
use native.Mathlib.Omega.{arith}
use lib.Dec.{eqb}
use lib.ListN.{replicate}
use borrow.Author.Tests.{eq-eqb}
use Rattle.encoding.specs.Upto.{from, upto}
use Rattle.types.specs.declared.Direction.{Direction}
use Rattle.types.specs.declared.Direction.TheVariants.{Horizontal, Vertical}
use Rattle.meaning.specs.Meaning.{Meaning, empty_side}
use Rattle.meaning.specs.Ask.{Question, ask}
use Rattle.meaning.specs.Sheet.{write}
use Rattle.lookup.specs.Find.{value_of}
use Rattle.lookup_targets.specs.declared.Kind.TheVariants.{Clusters}
use Rattle.lookup_targets.specs.Values.{spot_of, cluster_here, cluster_of, list_of}
use Rattle.table.specs.Table.{machine_offset, width_offset, action_offset, width_lookup}
use Rattle.table.specs.Means.{machine_of, lists_of, side_at, direction_of, meaning_of}
use Rattle.table_laws.specs.Absent.{EmptyDirection, offset_of, other}

-- a list of one value over and over
from-same : {A : Type 0} (f : ℕ → A) (x : A) (n i : ℕ) → ((k : ℕ) → i ≤ k → k < i + n → f k ≡ x) → from f n i ≡ replicate n x
unfolding from
from-same f x zero i h = refl
from-same f x (suc n) i h = ap₂ (λ (a : _) (l : List _). a ∷ l) (h i (omega arith) (omega arith)) (from-same f x n (suc i) (λ k a b. h k (omega arith) (omega arith)))

upto-same : {A : Type 0} (f : ℕ → A) (x : A) (n : ℕ) → ((k : ℕ) → k < n → f k ≡ x) → upto f n ≡ replicate n x
upto-same f x n h = from-same f x n 0 (λ k a b. h k (omega arith))

module _ (t : List ℕ) (n : ℕ) where
  -- a part at offset 0 is absent
  pub no-machine : (offset : ℕ) → offset ≡ 0 → machine_of t n offset ≡ none
  unfolding machine_of
  no-machine offset e = simp (eq-eqb offset 0 e)

  pub no-lists : (offset : ℕ) → (offset ≡ 0) ⊎ ((g : ℕ) → g < n → list_of t n offset offset g ≡ []) → lists_of t n offset ≡ replicate n []
  unfolding lists_of
  no-lists offset (inl e) = simp (eq-eqb offset 0 e)
  no-lists offset (inr h) = go (eqb offset 0)
    where
      go : (b : Bool) → cond b (replicate n []) (upto (list_of t n offset offset) n) ≡ replicate n []
      go true = refl
      go false = upto-same (list_of t n offset offset) [] n h

  -- a glyph without a width value has no width records
  pub no-cluster : (at base g : ℕ) → value_of t n at g ≡ None → cluster_of t n at base g ≡ []
  unfolding cluster_of
  no-cluster at base g e = ap (λ (f : _). cluster_here t (spot_of Clusters base f)) e

  -- a direction at offset 0 has no machine, no width records and no actions
  pub absent-direction : direction_of t n 0 ≡ empty_side n
  unfolding direction_of
  absent-direction = refl

  -- and so has a direction that is present and holds nothing
  pub empty-direction : (at : ℕ) → EmptyDirection t n at → direction_of t n at ≡ empty_side n
  unfolding direction_of side_at empty_side
  empty-direction at h = go (eqb at 0)
    where
      clusters : upto (cluster_of t n (width_lookup at) (width_offset t at)) n ≡ replicate n []
      clusters = upto-same _ [] n (λ g l. no-cluster (width_lookup at) (width_offset t at) g (h.no-widths g l))

      go : (b : Bool) → cond b (empty_side n) (side_at t n at) ≡ empty_side n
      go true = refl
      go false = λ i. record {
        machine = no-machine (machine_offset t at) h.no-machine i;
        clusters = clusters i;
        lists = no-lists (action_offset t at) h.no-actions i;
      }

-- an absent direction of one table means what an empty direction of any table means
pub absent-means-empty : (t u : List ℕ) (n at : ℕ) → EmptyDirection u n at → direction_of t n 0 ≡ direction_of u n at
absent-means-empty t u n at h = absent-direction t n ∙ sym (empty-direction u n at h)

-- ---- whole tables

-- two tables with equal directions have one meaning
same-meaning : (t u : List ℕ) (n : ℕ) → ((d : Direction) → direction_of t n (offset_of t d) ≡ direction_of u n (offset_of u d)) → meaning_of t n ≡ meaning_of u n
unfolding meaning_of
same-meaning t u n h = λ i. record { glyphs = n; horizontal = h Horizontal i; vertical = h Vertical i }

-- a table where a direction is absent has the meaning of one where that direction is empty and the other is the same
pub absent-meaning : (t u : List ℕ) (n : ℕ) (d : Direction) → offset_of t d ≡ 0 → EmptyDirection u n (offset_of u d)
    → direction_of t n (offset_of t (other d)) ≡ direction_of u n (offset_of u (other d)) → meaning_of t n ≡ meaning_of u n
absent-meaning t u n d z h e = same-meaning t u n (go d z h e)
  where
    gone : (d : Direction) → offset_of t d ≡ 0 → EmptyDirection u n (offset_of u d) → direction_of t n (offset_of t d) ≡ direction_of u n (offset_of u d)
    gone d z h = ap (direction_of t n) z ∙ absent-means-empty t u n (offset_of u d) h

    go : (d : Direction) → offset_of t d ≡ 0 → EmptyDirection u n (offset_of u d)
        → direction_of t n (offset_of t (other d)) ≡ direction_of u n (offset_of u (other d))
        → (c : Direction) → direction_of t n (offset_of t c) ≡ direction_of u n (offset_of u c)
    go Horizontal z h e Horizontal = gone Horizontal z h
    go Horizontal z h e Vertical = e
    go Vertical z h e Horizontal = e
    go Vertical z h e Vertical = gone Vertical z h

-- so it answers every question alike, and its sheet has the same bytes
pub absent-answers : (t u : List ℕ) (n : ℕ) (d : Direction) → offset_of t d ≡ 0 → EmptyDirection u n (offset_of u d)
    → direction_of t n (offset_of t (other d)) ≡ direction_of u n (offset_of u (other d)) → (q : Question) → ask (meaning_of t n) q ≡ ask (meaning_of u n) q
absent-answers t u n d z h e q = ap (λ (m : Meaning). ask m q) (absent-meaning t u n d z h e)

pub absent-sheet : (t u : List ℕ) (n : ℕ) (d : Direction) → offset_of t d ≡ 0 → EmptyDirection u n (offset_of u d)
    → direction_of t n (offset_of t (other d)) ≡ direction_of u n (offset_of u (other d)) → write (meaning_of t n) ≡ write (meaning_of u n)
absent-sheet t u n d z h e = ap write (absent-meaning t u n d z h e)
