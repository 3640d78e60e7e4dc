-- Of an accepted table, that the list of a glyph can be passed and how many verdicts there are at most; and an action's limits, read where they stand.
use Prim.Native.Nat.{ℕ, zero, suc, ◌+◌, ◌-◌, ◌*◌, ◌≤◌, ◌<◌}
use mathlib.Core.Path.{◌≡◌, refl, sym, ap, ◌∙◌, subst}
use mathlib.Core.Bool.{Bool, cond}
use mathlib.Core.List.{List, [], ◌∷◌}
use native.Mathlib.Omega.{arith}
use native.Mathlib.Decide.{ℕ_discrete}
use native.Mathlib.Nat.{add_assoc}
use lib.IntN.{ℤ, ◌+ℤ◌}
use lib.ListN.{length, get_or, drop, length-append}
use borrow.Author.Tests.{eq-eqb, ne_eqb}
use Rattle.fields.specs.Faults.{Clear}
use Rattle.fields.specs.Field.{u16_at, u32_at}
use Rattle.fields.proofs.Laws.{then-first, then-second}
use Rattle.fields.specs.Walk.{walk}
use Rattle.types.specs.declared.Direction.{Direction}
use Rattle.meaning.specs.Meaning.{Action, Side}
use Rattle.meaning.specs.Ask.{side_of}
use Rattle.std.proofs.Common.{Option, Some, None}
use Rattle.actions.specs.Faults.{action_fault, actions_fault, list_fault}
use Rattle.encoding.proofs.UptoLaws.{get_or-from}
use Rattle.actions.specs.Actions.{bytes_at, content_at, action_at, actions_at, list_at}
use Rattle.actions.proofs.Laws.{action-inside, list_count, list_length}
use Rattle.lookup_targets.specs.declared.Kind.TheVariants.{Lists}
use Rattle.lookup_targets.specs.Values.{list_here}
use Rattle.verdict.specs.declared.Fires.{Fires}
use Rattle.verdict.specs.declared.Fires.TheVariants.{No, Plain, Substitutes}
use Rattle.verdict.specs.Verdict.{breaks, substitutes, type_fires, fires_of}
use Rattle.verdict.proofs.Laws.{u32-dropped}
use Rattle.table.specs.Table.{table_fault}
use Rattle.table.specs.Means.{meaning_of}
use Rattle.table.proofs.Laws.{short}
use Rattle.table_ask.specs.Places.{lookup_in, spot_in}
use Rattle.table_ask.proofs.Steps.{spot-found}
use Rattle.table_ask.proofs.Asked.{side-is, lists-are}
use Rattle.table_ask.proofs.Laws.{list-clear}
use Rattle.line_rule.specs.Line.{record_if, firings, verdicts_from}
use Rattle.line_verdicts.specs.Bits.{ClearList}

-- ---- an accepted table

module _ (t : List ℕ) (n : ℕ) (d : Direction) where
  -- a glyph's actions stand where they are found
  pub list-here : (g : ℕ) (s : Option ℕ) → s ≡ spot_in t n d Lists g → get_or (side_of d (meaning_of t n)).lists g [] ≡ list_here t s
  list-here g s e = ap (λ (x : Side). get_or x.lists g []) (side-is t n d) ∙ lists-are t n d g ∙ ap (list_here t) (sym e)

  -- so many from its first on
  pub list-there : (g q m : ℕ) → Some q ≡ spot_in t n d Lists g → m ≡ u32_at t q → actions_at t m (q + 4) ≡ get_or (side_of d (meaning_of t n)).lists g []
  unfolding list_at
  list-there g q m e f = ap (λ (k : ℕ). actions_at t k (q + 4)) f ∙ sym (list-here g (Some q) e)

  module _ (ok : table_fault t n ≡ Clear) where
    table-short : length t ≤ 32768
    unfolding table_fault
    table-short = short t n (then-first _ _ ok)

    -- and they have no fault
    pub clear-there : (g q m : ℕ) → Some q ≡ spot_in t n d Lists g → m ≡ u32_at t q → ClearList t m (q + 4)
    unfolding list_fault
    clear-there g q m e f =
        let clear = list-clear t n d ok g q (sym e) in
        record {
          font = n;
          short = table-short;
          clear = ap (λ (k : ℕ). actions_fault t n k (q + 4)) f ∙ then-second _ _ (then-second _ _ clear);
          few = omega (arith, list_count t n q clear);
        }

    -- every list is short
    pub lists-few : (g : ℕ) → length (get_or (side_of d (meaning_of t n)).lists g []) ≤ 64
    lists-few g = go (spot_in t n d Lists g) refl
      where
        go : (s : Option ℕ) → s ≡ spot_in t n d Lists g → length (get_or (side_of d (meaning_of t n)).lists g []) ≤ 64
        go (Some q) e = omega (arith, ap length (list-here g (Some q) e), list_length t q, list_count t n q (list-clear t n d ok g q (sym e)))
        go None e = omega (arith, ap (λ (l : List Action). length l) (list-here g None e))

  -- without a lookup of lists every list is empty
  pub lists-none : None ≡ lookup_in t d Lists → (g : ℕ) → length (get_or (side_of d (meaning_of t n)).lists g []) ≤ 0
  lists-none e g = omega (arith, ap (λ (l : List Action). length l) (list-here g None (spot-found t n d Lists g e)))

-- ---- the first action of a list

first-clear : (t : List ℕ) (n m at : ℕ) → 0 < m → actions_fault t n m at ≡ Clear → action_fault t n at ≡ Clear
unfolding walk
first-clear t n zero at h e = absurd (omega arith)
first-clear t n (suc m) at h e = then-first _ _ e

rest-clear : (t : List ℕ) (n m at : ℕ) → 0 < m → actions_fault t n m at ≡ Clear → actions_fault t n (m - 1) (at + u32_at t (at + 4)) ≡ Clear
unfolding walk
rest-clear t n zero at h e = absurd (omega arith)
rest-clear t n (suc m) at h e = let d : suc m - 1 ≡ m = omega arith in rw d (then-second _ _ e)

module _ (t : List ℕ) (left at : ℕ) (s : ClearList t left at) (h : 0 < left) where
  pub first-inside : at + 8 ≤ length t
  first-inside = action-inside t s.font at (first-clear t s.font left at h s.clear)

  -- the list past it
  pub clear-past : ClearList t (left - 1) (at + u32_at t (at + 4))
  clear-past = record { font = s.font; short = s.short; clear = rest-clear t s.font left at h s.clear; few = omega (arith, s.few) }

-- ---- how many there are

pub one-most : (f : Fires) (place number : ℕ) → length (record_if f place number) ≤ 1
one-most No place number = omega arith
one-most Plain place number = omega arith
one-most Substitutes place number = omega arith

firings-few : (place class size : ℕ) (growth : ℤ) (number : ℕ) (l : List Action) → length (firings place class size growth number l) ≤ length l
unfolding firings
firings-few place class size growth number [] = omega arith
firings-few place class size growth number (a ∷ rest) =
    omega (
      arith,
      length-append (record_if (fires_of a class growth size) place number) (firings place class size growth (suc number) rest),
      one-most (fires_of a class growth size) place number,
      firings-few place class size growth (suc number) rest,
    )

-- no more than 64 to a glyph
pub verdicts-few : (s : Side) (place : ℕ) (zs gs cs : List ℕ) (bs fs : List ℤ) → ((g : ℕ) → length (get_or s.lists g []) ≤ 64)
    → length (verdicts_from s place zs gs cs bs fs) ≤ 64 * length gs
unfolding verdicts_from
verdicts-few s place [] gs cs bs fs h = omega arith
verdicts-few s place (z ∷ zs) [] cs bs fs h = omega arith
verdicts-few s place (z ∷ zs) (g ∷ gs) [] bs fs h = omega arith
verdicts-few s place (z ∷ zs) (g ∷ gs) (c ∷ cs) [] fs h = omega arith
verdicts-few s place (z ∷ zs) (g ∷ gs) (c ∷ cs) (b ∷ bs) [] h = omega arith
verdicts-few s place (z ∷ zs) (g ∷ gs) (c ∷ cs) (b ∷ bs) (f ∷ fs) h =
    omega (
      arith,
      length-append (firings place c z (b +ℤ f) 0 (get_or s.lists g [])) (verdicts_from s (suc place) zs gs cs bs fs),
      firings-few place c z (b +ℤ f) 0 (get_or s.lists g []),
      h g,
      verdicts-few s (suc place) zs gs cs bs fs h,
    )

-- and none where every list is empty
pub verdicts-none : (s : Side) (place : ℕ) (zs gs cs : List ℕ) (bs fs : List ℤ) → ((g : ℕ) → length (get_or s.lists g []) ≤ 0)
    → 0 ≡ length (verdicts_from s place zs gs cs bs fs)
unfolding verdicts_from
verdicts-none s place [] gs cs bs fs h = refl
verdicts-none s place (z ∷ zs) [] cs bs fs h = refl
verdicts-none s place (z ∷ zs) (g ∷ gs) [] bs fs h = refl
verdicts-none s place (z ∷ zs) (g ∷ gs) (c ∷ cs) [] fs h = refl
verdicts-none s place (z ∷ zs) (g ∷ gs) (c ∷ cs) (b ∷ bs) [] h = refl
verdicts-none s place (z ∷ zs) (g ∷ gs) (c ∷ cs) (b ∷ bs) (f ∷ fs) h =
    omega (
      arith,
      length-append (firings place c z (b +ℤ f) 0 (get_or s.lists g [])) (verdicts_from s (suc place) zs gs cs bs fs),
      firings-few place c z (b +ℤ f) 0 (get_or s.lists g []),
      h g,
      verdicts-none s (suc place) zs gs cs bs fs h,
    )

-- ---- an action's limits where they stand

byte-copied : (t : List ℕ) (first n i : ℕ) → i < n → get_or (bytes_at t first n) i 0 ≡ get_or t (first + i) 0
unfolding bytes_at
byte-copied t first n i h = get_or-from (λ (j : ℕ). get_or t j 0) n first i 0 h

u32-copied : (t : List ℕ) (first n k : ℕ) → k + 4 ≤ n → u32_at (bytes_at t first n) k ≡ u32_at t (first + k)
unfolding u32_at u16_at
u32-copied t first n k h =
    rw (byte-copied t first n k (omega arith), byte-copied t first n (k + 1) (omega arith), byte-copied t first n (k + 2) (omega arith), byte-copied t first n (k + 2 + 1) (omega arith))
    (simp add_assoc)

same-limits : (ty : ℕ) (xs ys : List ℕ) (g : ℤ) (s : ℕ) → u32_at xs 0 ≡ u32_at ys 0 → u32_at xs 4 ≡ u32_at ys 4 → type_fires ty xs g s ≡ type_fires ty ys g s
unfolding type_fires breaks substitutes
same-limits ty xs ys g s e f = simp (e, f)

module _ (t : List ℕ) (at : ℕ) (g : ℤ) (s : ℕ) where
  zero-type : type_fires 0 (drop (at + 8) t) g s ≡ type_fires 0 (content_at t at 0) g s
  unfolding content_at
  zero-type =
      same-limits 0 (drop (at + 8) t) (bytes_at t (at + 8) (12 + 2 * u16_at t (at + 18))) g s
      (u32-dropped t (at + 8) 0 ∙ sym (u32-copied t (at + 8) (12 + 2 * u16_at t (at + 18)) 0 (omega arith)))
      (u32-dropped t (at + 8) 4 ∙ sym (u32-copied t (at + 8) (12 + 2 * u16_at t (at + 18)) 4 (omega arith)))

  two-type : type_fires 2 (drop (at + 8) t) g s ≡ type_fires 2 (content_at t at 2) g s
  unfolding content_at
  two-type =
      same-limits 2 (drop (at + 8) t) (bytes_at t (at + 8) 8) g s
      (u32-dropped t (at + 8) 0 ∙ sym (u32-copied t (at + 8) 8 0 (omega arith)))
      (u32-dropped t (at + 8) 4 ∙ sym (u32-copied t (at + 8) 8 4 (omega arith)))

  -- the other types have no limits
  other-type : (ty : ℕ) → (ty ≡ 0 → ⊥) → (ty ≡ 2 → ⊥) → type_fires ty (drop (at + 8) t) g s ≡ type_fires ty (content_at t at ty) g s
  unfolding type_fires
  other-type ty a b = simp (ne_eqb ty 0 a, ne_eqb ty 2 b)

  ty-where : (ty : ℕ) → type_fires ty (drop (at + 8) t) g s ≡ type_fires ty (content_at t at ty) g s
  ty-where ty = go (ℕ_discrete ty 0) (ℕ_discrete ty 2)
    where
      go : Dec (ty ≡ 0) → Dec (ty ≡ 2) → type_fires ty (drop (at + 8) t) g s ≡ type_fires ty (content_at t at ty) g s
      go (yes e) q = subst (λ (k : ℕ). type_fires k (drop (at + 8) t) g s ≡ type_fires k (content_at t at k) g s) (sym e) zero-type
      go (no a) (yes e) = subst (λ (k : ℕ). type_fires k (drop (at + 8) t) g s ≡ type_fires k (content_at t at k) g s) (sym e) two-type
      go (no a) (no b) = other-type ty a b

module _ (t : List ℕ) (at class : ℕ) (g : ℤ) (s : ℕ) where
  pub other-class : (u16_at t at ≡ class → ⊥) → No ≡ fires_of (action_at t at) class g s
  unfolding fires_of action_at
  other-class e = sym (ap (λ (b : Bool). cond b (type_fires (u16_at t (at + 2)) (content_at t at (u16_at t (at + 2))) g s) No) (ne_eqb (u16_at t at) class e))

  pub own-class : u16_at t at ≡ class → type_fires (u16_at t (at + 2)) (drop (at + 8) t) g s ≡ fires_of (action_at t at) class g s
  unfolding fires_of action_at
  own-class e =
      ty-where t at g s (u16_at t (at + 2))
      ∙ sym (ap (λ (b : Bool). cond b (type_fires (u16_at t (at + 2)) (content_at t at (u16_at t (at + 2))) g s) No) (eq-eqb (u16_at t at) class e))
