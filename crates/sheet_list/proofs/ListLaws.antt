-- Items one after the other, and a list of actions after its count.
use Prim.Native.Nat.{ℕ, suc, ◌+◌, ◌-◌, ◌≤◌}
use mathlib.Core.Path.{◌≡◌, refl, sym, ap, ap₂, ◌∙◌, subst}
use mathlib.Core.List.{List, [], ◌∷◌, ◌++◌, append_assoc}
use native.Mathlib.Omega.{arith}
use Rattle.std.specs.Prelude.{Option, Some, None}
use lib.ListN.{length, drop, length-drop}
use Rattle.fields.specs.Field.{be32, u32_at, Bytes}
use Rattle.fields.proofs.Laws.{u32_at-fits}
use Rattle.encoding.specs.Codes.{many, PrefixFree, Found, Absent}
use Rattle.encoding.proofs.CodeLaws.{be32-free, be32-at}
use Rattle.sheet_sections.specs.Section.{Parses}
use Rattle.meaning.specs.Meaning.{Action}
use Rattle.meaning.specs.Limits.{OkAction}
use Rattle.meaning.specs.Sheet.{action_code}
use Rattle.meaning.proofs.SheetLaws.{action-free, wide-action}
use Rattle.sheet_list.specs.Action.{Exactly, list_code, SomeList}

-- ---- so many items one after the other, for any ty of item

module _ {A : Type 0} (code : A → List ℕ) (ok : A → Type 0) (s : List ℕ) where
  pub items-first : (p k : ℕ) (r : Option ℕ) → Parses (many code) (Exactly (k - 0) ok) s p r → Parses (many code) (Exactly k ok) s p r
  items-first p k r h = let e : k - 0 ≡ k = omega arith in subst (λ (n : ℕ). Parses (many code) (Exactly n ok) s p r) e h

  pub items-end : (p k : ℕ) → k ≡ 0 → p ≤ length s → Found (many code) (Exactly k ok) s p p
  items-end p k e h = ([], (sym e, tt), h, refl)

  -- the first is not there
  pub items-stop : (p k k' : ℕ) → k ≡ suc k' → Absent code ok s p → Absent (many code) (Exactly k ok) s p
  items-stop p k k' ek h [] rest o e = omega (arith, o.0)
  items-stop p k k' ek h (x ∷ xs) rest o e = h x (many code xs ++ rest) o.1.0 (e ∙ append_assoc (code x) (many code xs) rest)

  -- the first is there: it is for the others to say
  module _ (free : PrefixFree code ok) (p q k k' : ℕ) (ek : k ≡ suc k') (f : Found code ok s p q) where
    others-absent : Absent (many code) (Exactly k' ok) s q → Absent (many code) (Exactly k ok) s p
    others-absent h [] rest o e = omega (arith, o.0)
    others-absent h (x ∷ xs) rest o e =
        let g = free f.0 x (drop q s) (many code xs ++ rest) f.1 o.1.0 (sym f.3 ∙ e ∙ append_assoc (code x) (many code xs) rest) in
        h xs rest (omega (arith, o.0), o.1.1) g.1

    pub items-next : (r : Option ℕ) → Parses (many code) (Exactly k' ok) s q r → Parses (many code) (Exactly k ok) s p r
    items-next (Some t) g = (
      f.0 ∷ g.0,
      (omega (arith, g.1.0), (f.1, g.1.1)),
      g.2,
      f.3 ∙ ap (λ (r : List ℕ). code f.0 ++ r) g.3 ∙ sym (append_assoc (code f.0) (many code g.0) (drop t s)),
    )
    items-next None h = others-absent h

-- ---- actions

pub ok-free : (n : ℕ) → PrefixFree action_code (OkAction n)
ok-free n a b s t ha hb e = action-free a b s t (wide-action n a ha) (wide-action n b hb) e

module _ (n : ℕ) (s : List ℕ) (at : ℕ) where
  pub list-short : (at + 4 ≤ length s → ⊥) → Absent list_code (SomeList n) s at
  list-short h l rest o e = h (omega (arith, ap length e, length-drop at s))

  module _ (bytes : Bytes s) (room : at + 4 ≤ length s) where
    opened : (l : List Action) (rest : List ℕ) → SomeList n l → drop at s ≡ list_code l ++ rest
        → (u32_at s at ≡ length l) × (drop (at + 4) s ≡ many action_code l ++ rest)
    opened l rest o e =
        be32-free (u32_at s at) (length l) (drop (at + 4) s) (many action_code l ++ rest) (u32_at-fits s at bytes) (omega (arith, o.1.0))
        (sym (be32-at s bytes at room) ∙ e)

    module _ (count : ℕ) (ec : count ≡ u32_at s at) where
      pub list_count : (1 ≤ count → count ≤ 64 → ⊥) → Absent list_code (SomeList n) s at
      list_count h l rest o e = let g = opened l rest o e in h (omega (arith, g.0, o.0, ec)) (omega (arith, g.0, o.1.0, ec))

      pub list-parse : (some : 1 ≤ count) (few : count ≤ 64) → (r : Option ℕ) → Parses (many action_code) (Exactly count (OkAction n)) s (at + 4) r → Parses list_code (SomeList n) s at r
      list-parse some few (Some q) f =
          let l : u32_at s at ≡ length f.0 = sym ec ∙ sym f.1.0 in (
            f.0,
            (omega (arith, f.1.0), (omega (arith, f.1.0), f.1.1)),
            f.2,
            be32-at s bytes at room ∙ ap₂ (λ (k : ℕ) (r : List ℕ). be32 k ++ r) l f.3,
          )
      list-parse some few None h = λ l rest o e. h l rest (omega (arith, (opened l rest o e).0, ec), o.1.1) (opened l rest o e).1
