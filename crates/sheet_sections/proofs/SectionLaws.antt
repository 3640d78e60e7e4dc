-- A counted section of items of one size: what its reader concludes once it knows whether the items are there and whether they are valid.
use Prim.Native.Nat.{ℕ, suc, ◌+◌, ◌*◌, ◌≤◌, ◌<◌, ◌^◌}
use mathlib.Core.Bool.{Bool}
use mathlib.Core.Path.{◌≡◌, sym, ap, ap₂, ◌∙◌, subst}
use mathlib.Core.Logic.{⊎_elim}
use mathlib.Core.List.{List, ◌∷◌, ◌++◌}
use lib.Dec.{eqb}
use native.Mathlib.Decide.{dec_le}
use native.Mathlib.Omega.{arith}
use lib.ListN.{length, drop, length-drop}
use Rattle.std.proofs.lemmas.Bool.Decides.{eqb_tells}
use Rattle.fields.specs.Field.{be16, be32, u16_at, u32_at, Bytes}
use Rattle.fields.proofs.Laws.{u32_at-fits}
use Rattle.encoding.specs.Codes.{All, many, counted, PrefixFree, Found, Absent, items_at}
use Rattle.encoding.proofs.CodeLaws.{be32-free, be16-at, be32-at}
use Rattle.encoding.proofs.ReadLaws.{refuse-short, refuse-long, refuse-items, accept-items}
use Rattle.encoding.specs.Tests.{Says}
use Rattle.sheet_sections.specs.Section.{HasItems}

-- the test of two numbers, where they are equal exactly when P holds
pub says-equal : (x y : ℕ) (P : Type 0) → (x ≡ y → P) → (P → x ≡ y) → Says (eqb x y) P
says-equal x y P f g =
    ⊎_elim (λ h. subst (λ (b : Bool). Says b P) (sym h.0) (f h.1)) (λ h. subst (λ (b : Bool). Says b P) (sym h.0) (λ p. h.1 (g p))) (eqb_tells x y)

-- items one after the other: from the same place on, and the first of them
module _ {A : Type 0} (item : List ℕ → ℕ → A) (w : ℕ) (s : List ℕ) where
  pub items-same : (p p' k k' : ℕ) → p' ≡ p → k' ≡ k → items_at item w s p' k' ≡ items_at item w s p k
  items-same p p' k k' e f = ap₂ (items_at item w s) e f

  pub items-cut : (p p' k k' : ℕ) → p' ≡ p + w → k ≡ suc k' → items_at item w s p k ≡ item s p ∷ items_at item w s p' k'
  items-cut p p' k k' e f = ap (items_at item w s p) f ∙ ap (λ (q : ℕ). item s p ∷ items_at item w s q k') (sym e)

-- a field in bytes, and what follows it
module _ (s : List ℕ) (bytes : Bytes s) where
  pub field16 : (p q : ℕ) → q ≡ p + 2 → q ≤ length s → drop p s ≡ be16 (u16_at s p) ++ drop q s
  field16 p q e h = be16-at s bytes p (omega arith) ∙ ap (λ (x : ℕ). be16 (u16_at s p) ++ drop x s) (sym e)

  pub field32 : (p q : ℕ) → q ≡ p + 4 → q ≤ length s → drop p s ≡ be32 (u32_at s p) ++ drop q s
  field32 p q e h = be32-at s bytes p (omega arith) ∙ ap (λ (x : ℕ). be32 (u32_at s p) ++ drop x s) (sym e)

  -- of a counted section that was found: its count stands there, and is how many items it has
  module _ {A : Type 0} (code : A → List ℕ) (ok : List A → Type 0) (at q : ℕ) (f : Found (counted code) ok s at q) where
    pub count_room : at + 4 ≤ length s
    count_room = omega (arith, ap length f.3, length-drop at s)

    pub count-known : length f.0 < 2 ^ 32 → u32_at s at ≡ length f.0
    count-known h =
        (be32-free (u32_at s at) (length f.0) (drop (at + 4) s) (many code f.0 ++ drop q s) (u32_at-fits s at bytes) h
        (sym (be32-at s bytes at count_room) ∙ f.3)).0

-- whether the items are there, and whether they are valid
module _ {A : Type 0} (code : A → List ℕ) (wide : A → Type 0) (free : PrefixFree code wide) (item : List ℕ → ℕ → A) (w : ℕ)
    (each : (a : A) → length (code a) ≡ w)
    (s : List ℕ) (bytes : Bytes s) (item-wide : (p : ℕ) → wide (item s p))
    (item-at : (p : ℕ) → p + w ≤ length s → drop p s ≡ code (item s p) ++ drop (p + w) s)
    (G : List A → Type 0) (few : (xs : List A) → G xs → (length xs < 2 ^ 32) × All wide xs) (at : ℕ) where
  pub items-outside : (HasItems w s at → ⊥) → Absent (counted code) G s at
  items-outside h = go (dec_le (at + 4) (length s))
    where
      go : Dec (at + 4 ≤ length s) → Absent (counted code) G s at
      go (yes l) =
          refuse-long code wide free item w each s bytes item-wide item-at G few at l (omega (arith, h))
      go (no l) = refuse-short code wide free item w each s bytes item-wide item-at G few at (omega (arith, l))

  module _ (k : ℕ) (there : HasItems w s at × (k ≡ u32_at s at)) where
    pub items-good : G (items_at item w s (at + 4) k) → Found (counted code) G s at (at + 4 + w * k)
    items-good =
        subst (λ (n : ℕ). G (items_at item w s (at + 4) n) → Found (counted code) G s at (at + 4 + w * n)) (sym there.1)
        (accept-items code wide free item w each s bytes item-wide item-at G few at (omega arith) there.0)

    pub items-bad : (G (items_at item w s (at + 4) k) → ⊥) → Absent (counted code) G s at
    items-bad =
        subst (λ (n : ℕ). (G (items_at item w s (at + 4) n) → ⊥) → Absent (counted code) G s at) (sym there.1)
        (refuse-items code wide free item w each s bytes item-wide item-at G few at (omega arith) there.0)
