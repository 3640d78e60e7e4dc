-- Items passed one by one, and sections passed by their counts.
use Prim.Native.Nat.{ℕ, zero, suc, ◌+◌, ◌*◌, ◌≤◌, ◌<◌, ◌^◌}
use mathlib.Core.Path.{◌≡◌, refl, sym, ap, ◌∙◌, subst}
use mathlib.Core.List.{List, [], ◌∷◌, ◌++◌, append_assoc}
use mathlib.Core.Logic.{⊎_elim}
use native.Mathlib.Omega.{arith}
use native.Mathlib.Nat.{mul_comm}
use lib.ListN.{length, drop, length-append, length-drop}
use lib.Seq.{drop-drop, drop_at, drop-length}
use Rattle.fields.specs.Field.{be16, be32, u32_at, Bytes}
use Rattle.fields.proofs.Laws.{u32_at-fits}
use Rattle.encoding.specs.Codes.{All, many, counted}
use Rattle.encoding.specs.Sections.{byte}
use Rattle.encoding.proofs.CodeLaws.{be32-free, be32-at, many-length}
use Rattle.sheet_sections.specs.Section.{HasItems}
use Rattle.meaning.specs.Sheet.{action_code}
use Rattle.meaning.specs.Wide.{WideAction}
use Rattle.sheet_seek.specs.Passes.{Passes, ItemsEnd, AtLeast, Reaches, Walks}

-- what is left once k items are passed, the items standing at a place without their count
abbrev pub Left : {A : Type 0} → (A → List ℕ) → (A → Type 0) → List ℕ → ℕ → ℕ → ℕ → Type 0
Left code ok s k = Passes (many code) (λ xs. many code (drop k xs)) (AtLeast ok k) s

module _ {A : Type 0} (code : A → List ℕ) (ok : A → Type 0) (s : List ℕ) where
  left-none : (k place : ℕ) → k ≡ 0 → Left code ok s k place place
  left-none k place e xs rest o h = h ∙ ap (λ (j : ℕ). many code (drop j xs) ++ rest) (sym e)

  left-next : (k k' place place' q : ℕ) → k ≡ suc k' → Passes code (λ x. []) ok s place place' → Left code ok s k' place' q → Left code ok s k place q
  left-next k k' place place' q e p h [] rest o g = absurd (omega (arith, o.0))
  left-next k k' place place' q e p h (x ∷ xs) rest o g =
      h xs rest (omega (arith, o.0), omega (arith, o.1), o.2.1) (p x (many code xs ++ rest) o.2.0 (g ∙ append_assoc (code x) (many code xs) rest))
      ∙ ap (λ (j : ℕ). many code (drop j (x ∷ xs)) ++ rest) (sym e)

  -- no item stands past the end
  left-past : ((x : A) → 1 ≤ length (code x)) → (k place q : ℕ) → 0 < k → length s ≤ place → Left code ok s k place q
  left-past some k place q h l [] rest o g = absurd (omega (arith, o.0))
  left-past some k place q h l (x ∷ xs) rest o g =
      absurd (omega (arith, some x, ap length g, length-drop place s, length-append (code x ++ many code xs) rest, length-append (code x) (many code xs)))

  -- a count, and the items after it
  module _ (bytes : Bytes s) (at : ℕ) where
    pub opened : (xs : List A) (rest : List ℕ) → length xs < 2 ^ 32 → drop at s ≡ counted code xs ++ rest
        → (at + 4 ≤ length s) × (u32_at s at ≡ length xs) × (drop (at + 4) s ≡ many code xs ++ rest)
    opened xs rest l e =
        let room : at + 4 ≤ length s = omega (arith, ap length e, length-drop at s, length-append (be32 (length xs)) (many code xs ++ rest)) in
        let g = be32-free (u32_at s at) (length xs) (drop (at + 4) s) (many code xs ++ rest) (u32_at-fits s at bytes) l (sym (be32-at s bytes at room) ∙ e) in
        (room, g.0, g.1)

    -- each step passes one item
    pub walked : (step : ℕ → ℕ → Type 0) → ((p q : ℕ) → step p q → Passes code (λ x. []) ok s p q) → ((x : A) → 1 ≤ length (code x))
        → (k q : ℕ) → (at + 4 ≤ length s → Walks step (length s) k (at + 4) q) → Reaches code ok k s at q
    walked step each some k q h xs rest o e =
        let t = opened xs rest o.1 e in
        go k (at + 4) (h t.0) xs rest o t.2
      where
        go : (k p : ℕ) → Walks step (length s) k p q → Left code ok s k p q
        go zero p h = subst (λ (r : ℕ). Left code ok s 0 p r) (sym h) (left-none 0 p refl)
        go (suc k) p h = ⊎_elim (λ z. left-past some (suc k) p q (omega arith) z.0) (λ z. left-next (suc k) k p (z.0) q refl (each p (z.0) z.1) (go k (z.0) z.2)) h

    -- the count's own number is where the section ends
    pub reach-end : (k q : ℕ) → k ≡ u32_at s at → Reaches code ok k s at q
        → Passes (counted code) (λ xs. []) (λ xs. (length xs < 2 ^ 32) × All ok xs) s at q
    reach-end k q ek h xs rest o e =
        let c : k ≡ length xs = ek ∙ (opened xs rest o.0 e).1 in
        h xs rest (omega (arith, c), o.0, o.1) e ∙ ap (λ (l : List A). many code l ++ rest) (ap (λ (j : ℕ). drop j xs) c ∙ drop-length xs)

    -- items of one width
    module _ (w : ℕ) (each : (a : A) → length (code a) ≡ w) where
      pub items-there : (xs : List A) (rest : List ℕ) → length xs < 2 ^ 32 → drop at s ≡ counted code xs ++ rest → HasItems w s at
      items-there xs rest l e =
          let o = opened xs rest l e in
          let m : w * u32_at s at ≡ length xs * w = ap (λ (k : ℕ). w * k) o.1 ∙ mul_comm w (length xs) in
          omega (arith, m, o.0, ap length o.2, length-drop (at + 4) s, length-append (many code xs) rest, many-length code w each xs)

      pub items-end : (q : ℕ) → ItemsEnd w s at q → Passes (counted code) (λ xs. []) (λ xs. length xs < 2 ^ 32) s at q
      items-end q h xs rest l e =
          let o = opened xs rest l e in
          let m : w * u32_at s at ≡ length xs * w = ap (λ (k : ℕ). w * k) o.1 ∙ mul_comm w (length xs) in
          ap (λ (k : ℕ). drop k s) (h (items-there xs rest l e)) ∙ sym (drop-drop (w * u32_at s at) (at + 4) s) ∙ ap (drop (w * u32_at s at)) o.2
          ∙ drop_at (many code xs) rest (w * u32_at s at) (many-length code w each xs ∙ sym m)

-- an action: four bytes, then a section of bytes
module _ (s : List ℕ) (bytes : Bytes s) (at : ℕ) where
  pub action-none : (q : ℕ) → (at + 4 ≤ length s → ⊥) → Passes action_code (λ x. []) WideAction s at q
  action-none q h a rest o e =
      absurd (h (omega (arith, ap length e, length-drop at s, length-append (be16 a.class ++ be16 a.ty) (counted byte a.content ++ rest))))

  pub action-end : (q : ℕ) → ItemsEnd 1 s (at + 4) q → Passes action_code (λ x. []) WideAction s at q
  action-end q h a rest o e =
      items-end byte (λ x. Unit {0}) s bytes (at + 4) 1 (λ x. refl) q h a.content rest o.2
      (sym (drop-drop 4 at s) ∙ ap (drop 4) e)
