-- What a reader of sections needs: items of one size that stand one after the other, a counted section of them that is found or absent, and
-- one code after another. Whatever is refused is absent because codes are prefix free.
use Prim.Native.Nat.{ℕ, zero, suc, ◌+◌, ◌*◌, ◌≤◌, ◌<◌, ◌^◌}
use mathlib.Core.Path.{◌≡◌, refl, sym, ap, ap₂, ◌∙◌, subst}
use mathlib.Core.List.{List, [], ◌∷◌, ◌++◌, append_assoc}
use native.Mathlib.Omega.{arith}
use native.Mathlib.Nat.{mul-suc, mul-zero, mul_comm}
use lib.ListN.{length, get_or, take, drop, length-append, length-drop}
use Rattle.fields.specs.Field.{be32, u32_at, Bytes}
use Rattle.fields.proofs.Laws.{u32_at-fits}
use Rattle.encoding.specs.Codes.{All, many, counted, PrefixFree, Found, Absent, items_at}
use Rattle.encoding.proofs.CodeLaws.{be32-free, be32-at, many-free, many-length}

-- ---- items at a place

module _ {A : Type 0} (item : List ℕ → ℕ → A) (w : ℕ) (s : List ℕ) where
  pub items-length : (k p : ℕ) → length (items_at item w s p k) ≡ k
  items-length zero p = refl
  items-length (suc k) p = ap suc (items-length k (p + w))

  pub items-take : (k m p : ℕ) → k ≤ m → items_at item w s p k ≡ take k (items_at item w s p m)
  items-take zero m p h = refl
  items-take (suc k) zero p h = absurd (omega arith)
  items-take (suc k) (suc m) p h = ap (λ (l : List A). item s p ∷ l) (items-take k m (p + w) (omega arith))

  pub items-get_or : (z : A) (k m p : ℕ) → k < m → get_or (items_at item w s p m) k z ≡ item s (p + w * k)
  items-get_or z k zero p h = absurd (omega arith)
  items-get_or z zero (suc m) p h = let e : p ≡ p + w * 0 = omega (arith, mul-zero w) in ap (item s) e
  items-get_or z (suc k) (suc m) p h =
      let e : p + w + w * k ≡ p + w * suc k = omega (arith, mul-suc w k) in
      items-get_or z k m (p + w) (omega arith) ∙ ap (item s) e

  pub items-snoc : (k p q : ℕ) → q ≡ p + w * k → items_at item w s p (suc k) ≡ items_at item w s p k ++ (item s q ∷ [])
  items-snoc zero p q h = let e : p ≡ q = omega (arith, h, mul-zero w) in ap (λ (x : ℕ). item s x ∷ []) e
  items-snoc (suc k) p q h = ap (λ (l : List A). item s p ∷ l) (items-snoc k (p + w) q (omega (arith, h, mul-suc w k)))

-- ---- a counted section of items of w bytes

module _ {A : Type 0} (code : A → List ℕ) (wide : A → Type 0) (free : PrefixFree code wide) (item : List ℕ → ℕ → A) (w : ℕ)
    (each : (a : A) → length (code a) ≡ w)
    (s : List ℕ) (bytes : Bytes s) (item-wide : (p : ℕ) → wide (item s p))
    (item-at : (p : ℕ) → p + w ≤ length s → drop p s ≡ code (item s p) ++ drop (p + w) s) where
  pub items-wide : (k p : ℕ) → All wide (items_at item w s p k)
  items-wide zero p = tt
  items-wide (suc k) p = (item-wide p, items-wide k (p + w))

  pub items_at_lem : (k p : ℕ) → p + w * k ≤ length s → drop p s ≡ many code (items_at item w s p k) ++ drop (p + w * k) s
  items_at_lem zero p h = let e : p ≡ p + w * 0 = omega (arith, mul-zero w) in ap (λ (q : ℕ). drop q s) e
  items_at_lem (suc k) p h =
      let e : p + w + w * k ≡ p + w * suc k = omega (arith, mul-suc w k) in
      item-at p (omega (arith, e, h))
      ∙ ap (λ (r : List ℕ). code (item s p) ++ r) (items_at_lem k (p + w) (omega (arith, e, h)) ∙ ap (λ (q : ℕ). many code (items_at item w s (p + w) k) ++ drop q s) e)
      ∙ sym (append_assoc (code (item s p)) (many code (items_at item w s (p + w) k)) (drop (p + w * suc k) s))

  module _ (G : List A → Type 0) (few : (xs : List A) → G xs → (length xs < 2 ^ 32) × All wide xs) (at : ℕ) where
    pub refuse-short : length s < at + 4 → Absent (counted code) G s at
    refuse-short h xs rest g e = omega (arith, ap length e, length-drop at s)

    module _ (room : at + 4 ≤ length s) where
      opened : (rest : List ℕ) (ys : List A) → G ys → drop at s ≡ counted code ys ++ rest
          → (u32_at s at ≡ length ys) × (drop (at + 4) s ≡ many code ys ++ rest)
      opened rest ys g e =
          be32-free (u32_at s at) (length ys) (drop (at + 4) s) (many code ys ++ rest) (u32_at-fits s at bytes) (few ys g).0 (sym (be32-at s bytes at room) ∙ e)

      pub refuse-long : length s < at + 4 + w * u32_at s at → Absent (counted code) G s at
      refuse-long h xs rest g e =
          let o = opened rest xs g e in
          let m : w * u32_at s at ≡ length xs * w = ap (λ (k : ℕ). w * k) o.0 ∙ mul_comm w (length xs) in
          omega (arith, m, ap length o.1, length-drop (at + 4) s, length-append (many code xs) rest, many-length code w each xs)

      -- the count is known, whatever else is judged of the items
      pub refuse-count : ((ys : List A) → G ys → u32_at s at ≡ length ys → ⊥) → Absent (counted code) G s at
      refuse-count h xs rest g e = h xs g (opened rest xs g e).0

      module _ (fits : at + 4 + w * u32_at s at ≤ length s) where
        pub refuse-items : (G (items_at item w s (at + 4) (u32_at s at)) → ⊥) → Absent (counted code) G s at
        refuse-items not-Good xs rest g e =
            let is = items_at item w s (at + 4) (u32_at s at) in
            let o = opened rest xs g e in
            let m = many-free code wide free is xs (drop (at + 4 + w * u32_at s at) s) rest
            (items-length item w s (u32_at s at) (at + 4) ∙ o.0) (items-wide (u32_at s at) (at + 4)) (few xs g).1
            (sym (items_at_lem (u32_at s at) (at + 4) fits) ∙ o.1) in
            not-Good (subst G (sym m.0) g)

        pub accept-items : G (items_at item w s (at + 4) (u32_at s at)) → Found (counted code) G s at (at + 4 + w * u32_at s at)
        accept-items g =
            let is = items_at item w s (at + 4) (u32_at s at) in
            let l : length is ≡ u32_at s at = items-length item w s (u32_at s at) (at + 4) in (
              is,
              g,
              fits,
              be32-at s bytes at room ∙ ap₂ (λ (k : ℕ) (r : List ℕ). be32 k ++ r) (sym l) (items_at_lem (u32_at s at) (at + 4) fits),
            )

-- ---- one code after another, the second's valid values depending on the first

module _ {A B : Type 0} (codeA : A → List ℕ) (okA : A → Type 0) (free : PrefixFree codeA okA) (codeB : A → B → List ℕ) (okB : A → B → Type 0)
    (s : List ℕ) (at : ℕ) where
  abbrev pub Both : A × B → List ℕ
  Both p = codeA p.0 ++ codeB p.0 p.1

  abbrev pub OkBoth : A × B → Type 0
  OkBoth p = okA p.0 × okB p.0 p.1

  pub first_absent : Absent codeA okA s at → Absent Both OkBoth s at
  first_absent h p rest ok e = h p.0 (codeB p.0 p.1 ++ rest) ok.0 (e ∙ append_assoc (codeA p.0) (codeB p.0 p.1) rest)

  module _ (q : ℕ) (f : Found codeA okA s at q) where
    pub second-absent : Absent (codeB f.0) (okB f.0) s q → Absent Both OkBoth s at
    second-absent h p rest ok e =
        let g = free f.0 p.0 (drop q s) (codeB p.0 p.1 ++ rest) f.1 ok.0
        (sym f.3 ∙ e ∙ append_assoc (codeA p.0) (codeB p.0 p.1) rest) in
        h p.1 rest (subst (λ (a : A). okB a p.1) (sym g.0) ok.1) (g.1 ∙ ap (λ (a : A). codeB a p.1 ++ rest) (sym g.0))

    pub both_found : (t : ℕ) → Found (codeB f.0) (okB f.0) s q t → Found Both OkBoth s at t
    both_found t g = (
      (f.0, g.0),
      (f.1, g.1),
      g.2,
      f.3 ∙ ap (λ (r : List ℕ). codeA f.0 ++ r) g.3 ∙ sym (append_assoc (codeA f.0) (codeB f.0 g.0) (drop t s)),
    )
