-- Bytes of the table copied into an action that is handed out.
use Prim.Native.Nat.{ℕ, zero, suc, ◌+◌, ◌-◌, ◌*◌, ◌≤◌, ◌<◌, min}
use mathlib.Core.Path.{◌≡◌, refl, ap, ap₂, sym, ◌∙◌, subst}
use mathlib.Core.Bool.{Bool, true, false, cond}
use mathlib.Core.List.{List, ◌∷◌, ◌++◌}
use native.Mathlib.Omega.{arith}
use native.Mathlib.Decide.{ℕ_discrete}
use native.Mathlib.Numerals.{add-one}
use lib.ListN.{length, get_or, take, set, replicate}
use Rattle.std.proofs.lemmas.List.{length-take, take_all}
use lib.Seq.{set_at}
use lib.Dec.{eqb}
use borrow.Author.Tests.{ne_eqb}
use Rattle.fields.specs.Field.{u16_at}
use Rattle.encoding.specs.Upto.{from}
use Rattle.encoding.proofs.UptoLaws.{length_from}
use Rattle.actions.specs.Faults.{data_size}
use Rattle.actions.specs.Actions.{bytes_at, content_at, padded}

module _ (t : List ℕ) where
  pub bytes-length : (at n : ℕ) → length (bytes_at t at n) ≡ n
  unfolding bytes_at
  bytes-length at n = length_from (λ i. get_or t i 0) n at

  bytes-last : (i at : ℕ) (zs : List ℕ) → bytes_at t at (suc i) ++ zs ≡ bytes_at t at i ++ get_or t (at + i) 0 ∷ zs
  unfolding bytes_at from
  bytes-last zero at zs = let e : at ≡ at + 0 = omega arith in ap (λ (k : ℕ). get_or t k 0 ∷ zs) e
  bytes-last (suc i) at zs =
      let e : suc at + i ≡ at + suc i = omega arith in
      ap (λ (l : List ℕ). get_or t at 0 ∷ l) (bytes-last i (suc at) zs ∙ ap (λ (k : ℕ). bytes_at t (suc at) i ++ get_or t k 0 ∷ zs) e)

  -- one byte more is copied: `x` is the byte as it was read
  pub fill-again : (i first x : ℕ) (bs : List ℕ) → bs ≡ bytes_at t first i ++ replicate (76 - i) 0 → i < 76 → x ≡ get_or t (first + i) 0
      → set bs i x ≡ bytes_at t first (i + 1) ++ replicate (76 - (i + 1)) 0
  fill-again i first x bs e h f =
      let zs = replicate {A = ℕ} (76 - (i + 1)) 0 in
      let one : 76 - i ≡ suc (76 - (i + 1)) = omega arith in
      ap (λ (l : List ℕ). set l i x) (e ∙ ap (λ (k : ℕ). bytes_at t first i ++ replicate k 0) one)
      ∙ set_at (bytes_at t first i) 0 zs x i (bytes-length first i)
      ∙ ap (λ (b : ℕ). bytes_at t first i ++ b ∷ zs) f
      ∙ sym (bytes-last i first zs)
      ∙ ap (λ (k : ℕ). bytes_at t first k ++ zs) (sym (add-one i))

  pub fill_end : (first i n : ℕ) → i ≡ n → bytes_at t first i ++ replicate (76 - i) 0 ≡ padded (bytes_at t first n)
  fill_end first i n e =
      ap₂ (λ (k j : ℕ). bytes_at t first k ++ replicate (76 - j) 0) e (e ∙ sym (bytes-length first n))

  -- ---- how long the data is, with a size `s` or a count `n` as they were read

  short : (p n : ℕ) → n ≤ 76 → n ≡ length (take 76 (bytes_at t p n))
  short p n h = sym (ap length (take_all 76 (bytes_at t p n) (omega (arith, bytes-length p n))) ∙ bytes-length p n)

  module _ (at ty : ℕ) where
    pub size-listed : (n : ℕ) → ty ≡ 0 → n ≡ u16_at t (at + 18) → min (12 + 2 * n) 76 ≡ length (take 76 (content_at t at ty))
    unfolding content_at
    size-listed n z e = simp (z, ← e, length-take, bytes-length) (omega arith)

    -- ---- the data, `bs` being its bytes as they stand in the table, `s` of them

    take-bytes : (j p n : ℕ) → take j (bytes_at t p n) ≡ bytes_at t p (length (take j (bytes_at t p n)))
    unfolding bytes_at from
    take-bytes zero p n = refl
    take-bytes (suc j) p zero = refl
    take-bytes (suc j) p (suc n) = ap (λ (l : List ℕ). get_or t p 0 ∷ l) (take-bytes j (suc p) n)

    plain : (ty ≡ 5 → ⊥) → content_at t at ty ≡ bytes_at t (at + 8) (cond (eqb ty 0) (12 + 2 * u16_at t (at + 18)) (data_size ty))
    unfolding content_at
    plain z = simp (ne_eqb ty 5 z) (go (eqb ty 0))
      where
        go : (b : Bool) → cond b (bytes_at t (at + 8) (12 + 2 * u16_at t (at + 18))) (bytes_at t (at + 8) (data_size ty))
            ≡ bytes_at t (at + 8) (cond b (12 + 2 * u16_at t (at + 18)) (data_size ty))
        go true = refl
        go false = refl

    pub size-other : (s : ℕ) → (ty ≡ 0 → ⊥) → s ≡ data_size ty → s ≤ 16 → s ≡ length (take 76 (content_at t at ty))
    unfolding content_at bytes_at from
    size-other s z e h = go (ℕ_discrete ty 5)
      where
        go : Dec (ty ≡ 5) → s ≡ length (take 76 (content_at t at ty))
        go (yes p) = e ∙ ap data_size p ∙ ap (λ (k : ℕ). length (take 76 (content_at t at k))) (sym p)
        go (no p) =
            subst (λ (k : ℕ). s ≡ length (take 76 (bytes_at t (at + 8) k))) e (short (at + 8) s (omega arith))
            ∙ ap (λ (b : Bool). length (take 76 (bytes_at t (at + 8) (cond b (12 + 2 * u16_at t (at + 18)) (data_size ty))))) (sym (ne_eqb ty 0 z))
            ∙ ap (λ (l : List ℕ). length (take 76 l)) (sym (plain p))

    pub content-plain : (s : ℕ) (bs : List ℕ) → (ty ≡ 5 → ⊥) → s ≡ length (take 76 (content_at t at ty)) → bs ≡ padded (bytes_at t (at + 8) s)
        → bs ≡ padded (take 76 (content_at t at ty))
    content-plain s bs z e f =
        let n = cond (eqb ty 0) (12 + 2 * u16_at t (at + 18)) (data_size ty) in
        let p : take 76 (content_at t at ty) ≡ take 76 (bytes_at t (at + 8) n) = ap (take 76) (plain z) in
        f ∙ ap (λ (k : ℕ). padded (bytes_at t (at + 8) k)) (e ∙ ap length p) ∙ ap padded (sym (take-bytes 76 (at + 8) n) ∙ sym p)

    pub content-five : (s : ℕ) (bs : List ℕ) → ty ≡ 5 → s ≡ length (take 76 (content_at t at ty)) → bs ≡ padded (bytes_at t (at + 8) s)
        → set (set bs 0 0) 1 0 ≡ padded (take 76 (content_at t at ty))
    unfolding content_at bytes_at from
    content-five s bs z e f =
        let four : s ≡ 4 = e ∙ ap (λ (k : ℕ). length (take 76 (content_at t at k))) z in
        let q : suc (suc (at + 8)) ≡ at + 10 = omega arith in
        ap (λ (l : List ℕ). set (set l 0 0) 1 0) (f ∙ ap (λ (k : ℕ). padded (bytes_at t (at + 8) k)) four)
        ∙ ap (λ (p : ℕ). 0 ∷ 0 ∷ get_or t p 0 ∷ get_or t (suc p) 0 ∷ replicate 72 0) q
        ∙ ap (λ (k : ℕ). padded (take 76 (content_at t at k))) (sym z)
