-- Laws of the checksum and of the directory's records.
use Rattle.std.proofs.Common.{◌≡◌, ℕ, suc, ◌+◌, ◌-◌, ◌*◌, ◌<◌, ◌≤◌, List, refl, arith, eq-eqb, ne_eqb}
use Rattle.fields.specs.Field.{u32_at}
use Rattle.std.specs.Prelude.{None, Some}
use Rattle.font_directory.specs.Sum.{word_sum}
use Rattle.font_directory.specs.Directory.{table_record_at, first_from}

module _ (bytes : List ℕ) where
  -- k of n words are summed
  pub word_next : (n k : ℕ) → k < n → word_sum bytes (n - k) (4 * k) ≡ u32_at bytes (4 * k) + word_sum bytes (n - (k + 1)) (4 * (k + 1))
  unfolding word_sum
  word_next n k h =
      let here : n - k ≡ suc (n - (k + 1)) = omega arith in
      let next : 4 * (k + 1) ≡ 4 * k + 4 = omega arith in
      rw (here, next) refl

  pub word_none : (n k at : ℕ) → n ≤ k → word_sum bytes (n - k) at ≡ 0
  unfolding word_sum
  word_none n k at h = let none : n - k ≡ 0 = omega arith in rw none refl

module _ (font : List ℕ) (tag : ℕ) where
  -- k of n records are looked at; the record at p is the next one, and has the tag or not
  pub listed_here : (n k p : ℕ) → k < n → p ≡ 12 + 16 * k → u32_at font p ≡ tag → first_from font tag (n - k) p ≡ Some (table_record_at font p)
  unfolding first_from
  listed_here n k p h e q =
      let here : n - k ≡ suc (n - (k + 1)) = omega arith in
      rw (here, eq-eqb (u32_at font p) tag q) refl

  pub listed_next : (n k p : ℕ) → k < n → p ≡ 12 + 16 * k → (u32_at font p ≡ tag → ⊥) → first_from font tag (n - k) p ≡ first_from font tag (n - (k + 1)) (12 + 16 * (k + 1))
  unfolding first_from
  listed_next n k p h e q =
      let here : n - k ≡ suc (n - (k + 1)) = omega arith in
      let next : 12 + 16 * (k + 1) ≡ p + 16 = omega arith in
      rw (here, ne_eqb (u32_at font p) tag q, next) refl

  pub listed_none : (n k p : ℕ) → n ≤ k → first_from font tag (n - k) p ≡ None
  unfolding first_from
  listed_none n k p h = let none : n - k ≡ 0 = omega arith in rw none refl
