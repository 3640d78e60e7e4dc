-- The bits of a glyph's actions: what they tell, and how they are set one after the other while its list is passed.
use Prim.Native.Nat.{ℕ, zero, suc, ◌+◌, ◌-◌, ◌/◌, ◌%◌, ◌≤◌, ◌<◌, ◌^◌}
use mathlib.Core.Path.{◌≡◌, refl, sym, ap, ap₂, ◌∙◌, subst}
use mathlib.Core.Bool.{cond}
use mathlib.Core.List.{List, [], ◌∷◌, ◌++◌, append_assoc, append-nil}
use native.Mathlib.Omega.{arith}
use native.Mathlib.Nat.{add-zero, zero-add, pow-suc}
use native.Mathlib.Numerals.{add-one}
use lib.Dec.{eqb}
use lib.IntN.{ℤ}
use lib.ListN.{length, length-append}
use Rattle.fields.specs.Field.{u32_at}
use Rattle.types.specs.declared.Verdict.{Verdict}
use Rattle.meaning.specs.Meaning.{Action}
use Rattle.actions.specs.Actions.{action_at, actions_at}
use Rattle.verdict.specs.declared.Fires.{Fires}
use Rattle.verdict.specs.declared.Fires.TheVariants.{No, Plain, Substitutes}
use Rattle.verdict.specs.Verdict.{fires_of}
use Rattle.line_rule.specs.Line.{record_if, firings}
use Rattle.line_verdicts.specs.declared.GlyphBits.{GlyphBits}
use Rattle.line_verdicts.specs.Bits.{verdict_of, bits_tell, no_bits, note_action, ClearList, Keeps}
use Rattle.line_verdicts.proofs.Laws.{clear-past, one-most}

-- ---- what bits tell

pow-double : (n : ℕ) → 2 ^ suc n ≡ 2 ^ n + 2 ^ n
pow-double n = omega (arith, pow-suc 2 n)

-- half of what is below twice as much
pub half-low : (n f : ℕ) → f < 2 ^ suc n → f / 2 < 2 ^ n
half-low n f h = omega (arith, pow-double n)

pub tell-zero : (k place number s : ℕ) → bits_tell k place number 0 s ≡ []
unfolding bits_tell
tell-zero zero place number s = refl
tell-zero (suc k) place number s = tell-zero k place (number + 1) (s / 2)

-- bits past the highest tell nothing
tell-longer : (n k place number f s : ℕ) → f < 2 ^ n → n ≤ k → bits_tell k place number f s ≡ bits_tell n place number f s
unfolding bits_tell
tell-longer zero k place number f s h l =
    let e : f ≡ 0 = omega arith in
    ap (λ (x : ℕ). bits_tell k place number x s) e ∙ tell-zero k place number s
tell-longer (suc n) zero place number f s h l = absurd (omega arith)
tell-longer (suc n) (suc k) place number f s h l =
    ap (λ (vs : List Verdict). cond (eqb (f % 2) 1) (verdict_of place number (s % 2) ∷ []) [] ++ vs)
    (tell-longer n k place (number + 1) (f / 2) (s / 2) (half-low n f h) (omega arith))

-- ---- one bit more

-- what an action adds to the bits of those that fire, and of those that substitute
abbrev fires_weight : Fires → ℕ → ℕ
fires_weight No bit = 0
fires_weight Plain bit = bit
fires_weight Substitutes bit = bit

abbrev substitutes_weight : Fires → ℕ → ℕ
substitutes_weight No bit = 0
substitutes_weight Plain bit = 0
substitutes_weight Substitutes bit = bit

fires-double : (f : Fires) (d : ℕ) → fires_weight f (d + d) ≡ fires_weight f d + fires_weight f d
fires-double No d = refl
fires-double Plain d = refl
fires-double Substitutes d = refl

substitutes-double : (f : Fires) (d : ℕ) → substitutes_weight f (d + d) ≡ substitutes_weight f d + substitutes_weight f d
substitutes-double No d = refl
substitutes-double Plain d = refl
substitutes-double Substitutes d = refl

tell-one : (place number : ℕ) (f : Fires) → bits_tell 1 place number (0 + fires_weight f 1) (0 + substitutes_weight f 1) ≡ record_if f place (number + 0)
unfolding bits_tell
tell-one place number No = refl
tell-one place number Plain = simp add-zero
tell-one place number Substitutes = simp add-zero

-- the bit of the next action tells the last verdict
tell-more : (n place number x y : ℕ) (f : Fires) → x < 2 ^ n → y < 2 ^ n
    → bits_tell (suc n) place number (x + fires_weight f (2 ^ n)) (y + substitutes_weight f (2 ^ n)) ≡ bits_tell n place number x y ++ record_if f place (number + n)
unfolding bits_tell
tell-more zero place number x y f h k =
    let e : x ≡ 0 = omega arith in
    let g : y ≡ 0 = omega arith in
    ap₂ (λ (a b : ℕ). bits_tell 1 place number (a + fires_weight f 1) (b + substitutes_weight f 1)) e g ∙ tell-one place number f
tell-more (suc n) place number x y f h k =
    let w = ap (fires_weight f) (pow-double n) ∙ fires-double f (2 ^ n) in
    let v = ap (substitutes_weight f) (pow-double n) ∙ substitutes-double f (2 ^ n) in
    let x₁ : (x + fires_weight f (2 ^ suc n)) % 2 ≡ x % 2 = omega (arith, w) in
    let x₂ : (x + fires_weight f (2 ^ suc n)) / 2 ≡ x / 2 + fires_weight f (2 ^ n) = omega (arith, w) in
    let y₁ : (y + substitutes_weight f (2 ^ suc n)) % 2 ≡ y % 2 = omega (arith, v) in
    let y₂ : (y + substitutes_weight f (2 ^ suc n)) / 2 ≡ y / 2 + substitutes_weight f (2 ^ n) = omega (arith, v) in
    let m : number + 1 + n ≡ number + suc n = omega arith in
    ap₂ ◌++◌
    (ap₂ (λ (a b : ℕ). cond (eqb a 1) (verdict_of place number b ∷ []) []) x₁ y₁)
    (ap₂ (λ (a b : ℕ). bits_tell (suc n) place (number + 1) a b) x₂ y₂
    ∙ tell-more n place (number + 1) (x / 2) (y / 2) f (half-low n x h) (half-low n y k)
    ∙ ap (λ (j : ℕ). bits_tell n place (number + 1) (x / 2) (y / 2) ++ record_if f place j) m)
    ∙ sym (append_assoc (cond (eqb (x % 2) 1) (verdict_of place number (y % 2) ∷ []) []) _ _)

-- ---- an action is noted

module _ (bit : ℕ) (b : GlyphBits) where
  noted-fires : (f : Fires) → (note_action f bit b).fires ≡ b.fires + fires_weight f bit
  noted-fires No = omega arith
  noted-fires Plain = refl
  noted-fires Substitutes = refl

  noted-substitutes : (f : Fires) → (note_action f bit b).substitutes ≡ b.substitutes + substitutes_weight f bit
  noted-substitutes No = omega arith
  noted-substitutes Plain = omega arith
  noted-substitutes Substitutes = refl

  noted-firing : (f : Fires) (place number : ℕ) → (note_action f bit b).firing ≡ b.firing + length (record_if f place number)
  noted-firing No place number = omega arith
  noted-firing Plain place number = refl
  noted-firing Substitutes place number = refl

fires-most : (f : Fires) (bit : ℕ) → fires_weight f bit ≤ bit
fires-most No bit = omega arith
fires-most Plain bit = omega arith
fires-most Substitutes bit = omega arith

substitutes-most : (f : Fires) (bit : ℕ) → substitutes_weight f bit ≤ bit
substitutes-most No bit = omega arith
substitutes-most Plain bit = omega arith
substitutes-most Substitutes bit = omega arith

-- ---- a list is passed

-- the first so many actions of a list are noted, and so many are left
pub record Noting (t : List ℕ) (class : ℕ) (growth : ℤ) (size count first : ℕ) (b : GlyphBits) (number left at : ℕ) : Type 0 where
  pub list : ClearList t left at
  pub few : number + left ≤ 64
  pub fires : b.fires < 2 ^ number
  pub substitutes : b.substitutes < 2 ^ number
  pub told : (place : ℕ) → firings place class size growth 0 (actions_at t count first)
      ≡ bits_tell number place 0 b.fires b.substitutes ++ firings place class size growth number (actions_at t left at)
  pub counted : (place : ℕ) → b.firing ≡ length (bits_tell number place 0 b.fires b.substitutes)
  pub most : b.firing ≤ number

module _ (t : List ℕ) (class : ℕ) (growth : ℤ) (size : ℕ) where
  split : (place number left at : ℕ) → 0 < left
      → firings place class size growth number (actions_at t left at)
      ≡ record_if (fires_of (action_at t at) class growth size) place number ++ firings place class size growth (number + 1) (actions_at t (left - 1) (at + u32_at t (at + 4)))
  unfolding firings actions_at
  split place number zero at h = absurd (omega arith)
  split place number (suc m) at h = let d : suc m - 1 ≡ m = omega arith in simp (d, add-one)

  pub noting-start : {b : GlyphBits} {left : ℕ} (count first : ℕ) → b ≡ no_bits → left ≡ count → ClearList t count first
      → Noting t class growth size count first b 0 left first
  unfolding bits_tell
  noting-start count first e l s =
      rw (e, l) (record {
        list = s;
        few = omega (arith, s.few);
        fires = omega arith;
        substitutes = omega arith;
        told = λ place. refl;
        counted = λ place. refl;
        most = omega arith;
      })

  module _ (count first : ℕ) (b : GlyphBits) (number left at : ℕ) (n : Noting t class growth size count first b number left at) where
    pub noting-next : 0 < left → {does : Fires} → does ≡ fires_of (action_at t at) class growth size → {bit : ℕ} → bit ≡ 2 ^ number
        → {r : GlyphBits} → r ≡ note_action does bit b → {w : ℕ} → w ≡ u32_at t (at + 4) → {less : ℕ} → less + 1 ≡ left
        → Noting t class growth size count first r (number + 1) less (at + w)
    noting-next h {does} d {bit} k {r} e {w} g {less} l =
        let m : left - 1 ≡ less = omega arith in
        rw (e, d, k, g, ← m) (record {
          list = clear-past t left at n.list h;
          few = omega (arith, n.few);
          fires = subst (λ (k : ℕ). next.fires < 2 ^ k) (sym (add-one number)) (omega (arith, n.fires, noted-fires (2 ^ number) b f, fires-most f (2 ^ number), pow-double number));
          substitutes =
              subst (λ (k : ℕ). next.substitutes < 2 ^ k) (sym (add-one number))
              (omega (arith, n.substitutes, noted-substitutes (2 ^ number) b f, substitutes-most f (2 ^ number), pow-double number));
          told =
              λ place. n.told place
              ∙ ap (λ (vs : List Verdict). bits_tell number place 0 b.fires b.substitutes ++ vs) (split place number left at h)
              ∙ sym (append_assoc (bits_tell number place 0 b.fires b.substitutes) _ _)
              ∙ ap (λ (vs : List Verdict). vs ++ firings place class size growth (number + 1) (actions_at t (left - 1) (at + u32_at t (at + 4)))) (sym (longer place));
          counted =
              λ place. noted-firing (2 ^ number) b f place number
              ∙ ap (λ (k : ℕ). k + length (record_if f place number)) (n.counted place)
              ∙ sym (length-append (bits_tell number place 0 b.fires b.substitutes) (record_if f place number))
              ∙ ap (λ (vs : List Verdict). length vs) (sym (longer place));
          most = omega (arith, n.most, noted-firing (2 ^ number) b f 0 0, one-most f 0 0);
        })
      where
        f : Fires
        f = fires_of (action_at t at) class growth size

        next : GlyphBits
        next = note_action f (2 ^ number) b

        longer : (place : ℕ) → bits_tell (number + 1) place 0 next.fires next.substitutes ≡ bits_tell number place 0 b.fires b.substitutes ++ record_if f place number
        longer place =
            ap (λ (k : ℕ). bits_tell k place 0 next.fires next.substitutes) (add-one number)
            ∙ ap₂ (λ (x y : ℕ). bits_tell (suc number) place 0 x y) (noted-fires (2 ^ number) b f) (noted-substitutes (2 ^ number) b f)
            ∙ tell-more number place 0 b.fires b.substitutes f n.fires n.substitutes
            ∙ ap (λ (k : ℕ). bits_tell number place 0 b.fires b.substitutes ++ record_if f place k) (zero-add number)

    pub noting-end : left ≡ 0 → Keeps class growth size (actions_at t count first) b
    unfolding firings actions_at
    noting-end e =
        record {
          told = λ place. tell-longer number 64 place 0 b.fires b.substitutes n.fires (omega (arith, n.few)) ∙ sym (all place);
          firing = λ place. n.counted place ∙ ap (λ (vs : List Verdict). length vs) (sym (all place));
          few = omega (arith, n.most, n.few);
        }
      where
        all : (place : ℕ) → firings place class size growth 0 (actions_at t count first) ≡ bits_tell number place 0 b.fires b.substitutes
        all place =
            n.told place
            ∙ ap (λ (k : ℕ). bits_tell number place 0 b.fires b.substitutes ++ firings place class size growth number (actions_at t k at)) e
            ∙ append-nil _

-- nothing is kept of an empty list
pub keeps-none : (class : ℕ) (growth : ℤ) (size : ℕ) (actions : List Action) {b : GlyphBits} → actions ≡ [] → b ≡ no_bits → Keeps class growth size actions b
unfolding firings
keeps-none class growth size actions e z =
    rw (e, z) (record { told = λ place. tell-zero 64 place 0 0; firing = λ place. refl; few = omega arith })
