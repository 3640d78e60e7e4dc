-- A line's verdicts, kept glyph by glyph.
use Prim.Native.Nat.{ℕ, suc, ◌+◌, ◌*◌, ◌≤◌, ◌<◌}
use mathlib.Core.Path.{◌≡◌, refl, sym, ap, ap₂, ◌∙◌, subst}
use mathlib.Core.Bool.{Bool}
use mathlib.Core.List.{List, [], ◌∷◌, ◌++◌, map, append_assoc, append-nil}
use native.Mathlib.Omega.{arith}
use native.Mathlib.Numerals.{add-one}
use lib.IntN.{ℤ, pos}
use lib.ListN.{length, get_or, take, drop, set, length-append, length-set, length-map, drop_of_length-le}
use lib.Seq.{drop-cons, take_all}
use Rattle.types.specs.declared.Verdict.{Verdict}
use Rattle.meaning.specs.Meaning.{Side}
use Rattle.share.specs.Line.{signed_of, evens, odds}
use Rattle.share.proofs.Halves.{length-halves}
use Rattle.line_rule.specs.Line.{firings, verdicts_from}
use Rattle.line_verdicts.specs.declared.GlyphBits.{GlyphBits}
use Rattle.line_verdicts.specs.Moves.{Moved, moved, FitsGlyphs}
use Rattle.line_verdicts.specs.Lines.{verdicts_in, KeepsLine}
use Rattle.line_verdicts.specs.Bits.{told, told_from, Keeps}
use Rattle.line_verdicts.proofs.Growth.{growth-is}
use Rattle.line_verdicts.proofs.Told.{told-set}

-- what the glyph at a place grows by
abbrev pub growth_at : Bool → List ℕ → ℕ → ℤ
growth_at shrink ms place = signed_of shrink (get_or ms (2 * place) 0 + get_or ms (2 * place + 1) 0)

-- the verdicts of the glyphs from a place on
unfoldable pub verdicts_at : Side → List ℕ → Moved → ℕ → List Verdict
verdicts_at s glyphs l place =
    verdicts_from s place (drop place l.sizes) (drop place glyphs) (drop place l.classes) (drop place l.before) (drop place l.after)

-- the glyphs before a place are kept
pub record Keeping (s : Side) (shrink : Bool) (zs cs ms glyphs bits : List ℕ) (total place : ℕ) : Type 0 where
  pub within : place ≤ length glyphs
  pub two : length bits ≡ 2 * length glyphs
  pub splits : verdicts_in s glyphs (moved shrink zs cs ms) ≡ told (take (2 * place) bits) ++ verdicts_at s glyphs (moved shrink zs cs ms) place
  pub counted : total ≡ length (told (take (2 * place) bits))

module _ (s : Side) (glyphs : List ℕ) where
  verdicts-next : (shrink : Bool) (zs cs ms : List ℕ) → FitsGlyphs zs cs ms glyphs → (k : ℕ) → k < length glyphs
      → verdicts_at s glyphs (moved shrink zs cs ms) k
      ≡ firings k (get_or cs k 0) (get_or zs k 0) (growth_at shrink ms k) 0 (get_or s.lists (get_or glyphs k 0) []) ++ verdicts_at s glyphs (moved shrink zs cs ms) (k + 1)
  unfolding verdicts_at verdicts_from
  verdicts-next shrink zs cs ms fits k h =
      let n = length-halves (length glyphs) ms (omega (arith, fits.moves)) in
      let hz : k < length zs = omega (arith, fits.sizes) in
      let hc : k < length cs = omega (arith, fits.classes) in
      let hb : k < length (map (signed_of shrink) (evens ms)) = omega (arith, n.0, length-map (evens ms) (signed_of shrink)) in
      let ha : k < length (map (signed_of shrink) (odds ms)) = omega (arith, n.1, length-map (odds ms) (signed_of shrink)) in
      rw (drop-cons zs k 0 hz, drop-cons glyphs k 0 h, drop-cons cs k 0 hc, drop-cons (map (signed_of shrink) (evens ms)) k (pos 0) hb, drop-cons (map (signed_of shrink) (odds ms)) k (pos 0) ha, add-one k)
      (ap (λ (z : ℤ). firings k (get_or cs k 0) (get_or zs k 0) z 0 (get_or s.lists (get_or glyphs k 0) []) ++ verdicts_at s glyphs (moved shrink zs cs ms) (suc k)) (growth-is shrink ms k))

  no-verdicts : (k : ℕ) (zs cs : List ℕ) (bs fs : List ℤ) → verdicts_from s k zs [] cs bs fs ≡ []
  unfolding verdicts_from
  no-verdicts k [] cs bs fs = refl
  no-verdicts k (z ∷ zs) cs bs fs = refl

  verdicts-end : (l : Moved) (k : ℕ) → length glyphs ≤ k → verdicts_at s glyphs l k ≡ []
  unfolding verdicts_at
  verdicts-end l k h =
      ap (λ (gs : List ℕ). verdicts_from s k (drop k l.sizes) gs (drop k l.classes) (drop k l.before) (drop k l.after)) (drop_of_length-le glyphs h)
      ∙ no-verdicts k (drop k l.sizes) (drop k l.classes) (drop k l.before) (drop k l.after)

module _ {s : Side} {shrink : Bool} {zs cs ms glyphs : List ℕ} where
  pub keeping_start : (bits : List ℕ) → length bits ≡ 2 * length glyphs → Keeping s shrink zs cs ms glyphs bits 0 0
  unfolding verdicts_at told_from
  keeping_start bits e = record { within = omega arith; two = e; splits = refl; counted = refl }

  module _ {bits : List ℕ} {total k : ℕ} (i : Keeping s shrink zs cs ms glyphs bits total k) where
    pub keeping-most : total ≤ length (verdicts_in s glyphs (moved shrink zs cs ms))
    keeping-most =
        omega (arith, i.counted, ap (λ (vs : List Verdict). length vs) i.splits, length-append (told (take (2 * k) bits)) (verdicts_at s glyphs (moved shrink zs cs ms) k))

    pub keeping-next : FitsGlyphs zs cs ms glyphs → (b : GlyphBits) (growth : ℤ) → growth ≡ growth_at shrink ms k
        → Keeps (get_or cs k 0) growth (get_or zs k 0) (get_or s.lists (get_or glyphs k 0) []) b → k < length glyphs
        → Keeping s shrink zs cs ms glyphs (set (set bits (2 * k) b.fires) (2 * k + 1) b.substitutes) (total + b.firing) (k + 1)
    keeping-next fits b growth g w h =
        record {
          within = omega arith;
          two = length-set (set bits (2 * k) b.fires) (2 * k + 1) b.substitutes ∙ length-set bits (2 * k) b.fires ∙ i.two;
          splits =
              i.splits
              ∙ ap (λ (vs : List Verdict). told (take (2 * k) bits) ++ vs) (verdicts-next s glyphs shrink zs cs ms fits k h)
              ∙ sym (append_assoc (told (take (2 * k) bits)) _ _)
              ∙ ap (λ (vs : List Verdict). vs ++ verdicts_at s glyphs (moved shrink zs cs ms) (k + 1)) (sym longer);
          counted = ap₂ ◌+◌ i.counted (v.firing k) ∙ sym (length-append (told (take (2 * k) bits)) here) ∙ ap (λ (vs : List Verdict). length vs) (sym longer);
        }
      where
        here : List Verdict
        here = firings k (get_or cs k 0) (get_or zs k 0) (growth_at shrink ms k) 0 (get_or s.lists (get_or glyphs k 0) [])

        v : Keeps (get_or cs k 0) (growth_at shrink ms k) (get_or zs k 0) (get_or s.lists (get_or glyphs k 0) []) b
        v = subst (λ (x : ℤ). Keeps (get_or cs k 0) x (get_or zs k 0) (get_or s.lists (get_or glyphs k 0) []) b) g w

        longer : told (take (2 * (k + 1)) (set (set bits (2 * k) b.fires) (2 * k + 1) b.substitutes)) ≡ told (take (2 * k) bits) ++ here
        longer =
            told-set k bits b.fires b.substitutes (omega (arith, i.two)) ∙ ap (λ (vs : List Verdict). told (take (2 * k) bits) ++ vs) (v.told k)

    pub keeping-end : length glyphs ≤ k → KeepsLine s glyphs (moved shrink zs cs ms) total bits
    keeping-end h =
        let all = take_all (2 * k) bits (omega (arith, i.two)) in
        let tells : told bits ≡ verdicts_in s glyphs (moved shrink zs cs ms) =
        sym (i.splits
        ∙ ap (λ (xs : List ℕ). told xs ++ verdicts_at s glyphs (moved shrink zs cs ms) k) all
        ∙ ap (λ (vs : List Verdict). told bits ++ vs) (verdicts-end s glyphs (moved shrink zs cs ms) k h)
        ∙ append-nil _) in
        record {
          counted = i.counted ∙ ap (λ (xs : List ℕ). length (told xs)) all ∙ ap (λ (vs : List Verdict). length vs) tells;
          tells = λ p. tells;
        }
