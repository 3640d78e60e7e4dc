use Rattle.std.proofs.Common.{◌≡◌, ℕ, suc, ◌+◌, ◌-◌, ◌*◌, ◌≤◌, length, arith, sym, ap, ◌∙◌}
use Rattle.std.proofs.lemmas.List.Edits.{sets}
use Rattle.std.proofs.Math.Nat.{mul-le-mul_left}
use Rattle.fields.specs.Stores.{put_next, sets-out}
use Rattle.diff_rule.specs.Again.{again, again_through}
use Rattle.diff_rule.proofs.Again.{again-length, glyphs-next, glyphs-none, glyphs-bare, glyphs-length}
use Rattle.diff_glyphs.proofs.put_stretch.Goals as goal

-- one glyph more, and all
more : (g₀ g k : ℕ) → g₀ ≤ g → (g + 1 - g₀) * (5 * k) ≡ (g - g₀) * (5 * k) + 5 * k
more g₀ g k h = let e : g + 1 - g₀ ≡ suc (g - g₀) = omega arith in rw e (omega arith)

few : (n k : ℕ) → k ≤ 128 → n * (5 * k) ≤ 640 * n
few n k h = let five : 5 * k ≤ 640 = omega arith in omega (arith, mul-le-mul_left n five)

pub returns-then-count-eq0 : goal.returns-then-count-eq0
returns-then-count-eq0 c =
    let a = c.args in
    let e = glyphs-bare a.count a.block.now c.if-count-eq0.true (a.end - a.glyph) a.glyph in
    (ap (sets a.list.now a.to) (sym e), omega (arith, ap length e), omega arith)

pub returns-then-list-to : goal.returns-then-list-to
returns-then-list-to c =
    let a = c.args in
    let n = a.end - a.glyph in
    let h = few n a.count c.requires.1 in
    let e = glyphs-length a.count a.block.now n a.glyph in
    (sym (sets-out (again_through a.count a.block.now n a.glyph) a.list.now a.to c.if-list-to.true), omega arith, omega arith)

pub loop-g-preserved : goal.loop-g-preserved
loop-g-preserved c =
    let a = c.args in
    let l = c.loop-g in
    let p = c.put_again-at in
    let b = a.block.now in
    let e = again-length b l.g a.count 0 in (
      omega (arith, p.ensures.1, l.invariant.0, more a.glyph l.g a.count l.auto.g),
      put_next (again a.count b l.g 0) (again_through a.count b (a.end - (l.g + 1)) (l.g + 1)) _ l.list p.new.list _ l.at p.result
          (glyphs-next a.count b a.end l.g (omega arith)) (omega (arith, p.ensures.1)) p.ensures.0 l.invariant.1,
    )

pub returns : goal.returns
returns c =
    let a = c.args in
    let l = c.loop-g in
    let n = a.end - a.glyph in
    let h = few n a.count c.requires.1 in
    let e = glyphs-length a.count a.block.now n a.glyph in
    let all : l.at ≡ a.to + n * (5 * a.count) = l.invariant.0 ∙ ap (λ (g : ℕ). a.to + (g - a.glyph) * (5 * a.count)) (omega arith) in
    (ap (sets l.list l.at) (sym (glyphs-none a.count a.block.now (a.end - l.g) l.g (omega arith))) ∙ l.invariant.1, omega arith, omega arith)
