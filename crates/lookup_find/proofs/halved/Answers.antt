use Rattle.lookup_find.proofs.Laws.{halving-begin, halving-none, halving-inside, halving-low, halving-high, halving-here}
use Rattle.lookup.proofs.Laws.{size-least}
use borrow.Author.Rules.{rules}
use mathlib.Core.Path.{refl}
use native.Mathlib.Omega.{arith}
use Rattle.lookup_find.proofs.halved.Goals as goal

pub loop-left-init : goal.loop-left-init
loop-left-init c = (halving-begin c.requires.clear, search rules)

pub first_of-requires : goal.first_of-requires
first_of-requires c = halving-inside _ _ c.loop-left.invariant.0 c.loop-left-test.true (omega arith) c.unit_of-middle.ensures.0

pub loop-left-preserved-then-glyph-first_of : goal.loop-left-preserved-then-glyph-first_of
loop-left-preserved-then-glyph-first_of c = (halving-low _ _ c.loop-left.invariant.0 c.loop-left-test.true (omega arith) c.unit_of-middle.ensures.0 _ (omega arith) (omega (arith, c.if-glyph-first_of.true, c.first_of.ensures.0)), search rules)

pub u16_in-requires : goal.u16_in-requires
u16_in-requires c = omega (arith, halving-inside _ _ c.loop-left.invariant.0 c.loop-left-test.true (omega arith) c.unit_of-middle.ensures.0, size-least c.args.format)

pub unit_value-value-requires : goal.unit_value-value-requires
unit_value-value-requires c = (c.requires.near.0, (c.requires.near.1.0, halving-inside _ _ c.loop-left.invariant.0 c.loop-left-test.true (omega arith) c.unit_of-middle.ensures.0))

pub returns-then-glyph-u16_in : goal.returns-then-glyph-u16_in
returns-then-glyph-u16_in c = halving-here _ _ c.loop-left.invariant.0 c.loop-left-test.true (omega arith) c.unit_of-middle.ensures.0 _ (omega arith) _ (omega (arith, c.if-glyph-first_of.false, c.first_of.ensures.0)) (omega (arith, c.if-glyph-u16_in.true, c.u16_in.ensures.0)) c.unit_value-value.ensures

pub loop-left-preserved : goal.loop-left-preserved
loop-left-preserved c = (halving-high _ _ c.loop-left.invariant.0 c.loop-left-test.true (omega arith) c.unit_of-middle.ensures.0 _ (omega arith) _ _ (omega (arith, c.if-glyph-first_of.false, c.first_of.ensures.0)) (omega (arith, c.if-glyph-u16_in.false, c.u16_in.ensures.0)) c.unit_of-p.ensures.0 refl, search rules)

pub returns : goal.returns
returns c = halving-none c.loop-left.invariant.0 c.loop-left-test.false
