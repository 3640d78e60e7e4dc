-- `sheet_distinct::Stretches::get` meets its contract: between offsets that end with the bytes stands the stretch. Assumes nothing.
use Rattle.std.proofs.Common.{arith}
use Rattle.sheet_distinct.proofs.OffsetLaws.{stretch-none, stretch-cut}
use Rattle.sheet_distinct.proofs.Stretches.get.Goals as goal

pub returns-then-to-from : goal.returns-then-to-from
returns-then-to-from c =
    let x = c.args.self.now in
    stretch-none x.bytes.now x.offsets.now c.args.k c.from.result _ c.offset-from.result c.offset-to.result c.from.ensures (omega (arith, c.from.ensures, c.from-2.ensures))
    c.offset-from.ensures.0 c.offset-to.ensures.0 c.if-to-from.true

pub returns : goal.returns
returns c =
    let x = c.args.self.now in
    stretch-cut x.bytes.now x.offsets.now c.args.k c.from.result _ c.offset-from.result c.offset-to.result c.from.ensures (omega (arith, c.from.ensures, c.from-2.ensures))
    c.offset-from.ensures.0 c.offset-to.ensures.0
