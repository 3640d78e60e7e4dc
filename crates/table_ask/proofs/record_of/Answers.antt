use Rattle.std.proofs.Common.{ap, arith}
use Rattle.meaning.specs.Ask.{maybe, pair}
use Rattle.answers.specs.Says.{given}
use Rattle.cluster.specs.Pairs.{sought_pair}
use Rattle.table_ask.proofs.Asked.{record-here}
use Rattle.table_ask.proofs.record_of.Goals as goal

pub returns-in_err-at : goal.returns-in_err-at
returns-in_err-at c =
    let e = ap given (record-here c.args.table.now c.args.count c.args.direction c.args.glyph c.args.class _ c.in_err-at.ensures.0) in
    grind arith

pub returns : goal.returns
returns c =
    let e = ap given (record-here c.args.table.now c.args.count c.args.direction c.args.glyph c.args.class _ c.in_ok-at.ensures.0) in
    let p = c.record_of.ensures in
    grind arith
