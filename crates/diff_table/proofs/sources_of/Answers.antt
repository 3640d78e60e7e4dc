-- `diff_table::sources_of` meets its contract.
use Rattle.diff_table.proofs.Laws.{comparable}
use Rattle.diff_table.proofs.sources_of.Goals as goal

pub returns : goal.returns
returns c =
    let a = c.args in
    let x = c.source_at in
    let y = c.source_at-2 in (
      λ i. record { kind = a.kind; glyphs = a.sides.glyphs; first = x.ensures.0 i; second = y.ensures.0 i },
      comparable a.one.now a.other.now a.sides a.kind x.result y.result c.requires x.ensures y.ensures,
    )
