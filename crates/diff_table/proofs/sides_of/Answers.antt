-- `diff_table::sides_of` meets its contract.
use Rattle.diff_table.proofs.Laws.{side-good}
use Rattle.diff_table.proofs.sides_of.Goals as goal

pub returns : goal.returns
returns c =
    let a = c.args in
    let p = c.requires in
    let x = c.direction_at in
    let y = c.direction_at-2 in (
      λ i. record { direction = a.direction; glyphs = a.glyphs; first = x.ensures.0 i; second = y.ensures.0 i },
      record {
        first = side-good a.one.now a.glyphs p.0 (λ i. (c.type_inv.one i).fits) a.direction x.result x.ensures;
        second = side-good a.other.now a.glyphs p.1 (λ i. (c.type_inv.other i).fits) a.direction y.result y.ensures;
      },
    )
