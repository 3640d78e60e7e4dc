-- `diff_table::put_side_machines` meets its contract.
use Rattle.diff_table.proofs.Laws.{place-clear}
use Rattle.diff_table.proofs.put_side_machines.Goals as goal

pub put_machines-requires : goal.put_machines-requires
put_machines-requires c =
    let a = c.args in
    let p = c.requires in
    let s = a.sides in
    let x = c.machine_place-first in
    let y = c.machine_place-second in (
      x.ensures.1,
      y.ensures.1,
      p.0.first.clear.few,
      p.1,
      place-clear a.one.now s.glyphs s.first p.0.first x.result x.ensures.0,
      place-clear a.other.now s.glyphs s.second p.0.second y.result y.ensures.0,
    )
