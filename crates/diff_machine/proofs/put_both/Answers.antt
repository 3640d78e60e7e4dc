-- `diff_machine::put_both` meets its contract.
use Rattle.diff_machine.proofs.Laws.{both-same, rows_apart, classes-apart}
use Rattle.diff_rule.proofs.Stored.{stores-other}
use Rattle.machine.proofs.Laws.{rows-most, classes-least, classes-most}
use native.Mathlib.Omega.{arith}
use mathlib.Core.Path.{sym, ◌∙◌}
use Rattle.diff_machine.proofs.put_both.Goals as goal

pub returns-then-machines-row_count : goal.returns-then-machines-row_count
returns-then-machines-row_count c =
    let a = c.args in
    let p = c.put_sizes in
    let apart = rows_apart a.one.now a.other.now a.machines c.requires.6 (λ q. c.if-machines-row_count.true (q ∙ sym c.row_count.ensures)) in
    (stores-other a.list.now p.new.list a.to p.result _ _ apart p.ensures.0, p.ensures.1)

pub returns-then-machines-class_count : goal.returns-then-machines-class_count
returns-then-machines-class_count c =
    let a = c.args in
    let p = c.put_sizes-then-machines-class_count in
    let er = c.if-machines-row_count.false ∙ c.row_count.ensures in
    let apart = classes-apart a.one.now a.other.now a.machines c.requires.6 er (λ q. c.if-machines-class_count.true (q ∙ sym c.class_count.ensures.0)) in
    (stores-other a.list.now p.new.list a.to p.result _ _ apart p.ensures.0, p.ensures.1)

pub put_parts-requires : goal.put_parts-requires
put_parts-requires c =
    let a = c.args in
    let p = c.requires in
    let m = a.machines in (
      record {
        first = p.0;
        second = p.1;
        few = p.2;
        rows = omega (arith, p.6.rows, rows-most a.one.now m.glyphs m.first p.4);
        classes = omega (arith, p.6.classes, classes-most a.one.now m.glyphs m.first p.4);
        ones = omega (arith, classes-least a.one.now m.glyphs m.first p.4);
        others = omega (arith, classes-least a.other.now m.glyphs m.second p.5);
      },
      p.3,
    )

pub returns : goal.returns
returns c =
    let a = c.args in
    let p = c.put_parts in
    let er = c.if-machines-row_count.false ∙ c.row_count.ensures in
    let ec = c.if-machines-class_count.false ∙ c.class_count.ensures.0 in
    let same = both-same a.one.now a.other.now a.machines c.requires.6 er ec in
    (stores-other a.list.now p.new.list a.to p.result _ _ same p.ensures.0, p.ensures.1)
