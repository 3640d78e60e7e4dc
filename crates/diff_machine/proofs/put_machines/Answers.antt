-- `diff_machine::put_machines` meets its contract.
use Rattle.diff_machine.proofs.Laws.{of_none, of_some, part-some}
use Rattle.diff_rule.proofs.Stored.{stores-none, stores-other}
use Rattle.diff_rule.specs.Differences.{machines_differ}
use Rattle.meaning.specs.Meaning.{Machine}
use Rattle.std.proofs.Common.{arith, rules}
use mathlib.Core.Option.{Option}
use mathlib.Core.Path.{ap₂}
use Rattle.diff_machine.proofs.put_machines.Goals as goal

pub returns-in-0-eq0 : goal.returns-in-0-eq0
returns-in-0-eq0 c =
    let a = c.args in
    let e = stores-other a.list.now a.list.now a.to a.to _ _
    (ap₂ (λ (x y : Option Machine). machines_differ a.direction a.glyphs x y) (of_none a.one.now a.glyphs a.first (search rules)) (of_none a.other.now a.glyphs a.second (search rules))) (stores-none a.list.now a.to) in
    (e, omega arith)

pub returns-in-0-default : goal.returns-in-0-default
returns-in-0-default c =
    let a = c.args in
    let p = c.put_sizes in
    let e = stores-other a.list.now p.new.list a.to p.result _ _
    (ap₂ (λ (x y : Option Machine). machines_differ a.direction a.glyphs x y) (of_none a.one.now a.glyphs a.first (search rules)) (of_some a.other.now a.glyphs a.second (search rules))) p.ensures.0 in
    (e, p.ensures.1)

pub returns-in_default-eq0 : goal.returns-in_default-eq0
returns-in_default-eq0 c =
    let a = c.args in
    let p = c.put_sizes-in_default-eq0 in
    let e = stores-other a.list.now p.new.list a.to p.result _ _
    (ap₂ (λ (x y : Option Machine). machines_differ a.direction a.glyphs x y) (of_some a.one.now a.glyphs a.first (search rules)) (of_none a.other.now a.glyphs a.second (search rules))) p.ensures.0 in
    (e, p.ensures.1)

pub put_both-requires : goal.put_both-requires
put_both-requires c =
    let a = c.args in
    let p = c.requires in (
      omega (arith, p.0),
      omega (arith, p.1),
      p.2,
      p.3,
      part-some a.one.now a.glyphs a.first (search rules) p.4,
      part-some a.other.now a.glyphs a.second (search rules) p.5,
      record { rows = c.row_count.ensures; classes = c.class_count.ensures.0 },
    )

pub returns-in_default : goal.returns-in_default
returns-in_default c =
    let a = c.args in
    let p = c.put_both in
    let e = stores-other a.list.now p.new.list a.to p.result _ _
    (ap₂ (λ (x y : Option Machine). machines_differ a.direction a.glyphs x y) (of_some a.one.now a.glyphs a.first (search rules)) (of_some a.other.now a.glyphs a.second (search rules))) p.ensures.0 in
    (e, p.ensures.1)
