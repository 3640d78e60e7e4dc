-- `machine::classes_are_clear` meets its contract.
use Rattle.std.proofs.Common.{◌≡◌, ◌+◌, ◌-◌, rules, tests, sym, ◌∙◌, arith, slice_range}
use Rattle.std.proofs.lemmas.Iterator.{YieldsList-from_slice}
use Rattle.std.proofs.lemmas.Iterator.Search.{all_from_yields_List}
use lib.Dec.{ltb}
use Rattle.machine.proofs.Steps.{classes-clear}
use Rattle.machine.proofs.classes_are_clear.Goals as goal

pub returns : goal.returns
returns c = λ e.
    let a = c.args in
    let classes = c.class_count-classes.result in
    let n : a.first + a.count - a.first ≡ a.count = omega arith in
    let all = all_from_yields_List (λ class. ltb class classes) _ _ c.all.result c.all.ensures.ran (YieldsList-from_slice (slice_range a.table.now a.first (a.first + a.count)) cc) (λ x b q k. search (rules, tests)) in
    classes-clear a.table.now a.here classes c.class_count-classes.ensures.0 a.count a.first c.if-table-end.false (rw n at (sym all ∙ e))
