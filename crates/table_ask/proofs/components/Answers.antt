use Rattle.std.proofs.Common.{sym, subst, arith}
use Rattle.table_ask.specs.Components.{stretch}
use Rattle.table_ask.proofs.Laws.{Within, components-within}
use Rattle.table_ask.proofs.components.Goals as goal

pub slice_bounds-result-count : goal.slice_bounds-result-count
slice_bounds-result-count c = let w = subst (Within _) (sym c.component_stretch-list.ensures) (components-within _ _ _ _ _) in omega arith

pub slice_bounds-result-start : goal.slice_bounds-result-start
slice_bounds-result-start c = let w = subst (Within _) (sym c.component_stretch-list.ensures) (components-within _ _ _ _ _) in omega arith

pub slice_bounds-result-end : goal.slice_bounds-result-end
slice_bounds-result-end c = let w = subst (Within _) (sym c.component_stretch-list.ensures) (components-within _ _ _ _ _) in omega arith

pub returns : goal.returns
unfolding stretch
returns c = (rw c.component_stretch-list.ensures, rw c.component_stretch-list.ensures)
