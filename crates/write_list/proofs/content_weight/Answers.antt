-- `write_list::content_weight` meets its contract.
use Rattle.write_list.proofs.Laws.{weight-kept}
use mathlib.Core.Path.{◌∙◌}
use Rattle.write_list.proofs.content_weight.Goals as goal

pub returns : goal.returns
returns c = (c.weigh.ensures.0 ∙ weight-kept c.args.table.now c.args.ty _ c.kept_data-kept.ensures.0, c.weigh.ensures.1)
