use Rattle.table_find.proofs.Laws.{bits_over}
use Rattle.table_find.proofs.least_over.Goals as goal

pub returns : goal.returns
returns c = bits_over c.args.n c.ranges.n.fits
