-- `lookup::begin` meets its contract.
use Rattle.std.proofs.Common.{refl, arith}
use Rattle.lookup.proofs.Pass.{serves-begin}
use Rattle.lookup.proofs.begin.Goals as goal

pub returns : goal.returns
returns c = (cc, λ glyphs e. serves-begin _ _ glyphs _ _ e refl c.unit_count.ensures.0 (omega arith))
