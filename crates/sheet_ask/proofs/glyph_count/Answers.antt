-- `sheet_ask::glyph_count` meets its contract. N stands first. Assumes nothing.
use Rattle.std.proofs.Common.{arith}
use Rattle.sheet_ask.proofs.MachineLaws.{count-answer}
use Rattle.sheet_ask.proofs.glyph_count.Goals as goal

pub returns : goal.returns
returns c = λ m v w. count-answer c.args.bytes.now (λ i. omega (arith, c.type_inv.bytes i)) m v w _ c.u32_at.ensures.0
