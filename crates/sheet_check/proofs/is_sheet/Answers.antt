-- `sheet_check::is_sheet` meets its contract. N is within its limits, both directions stand after it, and nothing follows; or there is no meaning that is written so. Assumes nothing.
use Rattle.std.proofs.Common.{arith}
use Rattle.sheet_check.proofs.WholeLaws.{sheet-short, sheet-count, sheet-absent, sheet-says}
use Rattle.sheet_check.proofs.is_sheet.Goals as goal

pub returns-then-bytes-lt4 : goal.returns-then-bytes-lt4
returns-then-bytes-lt4 c = sheet-short c.args.bytes.now (λ i. omega (arith, c.type_inv.bytes i)) (omega arith)

pub returns-then-glyphs-eq0 : goal.returns-then-glyphs-eq0
returns-then-glyphs-eq0 c =
    sheet-count c.args.bytes.now (λ i. omega (arith, c.type_inv.bytes i)) (λ h k. omega (arith, c.u32_at-glyphs.ensures.0, c.then-glyphs-eq0.either))

pub returns-in_default : goal.returns-in_default
returns-in_default c = sheet-absent c.args.bytes.now (λ i. omega (arith, c.type_inv.bytes i)) c.u32_at-glyphs.result c.u32_at-glyphs.ensures.0 c.in_default.ensures

pub returns : goal.returns
returns c =
    sheet-says c.args.bytes.now (λ i. omega (arith, c.type_inv.bytes i)) c.u32_at-glyphs.result c.u32_at-glyphs.ensures.0 c.in-Some.end (omega (arith, c.if-glyphs-eq0.false)) (omega arith) (omega arith)
    c.in-Some.ensures
