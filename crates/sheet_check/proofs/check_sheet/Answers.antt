-- `sheet_check::check_sheet` meets its contract. It says what `is_sheet` says. Assumes nothing.
use Rattle.sheet_check.proofs.CheckLaws.{checked-says}
use Rattle.sheet_check.proofs.check_sheet.Goals as goal

pub returns : goal.returns
returns c = checked-says c.args.bytes.now c.is_sheet.result c.ruled.result c.ruled.ensures c.is_sheet.ensures
