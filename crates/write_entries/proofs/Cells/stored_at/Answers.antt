-- `write_entries::Cells::stored_at` meets its contract.
use Rattle.write_entries.proofs.Laws.{stored_is}
use Rattle.write_entries.proofs.Cells.stored_at.Goals as goal

pub returns : goal.returns
returns c =
    let s = c.args.self.now in
    stored_is s.table.now s.here s.count s.array c.args.i _ s.array_is c.requires c.u8_at.ensures.0
