use Rattle.table_ask.proofs.Steps.{lookup-sound}
use Rattle.table_ask.proofs.spot_in.Goals as goal

pub spot_by-requires : goal.spot_by-requires
spot_by-requires c = (c.lookup_in-lookup.ensures.1, lookup-sound _ _ c.requires _ _ c.lookup_in-lookup.ensures.0)
