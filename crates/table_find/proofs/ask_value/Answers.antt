use Rattle.std.proofs.Common.{rules}
use Rattle.table_ask.proofs.Steps.{lookup-sound}
use Rattle.table_find.proofs.ask_value.Goals as goal

pub value_by-requires : goal.value_by-requires
value_by-requires c = search (rules, lookup-sound)
