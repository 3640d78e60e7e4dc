use Rattle.meaning.specs.Ask.{ask}
use Rattle.table.specs.Means.{meaning_of}
use Rattle.table_ask.proofs.Steps.{judged}
use Rattle.table_ask.proofs.ask_count.Goals as goal

pub returns : goal.returns
unfolding ask meaning_of
returns c = judged _ c.in_ok-table_fault.ensures
