-- `write_list::earlier_actions` meets its contract.
use Rattle.encoding.proofs.DictionaryLaws.{none_before}
use Rattle.write_list.specs.Words.{action_words}
use Rattle.write_list.proofs.earlier_actions.Goals as goal

pub returns-in-None : goal.returns-in-None
returns-in-None c = none_before action_words c.in-None.ensures
