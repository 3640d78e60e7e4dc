-- `write_list::earlier_bytes` meets its contract.
use Rattle.encoding.specs.Sections.{byte}
use Rattle.encoding.proofs.DictionaryLaws.{none_before}
use Rattle.write_list.proofs.earlier_bytes.Goals as goal

pub returns-in-None : goal.returns-in-None
returns-in-None c = none_before byte c.in-None.ensures
