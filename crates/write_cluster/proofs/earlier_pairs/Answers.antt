-- `write_cluster::earlier_pairs` meets its contract.
use Rattle.encoding.proofs.DictionaryLaws.{none_before}
use Rattle.write_cluster.specs.Words.{pair_words}
use Rattle.write_cluster.proofs.earlier_pairs.Goals as goal

pub returns-in-None : goal.returns-in-None
returns-in-None c = none_before pair_words c.in-None.ensures
