-- `write_cluster::cluster_size` meets its contract.
use Rattle.write_cluster.proofs.Laws.{cluster-bytes}
use native.Mathlib.Omega.{arith}
use Rattle.write_cluster.proofs.cluster_size.Goals as goal

pub returns : goal.returns
returns c = (omega (arith, c.u32_at.ensures.0, cluster-bytes c.args.table.now c.args.at), omega (arith, c.u32_at.ensures.1))
