-- `sheet_cluster::read_cluster` meets its contract. The pairs are there, 1 to 128, and good, or no cluster stands there. Assumes nothing.
use Rattle.std.proofs.Common.{arith}
use Rattle.sheet_cluster.proofs.ClusterLaws.{cluster-outside, cluster-count, cluster-bad, cluster-good}
use Rattle.sheet_cluster.proofs.read_cluster.Goals as goal

pub returns-in_err-count : goal.returns-in_err-count
returns-in_err-count c =
    rw c.from_residual.ensures (cluster-outside c.args.bytes.now (λ i. omega (arith, c.type_inv.bytes i)) c.args.at c.in_err-count.ensures)

pub returns-then-count-eq0 : goal.returns-then-count-eq0
returns-then-count-eq0 c =
    cluster-count c.args.bytes.now (λ i. omega (arith, c.type_inv.bytes i)) c.args.at c.in_ok-count.count c.in_ok-count.ensures (λ g h. omega arith)

pub returns-then-count-gt128 : goal.returns-then-count-gt128
returns-then-count-gt128 c =
    cluster-count c.args.bytes.now (λ i. omega (arith, c.type_inv.bytes i)) c.args.at c.in_ok-count.count c.in_ok-count.ensures (λ g h. omega arith)

pub returns-then-not-good_pairs : goal.returns-then-not-good_pairs
returns-then-not-good_pairs c =
    cluster-bad c.args.bytes.now (λ i. omega (arith, c.type_inv.bytes i)) c.args.at c.in_ok-count.count c.in_ok-count.ensures c.if-not-good_pairs.ensures

pub returns : goal.returns
returns c =
    cluster-good c.args.bytes.now (λ i. omega (arith, c.type_inv.bytes i)) c.args.at c.in_ok-count.count c.in_ok-count.ensures (omega arith) (omega arith) c.if-not-good_pairs.ensures
