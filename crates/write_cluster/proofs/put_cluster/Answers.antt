-- `write_cluster::put_cluster` meets its contract.
use Rattle.write_cluster.proofs.Laws.{cluster-code}
use Rattle.cluster.specs.Pairs.{pairs_at}
use Rattle.meaning.specs.Sheet.{pair_code}
use Rattle.encoding.specs.Codes.{many}
use Rattle.fields.specs.Stores.{put_two}
use Rattle.fields.specs.Field.{be32}
use lib.Seq.{sets}
use mathlib.Core.Path.{ap, ◌∙◌, refl}
use Prim.Native.Nat.{◌+◌}
use Rattle.write_cluster.proofs.put_cluster.Goals as goal

pub returns : goal.returns
returns c =
    let a = c.args in
    let n = c.u32_at-count in
    put_two (be32 n.result) (many pair_code (pairs_at a.table.now n.result (a.at + 4))) a.out.now c.put_u32.new.out c.put_pairs.new.out a.to (a.to + 4) refl
    c.put_u32.ensures c.put_pairs.ensures
    ∙ ap (sets a.out.now a.to) (cluster-code a.table.now a.at n.result n.ensures.0)
