-- `sheet_ask::record_in` meets its contract. What is read as a table's cluster is the sheet's. Assumes nothing.
use Rattle.std.proofs.Common.{List, ℕ, ◌∙◌, ap, arith}
use Rattle.std.proofs.Math.Option.{Option}
use Rattle.types.specs.declared.Pair.{Pair}
use Rattle.meaning.specs.Ask.{pair, maybe, record_of}
use Rattle.answers.specs.Says.{given}
use Rattle.cluster.specs.Pairs.{cluster_at}
use Rattle.sheet_ask.proofs.RecordLaws.{cluster-there, cluster-inside, says-sought}
use Rattle.sheet_ask.proofs.record_in.Goals as goal

pub returns-in_err-get : goal.returns-in_err-get
returns-in_err-get c = λ ps rest o e. absurd (cluster-inside c.args.bytes.now c.args.at ps rest e (omega (arith, c.in_err-get.ensures.lookup)))

pub returns : goal.returns
returns c = λ ps rest o e.
    let a = c.args in
    says-sought c.record_of.result
    ∙ ap (λ (x : Option Pair). given (maybe pair x))
    (c.record_of.ensures ∙ ap (record_of a.class)
    (ap (λ (t : List ℕ). cluster_at t 0) c.in_ok-get.ensures.lookup.0.2 ∙ cluster-there a.bytes.now (λ i. omega (arith, c.type_inv.bytes i)) a.at ps rest o e))
