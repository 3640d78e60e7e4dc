-- `sheet_distinct::Stretches::apart` meets its contract: sorted numbers that rise are apart, and they are the numbers in another order. Assumes nothing.
use Rattle.std.proofs.Common.{rules}
use Rattle.std.proofs.lemmas.Fn.{always_returns_same}
use Rattle.sheet_distinct.specs.Order.{stretch}
use Rattle.sheet_distinct.proofs.ApartLaws.{before, order, says-rising, says-moved}
use Rattle.sheet_distinct.proofs.Stretches.apart.Goals as goal

pub returns : goal.returns
returns c =
    let x = c.args.self.now in
    let f = stretch x.bytes.now x.offsets.now in
    let s = c.sort_unstable_by in
    says-moved f c.args.numbers.now s.new.self c.is_sorted_by.result s.ensures.permutation
    (says-rising f s.new.self c.is_sorted_by.result
    (s.ensures.sorted (before f) (order f) (always_returns_same _ _ _ (λ a r q k. search rules)))
    (c.is_sorted_by.ensures.cases (before f) (always_returns_same _ _ _ (λ a r q k. search rules))))
