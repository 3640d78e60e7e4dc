-- `sheet_distinct::distinct` meets its contract. What is left to compare has the answer of all. Assumes nothing.
use Rattle.std.proofs.Common.{arith, List, ℕ, subst, drop, take, ◌++◌, ◌≡◌, ap, ◌∙◌}
use Rattle.std.proofs.lemmas.List.{take-append-le}
use Rattle.encoding.specs.Tests.{Says}
use Rattle.sheet_distinct.proofs.ThinLaws.{apart-one, says-thinned, says-thinner}
use Rattle.sheet_distinct.specs.Order.{stretch, Apart}
use Rattle.sheet_distinct.proofs.distinct.Goals as goal

pub returns-then-count-lt2 : goal.returns-then-count-lt2
returns-then-count-lt2 c =
    let a = c.args in
    apart-one (stretch a.bytes.now a.offsets.now) a.count (omega arith)

pub returns : goal.returns
returns c =
    let a = c.args in
    let f = stretch a.bytes.now a.offsets.now in
    let t = c.thin-left in
    let last = c.in-Some.last in
    let h = c.in-Some.ensures in
    let v = c.thin_again.new.numbers in
    let rest = drop t.result t.new.numbers in
    let w : take _ (v ++ rest) ≡ take last v = ap (λ (k : ℕ). take k (v ++ rest)) (omega arith) ∙ take-append-le last v rest (omega (arith, h.few)) in
    says-thinned f a.count t.result t.new.numbers c.apart-2.result t.ensures.0
    (says-thinner f (take t.result t.new.numbers) last v c.apart-2.result h (subst (λ (l : List ℕ). Says c.apart-2.result (Apart f l)) w c.apart-2.ensures))
