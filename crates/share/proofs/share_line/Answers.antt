-- `share::share_line` meets its contract.
use native.Mathlib.Omega.{arith}
use Rattle.share.proofs.Stages.{zeros-hold, staged-holds, whole, whole-limits}
use Rattle.share.proofs.Sums.{fit}
use Rattle.share.proofs.share_line.Goals as goal

pub share_stages-left-requires : goal.share_stages-left-requires
share_stages-left-requires c = let p = c.requires in (zeros-hold p.over_zeros.0 p.over_zeros.1 p.gap_bound.0, fit p.gap_bound.1 p.gap_bound.2)

pub go_back-requires : goal.go_back-requires
go_back-requires c = let p = c.requires in
    let s = c.share_stages-left in
    (staged-holds p.over_zeros.0 p.over_zeros.1 c.args.gap s.ensures.value s.ensures.moves_after (omega (arith, s.auto)) p.gap_bound.0, fit p.gap_bound.1 p.gap_bound.2)

pub returns-then-back : goal.returns-then-back
returns-then-back c = let a = c.args in
    let p = c.requires in
    let s = c.share_stages-left.ensures in
    let b = c.go_back.ensures in
    whole p.over_zeros.0 p.over_zeros.1 a.gap s.value s.moves_after a.back c.if-back.true b.value b.moves_after

pub returns : goal.returns
returns c = let a = c.args in
    let p = c.requires in
    let s = c.share_stages-left in
    whole-limits p.over_zeros.0 p.over_zeros.1 a.gap s.ensures.value s.ensures.moves_after a.back c.if-back.false (omega (arith, s.auto))
