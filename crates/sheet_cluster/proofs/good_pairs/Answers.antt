use Rattle.std.proofs.Common.{ℕ, ◌+◌, ◌-◌, ◌*◌, ◌≡◌, ap, refl, arith}
use Rattle.fields.specs.Field.{u32_at}
use Rattle.sheet_sections.proofs.SectionLaws.{items-same}
use Rattle.sheet_cluster.specs.Clusters.{pair_at}
use Rattle.sheet_cluster.proofs.ClusterLaws.{pair-good, pairs-on, pairs-back, no-pairs-left}
use Rattle.sheet_cluster.proofs.good_pairs.Goals as goal

pub loop-i-init : goal.loop-i-init
loop-i-init c =
    let a = c.args in
    let w = items-same pair_at 24 a.bytes.now a.at (a.at + 24 * 0) a.count (a.count - 0) (omega arith) (omega arith) in
    ((λ h. rw w at h), (λ h. rw (← w) at h))

pub loop-i-preserved : goal.loop-i-preserved
loop-i-preserved c =
    let l = c.loop-i in
    let a = c.args in
    let s = a.bytes.now in
    let place = a.at + 24 * l.i in
    let place' = a.at + 24 * (l.i + 1) in
    let e : c.u32_at-least.result + 1 ≡ u32_at s place + 1 = ap (λ (x : ℕ). x + 1) c.u32_at-least.ensures.0 in (
      (λ h. l.invariant.0 (pairs-back s l.least place place' (a.count - l.i) (a.count - (l.i + 1)) (omega arith) (omega arith) (c.u32_at-least.result + 1) e c.if-not-good_pair.ensures h)),
      (λ h. pairs-on s l.least place place' (a.count - l.i) (a.count - (l.i + 1)) (omega arith) (omega arith) (c.u32_at-least.result + 1) e (l.invariant.1 h)),
    )

pub returns-then-not-good_pair : goal.returns-then-not-good_pair
returns-then-not-good_pair c =
    let l = c.loop-i in
    let a = c.args in
    let place = a.at + 24 * l.i in
    λ h. c.if-not-good_pair.ensures (pair-good a.bytes.now l.least place (place + 24) (a.count - l.i) (a.count - (l.i + 1)) refl (omega arith) (l.invariant.1 h))

pub returns : goal.returns
returns c =
    let l = c.loop-i in
    let a = c.args in
    l.invariant.0 (no-pairs-left a.bytes.now l.least (a.at + 24 * l.i) (a.count - l.i) (omega arith))
