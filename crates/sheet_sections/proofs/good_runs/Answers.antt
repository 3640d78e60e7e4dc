use Rattle.std.proofs.Common.{ℕ, suc, ◌+◌, ◌-◌, ◌*◌, ◌≡◌, refl, arith}
use Rattle.encoding.specs.Runs.{Run}
use Rattle.sheet_sections.proofs.RunLaws.{same-run, turn-follows, turn_on, turn-back, no-runs-left}
use Rattle.sheet_sections.specs.RunSection.{run_at}
use Rattle.sheet_sections.proofs.SectionLaws.{items-same}
use Rattle.sheet_sections.proofs.good_runs.Goals as goal

pub loop-i-init : goal.loop-i-init
loop-i-init c =
    let w = items-same run_at 6 c.args.bytes.now c.args.at (c.args.at + 6 * 0) c.args.count (c.args.count - 0) (omega arith) (omega arith) in
    (omega arith, (λ h. rw w at h), (λ h. rw (← w) at h))

pub loop-i-preserved : goal.loop-i-preserved
loop-i-preserved c =
    let l = c.loop-i in
    let a = c.args in
    let s = a.bytes.now in
    let place = a.at + 6 * l.i in
    let place' = a.at + 6 * (l.i + 1) in
    let r : Run ℕ = record { first = c.u16_at-first.result; last = c.u16_at-last.result; value = c.u16_at-value.result } in
    let e = same-run s place r.first r.last r.value c.u16_at-first.ensures.0 c.u16_at-last.ensures.0 c.u16_at-value.ensures.0 in
    let ep : place' ≡ place + 6 = omega arith in
    let el : a.count - l.i ≡ suc (a.count - (l.i + 1)) = omega arith in
    let f = c.if-not-follows.ensures in (
      omega (arith, f.inside),
      (λ h. l.invariant.1 (turn-back s a.glyphs a.limit a.skip l.from l.held place place' (a.count - l.i) (a.count - (l.i + 1)) r e ep el (r.last + 1) refl f h)),
      (λ h. turn_on s a.glyphs a.limit a.skip l.from l.held place place' (a.count - l.i) (a.count - (l.i + 1)) r e ep el (r.last + 1) refl (l.invariant.2 h)),
    )

pub returns-then-not-follows : goal.returns-then-not-follows
returns-then-not-follows c =
    let l = c.loop-i in
    let a = c.args in
    let s = a.bytes.now in
    let place = a.at + 6 * l.i in
    let r : Run ℕ = record { first = c.u16_at-first.result; last = c.u16_at-last.result; value = c.u16_at-value.result } in
    let e = same-run s place r.first r.last r.value c.u16_at-first.ensures.0 c.u16_at-last.ensures.0 c.u16_at-value.ensures.0 in
    let el : a.count - l.i ≡ suc (a.count - (l.i + 1)) = omega arith in
    λ h. c.if-not-follows.ensures
    (turn-follows s a.glyphs a.limit a.skip l.from l.held place (place + 6) (a.count - l.i) (a.count - (l.i + 1)) r e refl el (l.invariant.2 h))

pub returns : goal.returns
returns c =
    let l = c.loop-i in
    let a = c.args in
    l.invariant.1 (no-runs-left a.bytes.now a.glyphs a.limit a.skip l.from l.held (a.at + 6 * l.i) (a.count - l.i) (omega arith) (omega arith))
