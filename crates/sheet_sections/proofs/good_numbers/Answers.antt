use Rattle.std.proofs.Common.{ℕ, suc, ◌+◌, ◌-◌, ◌*◌, ◌≤◌, ◌≡◌, refl, arith}
use Rattle.encoding.specs.Runs.{Run}
use Rattle.sheet_sections.proofs.NumberLaws.{same_number, used-fits, number-follows, number-on, number-back, numbers-end, numbers-ended}
use Rattle.encoding.specs.Codes.{items_at}
use Rattle.sheet_sections.specs.Pool.{number_run_at, NumberRuns}
use Rattle.sheet_sections.proofs.SectionLaws.{items-same, says-equal}
use Rattle.sheet_sections.proofs.good_numbers.Goals as goal

pub loop-i-init : goal.loop-i-init
loop-i-init c =
    let w = items-same number_run_at 6 c.args.bytes.now c.args.at (c.args.at + 6 * 0) c.args.count (c.args.count - 0) (omega arith) (omega arith) in
    (omega arith, omega arith, (λ h. rw w at h), (λ h. rw (← w) at h))

pub loop-i-preserved : goal.loop-i-preserved
loop-i-preserved c =
    let l = c.loop-i in
    let a = c.args in
    let s = a.bytes.now in
    let place = a.at + 6 * l.i in
    let place' = a.at + 6 * (l.i + 1) in
    let x = c.u16_at-number.result in
    let r : Run ℕ = record { first = c.u16_at-first.result; last = c.u16_at-last.result; value = x + 1 } in
    let e = same_number s place r.first r.last x c.u16_at-first.ensures.0 c.u16_at-last.ensures.0 c.u16_at-number.ensures.0 in
    let ep : place' ≡ place + 6 = omega arith in
    let el : a.count - l.i ≡ suc (a.count - (l.i + 1)) = omega arith in
    let f = c.if-not-follows.ensures in
    let known : r.value ≤ l.used = omega (arith, f.small) in
    let used = c.used_after-used.result in
    let u = used-fits (x + 1) l.used (omega (arith, c.u16_at-number.ensures.1)) l.invariant.1 in (
      omega (arith, f.inside),
      omega (arith, u, c.used_after-used.ensures),
      (λ h. l.invariant.2 (number-back s a.glyphs a.items l.from l.held l.used place place' (a.count - l.i) (a.count - (l.i + 1)) r e ep el (r.last + 1) used refl c.used_after-used.ensures f known h)),
      (λ h. number-on s a.glyphs a.items l.from l.held l.used place place' (a.count - l.i) (a.count - (l.i + 1)) r e ep el (r.last + 1) used refl c.used_after-used.ensures (l.invariant.3 h)),
    )

pub returns-then-not-follows : goal.returns-then-not-follows
returns-then-not-follows c =
    let l = c.loop-i in
    let a = c.args in
    let s = a.bytes.now in
    let place = a.at + 6 * l.i in
    let x = c.u16_at-number.result in
    let r : Run ℕ = record { first = c.u16_at-first.result; last = c.u16_at-last.result; value = x + 1 } in
    let e = same_number s place r.first r.last x c.u16_at-first.ensures.0 c.u16_at-last.ensures.0 c.u16_at-number.ensures.0 in
    let el : a.count - l.i ≡ suc (a.count - (l.i + 1)) = omega arith in
    λ h. c.if-not-follows.ensures
    (number-follows s a.glyphs a.items l.from l.held l.used place (place + 6) (a.count - l.i) (a.count - (l.i + 1)) r e refl el (l.invariant.3 h))

pub returns : goal.returns
returns c =
    let l = c.loop-i in
    let a = c.args in
    let s = a.bytes.now in
    let place = a.at + 6 * l.i in
    let left = a.count - l.i in
    let z : left ≡ 0 = omega arith in
    says-equal l.used (a.items + 1) (NumberRuns a.glyphs a.items (items_at number_run_at 6 s a.at a.count))
    (λ e. l.invariant.2 (numbers-end s a.glyphs a.items l.from l.held l.used place left z l.invariant.0 (omega (arith, e))))
    (λ h. omega (arith, numbers-ended s a.glyphs a.items l.from l.held l.used place left z (l.invariant.3 h)))
