use Prim.Native.Nat.{ℕ, ◌+◌, ◌-◌, ◌*◌}
use mathlib.Core.Path.{◌≡◌, ap, sym, ◌∙◌, refl}
use mathlib.Core.List.{List}
use native.Mathlib.Omega.{arith}
use native.Mathlib.Decide.{ℕ_discrete}
use lib.ListN.{length, get_or, drop}
use lib.Seq.{sets}
use Rattle.fields.specs.Stores.{put_next}
use Rattle.encoding.specs.Codes.{many}
use Rattle.encoding.specs.Runs.{Run, runs}
use Rattle.encoding.specs.Sections.{run_less_code}
use Rattle.write_runs.specs.Spread.{spread}
use Rattle.write_runs.proofs.Spread.{rise-few}
use Rattle.write_runs.proofs.Laws.{run_step, runs-skipped, runs_taken, runs_done}
use Rattle.write_runs.proofs.put_each.Goals as goal

pub loop-i-init : goal.loop-i-init
loop-i-init c =
    let s = c.requires.0 in
    let z : c.args.to + 6 * 0 ≡ c.args.to = omega arith in (
      omega arith,
      refl,
      omega arith,
      omega (arith, s.few, s.each, rise-few c.args.ends.now 0 s.last s.rise),
      (s.last, s.rise),
      omega arith,
      ap (λ (k : ℕ). sets c.args.out.now k (many run_less_code (runs ℕ_discrete 0 0 (spread 0 c.args.ends.now c.args.nums.now)))) z,
    )

pub loop-i-preserved : goal.loop-i-preserved
loop-i-preserved c =
    let l = c.loop-i in
    let a = c.args in
    let t = c.run_end-end.ensures in
    let r = c.run_end-end.result in
    let e = runs-skipped 0 a.ends.now a.nums.now l.i r l.first l.invariant.4.0 c.requires.0.each t l.invariant.4.1 c.if-value-ne0.false in
    let w = run_step 0 a.ends.now a.nums.now l.i r l.first l.invariant.4.0 c.requires.0.each t l.invariant.4.1 in (
      t.1,
      l.invariant.1,
      omega (arith, t.0, l.invariant.2),
      l.invariant.3,
      (l.invariant.4.0, w.1),
      omega (arith, l.invariant.5, ap length e),
      ap (λ (rs : List (Run ℕ)). sets l.out (a.to + 6 * l.count) (many run_less_code rs)) (sym e) ∙ l.invariant.6,
    )

pub overflow_sub-past-then-value-ne0 : goal.overflow_sub-past-then-value-ne0
overflow_sub-past-then-value-ne0 c =
    let l = c.loop-i in
    let a = c.args in
    let w = run_step 0 a.ends.now a.nums.now l.i c.run_end-end.result l.first l.invariant.4.0 c.requires.0.each c.run_end-end.ensures l.invariant.4.1 in
    omega (arith, w.0)

pub loop-i-preserved-then-value-ne0 : goal.loop-i-preserved-then-value-ne0
loop-i-preserved-then-value-ne0 c =
    let l = c.loop-i in
    let a = c.args in
    let es = a.ends.now in
    let xs = a.nums.now in
    let t = c.run_end-end.ensures in
    let r = c.run_end-end.result in
    let p : ℕ = get_or es (r - 1) 0 in
    let e = runs_taken 0 es xs l.i r l.first l.invariant.4.0 c.requires.0.each t l.invariant.4.1 c.if-value-ne0.true in
    let w = run_step 0 es xs l.i r l.first l.invariant.4.0 c.requires.0.each t l.invariant.4.1 in
    let j : a.to + 6 * (l.count + 1) ≡ a.to + 6 * l.count + 6 = omega arith in
    let run : Run ℕ = record { first = l.first; last = p - 1; value = get_or xs l.i 0 } in (
      t.1,
      omega arith,
      omega (arith, t.0, l.invariant.2),
      l.invariant.3,
      (l.invariant.4.0, w.1),
      omega (arith, l.invariant.5, ap length e),
      put_next (run_less_code run) (many run_less_code (runs ℕ_discrete 0 p (spread p (drop r es) (drop r xs)))) (many run_less_code (runs ℕ_discrete 0 l.first (spread l.first (drop l.i es) (drop l.i xs)))) l.out c.put_run.new.out _ (a.to + 6 * l.count) (a.to + 6 * (l.count + 1))
          (ap (many run_less_code) e) j c.put_run.ensures l.invariant.6,
    )

pub returns : goal.returns
returns c =
    let l = c.loop-i in
    let a = c.args in
    let e = runs_done 0 a.ends.now a.nums.now l.i l.first c.requires.0.each (omega arith) in (
      omega (arith, l.invariant.5, ap length e),
      omega (arith, l.invariant.2, l.invariant.0, l.invariant.3),
      ap (λ (rs : List (Run ℕ)). sets l.out (a.to + 6 * l.count) (many run_less_code rs)) (sym e) ∙ l.invariant.6,
    )
