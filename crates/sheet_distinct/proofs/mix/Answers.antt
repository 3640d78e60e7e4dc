use Rattle.std.proofs.Common.{ℕ, ◌+◌, ◌-◌, ◌*◌, ◌/◌, ◌%◌, ◌∙◌, sym, ap, length, arith}
use Rattle.sheet_distinct.specs.Slots.{mixed_by}
use Rattle.sheet_distinct.proofs.SlotLaws.{mixed-next, mixed-end}
use Rattle.sheet_distinct.proofs.mix.Goals as goal

pub loop-i-init : goal.loop-i-init
loop-i-init c = ap (λ (k : ℕ). mixed_by c.args.factor c.args.words.now k 0 0) (omega arith)

pub loop-i-preserved : goal.loop-i-preserved
loop-i-preserved c =
    let l = c.loop-i in
    let s = c.args.words.now in
    let n = length s / 4 in
    ap (λ (x : ℕ). mixed_by c.args.factor s (n - (l.i + 1)) (4 * (l.i + 1)) ((l.sum + x) % 4294967296 * c.args.factor % 4294967296)) c.u32_in-word.ensures.0
    ∙ sym (mixed-next c.args.factor s (n - l.i) (n - (l.i + 1)) (4 * l.i) (4 * (l.i + 1)) l.sum (omega arith) (omega arith)) ∙ l.invariant

pub returns : goal.returns
returns c =
    let l = c.loop-i in
    let s = c.args.words.now in
    sym (mixed-end c.args.factor s (length s / 4 - l.i) (4 * l.i) l.sum (omega arith)) ∙ l.invariant
