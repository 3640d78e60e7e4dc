use Rattle.std.proofs.Common.{◌≡◌, ◌<◌, List, length, set, sym, ap, ◌∙◌, arith, add-one}
use Rattle.types.specs.declared.Verdict.{Verdict}
use Rattle.line_verdicts.specs.Bits.{told}
use Rattle.line_justify.specs.Stored.{filled_with}
use Rattle.line_justify.proofs.Laws.{stored-none, stored_next, taken-first, one_left, taken-verdict, taken_next}
use Rattle.line_justify.proofs.fill.Goals as goal

pub loop-at-init : goal.loop-at-init
loop-at-init c = record { filled = sym (stored-none (told c.args.bits.now) c.args.list.now); taken = taken-first c.args.bits.now c.start-cursor.ensures }

pub next_verdict-requires : goal.next_verdict-requires
next_verdict-requires c =
    let l = c.loop-at in
    (c.requires.kept, l.invariant.taken.serves, one_left c.args.bits.now l.at l.cursor l.invariant.taken (omega (arith, c.requires.most)))

pub loop-at-preserved : goal.loop-at-preserved
loop-at-preserved c =
    let a = c.args in
    let l = c.loop-at in
    let v = c.next_verdict.result in
    let past = c.next_verdict.new.self in
    let room : l.at < length a.list.now = omega (arith, c.requires.room) in
    let next = taken-verdict a.bits.now l.at l.cursor l.invariant.taken v past c.next_verdict.ensures.0 in
    rw add-one (record {
      filled = c.store.ensures ∙ ap (λ (xs : List Verdict). set xs l.at v) l.invariant.filled ∙ stored_next (told a.bits.now) a.list.now l.at v _ next room;
      taken = taken_next a.bits.now l.at l.cursor l.invariant.taken v past c.next_verdict.ensures.0 c.next_verdict.ensures.1;
    })

pub returns : goal.returns
returns c =
    let a = c.args in
    let e : c.loop-at.at ≡ a.n = omega arith in
    c.loop-at.invariant.filled ∙ ap (λ k. filled_with (told a.bits.now) k a.list.now) e
