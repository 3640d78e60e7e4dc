use Rattle.encoding.specs.Sections.{byte}
use Rattle.encoding.proofs.DictionaryLaws.{all_left, next_left, left_apart}
use Rattle.encoding.proofs.SectionLaws.{byte-free}
use Rattle.actions.specs.Actions.{bytes_at}
use Rattle.write_list.proofs.Laws.{bytes-cons, bytes-none}
use native.Mathlib.Omega.{arith}
use mathlib.Core.Path.{◌≡◌, ap₂, sym, ◌∙◌}
use Prim.Native.Nat.{◌+◌, ◌-◌}
use Rattle.write_list.proofs.bytes_apart.Goals as goal

pub loop-i-init : goal.loop-i-init
loop-i-init c =
    let a = c.args in
    let n : a.count ≡ a.count - 0 = omega arith in
    let p : a.first ≡ a.first + 0 = omega arith in
    let q : a.second ≡ a.second + 0 = omega arith in
    all_left byte (ap₂ (bytes_at a.one.now) p n) (ap₂ (bytes_at a.other.now) q n)

pub loop-i-preserved : goal.loop-i-preserved
loop-i-preserved c =
    let a = c.args in
    next_left byte c.loop-i.invariant (bytes-cons a.one.now _ _ _ _ (omega arith) (omega arith)) (bytes-cons a.other.now _ _ _ _ (omega arith) (omega arith))
    (sym c.u8_at.ensures.0 ∙ c.if-u8_at.false ∙ c.u8_at-in-loop-i.ensures.0)

pub returns-then-u8_at : goal.returns-then-u8_at
returns-then-u8_at c =
    let a = c.args in
    let l = c.loop-i in (
      omega arith,
      left_apart byte l.invariant (bytes-cons a.one.now _ (a.count - (l.i + 1)) _ (a.first + (l.i + 1)) (omega arith) (omega arith)) (bytes-cons a.other.now _ (a.count - (l.i + 1)) _ (a.second + (l.i + 1)) (omega arith) (omega arith))
          byte-free (λ e. c.if-u8_at.true (c.u8_at.ensures.0 ∙ e ∙ sym c.u8_at-in-loop-i.ensures.0)),
    )

pub returns : goal.returns
returns c =
    let a = c.args in
    c.loop-i.invariant.same (bytes-none a.one.now _ _ (omega arith) ∙ sym (bytes-none a.other.now _ _ (omega arith)))
