use Rattle.std.proofs.Common.{ℕ, suc, ◌≡◌, ◌+◌, ◌-◌, ◌∙◌, sym, ap, subst, List, length, get_or, take, set, arith}
use Rattle.std.proofs.Math.Numerals.{add-one}
use Rattle.std.proofs.Math.Seq.{take-suc-set, get_or-set_other}
use Rattle.sheet_distinct.specs.Order.{stretch}
use Rattle.sheet_distinct.specs.Slots.{slot_by}
use Rattle.sheet_distinct.proofs.ApartLaws.{read-alike, read-unlike}
use Rattle.sheet_distinct.proofs.ThinLaws.{Again, again-same, again-first, again-aside, again-alike, thinner}
use Rattle.sheet_distinct.proofs.Stretches.thin_again.Goals.{then-first-eq0, else-first-eq0+else-eq}
use Rattle.sheet_distinct.proofs.Stretches.thin_again.Goals as goal

taken : (x : ℕ) → (x ≡ 0 → ⊥) → x ≡ suc (x - 1)
taken x h = omega (arith, h)

pub loop-i-preserved : goal.loop-i-preserved
loop-i-preserved c =
    let l = c.loop-i in
    let a = c.args in
    let x = a.self.now in
    let f = stretch x.bytes.now x.offsets.now in
    let xs = a.numbers.now in
    let n = length a.firsts.now in
    let s : ℕ → ℕ = λ (y : ℕ). slot_by 2246822519 n (f y) in
    let same : (y z : ℕ) → f y ≡ f z → s y ≡ s z = λ y z h. ap (slot_by 2246822519 n) h in
    let k : ℕ = get_or l.numbers l.i 0 in
    let here : k ≡ get_or xs l.i 0 = l.invariant.3 l.i (omega arith) in
    let r = c.slot_told-slot.result in
    let e : r ≡ s k = c.slot_told-slot.ensures.0 ∙ ap (λ (m : ℕ). slot_by 2246822519 m (f k)) l.invariant.1 in
    let v = c.if-first-eq0 in
    elim v.branch [
      | then-first-eq0 w ↦ (
        omega (arith, ap length w.numbers-is),
        omega arith,
        omega (arith, w.left-is),
        λ j h. ap (λ (t : List ℕ). get_or t j 0) w.numbers-is ∙ l.invariant.3 j (omega arith),
        again-same f xs s (l.i + 1) (set l.firsts r (k + 1)) v.firsts l.numbers v.numbers l.left v.left w.firsts-is w.numbers-is w.left-is
            (subst (λ (i : ℕ). Again f xs s (l.i + 1) (set l.firsts i (k + 1)) (take l.left l.numbers)) (sym e)
            (again-first f xs s same l.i k l.firsts (take l.left l.numbers) l.invariant.4 here (ap (λ (i : ℕ). get_or l.firsts i 0) (sym e) ∙ w.if-first-eq0.true)
            (omega (arith, e, c.slot_told-slot.ensures.1)))),
      )
      | else-first-eq0+else-eq w ↦
          let y = get_or l.firsts r 0 - 1 in
          let z : get_or l.firsts (s k) 0 ≡ suc y = ap (λ (i : ℕ). get_or l.firsts i 0) (sym e) ∙ taken (get_or l.firsts r 0) w.if-first-eq0.false in (
            omega arith,
            omega arith,
            omega (arith, w.left-is),
            λ j h. ap (λ (t : List ℕ). get_or t j 0) w.numbers-is ∙ get_or-set_other l.numbers l.left j k 0 (λ d. omega (arith, d)) ∙ l.invariant.3 j (omega arith),
            again-same f xs s (l.i + 1) l.firsts v.firsts (set l.numbers l.left k) v.numbers (l.left + 1) v.left w.firsts-is w.numbers-is w.left-is
                (subst (λ (t : List ℕ). Again f xs s (l.i + 1) l.firsts t)
                (sym (ap (λ (i : ℕ). take i (set l.numbers l.left k)) (add-one l.left) ∙ take-suc-set l.numbers l.left k (omega arith)))
                (again-aside f xs s same l.i k l.firsts (take l.left l.numbers) l.invariant.4 here y z
                (read-unlike w.get.result.now w.get-else-first-eq0.result.now (f y) (f k) w.get.ensures w.get-else-first-eq0.ensures w.if-eq.ensures))),
          )
    ]

pub returns-then-eq : goal.returns-then-eq
returns-then-eq c =
    let l = c.loop-i in
    let a = c.args in
    let x = a.self.now in
    let f = stretch x.bytes.now x.offsets.now in
    let xs = a.numbers.now in
    let n = length a.firsts.now in
    let s : ℕ → ℕ = λ (y : ℕ). slot_by 2246822519 n (f y) in
    let same : (y z : ℕ) → f y ≡ f z → s y ≡ s z = λ y z h. ap (slot_by 2246822519 n) h in
    let k : ℕ = get_or l.numbers l.i 0 in
    let here : k ≡ get_or xs l.i 0 = l.invariant.3 l.i (omega arith) in
    let r = c.slot_told-slot.result in
    let e : r ≡ s k = c.slot_told-slot.ensures.0 ∙ ap (λ (m : ℕ). slot_by 2246822519 m (f k)) l.invariant.1 in
    let y = get_or l.firsts r 0 - 1 in
    let z : get_or l.firsts (s k) 0 ≡ suc y = ap (λ (i : ℕ). get_or l.firsts i 0) (sym e) ∙ taken (get_or l.firsts r 0) c.if-first-eq0.false in
    again-alike f xs s same l.i k l.firsts (take l.left l.numbers) l.invariant.4 here y z (omega arith)
    (read-alike c.get.result.now c.get-else-first-eq0.result.now (f y) (f k) c.get.ensures c.get-else-first-eq0.ensures c.if-eq.ensures)

pub returns : goal.returns
returns c =
    let l = c.loop-i in
    let a = c.args in
    let x = a.self.now in
    let f = stretch x.bytes.now x.offsets.now in
    let xs = a.numbers.now in
    let s : ℕ → ℕ = λ (y : ℕ). slot_by 2246822519 (length a.firsts.now) (f y) in
    let e : l.i ≡ length xs = omega arith in
    thinner f xs s l.left l.firsts l.numbers (omega arith) (subst (λ (k : ℕ). Again f xs s k l.firsts (take l.left l.numbers)) e l.invariant.4)
