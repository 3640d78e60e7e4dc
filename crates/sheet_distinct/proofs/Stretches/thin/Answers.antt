use Rattle.std.proofs.Common.{ℕ, suc, ◌≡◌, ◌+◌, ◌-◌, ◌<◌, ◌∙◌, refl, sym, ap, subst, List, length, get_or, take, set, arith}
use Rattle.std.proofs.Math.Numerals.{add-one}
use Rattle.std.proofs.Math.Seq.{take-suc-set}
use Rattle.sheet_distinct.specs.Order.{stretch}
use Rattle.sheet_distinct.specs.Slots.{slot_of}
use Rattle.sheet_distinct.proofs.ApartLaws.{read-alike, read-unlike}
use Rattle.sheet_distinct.proofs.ThinLaws.{Kept, kept-same, kept-none, kept-first, kept-aside, early, thinned-two, under-two, thinned, kept-under}
use Rattle.sheet_distinct.proofs.Stretches.thin.Goals.{then-first-eq0, else-first-eq0+else-eq}
use Rattle.sheet_distinct.proofs.Stretches.thin.Goals as goal

taken : (x : ℕ) → (x ≡ 0 → ⊥) → x ≡ suc (x - 1)
taken x h = omega (arith, h)

pub loop-k-init : goal.loop-k-init
loop-k-init c =
    let a = c.args in
    let x = a.self.now in
    let f = stretch x.bytes.now x.offsets.now in
    (refl, refl, omega arith, kept-none f (λ (y : ℕ). slot_of (length a.firsts.now) (f y)) a.firsts.now c.requires.1.4)

pub loop-k-preserved : goal.loop-k-preserved
loop-k-preserved c =
    let l = c.loop-k in
    let a = c.args in
    let x = a.self.now in
    let f = stretch x.bytes.now x.offsets.now in
    let n = length a.firsts.now in
    let s : ℕ → ℕ = λ (y : ℕ). slot_of n (f y) in
    let same : (y z : ℕ) → f y ≡ f z → s y ≡ s z = λ y z h. ap (slot_of n) h in
    let r = c.slot-slot.result in
    let e : r ≡ s l.k = c.slot-slot.ensures.0 ∙ ap (λ (m : ℕ). slot_of m (f l.k)) l.invariant.1 in
    let v = c.if-first-eq0 in
    elim v.branch [
      | then-first-eq0 w ↦ (
        omega arith,
        omega arith,
        omega (arith, w.left-is),
        kept-same f s (l.k + 1) (set l.firsts r (l.k + 1)) v.firsts l.numbers v.numbers l.left v.left w.firsts-is w.numbers-is w.left-is
            (subst (λ (i : ℕ). Kept f s (l.k + 1) (set l.firsts i (l.k + 1)) (take l.left l.numbers)) (sym e)
            (kept-first f s same l.k l.firsts (take l.left l.numbers) l.invariant.3 (ap (λ (i : ℕ). get_or l.firsts i 0) (sym e) ∙ w.if-first-eq0.true)
            (omega (arith, e, c.slot-slot.ensures.1)))),
      )
      | else-first-eq0+else-eq w ↦
          let y = get_or l.firsts r 0 - 1 in
          let z : get_or l.firsts (s l.k) 0 ≡ suc y = ap (λ (i : ℕ). get_or l.firsts i 0) (sym e) ∙ taken (get_or l.firsts r 0) w.if-first-eq0.false in (
            omega arith,
            omega arith,
            omega (arith, w.left-is),
            kept-same f s (l.k + 1) l.firsts v.firsts (set l.numbers l.left l.k) v.numbers (l.left + 1) v.left w.firsts-is w.numbers-is w.left-is
                (subst (λ (t : List ℕ). Kept f s (l.k + 1) l.firsts t)
                (sym (ap (λ (i : ℕ). take i (set l.numbers l.left l.k)) (add-one l.left) ∙ take-suc-set l.numbers l.left l.k (omega arith)))
                (kept-aside f s same l.k l.firsts (take l.left l.numbers) l.invariant.3 y z
                (read-unlike w.get.result.now w.get-else-first-eq0.result.now (f y) (f l.k) w.get.ensures w.get-else-first-eq0.ensures w.if-eq.ensures))),
          )
    ]

pub returns-then-eq : goal.returns-then-eq
returns-then-eq c =
    let l = c.loop-k in
    let a = c.args in
    let x = a.self.now in
    let f = stretch x.bytes.now x.offsets.now in
    let n = length a.firsts.now in
    let s : ℕ → ℕ = λ (y : ℕ). slot_of n (f y) in
    let same : (y z : ℕ) → f y ≡ f z → s y ≡ s z = λ y z h. ap (slot_of n) h in
    let r = c.slot-slot.result in
    let e : r ≡ s l.k = c.slot-slot.ensures.0 ∙ ap (λ (m : ℕ). slot_of m (f l.k)) l.invariant.1 in
    let y = get_or l.firsts r 0 - 1 in
    let z : get_or l.firsts (s l.k) 0 ≡ suc y = ap (λ (i : ℕ). get_or l.firsts i 0) (sym e) ∙ taken (get_or l.firsts r 0) c.if-first-eq0.false in
    let h : y < l.k = early f s same l.k l.firsts (take l.left l.numbers) l.invariant.3 y z in (
      thinned-two f s same l.k l.firsts (take l.left l.numbers) l.invariant.3 y z a.count l.numbers (omega arith) (omega (arith, h))
          (read-alike c.get.result.now c.get-else-first-eq0.result.now (f y) (f l.k) c.get.ensures c.get-else-first-eq0.ensures c.if-eq.ensures),
      under-two f s same l.k l.firsts (take l.left l.numbers) l.invariant.3 y z a.count l.numbers (omega arith) (omega (arith, h)) (omega arith),
    )

pub returns : goal.returns
returns c =
    let l = c.loop-k in
    let a = c.args in
    let x = a.self.now in
    let f = stretch x.bytes.now x.offsets.now in
    let s : ℕ → ℕ = λ (y : ℕ). slot_of (length a.firsts.now) (f y) in
    let e : l.k ≡ a.count = omega arith in
    let t = subst (λ (k : ℕ). Kept f s k l.firsts (take l.left l.numbers)) e l.invariant.3 in
    (thinned f s a.count l.left l.firsts l.numbers (omega arith) t, kept-under f s a.count l.left l.firsts l.numbers (omega arith) t)
