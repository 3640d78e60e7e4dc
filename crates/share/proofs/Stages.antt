-- The staged rule as the functions follow it: what each return of one stage has added, what holds at each turn of the loops over the stages, and the whole.
use mathlib.Core.Path.{◌≡◌, refl, sym, ap, ◌∙◌}
use mathlib.Core.List.{List, [], ◌∷◌}
use mathlib.Core.Bool.{Bool, true, false, cond, false≢true}
use Prim.Native.Nat.{ℕ, zero, suc, ◌+◌, ◌-◌, ◌≤◌, ◌<◌}
use native.Mathlib.Omega.{arith}
use native.Mathlib.Nat.{zero-add, le_of_suc-le-suc}
use lib.Dec.{leb, ltb}
use lib.ListN.{length, drop, replicate, length-replicate, length-map}
use borrow.Author.Tests.{lt-ltb, le-ltb, le-leb, lt-leb}
use Rattle.share.specs.Share.{total, still, plus, of_stage, shares, stage_moves, stage_left, stages, stages_moves, stages_left, back_moves, back_left, remainder, moves_by, left_by}
use Rattle.share.specs.Sides.{stage_in, extra_in, stages_in, extras_in, moves_in, stage_count, Sides, Addable}
use Rattle.share.proofs.Lists.{total-plus, plus_assoc, plus-nothing, total-still, length-still, no-shares, length-shares}
use Rattle.share.proofs.Theory.{stage-sum, stages-sum, back_sum, length-stage_moves, length-back_moves, length-moves_by}

-- ---- one stage

-- one after the other
plus-both : (m k out : List ℕ) {out₁ out₂ : List ℕ} → out₁ ≡ plus out m → out₂ ≡ plus out₁ k → out₂ ≡ plus out (plus m k)
plus-both m k out e f = f ∙ ap (λ (l : List ℕ). plus l k) e ∙ plus_assoc out m k

-- with r left, the stage's factors f, whose total is t, and its extra weights u
pub stage-none : {r : ℕ} (f u out : List ℕ) → length f ≡ length out → length u ≡ length out → r ≡ 0 → (0 ≡ stage_left r f u) × (out ≡ plus out (stage_moves r f u))
stage-none {r} f u out a b z =
    let s = stage-sum r f u in
    (omega arith, sym (plus-nothing out (stage_moves r f u) (omega arith) (omega (arith, length-stage_moves (length out) r f u a b))))

module _ {r t : ℕ} (f out : List ℕ) (e : t ≡ total f) where
  pub stage-within : (u : List ℕ) {out₁ : List ℕ} → r ≤ t → out₁ ≡ plus out (shares r f) → (0 ≡ stage_left r f u) × (out₁ ≡ plus out (stage_moves r f u))
  unfolding stage_moves stage_left
  stage-within u h m =
      let b : leb r (total f) ≡ true = le-leb r (total f) (omega arith) in
      (rw b refl, rw b m)

  module _ (h : t < r) where
    past : leb r (total f) ≡ false
    past = lt-leb r (total f) (omega arith)

    -- what is past the factors can be added to them
    pub past-holds : {sides out₁ : List ℕ} → Addable r sides out → length out₁ ≡ length out → out₁ ≡ plus out f → Addable (r - t) sides out₁
    past-holds p l m =
        let s = ap total m ∙ total-plus out f in
        record { equal = l ∙ p.equal; small = omega (arith, p.small); room = omega (arith, p.room) }

    -- none is unlimited
    pub stage-free : (u : List ℕ) {out₁ : List ℕ} → 0 ≡ total u → length u ≡ length out₁ → out₁ ≡ plus out f → (r - t ≡ stage_left r f u) × (out₁ ≡ plus out (stage_moves r f u))
    unfolding stage_moves stage_left
    stage-free u {out₁} z l m =
        let b : ltb 0 (total u) ≡ false = le-ltb 0 (total u) (omega arith) in (
          rw (past, b) (omega arith),
          rw past (plus-both f (shares (r - total f) u) out m (sym (plus-nothing out₁ (shares (r - total f) u) (no-shares (r - total f) u (sym z)) (omega (arith, length-shares (r - total f) u))))),
        )

    pub stage-past : (u : List ℕ) {out₁ out₂ : List ℕ} → 0 < total u → out₁ ≡ plus out f → out₂ ≡ plus out₁ (shares (r - t) u)
        → (0 ≡ stage_left r f u) × (out₂ ≡ plus out (stage_moves r f u))
    unfolding stage_moves stage_left
    stage-past u p m k =
        let b : ltb 0 (total u) ≡ true = lt-ltb 0 (total u) p in
        (rw (past, b) refl, rw past (plus-both f (shares (r - total f) u) out m (rw e at k)))

-- ---- the loops over the stages

pub at_stage : (s : ℕ) → s < stage_count → drop s stages ≡ s ∷ drop (s + 1) stages
unfolding stages
at_stage zero h = refl
at_stage (suc zero) h = refl
at_stage (suc (suc zero)) h = refl
at_stage (suc (suc (suc zero))) h = refl
at_stage (suc (suc (suc (suc s)))) h = absurd (omega arith)

pub at-end : (s : ℕ) → s ≡ stage_count → drop s stages ≡ []
unfolding stages
at-end s e = ap (λ (n : ℕ). drop n stages) e

plus-still : (out ks : List ℕ) → length ks ≡ length out → plus out (still ks) ≡ out
plus-still out ks e = plus-nothing out (still ks) (total-still ks) (omega (arith, length-still ks))

-- steps 1 and 2: the next stage is s, and `left` is left
pub record Staging (ks fs us : List ℕ) (gap : ℕ) (out₀ : List ℕ) (s left : ℕ) (out : List ℕ) : Type 0 where
  pub same : length out ≡ length out₀
  pub less : left ≤ gap
  pub room : total out + left ≡ total out₀ + gap
  pub rest : stages_left ks fs us stages gap ≡ stages_left ks fs us (drop s stages) left
  pub moves : plus out₀ (stages_moves ks fs us stages gap) ≡ plus out (stages_moves ks fs us (drop s stages) left)

module _ {ks fs us : List ℕ} {gap : ℕ} {out₀ : List ℕ} {s left : ℕ} {out : List ℕ} (g : Staging ks fs us gap out₀ s left out) where
  pub staging-on : {q : ℕ} {out' : List ℕ} → s < stage_count → q ≡ stage_left left (of_stage s ks fs) (of_stage s ks us)
      → out' ≡ plus out (stage_moves left (of_stage s ks fs) (of_stage s ks us)) → length out' ≡ length out → Staging ks fs us gap out₀ (s + 1) q out'
  staging-on {q} {out'} h e m l =
      let f = of_stage s ks fs in
      let u = of_stage s ks us in
      let sum = stage-sum left f u in
      let more = ap total m ∙ total-plus out (stage_moves left f u) in
      record {
        same = l ∙ g.same;
        less = omega (arith, g.less);
        room = omega (arith, g.room);
        rest = g.rest ∙ ap (λ (l : List ℕ). stages_left ks fs us l left) (at_stage s h) ∙ ap (stages_left ks fs us (drop (s + 1) stages)) (sym e);
        moves =
            g.moves ∙ ap (λ (l : List ℕ). plus out (stages_moves ks fs us l left)) (at_stage s h)
            ∙ sym (plus-both (stage_moves left f u) (stages_moves ks fs us (drop (s + 1) stages) (stage_left left f u)) out m (ap (λ (n : ℕ). plus out' (stages_moves ks fs us (drop (s + 1) stages) n)) e));
      }

  pub staging-end : length ks ≡ length out₀ → s ≡ stage_count → (left ≡ stages_left ks fs us stages gap) × (out ≡ plus out₀ (stages_moves ks fs us stages gap))
  staging-end k e =
      let d = at-end s e in (
        sym (g.rest ∙ ap (λ (l : List ℕ). stages_left ks fs us l left) d),
        sym (g.moves ∙ ap (λ (l : List ℕ). plus out (stages_moves ks fs us l left)) d ∙ plus-still out ks (omega (arith, g.same))),
      )

-- step 3: the next stage is s; nothing is moved yet
pub record Backing (ks fs : List ℕ) (left : ℕ) (out₀ : List ℕ) (s : ℕ) (out : List ℕ) : Type 0 where
  pub same : out ≡ out₀
  pub rest : back_left ks fs stages left ≡ back_left ks fs (drop s stages) left
  pub moves : back_moves ks fs stages left ≡ back_moves ks fs (drop s stages) left

module _ {ks fs : List ℕ} {left : ℕ} {out₀ : List ℕ} {s : ℕ} {out : List ℕ} (g : Backing ks fs left out₀ s out) where
  rest_at : s < stage_count → (b : Bool) → ltb 0 (total (of_stage s ks fs)) ≡ b → back_left ks fs stages left ≡ cond b 0 (back_left ks fs (drop (s + 1) stages) left)
  rest_at h b e =
      g.rest ∙ ap (λ (l : List ℕ). back_left ks fs l left) (at_stage s h)
      ∙ ap (λ (b : Bool). cond b 0 (back_left ks fs (drop (s + 1) stages) left)) e

  moves-at : s < stage_count → (b : Bool) → ltb 0 (total (of_stage s ks fs)) ≡ b
      → back_moves ks fs stages left ≡ cond b (shares left (of_stage s ks fs)) (back_moves ks fs (drop (s + 1) stages) left)
  moves-at h b e =
      g.moves ∙ ap (λ (l : List ℕ). back_moves ks fs l left) (at_stage s h)
      ∙ ap (λ (b : Bool). cond b (shares left (of_stage s ks fs)) (back_moves ks fs (drop (s + 1) stages) left)) e

  pub backing-on : {t : ℕ} → s < stage_count → t ≡ total (of_stage s ks fs) → t ≤ 0 → Backing ks fs left out₀ (s + 1) out
  backing-on {t} h e z =
      let b : ltb 0 (total (of_stage s ks fs)) ≡ false = le-ltb 0 (total (of_stage s ks fs)) (omega arith) in
      record { same = g.same; rest = rest_at h false b; moves = moves-at h false b }

  pub backing-found : {t : ℕ} {out' : List ℕ} → s < stage_count → t ≡ total (of_stage s ks fs) → 0 < t → out' ≡ plus out (shares left (of_stage s ks fs))
      → (0 ≡ back_left ks fs stages left) × (out' ≡ plus out₀ (back_moves ks fs stages left))
  backing-found {t} {out'} h e p m =
      let b : ltb 0 (total (of_stage s ks fs)) ≡ true = lt-ltb 0 (total (of_stage s ks fs)) (omega arith) in
      (sym (rest_at h true b), m ∙ ap (λ (l : List ℕ). plus l (shares left (of_stage s ks fs))) g.same ∙ ap (plus out₀) (sym (moves-at h true b)))

  pub backing-end : length ks ≡ length out₀ → s ≡ stage_count → (left ≡ back_left ks fs stages left) × (out ≡ plus out₀ (back_moves ks fs stages left))
  backing-end k e =
      let d = at-end s e in (
        sym (g.rest ∙ ap (λ (l : List ℕ). back_left ks fs l left) d),
        g.same ∙ sym (ap (plus out₀) (g.moves ∙ ap (λ (l : List ℕ). back_moves ks fs l left) d) ∙ plus-still out₀ ks k),
      )

-- nothing is left
pub back_none : {left : ℕ} (ks fs out : List ℕ) → length ks ≡ length out → length fs ≡ length out → left ≡ 0
    → (0 ≡ back_left ks fs stages left) × (out ≡ plus out (back_moves ks fs stages left))
back_none {left} ks fs out k f z =
    let sum = back_sum ks fs stages left in
    (omega arith, sym (plus-nothing out (back_moves ks fs stages left) (omega arith) (omega (arith, length-back_moves (length out) ks fs k f stages left))))

-- ---- the whole, from nothing

-- what is added to n zeros
plus-zeros : (n : ℕ) (xs : List ℕ) → n ≤ length xs → plus (replicate n 0) xs ≡ xs
plus-zeros zero xs h = refl
plus-zeros (suc n) [] h = absurd (omega arith)
plus-zeros (suc n) (x ∷ xs) h = rw (zero-add x, plus-zeros n xs (le_of_suc-le-suc h))

total-zeros : (n : ℕ) → total (replicate n 0) ≡ 0
total-zeros zero = refl
total-zeros (suc n) = omega (arith, total-zeros n)

module _ {sides factors : List ℕ} (p : Sides sides factors) {out : List ℕ} (z : out ≡ replicate (length sides) 0) where
  -- zeros have room for any gap of a line
  pub zeros-hold : {gap : ℕ} → gap ≤ 1073741823 → Addable gap sides out
  zeros-hold h =
      let t = ap total z ∙ total-zeros (length sides) in
      record { equal = ap length z ∙ length-replicate (length sides) 0; small = h; room = omega arith }

  -- movements that are added to zeros are the line's
  from-zeros : (back : Bool) (gap : ℕ) → plus out (moves_in back sides factors gap) ≡ moves_in back sides factors gap
  from-zeros back gap =
      let m = moves_in back sides factors gap in
      let l = length-moves_by stages back (length sides) (stages_in sides) factors (extras_in sides) gap (length-map sides stage_in) p.equal (length-map sides extra_in) in
      ap (λ (l : List ℕ). plus l m) z ∙ plus-zeros (length sides) m (omega arith)

  module _ (gap : ℕ) {q : ℕ} {out₁ : List ℕ} (e : q ≡ stages_left (stages_in sides) factors (extras_in sides) stages gap)
      (m : out₁ ≡ plus out (stages_moves (stages_in sides) factors (extras_in sides) stages gap)) where
    -- what is left can still be added
    pub staged-holds : length out₁ ≡ length out → gap ≤ 1073741823 → Addable q sides out₁
    staged-holds l h =
        let sum = stages-sum (stages_in sides) factors (extras_in sides) stages gap in
        let more = ap total m ∙ total-plus out (stages_moves (stages_in sides) factors (extras_in sides) stages gap) in
        let t = ap total z ∙ total-zeros (length sides) in
        record { equal = l ∙ ap length z ∙ length-replicate (length sides) 0; small = omega arith; room = omega arith }

    -- edition 1
    pub whole : (back : Bool) {r : ℕ} {out₂ : List ℕ} → back ≡ true → r ≡ back_left (stages_in sides) factors stages q
        → out₂ ≡ plus out₁ (back_moves (stages_in sides) factors stages q)
        → (r ≡ remainder back (stages_in sides) factors (extras_in sides) gap) × (out₂ ≡ moves_in back sides factors gap)
    unfolding moves_by left_by
    whole false b f k = absurd (false≢true b)
    whole true b f k = (
      f ∙ ap (back_left (stages_in sides) factors stages) e,
      plus-both _ _ out m (k ∙ ap (λ (n : ℕ). plus out₁ (back_moves (stages_in sides) factors stages n)) e) ∙ from-zeros true gap,
    )

    -- edition 2
    pub whole-limits : (back : Bool) → back ≡ false → length out₁ ≡ length out
        → (q ≡ remainder back (stages_in sides) factors (extras_in sides) gap) × (out₁ ≡ moves_in back sides factors gap)
    unfolding moves_by left_by
    whole-limits true b l = absurd (false≢true (sym b))
    whole-limits false b l =
        let n = l ∙ ap length z ∙ length-replicate (length sides) 0 in
        (e, plus-both _ _ out m (sym (plus-still out₁ (stages_in sides) (length-map sides stage_in ∙ sym n))) ∙ from-zeros false gap)
