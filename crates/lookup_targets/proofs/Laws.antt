-- Laws of what a lookup's values lead to, for the proofs of the functions and for callers.
use Rattle.std.specs.Prelude.{Err}
use Rattle.fields.specs.declared.Fault.{Fault}
use Rattle.fields.specs.Faults.{earlier}
use Rattle.std.specs.Prelude.{None, Option, Some}
use Rattle.std.specs.Prelude.{Ok, Err}
use Prim.Native.Nat.{ℕ, zero, suc, ◌+◌, ◌-◌, ◌*◌, ◌/◌, ◌%◌, ◌≤◌, ◌<◌, ◌^◌, min, max}
use mathlib.Core.Path.{◌≡◌, refl, sym, ap, ap₂, subst, ◌∙◌}
use mathlib.Core.List.{List}
use mathlib.Core.Bool.{Bool, true, false, cond}
use mathlib.Core.Logic.{◌⊎◌, inl, inr, ⊎_elim}
use native.Mathlib.Decide.{ℕ_discrete}
use native.Mathlib.Omega.{arith}
use lib.Dec.{ltb, leb, eqb}
use borrow.Author.Tests.{eq-eqb, ne_eqb, le-leb, lt-leb, ltb-true, ltb-false}
use lib.ListN.{get_or, set, replicate}
use lib.Seq.{get_or-set_other}
use Rattle.fields.specs.declared.Refusal.{Refusal}
use Rattle.fields.specs.Faults.{FirstFault}
use Rattle.fields.specs.Faults.{Clear, Bad}
use Rattle.fields.specs.Field.{u16_at}
use Rattle.fields.specs.Faults.{◌then◌}
use Rattle.fields.proofs.Laws.{then-assoc, then-clear, then-second, then-stop, then-go}
use Rattle.fields.specs.Walk.{walk, each}
use Rattle.fields.proofs.Walk.{walk-stop, walk-next, walk_none}
use Rattle.lookup.proofs.Laws.{value_in_lem}
use Rattle.lookup_runs.specs.declared.Run.{Run}
use Rattle.lookup_runs.specs.Runs.{field_in_run, Follows}
use Rattle.lookup.specs.Find.{value_of}
use Rattle.actions.specs.Faults.{actions_fault}
use Rattle.actions.specs.Notes.{Passing}
use Rattle.actions.proofs.Notes.{set_here, no_note, each_fewer, blank-passed}
use Rattle.lookup_targets.specs.declared.Kind.{Kind}
use Rattle.lookup_targets.specs.declared.Kind.TheVariants.{Clusters, Lists}
use Rattle.lookup_targets.specs.Values.{spot_of, item_fault, spot_fault, place_fault, target_fault, from_glyph, NoteTells, besides, Judged, Told, Ahead, note_at, note_each, note_along, Noted}

-- what is judged of a value, from what its steps found
pub place_of : (t : List ℕ) (glyphs : ℕ) (kind : Kind) (base p : ℕ) {fault : FirstFault} {spot : Option ℕ}
    → fault ≡ spot_fault t glyphs kind spot → spot ≡ spot_of kind base (Some (u16_at t p)) → fault ≡ place_fault t glyphs kind base p
unfolding place_fault
place_of t glyphs kind base p f s = f ∙ ap (spot_fault t glyphs kind) s

-- nothing is noted at first
pub blank-judged : (t : List ℕ) (glyphs : ℕ) (judged : List ℕ) → ((i : ℕ) → get_or judged i 0 ≡ 0) → Judged t glyphs judged
blank-judged t glyphs judged blank = record { clear = λ kind i e. absurd (none kind i e); passed = blank-passed t glyphs judged blank }
  where
    none : (kind : Kind) (i : ℕ) → NoteTells kind (get_or judged i 0) → ⊥
    none Clusters i e = omega (arith, blank i)
    none Lists i e = omega (arith, blank i)

pub none-judged : (t : List ℕ) (glyphs n : ℕ) → Judged t glyphs (replicate n 0)
none-judged t glyphs n = blank-judged t glyphs (replicate n 0) (no_note n)

-- what a note tells besides, it tells of one kind
besides-told : (kind k : Kind) (note : ℕ) → NoteTells k (besides kind note) → (k ≡ kind) ⊎ NoteTells k note
besides-told Clusters Clusters note e = inl refl
besides-told Clusters Lists note e = inr (omega arith)
besides-told Lists Clusters note e = let h : (note / 2 * 2 + 1) / 2 ≡ note / 2 = omega arith in inr (ap (λ (k : ℕ). k % 2) (sym h) ∙ e)
besides-told Lists Lists note e = inl refl

besides-passed : (kind : Kind) (note : ℕ) → besides kind note / 4 ≡ note / 4
besides-passed Clusters note = omega arith
besides-passed Lists note = omega arith

-- values that follow each other are judged as two stretches
each_both : (one : ℕ → FirstFault) (n m p : ℕ) → each one (λ q. q + 2) (n + m) p ≡ (each one (λ q. q + 2) n p then each one (λ q. q + 2) m (p + 2 * n))
unfolding walk earlier
each_both one zero m p =
    let count : 0 + m ≡ m = omega arith in
    let e : p ≡ p + 2 * 0 = omega arith in
    ap₂ (λ (k q : ℕ). each one (λ q. q + 2) k q) count e
each_both one (suc n) m p =
    let count : suc n + m ≡ suc (n + m) = omega arith in
    let end : p + 2 + 2 * n ≡ p + 2 * suc n = omega arith in
    ap (λ (k : ℕ). each one (λ q. q + 2) k p) count
    ∙ ap (λ (f : FirstFault). one p then f) (each_both one n m (p + 2))
    ∙ sym (then-assoc (one p) (each one (λ q. q + 2) n (p + 2)) (each one (λ q. q + 2) m (p + 2 + 2 * n)))
    ∙ ap (λ (k : ℕ). each one (λ q. q + 2) (suc n) p then each one (λ q. q + 2) m k) end

-- one value more of which the notes tell
pub told-more : {t : List ℕ} {kind : Kind} {base : ℕ} {judged : List ℕ} (place from value : ℕ) → ((i : ℕ) → from ≤ i → i < value → Told t kind base judged (place + 2 * i))
    → Told t kind base judged (place + 2 * value) → (i : ℕ) → from ≤ i → i < value + 1 → Told t kind base judged (place + 2 * i)
told-more {t} {kind} {base} {judged} place from value before here i low high = go (ℕ_discrete i value)
  where
    go : Dec (i ≡ value) → Told t kind base judged (place + 2 * i)
    go (yes q) = let e : place + 2 * value ≡ place + 2 * i = omega arith in subst (Told t kind base judged) e here
    go (no n) = before i low (omega arith)

-- values that each lead to no fault
each-clear : (one : ℕ → FirstFault) (n p : ℕ) → ((i : ℕ) → i < n → one (p + 2 * i) ≡ Clear) → each one (λ q. q + 2) n p ≡ Clear
unfolding walk
each-clear one zero p clear = refl
each-clear one (suc n) p clear = then-go _ (first (clear 0 (omega arith))) ∙ each-clear one n (p + 2) (λ i l. next i (clear (suc i) (omega arith)))
  where
    first : one (p + 2 * 0) ≡ Clear → one p ≡ Clear
    first e = let q : p ≡ p + 2 * 0 = omega arith in ap one q ∙ e

    next : (i : ℕ) → one (p + 2 * suc i) ≡ Clear → one (p + 2 + 2 * i) ≡ Clear
    next i e = let q : p + 2 + 2 * i ≡ p + 2 * suc i = omega arith in ap one q ∙ e

-- values of which the notes tell are passed, those from number `from` on and before number `k`
pub passed-told : (t : List ℕ) (glyphs : ℕ) (kind : Kind) (base : ℕ) (judged : List ℕ) (place count from k : ℕ) → Judged t glyphs judged → from ≤ k → k ≤ count
    → ((i : ℕ) → from ≤ i → i < k → Told t kind base judged (place + 2 * i))
    → each (place_fault t glyphs kind base) (λ q. q + 2) (count - from) (place + 2 * from) ≡ each (place_fault t glyphs kind base) (λ q. q + 2) (count - k) (place + 2 * k)
passed-told t glyphs kind base judged place count from k m low high told =
    let all : count - from ≡ k - from + (count - k) = omega arith in
    let end : place + 2 * from + 2 * (k - from) ≡ place + 2 * k = omega arith in
    ap (λ (n : ℕ). each (place_fault t glyphs kind base) (λ q. q + 2) n (place + 2 * from)) all
    ∙ each_both (place_fault t glyphs kind base) (k - from) (count - k) (place + 2 * from)
    ∙ then-go _ (each-clear (place_fault t glyphs kind base) (k - from) (place + 2 * from) clear)
    ∙ ap (λ (p : ℕ). each (place_fault t glyphs kind base) (λ q. q + 2) (count - k) p) end
  where
    clear : (i : ℕ) → i < k - from → place_fault t glyphs kind base (place + 2 * from + 2 * i) ≡ Clear
    clear i l =
        let here : place + 2 * from + 2 * i ≡ place + 2 * (from + i) = omega arith in
        ap (place_fault t glyphs kind base) here ∙ (told (from + i) (omega arith) (omega arith)).clear glyphs m

-- the values of a run: one, or as many as an array has
pub one_value : (one : ℕ → FirstFault) (array : Bool) (n p : ℕ) → array ≡ false → one p ≡ each one (λ q. q + 2) (cond array n 1) p
unfolding walk
one_value one array n p e = sym (ap (λ (b : Bool). each one (λ q. q + 2) (cond b n 1) p) e ∙ then-clear (one p))

-- ---- values of which is known what they lead to

-- where nothing is noted nothing is known
pub none_ahead : (t : List ℕ) (glyphs : ℕ) (kind : Kind) (base n : ℕ) → Ahead t glyphs kind base (replicate n 0)
none_ahead t glyphs kind base n = record { clear = λ p. walk_none _ _ _ _ _ _ (omega (arith, no_note n p)) }

-- one turn of noting, and its end
pub each_turn : (count value p q : ℕ) (ahead after : List ℕ) → value < count → q ≡ p + 2 → after ≡ note_at p (count - value) ahead
    → note_each p (count - value) ahead ≡ note_each q (count - (value + 1)) after
unfolding note_each
each_turn count value p q ahead after h e n =
    let more : count - value ≡ suc (count - (value + 1)) = omega arith in
    rw more (ap₂ (λ (k : ℕ) (l : List ℕ). note_each k (count - (value + 1)) l) (sym e) (sym (n ∙ ap (λ (k : ℕ). note_at p k ahead) more)))

pub each_over : (count value p : ℕ) (ahead : List ℕ) → count ≤ value → note_each p (count - value) ahead ≡ ahead
unfolding note_each
each_over count value p ahead h = let none : count - value ≡ 0 = omega arith in rw none refl

pub along-turn : (turns place left told part : ℕ) (ahead after : List ℕ) → 0 < left → left ≤ turns → told ≡ max 1 (get_or ahead place 0) → part ≡ min told left
    → after ≡ note_at place left ahead → note_along turns place left ahead ≡ note_along (turns - 1) (place + 2 * part) (left - part) after
unfolding note_along
along-turn zero place left told part ahead after h m e f n = absurd (omega arith)
along-turn (suc turns) place left told part ahead after h m e f n =
    let down : suc turns - 1 ≡ turns = omega arith in
    let some : left ≡ 0 → ⊥ = λ z. omega (arith, z, h) in
    let led : part ≡ min (max 1 (get_or ahead place 0)) left = f ∙ ap (λ (k : ℕ). min k left) e in
    simp (ne_eqb left 0 some, down, led, n)

pub along-over : (turns place left : ℕ) (ahead : List ℕ) → left ≡ 0 → note_along turns place left ahead ≡ ahead
unfolding note_along
along-over zero place left ahead e = refl
along-over (suc turns) place left ahead e = simp (eq-eqb left 0 e)

-- one note after the other, the second of values with which the first ones end
noted-none : (place count : ℕ) (ahead : List ℕ) → Noted place count ahead ahead
noted-none place count ahead = record { at = λ p. inl refl }

noted_more : {before between after : List ℕ} (place count p left : ℕ) → left ≤ count → p + 2 * left ≡ place + 2 * count → Noted place count before between
    → Noted p left between after → Noted place count before after
noted_more {before} {between} {after} place count p left h e f g = record { at = λ q. ⊎_elim (λ s. kept q s (f.at q)) (λ w. inr (w.0, omega (arith, w.1), w.2 ∙ e, w.3)) (g.at q) }
  where
    kept : (q : ℕ) → get_or after q 0 ≡ get_or between q 0
        → (get_or between q 0 ≡ get_or before q 0) ⊎ ((l : ℕ) × (l ≤ count) × (q + 2 * l ≡ place + 2 * count) × (get_or between q 0 ≤ l))
        → (get_or after q 0 ≡ get_or before q 0) ⊎ ((l : ℕ) × (l ≤ count) × (q + 2 * l ≡ place + 2 * count) × (get_or after q 0 ≤ l))
    kept q s (inl r) = inl (s ∙ r)
    kept q s (inr w) = inr (w.0, w.1, w.2, omega (arith, w.3, s))

-- a byte noted at the first
noted_one : {ahead : List ℕ} (place count byte : ℕ) → byte ≤ count → Noted place count ahead (set ahead place byte)
noted_one {ahead} place count byte h = record { at = λ p. go p (ℕ_discrete p place) }
  where
    here : (get_or (set ahead place byte) place 0 ≡ get_or ahead place 0)
        ⊎ ((left : ℕ) × (left ≤ count) × (place + 2 * left ≡ place + 2 * count) × (get_or (set ahead place byte) place 0 ≤ left))
    here = ⊎_elim (λ s. inr (count, omega arith, refl, omega arith)) (λ s. inl s) (set_here ahead place byte)

    go : (p : ℕ) → Dec (p ≡ place)
        → (get_or (set ahead place byte) p 0 ≡ get_or ahead p 0) ⊎ ((left : ℕ) × (left ≤ count) × (p + 2 * left ≡ place + 2 * count) × (get_or (set ahead place byte) p 0 ≤ left))
    go p (yes q) = rw q here
    go p (no n) = inl (get_or-set_other ahead place p byte 0 n)

noted-at : (place count : ℕ) (ahead : List ℕ) → Noted place count ahead (note_at place count ahead)
unfolding note_at
noted-at place count ahead = go (leb (min count 255) (get_or ahead place 0))
  where
    go : (b : Bool) → Noted place count ahead (cond b ahead (set ahead place (min count 255)))
    go true = noted-none place count ahead
    go false = noted_one place count (min count 255) (omega arith)

-- what is noted at each of them, or along them, tells no more than there are
all_noted : (place count : ℕ) (ahead : List ℕ) → Noted place count ahead (note_each place count ahead)
unfolding note_each
all_noted place zero ahead = noted-none place 0 ahead
all_noted place (suc left) ahead =
    noted_more place (suc left) (place + 2) left (omega arith) (omega arith) (noted-at place (suc left) ahead) (all_noted (place + 2) left (note_at place (suc left) ahead))

pub each-noted : {ahead after : List ℕ} (place count : ℕ) → after ≡ note_each place count ahead → Noted place count ahead after
each-noted {ahead} place count e = subst (Noted place count ahead) (sym e) (all_noted place count ahead)

some-noted : (turns place left : ℕ) (ahead : List ℕ) → Noted place left ahead (note_along turns place left ahead)
unfolding note_along
some-noted zero place left ahead = noted-none place left ahead
some-noted (suc turns) place left ahead =
    go (eqb left 0)
    (noted_more place left (place + 2 * min (max 1 (get_or ahead place 0)) left) (left - min (max 1 (get_or ahead place 0)) left) (omega arith) (omega arith)
    (noted-at place left ahead) (some-noted turns _ _ _))
  where
    go : {after : List ℕ} (b : Bool) → Noted place left ahead after → Noted place left ahead (cond b ahead after)
    go true w = noted-none place left ahead
    go false w = w

pub along-noted : {ahead after : List ℕ} (place count : ℕ) → after ≡ note_along count place count ahead → Noted place count ahead after
along-noted {ahead} place count e = subst (Noted place count ahead) (sym e) (some-noted count place count ahead)

module _ (t : List ℕ) (glyphs : ℕ) (kind : Kind) (base : ℕ) where
  -- the last of values that lead to no fault, and some of them from their first on
  some-clear : (place count p left n : ℕ) → left ≤ count → p + 2 * left ≡ place + 2 * count → n ≤ left
      → each (place_fault t glyphs kind base) (λ q. q + 2) count place ≡ Clear → each (place_fault t glyphs kind base) (λ q. q + 2) n p ≡ Clear
  some-clear place count p left n h e f clear =
      let all : count ≡ count - left + left = omega arith in
      let here : place + 2 * (count - left) ≡ p = omega arith in
      each_fewer (place_fault t glyphs kind base) (λ q. q + 2) n left p f
      (ap (λ (k : ℕ). each (place_fault t glyphs kind base) (λ q. q + 2) left k) (sym here)
      ∙ then-second _ _ (sym (each_both (place_fault t glyphs kind base) (count - left) left place) ∙ ap (λ (k : ℕ). each (place_fault t glyphs kind base) (λ q. q + 2) k place) (sym all) ∙ clear))

  -- what is noted of such values is true
  pub noted-ahead : {before after : List ℕ} (place count : ℕ) → Ahead t glyphs kind base before → each (place_fault t glyphs kind base) (λ q. q + 2) count place ≡ Clear
      → Noted place count before after → Ahead t glyphs kind base after
  noted-ahead {before} {after} place count a clear noted = record { clear = λ p. go p (noted.at p) }
    where
      go : (p : ℕ) → (get_or after p 0 ≡ get_or before p 0) ⊎ ((left : ℕ) × (left ≤ count) × (p + 2 * left ≡ place + 2 * count) × (get_or after p 0 ≤ left))
          → each (place_fault t glyphs kind base) (λ q. q + 2) (get_or after p 0) p ≡ Clear
      go p (inl s) = ap (λ (k : ℕ). each (place_fault t glyphs kind base) (λ q. q + 2) k p) s ∙ a.clear p
      go p (inr w) = some-clear place count p w.0 (get_or after p 0) w.1 w.2 w.3 clear

  -- values that are passed, `part` of those left, because they are known or because they were judged
  pub part-passed : (left p part : ℕ) → part ≤ left → each (place_fault t glyphs kind base) (λ q. q + 2) part p ≡ Clear
      → each (place_fault t glyphs kind base) (λ q. q + 2) left p ≡ each (place_fault t glyphs kind base) (λ q. q + 2) (left - part) (p + 2 * part)
  part-passed left p part h clear =
      let all : left ≡ part + (left - part) = omega arith in
      ap (λ (k : ℕ). each (place_fault t glyphs kind base) (λ q. q + 2) k p) all
      ∙ each_both (place_fault t glyphs kind base) part (left - part) p
      ∙ then-go _ clear

  pub part-known : {ahead : List ℕ} (p known part : ℕ) → Ahead t glyphs kind base ahead → known ≡ get_or ahead p 0 → part ≤ known
      → each (place_fault t glyphs kind base) (λ q. q + 2) part p ≡ Clear
  part-known {ahead} p known part a e h = each_fewer (place_fault t glyphs kind base) (λ q. q + 2) part (get_or ahead p 0) p (omega arith) (a.clear p)

  -- a part with a fault ends the search
  pub part-stops : (left p part : ℕ) (f : Fault) → part ≤ left → each (place_fault t glyphs kind base) (λ q. q + 2) part p ≡ Err f
      → each (place_fault t glyphs kind base) (λ q. q + 2) left p ≡ Err f
  part-stops left p part f h bad =
      let all : left ≡ part + (left - part) = omega arith in
      ap (λ (k : ℕ). each (place_fault t glyphs kind base) (λ q. q + 2) k p) all
      ∙ each_both (place_fault t glyphs kind base) part (left - part) p
      ∙ then-stop _ bad
      ∙ bad

-- where an action value leads
pub list-nowhere : (base value : ℕ) → value ≡ 0 → spot_of Lists base (Some value) ≡ None
list-nowhere base value e = simp (eq-eqb value 0 e)

-- glyphs without fault may be passed, as far as they are glyphs of the font
pub each-skip : (one : ℕ → FirstFault) (n g m : ℕ) → ((k : ℕ) → g ≤ k → k < g + m → k < n → one k ≡ Clear)
    → each one (λ k. k + 1) (n - g) g ≡ each one (λ k. k + 1) (n - (g + m)) (g + m)
each-skip one n g zero h =
    let e : g ≡ g + 0 = omega arith in
    ap (λ (k : ℕ). each one (λ k. k + 1) (n - k) k) e
each-skip one n g (suc m) h = go (ltb g n) refl (each-skip one n (g + 1) m (λ k a b c. h k (omega arith) (omega arith) c))
  where
    go : (b : Bool) → ltb g n ≡ b → each one (λ k. k + 1) (n - (g + 1)) (g + 1) ≡ each one (λ k. k + 1) (n - (g + 1 + m)) (g + 1 + m)
        → each one (λ k. k + 1) (n - g) g ≡ each one (λ k. k + 1) (n - (g + suc m)) (g + suc m)
    go true w rest =
        let l : g < n = ltb-true g n w in
        let some : 0 < n - g = omega arith in
        let down : n - g - 1 ≡ n - (g + 1) = omega arith in
        let end : g + 1 + m ≡ g + suc m = omega arith in
        walk-next (λ p _. one p) (λ k. k + 1) (λ p. 0) (n - g) g 0 (g + 1) 0 some (h g (omega arith) (omega arith) l) refl refl
        ∙ ap (λ (k : ℕ). each one (λ k. k + 1) k (g + 1)) down
        ∙ rest
        ∙ ap (λ (k : ℕ). each one (λ k. k + 1) (n - k) k) end
    go false w rest =
        let l : n ≤ g = ltb-false g n w in
        walk_none (λ p _. one p) (λ k. k + 1) (λ p. 0) (n - g) g 0 (omega arith)
        ∙ sym (walk_none (λ p _. one p) (λ k. k + 1) (λ p. 0) (n - (g + suc m)) (g + suc m) 0 (omega arith))

-- glyphs whose values stand one after the other from `p` on are judged by their values
each-places : (one two : ℕ → FirstFault) (n m g p : ℕ) → g + m ≤ n → ((i : ℕ) → i < m → one (g + i) ≡ two (p + 2 * i))
    → each one (λ k. k + 1) (n - g) g ≡ (each two (λ q. q + 2) m p then each one (λ k. k + 1) (n - (g + m)) (g + m))
unfolding walk earlier
each-places one two n zero g p h same =
    let e : g ≡ g + 0 = omega arith in
    ap (λ (k : ℕ). each one (λ k. k + 1) (n - k) k) e
each-places one two n (suc m) g p h same =
    let count : n - g ≡ suc (n - (g + 1)) = omega arith in
    let g-here : g ≡ g + 0 = omega arith in
    let p-here : p + 2 * 0 ≡ p = omega arith in
    let first : one g ≡ two p = ap one g-here ∙ same 0 (omega arith) ∙ ap two p-here in
    let rest = each-places one two n m (g + 1) (p + 2) (omega arith) (λ i l. next i ∙ same (suc i) (omega arith) ∙ after i) in
    let end : g + 1 + m ≡ g + suc m = omega arith in
    ap (λ (k : ℕ). each one (λ k. k + 1) k g) count
    ∙ ap₂ ◌then◌ first rest
    ∙ sym (then-assoc (two p) (each two (λ q. q + 2) m (p + 2)) (each one (λ k. k + 1) (n - (g + 1 + m)) (g + 1 + m)))
    ∙ ap (λ (k : ℕ). each two (λ q. q + 2) (suc m) p then each one (λ k. k + 1) (n - k) k) end
  where
    next : (i : ℕ) → one (g + 1 + i) ≡ one (g + suc i)
    next i = let e : g + 1 + i ≡ g + suc i = omega arith in ap one e

    after : (i : ℕ) → two (p + 2 * suc i) ≡ two (p + 2 + 2 * i)
    after i = let e : p + 2 * suc i ≡ p + 2 + 2 * i = omega arith in ap two e

-- a glyph without a value has no fault
no_value : (t : List ℕ) (glyphs : ℕ) (kind : Kind) (at base glyph : ℕ) → value_of t glyphs at glyph ≡ None → target_fault t glyphs kind at base glyph ≡ Clear
unfolding target_fault
no_value t glyphs kind at base glyph e = ap (λ (f : Option ℕ). spot_fault t glyphs kind (spot_of kind base f)) e

-- the glyphs before a run, and the glyphs of the run
module _ (t : List ℕ) (glyphs : ℕ) (kind : Kind) (at base glyph : ℕ) (r : Run) (w : Follows t at glyph r) (few : glyphs < 2 ^ 16) where
  run-before : each (target_fault t glyphs kind at base) (λ k. k + 1) (glyphs - glyph) glyph
      ≡ each (target_fault t glyphs kind at base) (λ k. k + 1) (glyphs - r.from) r.from
  run-before =
      let begins : glyph ≤ r.from = w.begins in
      let end : glyph + (r.from - glyph) ≡ r.from = omega arith in
      each-skip (target_fault t glyphs kind at base) glyphs glyph (r.from - glyph)
      (λ g a b c. no_value t glyphs kind at base g (value_in_lem t glyphs at g c ∙ w.none g a (omega arith) (omega arith)))
      ∙ ap (λ (j : ℕ). each (target_fault t glyphs kind at base) (λ k. k + 1) (glyphs - j) j) end

  pub run_end : glyphs ≤ r.from → each (target_fault t glyphs kind at base) (λ k. k + 1) (glyphs - glyph) glyph ≡ Clear
  run_end h = run-before ∙ walk_none (λ p _. target_fault t glyphs kind at base p) (λ k. k + 1) (λ p. 0) (glyphs - r.from) r.from 0 (omega arith)

  -- a glyph of the run is judged by its value
  by_place : (g : ℕ) → r.from ≤ g → g < r.until → g < glyphs
      → target_fault t glyphs kind at base g ≡ place_fault t glyphs kind base (field_in_run r g)
  unfolding target_fault place_fault
  by_place g a b c = ap (λ (f : Option ℕ). spot_fault t glyphs kind (spot_of kind base f)) (value_in_lem t glyphs at g c ∙ w.some g a b (omega arith))

  -- the values of an array: as many as the font has glyphs for
  array-judged : r.array ≡ true → r.from < glyphs
      → each (target_fault t glyphs kind at base) (λ k. k + 1) (glyphs - r.from) r.from
      ≡ (each (place_fault t glyphs kind base) (λ q. q + 2) (min r.until glyphs - r.from) r.place
      then each (target_fault t glyphs kind at base) (λ k. k + 1) (glyphs - r.until) r.until)
  array-judged e h =
      let more : r.from < r.until = w.more in
      each-places (target_fault t glyphs kind at base) (place_fault t glyphs kind base) glyphs (min r.until glyphs - r.from) r.from r.place (omega arith)
      (λ i l. by_place (r.from + i) (omega arith) (omega arith) (omega arith) ∙ ap (place_fault t glyphs kind base) (there i))
      ∙ ap (λ (f : FirstFault). each (place_fault t glyphs kind base) (λ q. q + 2) (min r.until glyphs - r.from) r.place then f) (ends (ltb r.until glyphs) refl more)
    where
      there : (i : ℕ) → field_in_run r (r.from + i) ≡ r.place + 2 * i
      there i =
          let q : r.place + 2 * (r.from + i - r.from) ≡ r.place + 2 * i = omega arith in
          ap (λ (b : Bool). cond b (r.place + 2 * (r.from + i - r.from)) r.place) e ∙ q

      ends : (b : Bool) → ltb r.until glyphs ≡ b → r.from < r.until
          → each (target_fault t glyphs kind at base) (λ k. k + 1) (glyphs - (r.from + (min r.until glyphs - r.from))) (r.from + (min r.until glyphs - r.from))
          ≡ each (target_fault t glyphs kind at base) (λ k. k + 1) (glyphs - r.until) r.until
      ends true b more =
          let l : r.until < glyphs = ltb-true r.until glyphs b in
          let q : r.from + (min r.until glyphs - r.from) ≡ r.until = omega arith in
          ap (λ (j : ℕ). each (target_fault t glyphs kind at base) (λ k. k + 1) (glyphs - j) j) q
      ends false b more =
          let l : glyphs ≤ r.until = ltb-false r.until glyphs b in
          walk_none (λ p _. target_fault t glyphs kind at base p) (λ k. k + 1) (λ p. 0) _ _ 0 (omega arith)
          ∙ sym (walk_none (λ p _. target_fault t glyphs kind at base p) (λ k. k + 1) (λ p. 0) (glyphs - r.until) r.until 0 (omega arith))

  -- one value for all glyphs of the run
  one-judged : r.array ≡ false → r.from < glyphs
      → each (target_fault t glyphs kind at base) (λ k. k + 1) (glyphs - r.from) r.from
      ≡ (each (place_fault t glyphs kind base) (λ q. q + 2) 1 r.place
      then each (target_fault t glyphs kind at base) (λ k. k + 1) (glyphs - r.until) r.until)
  unfolding walk earlier
  one-judged e h = go (place_fault t glyphs kind base r.place) refl
    where
      there : (g : ℕ) → field_in_run r g ≡ r.place
      there g = ap (λ (b : Bool). cond b (r.place + 2 * (g - r.from)) r.place) e

      alike : (g : ℕ) → r.from ≤ g → g < r.until → g < glyphs → target_fault t glyphs kind at base g ≡ place_fault t glyphs kind base r.place
      alike g a b c = by_place g a b c ∙ ap (place_fault t glyphs kind base) (there g)

      go : (f : FirstFault) → place_fault t glyphs kind base r.place ≡ f
          → each (target_fault t glyphs kind at base) (λ k. k + 1) (glyphs - r.from) r.from
          ≡ ((place_fault t glyphs kind base r.place then Clear)
          then each (target_fault t glyphs kind at base) (λ k. k + 1) (glyphs - r.until) r.until)
      go (Ok u) x =
          let more : r.from < r.until = w.more in
          let end : r.from + (r.until - r.from) ≡ r.until = omega arith in
          each-skip (target_fault t glyphs kind at base) glyphs r.from (r.until - r.from) (λ g a b c. alike g a (omega arith) c ∙ x)
          ∙ ap (λ (j : ℕ). each (target_fault t glyphs kind at base) (λ k. k + 1) (glyphs - j) j) end
          ∙ sym (ap (λ (f : FirstFault). (f then Clear) then each (target_fault t glyphs kind at base) (λ k. k + 1) (glyphs - r.until) r.until) x)
      go (Err bad) x =
          let here = alike r.from (omega arith) w.more h in
          walk-stop (λ p _. target_fault t glyphs kind at base p) (λ k. k + 1) (λ p. 0) (glyphs - r.from) r.from 0 (omega arith) (here ∙ x)
          ∙ here ∙ x
          ∙ sym (ap (λ (f : FirstFault). (f then Clear) then each (target_fault t glyphs kind at base) (λ k. k + 1) (glyphs - r.until) r.until) x)

  -- the run's values, `fault` being what was found of them, and then the glyphs after it
  pub run-judged : r.from < glyphs → (fault : FirstFault)
      → fault ≡ each (place_fault t glyphs kind base) (λ q. q + 2) (cond r.array (min r.until glyphs - r.from) 1) r.place
      → each (target_fault t glyphs kind at base) (λ k. k + 1) (glyphs - glyph) glyph
      ≡ (fault then each (target_fault t glyphs kind at base) (λ k. k + 1) (glyphs - r.until) r.until)
  run-judged h fault f = run-before ∙ go r.array refl f
    where
      go : (b : Bool) → r.array ≡ b
          → fault ≡ each (place_fault t glyphs kind base) (λ q. q + 2) (cond b (min r.until glyphs - r.from) 1) r.place
          → each (target_fault t glyphs kind at base) (λ k. k + 1) (glyphs - r.from) r.from
          ≡ (fault then each (target_fault t glyphs kind at base) (λ k. k + 1) (glyphs - r.until) r.until)
      go true e f = array-judged e h ∙ ap (λ (x : FirstFault). x then each (target_fault t glyphs kind at base) (λ k. k + 1) (glyphs - r.until) r.until) (sym f)
      go false e f = one-judged e h ∙ ap (λ (x : FirstFault). x then each (target_fault t glyphs kind at base) (λ k. k + 1) (glyphs - r.until) r.until) (sym f)

  -- a run whose one value leads to what the notes tell of is passed
  pub run-told : r.from < glyphs → r.array ≡ false → (judged : List ℕ) → Judged t glyphs judged → Told t kind base judged r.place
      → from_glyph t glyphs kind at base glyph ≡ from_glyph t glyphs kind at base r.until
  run-told h e judged m told =
      run-judged h Clear (sym (told.clear glyphs m) ∙ one_value (place_fault t glyphs kind base) r.array (min r.until glyphs - r.from) r.place e) ∙ then-go _ refl
