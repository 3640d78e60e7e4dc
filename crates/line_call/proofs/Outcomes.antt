-- From the stretches of a line's call to the whole: what bars it, and what is settled.
use Prim.Native.Nat.{ℕ, zero, suc, ◌*◌, ◌≤◌, ◌<◌}
use mathlib.Core.Path.{◌≡◌, refl, sym, ap, ◌∙◌, subst}
use mathlib.Core.Bool.{Bool}
use mathlib.Core.List.{List, [], ◌∷◌, ◌++◌, map}
use native.Mathlib.Omega.{arith}
use lib.IntN.{ℤ}
use lib.ListN.{length, take, get_or, length-append}
use lib.Seq.{take-append-le, take_at}
use lib.Dec.{leb}
use borrow.Author.Tests.{leb-true}
use Rattle.fields.specs.declared.Refusal.TheVariants.{UnequalLengths, LongLine, PointSize, ShortRoom}
use Rattle.fields.specs.declared.Fault.{Fault}
use Rattle.fields.specs.Faults.{FirstFault, Clear, ◌then◌, rule}
use Rattle.fields.proofs.Laws.{then-assoc, then-first, then-second, then-stop, then-go, rule-holds}
use Rattle.types.specs.declared.Verdict.{Verdict}
use Rattle.meaning.specs.Meaning.{Side}
use Rattle.meaning.specs.Ask.{side_of}
use Rattle.table.specs.Means.{meaning_of}
use Rattle.share.specs.Line.{evens, odds, signed_of}
use Rattle.share.proofs.Lists.{get_or-le-total}
use Rattle.line_rule.specs.Line.{Line, shrinks, walk_of, classes_of, entries_of, before_of, after_of, remainder_of, verdicts_from, verdicts_of}
use Rattle.line_verdicts.specs.Bits.{told}
use Rattle.line_verdicts.specs.Moves.{moved, HasMoves}
use Rattle.line_verdicts.specs.Lines.{verdicts_in, KeepsLine}
use Rattle.line_verdicts.proofs.Told.{told-begins}
use Rattle.line_verdicts.proofs.Laws.{verdicts-few}
use Rattle.line_call.specs.declared.Justified.{Justified}
use Rattle.line_call.specs.declared.Tally.{Tally}
use Rattle.std.proofs.Common.{Result, Ok, Err}
use Rattle.line_call.specs.Justified.{justifies, room_test, worked_fault, line_fault, settled, justified}
use Rattle.line_call.specs.Settle.{lent_by, settlement_is, settlement_in, stored_by, BitRoom, Tells}
use Rattle.line_input.specs.Steps.{input_fault}
use Rattle.line_call.specs.Steps.{Admitted, work_fault, rest_fault, worked_by, MovesOf, WorkedOut, Counted, LineRoom, Deliverable, Delivered, SettledIn}
use Rattle.line_input.proofs.Tests.{lengths-hold, sizes-small}
use Rattle.line_call.proofs.Work.{barred}

-- ---- the verdicts that a room tells

tells_none : (vs : List Verdict) (work : List ℕ) → Tells 0 vs work
tells_none vs work = record { most = omega arith; begins = refl }

-- a refusal stores none
pub tells-refused : {x : Fault} {answer : Result Justified Fault} (vs : List Verdict) (work : List ℕ) → answer ≡ Err x → Tells (stored_by answer) vs work
tells-refused vs work a = subst (λ (x : Result Justified Fault). Tells (stored_by x) vs work) (sym a) (tells_none vs work)

-- all of them; of none nothing is told
tells_all : (n : ℕ) (vs : List Verdict) (work : List ℕ) → n ≡ length vs → (0 < n → told work ≡ vs) → Tells n vs work
tells_all zero vs work e h = tells_none vs work
tells_all (suc n) vs work e h =
    let q = h (omega arith) in
    record { most = omega (arith, ap (λ (l : List Verdict). length l) q); begins = ap (take (suc n)) q }

-- a room that begins with another tells what that tells
pub tells-longer : {k : ℕ} {vs : List Verdict} (n : ℕ) (work rest : List ℕ) → length work ≡ 2 * n → Tells k vs work → Tells k vs (work ++ rest)
tells-longer {k} {vs} n work rest e w =
    record {
      most = omega (arith, w.most, ap (λ (l : List Verdict). length l) whole, length-append (told work) cut.0);
      begins = ap (take k) whole ∙ take-append-le k (told work) cut.0 w.most ∙ w.begins;
    }
  where
    cut : (vs : List Verdict) × (told (work ++ rest) ≡ told (take (2 * n) (work ++ rest)) ++ vs)
    cut = told-begins n (work ++ rest)

    whole : told (work ++ rest) ≡ told work ++ cut.0
    whole = cut.1 ∙ ap (λ (xs : List ℕ). told xs ++ cut.0) (take_at work rest (2 * n) e)

-- ---- what an answer says

module _ {f : FirstFault} {v : ℕ} {s : Side} {l : Line} {w : Result Tally Fault} {cs ms : List ℕ} (o : WorkedOut f v s l w cs ms) where
  worked-bad : (x : Fault) → w ≡ Err x → f ≡ Err x
  worked-bad x q = go f (sym q ∙ o.says)
    where
      go : (f : FirstFault) → Err x ≡ worked_by f v s l → f ≡ Err x
      go (Ok u) e = cc
      go (Err y) e = cc

  -- a line that nothing bars, and what is worked out of it
  record WorkedClear (tally : Tally) : Type 0 where
    clear : f ≡ Clear
    signs : tally.shrink ≡ shrinks l
    left : tally.remainder ≡ remainder_of s l
    count : tally.entries ≡ entries_of (walk_of s.machine l)
    verdicts : tally.verdicts ≡ v
    classes : cs ≡ classes_of (walk_of s.machine l)
    before : map (signed_of tally.shrink) (evens ms) ≡ before_of s l
    after : map (signed_of tally.shrink) (odds ms) ≡ after_of s l
    moves : MovesOf s l ms

  worked-clear : (tally : Tally) → w ≡ Ok tally → WorkedClear tally
  worked-clear tally q = go f refl (sym q ∙ o.says)
    where
      go : (g : FirstFault) → f ≡ g → Ok tally ≡ worked_by g v s l → WorkedClear tally
      go (Ok u) c e =
          let h : tally ≡ record { shrink = shrinks l; remainder = remainder_of s l; entries = entries_of (walk_of s.machine l); verdicts = v } = cc in
          let b = ap (λ (x : Tally). x.shrink) h in
          record {
            clear = c;
            signs = b;
            left = ap (λ (x : Tally). x.remainder) h;
            count = ap (λ (x : Tally). x.entries) h;
            verdicts = ap (λ (x : Tally). x.verdicts) h;
            classes = o.classes c;
            before = ap (λ (t : Bool). map (signed_of t) (evens ms)) b ∙ (o.moves c).before;
            after = ap (λ (t : Bool). map (signed_of t) (odds ms)) b ∙ (o.moves c).after;
            moves = o.moves c;
          }
      go (Err x) c e = cc

-- ---- 16

module _ (s : Side) (n : ℕ) (l : Line) (room : ℕ) where
  counted-barred : {w : Result Tally Fault} {cs ms work : List ℕ} (x : Fault) → w ≡ Err x → rest_fault s n l room ≡ Err x → Counted s n l room w cs ms work
  counted-barred x q e = record { out = barred s l x q e; tells = λ c. cc }

  module _ {w : Result Tally Fault} {cs ms : List ℕ} (o : WorkedOut (work_fault s n l) 0 s l w cs ms) where
    -- what bars the line before bars it still
    pub counted-bad : {a : Result Tally Fault} {xs ys work : List ℕ} (x : Fault) → w ≡ Err x → a ≡ Err x → Counted s n l room a xs ys work
    counted-bad {a} {xs} {ys} {work} x q b =
        let e = worked-bad o x q in
        counted-barred x b (then-stop (room_test s l room) e ∙ e)

    module _ (tally : Tally) (q : w ≡ Ok tally) where
      -- what the verdicts are asked of
      pub has-moves : {t : List ℕ} {m : ℕ} (sizes glyphs : List ℕ) → Admitted t m sizes glyphs → length cs ≡ length glyphs → length ms ≡ 2 * length glyphs
          → HasMoves t m sizes cs ms glyphs
      has-moves {t} {m} sizes glyphs j ec em =
          let low = (worked-clear o tally q).moves.low in
          record {
            accepted = j.accepted;
            fits = record { few = j.short; sizes = j.sizes; classes = ec; moves = em; small = λ side. omega (arith, low, get_or-le-total ms side) };
          }

      fault : rest_fault s n l room ≡ room_test s l room
      fault = then-go (room_test s l room) (worked-clear o tally q).clear

      verdicts-are : verdicts_in s l.glyphs (moved tally.shrink l.sizes cs ms) ≡ verdicts_of s l
      unfolding verdicts_of
      verdicts-are =
          let c = worked-clear o tally q in
          λ i. verdicts_from s 0 l.sizes l.glyphs (c.classes i) (c.before i) (c.after i)

      module _ {v : ℕ} {work : List ℕ} (k : KeepsLine s l.glyphs (moved tally.shrink l.sizes cs ms) v work) where
        counted-all : v ≡ length (verdicts_of s l)
        counted-all = k.counted ∙ ap (λ (vs : List Verdict). length vs) verdicts-are

        -- 16, on the number that was counted
        counted-room : rest_fault s n l room ≡ rule (leb v room) ShortRoom 0
        counted-room = fault ∙ ap (λ (k : ℕ). rule (leb k room) ShortRoom 0) (sym counted-all)

        pub counted-short : {a : Result Tally Fault} {xs ys : List ℕ} (x : Fault) → rule (leb v room) ShortRoom 0 ≡ Err x → a ≡ Err x → Counted s n l room a xs ys work
        counted-short x h b = counted-barred x b (counted-room ∙ h)

        pub counted-done : {b : Bool} {z : ℤ} {m : ℕ} → rule (leb v room) ShortRoom 0 ≡ Clear → b ≡ tally.shrink → z ≡ tally.remainder → m ≡ tally.entries
            → Counted s n l room (Ok (record { shrink = b; remainder = z; entries = m; verdicts = v })) cs ms work
        counted-done {b} {z} {m} h eb ez em =
            let c = worked-clear o tally q in
            let e : rest_fault s n l room ≡ Clear = counted-room ∙ h in
            record {
              out =
                  record {
                    says =
                        (λ i. Ok (record { shrink = (eb ∙ c.signs) i; remainder = (ez ∙ c.left) i; entries = (em ∙ c.count) i; verdicts = counted-all i }))
                        ∙ ap (λ (f : FirstFault). worked_by f (length (verdicts_of s l)) s l) (sym e);
                    classes = λ f. c.classes;
                    moves = λ f. c.moves;
                  };
              tells = λ f. subst (λ (j : ℕ). Tells j (verdicts_of s l) work) counted-all (tells_all v (verdicts_of s l) work counted-all (λ p. k.tells p ∙ verdicts-are));
            }

-- ---- 12 to 16

module _ (s : Side) (n : ℕ) (l : Line) (room : ℕ) (cs : List ℕ) (bs fs : List ℤ) where
  -- a fault bars the line and changes nothing
  outcome-bad : {f : FirstFault} {answer : Result Justified Fault} (x : Fault) → f ≡ Err x → answer ≡ Err x → (verdicts : List Verdict)
      → settlement_is answer cs bs fs ≡ settlement_in (settled f s l (lent_by cs bs fs verdicts))
  outcome-bad {f} {answer} x e a verdicts =
      ap (λ (y : Result Justified Fault). settlement_is y cs bs fs) a ∙ ap (λ (f : FirstFault). settlement_in (settled f s l (lent_by cs bs fs verdicts))) (sym e)

  pub settled-bad : {w : Result Tally Fault} {held ms work : List ℕ} {answer : Result Justified Fault} (x : Fault) → w ≡ Err x → Counted s n l room w held ms work → answer ≡ Err x
      → SettledIn s n l room cs bs fs answer cs bs fs work
  settled-bad {w} {held} {ms} {work} {answer} x q o a =
      record { settles = outcome-bad x (worked-bad o.out x q) a; tells = tells-refused (verdicts_of s l) work a }

  module _ {w : Result Tally Fault} {held ms work : List ℕ} (o : Counted s n l room w held ms work) (tally : Tally) (q : w ≡ Ok tally) where
    pub settled-done : {answer : Justified} {cs' : List ℕ} {bs' fs' : List ℤ} → Delivered tally held ms answer cs' bs' fs'
        → SettledIn s n l room cs bs fs (Ok answer) cs' bs' fs' work
    settled-done {answer} {cs'} {bs'} {fs'} d =
        let c = worked-clear o.out tally q in
        record {
          settles = λ verdicts.
              (λ i. settlement_is (Ok (d.says i)) (d.classes i) (d.before i) (d.after i))
              ∙ (λ i. record { answer = justifies (c.left i) (c.count i) (c.verdicts i); classes = c.classes i; before = c.before i; after = c.after i })
              ∙ ap (λ (f : FirstFault). settlement_in (settled f s l (lent_by cs bs fs verdicts))) (sym c.clear);
          tells = subst (λ (k : ℕ). Tells k (verdicts_of s l) work) (sym (ap (λ (x : Justified). x.verdicts) d.says ∙ c.verdicts)) (o.tells c.clear);
        }

    -- there are not more verdicts than 32 bits hold
    pub deliverable : length l.glyphs ≤ 1024 → ((g : ℕ) → length (get_or s.lists g []) ≤ 64) → length ms ≡ 2 * length held → Deliverable tally held ms
    unfolding verdicts_of
    deliverable few lists even =
        let c = worked-clear o.out tally q in
        record {
          even = even;
          low = omega (arith, c.moves.low);
          few =
              omega (
                arith,
                few,
                c.verdicts,
                verdicts-few s 0 l.sizes l.glyphs (classes_of (walk_of s.machine l)) (before_of s l) (after_of s l) lists,
              );
        }

-- ---- the whole

module _ (t : List ℕ) (n : ℕ) (l : Line) (cs : List ℕ) (bs fs : List ℤ) where
  s : Side
  s = side_of l.direction (meaning_of t n)

  abbrev input : FirstFault
  input = input_fault t n l (length cs ∷ length bs ∷ length fs ∷ [])

  chain : (a b c d e f g h i j : FirstFault)
      → ((a then b then c then d then e then f then g then h then i) then j) ≡ ((a then b then c then d then e) then ((f then g then h then i) then j))
  chain a b c d e f g h i j = simp then-assoc

  split : (verdicts : List Verdict) → line_fault t n l (lent_by cs bs fs verdicts) ≡ (input then rest_fault s n l (length verdicts))
  unfolding line_fault worked_fault input_fault work_fault s
  split verdicts = chain _ _ _ _ _ _ _ _ _ _

  pub whole-bad : (x : Fault) {f : FirstFault} {answer : Result Justified Fault} → f ≡ input → f ≡ Err x → answer ≡ Err x → (verdicts : List Verdict)
      → settlement_is answer cs bs fs ≡ settlement_in (justified t n l (lent_by cs bs fs verdicts))
  unfolding justified s
  whole-bad x {f} {answer} e q a verdicts =
      let b : input ≡ Err x = sym e ∙ q in
      outcome-bad s n l (length verdicts) cs bs fs x (split verdicts ∙ then-stop _ b ∙ b) a verdicts

  -- what holds where the table's refusals, 9, 10, 18 and 11 do not bar the line
  pub record Input : Type 0 where
    pub judged : Admitted t n l.sizes l.glyphs
    pub room : LineRoom (length l.glyphs) cs bs fs

  pub input-clear : {f : FirstFault} → f ≡ input → f ≡ Clear → Input
  unfolding input_fault
  input-clear {f} e q =
      let a : input_fault t n l (length cs ∷ length bs ∷ length fs ∷ []) ≡ Clear = sym e ∙ q in
      let b = then-second _ _ a in
      let long = lengths-hold (length l.glyphs) _ _ _ _ _ (rule-holds _ UnequalLengths 0 (then-first _ _ b)) in
      record {
        judged =
            record {
              accepted = then-first _ _ a;
              short = leb-true _ _ (rule-holds _ LongLine 0 (then-first _ _ (then-second _ _ b)));
              sizes = long.0;
              small = sizes-small l.sizes (rule-holds _ PointSize 0 (then-second _ _ (then-second _ _ (then-second _ _ b))));
            };
        room = record { classes = long.2; before = long.3; after = long.4 };
      }

  pub whole-clear : (answer : Result Justified Fault) {f : FirstFault} {room : ℕ} {cs' : List ℕ} {bs' fs' : List ℤ} {work : List ℕ} → f ≡ input → f ≡ Clear
      → SettledIn (side_of l.direction (meaning_of t n)) n l room cs bs fs answer cs' bs' fs' work → (verdicts : List Verdict) → length verdicts ≡ room
      → settlement_is answer cs' bs' fs' ≡ settlement_in (justified t n l (lent_by cs bs fs verdicts))
  unfolding justified s
  whole-clear answer {f} {room} {cs'} {bs'} {fs'} {work} e q w verdicts h =
      w.settles verdicts
      ∙ ap (λ (x : ℕ). settlement_in (settled (rest_fault s n l x) s l (lent_by cs bs fs verdicts))) (sym h)
      ∙ ap (λ (g : FirstFault). settlement_in (settled g s l (lent_by cs bs fs verdicts))) (sym (split verdicts ∙ then-go _ (sym e ∙ q)))

-- ---- slices and local arrays, lent in part

-- room for the glyphs of a line that is not too long
pub room-enough : {n : ℕ} {work : List ℕ} → BitRoom n work → n ≤ 1024 → 2 * n ≤ length work
room-enough {n} {work} w h = omega (arith, w.enough h, w.even)

pub part_length : {A : Type 0} (xs : List A) (n : ℕ) → n ≤ length xs → n ≡ length (take n xs)
part_length xs zero h = refl
part_length [] (suc n) h = absurd (omega arith)
part_length (x ∷ xs) (suc n) h = ap suc (part_length xs n (omega arith))
