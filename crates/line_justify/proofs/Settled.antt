-- What a line's call settles, before its verdicts are stored, lets them be stored, and with them gives the call's outcome.
use Prim.Native.Nat.{ℕ, ◌≤◌}
use mathlib.Core.Path.{◌≡◌, refl, ap, ◌∙◌}
use mathlib.Core.List.{List, ◌++◌}
use native.Mathlib.Omega.{arith}
use lib.IntN.{ℤ}
use lib.ListN.{length, drop}
use lib.Seq.{take_all}
use borrow.Author.Tests.{leb-true}
use Rattle.std.specs.Prelude.{Result, Ok, Err}
use Rattle.fields.specs.declared.Fault.{Fault}
use Rattle.fields.specs.Faults.{FirstFault, Clear}
use Rattle.fields.specs.declared.Refusal.TheVariants.{ShortRoom}
use Rattle.fields.proofs.Laws.{then-second, rule-holds}
use Rattle.types.specs.declared.Verdict.{Verdict}
use Rattle.meaning.specs.Meaning.{Side}
use Rattle.meaning.specs.Ask.{side_of}
use Rattle.table.specs.Means.{meaning_of}
use Rattle.line_rule.specs.Line.{Line, verdicts_of}
use Rattle.line_verdicts.specs.Bits.{told, BitPairs}
use Rattle.line_call.specs.declared.Justified.{Justified}
use Rattle.line_call.specs.Justified.{Outcome, Lent, line_fault, settled, justified}
use Rattle.line_call.specs.Settle.{lent_by, Settlement, settlement_is, settlement_in, stored_in, stored_by, BitRoom, Tells}
use Rattle.line_justify.specs.Stored.{filled_with, Storable}
use Rattle.line_justify.specs.Outcome.{outcome_is}

-- all of them are stored
stored-all : (vs ys : List Verdict) → filled_with vs (length vs) ys ≡ vs ++ drop (length vs) ys
unfolding filled_with
stored-all vs ys = ap (λ (l : List Verdict). l ++ drop (length vs) ys) (take_all (length vs) vs (omega arith))

-- room that is as long as it was
pub kept-room : (n : ℕ) (work bits : List ℕ) → BitRoom n work → length bits ≡ length work → BitPairs bits
kept-room n work bits k e = record { glyphs = k.glyphs; even = e ∙ k.even; few = k.few }

module _ (t : List ℕ) (n : ℕ) (l : Line) (cs : List ℕ) (bs fs : List ℤ) (ys : List Verdict) where
  abbrev b : Lent
  b = lent_by cs bs fs ys

  abbrev s : Side
  s = side_of l.direction (meaning_of t n)

  has_room : line_fault t n l b ≡ Clear → length (verdicts_of s l) ≤ length ys
  unfolding line_fault
  has_room clear = leb-true _ _ (rule-holds _ ShortRoom 0 (then-second _ _ clear))

  module _ (r : Result Justified Fault) (cs' : List ℕ) (bs' fs' : List ℤ) (bits : List ℕ) (e : settlement_is r cs' bs' fs' ≡ settlement_in (justified t n l b)) (tells : Tells (stored_by r) (verdicts_of s l) bits) where
    stored-in : (o : Outcome) → settlement_is r cs' bs' fs' ≡ settlement_in o → stored_by r ≡ stored_in o.answer
    stored-in o w = ap (λ (x : Settlement). stored_in x.answer) w

    -- the verdicts can be stored
    pub settled-storable : BitPairs bits → Storable bits (stored_by r) (length ys)
    unfolding justified
    settled-storable kept = record { room = go (line_fault t n l b) refl e; most = tells.most; kept = kept }
      where
        go : (f : FirstFault) → line_fault t n l b ≡ f → settlement_is r cs' bs' fs' ≡ settlement_in (settled f s l b) → stored_by r ≤ length ys
        go (Err x) p w = let z : stored_by r ≡ 0 = stored-in (settled (Err x) s l b) w in omega arith
        go (Ok u) p w = let z : stored_by r ≡ length (verdicts_of s l) = stored-in (settled (Ok u) s l b) w in omega (arith, has_room p)

    -- the answer and what was lent, of the outcome o, where the list is as it should be
    joins : (o : Outcome) (zs : List Verdict) → settlement_is r cs' bs' fs' ≡ settlement_in o → zs ≡ o.lent.verdicts → outcome_is r cs' bs' fs' zs ≡ o
    joins o zs w h = λ i. record { answer = (w i).answer; lent = lent_by (w i).classes (w i).before (w i).after (h i) }

    -- and with them the outcome is the call's
    pub settled-outcome : (zs : List Verdict) → zs ≡ filled_with (told bits) (stored_by r) ys → outcome_is r cs' bs' fs' zs ≡ justified t n l b
    unfolding justified filled_with
    settled-outcome zs f = go (line_fault t n l b) e
      where
        -- the first of those that are told are the line's
        line : zs ≡ filled_with (verdicts_of s l) (stored_by r) ys
        line = f ∙ ap (λ (vs : List Verdict). vs ++ drop (stored_by r) ys) tells.begins

        go : (g : FirstFault) → settlement_is r cs' bs' fs' ≡ settlement_in (settled g s l b) → outcome_is r cs' bs' fs' zs ≡ settled g s l b
        go (Err x) w =
            let o : Outcome = settled (Err x) s l b in
            let z : stored_by r ≡ 0 = stored-in o w in
            joins o zs w (line ∙ ap (λ (k : ℕ). filled_with (verdicts_of s l) k ys) z)
        go (Ok u) w =
            let o : Outcome = settled (Ok u) s l b in
            let z : stored_by r ≡ length (verdicts_of s l) = stored-in o w in
            joins o zs w (line ∙ ap (λ (k : ℕ). filled_with (verdicts_of s l) k ys) z ∙ stored-all (verdicts_of s l) ys)
