-- Demand 3 holds.
use Prim.Native.Nat.{ℕ}
use mathlib.Core.Path.{◌≡◌, refl, sym, ap, ◌∙◌, subst}
use mathlib.Core.List.{List}
use lib.ListN.{length}
use native.Mathlib.Omega.{arith}
use Rattle.fields.specs.Faults.{FirstFault}
use Rattle.fields.specs.Field.{Bytes}
use Rattle.meaning.specs.Meaning.{Meaning}
use Rattle.meaning.specs.Limits.{Valid}
use Rattle.meaning.specs.Sheet.{write, IsSheet}
use Rattle.meaning.specs.Ask.{Question, glyph_count, along, sizes, class, cell, width, action, Answer, ask}
use Rattle.meaning.specs.Same.{Asked}
use Rattle.meaning.proofs.SheetLaws.{is-sheet, one-meaning}
use Rattle.meaning.proofs.AskLaws.{bytes-answers, same_bytes}
use Rattle.answers.specs.Says.{Judgement, accepted, barred, given, unless_bad}
use Rattle.table.specs.Table.{table_fault, Accepted}
use Rattle.table.specs.Means.{meaning_of}
use Rattle.table_laws.proofs.Valid.{valid-meaning}
use Rattle.sheet_check.specs.Check.{SheetChecked}
use Rattle.sheet_ask.specs.Parts.{Answers}
use Rattle.sheet_laws.specs.Outcomes.{Outcomes, Parts, reply_to, Alike}
use Rattle.sheet_write.specs.Written.{sheet_of}
use Rattle.sheet_laws.specs.Writing.{SheetBy}
use Rattle.sheet_laws.specs.Demand3.{Demand3}
use Rattle.sheet_laws.proofs.Written.{the-sheet, measured, never-refused, a-sheet}

-- an outcome's reply is the part of the meaning that the bytes are written for
answers : (s : List ℕ) (o : Outcomes) → Parts s o → (q : Question) → Asked q → Answers s q (reply_to o q)
answers s o h glyph_count a = h.count
answers s o h (along d sizes) a = h.sizes d
answers s o h (along d (class g)) a = h.class d g (omega (arith, a))
answers s o h (along d (cell r c)) a = h.cell d r c (omega (arith, a.0)) (omega (arith, a.1))
answers s o h (along d (width g c)) a = h.width d g c (omega (arith, a.0)) (omega (arith, a.1))
answers s o h (along d (action g k)) a = (h.action d g k (omega (arith, a.0)) (omega (arith, a.1))).answer

accepted-checks : (s : List ℕ) → IsSheet s → (c : Judgement) → SheetChecked s c → c ≡ accepted
accepted-checks s i accepted h = refl
accepted-checks s i (barred number at) h = absurd (h.2 i)

-- a sheet that was written for a table is written for the table's meaning
pub meant : (t s : List ℕ) (n : ℕ) → Accepted t n → SheetBy t n s → write (meaning_of t n) ≡ s
unfolding sheet_of
meant t s n a r = sym (the-sheet t n a s r)

sheet : (t s : List ℕ) (n : ℕ) → Bytes t → Accepted t n → SheetBy t n s → IsSheet s
sheet t s n b a r = subst IsSheet (meant t s n a r) (is-sheet (meaning_of t n) (valid-meaning t n b a))

-- a table that is accepted refuses no question
unbarred : (t : List ℕ) (n : ℕ) (q : Question) → Accepted t n → given (ask (meaning_of t n) q) ≡ unless_bad (table_fault t n) (ask (meaning_of t n) q)
unfolding Accepted
unbarred t n q a = ap (λ (f : FirstFault). unless_bad f (ask (meaning_of t n) q)) (sym a)

one-given : (a b : Answer) → given a ≡ given b → a ≡ b
one-given a b e = cc

read_alike : (s s' : List ℕ) → IsSheet s → IsSheet s' → (o o' : Outcomes) → Parts s o → Parts s' o' → Alike o o' → s ≡ s'
unfolding IsSheet
read_alike s s' (m, v, e) (m', v', e') o o' h h' same =
    sym e
    ∙ same_bytes m m' v v' (λ q a. one-given (ask m q) (ask m' q) (sym (answers s o h q a m v e) ∙ same q a ∙ answers s' o' h' q a m' v' e'))
    ∙ e'

read_back : (s : List ℕ) → IsSheet s
    → (m : Meaning) × Valid m × (write m ≡ s) × ((m' : Meaning) → Valid m' → write m' ≡ s → m ≡ m')
    × ((o : Outcomes) → Parts s o → (q : Question) → Asked q → reply_to o q ≡ given (ask m q))
unfolding IsSheet
read_back s (m, v, e) = (m, v, e, (λ m' v' e'. one-meaning s m m' v v' e e'), (λ o h q a. answers s o h q a m v e))

pub demand-3 : Demand3
demand-3 =
    record {
      some-sheet = λ t n a. (sheet_of t n, a-sheet t n a);
      one-sheet = λ t s s' n a r r'. the-sheet t n a s r ∙ sym (the-sheet t n a s' r');
      sheet-length = λ t n a l e. (
        length (sheet_of t n),
        measured t n a l e,
        (λ s r. ap length (the-sheet t n a s r)),
        never-refused t n a,
      );
      same_tables = λ t u s s' n b b' a a' r r'. (
        (λ i. bytes-answers (meaning_of t n) (meaning_of u n) (valid-meaning t n b a) (valid-meaning u n b' a') (meant t s n a r ∙ i ∙ sym (meant u s' n a' r'))),
        (λ h. sym (meant t s n a r) ∙ same_bytes (meaning_of t n) (meaning_of u n) (valid-meaning t n b a) (valid-meaning u n b' a') h ∙ meant u s' n a' r'),
      );
      table-accepted = λ t s n b a r c h. accepted-checks s (sheet t s n b a r) c h;
      table-answers = λ t s n b a r o h q k. answers s o h q k (meaning_of t n) (valid-meaning t n b a) (meant t s n a r) ∙ unbarred t n q a;
      sheet-answers = read_back;
      same-sheets = read_alike;
      calls-parts = λ s o h.
          record {
            count = (h.replies glyph_count tt).answer;
            sizes = λ d. (h.replies (along d sizes) tt).answer;
            class = λ d g a. (h.replies (along d (class g)) a).answer;
            cell = λ d r c a b. (h.replies (along d (cell r c)) (a, b)).answer;
            width = λ d g c a b. (h.replies (along d (width g c)) (a, b)).answer;
            action = λ d g k a b. record { answer = (h.actions d g k a b).reply.answer; room = (h.actions d g k a b).room };
          };
    }
