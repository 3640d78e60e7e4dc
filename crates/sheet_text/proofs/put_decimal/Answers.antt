-- `sheet_text::put_decimal` meets its contract.
use Rattle.sheet_text.proofs.HexLaws.{stored-two, decimal-one, decimal-two}
use lib.Seq.{sets}
use lib.ListN.{length, set}
use mathlib.Core.List.{List}
use mathlib.Core.Path.{sym, ap, ◌∙◌}
use Prim.Native.Nat.{ℕ, ◌+◌}
use Rattle.sheet_text.proofs.put_decimal.Goals as goal

pub returns-then-number-lt10 : goal.returns-then-number-lt10
returns-then-number-lt10 c =
    let a = c.args in
    let d = decimal-one a.number c.if-number-lt10.true in
    record {
      end = ap (λ (t : List ℕ). a.at + length t) (sym d);
      bytes = ap (λ (x : ℕ). set a.out.now a.at x) c.digit.ensures ∙ ap (sets a.out.now a.at) (sym d);
    }

pub returns : goal.returns
returns c =
    let a = c.args in
    let d = decimal-two a.number c.if-number-lt10.false in
    record {
      end = ap (λ (t : List ℕ). a.at + length t) (sym d);
      bytes = stored-two a.out.now a.at c.digit-2.ensures c.digit-3.ensures ∙ ap (sets a.out.now a.at) (sym d);
    }
