-- `sheet_text::print_refusal` meets its contract.
use Rattle.sheet_text.proofs.HexLaws.{stored-refusal}
use Rattle.sheet_text.specs.Stored.{Printed}
use Rattle.sheet_text.specs.Printed.{newline, printed_refusal}
use lib.ListN.{set, drop}
use mathlib.Core.Path.{subst, ap}
use mathlib.Core.List.{List, ◌++◌}
use Prim.Native.Nat.{ℕ, ◌+◌}
use Rattle.sheet_text.proofs.print_refusal.Goals as goal

pub returns : goal.returns
returns c =
    let a = c.args in
    let p = c.put_decimal-end in
    let n = c.from in
    subst (λ (k : ℕ). Printed (printed_refusal k) a.out.now (set p.new.out p.result newline) (p.result + 1)) n.ensures
    (stored-refusal n.result p.result a.out.now _ p.new.out c.requires (ap (λ (l : List ℕ). l ++ drop 8 a.out.now) c.copy_from_slice.ensures.after) p.ensures)
