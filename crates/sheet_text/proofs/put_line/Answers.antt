use Rattle.std.proofs.Common.{◌≡◌, ℕ, [], ◌∷◌, ◌+◌, ◌*◌, length, get_or, drop, arith, sym, ap, ◌∙◌}
use Rattle.std.proofs.lemmas.List.Edits.{sets}
use Rattle.fields.specs.Stores.{put_next}
use Rattle.sheet_text.specs.Printed.{newline, hex_of, hex_line}
use Rattle.sheet_text.specs.Laws.{line-length}
use Rattle.sheet_text.proofs.HexLaws.{line-next, line-last}
use Rattle.sheet_text.proofs.put_line.Goals as goal

pub loop-i-preserved : goal.loop-i-preserved
loop-i-preserved c =
    let a = c.args in
    let l = c.loop-i in
    let bytes = a.bytes.now in
    put_next (hex_of (get_or bytes l.i 0)) (hex_line (drop (l.i + 1) bytes)) _ l.out c.put_hex.new.out _ (a.at + 2 * l.i) (a.at + 2 * (l.i + 1))
    (line-next bytes l.i (omega arith)) (omega arith) c.put_hex.ensures l.invariant

pub returns : goal.returns
returns c =
    let a = c.args in
    let l = c.loop-i in
    let n = length a.bytes.now in
    let last : l.i ≡ n = omega arith in
    record {
      end = omega (arith, line-length a.bytes.now);
      bytes = ap (λ (k : ℕ). sets l.out (a.at + 2 * k) (newline ∷ [])) (sym last) ∙ ap (sets l.out (a.at + 2 * l.i)) (sym (line-last a.bytes.now l.i (omega arith))) ∙ l.invariant;
    }
