use Rattle.std.proofs.Common.{◌≡◌, ◌+◌, ◌-◌, ◌*◌, ◌++◌, length, take, drop, length-append, arith, sym, ap, ◌∙◌}
use Rattle.std.proofs.lemmas.List.Edits.{sets}
use Rattle.fields.specs.Stores.{put_next}
use Rattle.sheet_text.specs.Printed.{hex_line, printed_sheet}
use Rattle.sheet_text.proofs.HexLaws.{sheet-next, sheet-last, stored-first}
use Rattle.sheet_text.proofs.print_sheet.Goals as goal

pub put_line-at-requires : goal.put_line-at-requires
put_line-at-requires c =
    let sheet = c.args.sheet.now in
    let l = c.loop-k in
    let end = c.min-end.result in
    let n = sheet-next sheet l.k end (omega arith) (omega arith) in
    omega (arith, ap length n, length-append (hex_line (take (end - 4 * l.k) (drop (4 * l.k) sheet))) (printed_sheet (drop (4 * (l.k + 1)) sheet)), l.invariant.0)

pub loop-k-preserved : goal.loop-k-preserved
loop-k-preserved c =
    let sheet = c.args.sheet.now in
    let l = c.loop-k in
    let end = c.min-end.result in
    let put = c.put_line-at in
    let line = hex_line (take (end - 4 * l.k) (drop (4 * l.k) sheet)) in
    let rest = printed_sheet (drop (4 * (l.k + 1)) sheet) in
    let n : printed_sheet (drop (4 * l.k) sheet) ≡ line ++ rest = sheet-next sheet l.k end (omega arith) (omega arith) in (
      omega (arith, ap length n, length-append line rest, l.invariant.0, put.ensures.end),
      put_next line rest (printed_sheet (drop (4 * l.k) sheet)) l.out put.new.out _ l.at put.result n put.ensures.end put.ensures.bytes l.invariant.1,
    )

pub returns : goal.returns
returns c =
    let a = c.args in
    let l = c.loop-k in
    let sheet = a.sheet.now in
    let n = sheet-last sheet (4 * l.k) (omega arith) in
    record {
      count = omega (arith, ap length n, l.invariant.0);
      bytes = ap (sets l.out l.at) (sym n) ∙ l.invariant.1 ∙ stored-first (printed_sheet sheet) a.out.now c.requires;
    }
