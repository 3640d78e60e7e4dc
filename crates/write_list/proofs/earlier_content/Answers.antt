-- `write_list::earlier_content` meets its contract.
use Rattle.actions.specs.Actions.{bytes_at}
use Rattle.actions.proofs.Copies.{bytes-length}
use Rattle.write_list.specs.Kept.{left_out}
use Rattle.write_list.proofs.WordLaws.{sizes-tell, kept-tells}
use mathlib.Core.List.{◌++◌}
use mathlib.Core.Path.{refl, ap, sym, ◌∙◌}
use Prim.Native.Nat.{ℕ}
use Rattle.write_list.proofs.earlier_content.Goals as goal

pub returns-then-a-b : goal.returns-then-a-b
returns-then-a-b c =
    let t = c.args.table.now in
    let x = c.kept_data-a in
    let y = c.kept_data-b in
    sizes-tell _ _ _ x.ensures.0 y.ensures.0 (sym (bytes-length t x.result.at x.result.size)) (sym (bytes-length t y.result.at y.result.size)) c.if-a-b.true

pub returns : goal.returns
returns c =
    let t = c.args.table.now in
    let x = c.kept_data-a in
    let y = c.kept_data-b in
    let f = y.ensures.0 ∙ ap (λ (k : ℕ). left_out c.args.ty ++ bytes_at t y.result.at k) (sym c.if-a-b.false) in
    kept-tells _ _ _ x.ensures.0 f (sym (bytes-length t x.result.at x.result.size)) (sym (bytes-length t y.result.at x.result.size))
    c.earlier_bytes.result refl c.earlier_bytes.ensures
