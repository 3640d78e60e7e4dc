-- What an opened font gives back serves every call for a table; its refusals have offset 0 but for 4 to 8.
use Rattle.std.specs.Prelude.{Option, Some, None, Ok, Err}
use Prim.Native.Nat.{ℕ}
use mathlib.Core.Path.{◌≡◌, refl, sym, ap, ap₂, subst, ◌∙◌}
use mathlib.Core.Logic.{inr}
use mathlib.Core.List.{List, ◌++◌}
use native.Mathlib.Omega.{arith}
use lib.ListN.{length, take, drop}
use Rattle.fields.specs.Faults.{FirstFault}
use Rattle.fields.specs.Faults.{Clear, Bad}
use Rattle.fields.specs.declared.Refusal.TheVariants.{FontEnds}
use Rattle.fields.specs.Faults.{◌then◌, first_fault}
use Rattle.fields.specs.Refusals.{number_of}
use Rattle.fields.proofs.Laws.{then-second, then-go}
use Rattle.meaning.specs.Ask.{ask, side_of}
use Rattle.answers.specs.Says.{judged_by, unless_bad}
use Rattle.table.specs.Table.{table_fault, Accepted}
use Rattle.table.specs.Means.{meaning_of}
use Rattle.table_laws.specs.Offsets.{Offset, Placed}
use Rattle.table_laws.proofs.Faults.{no-fault, good-header}
use Rattle.table_laws.proofs.Placed.{placed-bad, placed-table, zero-at, ◌and◌}
use Rattle.table_ask.specs.Places.{lookup_in, action_spot}
use Rattle.table_ask.specs.Components.{components_here, unless_fault, components_of}
use Rattle.table_find.specs.Values.{found_in, unless_refused, value_asked, units_in, units_said, units_asked}
use Rattle.line_rule.specs.Line.{Line}
use Rattle.line_call.specs.Justified.{Lent, lengths_of, work_tests, room_test, worked_fault, line_fault, settled, justified}
use Rattle.line_input.specs.Input.{input_tests}
use Rattle.sheet_write.specs.Written.{sheet_of, length_by, sheet_length, written_by, written}
use Rattle.font_directory.specs.declared.TableRecord.{TableRecord}
use Rattle.font_directory.specs.Directory.{first_listed, table_of}
use Rattle.font_open.specs.Opened.{just, maxp, glyph_count_of, inside_fault, sum_fault, extents_fault, sums_fault, tables_fault, opened, refused, opened_unless, opened_by, directory_fault, font_opened}
use Rattle.font_open.proofs.Laws.{tables_clear}
use Rattle.font_laws.specs.Accepted.{own_fault, ServesTable, Opens}

-- a line is barred only by what is its own
own-bars : (t : List ℕ) (n : ℕ) → table_fault t n ≡ Clear → (l : Line) (b : Lent) → line_fault t n l b ≡ own_fault t n l b
unfolding line_fault worked_fault
own-bars t n e l b =
    ap (λ (f : FirstFault). f then room_test (side_of l.direction (meaning_of t n)) l (length b.verdicts))
    (then-go (first_fault (input_tests l (lengths_of b) ++ work_tests (side_of l.direction (meaning_of t n)) n l)) e)

-- an accepted table serves every call
serving : (t : List ℕ) (n : ℕ) → table_fault t n ≡ Clear → ServesTable t n
unfolding Accepted value_asked units_asked components_of justified sheet_length written written_by
serving t n e =
    record {
      clear = e;
      header = (good-header t n).0 ((no-fault t n).0 e).0;
      checked = λ r p. p ∙ ap judged_by e;
      asked = λ q r p. p ∙ ap (λ (f : FirstFault). unless_bad f (ask (meaning_of t n) q)) e;
      found = λ d kind g. ap (λ (f : FirstFault). unless_refused f (found_in t n (lookup_in t d kind) g)) e;
      counted = λ d kind. ap (λ (f : FirstFault). units_said f (units_in t (lookup_in t d kind))) e;
      components = λ d g k. ap (λ (f : FirstFault). unless_fault f (components_here t (action_spot t n d g k))) e;
      lined = λ l b. ap (λ (f : FirstFault). settled f (side_of l.direction (meaning_of t n)) l b) (own-bars t n e l b);
      measured = λ r p. p ∙ ap (λ (f : FirstFault). length_by f (sheet_of t n)) e;
      wrote = λ room. ap (λ (f : FirstFault). written_by f (sheet_of t n) room) e;
    }

module _ (font : List ℕ) where
  -- two tables without fault
  no-faults : (j m : TableRecord) → tables_fault font j m ≡ Clear → Opens font j (glyph_count_of font m)
  unfolding tables_fault
  no-faults j m e =
      let rest = then-second (extents_fault font j m) (sums_fault font j m then table_fault (table_of font j) (glyph_count_of font m)) e in
      record {
        inside = (tables_clear font j m e).0;
        serves = serving (table_of font j) (glyph_count_of font m) (then-second (sums_fault font j m) (table_fault (table_of font j) (glyph_count_of font m)) rest);
      }

  -- two records that name the same bytes
  same_bytes : (j r : TableRecord) (n : ℕ) → j.offset ≡ r.offset → j.length ≡ r.length → Opens font j n → Opens font r n
  unfolding table_of
  same_bytes j r n a b o =
      record {
        inside = let h = o.inside in omega (arith, a, b, h);
        serves = subst (λ (t : List ℕ). ServesTable t n) (ap₂ (λ (k p : ℕ). take k (drop p font)) b a) o.serves;
      }

  pub opened-serves : (r : TableRecord) (n : ℕ) → font_opened font ≡ opened r.offset r.length n → Opens font r n
  unfolding font_opened
  opened-serves r n e = by (directory_fault font) (first_listed font just) (first_listed font maxp) e
    where
      found : (j m : TableRecord) (f : FirstFault) → tables_fault font j m ≡ f
          → opened_unless f (opened j.offset j.length (glyph_count_of font m)) ≡ opened r.offset r.length n → Opens font r n
      found j m (Ok u) q e =
          let a : j.offset ≡ r.offset = cc in
          let b : j.length ≡ r.length = cc in
          let d : glyph_count_of font m ≡ n = cc in
          same_bytes j r n a b (subst (Opens font j) d (no-faults j m q))
      found j m (Err f) q e = let z : ◌≡◌ {A = ℕ} 0 1 = cc in absurd (omega arith)

      by : (f : FirstFault) (x y : Option TableRecord) → opened_unless f (opened_by font x y) ≡ opened r.offset r.length n → Opens font r n
      by (Err f) x y e = let z : ◌≡◌ {A = ℕ} 0 1 = cc in absurd (omega arith)
      by (Ok u) (Some j) (Some m) e = found j m (tables_fault font j m) refl e
      by (Ok u) (Some j) None e = let z : ◌≡◌ {A = ℕ} 0 1 = cc in absurd (omega arith)
      by (Ok u) None y e = let z : ◌≡◌ {A = ℕ} 0 1 = cc in absurd (omega arith)

  -- ---- offsets (document 02, 4/14)

  placed-tables : (j m : TableRecord) → Placed (tables_fault font j m)
  unfolding tables_fault extents_fault sums_fault inside_fault sum_fault
  placed-tables j m = (zero-at _ _ and zero-at _ _ and zero-at _ _) and (zero-at _ _ and zero-at _ _) and placed-table (table_of font j) (glyph_count_of font m)

  pub placed-font : (number at : ℕ) → font_opened font ≡ refused number at → Offset number at
  unfolding font_opened directory_fault
  placed-font number at e = by (directory_fault font) (zero-at _ FontEnds) (first_listed font just) (first_listed font maxp) e
    where
      told : (f : FirstFault) → Placed f → (o l n : ℕ) → opened_unless f (opened o l n) ≡ refused number at → Offset number at
      told (Ok u) p o l n e = let z : ◌≡◌ {A = ℕ} 0 1 = cc in absurd (omega arith)
      told (Err f) p o l n e = let k : number_of f.refusal ≡ number = cc in let i : f.at ≡ at = cc in rw (k, i) at (placed-bad p refl)

      by : (f : FirstFault) → Placed f → (x y : Option TableRecord) → opened_unless f (opened_by font x y) ≡ refused number at → Offset number at
      by (Err f) p x y e = let k : number_of f.refusal ≡ number = cc in let i : f.at ≡ at = cc in rw (k, i) at (placed-bad p refl)
      by (Ok u) p (Some j) (Some m) e = told (tables_fault font j m) (placed-tables j m) _ _ _ e
      by (Ok u) p (Some j) None e = let i : 0 ≡ at = cc in inr (sym i)
      by (Ok u) p None y e = let i : 0 ≡ at = cc in inr (sym i)
