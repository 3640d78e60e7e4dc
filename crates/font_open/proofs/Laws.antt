-- Where no fault is found in their places, both tables are in the font.
use Rattle.std.specs.Prelude.{ℕ, ◌≡◌, List, leb}
use Rattle.std.proofs.Common.{leb-true}
use Rattle.fields.specs.declared.Refusal.TheVariants.{FontEnds}
use Rattle.fields.specs.Faults.{FirstFault, Clear, ◌then◌, rule}
use Rattle.fields.proofs.Laws.{then-first, then-second, rule-holds}
use Rattle.table.specs.Table.{table_fault}
use Rattle.font_directory.specs.declared.TableRecord.{TableRecord}
use Rattle.font_directory.specs.Directory.{table_of}
use Rattle.font_open.specs.Opened.{least_maxp, Inside, glyph_count_of, inside_fault, extents_fault, sums_fault, tables_fault}

module _ (font : List ℕ) where
  inside_clear : (p : TableRecord) → inside_fault font p ≡ Clear → Inside font p
  unfolding inside_fault
  inside_clear p e = leb-true _ _ (rule-holds _ FontEnds 0 e)

  module _ (j m : TableRecord) where
    abbrev count : FirstFault
    count = rule (leb least_maxp m.length) FontEnds 0

    pub extents_clear : extents_fault font j m ≡ Clear → Inside font j × Inside font m
    unfolding extents_fault
    extents_clear e =
        (inside_clear j (then-first (inside_fault font j) (inside_fault font m then count) e), inside_clear m (then-first (inside_fault font m) count (then-second (inside_fault font j) (inside_fault font m then count) e)))

    pub tables_clear : tables_fault font j m ≡ Clear → Inside font j × Inside font m
    unfolding tables_fault
    tables_clear e = extents_clear (then-first (extents_fault font j m) (sums_fault font j m then table_fault (table_of font j) (glyph_count_of font m)) e)
