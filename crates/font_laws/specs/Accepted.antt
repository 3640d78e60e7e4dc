-- "hand the stretch holding 'just' to the reader and, where it is accepted, give back its offset, its length and the count" (document 02, 12/14): what is given back
-- serves every call for a table.
use Rattle.std.specs.Prelude.{Result}
use Rattle.std.specs.Prelude.{ℕ, ◌≡◌, List, ◌++◌, length}
use Rattle.fields.specs.declared.Fault.{Fault}
use Rattle.fields.specs.Faults.{FirstFault, ◌then◌, first_fault}
use Rattle.types.specs.declared.Direction.{Direction}
use Rattle.meaning.specs.Ask.{Question, ask, side_of}
use Rattle.answers.specs.Says.{accepted, judged_by, Reply, given, unless_bad}
use Rattle.table.specs.Table.{table_fault, Accepted}
use Rattle.table.specs.Means.{meaning_of}
use Rattle.table_laws.specs.Order.{GoodHeader}
use Rattle.lookup_targets.specs.declared.Kind.{Kind}
use Rattle.table_ask.specs.Places.{lookup_in, action_spot}
use Rattle.table_ask.specs.Components.{components_here, components_of}
use Rattle.table_find.specs.Values.{found_in, value_asked, units_in, least_over, units_of, units_asked}
use Rattle.line_rule.specs.Line.{Line}
use Rattle.line_call.specs.Justified.{Lent, lengths_of, work_tests, room_test, settled, justified}
use Rattle.line_input.specs.Input.{input_tests}
use Rattle.sheet_write.specs.Written.{says_length, sheet_of, sheet_length, bytes, written, stored}
use Rattle.font_directory.specs.declared.TableRecord.{TableRecord}
use Rattle.font_directory.specs.Directory.{table_of}
use Rattle.font_open.specs.Opened.{Inside}

-- what bars a line beside its table: 9 and the refusals after it
abbrev pub own_fault : List ℕ → ℕ → Line → Lent → FirstFault
own_fault t n l b =
    first_fault (input_tests l (lengths_of b) ++ work_tests (side_of l.direction (meaning_of t n)) n l)
    then room_test (side_of l.direction (meaning_of t n)) l (length b.verdicts)

-- the table `t` is accepted with `n`: it has no fault, and so each call, by what it promises of a table and a count, gives what it is asked for, and no refusal of the table
pub record ServesTable (t : List ℕ) (n : ℕ) : Type 0 where
  pub clear : Accepted t n
  pub header : GoodHeader t n
  pub checked : (r : FirstFault) → judged_by r ≡ judged_by (table_fault t n) → judged_by r ≡ accepted
  pub asked : (q : Question) (r : Reply) → r ≡ unless_bad (table_fault t n) (ask (meaning_of t n) q) → r ≡ given (ask (meaning_of t n) q)
  pub found : (d : Direction) (kind : Kind) (glyph : ℕ) → value_asked t n d kind glyph ≡ found_in t n (lookup_in t d kind) glyph
  pub counted : (d : Direction) (kind : Kind) → units_asked t n d kind ≡ units_of (units_in t (lookup_in t d kind)) (least_over (units_in t (lookup_in t d kind)))
  pub components : (d : Direction) (glyph k : ℕ) → components_of t n d glyph k ≡ components_here t (action_spot t n d glyph k)
  pub lined : (l : Line) (b : Lent) → justified t n l b ≡ settled (own_fault t n l b) (side_of l.direction (meaning_of t n)) l b
  pub measured : (r : Result ℕ Fault) → says_length r ≡ sheet_length t n → says_length r ≡ bytes (length (sheet_of t n))
  pub wrote : (room : List ℕ) → written t n room ≡ stored (sheet_of t n) room

-- the bytes that a record names are wholly in the font, and as a table they serve with the count; the record's checksum plays no part
pub record Opens (font : List ℕ) (r : TableRecord) (n : ℕ) : Type 0 where
  pub inside : Inside font r
  pub serves : ServesTable (table_of font r) n
