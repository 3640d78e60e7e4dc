-- The value that a find gives a glyph in a direction's lookup of one kind, and how many units it looked at; how many units there are for a find,
-- and the bound on its looks (document 02, 9/14).
use Rattle.std.specs.Prelude.{ℕ, zero, suc, ◌+◌, ◌^◌, List, cond, ltb, Option, Some, None, Result, Ok, Err}
use Rattle.fields.specs.Refusals.{number_of}
use Rattle.fields.specs.declared.Fault.{Fault}
use Rattle.fields.specs.Faults.{FirstFault}
use Rattle.types.specs.declared.Direction.{Direction}
use Rattle.lookup.specs.Find.{value_of}
use Rattle.lookup_find.specs.Halves.{open_count, looks_of}
use Rattle.lookup_targets.specs.declared.Kind.{Kind}
use Rattle.table.specs.Table.{table_fault}
use Rattle.table_ask.specs.declared.Lookup.{Lookup}
use Rattle.table_find.specs.declared.Find.{Find}
use Rattle.table_find.specs.declared.UnitCount.{UnitCount}
use Rattle.table_ask.specs.Places.{lookup_in}

-- what an answer to a find says: a value and the looks; that there is none, and the looks; or a refusal's number and offset
pub data FindReply : Type 0 where
  valued : ℕ → ℕ → FindReply
  valueless : ℕ → FindReply
  barred : ℕ → ℕ → FindReply

-- a value, or none, and the looks
abbrev pub with_looks : ℕ → Option ℕ → FindReply
with_looks looks (Some v) = valued v looks
with_looks looks None = valueless looks

abbrev pub says_value : Result Find Fault → FindReply
says_value (Ok f) = with_looks f.looks f.value
says_value (Err f) = barred (number_of f.refusal) f.at

-- what a find gives in a lookup; an absent one has no value, and takes no look
abbrev pub found_in : List ℕ → ℕ → Option Lookup → ℕ → FindReply
found_in t n None glyph = valueless 0
found_in t n (Some l) glyph = with_looks (looks_of t l.at glyph) (value_of t n l.at glyph)

abbrev pub unless_refused : FirstFault → FindReply → FindReply
unless_refused (Ok u) a = a
unless_refused (Err f) a = barred (number_of f.refusal) f.at

unfoldable pub value_asked : List ℕ → ℕ → Direction → Kind → ℕ → FindReply
value_asked t n d kind glyph = unless_refused (table_fault t n) (found_in t n (lookup_in t d kind) glyph)

-- how many units a find can look at in a lookup, the closing one left out
abbrev pub units_in : List ℕ → Option Lookup → ℕ
units_in t None = 0
units_in t (Some l) = open_count t l.at

-- The least b, `from` or more, for which 2 to the power b exceeds n. It is at most n, so that n turns from 0 on are enough; `turns` counts them.
unfoldable pub least_from : ℕ → ℕ → ℕ → ℕ
least_from zero from n = from
least_from (suc turns) from n = cond (ltb n (2 ^ from)) from (least_from turns (from + 1) n)

abbrev pub least_over : ℕ → ℕ
least_over n = least_from n 0 n

-- what an answer on a lookup's units says: how many, and the bound on the looks of a find there; or a refusal's number and offset
pub data UnitsReply : Type 0 where
  units_of : ℕ → ℕ → UnitsReply
  units_barred : ℕ → ℕ → UnitsReply

abbrev pub says_units : Result UnitCount Fault → UnitsReply
says_units (Ok c) = units_of c.units c.most
says_units (Err f) = units_barred (number_of f.refusal) f.at

abbrev pub units_said : FirstFault → ℕ → UnitsReply
units_said (Ok u) n = units_of n (least_over n)
units_said (Err f) n = units_barred (number_of f.refusal) f.at

unfoldable pub units_asked : List ℕ → ℕ → Direction → Kind → UnitsReply
units_asked t n d kind = units_said (table_fault t n) (units_in t (lookup_in t d kind))

-- how many looks an answer reports; a refusal none
abbrev pub looks_said : FindReply → ℕ
looks_said (valued v looks) = looks
looks_said (valueless looks) = looks
looks_said (barred number at) = 0
