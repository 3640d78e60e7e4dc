-- What the structs of the C boundary say of a value and of a lookup's units: a refusal is its number and offset and everything else zeros; where a glyph has no value,
-- `found` is false and the value 0, and the looks are those that were taken.
use Rattle.std.specs.Prelude.{true, false}
use Rattle.table_find.specs.Values.{FindReply, valued, valueless, barred, UnitsReply, units_of, units_barred}
use Rattle.table_find.specs.declared.JustValue.{JustValue}
use Rattle.table_find.specs.declared.JustUnits.{JustUnits}

abbrev pub value_in : FindReply → JustValue
value_in (valued v looks) = record { refusal = 0; offset = 0; found = true; value = v; looks = looks }
value_in (valueless looks) = record { refusal = 0; offset = 0; found = false; value = 0; looks = looks }
value_in (barred number at) = record { refusal = number; offset = at; found = false; value = 0; looks = 0 }

abbrev pub units_out : UnitsReply → JustUnits
units_out (units_of n most) = record { refusal = 0; offset = 0; units = n; most = most }
units_out (units_barred number at) = record { refusal = number; offset = at; units = 0; most = 0 }
