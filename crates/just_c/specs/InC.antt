-- What the structs of the C boundary say: a refusal is its number and its offset (document 02, 4/14) and everything else zeros; a part that is not there is `found` false and zeros.
use Rattle.std.specs.Prelude.{ℕ, ◌-◌, true, false, Option, Some, None, Result, Ok, Err}
use Rattle.fields.specs.declared.Fault.{Fault}
use Rattle.fields.specs.Refusals.{number_of}
use Rattle.types.specs.declared.Entry.{Entry}
use Rattle.types.specs.declared.Pair.{Pair}
use Rattle.types.specs.declared.HeldAction.{HeldAction}
use Rattle.meaning.specs.Ask.{Answer, nothing, number, both, entry, pair, act, held}
use Rattle.answers.specs.Says.{Judgement, accepted, barred, Reply, refused, given, no_action}
use Rattle.actions.specs.declared.Stretch.{Stretch}
use Rattle.just_c.specs.declared.JustChecked.{JustChecked}
use Rattle.just_c.specs.declared.JustCount.{JustCount}
use Rattle.just_c.specs.declared.JustSizes.{JustSizes}
use Rattle.just_c.specs.declared.JustClass.{JustClass}
use Rattle.just_c.specs.declared.JustCell.{JustCell}
use Rattle.just_c.specs.declared.JustRecord.{JustRecord}
use Rattle.just_c.specs.declared.JustAction.{JustAction}
use Rattle.just_c.specs.declared.JustStretch.{JustStretch}

-- 0 and 0 for accepted, else the number and the offset of the refusal
abbrev pub checked_in : Judgement → JustChecked
checked_in accepted = record { refusal = 0; offset = 0 }
checked_in (barred n at) = record { refusal = n; offset = at }

-- what of an answer a call hands out, and zeros for any other
abbrev pub number_in : Answer → ℕ
number_in (number n) = n
number_in nothing = 0
number_in (both s c) = 0
number_in (entry e) = 0
number_in (pair p) = 0
number_in (act a) = 0

abbrev pub count_in : Reply → JustCount
count_in (refused n at) = record { refusal = n; offset = at; count = 0 }
count_in (given a) = record { refusal = 0; offset = 0; count = number_in a }

-- zeros beside an offset and a number, which are those of a refusal, or both 0 where a part is not there
abbrev pub no_sizes : ℕ → ℕ → JustSizes
no_sizes at n = record { refusal = n; offset = at; found = false; rows = 0; classes = 0 }

abbrev pub sizes_given : Answer → JustSizes
sizes_given (both s c) = record { refusal = 0; offset = 0; found = true; rows = s; classes = c }
sizes_given nothing = no_sizes 0 0
sizes_given (number n) = no_sizes 0 0
sizes_given (entry e) = no_sizes 0 0
sizes_given (pair p) = no_sizes 0 0
sizes_given (act a) = no_sizes 0 0

abbrev pub no_class : ℕ → ℕ → JustClass
no_class at n = record { refusal = n; offset = at; found = false; class = 0 }

abbrev pub class_given : Answer → JustClass
class_given (number c) = record { refusal = 0; offset = 0; found = true; class = c }
class_given nothing = no_class 0 0
class_given (both s c) = no_class 0 0
class_given (entry e) = no_class 0 0
class_given (pair p) = no_class 0 0
class_given (act a) = no_class 0 0

abbrev pub no_entry : Entry
no_entry = record { row = 0; flags = 0 }

abbrev pub no_cell : ℕ → ℕ → JustCell
no_cell at n = record { refusal = n; offset = at; found = false; entry = no_entry }

abbrev pub cell_given : Answer → JustCell
cell_given (entry e) = record { refusal = 0; offset = 0; found = true; entry = e }
cell_given nothing = no_cell 0 0
cell_given (number n) = no_cell 0 0
cell_given (both s c) = no_cell 0 0
cell_given (pair p) = no_cell 0 0
cell_given (act a) = no_cell 0 0

abbrev pub no_pair : Pair
no_pair =
    record {
      class = 0;
      before = record { grow = 0; shrink = 0 };
      after = record { grow = 0; shrink = 0 };
      flags = record { grow = 0; shrink = 0 };
    }

abbrev pub no_record : ℕ → ℕ → JustRecord
no_record at n = record { refusal = n; offset = at; found = false; pair = no_pair }

abbrev pub record_given : Answer → JustRecord
record_given (pair p) = record { refusal = 0; offset = 0; found = true; pair = p }
record_given nothing = no_record 0 0
record_given (number n) = no_record 0 0
record_given (both s c) = no_record 0 0
record_given (entry e) = no_record 0 0
record_given (act a) = no_record 0 0

abbrev pub no_held : ℕ → ℕ → JustAction
no_held at n = record { refusal = n; offset = at; found = false; action = no_action }

abbrev pub action_given : Answer → JustAction
action_given (act a) = record { refusal = 0; offset = 0; found = true; action = held a }
action_given nothing = no_held 0 0
action_given (number n) = no_held 0 0
action_given (both s c) = no_held 0 0
action_given (entry e) = no_held 0 0
action_given (pair p) = no_held 0 0

-- an answer as `out` has it, or zeros beside a refusal
abbrev pub reply_in : {A : Type 0} → (ℕ → ℕ → A) → (Answer → A) → Reply → A
reply_in none out (refused n at) = none at n
reply_in none out (given a) = out a

abbrev pub sizes_in : Reply → JustSizes
sizes_in = reply_in no_sizes sizes_given

abbrev pub class_in : Reply → JustClass
class_in = reply_in no_class class_given

abbrev pub cell_in : Reply → JustCell
cell_in = reply_in no_cell cell_given

abbrev pub record_in : Reply → JustRecord
record_in = reply_in no_record record_given

abbrev pub action_in : Reply → JustAction
action_in = reply_in no_held action_given

-- an action's answer with its room, zeros where none was found
abbrev pub action_out : Result (Option HeldAction) Fault → JustAction
action_out (Ok (Some h)) = record { refusal = 0; offset = 0; found = true; action = h }
action_out (Ok None) = no_held 0 0
action_out (Err f) = no_held f.at (number_of f.refusal)

abbrev pub stretch_in : Stretch → JustStretch
stretch_in s = record { offset = s.from; length = s.to - s.from }
