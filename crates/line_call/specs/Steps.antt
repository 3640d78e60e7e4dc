-- Names for the contracts of the functions inside the crate: what the first stretch of a line's refusals leaves (the table's, 9, 10, 18 and 11: `input_fault` of
-- crates/line_input), the other two stretches (12 to 15; 16), what they leave, and how it is delivered.
use Rattle.std.specs.Prelude.{ℕ, ◌*◌, ◌<◌, ◌≤◌, ◌^◌, ◌≡◌, List, map, ℤ, length, replicate, Result, Ok, Err}
use Rattle.fields.specs.declared.Fault.{Fault}
use Rattle.fields.specs.Faults.{FirstFault, Clear, ◌then◌, first_fault}
use Rattle.types.specs.declared.Verdict.{Verdict}
use Rattle.meaning.specs.Meaning.{Side}
use Rattle.share.specs.Share.{total}
use Rattle.share.specs.Line.{evens, odds, signed_of}
use Rattle.table.specs.Table.{table_fault}
use Rattle.line_rule.specs.Line.{Line, shrinks, walk_of, classes_of, entries_of, before_of, after_of, remainder_of, verdicts_of}
use Rattle.line_input.specs.Input.{SmallSizes}
use Rattle.line_call.specs.declared.Lent as slices
use Rattle.line_call.specs.declared.Justified.{Justified}
use Rattle.line_call.specs.declared.Tally.{Tally}
use Rattle.line_call.specs.Justified.{side_for, work_tests, room_test, settled}
use Rattle.line_call.specs.Settle.{lent_by, settlement_is, settlement_in, stored_by, Tells}

-- what is known of a table and a line that neither the table's refusals nor 9, 10, 18 and 11 bar
pub record Admitted (t : List ℕ) (n : ℕ) (zs gs : List ℕ) : Type 0 where
  pub accepted : table_fault t n ≡ Clear
  pub short : length gs ≤ 1024
  pub sizes : length zs ≡ length gs
  pub small : SmallSizes zs

-- ---- 12 to 15, and 16

unfoldable pub work_fault : Side → ℕ → Line → FirstFault
work_fault s n l = first_fault (work_tests s n l)

abbrev pub rest_fault : Side → ℕ → Line → ℕ → FirstFault
rest_fault s n l room = work_fault s n l then room_test s l room

-- a line that is worked out, with so many verdicts found; or what bars it
abbrev pub worked_by : FirstFault → ℕ → Side → Line → Result Tally Fault
worked_by (Ok u) v s l = Ok (record { shrink = shrinks l; remainder = remainder_of s l; entries = entries_of (walk_of s.machine l); verdicts = v })
worked_by (Err f) v s l = Err f

-- a line's movements without their sign, which together are not above the widest gap
pub record MovesOf (s : Side) (l : Line) (ms : List ℕ) : Type 0 where
  pub before : map (signed_of (shrinks l)) (evens ms) ≡ before_of s l
  pub after : map (signed_of (shrinks l)) (odds ms) ≡ after_of s l
  pub low : total ms ≤ 1073741823

-- the answer, and what the rooms of the classes and of the movements hold where nothing bars the line
pub record WorkedOut (fault : FirstFault) (v : ℕ) (s : Side) (l : Line) (answer : Result Tally Fault) (cs ms : List ℕ) : Type 0 where
  pub says : answer ≡ worked_by fault v s l
  pub classes : fault ≡ Clear → cs ≡ classes_of (walk_of s.machine l)
  pub moves : fault ≡ Clear → MovesOf s l ms

-- with 16, and what the room of the verdicts tells
pub record Counted (s : Side) (n : ℕ) (l : Line) (room : ℕ) (answer : Result Tally Fault) (cs ms work : List ℕ) : Type 0 where
  pub out : WorkedOut (rest_fault s n l room) (length (verdicts_of s l)) s l answer cs ms
  pub tells : rest_fault s n l room ≡ Clear → Tells (length (verdicts_of s l)) (verdicts_of s l) work

-- room to work out n glyphs: zeros for their classes and movements, and two numbers for each
pub record WorkRoom (n : ℕ) (cs ms xs : List ℕ) : Type 0 where
  pub classes : cs ≡ replicate n 0
  pub moves : ms ≡ replicate (2 * n) 0
  pub work : length xs ≡ 2 * n

-- room for n classes and movements
pub record LineRoom (n : ℕ) (cs : List ℕ) (bs fs : List ℤ) : Type 0 where
  pub classes : length cs ≡ n
  pub before : length bs ≡ n
  pub after : length fs ≡ n

abbrev pub RoomIn : ℕ → slices.Lent → Type 0
RoomIn n s = LineRoom n s.classes.now s.before.now s.after.now

-- ---- what is worked out, delivered

abbrev pub answer_by : Tally → Justified
answer_by tally = record { remainder = tally.remainder; entries = tally.entries; verdicts = tally.verdicts }

-- classes and movements that may be: two movements for each class, which fit with their sign
pub record Deliverable (tally : Tally) (held ms : List ℕ) : Type 0 where
  pub even : length ms ≡ 2 * length held
  pub low : total ms < 2147483648
  pub few : tally.verdicts < 2 ^ 32

pub record Delivered (tally : Tally) (held ms : List ℕ) (answer : Justified) (cs : List ℕ) (bs fs : List ℤ) : Type 0 where
  pub says : answer ≡ answer_by tally
  pub classes : cs ≡ held
  pub before : bs ≡ map (signed_of tally.shrink) (evens ms)
  pub after : fs ≡ map (signed_of tally.shrink) (odds ms)

-- ---- 12 to 16

-- the outcome of these, whatever the list of verdicts holds: its records are stored afterwards, and the room tells them
pub record SettledIn (s : Side) (n : ℕ) (l : Line) (room : ℕ) (cs : List ℕ) (bs fs : List ℤ) (answer : Result Justified Fault) (cs' : List ℕ) (bs' fs' : List ℤ) (work : List ℕ) : Type 0 where
  pub settles : (verdicts : List Verdict) → settlement_is answer cs' bs' fs' ≡ settlement_in (settled (rest_fault s n l room) s l (lent_by cs bs fs verdicts))
  pub tells : Tells (stored_by answer) (verdicts_of s l) work

-- of a table and a line, over the lent slices
abbrev pub SettledCall : List ℕ → ℕ → Line → ℕ → slices.Lent → Result Justified Fault → slices.Lent → List ℕ → Type 0
SettledCall t n l room old answer new =
    SettledIn (side_for t n l) n l room old.classes.now old.before.now old.after.now answer new.classes.now new.before.now new.after.now
