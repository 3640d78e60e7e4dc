-- What the cases of an answer say (document 01, "The sheet" and "Numbers of refusal"): a refusal its number and (document 02, 4/14) its offset, everything else the part that was asked for.
use Rattle.std.specs.Prelude.{ℕ, replicate, take, Option, Some, None, Result, Ok, Err}
use Rattle.fields.specs.declared.Fault.{Fault}
use Rattle.fields.specs.Faults.{FirstFault}
use Rattle.fields.specs.Refusals.{number_of}
use Rattle.types.specs.declared.Entry.{Entry}
use Rattle.types.specs.declared.Pair.{Pair}
use Rattle.types.specs.declared.HeldAction.{HeldAction}
use Rattle.meaning.specs.Meaning.{Action}
use Rattle.meaning.specs.Ask.{Answer, nothing, number, both, entry, pair, act, held}
use Rattle.answers.specs.declared.Sizes.{Sizes}

-- what a call that only judges says: accepted, or the refusal's number and its offset from the table's start, which is 0 but for 4 to 8
pub data Judgement : Type 0 where
  accepted : Judgement
  barred : ℕ → ℕ → Judgement

-- a refusal's number and offset, or an answer
pub data Reply : Type 0 where
  refused : ℕ → ℕ → Reply
  given : Answer → Reply

-- the refusal of a fault comes first
abbrev pub unless_bad : FirstFault → Answer → Reply
unless_bad (Ok u) a = given a
unless_bad (Err f) a = refused (number_of f.refusal) f.at

-- whether a fault bars
abbrev pub judged_by : FirstFault → Judgement
judged_by (Ok u) = accepted
judged_by (Err f) = barred (number_of f.refusal) f.at

-- what a question answers: its part in the words of a meaning, or nothing, or the refusal of a fault
abbrev pub says : {A : Type 0} → (A → Answer) → Result (Option A) Fault → Reply
says in_words (Ok (Some part)) = given (in_words part)
says in_words (Ok None) = given nothing
says in_words (Err f) = refused (number_of f.refusal) f.at

abbrev pub says_count : Result ℕ Fault → Reply
says_count (Ok n) = given (number n)
says_count (Err f) = refused (number_of f.refusal) f.at

abbrev pub says_sizes : Result (Option Sizes) Fault → Reply
says_sizes (Ok (Some s)) = given (both s.rows s.classes)
says_sizes (Ok None) = given nothing
says_sizes (Err f) = refused (number_of f.refusal) f.at

abbrev pub says_class : Result (Option ℕ) Fault → Reply
says_class = says number

abbrev pub says_cell : Result (Option Entry) Fault → Reply
says_cell = says entry

abbrev pub says_record : Result (Option Pair) Fault → Reply
says_record = says pair

-- the action in its room of 76 bytes: its data is the first `size` of them
abbrev pub action_held : HeldAction → Action
action_held h = record { class = h.class; ty = h.ty; content = take h.size h.bytes }

abbrev pub says_action : Result (Option HeldAction) Fault → Reply
says_action = says (λ h. act (action_held h))

-- what the room holds: the action and zeros after it, or zeros alone
abbrev pub no_action : HeldAction
no_action = record { class = 0; ty = 0; size = 0; bytes = replicate 76 0 }

abbrev pub room_for : Answer → HeldAction
room_for (act a) = held a
room_for nothing = no_action
room_for (number n) = no_action
room_for (both s c) = no_action
room_for (entry e) = no_action
room_for (pair p) = no_action

abbrev pub room_after : Reply → HeldAction
room_after (given a) = room_for a
room_after (refused n at) = no_action

-- the room that an answer leaves for its action, zeros where it has none
abbrev pub room_of : Result (Option HeldAction) Fault → HeldAction
room_of (Ok (Some h)) = h
room_of (Ok None) = no_action
room_of (Err f) = no_action
