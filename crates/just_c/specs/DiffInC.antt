-- What the call for the differences of two tables says in C: a refusal is its number, its offset and count 0, anything else how many differences there are;
-- and what the lent room holds afterwards.
use Rattle.std.specs.Prelude.{ℕ, List}
use Rattle.diff_call.specs.Calls.{ListAnswer}
use Rattle.just_c.specs.declared.JustCount.{JustCount}
use Rattle.just_c.specs.InC.{count_in}

pub record ListedInC : Type 0 where
  pub answer : JustCount
  pub room : List ℕ

abbrev pub listed_in : ListAnswer → ListedInC
listed_in o = record { answer = count_in o.said; room = o.room }
