-- Values whose numbers fit the fields that the sheet has for them (document 01, "The sheet"). What keeps the limits fits; these say no more than that, so
-- that one stretch of bytes can be walked over before it is judged.
use Rattle.std.specs.Prelude.{ℕ, ◌<◌, ◌^◌, List, length}
use Rattle.encoding.specs.Codes.{All}
use Rattle.types.specs.declared.Entry.{Entry}
use Rattle.types.specs.declared.Pair.{Pair}
use Rattle.meaning.specs.Meaning.{Action}

abbrev pub W16 : ℕ → Type 0
W16 n = n < 2 ^ 16

abbrev pub W32 : ℕ → Type 0
W32 n = n < 2 ^ 32

-- a machine's row count and class count
abbrev pub WideSizes : ℕ × ℕ → Type 0
WideSizes p = W32 p.0 × W32 p.1

abbrev pub WideEntry : Entry → Type 0
WideEntry e = W16 e.row × W16 e.flags

pub record WidePair (p : Pair) : Type 0 where
  pub class : W32 p.class
  pub before-grow : W32 p.before.grow
  pub before-shrink : W32 p.before.shrink
  pub after-grow : W32 p.after.grow
  pub after-shrink : W32 p.after.shrink
  pub flags-grow : W16 p.flags.grow
  pub flags-shrink : W16 p.flags.shrink

abbrev pub WideAction : Action → Type 0
WideAction a = W16 a.class × W16 a.ty × W32 (length a.content)

-- a cluster and an action list
abbrev pub FewPairs : List Pair → Type 0
FewPairs l = W32 (length l) × All WidePair l

abbrev pub FewActions : List Action → Type 0
FewActions l = W32 (length l) × All WideAction l
