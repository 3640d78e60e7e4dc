-- What a line's call works out before its verdicts, as the functions here have it (document 01, "The class walk" and "Sharing the gap"): a line's glyphs and
-- their classes, the parts of the glyphs side by side, and a gap that was shared or that refusal 15 bars.
use Rattle.std.specs.Prelude.{ℕ, ◌+◌, ◌*◌, ◌<◌, ◌≤◌, ◌^◌, ◌≡◌, Bool, cond, List, [], ℤ, pos, nat_abs, length, set, Some, None}
use Rattle.std.specs.Prelude as std
use Rattle.std.proofs.Math.Option.{Option, none, some}
use Rattle.std.specs.Int.Signed.{lt_z}
use Rattle.types.specs.declared.Pair.{Pair}
use Rattle.meaning.specs.Meaning.{Side}
use Rattle.meaning.specs.Limits.{em_limit, OkLimits}
use Rattle.fields.specs.Faults.{Clear}
use Rattle.table.specs.Table.{table_fault}
use Rattle.share.specs.Carry.{widest}
use Rattle.share.specs.Line.{Glyph, side_stages, side_factors, side_extras, line_moves, line_left, line_fits, signed_of}
use Rattle.share.specs.Sides.{stages_in, extras_in, TotalsOf}
use Rattle.share.specs.declared.Totals.{Totals}
use Rattle.units.specs.declared.Units.{Units}
use Rattle.units.specs.Fixed.{in_units}
use Rattle.line_rule.specs.Line.{Line, goes_back, parts_of}
use Rattle.line_input.specs.Input.{SmallSizes}
use Rattle.line_moves.specs.declared.GlyphPart.{GlyphPart}

-- the limits of a width record, if there is one, are at most 16 em
abbrev pub Small : Option Pair → Type 0
Small none = Unit {0}
Small (some p) = OkLimits p.before × OkLimits p.after

-- a limit of at most 16 em, which is not negative
abbrev pub IsLimit : ℤ → Type 0
IsLimit limit = (limit ≡ pos (nat_abs limit)) × (nat_abs limit ≤ em_limit)

-- the part that the code has of a glyph
abbrev pub glyph_of : GlyphPart → Glyph
glyph_of p = record { stage = p.priority; extra = p.extra; before = nat_abs p.before.0; after = nat_abs p.after.0 }

-- a part that a side's number has room for, with factors no wider than sharing may multiply
pub record Layable (g : Glyph) : Type 0 where
  pub stage : g.stage < 16
  pub extra : g.extra ≤ 1
  pub before : g.before ≤ widest
  pub after : g.after ≤ widest

-- a list with an element for each side, after those of one glyph's sides are stored
abbrev pub put_sides : List ℕ → ℕ → ℕ → ℕ → List ℕ
put_sides l place x y = set (set l (2 * place) x) (2 * place + 1) y

-- one glyph's part is stored at its place in two lists; its factors together are the sum
pub record Laying (g : Glyph) (place : ℕ) (sides fs : List ℕ) (both : ℕ) (sides' fs' : List ℕ) : Type 0 where
  pub stages : stages_in sides' ≡ put_sides (stages_in sides) place g.stage g.stage
  pub extras : extras_in sides' ≡ put_sides (extras_in sides) place 0 g.extra
  pub factors : fs' ≡ put_sides fs place g.before g.after
  pub sum : both ≡ g.before + g.after

-- the parts of glyphs stand in two lists, with a number for each side: its stage priority and extra weight, and its factor
pub record Laid (gs : List Glyph) (sides fs : List ℕ) : Type 0 where
  pub stages : stages_in sides ≡ side_stages gs
  pub extras : extras_in sides ≡ side_extras gs
  pub factors : fs ≡ side_factors gs

-- and their totals are these
pub record LaidOut (gs : List Glyph) (ts : Totals) (sides fs : List ℕ) : Type 0 where
  pub laid : Laid gs sides fs
  pub totals : TotalsOf ts sides fs

-- a gap, given as its size, shared over the sides of glyphs with these parts, by an edition that goes back or not: the remainder with the gap's sign, the movements as their
-- sizes; where a stage's total is above the most that it may be, the movements stay as they were
abbrev pub shared_of : Bool → Bool → ℕ → List Glyph → std.Option Units
shared_of shrink back gap gs = cond (line_fits gs) (Some (in_units (signed_of shrink (line_left back gs gap)))) None

pub record SharedOut (shrink back : Bool) (gap : ℕ) (gs : List Glyph) (ms : List ℕ) (shared : std.Option Units) (ms' : List ℕ) : Type 0 where
  pub answer : shared ≡ shared_of shrink back gap gs
  pub moves : ms' ≡ cond (line_fits gs) (line_moves back gs gap) ms

-- a gap with its sign, shared by the line's edition over the sides of its glyphs, of these classes
abbrev pub SharedGap : ℤ → Side → Line → List ℕ → List ℕ → std.Option Units → List ℕ → Type 0
SharedGap gap s l classes = SharedOut (lt_z gap (pos 0)) (goes_back l.edition) (nat_abs gap) (parts_of s (lt_z gap (pos 0)) l.sizes l.glyphs classes)

-- what is asked of a line whose gap is shared: the table is accepted; there are no more glyphs than a line may have, with a size and a class for each, and no size is too large
pub record Sharable (t : List ℕ) (n : ℕ) (zs gs cs : List ℕ) : Type 0 where
  pub accepted : table_fault t n ≡ Clear
  pub short : length gs ≤ 1024
  pub sizes : length zs ≡ length gs
  pub small : SmallSizes zs
  pub classes : length cs ≡ length gs
