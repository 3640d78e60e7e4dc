-- The class walk (document 01, "The class walk"; a walk that never ends is refusal 14). The walk is a step from where it stands to where it stands next;
-- that it ends, or never ends, is said of all numbers of steps, with no budget. It is defined over any machine and any line: which bytes they come from
-- is said in `Line`. The machine's class of a glyph is called its column here, to tell it from the class that entries give the glyph.
use Rattle.std.specs.Prelude.{ℕ, zero, suc, ◌+◌, ◌*◌, ◌<◌, ◌≤◌, ◌≡◌, Bool, cond, List, eqb, ltb, length, get_or, set, replicate, Option, Some, None}
use Rattle.std.specs.Option.{option_or}
use Rattle.types.specs.declared.Entry.{Entry}
use Rattle.units.specs.Flags.{sets_mark, stays, mark_class, current_class}

-- a machine: the row count S, the class count, and the entry in each cell by row and class
pub record Machine : Type 0 where
  pub rows : ℕ
  pub classes : ℕ
  pub cell : ℕ → ℕ → Entry

-- a line: the class that the machine gives each of its glyphs, in order, and whether it starts and ends the text
pub record Line : Type 0 where
  pub columns : List ℕ
  pub starts : Bool
  pub ends : Bool

abbrev pub glyphs : Line → ℕ
glyphs l = length l.columns

-- where a walk stands: the row, the place in the line (the end position is the place after the last glyph), the place of the marked glyph, if one is marked,
-- the class given to each glyph so far, and the entries taken
pub record Conf : Type 0 where
  pub row : ℕ
  pub place : ℕ
  pub mark : Option ℕ
  pub given : List ℕ
  pub count : ℕ

-- a walk is still going, or has stopped with the glyphs' classes and the count of entries
pub data Walk : Type 0 where
  going : Conf → Walk
  stopped : List ℕ → ℕ → Walk

-- the machine's class at a place: its glyph's; at the end position 0 where the line ends the text, else 3
abbrev pub column_at : List ℕ → Bool → ℕ → ℕ
column_at columns ends place = cond (ltb place (length columns)) (get_or columns place 0) (cond ends 0 3)

-- the current glyph, by its place, in a line of n glyphs: none at the end position
abbrev pub current : ℕ → ℕ → Option ℕ
current n place = cond (ltb place n) (Some place) None

-- a class goes to a glyph if it is not 0 and there is a glyph
abbrev pub give : Option ℕ → ℕ → List ℕ → List ℕ
give None class given = given
give (Some place) class given = cond (eqb class 0) given (set given place class)

-- the entry that is met
abbrev pub met : Machine → Line → Conf → Entry
met m l s = m.cell s.row (column_at l.columns l.ends s.place)

-- the classes after it: its mark class to the glyph that an earlier entry marked, then its current class to the current glyph
abbrev pub given_by : Entry → Line → Conf → List ℕ
given_by e l s = give (current (glyphs l) s.place) (current_class e.flags) (give s.mark (mark_class e.flags) s.given)

-- the marked glyph after it: set mark marks the current glyph, and does nothing where there is none
abbrev pub mark_by : Entry → Line → Conf → Option ℕ
mark_by e l s = cond (sets_mark e.flags) (option_or (current (glyphs l) s.place) s.mark) s.mark

-- the walk goes on at a place
abbrev pub on_at : ℕ → Entry → Line → Conf → Conf
on_at place e l s =
    record { row = e.row; place = place; mark = mark_by e l s; given = given_by e l s; count = s.count + 1 }

-- an entry is taken: it stays at its place or goes on to the next one; at the end position an entry that does not stay stops the walk
unfoldable pub taken : Entry → Line → Conf → Walk
taken e l s =
    cond (stays e.flags)
    (going (on_at s.place e l s))
    (cond (ltb s.place (glyphs l)) (going (on_at (s.place + 1) e l s)) (stopped (given_by e l s) (s.count + 1)))

abbrev pub entry : Machine → Line → Conf → Walk
entry m l s = taken (met m l s) l s

unfoldable pub step : Machine → Line → Walk → Walk
step m l (going s) = entry m l s
step m l (stopped cs k) = stopped cs k

-- at first: row 0 if the line starts the text, else row 1; the first place; no glyph marked; every class 0; no entry taken
unfoldable pub begin : Line → Conf
begin l = record { row = cond l.starts 0 1; place = 0; mark = None; given = replicate (glyphs l) 0; count = 0 }

-- the walk after n steps
unfoldable pub after : Machine → Line → ℕ → Walk
after m l zero = going (begin l)
after m l (suc n) = step m l (after m l n)

-- the walk ends with these classes and this count: some number of steps brings it there
unfoldable pub Ends : Machine → Line → List ℕ → ℕ → Type 0
Ends m l cs k = (n : ℕ) × (after m l n ≡ stopped cs k)

-- the walk never ends: no number of steps stops it
unfoldable pub Never : Machine → Line → Type 0
Never m l = (n : ℕ) (cs : List ℕ) (k : ℕ) → after m l n ≡ stopped cs k → ⊥

-- the most entries of a walk that ends: S × (glyphs + 1)
abbrev pub most_entries : Machine → Line → ℕ
most_entries m l = m.rows * (glyphs l + 1)

-- the walk as it can be computed: after the most entries that a walk which ends can take. Where `Fits` holds, it has stopped by then exactly if it ends
-- (the laws `walked-ends`, `ends-walked`, `walked-never` and `never_walked`).
unfoldable pub walked : Machine → Line → Walk
walked m l = after m l (most_entries m l)

-- with no machine: every class 0, no entry taken
abbrev pub no_walk : Line → Walk
no_walk l = stopped (replicate (glyphs l) 0) 0

-- what an accepted machine and the classes that it gives the glyphs of a line keep: rows 0 and 1 and the classes 0 to 3 are there, the rows lead below S,
-- and the line's classes are the machine's
pub record Fits (m : Machine) (l : Line) : Type 0 where
  pub rows-low : 2 ≤ m.rows
  pub classes-low : 4 ≤ m.classes
  pub closed : (row class : ℕ) → row < m.rows → class < m.classes → (m.cell row class).row < m.rows
  pub columns-low : (place : ℕ) → place < glyphs l → get_or l.columns place 0 < m.classes
