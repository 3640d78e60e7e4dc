-- What a difference says of two meanings' answers (document 02, 6/14: each difference, and nothing else): by its mark the part that it names is there in both,
-- only in the first or only in the second; it answers unlike in the two, and of a glyph's actions one does; and a number that it has no use for is 0.
use Rattle.std.specs.Prelude.{ℕ, ◌≡◌, List}
use Rattle.encoding.specs.Codes.{All}
use Rattle.types.specs.declared.Direction.{Direction}
use Rattle.meaning.specs.Meaning.{Meaning}
use Rattle.meaning.specs.Ask.{Part, sizes, class, cell, width, action, along, Answer, nothing, ask}
use Rattle.diff_rule.specs.declared.Aspect.{Aspect}
use Rattle.diff_rule.specs.declared.Aspect.TheVariants.{Sizes, Class, Cell, Width, Actions}
use Rattle.diff_rule.specs.declared.Mark.{Mark}
use Rattle.diff_rule.specs.declared.Mark.TheVariants.{Changed, OnlyFirst, OnlySecond}
use Rattle.diff_rule.specs.declared.Difference.{Difference}

abbrev pub SameAnswer : Meaning → Meaning → Direction → Part → Type 0
SameAnswer m m' d p = ask m (along d p) ≡ ask m' (along d p)

abbrev pub AllAlike : Aspect → Meaning → Meaning → Direction → ℕ → ℕ → Type 0
AllAlike Sizes m m' d x y = SameAnswer m m' d sizes
AllAlike Class m m' d x y = SameAnswer m m' d (class x)
AllAlike Cell m m' d x y = SameAnswer m m' d (cell x y)
AllAlike Width m m' d x y = SameAnswer m m' d (width x y)
AllAlike Actions m m' d x y = (k : ℕ) → SameAnswer m m' d (action x k)

-- the part that is asked for; a glyph has a list where it has a first action
abbrev pub named_part : Aspect → ℕ → ℕ → Part
named_part Sizes x y = sizes
named_part Class x y = class x
named_part Cell x y = cell x y
named_part Width x y = width x y
named_part Actions x y = action x 0

-- what a mark says of the answers of the first and of the second
abbrev pub Marked : Mark → Answer → Answer → Type 0
Marked Changed a b = (a ≡ nothing → ⊥) × (b ≡ nothing → ⊥)
Marked OnlyFirst a b = (a ≡ nothing → ⊥) × (b ≡ nothing)
Marked OnlySecond a b = (a ≡ nothing) × (b ≡ nothing → ⊥)

-- a number without use is 0
abbrev pub ZeroUnused : Aspect → ℕ → ℕ → Type 0
ZeroUnused Sizes x y = (x ≡ 0) × (y ≡ 0)
ZeroUnused Class x y = y ≡ 0
ZeroUnused Cell x y = Unit {0}
ZeroUnused Width x y = Unit {0}
ZeroUnused Actions x y = y ≡ 0

pub record Founded (m m' : Meaning) (x : Difference) : Type 0 where
  pub marked : Marked x.mark (ask m (along x.direction (named_part x.aspect x.subject x.class))) (ask m' (along x.direction (named_part x.aspect x.subject x.class)))
  pub unlike : AllAlike x.aspect m m' x.direction x.subject x.class → ⊥
  pub unused : ZeroUnused x.aspect x.subject x.class

-- a difference names a part; that of a glyph's list names all its actions
abbrev pub Names : Direction → Part → Difference → Type 0
Names d sizes x = (x.direction ≡ d) × (x.aspect ≡ Sizes)
Names d (class g) x = (x.direction ≡ d) × (x.aspect ≡ Class) × (x.subject ≡ g)
Names d (cell r c) x = (x.direction ≡ d) × (x.aspect ≡ Cell) × (x.subject ≡ r) × (x.class ≡ c)
Names d (width g c) x = (x.direction ≡ d) × (x.aspect ≡ Width) × (x.subject ≡ g) × (x.class ≡ c)
Names d (action g k) x = (x.direction ≡ d) × (x.aspect ≡ Actions) × (x.subject ≡ g)

-- no difference of a list does
abbrev pub Unnamed : Direction → Part → List Difference → Type 0
Unnamed d p xs = All (λ (x : Difference). Names d p x → ⊥) xs

-- the sizes are not named, where the part is one of those that are listed for machines of one size only
abbrev pub Listable : Direction → Part → List Difference → Type 0
Listable d sizes xs = Unit {0}
Listable d (class g) xs = Unnamed d sizes xs
Listable d (cell r c) xs = Unnamed d sizes xs
Listable d (width g c) xs = Unit {0}
Listable d (action g k) xs = Unit {0}
