-- Actions as they stand in bytes (document 01, "The sheet", section 7): class and type, then the data after its length; and the lists that a sheet has,
-- which are never empty.
use Rattle.std.specs.Prelude.{ℕ, ◌+◌, ◌≤◌, ◌<◌, ◌≡◌, List, length, take, drop}
use Rattle.fields.specs.Field.{u16_at}
use Rattle.encoding.specs.Codes.{All, counted}
use Rattle.meaning.specs.Meaning.{Action}
use Rattle.meaning.specs.Limits.{OkContent, OkActions}
use Rattle.meaning.specs.Sheet.{action_code}

-- so many bytes from a place on
abbrev pub bytes_at : List ℕ → ℕ → ℕ → List ℕ
bytes_at bytes at size = take size (drop at bytes)

-- the action that stands at a place, with so many bytes of data
abbrev pub action_at : List ℕ → ℕ → ℕ → Action
action_at bytes at size = record { class = u16_at bytes at; ty = u16_at bytes (at + 2); content = bytes_at bytes (at + 8) size }

-- it is there and keeps the limits
pub record GoodAction (glyphs : ℕ) (bytes : List ℕ) (at size : ℕ) : Type 0 where
  pub room : at + 8 + size ≤ length bytes
  pub small : size ≤ 76
  pub class : u16_at bytes at < 128
  pub ty : u16_at bytes (at + 2) ≤ 5
  pub content : OkContent glyphs (u16_at bytes (at + 2)) (bytes_at bytes (at + 8) size)

-- so many valid items
abbrev pub Exactly : {A : Type 0} → ℕ → (A → Type 0) → List A → Type 0
Exactly count ok xs = (length xs ≡ count) × All ok xs

-- a list's bytes
abbrev pub list_code : List Action → List ℕ
list_code = counted action_code

-- a list that is written has 1 to 64 actions: no actions stand for no list
abbrev pub SomeList : ℕ → List Action → Type 0
SomeList glyphs l = (1 ≤ length l) × OkActions glyphs l
