-- What is read from an action list, each action as the sheet writes it (document 01, "The table", the list, and "The sheet", section 7): its data without padding,
-- type 0's with its count and glyphs, type 5's with its flags zero. Fields are read as if zeros followed the table.
use Rattle.std.specs.Prelude.{None, Option, Some}
use Rattle.std.specs.Prelude.{ℕ, zero, suc, ◌+◌, ◌-◌, ◌*◌, ◌<◌, cond, List, [], ◌∷◌, ◌++◌, ltb, eqb, length, get_or, take, replicate}
use Rattle.fields.specs.Field.{u16_at, u32_at}
use Rattle.encoding.specs.Upto.{from}
use Rattle.meaning.specs.Meaning.{Action}
use Rattle.actions.specs.declared.Stretch.{Stretch}
use Rattle.actions.specs.Faults.{data_size}

-- n bytes from `at` on
unfoldable pub bytes_at : List ℕ → ℕ → ℕ → List ℕ
bytes_at t at n = from (λ i. get_or t i 0) n at

-- the data of the action at `at`, of a type
unfoldable pub content_at : List ℕ → ℕ → ℕ → List ℕ
content_at t at ty =
    cond (eqb ty 0) (bytes_at t (at + 8) (12 + 2 * u16_at t (at + 18)))
    (cond (eqb ty 5) (0 ∷ 0 ∷ bytes_at t (at + 10) 2)
    (bytes_at t (at + 8) (data_size ty)))

unfoldable pub action_at : List ℕ → ℕ → Action
action_at t at = record { class = u16_at t at; ty = u16_at t (at + 2); content = content_at t at (u16_at t (at + 2)) }

-- n actions from `at` on
unfoldable pub actions_at : List ℕ → ℕ → ℕ → List Action
actions_at t zero at = []
actions_at t (suc n) at = action_at t at ∷ actions_at t n (at + u32_at t (at + 4))

-- the actions of the list at `at`
unfoldable pub list_at : List ℕ → ℕ → List Action
list_at t at = actions_at t (u32_at t at) (at + 4)

-- ---- where an action and its components stand

-- where the action stands that is k after the one at `at`
unfoldable pub place_after : List ℕ → ℕ → ℕ → ℕ
place_after t zero at = at
place_after t (suc k) at = place_after t k (at + u32_at t (at + 4))

-- where the action with a number stands, of the list at `at`
unfoldable pub spot_in_list : List ℕ → ℕ → ℕ → Option ℕ
spot_in_list t at number = cond (ltb number (u32_at t at)) (Some (place_after t number (at + 4))) None

-- a spot's offset, if it has one, is below a number
abbrev pub SpotBelow : ℕ → Option ℕ → Type 0
SpotBelow n (Some p) = p < n
SpotBelow n None = Unit {0}

-- where the glyphs of the action at `at` stand, without their count; an empty stretch if it is not of type 0
unfoldable pub components_at : List ℕ → ℕ → Stretch
components_at t at =
    cond (eqb (u16_at t (at + 2)) 0) (record { from = at + 20; to = at + 20 + 2 * u16_at t (at + 18) }) (record { from = 0; to = 0 })

-- ---- an action handed out

-- bytes with zeros after them, up to 76
abbrev pub padded : List ℕ → List ℕ
padded bytes = bytes ++ replicate (76 - length bytes) 0

-- an action with the first 76 bytes of its data, which are all of it where it keeps the limits
abbrev pub clipped : Action → Action
clipped a = record { class = a.class; ty = a.ty; content = take 76 a.content }
