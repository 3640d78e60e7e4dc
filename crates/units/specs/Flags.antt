-- The flags of an entry and of a width record (document 01, "The table"), in plain arithmetic: a mask's bits are a quotient's remainder.
use Rattle.std.specs.Prelude.{ℕ, ◌+◌, ◌*◌, ◌/◌, ◌%◌, Bool, cond, eqb}

-- ---- an entry: set mark 0x8000, stay 0x4000, mark class 0x3F80, current class 0x007F

abbrev pub sets_mark : ℕ → Bool
sets_mark f = eqb (f / 0x8000 % 2) 1

abbrev pub stays : ℕ → Bool
stays f = eqb (f / 0x4000 % 2) 1

abbrev pub mark_class : ℕ → ℕ
mark_class f = f / 0x80 % 0x80

abbrev pub current_class : ℕ → ℕ
current_class f = f % 0x80

unfoldable pub entry_flags : Bool → Bool → ℕ → ℕ → ℕ
entry_flags mark stay marked current = cond mark 0x8000 0 + cond stay 0x4000 0 + marked % 0x80 * 0x80 + current % 0x80

-- ---- a width record: unlimited 0x1000, priority 0x000F; the other bits are ignored

abbrev pub is_unlimited : ℕ → Bool
is_unlimited f = eqb (f / 0x1000 % 2) 1

abbrev pub priority_of : ℕ → ℕ
priority_of f = f % 0x10

unfoldable pub width_flags : Bool → ℕ → ℕ
width_flags unlimited priority = cond unlimited 0x1000 0 + priority % 0x10

-- flags with the ignored bits zero
abbrev pub kept_flags : ℕ → ℕ
kept_flags f = width_flags (is_unlimited f) (priority_of f)
