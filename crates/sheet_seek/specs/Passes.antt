-- Passing over parts of a sheet (document 01, "The sheet"): sections stand one after the other, each after its count. A place is spoken of by what
-- stands there, whatever follows.
use Rattle.std.specs.Prelude.{ℕ, zero, suc, ◌⊎◌, ◌+◌, ◌*◌, ◌≤◌, ◌<◌, ◌^◌, ◌≡◌, List, [], ◌++◌, length, drop}
use Rattle.std.proofs.Math.Option.{Option}
use Rattle.fields.specs.Field.{u32_at}
use Rattle.encoding.specs.Codes.{All, many, counted}
use Rattle.encoding.specs.Sections.{numbered}
use Rattle.sheet_sections.specs.Section.{HasItems}
use Rattle.types.specs.declared.Direction.{Direction}
use Rattle.types.specs.declared.Direction.TheVariants.{Horizontal, Vertical}
use Rattle.sheet_items.specs.declared.Sort.{Sort}
use Rattle.sheet_items.specs.declared.Sort.TheVariants.{Clusters, Lists}
use Rattle.meaning.specs.Meaning.{Machine, Meaning}
use Rattle.meaning.specs.Discrete.{Entry-discrete}
use Rattle.meaning.specs.Ask.{side_of}
use Rattle.meaning.specs.Sheet.{entry_code, cells_of, class_section, write_side, cluster_bytes, list_bytes}

-- where the bytes `whole` of a valid value stand at a place, its bytes `left` stand at q, the same after them
abbrev pub Passes : {A : Type 0} → (A → List ℕ) → (A → List ℕ) → (A → Type 0) → List ℕ → ℕ → ℕ → Type 0
Passes whole left ok bytes at q = (x : _) (rest : List ℕ) → ok x → drop at bytes ≡ whole x ++ rest → drop q bytes ≡ left x ++ rest

-- a count and as many items of one width end at q, if they are there
abbrev pub ItemsEnd : ℕ → List ℕ → ℕ → ℕ → Type 0
ItemsEnd width bytes at q = HasItems width bytes at → q ≡ at + 4 + width * u32_at bytes at

-- valid items, k or more, and not more than a 32-bit count can say
abbrev pub AtLeast : {A : Type 0} → (A → Type 0) → ℕ → List A → Type 0
AtLeast ok k xs = (k ≤ length xs) × (length xs < 2 ^ 32) × All ok xs

-- of the items after their count at a place, those from the number k on stand at q
abbrev pub Reaches : {A : Type 0} → (A → List ℕ) → (A → Type 0) → ℕ → List ℕ → ℕ → ℕ → Type 0
Reaches code ok k = Passes (counted code) (λ xs. many code (drop k xs)) (AtLeast ok k)

-- k steps from p on, each to where the one before led, as long as that lies before the end: q is where they lead
abbrev pub Walks : (ℕ → ℕ → Type 0) → ℕ → ℕ → ℕ → ℕ → Type 0
Walks step end zero p q = q ≡ p
Walks step end (suc k) p q = ((end ≤ p) × (q ≡ p)) ⊎ ((r : ℕ) × step p r × Walks step end k r q)

-- what is valid by a count of glyphs, for some count
abbrev pub ByGlyphs : {A : Type 0} → (ℕ → A → Type 0) → A → Type 0
ByGlyphs ok x = (n : ℕ) × (n < 2 ^ 16) × ok n x

-- ---- a machine's sections after section 1, and after section 2

abbrev pub after_classes : Option Machine → List ℕ
after_classes m = numbered Entry-discrete entry_code (cells_of m)

abbrev pub after_sizes : Option Machine → List ℕ
after_sizes m = class_section m ++ after_classes m

-- ---- the rest of a sheet, from a direction on, and from its section 5 or 7 on

-- what follows a direction
abbrev pub after_side : Direction → Meaning → List ℕ
after_side Horizontal m = write_side m.vertical
after_side Vertical m = []

abbrev pub side_on : Direction → Meaning → List ℕ
side_on d m = write_side (side_of d m) ++ after_side d m

abbrev pub lists_on : Direction → Meaning → List ℕ
lists_on d m = list_bytes (side_of d m).lists ++ after_side d m

abbrev pub clusters_on : Direction → Meaning → List ℕ
clusters_on d m = cluster_bytes (side_of d m).clusters ++ lists_on d m

abbrev pub items_on : Sort → Direction → Meaning → List ℕ
items_on Clusters = clusters_on
items_on Lists = lists_on
