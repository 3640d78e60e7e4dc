-- The distinct ones of some clusters or lists in order of first use, and the number of each among them (document 01, "The sheet", sections 5 to 8): an item
-- is known by the place where it stands. A place past the table has none.
use Rattle.std.specs.Prelude.{ℕ, ◌+◌, ◌-◌, ◌%◌, ◌≤◌, ◌<◌, ◌≡◌, ◌⊎◌, List, [], ◌∷◌, ◌++◌, map, length, get_or, take}
use Rattle.fields.specs.Field.{u32_at}
use Rattle.encoding.specs.Distinct.{index, distinct, numbers, Once}
use Rattle.lookup_targets.specs.declared.Kind.{Kind}
use Rattle.write_item.specs.Items.{Item, no_item, item_at, item-discrete, item_hash, Earlier}

-- the items at these places
abbrev pub placed : (kind : Kind) → List ℕ → List ℕ → List (Item kind)
placed kind t places = map (item_at kind t) places

-- the number of the item at a place among those at the places `firsts`, none counted first
abbrev pub item_number : (kind : Kind) → List ℕ → List ℕ → ℕ → ℕ
item_number kind t firsts place = index (item-discrete kind) (item_at kind t place) (no_item kind ∷ placed kind t firsts)

-- the distinct items of a list, after none, which has the number 0
unfoldable pub distinct_of : (kind : Kind) → List (Item kind) → List (Item kind)
distinct_of kind items = distinct (item-discrete kind) (no_item kind ∷ []) items

-- the first k of `firsts` are the places of the distinct items; `nums` has the number of each item, 0 for none
pub record Numbered (kind : Kind) (t : List ℕ) (items : List (Item kind)) (nums firsts : List ℕ) (k : ℕ) : Type 0 where
  pub found : distinct_of kind items ≡ no_item kind ∷ placed kind t (take k firsts)
  pub numbered : nums ≡ numbers (item-discrete kind) (distinct_of kind items) items

-- ---- items kept so that one is found soon

-- the item at the place with an index, counted from 0
abbrev pub item_of : (kind : Kind) → List ℕ → List ℕ → ℕ → Item kind
item_of kind t firsts j = item_at kind t (get_or firsts j 0)

-- the s-th item, counted from 0, of those listed in `others`, which has their number and then the index of each
abbrev pub other_of : (kind : Kind) → List ℕ → List ℕ → List ℕ → ℕ → Item kind
other_of kind t firsts others s = item_of kind t firsts (get_or others (s + 1) 0)

-- those listed in `others` are among the items at the first k of `firsts`, not all of them, and rise as words in a dictionary
pub record SortedOthers (kind : Kind) (t firsts others : List ℕ) (k : ℕ) : Type 0 where
  pub few : get_or others 0 0 ≤ k - 1
  pub within : (s : ℕ) → s < get_or others 0 0 → get_or others (s + 1) 0 < k
  pub rising : (a b : ℕ) → a < b → b < get_or others 0 0 → Earlier kind (other_of kind t firsts others a) (other_of kind t firsts others b)

-- the first n of those listed come before x, and no others
pub record Ranked (kind : Kind) (t firsts others : List ℕ) (x : Item kind) (n : ℕ) : Type 0 where
  pub most : n ≤ get_or others 0 0
  pub before : (s : ℕ) → s < n → Earlier kind (other_of kind t firsts others s) x
  pub after : (s : ℕ) → n ≤ s → s < get_or others 0 0 → Earlier kind (other_of kind t firsts others s) x → ⊥

-- an index is listed after the first n, and those that stood there stand one further on
pub record Inserted (others₀ others : List ℕ) (n index : ℕ) : Type 0 where
  pub more : get_or others 0 0 ≡ get_or others₀ 0 0 + 1
  pub before : (s : ℕ) → s < n → get_or others (s + 1) 0 ≡ get_or others₀ (s + 1) 0
  pub here : get_or others (n + 1) 0 ≡ index
  pub after : (s : ℕ) → n ≤ s → s < get_or others₀ 0 0 → get_or others (s + 2) 0 ≡ get_or others₀ (s + 1) 0

-- an index is listed
abbrev pub AmongOthers : List ℕ → ℕ → Type 0
AmongOthers others j = (s : ℕ) × (s < get_or others 0 0) × (get_or others (s + 1) 0 ≡ j)

-- the slot of an item, told by its hash
abbrev pub slot_of : (kind : Kind) → Item kind → List ℕ → ℕ
slot_of kind x slots = item_hash kind x % length slots

-- what an item's slot holds: the item's number, or that of another one, and then the item's index is listed
abbrev pub SlotHolds : List ℕ → ℕ → ℕ → Type 0
SlotHolds others slot j = (slot ≡ j + 1) ⊎ ((slot ≡ 0 → ⊥) × AmongOthers others j)

-- the items at the first k of `firsts`, no two of which are the same: each slot has the number, counted from 1, of the first one whose slot it is, 0
-- for none; the ones that found their slot taken are listed in `others`, sorted
pub record Kept (kind : Kind) (t firsts others slots : List ℕ) (k : ℕ) : Type 0 where
  pub once : Once (item-discrete kind) (placed kind t (take k firsts))
  pub slot : (h : ℕ) → get_or slots h 0 ≤ k
  pub sorted : SortedOthers kind t firsts others k
  pub found : (j : ℕ) → j < k → SlotHolds others (get_or slots (slot_of kind (item_of kind t firsts j) slots) 0) j

-- a place's item has the number n, none having 0; where it is not yet among those at the first k places it joins them
pub record Entered (kind : Kind) (t firsts₀ firsts others slots : List ℕ) (k place n : ℕ) : Type 0 where
  pub number : n ≡ item_number kind t (take k firsts₀) place
  pub old : n ≤ k → (take k firsts ≡ take k firsts₀) × Kept kind t firsts others slots k
  pub new : k < n → (take (k + 1) firsts ≡ take k firsts₀ ++ (place ∷ [])) × Kept kind t firsts others slots (k + 1)

-- ---- numbers kept by place

-- what is noted at a place, if it is not 0, is the number of what `f` has there among `ds`
abbrev pub KnownNumbers : {A : Type 0} → Discrete A → (ℕ → A) → List ℕ → List A → Type 0
KnownNumbers eq f seen ds = (q : ℕ) → (get_or seen q 0 ≡ 0 → ⊥) → (index eq (f q) ds ≡ get_or seen q 0) × (get_or seen q 0 < length ds)

-- what is noted is the number of the item there among those at the first k of `firsts`
pub record Seen (kind : Kind) (t firsts seen : List ℕ) (k : ℕ) : Type 0 where
  pub known : KnownNumbers (item-discrete kind) (item_at kind t) seen (no_item kind ∷ placed kind t (take k firsts))

-- a number is noted at a place; or it is 0, and the item there is none
abbrev pub KnownAs : List ℕ → List ℕ → ℕ → ℕ → Type 0
KnownAs t seen place number = (get_or seen place 0 ≡ number) × (number ≡ 0 → u32_at t place ≡ 0)

abbrev pub Blank : List ℕ → Type 0
Blank l = (q : ℕ) → get_or l q 0 ≡ 0
