-- Numbering by stored numbers: `f` gives the entry of a stored number.
use Prim.Native.Nat.{ℕ, zero, suc, ◌+◌, ◌*◌, ◌≤◌, ◌<◌}
use mathlib.Core.Path.{◌≡◌, refl, sym, ap, ap₂, ◌∙◌, subst}
use mathlib.Core.List.{List, [], ◌∷◌, ◌++◌, map}
use Rattle.std.specs.Prelude.{Option, Some, None, is_some, IsSome}
use Rattle.std.specs.Option.{unwrap_or}
use native.Mathlib.Decide.{ℕ_discrete}
use native.Mathlib.Omega.{arith}
use lib.ListN.{length, get_or, take, drop, set, replicate, length-append, drop_of_length-le, length-set}
use lib.Seq.{get_or-set_same, get_or-set_other, length-take-le, take-length}
use Rattle.fields.specs.Field.{be32}
use Rattle.encoding.specs.Codes.{many, counted}
use Rattle.encoding.specs.Distinct.{index, distinct, numbers}
use Rattle.encoding.specs.Sections.{byte}
use Rattle.encoding.proofs.DistinctLaws.{index-le, index-append, index-new}
use Rattle.encoding.proofs.UptoLaws.{length_from, get_or-upto}
use Rattle.encoding.proofs.SectionLaws.{many-byte}
use Rattle.write_numbers.proofs.Laws.{map-length, map-drop, map_more, step-old, step-new, last-adds}
use Rattle.types.specs.declared.Entry.{Entry}
use Rattle.meaning.specs.Discrete.{Entry-discrete}
use Rattle.meaning.specs.Sheet.{entry_code}
use Rattle.machine.specs.Cells.{state_array, entry_at}
use Rattle.write_entries.specs.Entries.{stored_at, stored_entries, distinct_of, entry_bytes, NumberedEntries, cell_bytes, Covers}

-- how many stored numbers have a number
abbrev one : Option ℕ → ℕ
one None = 0
one (Some n) = 1

abbrev pub used : List (Option ℕ) → ℕ
used [] = 0
used (x ∷ l) = one x + used l

pub used_le : (l : List (Option ℕ)) → used l ≤ length l
used_le [] = omega arith
used_le (None ∷ l) = omega (arith, used_le l)
used_le (Some x ∷ l) = omega (arith, used_le l)

pub used-more : (l : List (Option ℕ)) (i n : ℕ) → i < length l → get_or l i None ≡ None → used (set l i (Some n)) ≡ used l + 1
used-more [] i n h e = absurd (omega arith)
used-more (None ∷ l) zero n h e = omega arith
used-more (Some x ∷ l) zero n h e = cc
used-more (x ∷ l) (suc i) n h e = let r = used-more l i n (omega arith) e in omega arith

used-none : (n : ℕ) → used (replicate n None) ≡ 0
used-none zero = refl
used-none (suc n) = omega (arith, used-none n)

module _ {A : Type 0} (eq : Discrete A) (f : ℕ → A) where
  -- the array has for a stored number the number of its entry, if it has one
  abbrev pub Known : List (Option ℕ) → List A → Type 0
  Known seen S = (q m : ℕ) → get_or seen q None ≡ Some m → (index eq (f q) S ≡ m) × (m < length S)

  pub known-old : (seen : List (Option ℕ)) (S : List A) (p n : ℕ) → p < length seen → n ≡ index eq (f p) S → n < length S → Known seen S
      → Known (set seen p (Some n)) S
  known-old seen S p n h en hn k q m = go (ℕ_discrete q p)
    where
      go : Dec (q ≡ p) → get_or (set seen p (Some n)) q None ≡ Some m → (index eq (f q) S ≡ m) × (m < length S)
      go (yes e) u =
          let g : get_or (set seen p (Some n)) q None ≡ Some n = ap (λ (j : ℕ). get_or (set seen p (Some n)) j None) e ∙ get_or-set_same seen p (Some n) None h in
          let nm : n ≡ m = cc in
          let x : index eq (f q) S ≡ n = ap (λ (j : ℕ). index eq (f j) S) e ∙ sym en in
          (omega arith, omega arith)
      go (no e) u = k q m (sym (get_or-set_other seen p q (Some n) None e) ∙ u)

  pub known-new : (seen : List (Option ℕ)) (S : List A) (p n : ℕ) → p < length seen → n ≡ index eq (f p) S → n ≡ length S → Known seen S
      → Known (set seen p (Some n)) (S ++ (f p ∷ []))
  known-new seen S p n h en hn k q m = go (ℕ_discrete q p)
    where
      T : List A
      T = S ++ (f p ∷ [])

      len : length T ≡ length S + 1
      len = length-append S (f p ∷ [])

      go : Dec (q ≡ p) → get_or (set seen p (Some n)) q None ≡ Some m → (index eq (f q) T ≡ m) × (m < length T)
      go (yes e) u =
          let g : get_or (set seen p (Some n)) q None ≡ Some n = ap (λ (j : ℕ). get_or (set seen p (Some n)) j None) e ∙ get_or-set_same seen p (Some n) None h in
          let nm : n ≡ m = cc in
          let x : index eq (f q) T ≡ length S = ap (λ (j : ℕ). index eq (f j) T) e ∙ index-new eq (f p) S [] (sym en ∙ hn) in
          (omega arith, omega (arith, len))
      go (no e) u =
          let w = k q m (sym (get_or-set_other seen p q (Some n) None e) ∙ u) in
          let x : index eq (f q) T ≡ index eq (f q) S = index-append eq (f q) S (f p ∷ []) (omega arith) in
          (omega (arith, w.0), omega (arith, w.1, len))

-- every stored number that was passed has a number
abbrev pub Passed : List ℕ → List (Option ℕ) → ℕ → Type 0
Passed cells seen i = (j : ℕ) → j < i → IsSome (get_or seen (get_or cells j 0) None)

-- the next one gets a number
pub passed-more : (cells : List ℕ) (seen : List (Option ℕ)) (i n : ℕ) → get_or cells i 0 < length seen → Passed cells seen i
    → Passed cells (set seen (get_or cells i 0) (Some n)) (i + 1)
passed-more cells seen i n h k j hj = go (ℕ_discrete (get_or cells j 0) (get_or cells i 0))
  where
    go : Dec (get_or cells j 0 ≡ get_or cells i 0) → IsSome (get_or (set seen (get_or cells i 0) (Some n)) (get_or cells j 0) None)
    go (yes e) =
        ap is_some
        (ap (λ (q : ℕ). get_or (set seen (get_or cells i 0) (Some n)) q None) e ∙ get_or-set_same seen (get_or cells i 0) (Some n) None h)
    go (no e) = ap is_some (get_or-set_other seen (get_or cells i 0) (get_or cells j 0) (Some n) None e) ∙ k j (before (ℕ_discrete j i))
      where
        before : Dec (j ≡ i) → j < i
        before (yes q) = absurd (e (ap (λ (x : ℕ). get_or cells x 0) q))
        before (no q) = omega (arith, q)

-- ---- the cells of a machine

module _ (t : List ℕ) (here n : ℕ) where
  pub stored-length : length (stored_at t here n) ≡ n
  unfolding stored_at
  stored-length = length_from (λ (k : ℕ). get_or t (state_array t here + k) 0) n 0

  -- the byte `x` that was read for a cell, the array being `a`
  pub stored_is : (a i x : ℕ) → a ≡ state_array t here → i < n → x ≡ get_or t (a + i) 0 → x ≡ get_or (stored_at t here n) i 0
  unfolding stored_at
  stored_is a i x ea h e =
      e ∙ ap (λ (k : ℕ). get_or t (k + i) 0) ea ∙ sym (get_or-upto (λ (k : ℕ). get_or t (state_array t here + k) 0) n i 0 h)

-- where the numbering stands: i cells are passed, k entries found
pub record Turn (t : List ℕ) (here n : ℕ) (firsts : List ℕ) (seen : List (Option ℕ)) (k i : ℕ) : Type 0 where
  pub left : distinct Entry-discrete (stored_entries t here (take k firsts)) (stored_entries t here (drop i (stored_at t here n))) ≡ distinct_of t here n
  pub known : Known Entry-discrete (entry_at t here) seen (stored_entries t here (take k firsts))
  pub passed : Passed (stored_at t here n) seen i
  pub room : k ≤ used seen

module _ (t : List ℕ) (here n : ℕ) (firsts : List ℕ) where
  abbrev cells : List ℕ
  cells = stored_at t here n

  -- at first nothing is known
  pub turn-first : (m : ℕ) → Turn t here n firsts (replicate m None) 0 0
  unfolding distinct_of
  turn-first m = record { left = refl; known = λ q j e. absurd (none m q j e); passed = λ j h. absurd (omega arith); room = omega arith }
    where
      none : (m q j : ℕ) → get_or (replicate m None) q None ≡ Some j → ⊥
      none zero q j e = cc
      none (suc m) zero j e = cc
      none (suc m) (suc q) j e = none m q j e

  module _ (seen : List (Option ℕ)) (k i : ℕ) (hk : k ≤ length firsts) (w : Turn t here n firsts seen k i) where
    -- the entries that were found
    abbrev found : List Entry
    found = stored_entries t here (take k firsts)

    len : length found ≡ k
    len = map-length (entry_at t here) (take k firsts) ∙ length-take-le k firsts hk

    -- the next cell has the stored number p
    module _ (p : ℕ) (h : i < n) (ep : p ≡ get_or cells i 0) where
      hi : i < length cells
      hi = omega (arith, stored-length t here n)

      entry-is : {m : ℕ} → m ≡ index Entry-discrete (entry_at t here p) found → m ≡ index Entry-discrete (entry_at t here (get_or cells i 0)) found
      entry-is e = e ∙ ap (λ (q : ℕ). index Entry-discrete (entry_at t here q) found) ep

      -- it has none, and its entry is the one with the number m, or not among those that were found
      module _ (m : ℕ) (hp : p < length seen) (hn : get_or seen p None ≡ None) (em : m ≡ index Entry-discrete (entry_at t here p) found) where
        passed' : Passed cells (set seen p (Some m)) (i + 1)
        passed' =
            subst (λ (q : ℕ). Passed cells (set seen q (Some m)) (i + 1)) (sym ep)
            (passed-more cells seen i m (subst (λ (q : ℕ). q < length seen) ep hp) w.passed)

        -- the array has a place for the next number, so few have been given
        pub space : (m ≤ k) × (k < length seen)
        space = (
          omega (arith, index-le Entry-discrete (entry_at t here p) found, len),
          omega (arith, used-more seen p m hp hn, w.room, used_le (set seen p (Some m)), length-set seen p (Some m)),
        )

        pub turn-old : m < k → Turn t here n firsts (set seen p (Some m)) k (i + 1)
        turn-old l =
            let s = step-old Entry-discrete (entry_at t here) cells i m found (distinct_of t here n) hi (entry-is em) (omega (arith, len)) w.left in
            record {
              left = s.0;
              known = known-old Entry-discrete (entry_at t here) seen found p m hp em (omega (arith, len)) w.known;
              passed = passed';
              room = omega (arith, used-more seen p m hp hn, w.room);
            }

        pub turn-new : k < length firsts → k ≤ m → Turn t here n (set firsts k p) (set seen p (Some m)) (k + 1) (i + 1)
        turn-new hf l =
            let full : m ≡ length found = omega (arith, len, space) in
            let s = step-new Entry-discrete (entry_at t here) cells i m found (distinct_of t here n) hi (entry-is em) full w.left in
            let e : stored_entries t here (take (k + 1) (set firsts k p)) ≡ found ++ (entry_at t here p ∷ []) = map_more (entry_at t here) firsts k p hf in
            record {
              left =
                  ap (λ (xs : List Entry). distinct Entry-discrete xs (stored_entries t here (drop (i + 1) cells))) e
                  ∙ ap (λ (q : ℕ). distinct Entry-discrete (found ++ (entry_at t here q ∷ [])) (stored_entries t here (drop (i + 1) cells))) ep ∙ s.0;
              known = subst (λ (xs : List Entry). Known Entry-discrete (entry_at t here) (set seen p (Some m)) xs) (sym e) (known-new Entry-discrete (entry_at t here) seen found p m hp em full w.known);
              passed = passed';
              room = omega (arith, used-more seen p m hp hn, w.room);
            }

    -- all cells are passed
    pub turn-last : n ≤ i → k ≤ 256 → NumberedEntries t here n firsts seen k
    turn-last h few =
        record { few = few; found = all; each = λ j hj. has (get_or cells j 0) (get_or seen (get_or cells j 0) None) refl (w.passed j (omega arith)) }
      where
        all : distinct_of t here n ≡ found
        all = last-adds Entry-discrete (entry_at t here) cells i found (distinct_of t here n) (omega (arith, stored-length t here n)) w.left

        has : (q : ℕ) (o : Option ℕ) → get_or seen q None ≡ o → IsSome o → o ≡ Some (index Entry-discrete (entry_at t here q) (distinct_of t here n))
        has q None g u = cc
        has q (Some m) g u = ap Some (sym (ap (index Entry-discrete (entry_at t here q)) all ∙ (w.known q m g).0))

-- ---- the two sections as bytes

module _ (t : List ℕ) (here : ℕ) where
  pub entries_next : (fs : List ℕ) (i : ℕ) (e : Entry) → i < length fs → e ≡ entry_at t here (get_or fs i 0)
      → many entry_code (stored_entries t here (drop i fs)) ≡ entry_code e ++ many entry_code (stored_entries t here (drop (i + 1) fs))
  entries_next fs i e h ee =
      ap (many entry_code) (map-drop (entry_at t here) fs i h)
      ∙ ap (λ (x : Entry). entry_code x ++ many entry_code (stored_entries t here (drop (i + 1) fs))) (sym ee)

  pub entries_none : (fs : List ℕ) (i : ℕ) → length fs ≤ i → many entry_code (stored_entries t here (drop i fs)) ≡ []
  entries_none fs i h = ap (λ (l : List ℕ). many entry_code (stored_entries t here l)) (drop_of_length-le fs h)

  pub entries-bytes : (fs : List ℕ) → length (many entry_code (stored_entries t here fs)) ≡ 4 * length fs
  entries-bytes [] = refl
  entries-bytes (e ∷ es) = omega (arith, entries-bytes es)

pub cells-next : (sheet : List (Option ℕ)) (cells : List ℕ) (i v : ℕ) → i < length cells → get_or sheet (get_or cells i 0) None ≡ Some v
    → cell_bytes sheet (drop i cells) ≡ v ∷ cell_bytes sheet (drop (i + 1) cells)
unfolding cell_bytes
cells-next sheet cells i v h e =
    map-drop (λ (q : ℕ). unwrap_or (get_or sheet q None) 0) cells i h
    ∙ ap (λ (x : Option ℕ). unwrap_or x 0 ∷ map (λ (q : ℕ). unwrap_or (get_or sheet q None) 0) (drop (i + 1) cells)) e

pub cells-none : (sheet : List (Option ℕ)) (cells : List ℕ) (i : ℕ) → length cells ≤ i → cell_bytes sheet (drop i cells) ≡ []
unfolding cell_bytes
cells-none sheet cells i h = ap (map (λ (q : ℕ). unwrap_or (get_or sheet q None) 0)) (drop_of_length-le cells h)

cells-length : (sheet : List (Option ℕ)) (cells : List ℕ) → length (cell_bytes sheet cells) ≡ length cells
unfolding cell_bytes
cells-length sheet cells = map-length (λ (q : ℕ). unwrap_or (get_or sheet q None) 0) cells

numbers-length : {A : Type 0} (eq : Discrete A) (D xs : List A) → length (numbers eq D xs) ≡ length xs
numbers-length eq D [] = refl
numbers-length eq D (x ∷ xs) = ap suc (numbers-length eq D xs)

numbers-cells : {A : Type 0} (eq : Discrete A) (f : ℕ → A) (D : List A) (sheet : List (Option ℕ)) (cells : List ℕ)
    → ((j : ℕ) → j < length cells → get_or sheet (get_or cells j 0) None ≡ Some (index eq (f (get_or cells j 0)) D))
    → numbers eq D (map f cells) ≡ map (λ (q : ℕ). unwrap_or (get_or sheet q None) 0) cells
numbers-cells eq f D sheet [] h = refl
numbers-cells eq f D sheet (q ∷ cells) h =
    let e : index eq (f q) D ≡ unwrap_or (get_or sheet q None) 0 = sym (ap (λ (o : Option ℕ). unwrap_or o 0) (h 0 (omega arith))) in
    ap₂ (λ (n : ℕ) (l : List ℕ). n ∷ l) e (numbers-cells eq f D sheet cells (λ j hj. h (suc j) (omega arith)))

module _ (t : List ℕ) (here n : ℕ) (firsts : List ℕ) (sheet : List (Option ℕ)) (k : ℕ) (w : NumberedEntries t here n firsts sheet k) where
  pub covers : Covers sheet (stored_at t here n) n
  covers j h = ap is_some (w.each j h)

  -- count, entries, count, numbers
  pub numbered-parts : k ≡ length firsts
      → be32 k ++ (many entry_code (stored_entries t here firsts) ++ (be32 n ++ cell_bytes sheet (stored_at t here n))) ≡ entry_bytes t here n
  unfolding entry_bytes cell_bytes distinct_of
  numbered-parts l =
      let f = entry_at t here in
      let cells = stored_at t here n in
      let D = distinct Entry-discrete [] (map f cells) in
      let d : map f firsts ≡ D = ap (map f) (sym (ap (λ (j : ℕ). take j firsts) l ∙ take-length firsts)) ∙ sym w.found in
      let ns = numbers-cells Entry-discrete f D sheet cells (λ j h. w.each j (subst (λ (m : ℕ). j < m) (stored-length t here n) h)) in
      let c : be32 n ++ map (λ (q : ℕ). unwrap_or (get_or sheet q None) 0) cells ≡ counted byte (numbers Entry-discrete D (map f cells)) =
      ap₂ (λ (m : ℕ) (b : List ℕ). be32 m ++ b)
      (sym (numbers-length Entry-discrete D (map f cells) ∙ map-length f cells ∙ stored-length t here n))
      (sym ns ∙ sym (many-byte (numbers Entry-discrete D (map f cells)))) in
      ap (λ (m : ℕ). be32 m ++ (many entry_code (map f firsts) ++ (be32 n ++ map (λ (q : ℕ). unwrap_or (get_or sheet q None) 0) cells))) (l ∙ sym (map-length f firsts))
      ∙ ap₂ (λ (ds : List Entry) (b : List ℕ). counted entry_code ds ++ b) d c

  pub numbered-length : k ≡ length firsts → length (entry_bytes t here n) ≡ 8 + 4 * k + n
  numbered-length l =
      omega (
        arith,
        ap length (numbered-parts l),
        length-append (many entry_code (stored_entries t here firsts)) (be32 n ++ cell_bytes sheet (stored_at t here n)),
        entries-bytes t here firsts,
        cells-length sheet (stored_at t here n),
        stored-length t here n,
      )

-- the numbering with no more than its k stored numbers
pub numbered-cut : (t : List ℕ) (here n : ℕ) (firsts : List ℕ) (sheet : List (Option ℕ)) (k : ℕ) → k ≤ length firsts → NumberedEntries t here n firsts sheet k
    → NumberedEntries t here n (take k firsts) sheet (length (take k firsts))
numbered-cut t here n firsts sheet k h w =
    let l : length (take k firsts) ≡ k = length-take-le k firsts h in
    record {
      few = omega (arith, l, w.few);
      found = w.found ∙ ap (stored_entries t here) (sym (take-length (take k firsts)));
      each = w.each;
    }
