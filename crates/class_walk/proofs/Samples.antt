-- Small walks: a line that never ends, and lines that tell the walk from those that give the mark class to the glyph which the same
-- entry marks, that let set mark act at the end position, that do not count the last entry, that exchange the classes of the end position, that always begin in
-- one row, that give the current class first, or that use a mark up. Assumes nothing.
use Prim.Native.Nat.{ℕ, zero, suc}
use mathlib.Core.Path.{◌≡◌, refl, subst}
use mathlib.Core.Bool.{Bool, true, false, cond}
use mathlib.Core.List.{[], ◌∷◌}
use lib.Dec.{eqb}
use Rattle.units.specs.Flags.{stays}
use Rattle.class_walk.specs.Walk.{Machine, Line, stopped, taken, step, after, begin, Never, walked}
use Rattle.class_walk.proofs.Theory.{Stuck, stuck-on, not_stopped}

-- a one-glyph line that does not start the text, whose entry for it in row 1 stays and leads to row 1
module _ (m : Machine) (column : ℕ) (ends : Bool) (to : (m.cell 1 column).row ≡ 1) (stay : stays (m.cell 1 column).flags ≡ true) where
  abbrev one_glyph : Line
  one_glyph = record { columns = column ∷ []; starts = false; ends = ends }

  there : (n : ℕ) → Stuck m one_glyph n 0 1
  unfolding Stuck after begin
  there zero = (_, refl, refl, refl)
  there (suc n) = subst (Stuck m one_glyph (suc n) 0) to (stuck-on m one_glyph n 0 1 (there n) stay)

  pub sample-never : Never m one_glyph
  unfolding Never
  sample-never n cs k e = not_stopped m one_glyph n 0 1 (there n) cs k e

-- a machine of two rows that always leads to row 1, with these flags at a glyph of class 4 and those at the end position; a line of one such glyph
abbrev one_way : ℕ → ℕ → Machine
one_way f g = record { rows = 2; classes = 5; cell = λ row class. record { row = 1; flags = cond (eqb class 4) f g } }

abbrev alone : Line
alone = record { columns = 4 ∷ []; starts = true; ends = true }

-- set mark with mark class 5 at the glyph: no glyph was marked earlier, so none gets the class
own-mark : walked (one_way 0x8280 0) alone ≡ stopped (0 ∷ []) 2
unfolding walked after step begin taken
own-mark = refl

-- set mark at the glyph, mark class 5 at the end position: the glyph gets it there
mark-at-end : walked (one_way 0x8000 0x280) alone ≡ stopped (5 ∷ []) 2
unfolding walked after step begin taken
mark-at-end = refl

-- set mark at the glyph; at the end position an entry that sets mark and stays, then one with mark class 5: the glyph is still the marked one
abbrev marks_at_end : Machine
marks_at_end =
    record {
      rows = 2;
      classes = 5;
      cell = λ row class. record { row = cond (eqb class 4) 0 1; flags = cond (eqb class 4) 0x8000 (cond (eqb row 0) 0xC000 0x280) };
    }

no-mark-at-end : walked marks_at_end alone ≡ stopped (5 ∷ []) 3
unfolding walked after step begin taken
no-mark-at-end = refl

-- an empty line is walked at its end position
empty-line : walked (one_way 0 0) (record { columns = []; starts = false; ends = false }) ≡ stopped [] 1
unfolding walked after step begin taken
empty-line = refl

-- set mark at a glyph of class 4, mark class 5 at class 0 and 6 at the others: the end position is class 0 where the line ends the text, else class 3. With 0 and 3
-- exchanged the two lines would have each other's class
abbrev tells_ends : Machine
tells_ends =
    record { rows = 2; classes = 5; cell = λ row class. record { row = 1; flags = cond (eqb class 4) 0x8000 (cond (eqb class 0) 0x280 0x300) } }

abbrev alone_in : Bool → Bool → Line
alone_in starts ends = record { columns = 4 ∷ []; starts = starts; ends = ends }

end-of-text : walked tells_ends (alone_in true true) ≡ stopped (5 ∷ []) 2
unfolding walked after step begin taken
end-of-text = refl

end-of-line : walked tells_ends (alone_in true false) ≡ stopped (6 ∷ []) 2
unfolding walked after step begin taken
end-of-line = refl

-- current class 5 in row 0 and 6 in row 1: a walk that always begins in row 1 would give the first line's glyph 6, one that always begins in row 0 the second's 5
abbrev tells_rows : Machine
tells_rows = record { rows = 2; classes = 5; cell = λ row class. record { row = 1; flags = cond (eqb row 0) 5 6 } }

start-of-text : walked tells_rows (alone_in true true) ≡ stopped (5 ∷ []) 2
unfolding walked after step begin taken
start-of-text = refl

start-of-line : walked tells_rows (alone_in false true) ≡ stopped (6 ∷ []) 2
unfolding walked after step begin taken
start-of-line = refl

-- set mark and stay in row 0, then at the same glyph mark class 5 with current class 6: the marked glyph is the current one, and what is given last holds. With the
-- current class given before the mark class it would have 5
abbrev gives_both : Machine
gives_both = record { rows = 2; classes = 5; cell = λ row class. record { row = 1; flags = cond (eqb class 4) (cond (eqb row 0) 0xC000 0x286) 0 } }

mark-then-current : walked gives_both alone ≡ stopped (6 ∷ []) 3
unfolding walked after step begin taken
mark-then-current = refl

-- set mark at the first glyph, mark class 5 at the second, of class 1, and 6 at the end position: the first glyph gets both, and has the last. A mark that is used
-- up when it is given would leave it 5
abbrev gives_twice : Machine
gives_twice =
    record { rows = 2; classes = 5; cell = λ row class. record { row = 1; flags = cond (eqb class 4) 0x8000 (cond (eqb class 1) 0x280 0x300) } }

mark-stays : walked gives_twice (record { columns = 4 ∷ 1 ∷ []; starts = true; ends = true }) ≡ stopped (6 ∷ 0 ∷ []) 3
unfolding walked after step begin taken
mark-stays = refl
