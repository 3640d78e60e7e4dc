-- Lines worked out, beside the starred ones (crates/samples): one list of cases, one theorem.
use mathlib.Core.Path.{◌≡◌, refl}
use mathlib.Core.Bool.{Bool, true, false}
use mathlib.Core.List.{List, [], ◌∷◌}
use Prim.Native.Nat.{ℕ}
use lib.ListN.{replicate}
use Rattle.share.specs.Share.{shares, stage_moves, stage_left, stages, no_part, moves_by, left_by}
use Rattle.share.specs.Line.{Glyph, line_moves, before_moves, after_moves, line_left, line_fits}

-- a line, whether its edition goes back, and the size of its gap; whether refusal 15 lets it pass, the movements of its before sides and of its after
-- sides, and the remainder
pub record Sample : Type 0 where
  pub glyphs : List Glyph
  pub back : Bool
  pub gap : ℕ
  pub fits : Bool
  pub before : List ℕ
  pub after : List ℕ
  pub left : ℕ

abbrev glyph : ℕ → ℕ → ℕ → ℕ → Glyph
glyph stage extra before after = record { stage = stage; extra = extra; before = before; after = after }

-- four glyphs of a stage whose sides have the widest factor, 16 em at 1,024 pt: together the most that a stage's total may be
abbrev pub eight_wide : ℕ → List Glyph
eight_wide stage = replicate 4 (glyph stage 0 1073741824 1073741824)

abbrev pub samples : List Sample
samples =
    -- a unit lost by rounding goes to the side where the running total wins it, not to the last one
    record { glyphs = glyph 0 0 3 3 ∷ glyph 0 0 3 3 ∷ []; back = true; gap = 6; fits = true; before = 1 ∷ 1 ∷ []; after = 2 ∷ 2 ∷ []; left = 0 }
    -- no glyph
    ∷ record { glyphs = []; back = true; gap = 4; fits = true; before = []; after = []; left = 4 }
    -- a before side stands ahead of its after side
    ∷ record { glyphs = glyph 0 0 1 1 ∷ []; back = true; gap = 1; fits = true; before = 0 ∷ []; after = 1 ∷ []; left = 0 }
    -- stage 0 has its factors, and stage 1 shares the rest
    ∷ record { glyphs = glyph 1 0 4 0 ∷ glyph 0 0 3 2 ∷ glyph 1 0 0 4 ∷ []; back = true; gap = 8; fits = true; before = 1 ∷ 3 ∷ 0 ∷ []; after = 0 ∷ 2 ∷ 2 ∷ []; left = 0 }
    -- an unlimited glyph has nothing extra where the gap is at most the total, and all that is past it otherwise
    ∷ record { glyphs = glyph 0 1 0 2 ∷ glyph 0 0 0 2 ∷ []; back = true; gap = 4; fits = true; before = 0 ∷ 0 ∷ []; after = 2 ∷ 2 ∷ []; left = 0 }
    ∷ record { glyphs = glyph 0 1 0 2 ∷ glyph 0 0 0 2 ∷ []; back = true; gap = 9; fits = true; before = 0 ∷ 0 ∷ []; after = 7 ∷ 2 ∷ []; left = 0 }
    -- one takes no part; what the stages leave goes back to stage 1, on top of its factors
    ∷ record { glyphs = glyph no_part 1 9 9 ∷ glyph 2 0 0 1 ∷ glyph 1 0 2 0 ∷ []; back = true; gap = 7; fits = true; before = 0 ∷ 0 ∷ 6 ∷ []; after = 0 ∷ 1 ∷ 0 ∷ []; left = 0 }
    -- stage 3 comes after the other three, shares by the same steps, and is gone back to where it alone has factors
    ∷ record { glyphs = glyph 3 0 4 0 ∷ glyph 2 0 3 0 ∷ []; back = true; gap = 5; fits = true; before = 2 ∷ 3 ∷ []; after = 0 ∷ 0 ∷ []; left = 0 }
    ∷ record { glyphs = glyph 3 0 2 2 ∷ glyph 0 0 0 0 ∷ []; back = true; gap = 6; fits = true; before = 3 ∷ 0 ∷ []; after = 3 ∷ 0 ∷ []; left = 0 }
    ∷ record { glyphs = glyph 3 1 1 0 ∷ glyph 1 0 0 2 ∷ []; back = true; gap = 8; fits = true; before = 1 ∷ 0 ∷ []; after = 5 ∷ 2 ∷ []; left = 0 }
    -- there is a remainder only where all four stages are empty: of the same line, with nothing in stage 3 and with one unit
    ∷ record { glyphs = glyph 0 0 0 0 ∷ glyph 1 0 0 0 ∷ glyph 2 0 0 0 ∷ glyph 3 0 0 0 ∷ []; back = true; gap = 5; fits = true; before = 0 ∷ 0 ∷ 0 ∷ 0 ∷ []; after = 0 ∷ 0 ∷ 0 ∷ 0 ∷ []; left = 5 }
    ∷ record { glyphs = glyph 0 0 0 0 ∷ glyph 1 0 0 0 ∷ glyph 2 0 0 0 ∷ glyph 3 0 0 1 ∷ []; back = true; gap = 5; fits = true; before = 0 ∷ 0 ∷ 0 ∷ 0 ∷ []; after = 0 ∷ 0 ∷ 0 ∷ 5 ∷ []; left = 0 }
    -- edition 2 stops at the limits: what is past all factors is the remainder, and of exactly all factors there is none; edition 1 goes back
    ∷ record { glyphs = glyph 0 0 3 3 ∷ glyph 3 0 2 0 ∷ glyph no_part 0 9 9 ∷ []; back = false; gap = 10; fits = true; before = 3 ∷ 2 ∷ 0 ∷ []; after = 3 ∷ 0 ∷ 0 ∷ []; left = 2 }
    ∷ record { glyphs = glyph 0 0 3 3 ∷ glyph 3 0 2 0 ∷ glyph no_part 0 9 9 ∷ []; back = false; gap = 8; fits = true; before = 3 ∷ 2 ∷ 0 ∷ []; after = 3 ∷ 0 ∷ 0 ∷ []; left = 0 }
    ∷ record { glyphs = glyph 0 0 3 3 ∷ glyph 3 0 2 0 ∷ glyph no_part 0 9 9 ∷ []; back = true; gap = 10; fits = true; before = 4 ∷ 2 ∷ 0 ∷ []; after = 4 ∷ 0 ∷ 0 ∷ []; left = 0 }
    -- in edition 2 an unlimited glyph still passes its factor
    ∷ record { glyphs = glyph 0 0 3 3 ∷ glyph 3 1 2 0 ∷ []; back = false; gap = 10; fits = true; before = 3 ∷ 2 ∷ []; after = 3 ∷ 2 ∷ []; left = 0 }
    -- refusal 15 looks at stage 3
    ∷ record { glyphs = glyph 0 0 0 3 ∷ glyph 3 0 0 1 ∷ eight_wide 3; back = true; gap = 3; fits = false; before = 0 ∷ 0 ∷ 0 ∷ 0 ∷ 0 ∷ 0 ∷ []; after = 3 ∷ 0 ∷ 0 ∷ 0 ∷ 0 ∷ 0 ∷ []; left = 0 }
    -- the most that a stage's total may be, and one more in a stage that is not reached
    ∷ record { glyphs = glyph 2 0 0 1 ∷ eight_wide 0; back = true; gap = 8; fits = true; before = 0 ∷ 1 ∷ 1 ∷ 1 ∷ 1 ∷ []; after = 0 ∷ 1 ∷ 1 ∷ 1 ∷ 1 ∷ []; left = 0 }
    ∷ record { glyphs = glyph 0 0 0 3 ∷ glyph 2 0 0 1 ∷ eight_wide 2; back = true; gap = 3; fits = false; before = 0 ∷ 0 ∷ 0 ∷ 0 ∷ 0 ∷ 0 ∷ []; after = 3 ∷ 0 ∷ 0 ∷ 0 ∷ 0 ∷ 0 ∷ []; left = 0 }
    ∷ []

pub record Right (s : Sample) : Type 0 where
  pub fits : line_fits s.glyphs ≡ s.fits
  pub before : before_moves s.back s.glyphs s.gap ≡ s.before
  pub after : after_moves s.back s.glyphs s.gap ≡ s.after
  pub left : line_left s.back s.glyphs s.gap ≡ s.left

pub data All : List Sample → Type 0 where
  none : All []
  more : {s : Sample} {ss : List Sample} → Right s → All ss → All (s ∷ ss)

pub worked-out : All samples
unfolding shares stage_moves stage_left stages moves_by left_by line_moves line_left line_fits
worked-out =
    more (record { fits = refl; before = refl; after = refl; left = refl }) (
    more (record { fits = refl; before = refl; after = refl; left = refl }) (
    more (record { fits = refl; before = refl; after = refl; left = refl }) (
    more (record { fits = refl; before = refl; after = refl; left = refl }) (
    more (record { fits = refl; before = refl; after = refl; left = refl }) (
    more (record { fits = refl; before = refl; after = refl; left = refl }) (
    more (record { fits = refl; before = refl; after = refl; left = refl }) (
    more (record { fits = refl; before = refl; after = refl; left = refl }) (
    more (record { fits = refl; before = refl; after = refl; left = refl }) (
    more (record { fits = refl; before = refl; after = refl; left = refl }) (
    more (record { fits = refl; before = refl; after = refl; left = refl }) (
    more (record { fits = refl; before = refl; after = refl; left = refl }) (
    more (record { fits = refl; before = refl; after = refl; left = refl }) (
    more (record { fits = refl; before = refl; after = refl; left = refl }) (
    more (record { fits = refl; before = refl; after = refl; left = refl }) (
    more (record { fits = refl; before = refl; after = refl; left = refl }) (
    more (record { fits = refl; before = refl; after = refl; left = refl }) (
    more (record { fits = refl; before = refl; after = refl; left = refl }) (
    more (record { fits = refl; before = refl; after = refl; left = refl }) none))))))))))))))))))
