-- What runs tell of the glyphs, and how far.
use Prim.Native.Nat.{ℕ, ◌+◌, ◌≤◌, ◌<◌, ◌^◌, min}
use mathlib.Core.Path.{◌≡◌, sym, ap, ◌∙◌}
use mathlib.Core.Bool.{false}
use mathlib.Core.List.{List}
use native.Mathlib.Omega.{arith}
use lib.ListN.{length}
use Rattle.lookup_runs.specs.declared.Run.{Run}
use Rattle.lookup_runs.specs.Runs.{Follows}
use Rattle.lookup_targets.specs.declared.Kind.{Kind}
use Rattle.write_item.specs.Items.{item_at}
use Rattle.write_item.proofs.Laws.{item-past}
use Rattle.lookup_targets.specs.declared.Source.{Source}
use Rattle.std.specs.Prelude.{Some, None}
use Rattle.write_glyphs.specs.Places.{run_place}
use Rattle.write_glyphs.proofs.Laws.{place-before, place-one, run-item}
use Rattle.diff_stretches.specs.Stretches.{RunTells, Even}

-- ---- runs

module _ (kind : Kind) (t : List ℕ) (n glyph : ℕ) (short : length t ≤ 2 ^ 15) (few : n < 2 ^ 16) where
  pub follows-tells : (s : Source) (r : Run) → Follows t s.at glyph r → RunTells kind t n (Some s) glyph r × (glyph < r.until)
  follows-tells s r w = (
    record {
      near = w.near;
      ends = omega (arith, w.begins, w.more);
      items = λ x h u l. run-item kind t n s.at s.base glyph x r short few w h u l;
      serves = w.serves;
    },
    omega (arith, w.begins, w.more),
  )

  pub absent-tells : glyph < n → (r : Run) → r.from ≡ 65536 → r.until ≡ 65537 → r.place ≡ 0 → RunTells kind t n None glyph r × (glyph < r.until)
  absent-tells g r f u p = (
    record {
      near = omega arith;
      ends = omega arith;
      items = λ x h k l. ap (item_at kind t) (place-before kind t 0 r.from r.place r.array x (omega arith)) ∙ item-past kind t 65535 (omega arith);
      serves = tt;
    },
    omega arith,
  )

-- ---- how far a run's glyphs have one place

module _ (r : Run) (glyph e : ℕ) (among : glyph < r.until) where
  pub even-before : glyph < r.from → e ≡ min r.from r.until → Even r glyph e
  even-before h q = record {
    more = omega arith;
    most = omega arith;
    same = λ kind t base x l m.
        place-before kind t base r.from r.place r.array x (omega arith) ∙ sym (place-before kind t base r.from r.place r.array glyph h);
  }

  pub even-array : e ≡ glyph + 1 → Even r glyph e
  even-array q = record {
    more = omega arith;
    most = omega arith;
    same = λ kind t base x l m.
        let i : x ≡ glyph = omega arith in
        ap (run_place kind t base r.from r.place r.array) i;
  }

  pub even-one : r.from ≤ glyph → r.array ≡ false → e ≡ r.until → Even r glyph e
  even-one h a q = record {
    more = omega arith;
    most = omega arith;
    same = λ kind t base x l m.
        sym (place-one kind t base r.from r.place r.array x (omega arith) a) ∙ place-one kind t base r.from r.place r.array glyph h a;
  }
