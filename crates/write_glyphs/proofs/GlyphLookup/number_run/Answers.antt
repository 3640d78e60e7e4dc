use Rattle.write_glyphs.proofs.Stands.{stands-few, seen-agree, stands-next}
use Rattle.write_glyphs.proofs.Laws.{run-item}
use Rattle.write_numbers.specs.Numbered.{Entered}
use Rattle.write_glyphs.specs.Places.{glyph_item, run_place, PassStands}
use native.Mathlib.Omega.{arith}
use mathlib.Core.Path.{sym, subst}
use Prim.Native.Nat.{ℕ}
use Rattle.write_glyphs.proofs.GlyphLookup.number_run.Goals as goal

pub item_number-number-requires-clause-room : goal.item_number-number-requires-clause-room
item_number-number-requires-clause-room c =
    let s = c.args.self.now in
    let l = c.loop-pass in
    let few = stands-few s.kind s.table.now (glyph_item s.kind s.table.now s.glyphs s.at s.base) s.glyphs l.ends l.nums l.firsts l.others l.slots l.seen l.pass.stretches l.pass.items l.pass.glyph l.invariant.0 in
    let room = c.args.rooms.now.enough in
    (omega arith, (omega (arith, room.distinct, l.invariant.0.few), (omega (arith, room.listed, l.invariant.0.few), omega (arith, room.hashes))))

pub overflow_cast-number : goal.overflow_cast-number
overflow_cast-number c =
    let s = c.args.self.now in
    let l = c.loop-pass in
    omega (arith, stands-few s.kind s.table.now (glyph_item s.kind s.table.now s.glyphs s.at s.base) s.glyphs l.ends l.nums l.firsts l.others l.slots l.seen l.pass.stretches l.pass.items l.pass.glyph l.invariant.0)

pub stretch_end-end-requires-clause-agree : goal.stretch_end-end-requires-clause-agree
stretch_end-end-requires-clause-agree c =
    let s = c.args.self.now in
    let n = c.item_number-number in
    (seen-agree s.kind s.table.now n.new.firsts n.new.seen _ (omega (arith, c.args.rooms.now.enough.distinct, c.loop-pass.invariant.0.few)) n.ensures.1, c.loop-pass.invariant.4)

pub overflow_cast-number-in-loop-pass : goal.overflow_cast-number-in-loop-pass
overflow_cast-number-in-loop-pass c =
    let s = c.args.self.now in
    let l = c.loop-pass in
    omega (arith, stands-few s.kind s.table.now (glyph_item s.kind s.table.now s.glyphs s.at s.base) s.glyphs l.ends l.nums l.firsts l.others l.slots l.seen l.pass.stretches l.pass.items l.pass.glyph l.invariant.0)

pub loop-pass-preserved : goal.loop-pass-preserved
loop-pass-preserved c =
    let s = c.args.self.now in
    let t = s.table.now in
    let l = c.loop-pass in
    let w = l.invariant.0 in
    let run = c.next_run-next.result in
    let follows = c.next_run-next.ensures.1 in
    let n = c.item_number-number in
    let st = c.stretch_end-end in
    let ex = c.extend in
    let item = glyph_item s.kind t s.glyphs s.at s.base in
    let P = run_place s.kind t s.base run.from run.place run.array in
    let firsts = n.new.firsts in
    let others = n.new.others in
    let slots = n.new.slots in
    let seen = n.new.seen in
    let ends = ex.new.ends in
    let nums = ex.new.nums in
    let more = ex.ensures l.pass.glyph w.rise st.ensures.0.more in
    let next = stands-next s.kind t item s.glyphs l.ends l.nums l.firsts l.others l.slots l.seen l.pass.stretches l.pass.items l.pass.glyph w
    (omega (arith, w.few, c.args.rooms.now.enough.distinct)) P st.result n.result ex.result ends nums firsts others slots seen
    (omega arith) st.ensures.0.more (omega (arith, st.ensures.0.most))
    (λ x b d. run-item s.kind t s.glyphs s.at s.base _ x run s.short (omega arith) follows (omega (arith, l.invariant.1, b)) (omega (arith, st.ensures.0.most)) (omega (arith, st.ensures.0.most)))
    (subst (λ (q : ℕ). Entered s.kind t l.firsts firsts others slots l.pass.items q n.result) {y = P l.pass.glyph} c.run_place-place.ensures n.ensures.0) n.ensures.1 st.ensures.0.same more (omega (arith, more.most)) in (
      subst (λ (k : ℕ). PassStands s.kind t item s.glyphs ends nums firsts others slots seen ex.result k st.result) (sym c.max.ensures) next,
      omega (arith, st.ensures.0.more),
      (λ h. absurd (omega (arith, h, st.ensures.0.more))),
      st.ensures.0.most,
      st.ensures.1,
    )
