-- `write_pool::Pool::put_with` meets its contract.
use Rattle.write_pool.proofs.Laws.{pass-few, pass-sections, pass-short, tried-full, tried-done}
use Rattle.write_pool.specs.Pool.{source_of}
use lib.Seq.{length-take-le}
use lib.ListN.{length, take}
use mathlib.Core.Path.{refl}
use native.Mathlib.Omega.{arith}
use Rattle.std.proofs.Common.{rules}
use Rattle.write_pool.proofs.Pool.put_with.Goals as goal

pub returns-then-pass-self : goal.returns-then-pass-self
returns-then-pass-self c =
    let l = c.args.self.now.lookup in
    let n = c.number_glyphs-pass in
    let r = n.new.rooms in
    let g = n.ensures.same_rooms in
    record {
      tried = tried-full l.kind l.table.now l.glyphs l.at l.base r.ends.now r.nums.now r.firsts.now n.result (length c.args.rooms.now.ends.now) c.args.out.now c.args.out.now c.args.self.now.to n.ensures.passed c.if-pass-self.true n.ensures.same_rooms.ends refl;
      same_rooms = search (rules, g);
    }

pub put_sections-requires-clause-short : goal.put_sections-requires-clause-short
put_sections-requires-clause-short c =
    let l = c.args.self.now.lookup in
    let n = c.number_glyphs-pass in
    let r = n.new.rooms in
    let few = pass-few l.kind l.table.now l.glyphs l.at l.base r.ends.now r.nums.now r.firsts.now n.result (omega arith) c.args.self.now.short n.ensures.passed c.if-pass-self.false in (
      omega (arith, few, n.ensures.passed.few, length-take-le n.result.items r.firsts.now (omega (arith, n.ensures.passed.few, n.ensures.passed.fits, r.enough.distinct))),
      pass-short l.kind l.table.now l.glyphs l.at l.base r.ends.now r.nums.now r.firsts.now n.result (omega arith) c.args.self.now.short n.ensures.passed c.if-pass-self.false,
    )

pub returns : goal.returns
returns c =
    let l = c.args.self.now.lookup in
    let n = c.number_glyphs-pass in
    let r = n.new.rooms in
    let w = c.put_sections.ensures in
    let g = n.ensures.same_rooms in
    record {
      tried = tried-done l.kind l.table.now l.glyphs (source_of l) (length c.args.rooms.now.ends.now) c.args.out.now c.put_sections.new.out c.args.self.now.to c.put_sections.result (take n.result.items r.firsts.now) (take n.result.stretches r.ends.now) (take n.result.stretches r.nums.now) (pass-sections l.kind l.table.now l.glyphs l.at l.base r.ends.now r.nums.now r.firsts.now n.result (omega arith) c.args.self.now.short n.ensures.passed c.if-pass-self.false) w.0 w.1 w.2;
      same_rooms = search (rules, g);
    }
