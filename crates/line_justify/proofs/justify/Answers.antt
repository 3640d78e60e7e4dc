-- `line_justify::justify` meets its contract: the room is long enough for the line's glyphs, in either size.
use Rattle.std.proofs.Common.{ℕ, ◌≤◌, length, replicate, arith}
use Rattle.std.proofs.lemmas.List.{length-replicate}
use Rattle.line_call.specs.Settle.{BitRoom}
use Rattle.line_justify.proofs.justify.Goals as goal

room-short : (n : ℕ) → n ≤ 128 → BitRoom n (replicate 256 0)
room-short n h = record { glyphs = 128; even = length-replicate {A = ℕ} 256 0; few = omega arith; enough = λ e. h }

room-long : (n : ℕ) → BitRoom n (replicate 2048 0)
room-long n = record { glyphs = 1024; even = length-replicate {A = ℕ} 2048 0; few = omega arith; enough = λ e. e }

pub justify_in-requires : goal.justify_in-requires
justify_in-requires c = room-short (length c.args.glyphs.now) (omega arith)

pub justify_in-requires-2 : goal.justify_in-requires-2
justify_in-requires-2 c = room-long (length c.args.glyphs.now)
