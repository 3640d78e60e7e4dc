-- A wider column never pulls a glyph back (document 02, request 1/14), of the outcomes of a line's call.
use Rattle.std.specs.Prelude.{ℕ, ◌≡◌, List, ℤ, ◌≤ℤ◌}
use Rattle.line_rule.specs.Line.{Line}
use Rattle.line_rule.specs.Edges.{left_edge, right_edge, aimed}
use Rattle.line_call.specs.Justified.{Lent, justifies, justified}

-- a line's call is accepted: it answers with numbers
pub record Shown (t : List ℕ) (n : ℕ) (l : Line) (b : Lent) : Type 0 where
  pub remainder : ℤ
  pub entries : ℕ
  pub verdicts : ℕ
  pub answer : (justified t n l b).answer ≡ justifies remainder entries verdicts

-- the edges of the glyph at place i, by the movements that the call leaves in the lent buffers
abbrev pub left : List ℕ → ℕ → Line → Lent → ℕ → ℤ
left t n l b i = left_edge l.advances (justified t n l b).lent.before (justified t n l b).lent.after i

abbrev pub right : List ℕ → ℕ → Line → Lent → ℕ → ℤ
right t n l b i = right_edge l.advances (justified t n l b).lent.before (justified t n l b).lent.after i

-- under the wider target w every edge is at or beyond its place under the narrower u, where both are accepted, whatever is lent to each call
abbrev pub NeverBack : Type 0
NeverBack =
    (t : List ℕ) (n : ℕ) (l : Line) (u w : ℤ) (b c : Lent) → u ≤ℤ w
    → Shown t n (aimed l u) b → Shown t n (aimed l w) c
    → (i : ℕ) → (left t n (aimed l u) b i ≤ℤ left t n (aimed l w) c i) × (right t n (aimed l u) b i ≤ℤ right t n (aimed l w) c i)
