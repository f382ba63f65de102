-- Which line of a strip advances next: document 01's rule with request 4's change for ties. No other file states it. Assumes nothing.
use Rattle.std.specs.Prelude.{ℕ, suc, ◌+◌, ◌*◌, ◌≤◌, Bool, true, false, leb, ltb}
use Rattle.strip.specs.declared.state.Strip.{Strip}
use Rattle.strip.specs.declared.state.Step.{Step}

-- at a tie the outer line advances in its first half, up to the middle, and the inner line after that
abbrev pub outer_at_tie : ℕ → ℕ → Bool
outer_at_tie p a = leb (2 * a + 1) p

-- whether x comes before y; the first argument decides if they are equal
abbrev pub comes_first : Bool → ℕ → ℕ → Bool
comes_first true x y = leb x y
comes_first false x y = ltb x y

-- whether the outer line advances, at point a of an outer line of p segments and point b of an inner line of r segments
unfoldable pub outer_next : ℕ → ℕ → ℕ → ℕ → Bool
outer_next p r a b = comes_first (outer_at_tie p a) ((2 * a + 1) * r) ((2 * b + 1) * p)

-- the next point of the outer line, or of the inner line, if that line advances; else the same point
abbrev pub step_outer : Bool → ℕ → ℕ
step_outer true a = suc a
step_outer false a = a

abbrev pub step_inner : Bool → ℕ → ℕ
step_inner true b = b
step_inner false b = suc b

-- the state after one step, and which line advanced
unfoldable pub step_of : Strip → Step
step_of s =
    let t = outer_next s.p s.r s.a s.b in
    record { outer = t; next = record { a = step_outer t s.a; b = step_inner t s.b; p = s.p; r = s.r } }

-- a state whose points lie on the two lines, which have at most 64 segments
pub record OnTwoLines (s : Strip) : Type 0 where
  pub outer : s.a ≤ s.p
  pub inner : s.b ≤ s.r
  pub outer_few : s.p ≤ 64
  pub inner_few : s.r ≤ 64
