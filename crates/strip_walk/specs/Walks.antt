-- The state of the code's walk along a strip, before and after each step. Assumes nothing.
use Rattle.std.specs.Prelude.{◌≡◌}
use Rattle.strip.specs.declared.line.Line.{Line}
use Rattle.strip_walk.specs.declared.walk.Walk.{Walk}
use Rattle.strip_walk.specs.declared.walk.Progress.{Progress}
use Rattle.strip.specs.Rule.{outer_next, step_outer, step_inner, OnTwoLines}
use Rattle.strip.specs.Lines.{vertex}
use Rattle.strip.specs.Strips.{step_triangle}

-- the walk is on these two lines, and x and y are the vertices at its points
pub record Standing (outer inner : Line) (w : Walk) : Type 0 where
  pub within : OnTwoLines w.strip
  pub p : w.strip.p ≡ outer.count
  pub r : w.strip.r ≡ inner.count
  pub x : w.x ≡ vertex outer w.strip.a
  pub y : w.y ≡ vertex inner w.strip.b

-- the walk is at the start of both lines
pub record AtStart (outer inner : Line) (w : Walk) : Type 0 where
  pub stands : Standing outer inner w
  pub a : w.strip.a ≡ 0
  pub b : w.strip.b ≡ 0

-- after one step: its triangle, and the points that the walk has reached on the lines
pub record Advanced (outer inner : Line) (w : Walk) (v : Progress) : Type 0 where
  pub triangle : v.triangle ≡ step_triangle (vertex outer) (vertex inner) (outer_next outer.count inner.count w.strip.a w.strip.b) w.strip.a w.strip.b
  pub a : v.walk.strip.a ≡ step_outer (outer_next outer.count inner.count w.strip.a w.strip.b) w.strip.a
  pub b : v.walk.strip.b ≡ step_inner (outer_next outer.count inner.count w.strip.a w.strip.b) w.strip.b
  pub stands : Standing outer inner v.walk
