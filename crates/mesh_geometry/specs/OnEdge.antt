-- Points along a patch's edges in document 01's words: start, end and opposite coordinate, or units along the edge. Assumes nothing.
use Rattle.std.specs.Prelude.{ℕ, zero, suc, ◌+◌, ◌*◌, ◌≡◌}
use Rattle.mesh_geometry.specs.declared.Point.{Point}
use Rattle.mesh_geometry.specs.Domain.{Domain, triangle, square}

-- the start coordinate of a point, for edge k of a triangle; edge 0 goes from V to W, 1 from W to U, 2 from U to V
abbrev pub start_coordinate : ℕ → Point → ℕ
start_coordinate zero p = p.v
start_coordinate (suc zero) p = p.w
start_coordinate (suc (suc k)) p = p.u

-- the end coordinate of a point, for edge k
abbrev pub end_coordinate : ℕ → Point → ℕ
end_coordinate zero p = p.w
end_coordinate (suc zero) p = p.u
end_coordinate (suc (suc k)) p = p.v

-- the opposite coordinate of a point, for edge k
abbrev pub opposite_coordinate : ℕ → Point → ℕ
opposite_coordinate zero p = p.u
opposite_coordinate (suc zero) p = p.v
opposite_coordinate (suc (suc k)) p = p.w

-- p is the point at place x of edge k on the ring d units inside: its start coordinate is S − 3x − d, its end coordinate 3x −
-- d, its opposite coordinate 2d. Each equation adds what is subtracted to its other side, as natural numbers need
pub record OnTriangle (k x d : ℕ) (p : Point) : Type 0 where
  pub start : start_coordinate k p + 3 * x + d ≡ 196608
  pub end : end_coordinate k p + d ≡ 3 * x
  pub opposite : opposite_coordinate k p ≡ 2 * d

-- p is the point x units along edge k of a square: down u = 0 from (0,1), along v = 0 from (0,0), up u = 1 from (1,0), back
-- along v = 1 from (1,1)
abbrev pub OnSquare : ℕ → ℕ → Point → Type 0
OnSquare zero x p = (p.u ≡ 0) × (p.v + x ≡ 65536) × (p.w ≡ 0)
OnSquare (suc zero) x p = (p.u ≡ x) × (p.v ≡ 0) × (p.w ≡ 0)
OnSquare (suc (suc zero)) x p = (p.u ≡ 65536) × (p.v ≡ x) × (p.w ≡ 0)
OnSquare (suc (suc (suc k))) x p = (p.u + x ≡ 65536) × (p.v ≡ 65536) × (p.w ≡ 0)

-- p is the point at place x of outer edge k
abbrev pub OnEdge : Domain → ℕ → ℕ → Point → Type 0
OnEdge triangle k x p = OnTriangle k x 0 p
OnEdge square k x p = OnSquare k x p
