-- Searches among points. Assumes nothing.
use Rattle.std.specs.Prelude.{ℕ, Bool, ◌&&◌, List, length, ltb, eqb}
use Rattle.mesh_geometry.specs.declared.Point.{Point}
use Rattle.mesh_geometry.specs.Faces.{at}
use Rattle.check_searches.specs.First.{first}

-- the two points are equal
abbrev pub same_point : Point → Point → Bool
same_point p q = eqb p.u q.u && eqb p.v q.v && eqb p.w q.w

-- the first of the first n points that equals q
abbrev pub first_equal : List Point → Point → ℕ → ℕ
first_equal ps q n = first (λ i. same_point (at ps i) q) n

-- whether point j equals an earlier point
abbrev pub repeats : List Point → ℕ → Bool
repeats ps j = ltb (first_equal ps (at ps j) j) j

-- the first point that equals an earlier point
unfoldable pub first_repeated : List Point → ℕ
first_repeated ps = first (repeats ps) (length ps)
