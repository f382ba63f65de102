-- Points inside the patch, edges included; a point outside is the third fault. Assumes nothing.
use Rattle.std.specs.Prelude.{ℕ, ◌+◌, Bool, true, false, not, ◌&&◌, List, length, leb, eqb}
use Rattle.mesh_geometry.specs.declared.Point.{Point}
use Rattle.mesh_geometry.specs.Faces.{at}
use Rattle.check_searches.specs.First.{first}

-- whether the point is inside a triangle patch (true) or a quad patch (false)
abbrev pub inside : Bool → Point → Bool
inside true p = eqb (p.u + p.v + p.w) 196608
inside false p = leb p.u 65536 && leb p.v 65536 && eqb p.w 0

-- the first point outside
unfoldable pub first_outside : Bool → List Point → ℕ
first_outside triangles ps = first (λ k. not (inside triangles (at ps k))) (length ps)
