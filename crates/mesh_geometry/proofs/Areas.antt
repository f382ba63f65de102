-- If the sides of triangles close up, twice their signed areas add up to that of the outline; so the last field of `Cover`
-- follows from those on sides. Assumes nothing.
use Prim.Native.Nat.{ℕ, ◌+◌, ◌*◌}
use mathlib.Core.Path.{◌≡◌, refl}
use mathlib.Core.Bool.{Bool, true, false}
use mathlib.Core.List.{List, [], ◌∷◌}
use native.Mathlib.Omega.{arith}
use lib.ListN.{length}
use Rattle.mesh_geometry.specs.declared.Point.{Point}
use Rattle.mesh_geometry.specs.Cover.{Face, Side, sides, twice_area, total_twice_area, signed, directed}
use Rattle.mesh_geometry.specs.Edge.{Run, GoodRun, ring}
use Rattle.mesh_geometry.specs.TrianglePoints.{triangle_area}
use Rattle.mesh_geometry.specs.QuadPoints.{quad_area}
use Rattle.mesh_geometry.proofs.Signed.{Is, is_same, is_add, is_above, is_below, is_area, cross}
use Rattle.mesh_geometry.proofs.Lists.{All}
use Rattle.mesh_geometry.proofs.Shape.{Shape}
use Rattle.mesh_geometry.proofs.TrianglePlace.{triangle as triangle-shape}
use Rattle.mesh_geometry.proofs.QuadPlace.{square as square-shape}
use Rattle.mesh_geometry.specs.Domain.{Domain, triangle, square, edge_count, place_on}
use Rattle.mesh_geometry.proofs.Members.{sum, sum_map}
use Rattle.mesh_geometry.proofs.Walk.{walked, pieces}
use Rattle.mesh_geometry.proofs.Stokes.{back, Closed, stokes}
use Rattle.mesh_geometry.proofs.Rim.{gained, rim_gains}

-- what a side adds to twice the area is uP·vQ, minus that of the reversed side
abbrev pub moment : Side → ℕ
moment e = cross e.start e.end

total_is : (faces : List Face) → Is (total_twice_area faces) (sum moment (sides faces)) (sum (back moment) (sides faces))
unfolding total_twice_area sides sum
total_is [] = refl
total_is (t ∷ ts) =
    is_same (total_twice_area (t ∷ ts)) _ _ _ _ (is_add (twice_area t) (total_twice_area ts) _ _ _ _ (is_area t) (total_is ts)) (omega arith)

pub areas_add_up : (faces : List Face) {ps : List Side} → Closed (sides faces) ps
    → Is (total_twice_area faces) (sum moment ps) (sum (back moment) ps)
areas_add_up faces c = is_same (total_twice_area faces) _ _ _ _ (total_is faces) (omega (arith, stokes c moment))

-- twice the area of the domain
abbrev pub area_of : Domain → ℕ
area_of triangle = triangle_area
area_of square = quad_area

module _ (es : List Run) (good : All GoodRun es) where
  ring_moment : {sides : ℕ} {Fits : ℕ → ℕ → Type 0} {place : ℕ → ℕ → ℕ → Point} {depth : Point → ℕ} {gain : ℕ → ℕ}
      → Shape sides Fits place depth gain → length es ≡ sides
      → sum moment (walked (ring place 0 es 0)) + gained (λ k. gain k * 0) 0 sides
      ≡ sum (back moment) (walked (ring place 0 es 0)) + gained (λ k. gain k * 65536) 0 sides
  ring_moment {gain = gain} shape n =
      rim_gains shape moment (back moment) (λ k x. gain k * x)
      (λ k x y h l. shape.gains k x y (shape.fits x 0 (omega arith) (omega arith)) (shape.fits y 0 (omega arith) (omega arith))) es n good

  outline_moment : (k : Domain) → length es ≡ edge_count k
      → sum moment (walked (ring (place_on k) 0 es 0)) ≡ sum (back moment) (walked (ring (place_on k) 0 es 0)) + area_of k
  outline_moment triangle n = omega (arith, ring_moment triangle-shape n)
  outline_moment square n = omega (arith, ring_moment square-shape n)

  pub whole_area : (k : Domain) → length es ≡ edge_count k → (b : Bool) (faces : List Face) → Closed (sides faces) (pieces b (ring (place_on k) 0 es 0))
      → total_twice_area faces ≡ signed b (area_of k)
  whole_area k n true faces c = is_above _ _ _ (area_of k) (areas_add_up faces c) (omega (
    arith,
    outline_moment k n,
    sum_map (directed true) moment (walked (ring (place_on k) 0 es 0)),
    sum_map (directed true) (back moment) (walked (ring (place_on k) 0 es 0)),
  ))
  whole_area k n false faces c = is_below _ _ _ (area_of k) (areas_add_up faces c) (omega (
    arith,
    outline_moment k n,
    sum_map (directed false) moment (walked (ring (place_on k) 0 es 0)),
    sum_map (directed false) (back moment) (walked (ring (place_on k) 0 es 0)),
  ))
