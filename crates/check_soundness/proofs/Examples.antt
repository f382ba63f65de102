-- A sound mesh that this project does not draw, and a proof that a mesh without triangles is not sound. Assumes nothing.
use Prim.Native.Nat.{ℕ, zero, suc, ◌<◌}
use mathlib.Core.Path.{◌≡◌, refl, ap}
use mathlib.Core.Bool.{Bool, true}
use mathlib.Core.Logic.{◌⊎◌, inl}
use mathlib.Core.List.{List, [], ◌∷◌}
use native.Mathlib.Omega.{arith}
use lib.ListN.{length}
use Rattle.edge.specs.Table.{table}
use Rattle.mesh_geometry.specs.declared.Point.{Point}
use Rattle.mesh_geometry.specs.Cover.{Side, missing, next_point, sides, twice_area, HasSign, reversed, side, piece, Occurs, Cover}
use Rattle.mesh_geometry.specs.Edge.{GoodRun, ends, ring}
use Rattle.mesh_geometry.specs.TrianglePoints.{triangle_corners, triangle_area}
use Rattle.mesh_geometry.proofs.Lists.{All, none, more, all_at, Distinct, distinct_at}
use Rattle.mesh_geometry.proofs.Plain.{plain_triangle_covers}
use Rattle.mesh_geometry.specs.Words.{read_triangles}
use Rattle.mesh_geometry.specs.Faces.{faces_in}
use Rattle.mesh_geometry.specs.Held.{face}
use Rattle.mesh_geometry.specs.Domain.{Domain, triangle}
use Rattle.mesh_geometry.proofs.Rim.{joining}
use Rattle.patch_mesh.specs.InPatch.{InPatch}
use Rattle.check_soundness.specs.Sound.{sides_in, Sound}
use Rattle.check_soundness.proofs.Covers.{sound_covers}

-- the plain triangle, starting with its second corner
abbrev words : List ℕ
words = 1 ∷ 2 ∷ 0 ∷ []

turned : (k : ℕ) → k < length (faces_in triangle_corners words) → HasSign true (twice_area (face (faces_in triangle_corners words) k))
unfolding read_triangles twice_area
turned zero l = record { size = triangle_area; above = omega arith; is = refl }
turned (suc k) l = absurd (omega arith)

numbers : All (λ w. w < 3) words
numbers = more {x = 1} (omega arith) (more {x = 2} (omega arith) (more {x = 0} (omega arith) none))

corners : All (InPatch triangle) triangle_corners
corners = more refl (more refl (more refl none))

-- two sides with different starts
apart : (x y : Side) (f : Point → ℕ) → f x.start < f y.start → x ≡ y → ⊥
apart x y f l e = omega (arith, ap (λ (s : Side). f s.start) e)

distinct : Distinct (sides_in triangle_corners words)
unfolding read_triangles sides
distinct =
    let s : ℕ → Side = side (sides_in triangle_corners words) in
    more (more (apart (s 0) (s 1) (λ p. p.u) (omega arith)) (more (apart (s 0) (s 2) (λ p. p.v) (omega arith)) none))
    (more (more (apart (s 1) (s 2) (λ p. p.v) (omega arith)) none) (more none none))

closed : (i : ℕ) → i < length (sides_in triangle_corners words)
    → ((k : ℕ) × (k < length triangle_corners) × (side (sides_in triangle_corners words) i ≡ piece true triangle_corners k))
    ⊎ Occurs (reversed (side (sides_in triangle_corners words) i)) (sides_in triangle_corners words)
unfolding read_triangles sides next_point
closed zero l = inl (1, omega arith, refl)
closed (suc zero) l = inl (2, omega arith, refl)
closed (suc (suc zero)) l = inl (0, omega arith, refl)
closed (suc (suc (suc i))) l = absurd (omega arith)

outlined : (k : ℕ) → k < length triangle_corners → Occurs (piece true triangle_corners k) (sides_in triangle_corners words)
unfolding read_triangles sides next_point
outlined zero l = (2, omega arith, refl)
outlined (suc zero) l = (0, omega arith, refl)
outlined (suc (suc zero)) l = (1, omega arith, refl)
outlined (suc (suc (suc k))) l = absurd (omega arith)

begun_elsewhere : Sound triangle true triangle_corners triangle_corners words
begun_elsewhere = record {
  counts = refl;
  numbered = λ k l. all_at 0 k l numbers;
  inside = λ i l. all_at missing i l corners;
  distinct = (plain_triangle_covers true).distinct;
  turned = turned;
  single = λ i j l k. distinct_at (sides_in triangle_corners words) (joining missing missing) i j l k distinct;
  closed = closed;
  outlined = outlined;
}

-- so it covers the patch
elsewhere_covers : Cover true triangle_area triangle_corners triangle_corners (faces_in triangle_corners words)
unfolding ring table
elsewhere_covers = sound_covers triangle (ends ∷ ends ∷ ends ∷ []) refl (more good (more good (more good none))) begun_elsewhere
  where
    good : GoodRun ends
    good = record { first = refl; last = refl; rises = λ i l. omega arith; mirrors = λ i l. omega arith }

nothing_unsound : (k : Domain) (b : Bool) (rim ps : List Point) → 0 < length rim → Sound k b rim ps [] → ⊥
unfolding read_triangles sides
nothing_unsound k b rim ps h s = omega (arith, (s.outlined 0 h).1)
