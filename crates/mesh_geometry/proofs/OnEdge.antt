-- A place of an edge has exactly one point, in document 01's coordinates. Assumes nothing.
use Prim.Native.Nat.{ℕ, zero, suc, ◌+◌, ◌%◌, ◌≤◌, ◌<◌}
use mathlib.Core.Path.{◌≡◌}
use mathlib.Core.Logic.{◌↔◌}
use native.Mathlib.Omega.{arith}
use Rattle.mesh_geometry.specs.declared.Point.{Point}
use Rattle.mesh_geometry.specs.TrianglePoints.{triangle_place}
use Rattle.mesh_geometry.specs.QuadPoints.{quad_place}
use Rattle.mesh_geometry.specs.Domain.{Domain, triangle, square, edge_count, place_on}
use Rattle.mesh_geometry.specs.OnEdge.{OnTriangle, OnSquare, OnEdge}
use Rattle.mesh_geometry.proofs.Shape.{same_point}

-- ---- triangles
pub on_triangle : (k x d : ℕ) → k < 3 → d ≤ x → x + d ≤ 65536 → OnTriangle k x d (triangle_place k x d)
on_triangle zero x d h l m = omega arith
on_triangle (suc zero) x d h l m = omega arith
on_triangle (suc (suc zero)) x d h l m = omega arith
on_triangle (suc (suc (suc k))) x d h l m = absurd (omega arith)

pub same_on_triangle : (k x d : ℕ) {p p' : Point} → OnTriangle k x d p → OnTriangle k x d p' → p ≡ p'
same_on_triangle zero x d a b = same_point _ _ (omega arith) (omega arith) (omega arith)
same_on_triangle (suc zero) x d a b = same_point _ _ (omega arith) (omega arith) (omega arith)
same_on_triangle (suc (suc k)) x d a b = same_point _ _ (omega arith) (omega arith) (omega arith)

-- the end of an edge is the start of the next
pub edge_end : (k x d : ℕ) (p : Point) → k < 3 → x + d ≡ 65536 → OnTriangle k x d p ↔ OnTriangle ((k + 1) % 3) d d p
edge_end zero x d p h e = (λ o. omega arith, λ o. omega arith)
edge_end (suc zero) x d p h e = (λ o. omega arith, λ o. omega arith)
edge_end (suc (suc zero)) x d p h e = (λ o. omega arith, λ o. omega arith)
edge_end (suc (suc (suc k))) x d p h e = absurd (omega arith)

-- ---- squares
on_square : (k x : ℕ) → k < 4 → x ≤ 65536 → OnSquare k x (quad_place k x 0)
on_square zero x h l = omega arith
on_square (suc zero) x h l = omega arith
on_square (suc (suc zero)) x h l = omega arith
on_square (suc (suc (suc zero))) x h l = omega arith
on_square (suc (suc (suc (suc k)))) x h l = absurd (omega arith)

same_on_square : (k x : ℕ) (p p' : Point) → OnSquare k x p → OnSquare k x p' → p ≡ p'
same_on_square zero x p p' a b = same_point _ _ (omega arith) (omega arith) (omega arith)
same_on_square (suc zero) x p p' a b = same_point _ _ (omega arith) (omega arith) (omega arith)
same_on_square (suc (suc zero)) x p p' a b = same_point _ _ (omega arith) (omega arith) (omega arith)
same_on_square (suc (suc (suc k))) x p p' a b = same_point _ _ (omega arith) (omega arith) (omega arith)

-- ---- either domain
pub on_edge : (shape : Domain) (k x : ℕ) → k < edge_count shape → x ≤ 65536 → OnEdge shape k x (place_on shape k x 0)
on_edge triangle k x h l = on_triangle k x 0 h (omega arith) (omega arith)
on_edge square k x h l = on_square k x h l

pub same_on_edge : (shape : Domain) (k x : ℕ) (p p' : Point) → OnEdge shape k x p → OnEdge shape k x p' → p ≡ p'
same_on_edge triangle k x p p' a b = same_on_triangle k x 0 a b
same_on_edge square k x p p' a b = same_on_square k x p p' a b
