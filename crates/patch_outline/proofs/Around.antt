-- The outer edges of a patch: they are valid, and their outline is that of the patch, with at most 256 points. Assumes nothing.
use Rattle.std.specs.Prelude.{Option, None, Some}
use Prim.Native.Nat.{ℕ, ◌+◌, ◌*◌, ◌≤◌}
use mathlib.Core.Path.{◌≡◌, refl, sym, ap, subst, ◌∙◌}
use mathlib.Core.List.{List, [], ◌∷◌}
use native.Mathlib.Omega.{arith}
use lib.ListN.{length}
use Rattle.level.specs.declared.Segments.{Segments}
use Rattle.level.specs.declared.Spacing.{Spacing}
use Rattle.level.specs.Top.{Top}
use Rattle.level.proofs.Valid.{segments_valid}
use Rattle.patch.specs.declared.kinds.Patch.{Patch}
use Rattle.patch.specs.declared.kinds.Patch.TheVariants.{Triangles, Quads, Isolines}
use Rattle.mesh_geometry.specs.Edge.{around}
use Rattle.mesh_geometry.specs.Segmented.{run}
use Rattle.mesh_geometry.specs.TrianglePoints.{triangle_place}
use Rattle.mesh_geometry.specs.QuadPoints.{quad_place}
use Rattle.mesh_geometry.proofs.Ring.{ring_length}
use Rattle.patch_mesh.specs.Demand.{outline}
use Rattle.patch_outline.specs.declared.edges.OuterEdges.{OuterEdges}
use Rattle.patch_outline.specs.declared.edges.OuterEdges.TheVariants.{Triangle, Quad}
use Rattle.patch_outline.specs.Outlines.{edges_of, ValidEdges, outline_by, OutlineOf}

pub edges_valid : (s : Spacing) (t : ℕ) (p : Patch) → Top t → ValidEdges (edges_of s t p)
edges_valid s t (Triangles a b c i) h = (segments_valid s t h a, segments_valid s t h b, segments_valid s t h c)
edges_valid s t (Quads a b c d i j) h = (segments_valid s t h a, segments_valid s t h b, segments_valid s t h c, segments_valid s t h d)
edges_valid s t (Isolines a b) h = tt

pub edges_outline : (s : Spacing) (t : ℕ) (p : Patch) → outline_by (edges_of s t p) ≡ outline s t p
edges_outline s t (Triangles a b c i) = refl
edges_outline s t (Quads a b c d i j) = refl
edges_outline s t (Isolines a b) = refl

-- edges in two steps, as a match on both gives them
pub both_are : {x : Option OuterEdges} {y z : OuterEdges} → x ≡ Some y → y ≡ z → x ≡ Some z
both_are h k = h ∙ ap Some k

-- equal edges
module _ {e f : Option OuterEdges} (h : e ≡ f) where
  pub valid_as : ValidEdges e → ValidEdges f
  valid_as v = subst ValidEdges h v

  pub around_as : {n : ℕ} → n ≡ length (outline_by f) → n ≡ length (outline_by e)
  around_as k = k ∙ ap (λ x. length (outline_by x)) (sym h)

  pub outline_as : {ws : List ℕ} {n : ℕ} → OutlineOf (outline_by f) ws n → OutlineOf (outline_by e) ws n
  outline_as {ws = ws} {n = n} k = subst (λ x. OutlineOf (outline_by x) ws n) (sym h) k

-- the number of points of an outline
pub three_around : (e f g : Segments) → length (outline_by (Some (Triangle e f g))) ≡ e.count + f.count + g.count
three_around e f g = omega (arith, ring_length triangle_place 0 (run e ∷ run f ∷ run g ∷ []) 0)

pub four_around : (e f g h : Segments) → length (outline_by (Some (Quad e f g h))) ≡ e.count + f.count + g.count + h.count
four_around e f g h = omega (arith, ring_length quad_place 0 (run e ∷ run f ∷ run g ∷ run h ∷ []) 0)

pub around_most : (e : Option OuterEdges) → ValidEdges e → length (outline_by e) ≤ 256
around_most (Some (Triangle e f g)) v = omega (arith, three_around e f g, v.0.few, v.1.few, v.2.few)
around_most (Some (Quad e f g h)) v = omega (arith, four_around e f g h, v.0.few, v.1.few, v.2.few, v.3.few)
around_most None v = omega arith

-- room for an outline, by the segments of its edges
pub three_room : {x : Option OuterEdges} {e f g : Segments} {n : ℕ} → x ≡ Some (Triangle e f g) → 3 * length (outline_by x) + 3 ≤ n
    → 3 * around (run e ∷ run f ∷ run g ∷ []) + 3 ≤ n
three_room {e = e} {f = f} {g = g} h k = omega (arith, k, ap (λ x. length (outline_by x)) h, three_around e f g)

pub four_room : {x : Option OuterEdges} {e f g i : Segments} {n : ℕ} → x ≡ Some (Quad e f g i) → 3 * length (outline_by x) + 3 ≤ n
    → 3 * around (run e ∷ run f ∷ run g ∷ run i ∷ []) ≤ n
four_room {e = e} {f = f} {g = g} {i = i} h k = omega (arith, k, ap (λ x. length (outline_by x)) h, four_around e f g i)
