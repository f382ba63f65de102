-- The search for a triangle by the numbers of its corners. Assumes nothing.
use Rattle.std.specs.Prelude.{ℕ, ◌≤◌, ◌<◌, ◌≡◌, Bool, true, false, ◌&&◌, ◌||◌, List, eqb}
use Rattle.strip.specs.declared.triangle.Triangle.{Triangle}
use Rattle.check_searches.specs.Triangles.{triangle_at}

-- the triangles have the same corners in the same cyclic order
unfoldable pub same_triangle : Triangle → Triangle → Bool
same_triangle s t =
    eqb s.a t.a && eqb s.b t.b && eqb s.c t.c
    || eqb s.a t.b && eqb s.b t.c && eqb s.c t.a
    || eqb s.a t.c && eqb s.b t.a && eqb s.c t.b

-- the answer r of a search for t: if true, one of the triangles is t; if false, no triangle from number `from` up to, not including, `to` is
pub record TriangleFound (ts : List Triangle) (from to : ℕ) (t : Triangle) (r : Bool) : Type 0 where
  pub yes : r ≡ true → (i : ℕ) × (i < to) × (same_triangle (triangle_at ts i) t ≡ true)
  pub no : r ≡ false → (i : ℕ) → from ≤ i → i < to → same_triangle (triangle_at ts i) t ≡ false
