-- A triangle that lacks the first corner of another is not that triangle. Assumes nothing.
use mathlib.Core.Path.{◌≡◌}
use mathlib.Core.Bool.{false, and-false}
use borrow.Author.Tests.{ne_eqb}
use Rattle.strip.specs.declared.triangle.Triangle.{Triangle}
use Rattle.check_searches.specs.Triangles.{has_corner}
use Rattle.check_side_searches.specs.Same.{same_triangle}
use Rattle.check_side_searches.proofs.Skips.{apart}

pub without_same : (s t : Triangle) → has_corner s t.a ≡ false → same_triangle s t ≡ false
unfolding same_triangle
without_same s t h =
    let w = apart s t.a h in
    simp (ne_eqb s.a t.a w.0, ne_eqb s.b t.a w.1, ne_eqb s.c t.a w.2, and-false)
