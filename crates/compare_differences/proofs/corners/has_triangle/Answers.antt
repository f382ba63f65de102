use native.Mathlib.Omega.{arith}
use Rattle.check_searches.proofs.Read.{triangles_count}
use Rattle.compare_differences.proofs.Lacks.{held_near, held_all}
use Rattle.compare_differences.proofs.corners.has_triangle.Goals as goal

pub returns-then-has_triangle_in : goal.returns-then-has_triangle_in
returns-then-has_triangle_in c = rw c.if-has_triangle_in.true (held_near _ _ _ _ _ c.has_triangle_in.ensures
    (omega (arith, c.window_end-to.ensures, triangles_count c.args.indices.now)) c.if-has_triangle_in.true)

pub returns-else-has_triangle_in : goal.returns-else-has_triangle_in
returns-else-has_triangle_in c = rw (triangles_count c.args.indices.now) (held_all _ _ _ _ c.has_triangle_in-else-has_triangle_in.ensures)
