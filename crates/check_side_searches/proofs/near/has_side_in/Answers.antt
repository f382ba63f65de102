use native.Mathlib.Omega.{arith}
use mathlib.Core.Path.{sym, ◌∙◌}
use mathlib.Core.Bool.{true≢false}
use Rattle.mesh_geometry.specs.Words.{read_triangles}
use Rattle.check_searches.specs.Triangles.{triangle_at}
use Rattle.check_searches.proofs.Read.{triangles_count}
use Rattle.check_side_searches.proofs.Skips.{clear_more, without_side}
use Rattle.check_side_searches.proofs.near.has_side_in.Goals as goal

pub returns-then-has_side_at : goal.returns-then-has_side_at
returns-then-has_side_at c =
    let l = c.loop-i in
    let xs = c.args.indices.now in
    record {
      yes = λ e. (l.i, omega (arith, triangles_count xs), sym c.has_side_at.ensures ∙ c.if-has_side_at.true);
      no = λ e. absurd (true≢false e);
    }

pub loop-i-preserved : goal.loop-i-preserved
loop-i-preserved c =
    clear_more (λ k w. without_side (triangle_at (read_triangles c.args.indices.now) k)
    c.args.x c.args.y w.x_no)
    c.loop-i.invariant
    (sym c.has_side_at.ensures ∙ c.if-has_side_at.false) c.next_touching-i-in-loop-i.ensures
