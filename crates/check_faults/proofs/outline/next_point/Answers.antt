use mathlib.Core.Path.{◌∙◌}
use native.Mathlib.Omega.{arith}
use Rattle.mesh_geometry.specs.Words.{read_points}
use Rattle.check_searches.proofs.Read.{points_count}
use Rattle.check_faults.proofs.Pieces.{next_inside, next_wraps}
use Rattle.check_faults.proofs.outline.next_point.Goals as goal

pub returns-then-k-outline : goal.returns-then-k-outline
returns-then-k-outline c =
    let x = c in
    let ps = read_points x.args.outline.now in
    c.point_at.ensures ∙ next_inside ps x.args.k (omega (arith, points_count x.args.outline.now))

pub returns-else-k-outline : goal.returns-else-k-outline
returns-else-k-outline c =
    let x = c in
    let ps = read_points x.args.outline.now in
    c.point_at-else-k-outline.ensures ∙ next_wraps ps x.args.k (omega (arith, points_count x.args.outline.now))
