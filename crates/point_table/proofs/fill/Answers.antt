use native.Mathlib.Omega.{arith}
use Prim.Native.Nat.{◌+◌}
use mathlib.Core.Path.{◌≡◌, sym, ◌∙◌}
use lib.ListN.{length, length-set}
use Rattle.mesh_geometry.specs.Words.{read_points}
use Rattle.check_searches.specs.Points.{first_repeated}
use Rattle.check_searches.proofs.First.{below_more, first_at, first_none}
use Rattle.check_searches.proofs.Read.{points_count}
use Rattle.point_table.proofs.Trees.{table_more, sought_new, sought_again}
use Rattle.point_table.proofs.fill.Goals as goal

pub returns-then-table-x-ne0-clause-first : goal.returns-then-table-x-ne0-clause-first
unfolding first_repeated
returns-then-table-x-ne0-clause-first c =
    let l = c.loop-j in
    let xs = c.args.points.now in
    let s = c.seek-x in
    sym (first_at _ _ l.j (omega (arith, points_count xs)) l.invariant.0 (sought_again s.ensures c.point_at.ensures l.invariant.1 (omega arith)))

pub loop-j-preserved : goal.loop-j-preserved
loop-j-preserved c =
    let l = c.loop-j in
    let s = c.seek-x in
    let e = c.point_at.ensures in
    let p = c.requires in (
      below_more _ l.j l.invariant.0 (sought_new s.ensures e (omega arith)),
      table_more _ _ l.j l.table l.invariant.1 s.result (rw e at s.ensures) (omega arith) (omega (arith, p.room, l.invariant.2)),
      length-set l.table s.result (l.j + 1) ∙ l.invariant.2,
    )

pub returns-clause-first : goal.returns-clause-first
unfolding first_repeated
returns-clause-first c =
    let l = c.loop-j in
    let xs = c.args.points.now in
    let e : l.j ≡ length (read_points xs) = omega (arith, points_count xs) in
    sym (points_count xs) ∙ sym (first_none _ _ (rw e at l.invariant.0))
