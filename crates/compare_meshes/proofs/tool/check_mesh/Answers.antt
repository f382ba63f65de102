use native.Mathlib.Omega.{arith}
use Prim.Native.Nat.{◌%◌}
use lib.ListN.{length}
use mathlib.Core.Path.{refl}
use borrow.Author.Tests.{eq-eqb, ne_eqb}
use Rattle.compare_meshes.specs.Answers.{checked}
use Rattle.check_searches.proofs.Read.{points_count}
use Rattle.check_searches.proofs.First.{test_found, test_none}
use Rattle.compare_meshes.proofs.tool.check_mesh.Goals as goal

pub returns-then-points-ne0 : goal.returns-then-points-ne0
unfolding checked
returns-then-points-ne0 c = rw (ne_eqb _ _ c.if-points-ne0.true)

pub returns-then-indices-ne0 : goal.returns-then-indices-ne0
unfolding checked
returns-then-indices-ne0 c = rw (eq-eqb _ _ c.if-points-ne0.false, ne_eqb _ _ c.if-indices-ne0.true)

pub returns-then-first_unknown-indices : goal.returns-then-first_unknown-indices
unfolding checked
returns-then-first_unknown-indices c =
    rw (
      eq-eqb _ _ c.if-points-ne0.false,
      eq-eqb (length c.args.indices.now % 3) 0 (omega arith),
      points_count c.args.points.now,
      test_found c.first_unknown.ensures refl c.if-first_unknown-indices.true,
    )

pub returns-then-first_repeated-count : goal.returns-then-first_repeated-count
unfolding checked
returns-then-first_repeated-count c =
    rw (
      eq-eqb _ _ c.if-points-ne0.false,
      eq-eqb (length c.args.indices.now % 3) 0 (omega arith),
      points_count c.args.points.now,
      test_none c.first_unknown.ensures refl c.if-first_unknown-indices.false,
      test_found c.first_repeated.ensures refl c.if-first_repeated-count.true,
    )

pub returns : goal.returns
unfolding checked
returns c =
    rw (
      eq-eqb _ _ c.if-points-ne0.false,
      eq-eqb (length c.args.indices.now % 3) 0 (omega arith),
      points_count c.args.points.now,
      test_none c.first_unknown.ensures refl c.if-first_unknown-indices.false,
      test_none c.first_repeated.ensures refl c.if-first_repeated-count.false,
    )
