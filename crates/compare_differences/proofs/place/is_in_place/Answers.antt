use native.Mathlib.Omega.{arith}
use mathlib.Core.Path.{◌≡◌, ◌∙◌}
use mathlib.Core.Bool.{◌&&◌}
use Rattle.check_searches.proofs.Read.{points_count, triangles_count}
use Rattle.compare_differences.specs.Meshes.{face_row, same_corners}
use Rattle.compare_differences.proofs.Numbers.{ranged}
use Rattle.compare_differences.proofs.place.is_in_place.Goals as goal

pub same_place-requires-clause-point : goal.same_place-requires-clause-point
same_place-requires-clause-point c =
    let s = rw (← c.triangle_at-s.ensures) at (ranged _ c.args.mesh.indices.now c.args.mesh.sound.numbered c.args.k c.requires) in
    omega (arith, points_count c.args.mesh.points.now, s.a)

pub same_place-requires-clause-other : goal.same_place-requires-clause-other
same_place-requires-clause-other c =
    let t = rw (← c.triangle_at-t.ensures) at (ranged _ c.args.other.indices.now c.args.other.sound.numbered c.args.k (omega arith)) in
    omega (arith, points_count c.args.other.points.now, t.a)

pub same_place-requires-then-k-other-clause-point : goal.same_place-requires-then-k-other-clause-point
same_place-requires-then-k-other-clause-point c =
    let s = rw (← c.triangle_at-s.ensures) at (ranged _ c.args.mesh.indices.now c.args.mesh.sound.numbered c.args.k c.requires) in
    omega (arith, points_count c.args.mesh.points.now, s.b)

pub same_place-requires-then-k-other-clause-other : goal.same_place-requires-then-k-other-clause-other
same_place-requires-then-k-other-clause-other c =
    let t = rw (← c.triangle_at-t.ensures) at (ranged _ c.args.other.indices.now c.args.other.sound.numbered c.args.k (omega arith)) in
    omega (arith, points_count c.args.other.points.now, t.b)

pub same_place-requires-then-k-other-2-clause-point : goal.same_place-requires-then-k-other-2-clause-point
same_place-requires-then-k-other-2-clause-point c =
    let s = rw (← c.triangle_at-s.ensures) at (ranged _ c.args.mesh.indices.now c.args.mesh.sound.numbered c.args.k c.requires) in
    omega (arith, points_count c.args.mesh.points.now, s.c)

pub same_place-requires-then-k-other-2-clause-other : goal.same_place-requires-then-k-other-2-clause-other
same_place-requires-then-k-other-2-clause-other c =
    let t = rw (← c.triangle_at-t.ensures) at (ranged _ c.args.other.indices.now c.args.other.sound.numbered c.args.k (omega arith)) in
    omega (arith, points_count c.args.other.points.now, t.c)

pub returns-then-k-other : goal.returns-then-k-other
returns-then-k-other c =
    let a = c.args in
    let f = (face_row a.mesh.points.now a.mesh.indices.now).entry a.k in
    let g = (face_row a.other.points.now a.other.indices.now).entry a.k in
    let e : same_corners g f ≡ (c.same_place.result && c.same_place-then-k-other.result && c.same_place-then-k-other-2.result) =
    rw (
      ← c.triangle_at-s.ensures,
      ← c.triangle_at-t.ensures,
      c.same_place.ensures,
      c.same_place-then-k-other.ensures,
      c.same_place-then-k-other-2.ensures,
    ) in
    λ h. record { number = omega (arith, triangles_count a.other.indices.now); same = e ∙ h }
