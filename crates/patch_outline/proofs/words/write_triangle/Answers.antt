use native.Mathlib.Omega.{arith}
use mathlib.Core.Path.{refl}
use mathlib.Core.List.{[], ◌∷◌}
use Rattle.mesh_geometry.specs.Segmented.{run}
use Rattle.mesh_geometry.specs.TrianglePoints.{triangle_place, triangle_patch}
use Rattle.mesh_geometry.proofs.Words.{words_length}
use Rattle.mesh_geometry.proofs.Ring.{ring_length}
use Rattle.patch_outline.proofs.Fronts.{outlined_length, one_inside, outline_front}
use Rattle.patch_outline.proofs.words.write_triangle.Goals as goal

pub write_triangle_patch-requires-clause-fact_3 : goal.write_triangle_patch-requires-clause-fact_3
write_triangle_patch-requires-clause-fact_3 c = let a = c.args in
    let o = one_inside (run a.e0) (run a.e1) (run a.e2) (run (record { count = 2; scaled = 131072 })) refl in
    omega (arith, c.requires.room, outlined_length triangle_place (run a.e0 ∷ run a.e1 ∷ run a.e2 ∷ []) o)

pub overflow_sub-result : goal.overflow_sub-result
overflow_sub-result c =
    let a = c.args in
    let i = run (record { count = 2; scaled = 131072 }) in
    let o = one_inside (run a.e0) (run a.e1) (run a.e2) i refl in
    omega (
      arith,
      c.write_triangle_patch.ensures.next,
      words_length (triangle_patch (run a.e0) (run a.e1) (run a.e2) i),
      outlined_length triangle_place (run a.e0 ∷ run a.e1 ∷ run a.e2 ∷ []) o,
    )

pub returns : goal.returns
returns c =
    let a = c.args in
    let es = run a.e0 ∷ run a.e1 ∷ run a.e2 ∷ [] in
    let i = run (record { count = 2; scaled = 131072 }) in
    let o = one_inside (run a.e0) (run a.e1) (run a.e2) i refl in
    let n = outlined_length triangle_place es o in
    let w = c.write_triangle_patch.ensures in
    outline_front _ o (omega (arith, w.next, words_length (triangle_patch (run a.e0) (run a.e1) (run a.e2) i), n, ring_length triangle_place 0 es 0)) w
