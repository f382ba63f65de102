use native.Mathlib.Omega.{arith}
use mathlib.Core.Path.{refl}
use mathlib.Core.List.{[], ◌∷◌}
use Rattle.mesh_geometry.specs.Segmented.{run}
use Rattle.mesh_geometry.specs.QuadPoints.{quad_place, quad_patch}
use Rattle.mesh_geometry.proofs.Words.{words_length}
use Rattle.mesh_geometry.proofs.Ring.{ring_length}
use Rattle.patch_outline.proofs.Fronts.{outlined_length, none_inside, outline_front}
use Rattle.patch_outline.proofs.words.write_quad.Goals as goal

pub write_quad_patch-requires-clause-room : goal.write_quad_patch-requires-clause-room
write_quad_patch-requires-clause-room c = let a = c.args in
    let one = run (record { count = 1; scaled = 65536 }) in
    let o = none_inside (run a.e0) (run a.e1) (run a.e2) (run a.e3) one one refl in omega (arith, c.requires.room, outlined_length quad_place (run a.e0 ∷ run a.e1 ∷ run a.e2 ∷ run a.e3 ∷ []) o)

pub returns : goal.returns
returns c =
    let a = c.args in
    let one = run (record { count = 1; scaled = 65536 }) in
    let es = run a.e0 ∷ run a.e1 ∷ run a.e2 ∷ run a.e3 ∷ [] in
    let o = none_inside (run a.e0) (run a.e1) (run a.e2) (run a.e3) one one refl in
    let n = outlined_length quad_place es o in
    let w = c.write_quad_patch.ensures in
    outline_front _ o (omega (arith, w.next, words_length (quad_patch (run a.e0) (run a.e1) (run a.e2) (run a.e3) one one), n, ring_length quad_place 0 es 0)) w
