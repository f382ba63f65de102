-- Spots of the plain quad patch, whose two triangles meet at the diagonal from (0, 1) to (1, 0). Assumes nothing.
use Prim.Native.Nat.{ℕ, zero, suc}
use mathlib.Core.Path.{◌≡◌, refl}
use mathlib.Core.Bool.{true}
use mathlib.Core.List.{List, [], ◌∷◌}
use native.Mathlib.Omega.{arith}
use Rattle.edge.specs.Table.{table}
use Rattle.mesh_topology.specs.Quad.{plain_quad}
use Rattle.mesh_geometry.specs.Cover.{Face, Side, reversed, sides, twice_area}
use Rattle.mesh_geometry.specs.Faces.{faces_of}
use Rattle.mesh_geometry.specs.Edge.{GoodRun, ends, ring}
use Rattle.mesh_geometry.specs.QuadPoints.{quad_corners}
use Rattle.mesh_geometry.proofs.Lists.{none, more}
use Rattle.mesh_geometry.proofs.Plain.{plain_quad_covers}
use Rattle.mesh_geometry.specs.Held.{Holds, OnSide, OffSides, face, HeldOnce}
use Rattle.mesh_geometry.specs.Domain.{square}
use Rattle.mesh_geometry.proofs.Once.{cover_once}

-- the triangles of the patch, in positive orientation
abbrev plain : List Face
plain = faces_of true quad_corners (plain_quad 0)

abbrev diagonal : Side
diagonal = record { start = record { u = 65536; v = 0; w = 0 }; end = record { u = 0; v = 65536; w = 0 } }

-- the first triangle holds (1, 2)
first_holds : Holds true (face plain 0) (record { u = 1; v = 2 })
unfolding twice_area
first_holds = record {
  pq = record { size = 65536; above = omega arith; is = refl };
  qr = record { size = 131072; above = omega arith; is = refl };
  rp = record { size = 4294770688; above = omega arith; is = refl };
}

-- (1, 65535) lies on the diagonal; a spot in line with a side may lie beyond its end
on_diagonal : OnSide diagonal (record { u = 1; v = 65535 })
unfolding twice_area
on_diagonal = record { straight = refl; along_u = omega arith; along_v = omega arith }

past_end : OnSide (record { start = record { u = 3; v = 1; w = 0 }; end = record { u = 3; v = 2; w = 0 } }) (record { u = 3; v = 5 }) → ⊥
past_end h = omega (arith, h.along_v)

-- (1, 2) lies on no side, so exactly one triangle holds it
apart : OnSide diagonal (record { u = 1; v = 2 }) → ⊥
unfolding twice_area
apart h = let e : ◌≡◌ {A = ℕ} 4294770688 0 = cc h.straight in omega arith

apart_back : OnSide (reversed diagonal) (record { u = 1; v = 2 }) → ⊥
unfolding twice_area
apart_back h = let e : ◌≡◌ {A = ℕ} 0 1 = cc h.straight in omega arith

clear : OffSides plain (record { u = 1; v = 2 })
unfolding sides
clear zero l h = omega (arith, h.along_u)
clear (suc zero) l h = omega (arith, h.along_v)
clear (suc (suc zero)) l h = apart h
clear (suc (suc (suc zero))) l h = apart_back h
clear (suc (suc (suc (suc zero)))) l h = omega (arith, h.along_u)
clear (suc (suc (suc (suc (suc zero))))) l h = omega (arith, h.along_v)
clear (suc (suc (suc (suc (suc (suc i)))))) l h = omega arith

held_once : HeldOnce true plain (record { u = 1; v = 2 })
unfolding ring table
held_once =
    cover_once square (ends ∷ ends ∷ ends ∷ ends ∷ []) refl (more good (more good (more good (more good none)))) (plain_quad_covers true)
    (record { u = 1; v = 2 }) (omega arith) clear
  where
    good : GoodRun ends
    good = record { first = refl; last = refl; rises = λ i l. omega arith; mirrors = λ i l. omega arith }
