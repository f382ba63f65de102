-- A sound mesh covers its patch, so exactly one triangle holds each spot. Assumes nothing.
use Prim.Native.Nat.{ℕ, ◌+◌, ◌<◌}
use mathlib.Core.Path.{◌≡◌, refl, sym}
use mathlib.Core.Bool.{Bool, true, false}
use mathlib.Core.List.{List}
use lib.ListN.{length}
use lib.IntN.{pos, ◌+ℤ◌, neg_ℤ-+ℤ}
use Rattle.mesh_geometry.specs.declared.Point.{Point}
use Rattle.mesh_geometry.specs.Cover.{Face, missing, reversed, directed, piece, sides, Occurs, twice_area, total_twice_area, signed, HasSign, Cover}
use Rattle.mesh_geometry.specs.Edge.{Run, GoodRun, ring}
use Rattle.mesh_geometry.proofs.Lists.{All, none, more, all_more, all_map, all_at}
use Rattle.mesh_geometry.specs.Faces.{faces_in}
use Rattle.mesh_geometry.specs.Held.{Spot, OffSides, HeldOnce}
use Rattle.mesh_geometry.specs.Domain.{Domain, edge_count, place_on, InsideDomain}
use Rattle.mesh_geometry.proofs.Members.{all_member, all_places}
use Rattle.mesh_geometry.proofs.Walk.{pieces, piece_member}
use Rattle.mesh_geometry.proofs.Stokes.{cover_closed}
use Rattle.mesh_geometry.proofs.Rim.{joining}
use Rattle.mesh_geometry.proofs.Areas.{area_of, whole_area}
use Rattle.mesh_geometry.proofs.Winds.{outline_distinct}
use Rattle.mesh_geometry.proofs.Once.{cover_once}
use Rattle.patch_mesh.specs.InPatch.{InPatch}
use Rattle.check_soundness.specs.Sound.{Sound}
use Rattle.check_soundness.proofs.Beyond.{none_beyond}
use Rattle.check_soundness.proofs.Apex.{faces_corners, Apex, sides_apex}

-- areas of one sign add up to an area of that sign, or to 0
add_signed : (b : Bool) (m n : ℕ) → signed b m +ℤ signed b n ≡ signed b (m + n)
add_signed true m n = refl
add_signed false m n = sym (neg_ℤ-+ℤ (pos m) (pos n))

total_signed : (b : Bool) {ts : List Face} → All (λ t. HasSign b (twice_area t)) ts → (n : ℕ) × (total_twice_area ts ≡ signed b n)
unfolding total_twice_area
total_signed true none = (0, refl)
total_signed false none = (0, refl)
total_signed b (more h hs) = let w = total_signed b hs in (h.size + w.0, rw (h.is, w.1) (add_signed b h.size w.0))

module _ (k : Domain) (es : List Run) (n : length es ≡ edge_count k) (good : All GoodRun es) where
  abbrev rim : List Point
  rim = ring (place_on k) 0 es 0

  -- no corner lies on the outer side of a piece of the outline
  no_apex : (b : Bool) → All (λ e. Apex (InPatch k) b (reversed e) → ⊥) (pieces b rim)
  no_apex true = all_map (directed true) _ (all_more (λ e h a. h a.third a.has a.left) (none_beyond k es n good))
  no_apex false = all_map (directed false) _ (all_more (λ e h a. h a.third a.has a.left) (none_beyond k es n good))

  module _ {b : Bool} {points : List Point} {ws : List ℕ} (s : Sound k b (ring (place_on k) 0 es 0) points ws) where
    abbrev faces : List Face
    faces = faces_in points ws

    turns : All (λ t. HasSign b (twice_area t)) faces
    turns = all_places faces _ s.turned

    apexes : All (Apex (InPatch k) b) (sides faces)
    apexes = sides_apex (InPatch k) b (faces_corners (InPatch k) (all_places points missing s.inside) ws (all_places ws 0 s.numbered)) turns

    outside : (j : ℕ) → j < length rim → Occurs (reversed (piece b rim j)) (sides faces) → ⊥
    outside j h o = all_member (no_apex b) (piece_member b rim j h) (rw o.2 at (all_at (joining missing missing) o.0 o.1 apexes))

    -- with the sum of the triangles' areas as the area
    covers : (area : ℕ) → total_twice_area faces ≡ signed b area → Cover b area rim points faces
    covers area h = record {
      distinct = s.distinct;
      turned = s.turned;
      single = s.single;
      outlined = s.outlined;
      outside = outside;
      closed = s.closed;
      whole = h;
    }

    -- with the area of the patch
    pub sound_covers : Cover b (area_of k) (ring (place_on k) 0 es 0) points (faces_in points ws)
    sound_covers =
        let w = total_signed b turns in
        covers (area_of k) (whole_area es good k n b faces (cover_closed (covers w.0 w.1) (outline_distinct es k n good)))

    -- exactly one triangle holds each spot that lies strictly inside and on no side
    pub sound_once : (z : Spot) → InsideDomain k z → OffSides (faces_in points ws) z → HeldOnce b (faces_in points ws) z
    sound_once = cover_once k es n good sound_covers
