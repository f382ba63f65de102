-- Exactly one triangle holds each spot that lies strictly inside a covered patch and on no side, for any mesh that satisfies
-- `Cover`, both orientations, and any good outer edges. Assumes nothing.
use Prim.Native.Nat.{ℕ, suc}
use mathlib.Core.Path.{◌≡◌, refl}
use mathlib.Core.Bool.{Bool, true, false}
use mathlib.Core.List.{List, [], ◌∷◌}
use native.Mathlib.Omega.{arith}
use lib.ListN.{length}
use Rattle.mesh_geometry.specs.declared.Point.{Point}
use Rattle.mesh_geometry.specs.Cover.{Face, Side, sides, missing, twice_area, HasSign, directed, Cover}
use Rattle.mesh_geometry.specs.Edge.{Run, GoodRun, ring}
use Rattle.mesh_geometry.proofs.Lists.{All, none, more, Distinct}
use Rattle.mesh_geometry.specs.Held.{Spot, corner, Holds, OnSide, OffSides, HeldOnce}
use Rattle.mesh_geometry.specs.Domain.{Domain, edge_count, place_on, InsideDomain}
use Rattle.mesh_geometry.proofs.Members.{sum, sum_map, all_places}
use Rattle.mesh_geometry.proofs.Walk.{walked, pieces}
use Rattle.mesh_geometry.proofs.Stokes.{back, stokes, cover_closed}
use Rattle.mesh_geometry.proofs.ExactlyOne.{Counted, counted_as, One, exactly_one}
use Rattle.mesh_geometry.proofs.Sign.{second, third, holds_left, left_holds, turned_left, touches_on, touches_back}
use Rattle.mesh_geometry.proofs.TriangleCrossings.{ups, downs, Off, triangle_counts}
use Rattle.mesh_geometry.proofs.Winds.{crossing, Winds, outline_winds, outline_distinct}

-- the crossings of a side, in its positive direction
abbrev weight : Bool → Spot → Side → ℕ
weight b s e = crossing (corner s) (directed b e)

module _ (b : Bool) (s : Spot) where
  abbrev face_ups : Face → ℕ
  face_ups t = ups (corner s) t.p (second b t) (third b t)

  abbrev face_downs : Face → ℕ
  face_downs t = downs (corner s) t.p (second b t) (third b t)

-- the spot lies on none of the triangle's sides
record Beside (t : Face) (s : Spot) : Type 0 where
  pq : OnSide (record { start = t.p; end = t.q }) s → ⊥
  qr : OnSide (record { start = t.q; end = t.r }) s → ⊥
  rp : OnSide (record { start = t.r; end = t.p }) s → ⊥

beside : (s : Spot) (ts : List Face) → All (λ e. OnSide e s → ⊥) (sides ts) → All (λ t. Beside t s) ts
unfolding sides
beside s [] none = none
beside s (t ∷ ts) (more a (more b (more c hs))) = more (record { pq = a; qr = b; rp = c }) (beside s ts hs)

off : (b : Bool) (t : Face) (s : Spot) → HasSign b (twice_area t) → Beside t s → Off t.p (second b t) (third b t) (corner s)
off true t s h c = record {
  turns = turned_left true t h;
  pq = λ i. c.pq (touches_on _ s i);
  qr = λ i. c.qr (touches_on _ s i);
  rp = λ i. c.rp (touches_on _ s i);
}
off false t s h c = record {
  turns = turned_left false t h;
  pq = λ i. c.rp (touches_on _ s (touches_back i));
  qr = λ i. c.qr (touches_on _ s (touches_back i));
  rp = λ i. c.pq (touches_on _ s (touches_back i));
}

faces_count : (b : Bool) (s : Spot) {ts : List Face} → All (λ t. HasSign b (twice_area t)) ts → All (λ t. Beside t s) ts
    → All (λ t. Counted (Holds b t s) (face_ups b s t) (face_downs b s t)) ts
faces_count b s none none = none
faces_count b s (more {x = t} h hs) (more c cs) =
    more (counted_as (left_holds b t s) (holds_left b t s) refl refl (triangle_counts _ _ _ _ (off b t s h c))) (faces_count b s hs cs)

-- the crossings of the faces are those of their sides
sides_up : (b : Bool) (s : Spot) (ts : List Face) → sum (weight b s) (sides ts) ≡ sum (face_ups b s) ts
unfolding sum sides
sides_up b s [] = refl
sides_up true s (t ∷ ts) = omega (arith, sides_up true s ts)
sides_up false s (t ∷ ts) = omega (arith, sides_up false s ts)

sides_down : (b : Bool) (s : Spot) (ts : List Face) → sum (back (weight b s)) (sides ts) ≡ sum (face_downs b s) ts
unfolding sum sides
sides_down b s [] = refl
sides_down true s (t ∷ ts) = omega (arith, sides_down true s ts)
sides_down false s (t ∷ ts) = omega (arith, sides_down false s ts)

-- the crossings of the pieces are those of the outline in walk order
pieces_up : (b : Bool) (s : Spot) (ps : List Point) → sum (weight b s) (pieces b ps) ≡ sum (crossing (corner s)) (walked ps)
pieces_up true s ps = sum_map (directed true) (weight true s) (walked ps)
pieces_up false s ps = sum_map (directed false) (weight false s) (walked ps)

pieces_down : (b : Bool) (s : Spot) (ps : List Point) → sum (back (weight b s)) (pieces b ps) ≡ sum (back (crossing (corner s))) (walked ps)
pieces_down true s ps = sum_map (directed true) (back (weight true s)) (walked ps)
pieces_down false s ps = sum_map (directed false) (back (weight false s)) (walked ps)

module _ {b : Bool} {area : ℕ} {outline points : List Point} {faces : List Face} (c : Cover b area outline points faces) where
  -- any outline that winds once around the spot
  pub winds_once : Distinct outline → (s : Spot) → Winds outline (corner s) → OffSides faces s → HeldOnce b faces s
  winds_once apart s winds clear = record { number = one.number; within = one.within; holds = one.has; only = one.only }
    where
      total : sum (face_ups b s) faces ≡ suc (sum (face_downs b s) faces)
      total = omega (
        arith,
        stokes (cover_closed c apart) (weight b s),
        sides_up b s faces,
        sides_down b s faces,
        pieces_up b s outline,
        pieces_down b s outline,
      )

      one : One (λ t. Holds b t s) (face_ups b s) (face_downs b s) (record { p = missing; q = missing; r = missing }) faces
      one = exactly_one _ _ _ _ (faces_count b s (all_places faces _ c.turned) (beside s faces (all_places (sides faces) _ clear))) total

pub cover_once : (k : Domain) (es : List Run) → length es ≡ edge_count k → All GoodRun es
    → {positive : Bool} {area : ℕ} {points : List Point} {faces : List Face} → Cover positive area (ring (place_on k) 0 es 0) points faces
    → (s : Spot) → InsideDomain k s → OffSides faces s → HeldOnce positive faces s
cover_once k es n good c s inside clear = winds_once c (outline_distinct es k n good) s (outline_winds es k n good s inside) clear
