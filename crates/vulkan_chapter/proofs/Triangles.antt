-- 23.6: the vertices and triangles that document 01 lists for a triangle patch are the chapter's.
-- Assumes nothing.
use Prim.Native.Nat.{ℕ, zero, suc, ◌+◌, ◌-◌, ◌*◌, ◌/◌, ◌%◌, ◌≤◌, ◌<◌}
use mathlib.Core.Path.{◌≡◌, refl, sym, ap, ◌∙◌}
use mathlib.Core.Bool.{Bool, true, false, cond}
use mathlib.Core.List.Memᴰ
use mathlib.Core.List.Perm
use mathlib.Core.List.{List, [], ◌∷◌, map, Perm}
use native.Mathlib.Omega.{arith}
use native.Mathlib.Decide.{dec_le}
use lib.Dec.{eqb}
use lib.ListN.{length}
use borrow.Author.Tests.{eq-eqb, eqb-true}
use Rattle.strip.specs.declared.triangle.Triangle.{Triangle}
use Rattle.strip.specs.Triangles.{turned}
use Rattle.strip.specs.Mirror.{SameCorners}
use Rattle.mesh_topology.specs.Nest.{nest}
use Rattle.mesh_topology.specs.Quad.{joined_lists}
use Rattle.mesh_topology.specs.RingVertices.{ring_segments, edge_first, ring_size, ring_first, vertex_on}
use Rattle.mesh_topology.specs.RingStrips.{ring_strip, strips_between, innermost}
use Rattle.mesh_topology.proofs.Ring.{ring_zero}
use Rattle.mesh_topology.proofs.Sums.{sum_constant}
use Rattle.mesh_topology.proofs.RingVertices.{vertex_before, vertex_end}
use Rattle.mesh_topology.proofs.RingStrips.{nest_exactly}
use Rattle.mesh_geometry.specs.declared.Point.{Point}
use Rattle.mesh_geometry.specs.Faces.{at}
use Rattle.mesh_geometry.specs.Edge.{Run, GoodRun}
use Rattle.mesh_geometry.specs.Domain.{triangle}
use Rattle.mesh_geometry.specs.OnEdge.{opposite_coordinate, OnTriangle, OnEdge}
use Rattle.mesh_geometry.specs.TrianglePoints.{centre, triangle_patch}
use Rattle.mesh_geometry.specs.RingPoints.{segments, RingPoints}
use Rattle.mesh_geometry.proofs.Lists.{All, none, more, all_append, all_more}
use Rattle.mesh_geometry.proofs.Located.{located}
use Rattle.mesh_geometry.proofs.QuadTurns.{joined_all}
use Rattle.mesh_geometry.proofs.RingPoints.{rings_exactly}
use Rattle.vulkan_chapter.specs.Members.{Member}
use Rattle.vulkan_chapter.specs.Between.{NumberedLine, BandFilled}
use Rattle.vulkan_chapter.specs.Triangles.{OnPerpendicular, Concentric, OnRing, AllOne3, TriangleVertices, IsRing, InRings, RingDrawn}
use Rattle.vulkan_chapter.specs.Triangles as chapter
use Rattle.vulkan_chapter.proofs.Between.{same_turned, joins_same, member_joined, each_turned, filled_in, filled_turned, strip_joins, strip_fills}

-- edge k of ring j, where the outer edges have c 0, c 1 and c 2 segments and the inner level gives n
abbrev pub ring_line : (ℕ → ℕ) → ℕ → ℕ → ℕ → NumberedLine
ring_line c n j k = record { segments = ring_segments c n j k; vertex = vertex_on c n j k }

-- ---- numbers
-- the vertices of the edges before edge k, where each has w
edges_before : (c : ℕ → ℕ) (n j k w : ℕ) → n - 2 * suc j ≡ w → edge_first c n (suc j) k ≡ k * w
edges_before c n j k w e = sum_constant (n - 2 * suc j) k ∙ rw e

-- a ring of no segments has one vertex
point_number : (c : ℕ → ℕ) (n j k : ℕ) → n ≡ 2 * suc j → vertex_on c n (suc j) k 0 ≡ ring_first c n (suc j)
point_number c n j k e =
    let z : edge_first c n (suc j) k + 0 ≡ 0 = omega (arith, edges_before c n j k 0 (omega arith)) in
    rw z (ring_zero (ring_first c n (suc j)) (ring_size c n (suc j)))

-- the first vertex of edge k of a ring of one segment an edge
corner_number : (c : ℕ → ℕ) (n j k : ℕ) → k < 3 → n ≡ suc (2 * suc j) → vertex_on c n (suc j) k 0 ≡ ring_first c n (suc j) + k
corner_number c n j k h e = vertex_before c n (suc j) k 0 h (omega arith) ∙ omega (arith, edges_before c n j k 1 (omega arith))

same_corners_lem : {a b c a' b' c' : ℕ} → a ≡ a' → b ≡ b' → c ≡ c' → Perm (a ∷ b ∷ c ∷ []) (a' ∷ b' ∷ c' ∷ [])
same_corners_lem e f g = rw (e, f, g) (Perm.refl _)

-- ---- where the vertices lie
on_perpendicular : (k x d : ℕ) (p : Point) → OnTriangle k x d p → OnPerpendicular k x p
on_perpendicular k x d p o = omega (arith, o.start, o.end)

module _ (e : ℕ → Run) (inside : Run) (outer-good : (k : ℕ) → GoodRun (e k)) (good : GoodRun inside) (two : 2 ≤ inside.c) where
  abbrev n : ℕ
  n = inside.c

  abbrev c : ℕ → ℕ
  c = segments e

  abbrev ps : List Point
  ps = triangle_patch (e 0) (e 1) (e 2) inside

  abbrev P : ℕ → Point
  P = at ps

  pub listed : RingPoints e inside ps
  listed = (rings_exactly e inside (λ k h. outer-good k) good ps).0 refl

  centre_at : (j k : ℕ) → 1 ≤ j → 2 * j ≡ n → P (vertex_on c n j k 0) ≡ centre
  centre_at zero k one h = absurd (omega arith)
  centre_at (suc j) k one h = rw (point_number c n j k (sym h)) (listed.even (suc j) (sym h)).0

  on_centre : (k x : ℕ) → x + x ≡ 65536 → OnTriangle k x x centre
  on_centre zero x h = omega arith
  on_centre (suc zero) x h = omega arith
  on_centre (suc (suc k)) x h = omega arith

  -- vertex i of edge k of ring j lies at the place q(j + i), q(j) units in
  ring_place : (j k i : ℕ) → k < 3 → 1 ≤ j → i + 2 * j ≤ n → OnTriangle k (inside.q (j + i)) (inside.q j) (P (vertex_on c n j k i))
  ring_place j k i h one l = elim (dec_le (suc (2 * j)) n) [
    | yes m ↦
        let z : j + i - j ≡ i = omega arith in
        rw z at (listed.inner j k (j + i) one m h (omega arith) (omega arith))
    | no m ↦
        let z : i ≡ 0 = omega arith in
        let y : j + 0 ≡ j = omega arith in
        let x : n - j ≡ j = omega arith in
        rw (z, y, centre_at j k one (omega arith)) (on_centre k (inside.q j) (rw x at (good.mirrors j (omega arith))))
  ]

  opposite_is : (j k i : ℕ) → k < 3 → 1 ≤ j → i + 2 * j ≤ n → opposite_coordinate k (P (vertex_on c n j k i)) ≡ 2 * inside.q j
  opposite_is j k i h one l = (ring_place j k i h one l).opposite

  fewer : (j k : ℕ) → 1 ≤ j → 2 * j ≤ n → ring_segments c n j k + 2 * j ≡ n
  fewer zero k one l = absurd (omega arith)
  fewer (suc j) k one l = omega arith

  corner : (j k : ℕ) → k < 3 → 1 ≤ j → P (vertex_on c n j k (n - 2 * j)) ≡ P (vertex_on c n j ((k + 1) % 3) 0)
  corner zero k h one = absurd (omega arith)
  corner (suc j) k h one = ap P (vertex_end c n (suc j) k h)

  pub concentric : Concentric n inside.q (ring_line c n) P
  concentric = record {
    fewer = λ j k h one l. fewer j k one l;
    perpendicular = λ j k i h one l. on_perpendicular k _ _ _ (ring_place j k i h one l);
    parallel = λ j k i i' h one l l'. opposite_is j k i h one l ∙ sym (opposite_is j k i' h one l');
    equal_sided = λ j k k' h h' one l. opposite_is j k 0 h one (omega arith) ∙ sym (opposite_is j k' 0 h' one (omega arith));
    corner = λ j k h one l. corner j k h one;
    centre = λ j one h. centre_at j 0 one h;
  }

  -- ---- no other vertex
  in_ring : (j m : ℕ) → 2 * j ≤ n → m < ring_size c n j → OnRing n (ring_line c n) (ring_first c n j + m)
  in_ring j m l h =
      let s = located (ring_segments c n j) 3 m h in
      record {
        j = j;
        k = s.k;
        i = s.i;
        triangle = l;
        edge = s.list;
        along = omega (arith, s.within);
        is = vertex_before c n j s.k s.i s.list s.within ∙ omega (arith, s.is);
      }

  in_rings : (h v : ℕ) → 2 * h ≤ n + 1 → v < ring_first c n h → OnRing n (ring_line c n) v
  in_rings h v l m =
      let s = located (ring_size c n) h v m in
      rw s.is at (in_ring s.k s.i (omega (arith, s.list)) s.within)

  at_centre : (h : ℕ) → n ≡ 2 * h → OnRing n (ring_line c n) (ring_first c n h)
  at_centre zero e = absurd (omega arith)
  at_centre (suc h) e = record { j = suc h; k = 0; i = 0; triangle = omega arith; edge = omega arith; along = omega arith; is = point_number c n h 0 e }

  pub no_other : (v : ℕ) → v < length ps → OnRing n (ring_line c n) v
  no_other v l = elim (dec_le (suc (2 * (n / 2))) n) [
    | yes m ↦ in_rings (suc (n / 2)) v (omega arith) (omega (arith, listed.odd (n / 2) (omega arith)))
    | no m ↦
        let h = n / 2 in
        let g : n ≡ 2 * h = omega arith in
        elim (dec_le (suc v) (ring_first c n h)) [
          | yes k ↦ in_rings h v (omega arith) k
          | no k ↦
              let z : ring_first c n h ≡ v = omega (arith, (listed.even h g).1) in
              rw z at (at_centre h g)
        ]
  ]

-- the parts of the claim about the vertices, for any lines, edges and vertices
pub vertices_lem : {ring : ℕ → ℕ → NumberedLine} {e : ℕ → Run} {own inside : Run} {ps : List Point} → ((k : ℕ) → k < 3 → (ring 0 k).segments ≡ (e k).c)
    → ((k i : ℕ) → k < 3 → i ≤ (e k).c → OnEdge triangle k ((e k).q i) (at ps ((ring 0 k).vertex i))) → (AllOne3 e own → length ps ≡ 3)
    → ((AllOne3 e own → ⊥) → Concentric inside.c inside.q ring (at ps)) → ((AllOne3 e own → ⊥) → (v : ℕ) → v < length ps → OnRing inside.c ring v)
    → TriangleVertices ring e own inside ps
vertices_lem segments_as on_edges corners inner others = record { outer_segments_lem = segments_as; outer = on_edges; single = corners; concentric = inner; no_other = others }

-- ---- the triangles between them
module _ (c : ℕ → ℕ) (n : ℕ) (two : 2 ≤ n) where
  abbrev R : ℕ → ℕ → NumberedLine
  R = ring_line c n

  -- the innermost triangle, by the numbers of its vertices
  abbrev last : ℕ → Triangle
  last first = record { a = first; b = first + 1; c = first + 2 }

  last_corners : (j : ℕ) → n ≡ suc (2 * j) → IsRing R j (last (ring_first c n j))
  last_corners zero e = absurd (omega arith)
  last_corners (suc j) e =
      same_corners_lem (omega (arith, corner_number c n j 0 (omega arith) e)) (sym (corner_number c n j 1 (omega arith) e)) (sym (corner_number c n j 2 (omega arith) e))

  innermost_in : All (InRings n R) (innermost (ring_first c n (n / 2)) n)
  innermost_in = go (eqb (n % 2) 1) refl
    where
      go : (b : Bool) → eqb (n % 2) 1 ≡ b → All (InRings n R) (cond b (last (ring_first c n (n / 2)) ∷ []) [])
      go false h = none
      go true h =
          let e : n ≡ suc (2 * (n / 2)) = omega (arith, eqb-true (n % 2) 1 h) in
          more (chapter.innermost (n / 2) e (last_corners (n / 2) e)) none

  all_in : All (InRings n R) (nest 0 (c 0) (c 1) (c 2) n)
  all_in = rw (nest_exactly c n) (all_append _
      (joined_all _ _ _ (λ j h. joined_all _ _ _ (λ k l. all_more (λ t w. chapter.between j k l (omega arith) w) (strip_joins (R j k) (R (suc j) k)))))
      innermost_in)

  strip_drawn : (j k : ℕ) → k < 3 → 2 * suc j ≤ n → (t : Triangle) → Member t (ring_strip c n j k) → Member t (nest 0 (c 0) (c 1) (c 2) n)
  strip_drawn j k h l t m = rw (nest_exactly c n)
      (Memᴰ.append_left (innermost (ring_first c n (n / 2)) n)
      (member_joined (strips_between c n) (n / 2) j (omega arith) (member_joined (ring_strip c n j) 3 k h m)))

  all_filled : (j k : ℕ) → k < 3 → 2 * suc j ≤ n → BandFilled (R j k) (R (suc j) k) (nest 0 (c 0) (c 1) (c 2) n)
  all_filled j k h l = filled_in (strip_drawn j k h l) (strip_fills (R j k) (R (suc j) k))

  last_drawn : (j : ℕ) → n ≡ suc (2 * j) → Member (last (ring_first c n j)) (nest 0 (c 0) (c 1) (c 2) n)
  last_drawn j e =
      let z : j ≡ n / 2 = omega arith in
      let odd : eqb (n % 2) 1 ≡ true = eq-eqb (n % 2) 1 (omega arith) in
      rw (nest_exactly c n, odd, z) (Memᴰ.append_right (joined_lists (strips_between c n) (n / 2)) (Memᴰ.head refl))

  module _ (b : Bool) where
    abbrev drawn : List Triangle
    drawn = map (turned b) (nest 0 (c 0) (c 1) (c 2) n)

    rings_same : (s t : Triangle) → SameCorners s t → InRings n R t → InRings n R s
    rings_same s t same (chapter.between j k h l w) = chapter.between j k h l (joins_same same w)
    rings_same s t same (chapter.innermost j e w) = chapter.innermost j e (Perm.trans same w)

    pub each_in : (t : Triangle) → Member t drawn → InRings n R t
    each_in = each_turned b (nest 0 (c 0) (c 1) (c 2) n) rings_same all_in

    pub rings_filled : (j k : ℕ) → k < 3 → 2 * suc j ≤ n → BandFilled (R j k) (R (suc j) k) drawn
    rings_filled j k h l = filled_turned b (all_filled j k h l)

    pub innermost_drawn : (j : ℕ) → n ≡ suc (2 * j) → RingDrawn R j drawn
    innermost_drawn j e = record {
      triangle = turned b (last (ring_first c n j));
      drawn = Memᴰ.map (turned b) (last_drawn j e);
      corners = Perm.trans (same_turned b (last (ring_first c n j))) (last_corners j e);
    }
