-- 23.7: the vertices and triangles that document 01 lists for a quad patch are the chapter's.
-- Assumes nothing.
use Prim.Native.Nat.{ℕ, zero, suc, ◌+◌, ◌-◌, ◌*◌, ◌≤◌, ◌<◌}
use mathlib.Core.Path.{◌≡◌, refl, ap, ◌∙◌}
use mathlib.Core.Bool.{Bool}
use mathlib.Core.List.Memᴰ
use mathlib.Core.List.Perm
use mathlib.Core.List.{List, map}
use native.Mathlib.Omega.{arith}
use native.Mathlib.Decide.{dec_le}
use lib.ListN.{length}
use Rattle.strip.specs.declared.triangle.Triangle.{Triangle}
use Rattle.strip.specs.Triangles.{turned}
use Rattle.strip.specs.Mirror.{SameCorners}
use Rattle.mesh_topology.specs.Sides.{sum}
use Rattle.mesh_topology.specs.Quad.{joined_lists, quad}
use Rattle.mesh_topology.specs.GridStrips.{outline_on, grid_on, nearest_line, nearest_segments, grid_strip, cell_on, cells_on}
use Rattle.mesh_topology.proofs.Ring.{ring_before}
use Rattle.mesh_topology.proofs.Sums.{sum_constant, sum_within}
use Rattle.mesh_topology.proofs.GridStrips.{quad_exactly}
use Rattle.mesh_geometry.specs.declared.Point.{Point}
use Rattle.mesh_geometry.specs.Domain.{square}
use Rattle.mesh_geometry.specs.Faces.{at}
use Rattle.mesh_geometry.specs.Edge.{Run, GoodRun}
use Rattle.mesh_geometry.specs.OnEdge.{OnEdge}
use Rattle.mesh_geometry.specs.QuadPoints.{quad_patch}
use Rattle.mesh_geometry.specs.RingPoints.{segments}
use Rattle.mesh_geometry.specs.GridPoints.{GridPoints}
use Rattle.mesh_geometry.proofs.Edge.{good_to}
use Rattle.mesh_geometry.proofs.Lists.{All, none, more, all_append, all_more}
use Rattle.mesh_geometry.proofs.Located.{located}
use Rattle.mesh_geometry.proofs.QuadTurns.{joined_all}
use Rattle.mesh_geometry.proofs.GridPoints.{grid_exactly}
use Rattle.vulkan_chapter.specs.Members.{Member}
use Rattle.vulkan_chapter.specs.Between.{NumberedLine, BandFilled}
use Rattle.vulkan_chapter.specs.Quads.{OnLines, OnEdgeOrGrid, on_edge, on_grid, Halves, along_xz, along_yw, InnerRectangle, inner_side, PairDrawn, InGrid, first_of_pair, second_of_pair, between}
use Rattle.vulkan_chapter.proofs.Between.{same_turned, joins_same, member_joined, each_turned, filled_in, filled_turned, strip_joins, strip_fills}
use Rattle.vulkan_chapter.proofs.Outline.{whole_edge_lem}

-- edge k of the outline, whose edges have c 0 to c 3 segments
abbrev pub side_line : (ℕ → ℕ) → ℕ → NumberedLine
side_line c k = record { segments = c k; vertex = outline_on c k }

-- ---- where the vertices lie
module _ (e : ℕ → Run) (rows columns : Run) (good : (k : ℕ) → GoodRun (e k)) where
  abbrev m : ℕ
  m = rows.c

  abbrev n : ℕ
  n = columns.c

  abbrev c : ℕ → ℕ
  c = segments e

  abbrev ps : List Point
  ps = quad_patch (e 0) (e 1) (e 2) (e 3) rows columns

  listed : GridPoints e rows columns ps
  listed = (grid_exactly e rows columns (λ k i l. good_to (good k) i (omega arith)) ps).0 refl

  pub outer : (k i : ℕ) → k < 4 → i ≤ (e k).c → OnEdge square k ((e k).q i) (at ps (outline_on c k i))
  outer = whole_edge_lem square e good ps listed.outer

  pub on_lines : OnLines m n rows.q columns.q (grid_on c n) (at ps)
  on_lines = record {
    horizontal = λ r s a b u v. ap (λ (p : Point). p.v) (listed.inner r s a b u v);
    vertical = λ r s a b u v. ap (λ (p : Point). p.u) (listed.inner r s a b u v);
  }

  -- ---- no other vertex
  in_outline : (v : ℕ) → v < sum c 4 → OnEdgeOrGrid m n (side_line c) (grid_on c n) v
  in_outline v h =
      let s = located c 4 v h in
      on_edge s.k s.i s.list (omega (arith, s.within))
      (ring_before 0 (sum c 4) (sum c s.k + s.i) (sum_within c 4 s.k s.i s.list s.within) ∙ omega (arith, s.is))

  in_grid : (x : ℕ) → x < (m - 1) * (n - 1) → OnEdgeOrGrid m n (side_line c) (grid_on c n) (sum c 4 + x)
  in_grid x h =
      let w = n - 1 in
      let s = located (λ _. w) (m - 1) x (omega (arith, sum_constant w (m - 1))) in
      let r : suc s.k - 1 ≡ s.k = omega arith in
      on_grid (suc s.k) (suc s.i) (omega arith) (omega (arith, s.list)) (omega arith) (omega (arith, s.within))
      (rw r (omega (arith, s.is, sum_constant w s.k)))

  pub no_other : (v : ℕ) → v < length ps → OnEdgeOrGrid m n (side_line c) (grid_on c n) v
  no_other v h = elim (dec_le (suc v) (sum c 4)) [
    | yes l ↦ in_outline v l
    | no l ↦
        let z : sum c 4 + (v - sum c 4) ≡ v = omega arith in
        rw z at (in_grid (v - sum c 4) (omega (arith, listed.size)))
  ]

-- ---- the triangles between them
nearest_is : (c : ℕ → ℕ) (m n k : ℕ) → inner_side (grid_on c n) m n k ≡ record { segments = nearest_segments m n k; vertex = nearest_line c m n k }
nearest_is c m n zero = refl
nearest_is c m n (suc zero) = refl
nearest_is c m n (suc (suc zero)) = refl
nearest_is c m n (suc (suc (suc k))) = refl

module _ (c : ℕ → ℕ) (m n : ℕ) where
  abbrev S : ℕ → NumberedLine
  S = side_line c

  abbrev G : ℕ → ℕ → ℕ
  G = grid_on c n

  abbrev drawing : List Triangle
  drawing = quad 0 (c 0) (c 1) (c 2) (c 3) m n

  cell_pair : (r s : ℕ) → PairDrawn G r s (cell_on c n r s)
  cell_pair r s = record {
    one = _;
    other = _;
    one_drawn = Memᴰ.head refl;
    other_drawn = Memᴰ.tail (Memᴰ.head refl);
    halves = along_xz (Perm.refl _) (Perm.refl _);
  }

  inner_cell : (r s : ℕ) → r < m - 2 → s < n - 2 → InnerRectangle m n (r + 1) (s + 1)
  inner_cell r s h l = record { first_row = omega arith; last_row = omega arith; first_column = omega arith; last_column = omega arith }

  cell_in : (r s : ℕ) → r < m - 2 → s < n - 2 → All (InGrid m n S G) (cell_on c n (r + 1) (s + 1))
  unfolding cell_pair
  cell_in r s h l =
      more (first_of_pair (r + 1) (s + 1) _ (inner_cell r s h l) (cell_pair (r + 1) (s + 1)).halves)
      (more (second_of_pair (r + 1) (s + 1) _ (inner_cell r s h l) (cell_pair (r + 1) (s + 1)).halves) none)

  strip_in : (k : ℕ) → k < 4 → All (InGrid m n S G) (grid_strip c m n k)
  strip_in k h = all_more (λ t w. between k h (rw (nearest_is c m n k) w)) (strip_joins (S k) (record { segments = nearest_segments m n k; vertex = nearest_line c m n k }))

  all_in : All (InGrid m n S G) drawing
  all_in = rw (quad_exactly c m n) (all_append _ (joined_all _ _ _ strip_in) (joined_all _ _ _ (λ r h. joined_all _ _ _ (λ s l. cell_in r s h l))))

  strip_drawn : (k : ℕ) → k < 4 → (t : Triangle) → Member t (grid_strip c m n k) → Member t drawing
  strip_drawn k h t w = rw (quad_exactly c m n) (Memᴰ.append_left (cells_on c m n) (member_joined (grid_strip c m n) 4 k h w))

  all_filled : (k : ℕ) → k < 4 → BandFilled (S k) (inner_side G m n k) drawing
  all_filled k h = rw (nearest_is c m n k)
      (filled_in (strip_drawn k h) (strip_fills (S k) (record { segments = nearest_segments m n k; vertex = nearest_line c m n k })))

  cell_drawn : (r s : ℕ) → InnerRectangle m n r s → (t : Triangle) → Member t (cell_on c n r s) → Member t drawing
  cell_drawn r s i t w =
      let y : r - 1 + 1 ≡ r = omega (arith, i.first_row) in
      let z : s - 1 + 1 ≡ s = omega (arith, i.first_column) in
      let here : Member t (cell_on c n (r - 1 + 1) (s - 1 + 1)) = rw (y, z) w in
      rw (quad_exactly c m n)
      (Memᴰ.append_right (joined_lists (grid_strip c m n) 4)
      (member_joined (λ a. joined_lists (λ b. cell_on c n (a + 1) (b + 1)) (n - 2)) (m - 2) (r - 1) (omega (arith, i.first_row, i.last_row))
      (member_joined (λ b. cell_on c n (r - 1 + 1) (b + 1)) (n - 2) (s - 1) (omega (arith, i.first_column, i.last_column)) here)))

  module _ (b : Bool) where
    halves_same : {x y z w : ℕ} {s t s' t' : Triangle} → SameCorners s' s → SameCorners t' t → Halves x y z w s t → Halves x y z w s' t'
    halves_same f g (along_xz p q) = along_xz (Perm.trans f p) (Perm.trans g q)
    halves_same f g (along_yw p q) = along_yw (Perm.trans f p) (Perm.trans g q)

    grid_same : (s t : Triangle) → SameCorners s t → InGrid m n S G t → InGrid m n S G s
    grid_same s t same (first_of_pair r k u i h) = first_of_pair r k u i (halves_same same (Perm.refl _) h)
    grid_same s t same (second_of_pair r k u i h) = second_of_pair r k u i (halves_same (Perm.refl _) same h)
    grid_same s t same (between k h w) = between k h (joins_same same w)

    abbrev drawn : List Triangle
    drawn = map (turned b) drawing

    pub each_in : (t : Triangle) → Member t drawn → InGrid m n S G t
    each_in = each_turned b drawing grid_same all_in

    pub edges_filled : (k : ℕ) → k < 4 → BandFilled (S k) (inner_side G m n k) drawn
    edges_filled k h = filled_turned b (all_filled k h)

    pub pairs_drawn : (r s : ℕ) → InnerRectangle m n r s → PairDrawn G r s drawn
    pairs_drawn r s i =
        let p = cell_pair r s in
        record {
          one = turned b p.one;
          other = turned b p.other;
          one_drawn = Memᴰ.map (turned b) (cell_drawn r s i p.one p.one_drawn);
          other_drawn = Memᴰ.map (turned b) (cell_drawn r s i p.other p.other_drawn);
          halves = halves_same (same_turned b p.one) (same_turned b p.other) p.halves;
        }
