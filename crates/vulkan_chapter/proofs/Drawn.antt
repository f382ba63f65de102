-- Every patch that is not discarded meets the chapter, drawn with any settings whose top level is good.
-- Assumes nothing.
use Prim.Native.Nat.{ℕ, zero, suc, ◌+◌, ◌<◌}
use mathlib.Core.Path.{◌≡◌, refl, sym, ◌∙◌}
use mathlib.Core.Bool.{Bool, true, false, cond, true≢false, ◌&&◌}
use mathlib.Core.List.Perm
use mathlib.Core.List.{List, [], ◌∷◌, Perm}
use native.Mathlib.Omega.{arith}
use lib.ListN.{length}
use lib.Ieee.{Float}
use borrow.Author.Tests.{eq-eqb, eqb-true}
use Rattle.level.specs.declared.Spacing.{Spacing}
use Rattle.level.specs.declared.Spacing.TheVariants.{Equal}
use Rattle.level.specs.Top.{Top}
use Rattle.level.specs.Segments.{segments_of, inner_segments}
use Rattle.level.proofs.Valid.{segments_valid, inner_valid, inner_two}
use Rattle.edge.specs.Table.{table}
use Rattle.patch.specs.declared.kinds.Patch.{Patch}
use Rattle.patch.specs.declared.kinds.Patch.TheVariants.{Triangles, Quads, Isolines}
use Rattle.patch.specs.declared.subdivision.Subdivision.{Subdivision}
use Rattle.patch.specs.declared.subdivision.Subdivision.TheVariants.{PlainTriangle, Triangle, PlainQuad, Quad}
use Rattle.patch.specs.declared.settings.Settings.{Settings}
use Rattle.patch.specs.Every.{every}
use Rattle.patch.specs.Subdivide.{single, discards, cut, subdivision}
use Rattle.patch.specs.Turn.{turn_asked}
use Rattle.mesh_topology.specs.Sides.{sum}
use Rattle.mesh_topology.specs.GridStrips.{outline_on, grid_on}
use Rattle.mesh_topology.specs.RingVertices.{vertex_on}
use Rattle.mesh_topology.proofs.Ring.{ring_before}
use Rattle.mesh_topology.proofs.Sums.{sum_within}
use Rattle.mesh_topology.proofs.RingVertices.{vertex_before}
use Rattle.mesh_geometry.specs.Cover.{Face, missing}
use Rattle.mesh_geometry.specs.Domain.{triangle, square}
use Rattle.mesh_geometry.specs.Edge.{Run, GoodRun, ring}
use Rattle.mesh_geometry.specs.Segmented.{run}
use Rattle.mesh_geometry.specs.RingPoints.{segments}
use Rattle.mesh_geometry.specs.TrianglePoints.{triangle_place, triangle_corners}
use Rattle.mesh_geometry.specs.QuadPoints.{quad_place, quad_corners}
use Rattle.mesh_geometry.proofs.Members.{all_member, at_member}
use Rattle.patch_mesh.specs.Points.{points}
use Rattle.patch_mesh.specs.Primitives.{triangles, primitives, index_words}
use Rattle.mesh_geometry.specs.Words.{read_triangles}
use Rattle.patch_mesh.specs.Demand.{Surface, outline, Demand}
use Rattle.mesh_geometry.specs.Faces.{faces_in}
use Rattle.mesh_geometry.proofs.ReadBack.{read_triangles_lem}
use Rattle.patch_mesh.proofs.Runs.{good_run}
use Rattle.patch_mesh.proofs.Plain.{plain_outline}
use Rattle.patch_mesh.proofs.Demand.{not_discarded, demand}
use Rattle.patch_mesh.proofs.Once.{demand_once}
use Rattle.patch_mesh.proofs.Seams.{seam}
use Rattle.patch_mesh.proofs.InPatch.{drawn_in}
use Rattle.patch_mesh.proofs.Distinct.{points_distinct}
use Rattle.vulkan_chapter.specs.Members.{Member}
use Rattle.vulkan_chapter.specs.Winding.{winding_area, Ordered}
use Rattle.vulkan_chapter.specs.Between.{NumberedLine}
use Rattle.vulkan_chapter.specs.Triangles.{AllOne3, TriangleVertices, TriangleFaces}
use Rattle.vulkan_chapter.specs.Quads.{AllOne4, along_xz, QuadVertices, QuadFaces}
use Rattle.vulkan_chapter.specs.Isolines.{EachOnce}
use Rattle.vulkan_chapter.specs.Chapter.{Numbering, edge_number, outline_by, VerticesOf, PrimitivesOf, Chapter}
use Rattle.vulkan_chapter.proofs.Spacing.{our_edges, subdivides}
use Rattle.vulkan_chapter.proofs.Discard.{kept}
use Rattle.vulkan_chapter.proofs.Winding.{ordered}
use Rattle.vulkan_chapter.proofs.Between.{same_turned}
use Rattle.vulkan_chapter.proofs.Outline.{ring_whole_edge}
use Rattle.vulkan_chapter.proofs.Triangles as tri
use Rattle.vulkan_chapter.proofs.Quads as quads
use Rattle.vulkan_chapter.proofs.Isolines.{isoline, line_segments, line_vertices, dots_length, dot_drawn}

module _ (set : Settings) (top : Top set.top) where
  abbrev s : Spacing
  s = set.spacing

  abbrev t : ℕ
  t = set.top

  outer : (x : Float) → GoodRun (run (segments_of s t x))
  outer x = good_run (segments_of s t x) (segments_valid s t top x)

  inner : (x : Float) → GoodRun (run (inner_segments s t x))
  inner x = good_run (inner_segments s t x) (inner_valid s t top x)

  -- a level that gives one segment
  is_one : (x : Float) → single s t x ≡ true → (segments_of s t x).count ≡ 1
  is_one x h = eqb-true (segments_of s t x).count 1 h

  one_is : (x : Float) → (segments_of s t x).count ≡ 1 → single s t x ≡ true
  one_is x h = eq-eqb (segments_of s t x).count 1 h

  -- the first of a list, and the rest
  both : (a b : Bool) → (a && b) ≡ true → (a ≡ true) × (b ≡ true)
  both true b h = (refl, h)
  both false b h = absurd (true≢false (sym h))

  head_tail : (x : Float) (xs : List Float) → every (single s t) (x ∷ xs) ≡ true → ((segments_of s t x).count ≡ 1) × (every (single s t) xs ≡ true)
  unfolding every
  head_tail x xs h = let w = both (single s t x) (every (single s t) xs) h in (is_one x w.0, w.1)

  -- ---- triangles
  module _ (a b c i : Float) where
    abbrev levels3 : List Float
    levels3 = a ∷ b ∷ c ∷ i ∷ []

    abbrev e3 : ℕ → Run
    e3 = edge_number our_edges set (Triangles a b c i)

    abbrev own : Run
    own = run (segments_of s t i)

    abbrev inside : Run
    inside = run (inner_segments s t i)

    abbrev rings : ℕ → ℕ → NumberedLine
    rings = tri.ring_line (segments e3) inside.c

    abbrev cut3 : Bool → Subdivision
    cut3 y = cond y PlainTriangle (Triangle (segments_of s t a) (segments_of s t b) (segments_of s t c) (inner_segments s t i))

    ones3 : every (single s t) levels3 ≡ true → AllOne3 e3 own
    ones3 h =
        let u = head_tail a (b ∷ c ∷ i ∷ []) h in
        let v = head_tail b (c ∷ i ∷ []) u.1 in
        let w = head_tail c (i ∷ []) v.1 in
        let x = head_tail i [] w.1 in
        (go u.0 v.0 w.0, x.0)
      where
        go : (e3 0).c ≡ 1 → (e3 1).c ≡ 1 → (e3 2).c ≡ 1 → (k : ℕ) → k < 3 → (e3 k).c ≡ 1
        go f g h zero l = f
        go f g h (suc zero) l = g
        go f g h (suc (suc zero)) l = h
        go f g h (suc (suc (suc k))) l = absurd (omega arith)

    every3 : AllOne3 e3 own → every (single s t) levels3 ≡ true
    unfolding every
    every3 h = rw (one_is a (h.0 0 (omega arith)), one_is b (h.0 1 (omega arith)), one_is c (h.0 2 (omega arith)), one_is i h.1)

    good3 : (k : ℕ) → GoodRun (e3 k)
    good3 k = outer _

    triangle_vertices : (y : Bool) → every (single s t) levels3 ≡ y → TriangleVertices rings e3 own inside (points (cut3 y))
    unfolding points sum ring table
    triangle_vertices true h = tri.vertices_lem {ring = rings} {e = e3} {own = own} {inside = inside} {ps = points (cut3 true)}
        (λ k l. refl)
        (ring_whole_edge triangle e3 good3 triangle_corners (sym (plain_outline s t top (Triangles a b c i) (i ∷ []) h triangle_place)))
        (λ _. refl)
        (λ no. absurd (no (ones3 h)))
        (λ no. absurd (no (ones3 h)))
    triangle_vertices false h = tri.vertices_lem {ring = rings} {e = e3} {own = own} {inside = inside} {ps = points (cut3 false)}
        (λ k l. refl)
        (tri.listed e3 inside good3 (inner i) (inner_two s t top i)).outer
        (λ one. absurd (true≢false (sym (every3 one) ∙ h)))
        (λ _. tri.concentric e3 inside good3 (inner i) (inner_two s t top i))
        (λ _. tri.no_other e3 inside good3 (inner i) (inner_two s t top i))

    -- the numbers of the three corners
    corner3 : AllOne3 e3 own → (k x : ℕ) → k < 3 → sum (segments e3) k ≡ x → x ≡ vertex_on (segments e3) inside.c 0 k 0
    unfolding sum
    corner3 one k x h e = sym (vertex_before (segments e3) inside.c 0 k 0 h (omega (arith, one.0 k h)) ∙ omega arith)

    corners3 : AllOne3 e3 own → Perm (0 ∷ 1 ∷ 2 ∷ []) ((rings 0 0).vertex 0 ∷ (rings 0 1).vertex 0 ∷ (rings 0 2).vertex 0 ∷ [])
    unfolding sum
    corners3 one =
        let f = one.0 0 (omega arith) in
        let g = one.0 1 (omega arith) in
        same (corner3 one 0 0 (omega arith) refl) (corner3 one 1 1 (omega arith) (omega arith)) (corner3 one 2 2 (omega arith) (omega arith))
      where
        same : {x y z : ℕ} → 0 ≡ x → 1 ≡ y → 2 ≡ z → Perm (0 ∷ 1 ∷ 2 ∷ []) (x ∷ y ∷ z ∷ [])
        same f g h = rw (← f, ← g, ← h) (Perm.refl _)

    triangle_faces : (turn y : Bool) → every (single s t) levels3 ≡ y → TriangleFaces rings e3 own inside (read_triangles (primitives turn (cut3 y)))
    unfolding triangles
    triangle_faces turn true h = rw (read_triangles_lem turn (triangles PlainTriangle)) (record {
      single = λ one. record { triangle = _; only = refl; corners = Perm.trans (same_turned turn _) (corners3 one) };
      each = λ no. absurd (no (ones3 h));
      filled = λ no. absurd (no (ones3 h));
      innermost = λ no. absurd (no (ones3 h));
    })
    triangle_faces turn false h = rw (read_triangles_lem turn (triangles (cut3 false))) (record {
      single = λ one. absurd (true≢false (sym (every3 one) ∙ h));
      each = λ _. tri.each_in (segments e3) inside.c (inner_two s t top i) turn;
      filled = λ _. tri.rings_filled (segments e3) inside.c (inner_two s t top i) turn;
      innermost = λ _. tri.innermost_drawn (segments e3) inside.c (inner_two s t top i) turn;
    })

  -- ---- quads
  module _ (a b c d i j : Float) where
    abbrev levels4 : List Float
    levels4 = a ∷ b ∷ c ∷ d ∷ i ∷ j ∷ []

    abbrev e4 : ℕ → Run
    e4 = edge_number our_edges set (Quads a b c d i j)

    abbrev own0 : Run
    own0 = run (segments_of s t i)

    abbrev own1 : Run
    own1 = run (segments_of s t j)

    abbrev rows : Run
    rows = run (inner_segments s t i)

    abbrev columns : Run
    columns = run (inner_segments s t j)

    abbrev sides : ℕ → NumberedLine
    sides = quads.side_line (segments e4)

    abbrev grid : ℕ → ℕ → ℕ
    grid = grid_on (segments e4) columns.c

    abbrev cut4 : Bool → Subdivision
    cut4 y = cond y PlainQuad (Quad (segments_of s t a) (segments_of s t b) (segments_of s t c) (segments_of s t d) (inner_segments s t i) (inner_segments s t j))

    ones4 : every (single s t) levels4 ≡ true → AllOne4 e4 own0 own1
    ones4 h =
        let u = head_tail a (b ∷ c ∷ d ∷ i ∷ j ∷ []) h in
        let v = head_tail b (c ∷ d ∷ i ∷ j ∷ []) u.1 in
        let w = head_tail c (d ∷ i ∷ j ∷ []) v.1 in
        let x = head_tail d (i ∷ j ∷ []) w.1 in
        let y = head_tail i (j ∷ []) x.1 in
        let z = head_tail j [] y.1 in
        (go u.0 v.0 w.0 x.0, y.0, z.0)
      where
        go : (e4 0).c ≡ 1 → (e4 1).c ≡ 1 → (e4 2).c ≡ 1 → (e4 3).c ≡ 1 → (k : ℕ) → k < 4 → (e4 k).c ≡ 1
        go f g h m zero l = f
        go f g h m (suc zero) l = g
        go f g h m (suc (suc zero)) l = h
        go f g h m (suc (suc (suc zero))) l = m
        go f g h m (suc (suc (suc (suc k)))) l = absurd (omega arith)

    every4 : AllOne4 e4 own0 own1 → every (single s t) levels4 ≡ true
    unfolding every
    every4 h = rw (one_is a (h.0 0 (omega arith)), one_is b (h.0 1 (omega arith)), one_is c (h.0 2 (omega arith)), one_is d (h.0 3 (omega arith)), one_is i h.1, one_is j h.2)

    good4 : (k : ℕ) → GoodRun (e4 k)
    good4 k = outer _

    quad_vertices : (y : Bool) → every (single s t) levels4 ≡ y → QuadVertices sides grid e4 own0 own1 rows columns (points (cut4 y))
    unfolding points sum ring table
    quad_vertices true h = record {
      outer_segments_lem = λ k l. refl;
      outer = ring_whole_edge square e4 good4 quad_corners (sym (plain_outline s t top (Quads a b c d i j) (i ∷ j ∷ []) h quad_place));
      single = λ _. refl;
      lines = λ no. absurd (no (ones4 h));
      no_other = λ no. absurd (no (ones4 h));
    }
    quad_vertices false h = record {
      outer_segments_lem = λ k l. refl;
      outer = quads.outer e4 rows columns good4;
      single = λ one. absurd (true≢false (sym (every4 one) ∙ h));
      lines = λ _. quads.on_lines e4 rows columns good4;
      no_other = λ _. quads.no_other e4 rows columns good4;
    }

    -- the numbers of the four corners
    corner4 : AllOne4 e4 own0 own1 → (k x : ℕ) → k < 4 → sum (segments e4) k ≡ x → x ≡ outline_on (segments e4) k 0
    corner4 one k x h e =
        sym (ring_before 0 (sum (segments e4) 4) (sum (segments e4) k + 0) (sum_within (segments e4) 4 k 0 h (omega (arith, one.0 k h))) ∙ omega arith)

    quad_faces : (turn y : Bool) → every (single s t) levels4 ≡ y → QuadFaces sides grid e4 own0 own1 rows columns (read_triangles (primitives turn (cut4 y)))
    unfolding triangles sum
    quad_faces turn true h = rw (read_triangles_lem turn (triangles PlainQuad)) (record {
      single = λ one.
          let f = one.0 0 (omega arith) in
          let g = one.0 1 (omega arith) in
          let m = one.0 2 (omega arith) in
          record {
            one = _;
            other = _;
            only = refl;
            halves = rw (
              ← corner4 one 0 0 (omega arith) refl,
              ← corner4 one 1 1 (omega arith) (omega arith),
              ← corner4 one 2 2 (omega arith) (omega arith),
              ← corner4 one 3 3 (omega arith) (omega arith),
            )
                (along_xz (same_turned turn _) (same_turned turn _));
          };
      pairs = λ no. absurd (no (ones4 h));
      each = λ no. absurd (no (ones4 h));
      filled = λ no. absurd (no (ones4 h));
    })
    quad_faces turn false h = rw (read_triangles_lem turn (triangles (cut4 false))) (record {
      single = λ one. absurd (true≢false (sym (every4 one) ∙ h));
      pairs = λ _. quads.pairs_drawn (segments e4) rows.c columns.c turn;
      each = λ _. quads.each_in (segments e4) rows.c columns.c turn;
      filled = λ _. quads.edges_filled (segments e4) rows.c columns.c turn;
    })

  -- ---- every patch
  -- the numbers of our vertices, by kind of patch
  abbrev numbers : Patch → Numbering
  numbers (Triangles a b c i) = record { ring = rings a b c i; side = λ k. rings a b c i 0 k; grid = λ r c. 0; line = λ r. rings a b c i 0 r }
  numbers (Quads a b c d i j) = record { ring = λ _ k. sides a b c d i j k; side = sides a b c d i j; grid = grid a b c d i j; line = sides a b c d i j }
  numbers (Isolines a b) =
      let n = (segments_of s t b).count in
      record { ring = λ _ r. isoline n r; side = isoline n; grid = λ r c. 0; line = isoline n }

  vertices : (p : Patch) → VerticesOf our_edges set (numbers p) p (points (cut s t p))
  unfolding points
  vertices (Triangles a b c i) = triangle_vertices a b c i (every (single s t) (levels3 a b c i)) refl
  vertices (Quads a b c d i j) = quad_vertices a b c d i j (every (single s t) (levels4 a b c d i j)) refl
  vertices (Isolines a b) = line_vertices (run (segments_of Equal t a)) (run (segments_of s t b))

  primitives_of : (turn : Bool) (p : Patch) → PrimitivesOf our_edges set (numbers p) p (primitives turn (cut s t p))
  primitives_of turn (Triangles a b c i) = triangle_faces a b c i turn (every (single s t) (levels3 a b c i)) refl
  primitives_of turn (Quads a b c d i j) = quad_faces a b c d i j turn (every (single s t) (levels4 a b c d i j)) refl
  primitives_of turn (Isolines a b) = line_segments (segments_of Equal t a).count (segments_of s t b).count

  -- our outline is the chapter's
  outline_is : (p : Patch) → outline_by our_edges set p ≡ outline s t p
  outline_is (Triangles a b c i) = refl
  outline_is (Quads a b c d i j) = refl
  outline_is (Isolines a b) = refl

  -- ---- the chapter
  module _ (p : Patch) (drawn : discards p ≡ false) where
    abbrev cuts : Subdivision
    cuts = subdivision s t p

    vertices_drawn : VerticesOf our_edges set (numbers p) p (points cuts)
    vertices_drawn = rw (not_discarded s t p drawn) (vertices p)

    primitives_drawn : set.point_mode ≡ false → PrimitivesOf our_edges set (numbers p) p (index_words set cuts)
    unfolding index_words
    primitives_drawn m = rw (not_discarded s t p drawn, m) (primitives_of (turn_asked set) p)

    point_mode : set.point_mode ≡ true → EachOnce (points cuts) (index_words set cuts)
    unfolding index_words
    point_mode m = rw m (record {
      count = dots_length (length (points cuts));
      each = dot_drawn (length (points cuts));
      distinct = points_distinct s t top p drawn;
    })

    winding_drawn : Demand set p (points cuts) (index_words set cuts) → Surface p → set.point_mode ≡ false → (f : Face)
        → Member f (faces_in (points cuts) (index_words set cuts)) → Ordered set.order set.origin (winding_area f)
    winding_drawn d surface m f h =
        let none : Face = record { p = missing; q = missing; r = missing } in
        let w = at_member none h in
        rw (← w.2) (ordered set.order set.origin _ ((d.cover surface m).turned w.0 w.1))

    pub chapter : Chapter our_edges set p (points cuts) (index_words set cuts)
    chapter =
        let d = demand set top p drawn in
        record {
          domain = λ v m. all_member (drawn_in s t top p) m;
          numbered = d.numbered;
          discard = kept p drawn;
          spacing = subdivides;
          outer_edges = seam d;
          winding = winding_drawn d;
          numbering = numbers p;
          vertices = vertices_drawn;
          primitives = primitives_drawn;
          cover = λ f m. rw (outline_is p) (d.cover f m);
          once = demand_once set top p d;
          point_mode = point_mode;
        }
