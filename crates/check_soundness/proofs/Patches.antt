-- A mesh that is sound for a patch and its settings covers the patch, and what is drawn for the patch is sound. Assumes nothing.
use Prim.Native.Nat.{ℕ, ◌%◌, ◌<◌}
use mathlib.Core.Path.{◌≡◌, refl}
use mathlib.Core.Bool.{Bool, false}
use mathlib.Core.List.{List}
use native.Mathlib.Omega.{arith}
use lib.ListN.{length, get_or}
use Rattle.level.specs.declared.Spacing.{Spacing}
use Rattle.level.specs.Top.{Top}
use Rattle.level.proofs.Valid.{segments_valid}
use Rattle.strip.specs.declared.triangle.Triangle.{Triangle}
use Rattle.strip.specs.Triangles.{indices}
use Rattle.strip.proofs.Strips.{indices_length}
use Rattle.patch.specs.declared.kinds.Patch.{Patch}
use Rattle.patch.specs.declared.kinds.Patch.TheVariants.{Triangles, Quads, Isolines}
use Rattle.patch.specs.declared.settings.Settings.{Settings}
use Rattle.patch.specs.Subdivide.{outer_levels, discards, subdivision_of}
use Rattle.patch.specs.Turn.{turn_asked}
use Rattle.mesh_geometry.specs.declared.Point.{Point}
use Rattle.mesh_geometry.specs.Cover.{missing, Cover}
use Rattle.mesh_geometry.specs.Edge.{GoodRun}
use Rattle.mesh_geometry.proofs.Lists.{All, all_at, all_map}
use Rattle.mesh_geometry.proofs.Words.{words_length}
use Rattle.mesh_geometry.specs.Words.{vertex_words}
use Rattle.patch_mesh.specs.Points.{points}
use Rattle.patch_mesh.specs.Primitives.{primitives, index_words}
use Rattle.patch_mesh.specs.Demand.{Surface, outer_runs, outline_of, twice_area_of, Demand}
use Rattle.mesh_geometry.specs.Faces.{faces_in}
use Rattle.mesh_geometry.proofs.ReadBack.{read_points_lem}
use Rattle.patch_mesh.proofs.Runs.{good_run}
use Rattle.patch_mesh.proofs.Cases.{Cases, drawn_cases}
use Rattle.patch_mesh.proofs.Demand.{not_discarded, demand}
use Rattle.mesh_geometry.specs.Held.{Spot, OffSides, HeldOnce}
use Rattle.mesh_geometry.specs.Domain.{Domain, triangle, square}
use Rattle.patch_mesh.specs.Inside.{Inside}
use Rattle.mesh_geometry.proofs.Members.{all_members}
use Rattle.patch_mesh.specs.InPatch.{InPatch, domain_of}
use Rattle.check_soundness.specs.Sound.{Sound, SoundFor, SoundWords}
use Rattle.check_soundness.proofs.Covers.{sound_covers, sound_once}
use Rattle.patch_mesh.proofs.InPatch.{drawn_in}

module _ (set : Settings) (top : Top set.top) where
  good_runs : (p : Patch) → All GoodRun (outer_runs set.spacing set.top p)
  good_runs p = all_map _ GoodRun (all_members (outer_levels p) (λ x m. good_run _ (segments_valid set.spacing set.top top x)))

  -- with the arguments of demand 3
  pub patch_sound_covers : (p : Patch) → Surface p → {ps : List Point} {ws : List ℕ} → SoundFor set p ps ws
      → Cover (turn_asked set) (twice_area_of p) (outline_of set p) ps (faces_in ps ws)
  patch_sound_covers (Triangles a b c i) f s = sound_covers triangle _ refl (good_runs (Triangles a b c i)) s
  patch_sound_covers (Quads a b c d i j) f s = sound_covers square _ refl (good_runs (Quads a b c d i j)) s
  patch_sound_covers (Isolines a b) f s = absurd f

  -- exactly one triangle of a sound mesh holds each spot that lies strictly inside the patch and on no side
  pub patch_sound_once : (p : Patch) {ps : List Point} {ws : List ℕ} → SoundFor set p ps ws
      → (z : Spot) → Inside p z → OffSides (faces_in ps ws) z → HeldOnce (turn_asked set) (faces_in ps ws) z
  patch_sound_once (Triangles a b c i) s = sound_once triangle _ refl (good_runs (Triangles a b c i)) s
  patch_sound_once (Quads a b c d i j) s = sound_once square _ refl (good_runs (Quads a b c d i j)) s
  patch_sound_once (Isolines a b) s = λ z i. absurd i

-- conversely, a mesh that covers any outline is sound, if its indices and points pass the tests
pub cover_sound : {k : Domain} {b : Bool} {area : ℕ} {rim ps : List Point} {ws : List ℕ}
    → length ws % 3 ≡ 0 → ((i : ℕ) → i < length ws → get_or ws i 0 < length ps) → All (InPatch k) ps
    → Cover b area rim ps (faces_in ps ws) → Sound k b rim ps ws
cover_sound n h i c = record {
  counts = n;
  numbered = h;
  inside = λ j l. all_at missing j l i;
  distinct = c.distinct;
  turned = c.turned;
  single = c.single;
  closed = c.closed;
  outlined = c.outlined;
}

pub demand_sound : {set : Settings} {p : Patch} {ps : List Point} {ws : List ℕ} → Demand set p ps ws → Surface p → set.point_mode ≡ false
    → length ws % 3 ≡ 0 → All (InPatch (domain_of p)) ps → SoundFor set p ps ws
demand_sound d f m n i = cover_sound n d.numbered i (d.cover f m)

-- the index words of triangles are three each
by_threes : (turn : Bool) (ts : List Triangle) → length (indices turn ts) % 3 ≡ 0
by_threes turn ts = omega (arith, indices_length turn ts)

thirds : (s : Spacing) (t : ℕ) → Cases s t (λ p c. Surface p → (turn : Bool) → length (primitives turn c) % 3 ≡ 0)
thirds s t = record {
  triangle = λ a b c i f turn. by_threes turn _;
  plain_triangle = λ a b c i h f turn. by_threes turn _;
  quad = λ a b c d i j f turn. by_threes turn _;
  plain_quad_lem = λ a b c d i j h f turn. by_threes turn _;
  lines = λ a b f. absurd f;
}

-- what is drawn as triangles is sound, for every triangle or quad patch that is not discarded and all settings with a good top level
pub drawn_sound : (set : Settings) → Top set.top → (p : Patch) → Surface p → discards p ≡ false → set.point_mode ≡ false
    → SoundFor set p (points (subdivision_of set p)) (index_words set (subdivision_of set p))
unfolding index_words
drawn_sound set top p f kept filled =
    demand_sound (demand set top p kept) f filled
    (rw (filled, not_discarded set.spacing set.top p kept) (drawn_cases (thirds set.spacing set.top) p f (turn_asked set)))
    (drawn_in set.spacing set.top top p)

-- the same for the words
pub drawn_words_sound : (set : Settings) → Top set.top → (p : Patch) → Surface p → discards p ≡ false → set.point_mode ≡ false
    → SoundWords set p (vertex_words (points (subdivision_of set p))) (index_words set (subdivision_of set p))
drawn_words_sound set top p f kept filled = record {
  thirds = omega (arith, words_length (points (subdivision_of set p)));
  mesh = rw read_points_lem (drawn_sound set top p f kept filled);
}
