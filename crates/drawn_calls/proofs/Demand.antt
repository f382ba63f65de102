-- What holds for everything that calls from C draw, whichever calls they are: the third demand, the seam between any two patches, exactly
-- one triangle for each spot, and equal indices for patches that are alike. Assumes nothing.
use Prim.Native.Nat.{ℕ}
use mathlib.Core.Path.{◌≡◌, sym, ◌∙◌}
use mathlib.Core.List.{List}
use lib.Ieee.{Float}
use Rattle.patch.specs.declared.kinds.Patch.{Patch}
use Rattle.patch.specs.declared.settings.Settings.{Settings}
use Rattle.mesh_geometry.specs.declared.Point.{Point}
use Rattle.mesh_geometry.specs.Words.{read_points}
use Rattle.patch_mesh.specs.Demand.{Surface, Demand}
use Rattle.patch_mesh.specs.Inside.{SpotsOnce}
use Rattle.patch_mesh.specs.Kept.{Alike}
use Rattle.patch_mesh.proofs.Once.{demand_once}
use Rattle.patch_mesh.proofs.Kept.{kept_connections}
use Rattle.call_inputs.specs.Inputs.{patch_in, settings_in}
use Rattle.third_demand.specs.Seams.{Seam}
use Rattle.third_demand.specs.ThirdDemand.{ThirdDemand}
use Rattle.third_demand.proofs.AllPoints.{AllPoints, all_demand, seam_between, demand_of}
use Rattle.drawn_calls.specs.Written.{CallDrew, CallConnected, SomeCallDrew, call}
use Rattle.drawn_calls.specs.Edges.{EdgeIn, EdgesAlikeIn}
use Rattle.drawn_calls.proofs.Edges.{edge_in, alike_in}
use Rattle.drawn_calls.proofs.Words.{drew_words, connected_words, drew_all}

some_all : (set : Settings) (p : Patch) (ps : List Point) → SomeCallDrew set p ps → AllPoints set p ps
some_all set p ps (call bs xs pw d) = drew_all bs xs d

-- take any two outer edges with the same spacing byte, level and top byte, of one patch or of two, triangle or quad, drawn by any calls, in
-- point mode or not: the drawn points lie at the same places on both, q(0) to q(n), and these places mirror
pub call_seam : (bs bs' : List ℕ) (xs xs' : List Float) {pw pw' : List ℕ} → CallDrew bs xs pw → CallDrew bs' xs' pw' → (j k : ℕ) → EdgeIn bs j → EdgeIn bs' k
    → EdgesAlikeIn bs bs' xs xs' j k → Seam (settings_in bs) (patch_in bs xs) (patch_in bs' xs') j k (read_points pw) (read_points pw')
call_seam bs bs' xs xs' d d' j k e f a =
    seam_between (drew_all bs xs d) (drew_all bs' xs' d') j k (edge_in bs xs j e) (edge_in bs' xs' k f) (alike_in bs bs' xs xs' j k e f a)

module _ (bs : List ℕ) (xs : List Float) {pw iw : List ℕ} (d : CallDrew bs xs pw) (c : CallConnected bs xs iw) where
  demand_drawn : Demand (settings_in bs) (patch_in bs xs) (read_points pw) iw
  demand_drawn = rw (connected_words bs xs c).are (all_demand (drew_all bs xs d))

  -- the third demand for points and indices that calls drew for the same bytes and levels
  pub call_demand : Surface (patch_in bs xs) → ThirdDemand SomeCallDrew (settings_in bs) (patch_in bs xs) (read_points pw) iw
  call_demand f = demand_of SomeCallDrew some_all f (drew_all bs xs d) demand_drawn

  -- exactly one triangle holds each spot
  pub call_once : SpotsOnce (settings_in bs) (patch_in bs xs) (read_points pw) iw
  call_once = demand_once (settings_in bs) (drew_words bs xs d).top (patch_in bs xs) demand_drawn

-- patches that are alike get equal indices from any two calls
pub call_kept : (bs bs' : List ℕ) (xs xs' : List Float) {iw iw' : List ℕ} → Alike (settings_in bs) (settings_in bs') (patch_in bs xs) (patch_in bs' xs')
    → CallConnected bs xs iw → CallConnected bs' xs' iw' → iw ≡ iw'
call_kept bs bs' xs xs' a c c' =
    let w = connected_words bs xs c in
    let u = connected_words bs' xs' c' in
    w.are ∙ kept_connections (settings_in bs) (settings_in bs') w.top u.top (patch_in bs xs) (patch_in bs' xs') w.drawn u.drawn a ∙ sym u.are
