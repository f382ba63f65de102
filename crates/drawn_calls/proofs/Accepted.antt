-- The call that checks a mesh accepts what the calls drew as triangles, and two empty lists if they answered "discarded". Assumes nothing.
use Prim.Native.Nat.{ℕ}
use mathlib.Core.Path.{◌≡◌, refl}
use mathlib.Core.Bool.{false}
use mathlib.Core.List.{List, []}
use mathlib.Core.Logic.{inl, inr}
use lib.Ieee.{Float}
use Rattle.level.specs.Top.{Top}
use Rattle.patch.specs.declared.kinds.Patch.{Patch}
use Rattle.patch.specs.declared.settings.Settings.{Settings}
use Rattle.patch.specs.Subdivide.{discards}
use Rattle.patch_mesh.specs.Demand.{Surface}
use Rattle.job_fields.specs.Settings.{choices, AllBelow}
use Rattle.tessellate.specs.Draws.{point_words, connection_words}
use Rattle.check_soundness.proofs.Patches.{drawn_words_sound}
use Rattle.call_answers.specs.Replies.{two_words, Says}
use Rattle.call_inputs.specs.Inputs.{patch_in, settings_in}
use Rattle.draw_exports.specs.Calls.{PointsCalled}
use Rattle.check_exports.specs.Founds.{check_says}
use Rattle.check_exports.proofs.Exactly.{check_call_exactly}
use Rattle.vulkan_chapter.proofs.Discard.{discards_exactly}
use Rattle.drawn_calls.specs.Written.{CallDrew, CallConnected}
use Rattle.drawn_calls.specs.Edges.{TrianglesIn}
use Rattle.drawn_calls.proofs.Edges.{surface_in, filled_in}
use Rattle.drawn_calls.proofs.Words.{drew_words, connected_words}
use Rattle.drawn_calls.proofs.Chapter.{points_call_discards}

module _ (bs : List ℕ) (xs : List Float) (asked : TrianglesIn bs) where
  abbrev set : Settings
  set = settings_in bs

  abbrev p : Patch
  p = patch_in bs xs

  surface : Surface p
  surface = surface_in bs xs asked.kind

  filled : set.point_mode ≡ false
  filled = filled_in bs asked.switch

  -- the words of the patch are accepted
  words_accepted : Top set.top → discards p ≡ false → AllBelow choices bs 0 → {pw iw : List ℕ} → pw ≡ point_words set p → iw ≡ connection_words set p → {c' : List ℕ} {r : ℕ}
      → Says two_words (check_says bs xs pw iw) c' r → r ≡ 0
  words_accepted top drawn below {pw} {iw} e f s =
      (check_call_exactly bs xs pw iw s).accepted.1
      (below, inr (record { asked = record { top = top; surface = surface; filled = filled }; kept = drawn }, rw (e, f) (drawn_words_sound set top p surface drawn filled)))

  -- points and indices that any calls drew for the same bytes and levels
  pub call_accepted : {pw iw : List ℕ} → CallDrew bs xs pw → CallConnected bs xs iw → {w' : List ℕ} {r : ℕ} → Says two_words (check_says bs xs pw iw) w' r → r ≡ 0
  call_accepted d c =
      let w = drew_words bs xs d in
      words_accepted w.top w.drawn w.known w.are (connected_words bs xs c).are

  -- if a call answered that the patch is discarded, two empty lists are right
  pub discarded_empty : {v v' c' : List ℕ} → PointsCalled bs xs v v' c' 1 → {w' : List ℕ} {r : ℕ} → Says two_words (check_says bs xs [] []) w' r → r ≡ 0
  discarded_empty d s =
      let w = (points_call_discards bs xs d).exactly.0 refl in
      (check_call_exactly bs xs [] [] s).accepted.1
      (w.known, inl (record { top = w.top; surface = surface; filled = filled }, (discards_exactly p).1 w.patch, (refl, refl)))
