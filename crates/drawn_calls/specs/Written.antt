-- The points and the indices that a call from C drew, read from the lists that it left. Assumes nothing.
use Rattle.std.specs.Prelude.{ℕ, ◌-◌, ◌*◌, List, map, Float, get_or, take, drop}
use Rattle.patch.specs.declared.kinds.Patch.{Patch}
use Rattle.patch.specs.declared.settings.Settings.{Settings}
use Rattle.mesh_geometry.specs.declared.Point.{Point}
use Rattle.mesh_geometry.specs.Words.{read_points}
use Rattle.call_inputs.specs.Inputs.{patch_in, settings_in}
use Rattle.share_state.specs.SharedList.{first_free}
use Rattle.share_answers.specs.Answers.{points_held}
use Rattle.share_words.specs.Words.{state_in, designer_of}
use Rattle.share_words.specs.Memory.{Memory}
use Rattle.draw_floats.specs.Draws.{MeshLists}
use Rattle.draw_exports.specs.Calls.{PointsCalled, IndicesCalled}
use Rattle.float_exports.specs.Calls.{FloatsCalled}
use Rattle.share_exports.specs.Calls.{DrawCalled}

-- a call with the setting bytes bs and the levels xs answered 0, and these are the words of all points that it drew: as many as its count
-- says, at the front of the vertex list, or on shared lists from the first free word of the designer's part on
pub data CallDrew (bs : List ℕ) (xs : List Float) : List ℕ → Type 0 where
  points : (v v' c' : List ℕ) → PointsCalled bs xs v v' c' 0 → CallDrew bs xs (take (3 * get_or c' 0 0) v')
  with_floats : (before after : MeshLists) (c' : List ℕ) → FloatsCalled bs xs before after c' 0 → CallDrew bs xs (take (3 * get_or c' 0 0) after.vertices)
  shared : (d : ℕ) (before after : Memory) (c' : List ℕ) → DrawCalled bs xs d before after c' 0
      → CallDrew bs xs (take (3 * get_or c' 0 0) (drop (first_free (designer_of d) (state_in before.words).vertices) after.vertices))

-- the same for the indices; on shared lists, each less the number of points that the part held before
pub data CallConnected (bs : List ℕ) (xs : List Float) : List ℕ → Type 0 where
  indices : (i i' c' : List ℕ) → IndicesCalled bs xs i i' c' 0 → CallConnected bs xs (take (get_or c' 0 0) i')
  with_floats : (before after : MeshLists) (c' : List ℕ) → FloatsCalled bs xs before after c' 0 → CallConnected bs xs (take (get_or c' 1 0) after.indices)
  shared : (d : ℕ) (before after : Memory) (c' : List ℕ) → DrawCalled bs xs d before after c' 0
      → CallConnected bs xs
      (map (λ x. x - points_held (designer_of d) (state_in before.words)) (take (get_or c' 1 0) (drop (first_free (designer_of d) (state_in before.words).indices) after.indices)))

-- ps are all points that some call drew for these settings and this patch
pub data SomeCallDrew : Settings → Patch → List Point → Type 0 where
  call : (bs : List ℕ) (xs : List Float) (pw : List ℕ) → CallDrew bs xs pw → SomeCallDrew (settings_in bs) (patch_in bs xs) (read_points pw)
