-- When a call that draws with floats gives which answer. Assumes nothing.
use Rattle.std.specs.Prelude.{ℕ, ◌*◌, ◌≤◌, ◌<◌, ◌≡◌, List, Float, Result, Ok, Err}
use Rattle.level.specs.Top.{Top}
use Rattle.patch.specs.declared.kinds.Patch.{Patch}
use Rattle.patch.specs.declared.settings.Settings.{Settings}
use Rattle.measure.specs.Sizes.{points_of, indices_of}
use Rattle.measure.specs.declared.size.DrawnCounts.{DrawnCounts}
use Rattle.draw_floats.specs.declared.refusal.FloatsRefusal.{FloatsRefusal}
use Rattle.draw_floats.specs.declared.refusal.FloatsRefusal.TheVariants as floats
use Rattle.draw_floats.specs.Answers.{floats_code}
use Rattle.call_answers.specs.Replies.{two_words}
use Rattle.call_inputs.specs.Inputs.{patch_in, settings_in}
use Rattle.call_inputs.specs.Exactly.{CalledExactly}
use Rattle.draw_exports.specs.Exactly.{Discarded, Drawable}

-- when each answer is right, for lists of v, i and f words; each refusal for room presumes that the lists before it have room
abbrev pub FloatsMeans : Settings → Patch → ℕ → ℕ → ℕ → Result DrawnCounts FloatsRefusal → Type 0
FloatsMeans set p v i f (Err floats.BadTop) = Top set.top → ⊥
FloatsMeans set p v i f (Err floats.Discarded) = Discarded set p
FloatsMeans set p v i f (Err floats.NoRoomForVertices) = Drawable set p × (v < 3 * points_of set p)
FloatsMeans set p v i f (Err floats.NoRoomForIndices) = Drawable set p × (3 * points_of set p ≤ v) × (i < indices_of set p)
FloatsMeans set p v i f (Err floats.NoRoomForFloats) = Drawable set p × (3 * points_of set p ≤ v) × (indices_of set p ≤ i) × (f < 3 * points_of set p)
FloatsMeans set p v i f (Ok counts) =
    Drawable set p × (3 * points_of set p ≤ v) × (indices_of set p ≤ i) × (3 * points_of set p ≤ f) × (counts.points ≡ points_of set p) × (counts.indices ≡ indices_of set p)

-- each answer is given, by number and counts, exactly if it is right
abbrev pub FloatsExactly : List ℕ → List Float → ℕ → ℕ → ℕ → List ℕ → ℕ → Type 0
FloatsExactly bs xs v i f c' r = CalledExactly two_words floats_code bs (FloatsMeans (settings_in bs) (patch_in bs xs) v i f) c' r
