-- When a call that measures or draws gives which answer. Assumes nothing.
use Rattle.std.specs.Prelude.{ℕ, ◌*◌, ◌≤◌, ◌<◌, ◌≡◌, true, false, List, ◌++◌, Float, Result, Ok, Err}
use Rattle.level.specs.Top.{Top}
use Rattle.patch.specs.declared.kinds.Patch.{Patch}
use Rattle.patch.specs.declared.settings.Settings.{Settings}
use Rattle.patch.specs.Subdivide.{discards}
use Rattle.level_clamps.specs.Clamps.{clamps_of}
use Rattle.measure.specs.declared.cut.NotDrawn.{NotDrawn}
use Rattle.measure.specs.declared.cut.NotDrawn.TheVariants as reason
use Rattle.measure.specs.declared.size.Size.{Size}
use Rattle.tessellate.specs.declared.refusal.DrawRefusal.{DrawRefusal}
use Rattle.tessellate.specs.declared.refusal.DrawRefusal.TheVariants as refusal
use Rattle.measure.specs.Sizes.{size_code, points_of, indices_of}
use Rattle.tessellate.specs.Answers.{points_code, indices_code}
use Rattle.call_answers.specs.Clamps.{clamp_bytes}
use Rattle.call_answers.specs.Replies.{two_words, one_word}
use Rattle.call_inputs.specs.Inputs.{patch_in, settings_in}
use Rattle.call_inputs.specs.Exactly.{CalledExactly}

-- the top level is good, and the patch is discarded, or is not
abbrev pub Discarded : Settings → Patch → Type 0
Discarded set p = Top set.top × (discards p ≡ true)

abbrev pub Drawable : Settings → Patch → Type 0
Drawable set p = Top set.top × (discards p ≡ false)

-- when each answer of measuring is right
abbrev pub SizeMeans : Settings → Patch → Result Size NotDrawn → Type 0
SizeMeans set p (Err reason.BadTop) = Top set.top → ⊥
SizeMeans set p (Err reason.Discarded) = Discarded set p
SizeMeans set p (Ok size) = Drawable set p × (size.points ≡ points_of set p) × (size.indices ≡ indices_of set p) × (size.clamps ≡ clamps_of set.spacing set.top p)

-- when each answer of drawing the points into a list of v words is right
abbrev pub PointsMeans : Settings → Patch → ℕ → Result ℕ DrawRefusal → Type 0
PointsMeans set p v (Err refusal.BadTop) = Top set.top → ⊥
PointsMeans set p v (Err refusal.Discarded) = Discarded set p
PointsMeans set p v (Err refusal.NoRoomForVertices) = Drawable set p × (v < 3 * points_of set p)
PointsMeans set p v (Err refusal.NoRoomForIndices) = ⊥
PointsMeans set p v (Ok n) = Drawable set p × (3 * points_of set p ≤ v) × (n ≡ points_of set p)

-- when each answer of drawing the indices into a list of i words is right
abbrev pub IndicesMeans : Settings → Patch → ℕ → Result ℕ DrawRefusal → Type 0
IndicesMeans set p i (Err refusal.BadTop) = Top set.top → ⊥
IndicesMeans set p i (Err refusal.Discarded) = Discarded set p
IndicesMeans set p i (Err refusal.NoRoomForVertices) = ⊥
IndicesMeans set p i (Err refusal.NoRoomForIndices) = Drawable set p × (i < indices_of set p)
IndicesMeans set p i (Ok n) = Drawable set p × (indices_of set p ≤ i) × (n ≡ indices_of set p)

-- all that measuring writes: two counts, or the place of a setting, and six clamps
abbrev pub measure_words : List ℕ → List ℕ
measure_words vs = two_words vs ++ clamp_bytes vs

-- each answer is given, by number and words, exactly if it is right; c' are the counts at exit and k' the clamps
abbrev pub MeasureExactly : List ℕ → List Float → List ℕ → List ℕ → ℕ → Type 0
MeasureExactly bs xs c' k' r = CalledExactly measure_words size_code bs (SizeMeans (settings_in bs) (patch_in bs xs)) (c' ++ k') r

abbrev pub PointsExactly : List ℕ → List Float → ℕ → List ℕ → ℕ → Type 0
PointsExactly bs xs v c' r = CalledExactly one_word points_code bs (PointsMeans (settings_in bs) (patch_in bs xs) v) c' r

abbrev pub IndicesExactly : List ℕ → List Float → ℕ → List ℕ → ℕ → Type 0
IndicesExactly bs xs i c' r = CalledExactly one_word indices_code bs (IndicesMeans (settings_in bs) (patch_in bs xs) i) c' r
