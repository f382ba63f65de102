-- 23.2, Tessellator Patch Discard.
-- Assumes nothing.
use Rattle.std.specs.Prelude.{ℕ, ◌≡◌, false, List, ◌↔◌, pos, T, Float}
use Rattle.std.specs.Float.{fin}
use Rattle.std.specs.Float.Ieee.{le, is_nan}
use Rattle.patch.specs.declared.kinds.Patch.{Patch}
use Rattle.patch.specs.Subdivide.{outer_levels}
use Rattle.answer_codes.specs.AnswerCode.{AnswerCode, refused}
use Rattle.vulkan_chapter.specs.Members.{Member}

-- a level that discards: zero or below, or a NaN
pub data Discarding (x : Float) : Type 0 where
  not_above_zero : T (le x (fin false 0 (pos 0))) → Discarding x
  not_a_number : T (is_nan x) → Discarding x

-- the patch is discarded: one of its relevant outer levels discards. `outer_levels` are all four levels of quads, the first three of triangles and
-- the first two of isolines; no inner level is among them
pub record PatchDiscarded (p : Patch) : Type 0 where
  pub level : Float
  pub relevant : Member level (outer_levels p)
  pub discarding : Discarding level

-- an operation that was asked to draw p answered t, and its list xs became xs': it answered 1, "discarded", exactly if the chapter discards
-- the patch, and then it wrote nothing
pub record DiscardedExactly (p : Patch) (t : AnswerCode) (xs xs' : List ℕ) : Type 0 where
  pub exactly : (t ≡ refused 1) ↔ PatchDiscarded p
  pub untouched : t ≡ refused 1 → xs' ≡ xs
