-- The numbers that a call can answer with. Assumes nothing.
use Prim.Native.Nat.{ℕ, ◌*◌}
use mathlib.Core.Path.{refl}
use mathlib.Core.Bool.{Bool, true, false, cond}
use mathlib.Core.List.{List, [], ◌∷◌}
use mathlib.Core.Logic.{inl, inr}
use lib.Dec.{ltb}
use lib.Ieee.{Float}
use Rattle.level.specs.Top.{is_top}
use Rattle.patch.specs.Subdivide.{discards}
use Rattle.job_fields.specs.Settings.{first_unknown_setting}
use Rattle.measure.specs.Sizes.{points_of, indices_of, measure_verdict}
use Rattle.tessellate.specs.Answers.{list_verdict}
use Rattle.answer_codes.specs.AnswerCode.{AnswerCode}
use Rattle.call_answers.specs.Replies.{unknown_setting, bad_top, OneOf}
use Rattle.call_inputs.specs.Inputs.{top_in, patch_in, settings_in}
use Rattle.call_inputs.specs.Asked.{known}
use Rattle.draw_exports.specs.Calls.{points_say, indices_say, measure_says}

-- one of two answers
either : (ns : List ℕ) (b : Bool) (s t : AnswerCode) → OneOf ns s.number → OneOf ns t.number → OneOf ns (cond b s t).number
either ns true s t h k = h
either ns false s t h k = k

module _ (bs : List ℕ) (xs : List Float) where
  draw_number : (short need have count : ℕ)
      → OneOf (0 ∷ 1 ∷ short ∷ 8 ∷ 11 ∷ []) (known bs bad_top unknown_setting (list_verdict (settings_in bs) (patch_in bs xs) short need have count)).number
  unfolding known list_verdict
  draw_number short need have count =
      let of = either (0 ∷ 1 ∷ short ∷ 8 ∷ 11 ∷ []) in
      let eleven = inr (inr (inr (inr (inl refl)))) in
      of (is_top (top_in bs)) _ _
      (of (ltb (first_unknown_setting bs 0) 5) _ _ (inr (inr (inr (inl refl))))
      (of (is_top (top_in bs)) _ _ (of (discards (patch_in bs xs)) _ _ (inr (inl refl)) (of (ltb have need) _ _ (inr (inr (inl refl))) (inl refl))) eleven))
      eleven

  pub points_number : (v : ℕ) → OneOf (0 ∷ 1 ∷ 3 ∷ 8 ∷ 11 ∷ []) (points_say bs xs v).number
  points_number v = draw_number 3 (3 * points_of (settings_in bs) (patch_in bs xs)) v (points_of (settings_in bs) (patch_in bs xs))

  pub indices_number : (i : ℕ) → OneOf (0 ∷ 1 ∷ 4 ∷ 8 ∷ 11 ∷ []) (indices_say bs xs i).number
  indices_number i = draw_number 4 (indices_of (settings_in bs) (patch_in bs xs)) i (indices_of (settings_in bs) (patch_in bs xs))

  pub measure_number : OneOf (0 ∷ 1 ∷ 8 ∷ 11 ∷ []) (measure_says bs xs).number
  unfolding known measure_verdict
  measure_number =
      let of = either (0 ∷ 1 ∷ 8 ∷ 11 ∷ []) in
      let eleven = inr (inr (inr (inl refl))) in
      of (is_top (top_in bs)) _ _
      (of (ltb (first_unknown_setting bs 0) 5) _ _ (inr (inr (inl refl))) (of (is_top (top_in bs)) _ _ (of (discards (patch_in bs xs)) _ _ (inr (inl refl)) (inl refl)) eleven))
      eleven
