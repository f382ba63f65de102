-- The numbers that a call of drawing with floats can answer. Assumes nothing.
use Prim.Native.Nat.{ℕ}
use mathlib.Core.Path.{refl}
use mathlib.Core.Bool.{Bool, true, false, cond}
use mathlib.Core.List.{List, [], ◌∷◌}
use mathlib.Core.Logic.{inl, inr}
use lib.Dec.{ltb}
use lib.Ieee.{Float}
use Rattle.level.specs.Top.{is_top}
use Rattle.patch.specs.Subdivide.{discards}
use Rattle.job_fields.specs.Settings.{first_unknown_setting}
use Rattle.measure.specs.Sizes.{points_of, indices_of}
use Rattle.answer_codes.specs.AnswerCode.{refused, drew_both}
use Rattle.call_answers.specs.Replies.{unknown_setting, bad_top, OneOf}
use Rattle.call_inputs.specs.Inputs.{top_in, patch_in, settings_in}
use Rattle.call_inputs.specs.Asked.{known}
use Rattle.draw_floats.specs.Answers.{floats_verdict}
use Rattle.float_exports.specs.Calls.{floats_say}

module _ (bs : List ℕ) (xs : List Float) where
  pub floats_number : (v i f : ℕ) → OneOf (0 ∷ 1 ∷ 3 ∷ 4 ∷ 8 ∷ 9 ∷ 11 ∷ []) (floats_say bs xs v i f).number
  unfolding known floats_verdict
  floats_number v i f = go (is_top (top_in bs)) (ltb (first_unknown_setting bs 0) 5) (is_top (settings_in bs).top) (discards (patch_in bs xs)) (ltb v _) (ltb i _) (ltb f _)
    where
      go : (t u s a b c d : Bool)
          → OneOf (0 ∷ 1 ∷ 3 ∷ 4 ∷ 8 ∷ 9 ∷ 11 ∷ [])
          (cond t (cond u (unknown_setting (first_unknown_setting bs 0))
          (cond s (cond a (refused 1) (cond b (refused 3) (cond c (refused 4) (cond d (refused 9)
          (drew_both (points_of (settings_in bs) (patch_in bs xs)) (indices_of (settings_in bs) (patch_in bs xs)))))))
          (refused 11))) bad_top).number
      go false u s a b c d = inr (inr (inr (inr (inr (inr (inl refl))))))
      go true true s a b c d = inr (inr (inr (inr (inl refl))))
      go true false false a b c d = inr (inr (inr (inr (inr (inr (inl refl))))))
      go true false true true b c d = inr (inl refl)
      go true false true false true c d = inr (inr (inl refl))
      go true false true false false true d = inr (inr (inr (inl refl)))
      go true false true false false false true = inr (inr (inr (inr (inr (inl refl)))))
      go true false true false false false false = inl refl
