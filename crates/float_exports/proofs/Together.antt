-- What a call that answered 0 leaves: the counts are right, and demand 3 holds. Assumes nothing.
use Prim.Native.Nat.{ℕ, ◌*◌}
use mathlib.Core.Path.{◌≡◌, refl, sym, ap, ◌∙◌}
use mathlib.Core.Bool.{Bool, true, false, cond}
use mathlib.Core.List.{List, [], ◌∷◌}
use native.Mathlib.Omega.{arith}
use lib.Dec.{ltb}
use lib.Ieee.{Float}
use lib.ListN.{length, take, get_or}
use Rattle.level.specs.Top.{is_top}
use Rattle.patch.specs.Subdivide.{discards}
use Rattle.mesh_geometry.specs.Words.{read_points}
use Rattle.patch_mesh.specs.Demand.{Demand}
use Rattle.measure.specs.Sizes.{points_of, indices_of}
use Rattle.answer_codes.specs.AnswerCode.{AnswerCode, refused, drew_both}
use Rattle.call_answers.specs.Replies.{two_words}
use Rattle.call_inputs.specs.Inputs.{patch_in, settings_in}
use Rattle.call_inputs.proofs.Known.{known_zero}
use Rattle.std.proofs.Common.{Result, Ok}
use Rattle.measure.specs.declared.size.DrawnCounts.{DrawnCounts}
use Rattle.draw_floats.specs.declared.refusal.FloatsRefusal.{FloatsRefusal}
use Rattle.draw_floats.specs.Answers.{floats_verdict}
use Rattle.draw_floats.specs.Draws.{MeshLists, DrewWithFloats}
use Rattle.draw_floats.proofs.Together.{together_with_floats}
use Rattle.float_exports.specs.Calls.{FloatsCalled}

-- the answer that the counts in memory tell
abbrev pub told_counts : List ℕ → Result DrawnCounts FloatsRefusal
told_counts c' = Ok (record { points = get_or c' 0 0; indices = get_or c' 1 0 })

module _ (bs : List ℕ) (xs : List Float) where
  abbrev points : ℕ
  points = points_of (settings_in bs) (patch_in bs xs)

  abbrev corners : ℕ
  corners = indices_of (settings_in bs) (patch_in bs xs)

  verdict_zero : (v i f : ℕ) → (floats_verdict (settings_in bs) (patch_in bs xs) v i f).number ≡ 0 → floats_verdict (settings_in bs) (patch_in bs xs) v i f ≡ drew_both points corners
  unfolding floats_verdict
  verdict_zero v i f = go (is_top (settings_in bs).top) (discards (patch_in bs xs)) (ltb v (3 * points)) (ltb i corners) (ltb f (3 * points))
    where
      go : (t a b c d : Bool) → (cond t (cond a (refused 1) (cond b (refused 3) (cond c (refused 4) (cond d (refused 9) (drew_both points corners))))) (refused 11)).number ≡ 0
          → cond t (cond a (refused 1) (cond b (refused 3) (cond c (refused 4) (cond d (refused 9) (drew_both points corners))))) (refused 11) ≡ drew_both points corners
      go false a b c d e = absurd (omega arith)
      go true true b c d e = absurd (omega arith)
      go true false true c d e = absurd (omega arith)
      go true false false true d e = absurd (omega arith)
      go true false false false true e = absurd (omega arith)
      go true false false false false e = refl

  module _ {before after : MeshLists} {c' : List ℕ} (d : FloatsCalled bs xs before after c' 0) where
    -- such a call is a drawing with both counts in memory
    pub called_drew : DrewWithFloats (settings_in bs) (patch_in bs xs) before after (told_counts c')
    called_drew =
        let v = length before.vertices in
        let i = length before.indices in
        let f = length before.floats in
        let t = floats_verdict (settings_in bs) (patch_in bs xs) v i f in
        let k = known_zero bs t (sym d.says.number) in
        let z = verdict_zero v i f (ap (λ (x : AnswerCode). x.number) (sym k) ∙ sym d.says.number) in
        let w : c' ≡ points ∷ corners ∷ [] = d.says.counts ∙ ap (λ (x : AnswerCode). two_words x.values) (k ∙ z) in
        let first : get_or c' 0 0 ≡ points = ap (λ (l : List ℕ). get_or l 0 0) w in
        let second : get_or c' 1 0 ≡ corners = ap (λ (l : List ℕ). get_or l 1 0) w in
        record { answer = rw (first, second) (sym z); vertices = d.vertices; indices = d.indices; floats = d.floats }

    pub called_with_floats : Demand (settings_in bs) (patch_in bs xs) (read_points (take (3 * get_or c' 0 0) after.vertices)) (take (get_or c' 1 0) after.indices)
    called_with_floats = together_with_floats (settings_in bs) (patch_in bs xs) (told_counts c') called_drew refl
