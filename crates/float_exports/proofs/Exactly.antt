-- A call that draws with floats gives each number exactly if it is right. Assumes nothing.
use Prim.Native.Nat.{ℕ, ◌*◌}
use mathlib.Core.Path.{◌≡◌, refl, ap}
use mathlib.Core.Bool.{Bool, true, false, cond}
use mathlib.Core.List.{List}
use mathlib.Core.Logic.{◌↔◌}
use borrow.Author.Tests.{lt-ltb, le-ltb, ltb-true, ltb-false}
use lib.Dec.{eqb, ltb}
use lib.Ieee.{Float}
use lib.ListN.{length, get_or}
use Rattle.level.specs.Top.{is_top}
use Rattle.patch.specs.declared.kinds.Patch.{Patch}
use Rattle.patch.specs.declared.settings.Settings.{Settings}
use Rattle.patch.specs.Subdivide.{discards}
use Rattle.measure.specs.Sizes.{points_of, indices_of}
use Rattle.answer_codes.specs.AnswerCode.{refused, drew_both}
use Rattle.level.proofs.Top.{top_as, is_top_lem, no_top, top_no}
use Rattle.std.proofs.Common.{Result, Ok, Err}
use Rattle.measure.specs.declared.size.DrawnCounts.{DrawnCounts}
use Rattle.draw_floats.specs.declared.refusal.FloatsRefusal.{FloatsRefusal}
use Rattle.draw_floats.specs.declared.refusal.FloatsRefusal.TheVariants as floats
use Rattle.draw_floats.specs.Answers.{floats_code, floats_verdict}
use Rattle.draw_floats.specs.Draws.{MeshLists}
use Rattle.call_answers.specs.Replies.{unknown_setting, bad_top, two_words}
use Rattle.call_answers.proofs.Replies.{says_as}
use Rattle.call_inputs.specs.Inputs.{patch_in, settings_in}
use Rattle.call_inputs.specs.Asked.{known}
use Rattle.call_inputs.proofs.Exactly.{Answers, Readable, called_exactly}
use Rattle.draw_exports.proofs.Exactly.{both}
use Rattle.float_exports.specs.Calls.{FloatsCalled}
use Rattle.float_exports.specs.Exactly.{FloatsMeans, FloatsExactly}

abbrev drawn_counts : ℕ → ℕ → Result DrawnCounts FloatsRefusal
drawn_counts points indices = Ok (record { points = points; indices = indices })

module _ (set : Settings) (p : Patch) (v i f : ℕ) where
  abbrev P : ℕ
  P = points_of set p

  abbrev I : ℕ
  I = indices_of set p

  -- the answer, by the top level, whether the patch is discarded, and which lists are short
  abbrev named : Bool → Bool → Bool → Bool → Bool → Result DrawnCounts FloatsRefusal
  named t g a b c =
      cond t (cond g (Err floats.Discarded) (cond a (Err floats.NoRoomForVertices) (cond b (Err floats.NoRoomForIndices) (cond c (Err floats.NoRoomForFloats) (drawn_counts P I))))) (Err floats.BadTop)

  abbrev right : Result DrawnCounts FloatsRefusal
  right = named (is_top set.top) (discards p) (ltb v (3 * P)) (ltb i I) (ltb f (3 * P))

  right_told : floats_code right ≡ floats_verdict set p v i f
  unfolding floats_verdict
  right_told = go (is_top set.top) (discards p) (ltb v (3 * P)) (ltb i I) (ltb f (3 * P))
    where
      go : (t g a b c : Bool) → floats_code (named t g a b c)
          ≡ cond t (cond g (refused 1) (cond a (refused 3) (cond b (refused 4) (cond c (refused 9) (drew_both P I))))) (refused 11)
      go false g a b c = refl
      go true true a b c = refl
      go true false true b c = refl
      go true false false true c = refl
      go true false false false true = refl
      go true false false false false = refl

  right_means : FloatsMeans set p v i f right
  right_means = go (is_top set.top) (discards p) (ltb v (3 * P)) (ltb i I) (ltb f (3 * P)) refl refl refl refl refl
    where
      go : (t g a b c : Bool) → is_top set.top ≡ t → discards p ≡ g → ltb v (3 * P) ≡ a → ltb i I ≡ b → ltb f (3 * P) ≡ c → FloatsMeans set p v i f (named t g a b c)
      go false g a b c d e h k l = no_top set.top d
      go true true a b c d e h k l = (top_as set.top d, e)
      go true false true b c d e h k l = ((top_as set.top d, e), ltb-true v (3 * P) h)
      go true false false true c d e h k l = ((top_as set.top d, e), ltb-false v (3 * P) h, ltb-true i I k)
      go true false false false true d e h k l = ((top_as set.top d, e), ltb-false v (3 * P) h, ltb-false i I k, ltb-true f (3 * P) l)
      go true false false false false d e h k l = ((top_as set.top d, e), ltb-false v (3 * P) h, ltb-false i I k, ltb-false f (3 * P) l, refl, refl)

  means_right : (a : Result DrawnCounts FloatsRefusal) → FloatsMeans set p v i f a → right ≡ a
  means_right (Err floats.BadTop) n = rw (top_no set.top n)
  means_right (Err floats.Discarded) d = rw (is_top_lem set.top d.0, d.1)
  means_right (Err floats.NoRoomForVertices) (d, a) = rw (is_top_lem set.top d.0, d.1, lt-ltb v (3 * P) a)
  means_right (Err floats.NoRoomForIndices) (d, a, b) = rw (is_top_lem set.top d.0, d.1, le-ltb v (3 * P) a, lt-ltb i I b)
  means_right (Err floats.NoRoomForFloats) (d, a, b, c) = rw (is_top_lem set.top d.0, d.1, le-ltb v (3 * P) a, le-ltb i I b, lt-ltb f (3 * P) c)
  means_right (Ok counts) (d, a, b, c, e, h) = rw (is_top_lem set.top d.0, d.1, le-ltb v (3 * P) a, le-ltb i I b, le-ltb f (3 * P) c, ← e, ← h) refl

  exactly : (a : Result DrawnCounts FloatsRefusal) → right ≡ a ↔ FloatsMeans set p v i f a
  exactly = both (FloatsMeans set p v i f) right_means means_right

abbrev floats_in : ℕ → List ℕ → Result DrawnCounts FloatsRefusal
floats_in n c =
    cond (eqb n 0) (drawn_counts (get_or c 0 0) (get_or c 1 0))
    (cond (eqb n 1) (Err floats.Discarded)
    (cond (eqb n 3) (Err floats.NoRoomForVertices)
    (cond (eqb n 4) (Err floats.NoRoomForIndices) (cond (eqb n 9) (Err floats.NoRoomForFloats) (Err floats.BadTop)))))

floats_readable : Readable two_words floats_code floats_in
floats_readable = record { same = same; no_eight = no_eight; place = λ k. refl }
  where
    same : (a : Result DrawnCounts FloatsRefusal) → floats_in (floats_code a).number (two_words (floats_code a).values) ≡ a
    same (Ok counts) = refl
    same (Err floats.Discarded) = refl
    same (Err floats.NoRoomForVertices) = refl
    same (Err floats.NoRoomForIndices) = refl
    same (Err floats.NoRoomForFloats) = refl
    same (Err floats.BadTop) = refl

    no_eight : (a : Result DrawnCounts FloatsRefusal) → eqb (floats_code a).number 8 ≡ false
    no_eight (Ok counts) = refl
    no_eight (Err floats.Discarded) = refl
    no_eight (Err floats.NoRoomForVertices) = refl
    no_eight (Err floats.NoRoomForIndices) = refl
    no_eight (Err floats.NoRoomForFloats) = refl
    no_eight (Err floats.BadTop) = refl

pub floats_call_exactly : (bs : List ℕ) (xs : List Float) {before after : MeshLists} {c' : List ℕ} {r : ℕ} → FloatsCalled bs xs before after c' r
    → FloatsExactly bs xs (length before.vertices) (length before.indices) (length before.floats) c' r
floats_call_exactly bs xs {before} d =
    let set = settings_in bs in
    let p = patch_in bs xs in
    let a = length before.vertices in
    let b = length before.indices in
    let c = length before.floats in
    let op : Answers bs floats_code (FloatsMeans set p a b c) (right set p a b c) (Err floats.BadTop) = record {
      exactly = exactly set p a b c;
      bad_number = refl;
      bad_top_lem = λ n. means_right set p a b c (Err floats.BadTop) n;
    } in
    called_exactly bs floats_code (FloatsMeans set p a b c) (right set p a b c) (Err floats.BadTop) op two_words floats_in floats_readable
    (says_as (ap (known bs bad_top unknown_setting) (right_told set p a b c)) d.says)
