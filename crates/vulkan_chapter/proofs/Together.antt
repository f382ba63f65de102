-- What the two drawing operations wrote for one patch meets the chapter; they answer "discarded" exactly if the chapter discards the
-- patch. Assumes nothing.
use Prim.Native.Nat.{ℕ, ◌*◌}
use mathlib.Core.Path.{◌≡◌, refl, sym, ap, ◌∙◌}
use mathlib.Core.Bool.{Bool, true, false, cond}
use mathlib.Core.List.{List}
use native.Mathlib.Omega.{arith}
use lib.Dec.{ltb}
use lib.ListN.{length, take}
use Rattle.level.specs.Top.{Top, is_top}
use Rattle.patch.specs.declared.kinds.Patch.{Patch}
use Rattle.patch.specs.declared.settings.Settings.{Settings}
use Rattle.patch.specs.Subdivide.{discards}
use Rattle.mesh_geometry.specs.Words.{read_points}
use Rattle.std.proofs.Common.{Result}
use Rattle.tessellate.specs.declared.refusal.DrawRefusal.{DrawRefusal}
use Rattle.measure.specs.Sizes.{points_of, indices_of}
use Rattle.tessellate.specs.Answers.{points_code, indices_code, list_verdict}
use Rattle.answer_codes.specs.AnswerCode.{AnswerCode, refused, drew}
use Rattle.tessellate.specs.Draws.{DrewPoints, DrewIndices}
use Rattle.answer_codes.specs.Drew.{Drew}
use Rattle.tessellate.proofs.Together.{points_drawn, indices_drawn}
use Rattle.level.proofs.Top.{is_top_lem}
use Rattle.vulkan_chapter.specs.Discard.{PatchDiscarded, DiscardedExactly}
use Rattle.vulkan_chapter.specs.Chapter.{Chapter}
use Rattle.vulkan_chapter.proofs.Spacing.{our_edges}
use Rattle.vulkan_chapter.proofs.Discard.{discards_exactly}
use Rattle.vulkan_chapter.proofs.Drawn.{chapter}

module _ (set : Settings) (p : Patch) where
  -- both operations said "drawn", with P points and I indices: what their lists begin with meets the chapter
  pub chapter_together : (r s : Result ℕ DrawRefusal) {v v' i i' : List ℕ} {P I : ℕ} → DrewPoints set p v v' r → DrewIndices set p i i' s
      → points_code r ≡ drew P → indices_code s ≡ drew I → Chapter our_edges set p (read_points (take (3 * P) v')) (take I i')
  chapter_together r s d d' e e' =
      let ps = points_drawn set p r d e in
      rw (ps.2, (indices_drawn set p s d' e').2) (chapter set ps.0 p ps.1)

  -- ---- 23.2
  module _ (short need have count : ℕ) where
    gone : Top set.top → PatchDiscarded p → list_verdict set p short need have count ≡ refused 1
    unfolding list_verdict
    gone top h = rw (is_top_lem set.top top, (discards_exactly p).1 h)

    gone_only : (short ≡ 1 → ⊥) → list_verdict set p short need have count ≡ refused 1 → PatchDiscarded p
    unfolding list_verdict
    gone_only other e = go (is_top set.top) (discards p) (ltb have need) refl (ap (λ (t : AnswerCode). t.number) e)
      where
        go : (a b c : Bool) → discards p ≡ b → (cond a (cond b (refused 1) (cond c (refused short) (drew count))) (refused 11)).number ≡ 1 → PatchDiscarded p
        go false b c f h = absurd (omega arith)
        go true true c f h = (discards_exactly p).0 f
        go true false true f h = absurd (other h)
        go true false false f h = absurd (omega arith)

  discarded_by : (short need have count : ℕ) {t : AnswerCode} {words xs xs' : List ℕ} → (short ≡ 1 → ⊥) → Top set.top
      → Drew t (list_verdict set p short need have count) words xs xs' → DiscardedExactly p t xs xs'
  discarded_by short need have count {t} other top d = record {
    exactly = (λ e. gone_only short need have count other (sym d.answer ∙ e), λ h. d.answer ∙ gone short need have count top h);
    untouched = λ e. d.list ∙ rw e;
  }

  -- with a good top level, each operation answers "discarded" exactly if the chapter discards the patch
  pub discarded_points : Top set.top → (r : Result ℕ DrawRefusal) {v v' : List ℕ} → DrewPoints set p v v' r → DiscardedExactly p (points_code r) v v'
  discarded_points top r {v} d = discarded_by 3 (3 * points_of set p) (length v) (points_of set p) (λ e. omega arith) top d

  pub discarded_indices : Top set.top → (r : Result ℕ DrawRefusal) {i i' : List ℕ} → DrewIndices set p i i' r → DiscardedExactly p (indices_code r) i i'
  discarded_indices top r {i} d = discarded_by 4 (indices_of set p) (length i) (indices_of set p) (λ e. omega arith) top d
