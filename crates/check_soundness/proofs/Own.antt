-- What the two drawing operations give for a patch is accepted: for every triangle and quad patch, and all settings with a good
-- top level. Assumes nothing.
use Rattle.std.specs.Prelude.{Result, Ok}
use Prim.Native.Nat.{ℕ, ◌+◌, ◌*◌}
use mathlib.Core.Path.{◌≡◌, refl, sym, ap, ◌∙◌}
use mathlib.Core.Bool.{Bool, true, false, cond}
use mathlib.Core.Logic.{inl, inr}
use mathlib.Core.List.{List, []}
use native.Mathlib.Omega.{arith}
use lib.Dec.{ltb}
use lib.ListN.{length, take}
use Rattle.level.specs.Top.{Top, is_top}
use Rattle.patch.specs.declared.kinds.Patch.{Patch}
use Rattle.patch.specs.declared.settings.Settings.{Settings}
use Rattle.patch.specs.Subdivide.{discards}
use Rattle.patch_mesh.specs.Demand.{Surface}
use Rattle.tessellate.specs.declared.refusal.DrawRefusal.{DrawRefusal}
use Rattle.measure.specs.Sizes.{points_of}
use Rattle.tessellate.specs.Answers.{points_code, indices_code, list_verdict}
use Rattle.answer_codes.specs.AnswerCode.{AnswerCode, refused, drew}
use Rattle.tessellate.specs.Draws.{DrewPoints, DrewIndices}
use Rattle.level.proofs.Top.{top_as}
use Rattle.tessellate.proofs.Together.{points_drawn, point_words_drawn, indices_drawn}
use Rattle.check_soundness.proofs.Patches.{drawn_words_sound}
use Rattle.check_verdict.specs.Faults.{Verdict}
use Rattle.check_soundness.specs.Means.{CheckedExactly}
use Rattle.check_soundness.proofs.Numbers.{is_verdict}
use Rattle.check_soundness.proofs.Verdicts.{answers}

-- what "discarded" means
discarded_means : (set : Settings) (p : Patch) (short need have count : ℕ) → refused 1 ≡ list_verdict set p (short + 2) need have count
    → Top set.top × (discards p ≡ true)
unfolding list_verdict
discarded_means set p short need have count e = go (is_top set.top) (discards p) (ltb have need) refl refl e
  where
    other : (t : AnswerCode) → refused 1 ≡ t → (t.number ≡ 1 → ⊥) → Top set.top × (discards p ≡ true)
    other t h n = absurd (n (ap (λ (x : AnswerCode). x.number) (sym h)))

    go : (t a b : Bool) → is_top set.top ≡ t → discards p ≡ a
        → refused 1 ≡ cond t (cond a (refused 1) (cond b (refused (short + 2)) (drew count))) (refused 11) → Top set.top × (discards p ≡ true)
    go false a b e d h = other _ h (λ z. omega arith)
    go true true b e d h = (top_as set.top e, d)
    go true false true e d h = other _ h (λ z. omega arith)
    go true false false e d h = other _ h (λ z. omega arith)

module _ (set : Settings) (p : Patch) (surface : Surface p) (filled : set.point_mode ≡ false) (a : Verdict) where
  -- the drawn points and indices, read from the two lists by the counts
  pub drawn_accepted : (r s : Result ℕ DrawRefusal) {v v' i i' : List ℕ} {P I : ℕ} → DrewPoints set p v v' r → DrewIndices set p i i' s
      → points_code r ≡ drew P → indices_code s ≡ drew I → CheckedExactly set p (take (3 * P) v') (take I i') a → a ≡ Ok tt
  drawn_accepted r s d d' e e' c =
      let w = points_drawn set p r d e in
      is_verdict set p _ _ c.answer
      ∙ rw (point_words_drawn set p r d e, (indices_drawn set p s d' e').2)
      (answers set p _ _ (Ok tt) (inr (record { asked = record { top = w.0; surface = surface; filled = filled }; kept = w.1 }, drawn_words_sound set w.0 p surface w.1 filled)))

  -- nothing is drawn for a discarded patch, and two empty lists are accepted
  pub discarded_accepted : (r : Result ℕ DrawRefusal) {v v' : List ℕ} → DrewPoints set p v v' r → points_code r ≡ refused 1 → CheckedExactly set p [] [] a → a ≡ Ok tt
  discarded_accepted r {v} d e c =
      let w = discarded_means set p 1 (3 * points_of set p) (length v) (points_of set p) (sym e ∙ d.answer) in
      is_verdict set p [] [] c.answer ∙ answers set p [] [] (Ok tt) (inl (record { top = w.0; surface = surface; filled = filled }, w.1, (refl, refl)))
