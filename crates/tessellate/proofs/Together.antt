-- What the two drawing operations give for one patch: demand 3 for both lists together, exactly one triangle for each spot, and the same
-- indices for patches that are alike. Assumes nothing.
use Prim.Native.Nat.{ℕ, ◌+◌, ◌*◌, ◌≤◌}
use mathlib.Core.Path.{◌≡◌, refl, sym, ap, ◌∙◌}
use mathlib.Core.Bool.{Bool, true, false, cond}
use mathlib.Core.List.{List, [], ◌∷◌}
use native.Mathlib.Omega.{arith}
use borrow.Author.Tests.{ltb-false}
use lib.Dec.{ltb}
use lib.ListN.{length, take}
use Rattle.buffer.proofs.Laws.{over_front}
use Rattle.level.specs.Top.{Top, is_top}
use Rattle.patch.specs.declared.kinds.Patch.{Patch}
use Rattle.patch.specs.declared.settings.Settings.{Settings}
use Rattle.patch.specs.Subdivide.{discards, subdivision_of}
use Rattle.mesh_geometry.proofs.Words.{words_length}
use Rattle.patch_mesh.specs.Points.{points}
use Rattle.mesh_geometry.specs.Words.{read_points}
use Rattle.patch_mesh.specs.Demand.{Demand}
use Rattle.patch_mesh.specs.Inside.{SpotsOnce}
use Rattle.patch_mesh.specs.Kept.{Alike}
use Rattle.mesh_geometry.proofs.ReadBack.{read_points_lem}
use Rattle.patch_mesh.proofs.Demand.{demand}
use Rattle.patch_mesh.proofs.Once.{demand_once}
use Rattle.patch_mesh.proofs.Kept.{kept_connections}
use Rattle.std.proofs.Common.{Result}
use Rattle.tessellate.specs.declared.refusal.DrawRefusal.{DrawRefusal}
use Rattle.measure.specs.Sizes.{points_of, indices_of}
use Rattle.tessellate.specs.Answers.{points_code, indices_code, list_verdict}
use Rattle.answer_codes.specs.AnswerCode.{AnswerCode, refused, drew}
use Rattle.level.proofs.Top.{top_as}
use Rattle.tessellate.specs.Draws.{point_words, connection_words, DrewPoints, DrewIndices}
use Rattle.answer_codes.specs.Drew.{Drew}

-- what "drawn" means: the top level is good, the patch is not discarded, there was room, and the count is right
pub record Fits (set : Settings) (p : Patch) (need have all n : ℕ) : Type 0 where
  pub top : Top set.top
  pub drawn : discards p ≡ false
  pub room : need ≤ have
  pub count : n ≡ all

pub drawn_means : (set : Settings) (p : Patch) (short need have count n : ℕ) → drew n ≡ list_verdict set p (short + 1) need have count → Fits set p need have count n
unfolding list_verdict
drawn_means set p short need have count n e = go (is_top set.top) (discards p) (ltb have need) refl refl refl e
  where
    not_refused : (k : ℕ) → drew n ≡ refused (k + 1) → Fits set p need have count n
    not_refused k h = let z : ◌≡◌ {A = ℕ} 0 (k + 1) = ap (λ (t : AnswerCode). t.number) h in absurd (omega arith)

    go : (t a b : Bool) → is_top set.top ≡ t → discards p ≡ a → ltb have need ≡ b
        → drew n ≡ cond t (cond a (refused 1) (cond b (refused (short + 1)) (drew count))) (refused 11) → Fits set p need have count n
    go false a b e d r h = not_refused 10 h
    go true true b e d r h = not_refused 0 h
    go true false true e d r h = not_refused short h
    go true false false e d r h =
        let values : ◌≡◌ {A = List ℕ} (n ∷ []) (count ∷ []) = ap (λ (t : AnswerCode). t.values) h in
        record { top = top_as set.top e; drawn = d; room = ltb-false have need r; count = cc }

-- the list begins with the counted words
front : {t right : AnswerCode} {words xs xs' : List ℕ} (n k : ℕ) → Drew t right words xs xs' → t ≡ drew n → k ≡ length words → take k xs' ≡ words
front {words = words} {xs = xs} n k d e h = ap (take k) (d.list ∙ rw e) ∙ over_front xs words k h

module _ (set : Settings) (p : Patch) where
  points_fit : (r : Result ℕ DrawRefusal) {v v' : List ℕ} {P : ℕ} → DrewPoints set p v v' r → points_code r ≡ drew P
      → Fits set p (3 * points_of set p) (length v) (points_of set p) P
  points_fit r {v} {P = P} d e = drawn_means set p 2 (3 * points_of set p) (length v) (points_of set p) P (sym e ∙ d.answer)

  -- the words of the points that were drawn
  pub point_words_drawn : (r : Result ℕ DrawRefusal) {v v' : List ℕ} {P : ℕ} → DrewPoints set p v v' r → points_code r ≡ drew P → take (3 * P) v' ≡ point_words set p
  point_words_drawn r {P = P} d e =
      front P (3 * P) d e (omega (arith, (points_fit r d e).count, words_length (points (subdivision_of set p))))

  -- the points that were drawn, read from the list
  pub points_drawn : (r : Result ℕ DrawRefusal) {v v' : List ℕ} {P : ℕ} → DrewPoints set p v v' r → points_code r ≡ drew P
      → Top set.top × (discards p ≡ false) × (read_points (take (3 * P) v') ≡ points (subdivision_of set p))
  points_drawn r d e =
      let f = points_fit r d e in
      (f.top, f.drawn, ap read_points (point_words_drawn r d e) ∙ read_points_lem (points (subdivision_of set p)))

  -- the indices that were drawn
  pub indices_drawn : (r : Result ℕ DrawRefusal) {i i' : List ℕ} {I : ℕ} → DrewIndices set p i i' r → indices_code r ≡ drew I
      → Top set.top × (discards p ≡ false) × (take I i' ≡ connection_words set p)
  indices_drawn r {i} {I = I} d e =
      let f = drawn_means set p 3 (indices_of set p) (length i) (indices_of set p) I (sym e ∙ d.answer) in
      (f.top, f.drawn, front I I d e f.count)

  -- demand 3 for what the two operations give for the same patch and settings
  pub demand_together : (r s : Result ℕ DrawRefusal) {v v' i i' : List ℕ} {P I : ℕ} → DrewPoints set p v v' r → DrewIndices set p i i' s
      → points_code r ≡ drew P → indices_code s ≡ drew I → Demand set p (read_points (take (3 * P) v')) (take I i')
  demand_together r s d d' e e' =
      let ps = points_drawn r d e in
      rw (ps.2, (indices_drawn s d' e').2) (demand set ps.0 p ps.1)

  -- exactly one triangle holds each spot
  pub once_together : (r s : Result ℕ DrawRefusal) {v v' i i' : List ℕ} {P I : ℕ} → DrewPoints set p v v' r → DrewIndices set p i i' s
      → points_code r ≡ drew P → indices_code s ≡ drew I → SpotsOnce set p (read_points (take (3 * P) v')) (take I i')
  once_together r s d d' e e' = demand_once set (points_drawn r d e).0 p (demand_together r s d d' e e')

-- patches that are alike get equal indices where both are drawn
pub kept : (set set' : Settings) (p p' : Patch) (r r' : Result ℕ DrawRefusal) {i₀ i₁ j₀ j₁ : List ℕ} {m n : ℕ} → Alike set set' p p'
    → DrewIndices set p i₀ i₁ r → DrewIndices set' p' j₀ j₁ r' → indices_code r ≡ drew m → indices_code r' ≡ drew n → take m i₁ ≡ take n j₁
kept set set' p p' r r' a d d' e e' =
    let is = indices_drawn set p r d e in
    let js = indices_drawn set' p' r' d' e' in
    is.2 ∙ kept_connections set set' is.0 js.0 p p' is.1 js.1 a ∙ sym js.2
