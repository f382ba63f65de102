-- Which answer drawing with floats gives, by what was found. Assumes nothing.
use Prim.Native.Nat.{ℕ, ◌+◌, ◌*◌, ◌≤◌}
use mathlib.Core.Path.{◌≡◌, refl, ap, ◌∙◌}
use mathlib.Core.Bool.{Bool, true, false, cond}
use mathlib.Core.List.{List}
use native.Mathlib.Omega.{arith}
use borrow.Author.Tests.{ltb-false}
use lib.Dec.{ltb}
use lib.Ieee.{Float}
use lib.ListN.{length, get_or}
use Rattle.level.specs.Top.{is_top}
use Rattle.patch.specs.declared.kinds.Patch.{Patch}
use Rattle.patch.specs.declared.settings.Settings.{Settings}
use Rattle.patch.specs.Subdivide.{discards}
use Rattle.std.proofs.Common.{Result, Ok, Err}
use Rattle.measure.specs.declared.cut.NotDrawn.{NotDrawn}
use Rattle.measure.specs.declared.cut.NotDrawn.TheVariants.{BadTop, Discarded}
use Rattle.measure.specs.declared.size.Size.{Size}
use Rattle.measure.specs.Sizes.{points_of, indices_of, size_code, measure_verdict}
use Rattle.answer_codes.specs.AnswerCode.{AnswerCode, refused, drew_both}
use Rattle.measure.proofs.Measured.{measured, is_measured}
use Rattle.draw_floats.specs.Answers.{floats_refusal_of, floats_code, floats_room_verdict, floats_verdict}

module _ (v i f : ℕ) where
  -- by the result of measuring
  abbrev pub size_verdict : Result Size NotDrawn → AnswerCode
  size_verdict (Ok size) = floats_room_verdict size.points size.indices v i f
  size_verdict (Err Discarded) = refused 1
  size_verdict (Err BadTop) = refused 11

  by_size : (set : Settings) (p : Patch) → size_verdict (measured set p) ≡ floats_verdict set p v i f
  unfolding measured floats_verdict
  by_size set p = go (is_top set.top) (discards p) _
    where
      go : (a b : Bool) (s : Result Size NotDrawn)
          → size_verdict (cond a (cond b (Err Discarded) s) (Err BadTop)) ≡ cond a (cond b (refused 1) (size_verdict s)) (refused 11)
      go true true s = refl
      go true false s = refl
      go false b s = refl

  pub judged : (set : Settings) (p : Patch) (s : Result Size NotDrawn) → size_code s ≡ measure_verdict set p → size_verdict s ≡ floats_verdict set p v i f
  judged set p s e = ap size_verdict (is_measured set p e) ∙ by_size set p

  -- a patch that is not measured is refused for the same reason
  pub judged_refused : (set : Settings) (p : Patch) (e : NotDrawn) → size_code (Err e) ≡ measure_verdict set p → floats_code (Err (floats_refusal_of e)) ≡ floats_verdict set p v i f
  judged_refused set p BadTop h = judged set p (Err BadTop) h
  judged_refused set p Discarded h = judged set p (Err Discarded) h

-- what "drawn" means: the top level is good, the patch is not discarded, each list has room, and the counts are right
pub record Fits (set : Settings) (p : Patch) (vs is : List ℕ) (fs : List Float) (points indices : ℕ) : Type 0 where
  pub top : is_top set.top ≡ true
  pub drawn : discards p ≡ false
  pub vertices : 3 * points_of set p ≤ length vs
  pub corners : indices_of set p ≤ length is
  pub floats : 3 * points_of set p ≤ length fs
  pub point_count_lem : points ≡ points_of set p
  pub index_count_lem : indices ≡ indices_of set p

pub drawn_fits : (set : Settings) (p : Patch) (vs is : List ℕ) (fs : List Float) (P I : ℕ) → drew_both P I ≡ floats_verdict set p (length vs) (length is) (length fs) → Fits set p vs is fs P I
unfolding floats_verdict
drawn_fits set p vs is fs P I e =
    let v = length vs in
    let i = length is in
    let f = length fs in
    go (is_top set.top) (discards p) (ltb v (3 * points_of set p)) (ltb i (indices_of set p)) (ltb f (3 * points_of set p)) refl refl refl refl refl e
  where
    not_refused : (k : ℕ) → drew_both P I ≡ refused (k + 1) → Fits set p vs is fs P I
    not_refused k h = let z : ◌≡◌ {A = ℕ} 0 (k + 1) = ap (λ (t : AnswerCode). t.number) h in absurd (omega arith)

    go : (t a b c d : Bool) → is_top set.top ≡ t → discards p ≡ a → ltb (length vs) (3 * points_of set p) ≡ b → ltb (length is) (indices_of set p) ≡ c
        → ltb (length fs) (3 * points_of set p) ≡ d
        → drew_both P I
        ≡ cond t (cond a (refused 1) (cond b (refused 3) (cond c (refused 4) (cond d (refused 9) (drew_both (points_of set p) (indices_of set p)))))) (refused 11)
        → Fits set p vs is fs P I
    go false a b c d et ea eb ec ed h = not_refused 10 h
    go true true b c d et ea eb ec ed h = not_refused 0 h
    go true false true c d et ea eb ec ed h = not_refused 2 h
    go true false false true d et ea eb ec ed h = not_refused 3 h
    go true false false false true et ea eb ec ed h = not_refused 8 h
    go true false false false false et ea eb ec ed h = record {
      top = et;
      drawn = ea;
      vertices = ltb-false (length vs) (3 * points_of set p) eb;
      corners = ltb-false (length is) (indices_of set p) ec;
      floats = ltb-false (length fs) (3 * points_of set p) ed;
      point_count_lem = ap (λ (t : AnswerCode). get_or t.values 0 0) h;
      index_count_lem = ap (λ (t : AnswerCode). get_or t.values 1 0) h;
    }
