-- What the two drawing calls leave for the same settings and levels, read from the lists by the counts: demand 3 holds, exactly one
-- triangle holds each spot, and patches that are alike have equal indices. Assumes nothing.
use Prim.Native.Nat.{ℕ, ◌+◌, ◌*◌}
use mathlib.Core.Path.{◌≡◌, refl, sym, ap, ◌∙◌}
use mathlib.Core.Bool.{Bool, true, false, cond}
use mathlib.Core.List.{List}
use native.Mathlib.Omega.{arith}
use lib.Dec.{ltb}
use lib.Ieee.{Float}
use lib.ListN.{length, take, get_or}
use Rattle.level.specs.Top.{is_top}
use Rattle.patch.specs.declared.kinds.Patch.{Patch}
use Rattle.patch.specs.declared.settings.Settings.{Settings}
use Rattle.patch.specs.Subdivide.{discards}
use Rattle.mesh_geometry.specs.Words.{read_points}
use Rattle.patch_mesh.specs.Demand.{Demand}
use Rattle.patch_mesh.specs.Inside.{SpotsOnce}
use Rattle.patch_mesh.specs.Kept.{Alike}
use Rattle.std.proofs.Common.{Ok}
use Rattle.measure.specs.Sizes.{points_of, indices_of}
use Rattle.tessellate.specs.Answers.{list_verdict, points_verdict, indices_verdict}
use Rattle.answer_codes.specs.AnswerCode.{AnswerCode, refused, drew}
use Rattle.tessellate.specs.Draws.{DrewPoints, DrewIndices, point_words, connection_words}
use Rattle.answer_codes.specs.Drew.{Drew}
use Rattle.tessellate.proofs.Together.{demand_together, once_together, kept}
use Rattle.call_answers.specs.Replies.{unknown_setting, bad_top}
use Rattle.call_inputs.specs.Inputs.{patch_in, settings_in}
use Rattle.call_inputs.specs.Asked.{known}
use Rattle.call_inputs.proofs.Known.{known_zero}
use Rattle.draw_exports.specs.Calls.{ListCalled, PointsCalled, IndicesCalled}

pub verdict_zero : (set : Settings) (p : Patch) (short need have count : ℕ)
    → (list_verdict set p (short + 1) need have count).number ≡ 0 → list_verdict set p (short + 1) need have count ≡ drew count
unfolding list_verdict
verdict_zero set p short need have count = go (is_top set.top) (discards p) (ltb have need)
  where
    go : (a b c : Bool) → (cond a (cond b (refused 1) (cond c (refused (short + 1)) (drew count))) (refused 11)).number ≡ 0
        → cond a (cond b (refused 1) (cond c (refused (short + 1)) (drew count))) (refused 11) ≡ drew count
    go false b c e = absurd (omega arith)
    go true true c e = absurd (omega arith)
    go true false true e = absurd (omega arith)
    go true false false e = refl

-- a call that answered 0 drew, and its count is right
pub record Drawn (right : AnswerCode) (words l l' c' : List ℕ) (count : ℕ) : Type 0 where
  pub drawn : Drew (drew count) right words l l'
  pub counted : get_or c' 0 0 ≡ count

module _ (bs : List ℕ) (set : Settings) (p : Patch) (short need have count : ℕ) where
  zero_drew : {words l l' c' : List ℕ} → ListCalled (known bs bad_top unknown_setting (list_verdict set p (short + 1) need have count)) words l l' c' 0
      → Drawn (list_verdict set p (short + 1) need have count) words l l' c' count
  zero_drew {c' = c'} d =
      let t = list_verdict set p (short + 1) need have count in
      let k = known_zero bs t (sym d.says.number) in
      let z = verdict_zero set p short need have count (ap (λ (x : AnswerCode). x.number) (sym k) ∙ sym d.says.number) in
      record {
        drawn = record { answer = sym z; list = d.list };
        counted = ap (λ (c : List ℕ). get_or c 0 0) d.says.counts ∙ ap (λ (x : AnswerCode). get_or x.values 0 0) (k ∙ z);
      }

module _ (bs : List ℕ) (xs : List Float) where
  abbrev set : Settings
  set = settings_in bs

  abbrev p : Patch
  p = patch_in bs xs

  abbrev P : ℕ
  P = points_of set p

  abbrev I : ℕ
  I = indices_of set p

  points_called : {v v' c' : List ℕ} → PointsCalled bs xs v v' c' 0 → Drawn (points_verdict set p (length v)) (point_words set p) v v' c' P
  points_called {v} d = zero_drew bs set p 2 (3 * P) (length v) P d

  indices_called : {i i' c' : List ℕ} → IndicesCalled bs xs i i' c' 0 → Drawn (indices_verdict set p (length i)) (connection_words set p) i i' c' I
  indices_called {i} d = zero_drew bs set p 3 I (length i) I d

  -- if a call answered 0, its operation answered "drawn" with the count that is in memory
  pub points_call : {v v' c' : List ℕ} → PointsCalled bs xs v v' c' 0 → DrewPoints set p v v' (Ok (get_or c' 0 0))
  points_call d = let k = points_called d in rw k.counted k.drawn

  pub indices_call : {i i' c' : List ℕ} → IndicesCalled bs xs i i' c' 0 → DrewIndices set p i i' (Ok (get_or c' 0 0))
  indices_call d = let k = indices_called d in rw k.counted k.drawn

  module _ {v v' i i' c' k' : List ℕ} (d : PointsCalled bs xs v v' c' 0) (d' : IndicesCalled bs xs i i' k' 0) where
    pub called_together : Demand set p (read_points (take (3 * get_or c' 0 0) v')) (take (get_or k' 0 0) i')
    called_together = demand_together set p (Ok (get_or c' 0 0)) (Ok (get_or k' 0 0)) (points_call d) (indices_call d') refl refl

    pub called_once : SpotsOnce set p (read_points (take (3 * get_or c' 0 0) v')) (take (get_or k' 0 0) i')
    called_once = once_together set p (Ok (get_or c' 0 0)) (Ok (get_or k' 0 0)) (points_call d) (indices_call d') refl refl

-- patches that are alike get equal indices from any two calls that drew them
pub called_kept : (bs bs' : List ℕ) (xs xs' : List Float) {i i' c' j j' k' : List ℕ} → Alike (settings_in bs) (settings_in bs') (patch_in bs xs) (patch_in bs' xs')
    → IndicesCalled bs xs i i' c' 0 → IndicesCalled bs' xs' j j' k' 0 → take (get_or c' 0 0) i' ≡ take (get_or k' 0 0) j'
called_kept bs bs' xs xs' {c' = c'} {k' = k'} a d d' =
    kept (settings_in bs) (settings_in bs') (patch_in bs xs) (patch_in bs' xs') (Ok (get_or c' 0 0)) (Ok (get_or k' 0 0)) a
    (indices_call bs xs d) (indices_call bs' xs' d') refl refl
