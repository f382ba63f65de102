-- What one drawing on shared lists appends, taken by itself: all points and indices of the patch, demand 3, and that exactly
-- one triangle holds each spot. Assumes nothing.
use Prim.Native.Nat.{ℕ, zero, suc, ◌+◌, ◌-◌, ◌*◌}
use mathlib.Core.Path.{◌≡◌, refl, sym, ap, ◌∙◌}
use mathlib.Core.Bool.{Bool, true, false, cond}
use mathlib.Core.List.{List, [], ◌∷◌, map}
use native.Mathlib.Omega.{arith}
use borrow.Author.Tests.{le-ltb, ltb-false}
use lib.Dec.{ltb}
use lib.Ieee.{Float}
use lib.ListN.{length, get_or, take, drop}
use Rattle.patch.specs.declared.kinds.Patch.{Patch}
use Rattle.patch.specs.declared.settings.Settings.{Settings}
use Rattle.patch.specs.Subdivide.{subdivision_of}
use Rattle.level.specs.Top.{is_top}
use Rattle.job_fields.specs.Settings.{choices, first_unknown_setting, AllBelow}
use Rattle.job_fields.proofs.Limits.{first_none}
use Rattle.patch_mesh.specs.Points.{points}
use Rattle.mesh_geometry.specs.Words.{read_points}
use Rattle.patch_mesh.specs.Demand.{Demand}
use Rattle.patch_mesh.specs.Inside.{SpotsOnce}
use Rattle.mesh_geometry.proofs.ReadBack.{read_points_lem}
use Rattle.measure.specs.Sizes.{points_of, indices_of}
use Rattle.answer_codes.specs.AnswerCode.{AnswerCode, refused, drew_both, done}
use Rattle.tessellate.specs.Draws.{point_words, connection_words}
use Rattle.level.proofs.Top.{top_as}
use Rattle.call_answers.specs.Replies.{unknown_setting, bad_top, two_words}
use Rattle.call_inputs.specs.Inputs.{top_in, patch_in, settings_in}
use Rattle.share_state.specs.declared.state.Designer.{Designer}
use Rattle.share_state.specs.declared.state.State.{State}
use Rattle.share_state.specs.SharedList.{first_free, left}
use Rattle.share_state.specs.Answers.{accepted}
use Rattle.share_draw.specs.declared.answer.DrawResult.{DrawResult}
use Rattle.std.proofs.Common.{Ok}
use Rattle.share_answers.specs.Answers.{draw_code, room_verdict, part_verdict, share_verdict, draw_verdict, points_held}
use Rattle.share_draw.specs.Operations.{new_indices, drawn_state, DidDraw}
use Rattle.share_answers.proofs.Passed.{passed}
use Rattle.share_draw.proofs.Counts.{point_words_lem, index_words_lem}
use Rattle.share_draw.proofs.Drawn.{Ready, ready}
use Rattle.share_words.specs.Words.{state_in, designer_of}
use Rattle.share_words.specs.Memory.{Memory}
use Rattle.share_exports.specs.Calls.{unknown_designer, asked, DrawCalled}
use Rattle.share_exports.proofs.Calls.{asked_none, asked_some}
use Rattle.share_isolation.proofs.OneCall.{lowered, written, one_call, once_call}
use Rattle.third_demand.specs.Written.{drawn_points}
use Rattle.third_demand.proofs.AllPoints.{AllPoints}

-- the answer 0 comes from the operation
asked_zero : (bs : List ℕ) (d : ℕ) (ok : Bool) (t : AnswerCode) → (asked bs d ok t).number ≡ 0 → asked bs d ok t ≡ t
asked_zero bs d ok t z = go (asked bs d ok done).number refl
  where
    go : (n : ℕ) → (asked bs d ok done).number ≡ n → asked bs d ok t ≡ t
    go zero e = asked_none bs d ok t e
    go (suc n) e = let f = ap (λ (x : AnswerCode). x.number) (asked_some bs d ok t n e) in absurd (omega arith)

-- with the counts of the patch
verdict_zero : (set : Settings) (p : Patch) (ok : Bool) (n v i : ℕ) → (share_verdict set p ok n v i).number ≡ 0 → share_verdict set p ok n v i ≡ drew_both (points_of set p) (indices_of set p)
unfolding share_verdict part_verdict room_verdict
verdict_zero set p ok n v i e =
    let h = passed set p ok n v i e in
    rw (h.top, h.state, h.drawn, le-ltb 65535 (n + points_of set p) h.numbered, le-ltb v (3 * points_of set p) h.vertices, le-ltb i (indices_of set p) h.indices)

-- and all settings are in range
settings_zero : (bs : List ℕ) (d : ℕ) (ok : Bool) (t : AnswerCode) → 0 ≡ (asked bs d ok t).number → AllBelow choices bs 0
unfolding asked
settings_zero bs d ok t e = (first_none choices bs 0).0 (ltb-false (first_unknown_setting bs 0) 5 (go (is_top (top_in bs)) ok (ltb 1 d) (ltb (first_unknown_setting bs 0) 5) e))
  where
    go : (a b c u : Bool) → 0 ≡ (cond a (cond b (cond c unknown_designer (cond u (unknown_setting (first_unknown_setting bs 0)) t)) (refused 14)) bad_top).number → u ≡ false
    go false b c u e = absurd (omega arith)
    go true false c u e = absurd (omega arith)
    go true true true u e = absurd (omega arith)
    go true true false true e = absurd (omega arith)
    go true true false false e = refl

-- ---- for the operation
module _ (d : Designer) (s : State) (set : Settings) (p : Patch) {v v' i i' : List ℕ} (r : DrawResult) (m k : ℕ) (h : DidDraw d s set p v v' i i' r)
    (e : draw_code r.answer ≡ drew_both m k) where
  -- both parts had room
  fits : Ready d s set p v i m k
  fits = ready d s set p v i m k (sym e ∙ h.answer)

  drawn_number : (draw_code r.answer).number ≡ 0
  drawn_number = ap (λ (t : AnswerCode). t.number) e

  -- the words that it appended are those of the patch
  pub appended_points : take (3 * m) (drop (first_free d s.vertices) v') ≡ point_words set p
  appended_points =
      let g = fits in
      written v (first_free d s.vertices) (3 * m) (point_words set p) (omega (arith, g.points, point_words_lem set p)) (omega (arith, g.vertices)) (h.vertices ∙ rw drawn_number)

  pub appended_indices : map (λ x. x - points_held d s) (take k (drop (first_free d s.indices) i')) ≡ connection_words set p
  appended_indices =
      let g = fits in
      let n = points_held d s in
      rw (written i (first_free d s.indices) k (new_indices d s set p) (omega (arith, g.words, index_words_lem n set p)) (omega (arith, g.indices)) (h.indices ∙ rw drawn_number))
      (lowered n (connection_words set p))

  -- the points are all points of the patch
  pub appended_all : AllPoints set p (drawn_points m (drop (first_free d s.vertices) v'))
  appended_all = record {
    top = top_as set.top fits.vertices.top;
    drawn = fits.vertices.drawn;
    are = ap read_points appended_points ∙ read_points_lem (points (subdivision_of set p));
  }

-- ---- for the call
module _ (bs : List ℕ) (xs : List Float) (d : ℕ) {before after : Memory} {c' : List ℕ} (h : DrawCalled bs xs d before after c' 0) where
  abbrev set : Settings
  set = settings_in bs

  abbrev p : Patch
  p = patch_in bs xs

  abbrev by : Designer
  by = designer_of d

  abbrev s : State
  s = state_in before.words

  -- a call that answered 0 is a drawing of its operation, with the counts in memory
  abbrev drawn : DrawResult
  drawn = record { answer = Ok (record { points = get_or c' 0 0; indices = get_or c' 1 0 }); state = drawn_state by s set p }

  pub draw_call : DidDraw by s set p before.vertices after.vertices before.indices after.indices drawn
  draw_call =
      let ok = accepted (length before.vertices) (length before.indices) s in
      let t = draw_verdict by s set p (length before.vertices) (length before.indices) in
      let k = asked_zero bs d ok t (sym h.says.number) in
      let z = verdict_zero set p ok (points_held by s) (left by s.vertices) (left by s.indices) (ap (λ (x : AnswerCode). x.number) (sym k) ∙ sym h.says.number) in
      let c : c' ≡ points_of set p ∷ indices_of set p ∷ [] = h.says.counts ∙ ap (λ (x : AnswerCode). two_words x.values) (k ∙ z) in
      let first : get_or c' 0 0 ≡ points_of set p = ap (λ (l : List ℕ). get_or l 0 0) c in
      let second : get_or c' 1 0 ≡ indices_of set p = ap (λ (l : List ℕ). get_or l 1 0) c in
      record { answer = rw (first, second) (sym z); state = refl; vertices = h.vertices; indices = h.indices }

  pub called_known : AllBelow choices bs 0
  called_known = settings_zero bs d (accepted (length before.vertices) (length before.indices) s) _ h.says.number

  -- the points and indices that it appended, read from the lists at exit; from each index the number of earlier points is subtracted
  pub called_one : Demand set p (drawn_points (get_or c' 0 0) (drop (first_free by s.vertices) after.vertices))
      (map (λ x. x - points_held by s) (take (get_or c' 1 0) (drop (first_free by s.indices) after.indices)))
  called_one = one_call by s set p drawn (get_or c' 0 0) (get_or c' 1 0) draw_call refl

  -- exactly one triangle holds each spot
  pub called_once : SpotsOnce set p (drawn_points (get_or c' 0 0) (drop (first_free by s.vertices) after.vertices))
      (map (λ x. x - points_held by s) (take (get_or c' 1 0) (drop (first_free by s.indices) after.indices)))
  called_once = once_call by s set p drawn (get_or c' 0 0) (get_or c' 1 0) draw_call refl

  -- the words that it appended are those of the patch
  pub called_point_words : take (3 * get_or c' 0 0) (drop (first_free by s.vertices) after.vertices) ≡ point_words set p
  called_point_words = appended_points by s set p drawn (get_or c' 0 0) (get_or c' 1 0) draw_call refl

  pub called_index_words : map (λ x. x - points_held by s) (take (get_or c' 1 0) (drop (first_free by s.indices) after.indices)) ≡ connection_words set p
  called_index_words = appended_indices by s set p drawn (get_or c' 0 0) (get_or c' 1 0) draw_call refl

  -- the points are all points of the patch
  pub called_all : AllPoints set p (drawn_points (get_or c' 0 0) (drop (first_free by s.vertices) after.vertices))
  called_all = appended_all by s set p drawn (get_or c' 0 0) (get_or c' 1 0) draw_call refl
