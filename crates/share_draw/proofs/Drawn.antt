-- What the answer "drawn" shows: both parts have room for the words of the patch. Assumes nothing.
use Prim.Native.Nat.{ℕ, ◌+◌, ◌*◌, ◌/◌, ◌≤◌}
use mathlib.Core.Path.{◌≡◌, sym, ap, ◌∙◌}
use mathlib.Core.Bool.{Bool}
use mathlib.Core.List.{List, [], ◌∷◌}
use native.Mathlib.Omega.{arith}
use borrow.Author.Tests.{le-ltb, eqb-true}
use lib.Dec.{eqb}
use lib.ListN.{length}
use Rattle.patch.specs.declared.kinds.Patch.{Patch}
use Rattle.patch.specs.declared.settings.Settings.{Settings}
use Rattle.measure.specs.Sizes.{points_of, indices_of}
use Rattle.answer_codes.specs.AnswerCode.{AnswerCode, drew_both}
use Rattle.tessellate.specs.Draws.{point_words}
use Rattle.share_state.specs.declared.state.Designer.{Designer}
use Rattle.share_state.specs.declared.state.Share.{Share}
use Rattle.share_state.specs.declared.state.SharedList.{SharedList}
use Rattle.share_state.specs.declared.state.State.{State}
use Rattle.std.proofs.Common.{Result, Ok}
use Rattle.measure.specs.declared.size.DrawnCounts.{DrawnCounts}
use Rattle.share_answers.specs.declared.answer.ShareRefusal.{ShareRefusal}
use Rattle.share_state.specs.SharedList.{share, left, grown, appended}
use Rattle.share_state.specs.Answers.{accepted, lent, sound_state}
use Rattle.share_answers.specs.Answers.{draw_code, room_verdict, part_verdict, share_verdict, draw_verdict, points_held}
use Rattle.share_draw.specs.Operations.{shifted_indices, DidDraw}
use Rattle.share_draw.specs.Room.{RoomFor, Appended}
use Rattle.share_state.proofs.Sound.{both, state_facts, lies}
use Rattle.share_answers.proofs.Passed.{Passed, passed}

-- a state by its two shared lists
both_lists : {a a' b b' : SharedList} → a ≡ a' → b ≡ b' → ◌≡◌ {A = State} (record { vertices = a; indices = b }) (record { vertices = a'; indices = b' })
both_lists e f = cc

-- if no test refuses, the counts are those of the patch
counts : (set : Settings) (p : Patch) (ok : Bool) (n v i : ℕ) → Passed set p ok n v i → share_verdict set p ok n v i ≡ drew_both (points_of set p) (indices_of set p)
unfolding share_verdict part_verdict room_verdict
counts set p ok n v i h =
    rw (h.top, h.state, h.drawn, le-ltb 65535 (n + points_of set p) h.numbered, le-ltb v (3 * points_of set p) h.vertices, le-ltb i (indices_of set p) h.indices)

-- what the two writers require
pub record Ready (d : Designer) (s : State) (set : Settings) (p : Patch) (vs is : List ℕ) (m k : ℕ) : Type 0 where
  pub vertices : RoomFor set p (3 * points_of set p) d s.vertices vs
  pub indices : RoomFor set p (indices_of set p) d s.indices is
  pub points : m ≡ points_of set p
  pub words : k ≡ indices_of set p
  pub numbered : points_held d s + points_of set p ≤ 65535

module _ (d : Designer) (s : State) (set : Settings) (p : Patch) (vs is : List ℕ) where
  pub ready : (m k : ℕ) → drew_both m k ≡ draw_verdict d s set p (length vs) (length is) → Ready d s set p vs is m k
  unfolding lent
  ready m k e =
      let ok = accepted (length vs) (length is) s in
      let n = points_held d s in
      let v = left d s.vertices in
      let i = left d s.indices in
      let h = passed set p ok n v i (ap (λ (t : AnswerCode). t.number) (sym e)) in
      let same : ◌≡◌ {A = List ℕ} (m ∷ k ∷ []) (points_of set p ∷ indices_of set p ∷ []) = ap (λ (t : AnswerCode). t.values) (e ∙ counts set p ok n v i h) in
      let a = both (lent (length vs) (length is) s.vertices.length s.indices.length) (sound_state s) h.state in
      let b = both (eqb (length vs) s.vertices.length) (eqb (length is) s.indices.length) a.0 in
      let lv = eqb-true (length vs) s.vertices.length b.0 in
      let li = eqb-true (length is) s.indices.length b.1 in
      let f = state_facts s a.1 in
      let fv = lies d f.vertices in
      let fi = lies d f.indices in
      record {
        vertices = record { top = h.top; drawn = h.drawn; room = omega (arith, h.vertices); inside = omega arith };
        indices = record { top = h.top; drawn = h.drawn; room = omega (arith, h.indices); inside = omega arith };
        points = cc;
        words = cc;
        numbered = h.numbered;
      }

  -- the same for an answer that is "drawn"
  pub ready_for : {k : DrawnCounts} (r : Result DrawnCounts ShareRefusal) → r ≡ Ok k → draw_code r ≡ draw_verdict d s set p (length vs) (length is)
      → Ready d s set p vs is k.points k.indices
  ready_for {k} r e h = ready k.points k.indices (ap draw_code (sym e) ∙ h)

  -- words were appended to both lists
  pub drew_both_lem : {k : DrawnCounts} (r : Result DrawnCounts ShareRefusal) → r ≡ Ok k → draw_code r ≡ draw_verdict d s set p (length vs) (length is)
      → {b : Share} → b ≡ share d s.vertices → {vs' is' : List ℕ} {t t' : SharedList} → Appended d (point_words set p) s.vertices vs vs' t
      → Appended d (shifted_indices (b.used / 3) set p) s.indices is is' t'
      → DidDraw d s set p vs vs' is is' (record { answer = Ok k; state = record { vertices = t; indices = t' } })
  drew_both_lem r e h b a a' =
      let n = ap (λ (x : Share). x.used / 3) b in
      let shares = a'.shares ∙ ap (λ (k : ℕ). grown d (shifted_indices k set p) s.indices) n in
      record {
        answer = ap draw_code (sym e) ∙ h;
        state = both_lists a.shares shares;
        vertices = a.list;
        indices = a'.list ∙ ap (λ (k : ℕ). appended d (shifted_indices k set p) s.indices is) n;
      }
