-- One call: the session stays good, an own call depends on the own view, and the other's call keeps that view. Assumes nothing.
use Prim.Native.Nat.{ℕ, zero, suc, ◌+◌, ◌%◌, ◌≤◌}
use mathlib.Core.Path.{◌≡◌, refl, sym, ap, ◌∙◌}
use mathlib.Core.Bool.{false}
use mathlib.Core.List.{List}
use native.Mathlib.Omega.{arith}
use lib.ListN.{length}
use Rattle.patch.specs.declared.kinds.Patch.{Patch}
use Rattle.patch.specs.declared.settings.Settings.{Settings}
use Rattle.answer_codes.specs.AnswerCode.{AnswerCode}
use Rattle.tessellate.specs.Draws.{point_words}
use Rattle.share_state.specs.declared.state.Designer.{Designer}
use Rattle.share_state.specs.declared.state.Share.{Share}
use Rattle.share_state.specs.declared.state.State.{State}
use Rattle.share_state.specs.SharedList.{share, left}
use Rattle.share_state.specs.Answers.{lent, accepted}
use Rattle.share_answers.specs.Answers.{points_held}
use Rattle.share_state.specs.Operations.{unless_refused}
use Rattle.share_draw.specs.Operations.{new_indices}
use Rattle.share_isolation.specs.Session.{Request, draw, clear, Call, Session, answer_to, served, session_after, answer, same_designer, own_state, View, view}
use Rattle.share_state.proofs.Sound.{and-true, SoundState, state_test, lies, still_sound, still_whole, whole_points_lem}
use Rattle.share_answers.proofs.Passed.{passed}
use Rattle.share_draw.proofs.Counts.{point_words_lem, index_words_lem}
use Rattle.share_isolation.proofs.Seen.{own_share, other_share, same_length, same_part, append_length, append_own, append_other}
use Rattle.share_isolation.proofs.OwnState.{answer_of, own_state_served, view_served, own_state_next, view_next, call_answer}

-- a session that can occur after a start: a sound state, and lists of the start's lengths
pub record Good (s : Session) : Type 0 where
  pub sound : SoundState s.state
  pub vertices : length s.vertices ≡ s.state.vertices.length
  pub indices : length s.indices ≡ s.state.indices.length

-- the room that a request needs
pub record Room (s : State) (d : Designer) (set : Settings) (p : Patch) : Type 0 where
  pub vertices : (share d s.vertices).used + length (point_words set p) ≤ (share d s.vertices).quota
  pub indices : (share d s.indices).used + length (new_indices d s set p) ≤ (share d s.indices).quota
  pub whole : ((share d s.vertices).used + length (point_words set p)) % 3 ≡ 0

abbrev Served : State → Designer → Request → Type 0
Served s d (draw set p) = Room s d set p
Served s d clear = Unit {0}

module _ (s : State) (f : SoundState s) where
  -- a request that is not refused has room
  has_room : (d : Designer) (r : Request) (v i : ℕ) → (answer_to s d r v i).number ≡ 0 → Served s d r
  unfolding answer_to
  has_room d (draw set p) v i h =
      let k = passed set p (accepted v i s) (points_held d s) (left d s.vertices) (left d s.indices) h in
      let a = lies d f.vertices in
      let b = lies d f.indices in
      record {
        vertices = omega (arith, point_words_lem set p);
        indices = omega (arith, index_words_lem (points_held d s) set p);
        whole = omega (arith, point_words_lem set p, whole_points_lem d f.whole);
      }
  has_room d clear v i h = tt

  -- the answer depends only on the own part of the state and the lengths of the lists lent
  pub answer_own : (d : Designer) (r : Request) (v i : ℕ) → answer_to s d r v i ≡ answer_of (own_state d s) r v i
  unfolding answer_to answer_of
  answer_own d (draw set p) v i = rw (and-true (lent v i s.vertices.length s.indices.length) (state_test s f))
  answer_own d clear v i = rw (and-true (lent v i s.vertices.length s.indices.length) (state_test s f))

-- a view by its six parts
made : ℕ → ℕ → Share → Share → List ℕ → List ℕ → View
made m n s t xs ys = record { state = record { vertex_length = m; index_length = n; vertices = s; indices = t }; vertices = xs; indices = ys }

same_view : {m m' n n' : ℕ} {s s' t t' : Share} {xs xs' ys ys' : List ℕ} → m ≡ m' → n ≡ n' → s ≡ s' → t ≡ t' → xs ≡ xs' → ys ≡ ys'
    → made m n s t xs ys ≡ made m' n' s' t' xs' ys'
same_view a b c d e f = cc

module _ (s : Session) (g : Good s) where
  -- a served request keeps the lengths of the lists
  length_served : (d : Designer) (r : Request) → Served s.state d r
      → (length (served s d r).vertices ≡ length s.vertices) × (length (served s d r).indices ≡ length s.indices)
  unfolding served
  length_served d (draw set p) h = (
    append_length s.state.vertices s.vertices g.sound.vertices g.vertices d (point_words set p) h.vertices,
    append_length s.state.indices s.indices g.sound.indices g.indices d (new_indices d s.state set p) h.indices,
  )
  length_served d clear h = (refl, refl)

  -- a served request keeps the session good
  good_served : (d : Designer) (r : Request) → Served s.state d r → Good (served s d r)
  unfolding served
  good_served d (draw set p) h = record {
    sound = record {
      vertices = still_sound d _ g.sound.vertices h.vertices;
      indices = still_sound d _ g.sound.indices h.indices;
      whole = still_whole d _ g.sound.whole h.whole;
    };
    vertices = (length_served d (draw set p) h).0 ∙ g.vertices ∙ sym (same_length d _ s.state.vertices);
    indices = (length_served d (draw set p) h).1 ∙ g.indices ∙ sym (same_length d _ s.state.indices);
  }
  good_served d clear h = record {
    sound = record {
      vertices = still_sound d 0 g.sound.vertices (omega arith);
      indices = still_sound d 0 g.sound.indices (omega arith);
      whole = still_whole d 0 g.sound.whole refl;
    };
    vertices = g.vertices ∙ sym (same_length d 0 s.state.vertices);
    indices = g.indices ∙ sym (same_length d 0 s.state.indices);
  }

  -- an own request depends only on the own view
  own_served : (d : Designer) (r : Request) → Served s.state d r → view d (served s d r) ≡ view_served (view d s) r
  unfolding served view_served own_state_served made
  own_served d (draw set p) h =
      same_view (same_length d _ _) (same_length d _ _) (own_share d _ _) (own_share d _ _)
      (same_part d d _ s.state.vertices _ ∙ append_own s.state.vertices s.vertices g.sound.vertices g.vertices d (point_words set p) h.vertices)
      (same_part d d _ s.state.indices _ ∙ append_own s.state.indices s.indices g.sound.indices g.indices d (new_indices d s.state set p) h.indices)
  own_served d clear h =
      same_view (same_length d _ _) (same_length d _ _) (own_share d _ _) (own_share d _ _) (same_part d d 0 s.state.vertices _) (same_part d d 0 s.state.indices _)

  -- the other's request keeps the view
  other_served : (d e : Designer) → same_designer d e ≡ false → (r : Request) → Served s.state e r → view d (served s e r) ≡ view d s
  unfolding served made
  other_served d e n (draw set p) h =
      same_view (same_length e _ _) (same_length e _ _) (other_share d e n _ _) (other_share d e n _ _)
      (same_part d e _ s.state.vertices _ ∙ append_other s.state.vertices s.vertices g.sound.vertices g.vertices d e n (point_words set p) h.vertices)
      (same_part d e _ s.state.indices _ ∙ append_other s.state.indices s.indices g.sound.indices g.indices d e n (new_indices e s.state set p) h.indices)
  other_served d e n clear h =
      same_view (same_length e _ _) (same_length e _ _) (other_share d e n _ _) (other_share d e n _ _) (same_part d e 0 s.state.vertices _) (same_part d e 0 s.state.indices _)

  -- ---- the same for a call, refused or not
  pub good_next : (c : Call) → Good (session_after s c)
  good_next c = go (answer s c).number refl
    where
      go : (n : ℕ) → (answer s c).number ≡ n → Good (unless_refused n (served s c.by c.request) s)
      go zero e = good_served c.by c.request (has_room s.state g.sound c.by c.request c.vertices c.indices e)
      go (suc n) e = g

  -- the lists keep their lengths
  pub length_next : (c : Call) → (length (session_after s c).vertices ≡ length s.vertices) × (length (session_after s c).indices ≡ length s.indices)
  length_next c = go (answer s c).number refl
    where
      go : (n : ℕ) → (answer s c).number ≡ n
          → (length (unless_refused n (served s c.by c.request) s).vertices ≡ length s.vertices)
          × (length (unless_refused n (served s c.by c.request) s).indices ≡ length s.indices)
      go zero e = length_served c.by c.request (has_room s.state g.sound c.by c.request c.vertices c.indices e)
      go (suc n) e = (refl, refl)

  pub other_next : (d : Designer) (c : Call) → same_designer d c.by ≡ false → view d (session_after s c) ≡ view d s
  other_next d c n = go (answer s c).number refl
    where
      go : (k : ℕ) → (answer s c).number ≡ k → view d (unless_refused k (served s c.by c.request) s) ≡ view d s
      go zero e = other_served d c.by n c.request (has_room s.state g.sound c.by c.request c.vertices c.indices e)
      go (suc k) e = refl

  -- the answer depends on the own part of the state
  pub own_answer : (d : Designer) (c : Call) → c.by ≡ d → answer s c ≡ call_answer (own_state d s.state) c
  own_answer d c e = answer_own s.state g.sound c.by c.request c.vertices c.indices ∙ ap (λ (x : Designer). call_answer (own_state x s.state) c) e

  pub own_next : (d : Designer) (c : Call) → c.by ≡ d → view d (session_after s c) ≡ view_next (view d s) c
  own_next d c e =
      go (answer s c).number refl ∙ ap (λ (t : AnswerCode). unless_refused t.number (view_served (view d s) c.request) (view d s)) (own_answer d c e)
    where
      go : (k : ℕ) → (answer s c).number ≡ k
          → view d (unless_refused k (served s c.by c.request) s) ≡ unless_refused k (view_served (view d s) c.request) (view d s)
      go zero h =
          ap (λ (x : Designer). view d (served s x c.request)) e
          ∙ own_served d c.request
          (has_room s.state g.sound d c.request c.vertices c.indices
          (ap (λ (x : Designer). (answer_to s.state x c.request c.vertices c.indices).number) (sym e) ∙ h))
      go (suc k) h = refl

  -- the own part of the state changes by itself
  pub own_state_next_lem : (d : Designer) (c : Call) → c.by ≡ d → own_state d (session_after s c).state ≡ own_state_next (own_state d s.state) c
  unfolding view_served
  own_state_next_lem d c e = ap (λ (w : View). w.state) (own_next d c e) ∙ go (call_answer (own_state d s.state) c).number c.request
    where
      go : (k : ℕ) (r : Request) → (unless_refused k (view_served (view d s) r) (view d s)).state ≡ unless_refused k (own_state_served (own_state d s.state) r) (own_state d s.state)
      go zero (draw set p) = refl
      go zero clear = refl
      go (suc k) r = refl
