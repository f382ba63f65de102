-- Isolation: whatever one designer does or is refused, the other's answers, counts and words are the same as without it.
-- Answers depend only on the designer's own quotas and calls, and on the lengths of the two lists. Assumes nothing.
use Prim.Native.Nat.{ℕ, ◌+◌}
use mathlib.Core.Path.{◌≡◌, refl, sym, ap, ◌∙◌}
use mathlib.Core.Bool.{Bool, true}
use mathlib.Core.List.{List}
use native.Mathlib.Omega.{arith}
use borrow.Author.Tests.{leb-true}
use lib.Dec.{leb}
use lib.ListN.{length}
use Rattle.answer_codes.specs.AnswerCode.{AnswerCode}
use Rattle.share_state.specs.declared.state.Designer.{Designer}
use Rattle.share_state.specs.declared.state.Designer.TheVariants.{First, Second}
use Rattle.share_state.specs.declared.state.Quota.{Quota}
use Rattle.share_state.specs.Answers.{quotas_fit}
use Rattle.share_isolation.specs.Session.{Call, Session, DesignerAnswer, answers, play, reply, session_after, same_designer, calls_of, answers_of, own_state, OwnState, View, view, quota_of, begun}
use Rattle.share_state.proofs.Sound.{both}
use Rattle.share_isolation.proofs.Steps.{those_twice, seen, answered, kept_after}
use Rattle.share_isolation.proofs.Seen.{same_is}
use Rattle.share_isolation.proofs.OwnState.{own_state_next, view_next, own_reply, own_state_answers, view_after}
use Rattle.share_isolation.proofs.Step.{Good, good_next, length_next, other_next, own_answer, own_next, own_state_next_lem}

-- an accepted start begins a good session
pub begun_good : (a b : Quota) (v i : List ℕ) → quotas_fit (length v) (length i) a b ≡ true → Good (begun a b v i)
unfolding quotas_fit
begun_good a b v i e =
    let h = both (leb (a.vertices + b.vertices) (length v)) (leb (a.indices + b.indices) (length i)) e in
    let m = leb-true (a.vertices + b.vertices) (length v) h.0 in
    let n = leb-true (a.indices + b.indices) (length i) h.1 in
    record {
      sound = record { vertices = omega arith; indices = omega arith; whole = record { first = refl; second = refl } };
      vertices = refl;
      indices = refl;
    }

module _ (d : Designer) where
  abbrev mine : Call → Bool
  mine c = same_designer d c.by

  abbrev its : DesignerAnswer → Bool
  its a = same_designer d a.to

  -- the view after calls is that after the designer's own calls
  own_view : (s : Session) → Good s → (cs : List Call) → view d (play s cs) ≡ view_after (view d s) (calls_of d cs)
  own_view = seen session_after Good good_next mine (view d) view_next (λ s g c e. own_next s g d c (same_is d c.by e)) (λ s g c e. other_next s g d c e)

  -- so are the answers
  own_answers : (s : Session) → Good s → (cs : List Call) → answers_of d (answers s cs) ≡ own_state_answers (own_state d s.state) (calls_of d cs)
  own_answers =
      answered session_after Good good_next mine (λ (s : Session). own_state d s.state) own_state_next (λ s g c e. own_state_next_lem s g d c (same_is d c.by e))
      (λ s g c e. ap (λ (w : View). w.state) (other_next s g d c e)) its reply own_reply (λ s c. refl)
      (λ s g c e. ap (λ (t : AnswerCode). record { to = c.by; code = t }) (own_answer s g d c (same_is d c.by e)))

  -- selecting a designer's calls twice changes nothing
  own_calls : (cs : List Call) → calls_of d (calls_of d cs) ≡ calls_of d cs
  own_calls = those_twice mine

-- calls keep the lengths of the lists
pub kept_lengths : (s : Session) → Good s → (cs : List Call) → (length (play s cs).vertices ≡ length s.vertices) × (length (play s cs).indices ≡ length s.indices)
kept_lengths s g cs = (
  kept_after session_after Good good_next (λ (x : Session). length x.vertices) (λ x h c. (length_next x h c).0) s g cs,
  kept_after session_after Good good_next (λ (x : Session). length x.indices) (λ x h c. (length_next x h c).1) s g cs,
)

-- what one designer gets from all calls is the same as from the designer's own calls alone
pub record Undisturbed (d : Designer) (s : Session) (cs : List Call) : Type 0 where
  -- the answers, with their counts
  pub answered : answers_of d (answers s cs) ≡ answers_of d (answers s (calls_of d cs))
  -- the part of the state, and the words of both parts
  pub left : view d (play s cs) ≡ view d (play s (calls_of d cs))

-- whatever the other designer does or is refused
pub isolated : (a b : Quota) (v i : List ℕ) → quotas_fit (length v) (length i) a b ≡ true → (d : Designer) (cs : List Call) → Undisturbed d (begun a b v i) cs
isolated a b v i ok d cs =
    let s = begun a b v i in
    let g = begun_good a b v i ok in
    record {
      answered = own_answers d s g cs ∙ ap (own_state_answers (own_state d s.state)) (sym (own_calls d cs)) ∙ sym (own_answers d s g (calls_of d cs));
      left = own_view d s g cs ∙ ap (view_after (view d s)) (sym (own_calls d cs)) ∙ sym (own_view d s g (calls_of d cs));
    }

-- a designer's part of the state after a start depends on the own quota and the lengths
pub start_own_state : (d : Designer) (a b a' b' : Quota) (v v' i i' : List ℕ) → quota_of d a b ≡ quota_of d a' b' → length v ≡ length v' → length i ≡ length i'
    → own_state d (begun a b v i).state ≡ own_state d (begun a' b' v' i').state
start_own_state First a b a' b' v v' i i' q m n = rw (q, m, n)
start_own_state Second a b a' b' v v' i i' q m n = rw (q, m, n)

-- answers depend only on the own quota and calls, and on the lengths of the lists at the start
pub own_only : (d : Designer) (a b a' b' : Quota) (v v' i i' : List ℕ) → quotas_fit (length v) (length i) a b ≡ true → quotas_fit (length v') (length i') a' b' ≡ true
    → quota_of d a b ≡ quota_of d a' b' → length v ≡ length v' → length i ≡ length i' → (cs cs' : List Call) → calls_of d cs ≡ calls_of d cs'
    → answers_of d (answers (begun a b v i) cs) ≡ answers_of d (answers (begun a' b' v' i') cs')
own_only d a b a' b' v v' i i' ok ok' q m n cs cs' e =
    own_answers d (begun a b v i) (begun_good a b v i ok) cs
    ∙ ap (λ (x : OwnState). own_state_answers x (calls_of d cs)) (start_own_state d a b a' b' v v' i i' q m n)
    ∙ ap (own_state_answers (own_state d (begun a' b' v' i').state)) e
    ∙ sym (own_answers d (begun a' b' v' i') (begun_good a' b' v' i' ok') cs')
