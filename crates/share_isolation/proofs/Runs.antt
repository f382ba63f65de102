-- Calls of the operations do what the definitions say, so the other designer's calls do not affect them. Assumes nothing.
use Prim.Native.Nat.{ℕ, zero, suc}
use mathlib.Core.Path.{◌≡◌, refl, sym, ap, subst, ◌∙◌}
use mathlib.Core.Bool.{Bool, true, false, cond}
use mathlib.Core.List.{List}
use native.Mathlib.Omega.{arith}
use lib.ListN.{length}
use Rattle.std.specs.Prelude.{Result, Ok, Err}
use Rattle.answer_codes.specs.AnswerCode.{AnswerCode, refused, done}
use Rattle.tessellate.specs.Draws.{point_words}
use Rattle.share_state.specs.declared.state.Designer.{Designer}
use Rattle.share_state.specs.declared.state.State.{State}
use Rattle.share_state.specs.declared.state.Quota.{Quota}
use Rattle.share_state.specs.SharedList.{appended}
use Rattle.share_state.specs.declared.answer.QuotasTooLarge.{QuotasTooLarge}
use Rattle.share_state.specs.Answers.{clear_code, quotas_fit}
use Rattle.share_answers.specs.Answers.{draw_code}
use Rattle.share_state.specs.Operations.{unless_refused, start_state, cleared_state}
use Rattle.share_draw.specs.Operations.{new_indices, drawn_state}
use Rattle.share_isolation.specs.Session.{draw, clear, Call, Session, DesignerAnswer, answer_to, served, reply, session_after, calls_of, answers_of, view, quota_of, begun}
use Rattle.share_isolation.specs.Run.{Begun, begin, Made, drew, cleared, Ran}
use Rattle.share_isolation.proofs.Steps.{Played, ran_is}
use Rattle.share_isolation.proofs.Isolation.{begun_good, kept_lengths, isolated, own_only}

-- a session by its parts
pub session_of : {a a' : State} {b b' c c' : List ℕ} → a ≡ a' → b ≡ b' → c ≡ c'
    → ◌≡◌ {A = Session} (record { state = a; vertices = b; indices = c }) (record { state = a'; vertices = b'; indices = c' })
session_of e f g = cc

-- what a call does
made_is : (s s' : Session) (c : Call) (a : DesignerAnswer) → Made s c a s' → (a ≡ reply s c) × (s' ≡ session_after s c)
unfolding answer_to served
made_is _ _ _ _ (drew s d set p v v' i i' r h l) = (
  ap (λ (t : AnswerCode). record { to = d; code = t }) h.answer,
  go (draw_code r.answer).number refl ∙ ap (λ (t : AnswerCode). unless_refused t.number (served s d (draw set p)) s) h.answer,
)
  where
    go : (n : ℕ) → (draw_code r.answer).number ≡ n
        → ◌≡◌ {A = Session} (record { state = r.state; vertices = unless_refused n v' s.vertices; indices = unless_refused n i' s.indices }) (unless_refused n (served s d (draw set p)) s)
    go zero e =
        session_of (h.state ∙ ap (λ (n : ℕ). unless_refused n (drawn_state d s.state set p) s.state) e)
        (h.vertices ∙ ap (λ (n : ℕ). unless_refused n (appended d (point_words set p) s.state.vertices v) v) e ∙ ap (appended d (point_words set p) s.state.vertices) (l.vertices e))
        (h.indices ∙ ap (λ (n : ℕ). unless_refused n (appended d (new_indices d s.state set p) s.state.indices i) i) e
        ∙ ap (appended d (new_indices d s.state set p) s.state.indices) (l.indices e))
    go (suc n) e = session_of (h.state ∙ ap (λ (n : ℕ). unless_refused n (drawn_state d s.state set p) s.state) e) refl refl
made_is _ _ _ _ (cleared s d v i r h) = (
  ap (λ (t : AnswerCode). record { to = d; code = t }) h.answer,
  go (clear_code r.answer).number refl ∙ ap (λ (t : AnswerCode). unless_refused t.number (served s d clear) s) h.answer,
)
  where
    go : (n : ℕ) → (clear_code r.answer).number ≡ n
        → ◌≡◌ {A = Session} (record { state = r.state; vertices = s.vertices; indices = s.indices }) (unless_refused n (served s d clear) s)
    go zero e = session_of (h.state ∙ ap (λ (n : ℕ). unless_refused n (cleared_state d s.state) s.state) e) refl refl
    go (suc n) e = session_of (h.state ∙ ap (λ (n : ℕ). unless_refused n (cleared_state d s.state) s.state) e) refl refl

-- ---- an accepted start
-- the quotas fit, and the session is that of the definitions
record Is-begun (a b : Quota) (v i : List ℕ) (s : Session) : Type 0 where
  fit : quotas_fit (length v) (length i) a b ≡ true
  is : s ≡ begun a b v i

begun_is : {a b : Quota} {v i : List ℕ} {s : Session} → Begun a b v i s → Is-begun a b v i s
begun_is {a} {b} {v} {i} (begin s h) = go (quotas_fit (length v) (length i) a b) refl h.answer h.is
  where
    go : (x : Bool) → quotas_fit (length v) (length i) a b ≡ x → done ≡ cond x done (refused 12)
        → ◌≡◌ {A = Result State QuotasTooLarge} (Ok s) (cond x (Ok (start_state (length v) (length i) a b)) (Err (record {})))
        → Is-begun a b v i (record { state = s; vertices = v; indices = i })
    go true e k j = let same : s ≡ start_state (length v) (length i) a b = cc in record { fit = e; is = session_of same refl refl }
    go false e k j = let z : ◌≡◌ {A = ℕ} 0 12 = ap (λ (t : AnswerCode). t.number) k in absurd (omega arith)

-- a run from an accepted start is that of the definitions
run_is : {a b : Quota} {v i : List ℕ} {s s' : Session} {cs : List Call} {xs : List DesignerAnswer} → Begun a b v i s → Ran s cs xs s'
    → Played session_after reply (begun a b v i) cs xs s'
run_is {s' = s'} {cs = cs} {xs = xs} b r = subst (λ (x : Session). Played session_after reply x cs xs s') (begun_is b).is (ran_is Made (λ x. x) session_after reply made_is r)

-- what one designer gets from a run is the same as from a run in which the other's calls were never made: answers with their
-- counts, part of the state, and words
pub undisturbed : (a b : Quota) (v i : List ℕ) (d : Designer) (cs : List Call) {xs ys : List DesignerAnswer} {s₀ s s' : Session} → Begun a b v i s₀
    → Ran s₀ cs xs s → Ran s₀ (calls_of d cs) ys s' → (answers_of d xs ≡ answers_of d ys) × (view d s ≡ view d s')
undisturbed a b v i d cs g r r' =
    let h = isolated a b v i (begun_is g).fit d cs in
    let p = run_is g r in
    let q = run_is g r' in
    (ap (answers_of d) p.told ∙ h.answered ∙ ap (answers_of d) (sym q.told), ap (view d) p.left ∙ h.left ∙ ap (view d) (sym q.left))

-- answers depend only on the own quota, the own calls and the lengths of the two lists at the start
pub own_runs : (d : Designer) (a b a' b' : Quota) (v v' i i' : List ℕ) → quota_of d a b ≡ quota_of d a' b' → length v ≡ length v' → length i ≡ length i'
    → (cs cs' : List Call) → calls_of d cs ≡ calls_of d cs' → {xs ys : List DesignerAnswer} {s₀ s₀' s s' : Session} → Begun a b v i s₀ → Begun a' b' v' i' s₀'
    → Ran s₀ cs xs s → Ran s₀' cs' ys s' → answers_of d xs ≡ answers_of d ys
own_runs d a b a' b' v v' i i' q m n cs cs' e g g' r r' =
    ap (answers_of d) (run_is g r).told ∙ own_only d a b a' b' v v' i i' (begun_is g).fit (begun_is g').fit q m n cs cs' e ∙ ap (answers_of d) (sym (run_is g' r').told)

-- a run leaves lists of the same lengths as at the start
pub record SameLengths (v i : List ℕ) (s : Session) : Type 0 where
  pub vertices : length s.vertices ≡ length v
  pub indices : length s.indices ≡ length i

pub same_lengths : {a b : Quota} {v i : List ℕ} {s₀ s : Session} {cs : List Call} {xs : List DesignerAnswer} → Begun a b v i s₀ → Ran s₀ cs xs s → SameLengths v i s
same_lengths {a} {b} {v} {i} {cs = cs} g r =
    let h = kept_lengths (begun a b v i) (begun_good a b v i (begun_is g).fit) cs in
    let e = (run_is g r).left in
    record { vertices = ap (λ (x : Session). length x.vertices) e ∙ h.0; indices = ap (λ (x : Session). length x.indices) e ∙ h.1 }

-- after a new start on the lists that a run left, a designer's answers are those after a start with the same own quota on unused lists
pub anew : (d : Designer) (a b a' b' a'' b'' : Quota) (v i : List ℕ) (before cs cs' : List Call) {xs ys zs : List DesignerAnswer} {s₀ s s₁ s₁' s₂ s₂' : Session}
    → Begun a b v i s₀ → Ran s₀ before xs s → Begun a' b' s.vertices s.indices s₁ → Ran s₁ cs ys s₁' → Begun a'' b'' v i s₂ → Ran s₂ cs' zs s₂'
    → quota_of d a' b' ≡ quota_of d a'' b'' → calls_of d cs ≡ calls_of d cs' → answers_of d ys ≡ answers_of d zs
anew d a b a' b' a'' b'' v i before cs cs' g r g₁ r₁ g₂ r₂ q e =
    let h = same_lengths g r in
    own_runs d a' b' a'' b'' _ v _ i q h.vertices h.indices cs cs' e g₁ g₂ r₁ r₂
