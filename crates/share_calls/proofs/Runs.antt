-- Runs of the exported calls: the calls of the other designer, and of unknown designers, do not affect what a designer gets. Assumes nothing.
use Prim.Native.Nat.{ℕ, ◌≤◌}
use mathlib.Core.Path.{◌≡◌, refl, sym, ap, ap₂, ◌∙◌}
use mathlib.Core.Bool.{Bool, true, false, cond}
use mathlib.Core.List.{List}
use native.Mathlib.Omega.{arith}
use lib.Dec.{eqb}
use lib.ListN.{length}
use Rattle.answer_codes.specs.AnswerCode.{refused, done}
use Rattle.share_state.specs.Answers.{quotas_fit}
use Rattle.share_words.specs.Words.{state_in, quota_in, designer_of}
use Rattle.share_words.specs.Memory.{Memory}
use Rattle.share_isolation.specs.Session.{Session, OwnState, View, own_state, begun}
use Rattle.share_isolation.specs.Session as runs
use Rattle.share_isolation.proofs.Step.{Good}
use Rattle.share_isolation.proofs.Isolation.{begun_good, start_own_state}
use Rattle.share_calls.specs.Run.{RawCall, RawAnswer, RawBegun, begin, RawMade, RawRan, raw_calls_of, raw_answers_of, session_in, raw_view, raw_quota_of}
use Rattle.share_isolation.specs.Steps.{state_after, replies}
use Rattle.share_isolation.proofs.Steps.{Played, ran_is, those_twice, kept_after, seen, answered}
use Rattle.share_calls.proofs.Calls.{reply, step, own_reply, own_step, view_step, good_step, length_step, own_reply_lem, own_step_lem, own_view, other_view, made_is}

-- a run of calls is what the steps give
played : {m m' : Memory} {cs : List RawCall} {xs : List RawAnswer} → RawRan m cs xs m' → Played step reply (session_in m) cs xs (session_in m')
played = ran_is RawMade session_in step reply made_is

-- a start that was answered with 0: the quotas fit, and the session in memory is that of the operation
record Is-begun (q v i : List ℕ) (m : Memory) : Type 0 where
  fit : quotas_fit (length v) (length i) (quota_in q 0) (quota_in q 2) ≡ true
  is : session_in m ≡ begun (quota_in q 0) (quota_in q 2) v i

begun_is : {q v i : List ℕ} {m : Memory} → RawBegun q v i m → Is-begun q v i m
begun_is {q} {v} {i} (begin w w' h) = record { fit = go (quotas_fit (length v) (length i) (quota_in q 0) (quota_in q 2)) h.number; is = ap of h.state }
  where
    go : (b : Bool) → 0 ≡ (cond b done (refused 12)).number → b ≡ true
    go true e = refl
    go false e = absurd (omega arith)

    of : List ℕ → Session
    of ws = record { state = state_in ws; vertices = v; indices = i }

module _ (d : ℕ) (known : d ≤ 1) where
  abbrev mine : RawCall → Bool
  mine c = eqb c.by d

  abbrev its : RawAnswer → Bool
  its a = eqb a.to d

  -- the answers depend only on the own part of the state and the own calls
  own_answers : (s : Session) → Good s → (cs : List RawCall) → raw_answers_of d (replies step reply s cs) ≡ replies own_step own_reply (own_state (designer_of d) s.state) (raw_calls_of d cs)
  own_answers =
      answered step Good good_step mine (λ (s : Session). own_state (designer_of d) s.state) own_step (λ s g c e. own_step_lem s g d c e)
      (λ s g c e. ap (λ (w : View). w.state) (other_view s g d known c e)) its reply own_reply (λ s c. refl) (λ s g c e. own_reply_lem s g d c e)

  -- the view depends only on the own view and the own calls
  own_views : (s : Session) → Good s → (cs : List RawCall) → runs.view (designer_of d) (state_after step s cs) ≡ state_after view_step (runs.view (designer_of d) s) (raw_calls_of d cs)
  own_views = seen step Good good_step mine (λ (s : Session). runs.view (designer_of d) s) view_step (λ s g c e. own_view s g d c e) (λ s g c e. other_view s g d known c e)

  module _ {q v i : List ℕ} {m₀ : Memory} (b : RawBegun q v i m₀) where
    good_start : Good (session_in m₀)
    good_start = rw (begun_is b).is (begun_good (quota_in q 0) (quota_in q 2) v i (begun_is b).fit)

    answers_are : {cs : List RawCall} {xs : List RawAnswer} {m : Memory} → RawRan m₀ cs xs m
        → raw_answers_of d xs ≡ replies own_step own_reply (own_state (designer_of d) (session_in m₀).state) (raw_calls_of d cs)
    answers_are {cs} r = ap (raw_answers_of d) (played r).told ∙ own_answers (session_in m₀) good_start cs

    -- what one designer gets from a run is the same as from a run in which nobody else's calls were made: answers with their
    -- counts, quotas and used words, and the words of both parts
    pub undisturbed : (cs : List RawCall) {xs ys : List RawAnswer} {m m' : Memory} → RawRan m₀ cs xs m → RawRan m₀ (raw_calls_of d cs) ys m'
        → (raw_answers_of d xs ≡ raw_answers_of d ys) × (raw_view d m ≡ raw_view d m')
    undisturbed cs r r' =
        let twice = those_twice mine cs in
        let s = session_in m₀ in (
          answers_are r ∙ ap (replies own_step own_reply (own_state (designer_of d) s.state)) (sym twice) ∙ sym (answers_are r'),
          ap (runs.view (designer_of d)) (played r).left ∙ own_views s good_start cs ∙ ap (state_after view_step (runs.view (designer_of d) s)) (sym twice)
              ∙ sym (own_views s good_start (raw_calls_of d cs)) ∙ ap (runs.view (designer_of d)) (sym (played r').left),
        )

  -- answers depend only on the own quota, the own calls and the lengths of the two lists at the start
  pub own_runs : (q q' v v' i i' : List ℕ) → raw_quota_of d q ≡ raw_quota_of d q' → length v ≡ length v' → length i ≡ length i' → (cs cs' : List RawCall)
      → raw_calls_of d cs ≡ raw_calls_of d cs' → {xs ys : List RawAnswer} {m₀ m₀' m m' : Memory} → RawBegun q v i m₀ → RawBegun q' v' i' m₀' → RawRan m₀ cs xs m → RawRan m₀' cs' ys m'
      → raw_answers_of d xs ≡ raw_answers_of d ys
  own_runs q q' v v' i i' e n k cs cs' f {m₀ = m₀} {m₀' = m₀'} b b' r r' =
      let own : Session → OwnState = λ (s : Session). own_state (designer_of d) s.state in
      let same : own (session_in m₀) ≡ own (session_in m₀') =
      ap own (begun_is b).is ∙ start_own_state (designer_of d) (quota_in q 0) (quota_in q 2) (quota_in q' 0) (quota_in q' 2) v v' i i' e n k ∙ ap own (sym (begun_is b').is) in
      answers_are b r ∙ ap₂ (λ (o : OwnState) (l : List RawCall). replies own_step own_reply o l) same f ∙ sym (answers_are b' r')

-- a run leaves lists of the same lengths as at the start
kept_lengths : (s : Session) → Good s → (cs : List RawCall) → (length (state_after step s cs).vertices ≡ length s.vertices) × (length (state_after step s cs).indices ≡ length s.indices)
kept_lengths s g cs = (
  kept_after step Good good_step (λ (x : Session). length x.vertices) (λ x h c. (length_step x h c).0) s g cs,
  kept_after step Good good_step (λ (x : Session). length x.indices) (λ x h c. (length_step x h c).1) s g cs,
)

pub record SameLengths (v i : List ℕ) (m : Memory) : Type 0 where
  pub vertices : length m.vertices ≡ length v
  pub indices : length m.indices ≡ length i

pub same_lengths : {q v i : List ℕ} {m₀ m : Memory} {cs : List RawCall} {xs : List RawAnswer} → RawBegun q v i m₀ → RawRan m₀ cs xs m → SameLengths v i m
same_lengths {q} {v} {i} {cs = cs} b r =
    let s = begun (quota_in q 0) (quota_in q 2) v i in
    let h = kept_lengths s (begun_good (quota_in q 0) (quota_in q 2) v i (begun_is b).fit) cs in
    let e = (played r).left ∙ ap (λ (x : Session). state_after step x cs) (begun_is b).is in
    record { vertices = ap (λ (x : Session). length x.vertices) e ∙ h.0; indices = ap (λ (x : Session). length x.indices) e ∙ h.1 }

-- after a new start on the lists that a run left, a designer's answers are those after a start with the same own quota on unused lists
pub anew : (d : ℕ) → d ≤ 1 → (q q' q'' v i : List ℕ) (before cs cs' : List RawCall) {xs ys zs : List RawAnswer} {m₀ m m₁ m₁' m₂ m₂' : Memory}
    → RawBegun q v i m₀ → RawRan m₀ before xs m → RawBegun q' m.vertices m.indices m₁ → RawRan m₁ cs ys m₁' → RawBegun q'' v i m₂ → RawRan m₂ cs' zs m₂'
    → raw_quota_of d q' ≡ raw_quota_of d q'' → raw_calls_of d cs ≡ raw_calls_of d cs' → raw_answers_of d ys ≡ raw_answers_of d zs
anew d known q q' q'' v i before cs cs' {m = m} b r b₁ r₁ b₂ r₂ e f =
    let h = same_lengths b r in
    own_runs d known q' q'' m.vertices v m.indices i e h.vertices h.indices cs cs' f b₁ b₂ r₁ r₂
