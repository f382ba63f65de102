-- One call from C and the session in memory: either a refusal that only calls from C have applies and changes nothing, or the
-- call is that of the operation. Assumes nothing.
use Prim.Native.Nat.{ℕ, zero, suc, ◌≤◌}
use mathlib.Core.Path.{◌≡◌, refl, ap, ◌∙◌}
use mathlib.Core.Bool.{Bool, true, false, cond, true≢false}
use mathlib.Core.List.{List, []}
use native.Mathlib.Omega.{arith}
use borrow.Author.Tests.{ltb-false, eqb-true}
use lib.Dec.{ltb, eqb}
use lib.ListN.{length}
use Rattle.level.specs.Top.{is_top}
use Rattle.job_fields.specs.Settings.{first_unknown_setting}
use Rattle.answer_codes.specs.AnswerCode.{AnswerCode, refused, done}
use Rattle.call_answers.specs.Replies.{unknown_setting, bad_top, two_words}
use Rattle.call_inputs.specs.Inputs.{top_in, patch_in, settings_in}
use Rattle.share_state.specs.declared.state.Designer.{Designer}
use Rattle.share_state.specs.Answers.{accepted, lent, clear_verdict}
use Rattle.share_state.specs.Operations.{unless_refused, cleared_state}
use Rattle.share_state.proofs.Sound.{and-true, state_test}
use Rattle.share_answers.specs.Answers.{draw_verdict}
use Rattle.share_draw.specs.Operations.{drawn_state}
use Rattle.share_words.specs.Words.{state_in, state_words, designer_of}
use Rattle.share_words.specs.Memory.{Memory}
use Rattle.share_exports.specs.Calls.{unknown_designer, asked, clear_says}
use Rattle.share_exports.proofs.Calls.{asked_none, asked_some}
use Rattle.share_isolation.specs.Session.{Session, OwnState, View, same_designer, own_state, answer_to, served}
use Rattle.share_isolation.specs.Session as runs
use Rattle.share_isolation.proofs.OwnState.{call_answer, own_state_next, view_next}
use Rattle.share_isolation.proofs.Step.{Good, good_next, length_next, other_next, own_answer, own_next, own_state_next_lem}
use Rattle.share_isolation.proofs.Runs.{session_of}
use Rattle.share_calls.specs.Run.{RawRequest, draw, clear, RawCall, RawAnswer, RawMade, drew, cleared, session_in}

-- the operation's call
abbrev pub request_of : RawRequest → runs.Request
request_of (draw bs xs) = runs.draw (settings_in bs) (patch_in bs xs)
request_of clear = runs.clear

abbrev pub call_of : RawCall → runs.Call
call_of c = record { by = designer_of c.by; request = request_of c.request; vertices = c.vertices; indices = c.indices }

-- the refusal of a call, or the number 0
unfoldable pub against : ℕ → RawRequest → Bool → AnswerCode
against d (draw bs xs) ok = asked bs d ok done
against d clear ok = clear_says d ok

-- the answer of a call: its refusal, or the operation's answer
abbrev pub or_else : AnswerCode → AnswerCode → AnswerCode
or_else a t = unless_refused a.number t a

abbrev pub says_of : ℕ → RawRequest → Bool → AnswerCode → AnswerCode
says_of d r ok t = or_else (against d r ok) t

-- a call that is refused answers its refusal
asked_or : (bs : List ℕ) (d : ℕ) (ok : Bool) (t : AnswerCode) → asked bs d ok t ≡ or_else (asked bs d ok done) t
asked_or bs d ok t = go (asked bs d ok done).number refl
  where
    go : (n : ℕ) → (asked bs d ok done).number ≡ n → asked bs d ok t ≡ unless_refused n t (asked bs d ok done)
    go zero e = asked_none bs d ok t e
    go (suc n) e = asked_some bs d ok t n e

clear_or : (d : ℕ) (ok : Bool) → clear_says d ok ≡ or_else (clear_says d ok) (clear_verdict ok)
unfolding clear_says clear_verdict
clear_or d true = go (ltb 1 d)
  where
    go : (b : Bool) → cond b unknown_designer done ≡ or_else (cond b unknown_designer done) done
    go true = refl
    go false = refl
clear_or d false = refl

-- a call that is not refused has designer 0 or 1
known_designer : (d : ℕ) (r : RawRequest) (ok : Bool) → (against d r ok).number ≡ 0 → d ≤ 1
unfolding against asked clear_says
known_designer d r ok e = ltb-false 1 d (go r e)
  where
    drawing : (a b c u : Bool) (place : ℕ) → (cond a (cond b (cond c unknown_designer (cond u (unknown_setting place) done)) (refused 14)) bad_top).number ≡ 0 → c ≡ false
    drawing false b c u place e = absurd (omega arith)
    drawing true false c u place e = absurd (omega arith)
    drawing true true true u place e = absurd (omega arith)
    drawing true true false u place e = refl

    clearing : (b c : Bool) → (cond b (cond c unknown_designer done) (refused 14)).number ≡ 0 → c ≡ false
    clearing false c e = absurd (omega arith)
    clearing true true e = absurd (omega arith)
    clearing true false e = refl

    go : (r : RawRequest) → (against d r ok).number ≡ 0 → ltb 1 d ≡ false
    go (draw bs xs) e = drawing (is_top (top_in bs)) ok (ltb 1 d) (ltb (first_unknown_setting bs 0) 5) (first_unknown_setting bs 0) e
    go clear e = clearing ok (ltb 1 d) e

-- different numbers are different designers
apart : (d e : ℕ) → d ≤ 1 → e ≤ 1 → eqb e d ≡ false → same_designer (designer_of d) (designer_of e) ≡ false
apart zero zero h k f = absurd (true≢false f)
apart zero (suc zero) h k f = refl
apart (suc zero) zero h k f = refl
apart (suc zero) (suc zero) h k f = absurd (true≢false f)
apart (suc (suc d)) e h k f = absurd (omega arith)
apart zero (suc (suc e)) h k f = absurd (omega arith)
apart (suc zero) (suc (suc e)) h k f = absurd (omega arith)

-- ---- answers and sessions, call by call
-- the counts in memory after an answer
abbrev pub counts_for : RawRequest → AnswerCode → List ℕ
counts_for (draw bs xs) t = two_words t.values
counts_for clear t = []

-- the same for the own part of the state, which depends only on the lengths of the lists
abbrev own_against : OwnState → RawCall → AnswerCode
own_against o c = against c.by c.request (lent c.vertices c.indices o.vertex_length o.index_length)

abbrev stands_against : Session → RawCall → AnswerCode
stands_against s c = against c.by c.request (accepted c.vertices c.indices s.state)

abbrev answer_with : RawCall → AnswerCode → RawAnswer
answer_with c t = record { to = c.by; number = t.number; counts = counts_for c.request t }

abbrev pub reply : Session → RawCall → RawAnswer
reply s c = answer_with c (or_else (stands_against s c) (runs.answer s (call_of c)))

abbrev pub step : Session → RawCall → Session
step s c = unless_refused (stands_against s c).number (runs.session_after s (call_of c)) s

abbrev pub own_reply : OwnState → RawCall → RawAnswer
own_reply o c = answer_with c (or_else (own_against o c) (call_answer o (call_of c)))

abbrev pub own_step : OwnState → RawCall → OwnState
own_step o c = unless_refused (own_against o c).number (own_state_next o (call_of c)) o

abbrev pub view_step : View → RawCall → View
view_step w c = unless_refused (own_against w.state c).number (view_next w (call_of c)) w

module _ (s : Session) (g : Good s) where
  pub good_step : (c : RawCall) → Good (step s c)
  good_step c = go (stands_against s c).number
    where
      go : (n : ℕ) → Good (unless_refused n (runs.session_after s (call_of c)) s)
      go zero = good_next s g (call_of c)
      go (suc n) = g

  pub length_step : (c : RawCall) → (length (step s c).vertices ≡ length s.vertices) × (length (step s c).indices ≡ length s.indices)
  length_step c = go (stands_against s c).number
    where
      go : (n : ℕ) → (length (unless_refused n (runs.session_after s (call_of c)) s).vertices ≡ length s.vertices) ×
          (length (unless_refused n (runs.session_after s (call_of c)) s).indices ≡ length s.indices)
      go zero = length_next s g (call_of c)
      go (suc n) = (refl, refl)

  -- for a good session only the lengths matter
  same_against : (d : Designer) (c : RawCall) → stands_against s c ≡ own_against (own_state d s.state) c
  same_against d c =
      ap (against c.by c.request) (and-true (lent c.vertices c.indices s.state.vertices.length s.state.indices.length) (state_test s.state g.sound))

  module _ (d : ℕ) where
    named : (c : RawCall) → eqb c.by d ≡ true → designer_of c.by ≡ designer_of d
    named c e = ap designer_of (eqb-true c.by d e)

    pub own_reply_lem : (c : RawCall) → eqb c.by d ≡ true → reply s c ≡ own_reply (own_state (designer_of d) s.state) c
    own_reply_lem c e =
        ap (λ (t : AnswerCode). answer_with c (or_else t (runs.answer s (call_of c)))) (same_against (designer_of d) c)
        ∙ ap (λ (t : AnswerCode). answer_with c (or_else (own_against (own_state (designer_of d) s.state) c) t)) (own_answer s g (designer_of d) (call_of c) (named c e))

    pub own_step_lem : (c : RawCall) → eqb c.by d ≡ true → own_state (designer_of d) (step s c).state ≡ own_step (own_state (designer_of d) s.state) c
    own_step_lem c e =
        go (stands_against s c).number
        ∙ ap (λ (t : AnswerCode). unless_refused t.number (own_state_next (own_state (designer_of d) s.state) (call_of c)) (own_state (designer_of d) s.state)) (same_against (designer_of d) c)
      where
        go : (n : ℕ) → own_state (designer_of d) (unless_refused n (runs.session_after s (call_of c)) s).state
            ≡ unless_refused n (own_state_next (own_state (designer_of d) s.state) (call_of c)) (own_state (designer_of d) s.state)
        go zero = own_state_next_lem s g (designer_of d) (call_of c) (named c e)
        go (suc n) = refl

    pub own_view : (c : RawCall) → eqb c.by d ≡ true → runs.view (designer_of d) (step s c) ≡ view_step (runs.view (designer_of d) s) c
    own_view c e =
        go (stands_against s c).number
        ∙ ap (λ (t : AnswerCode). unless_refused t.number (view_next (runs.view (designer_of d) s) (call_of c)) (runs.view (designer_of d) s)) (same_against (designer_of d) c)
      where
        go : (n : ℕ) → runs.view (designer_of d) (unless_refused n (runs.session_after s (call_of c)) s)
            ≡ unless_refused n (view_next (runs.view (designer_of d) s) (call_of c)) (runs.view (designer_of d) s)
        go zero = own_next s g (designer_of d) (call_of c) (named c e)
        go (suc n) = refl

    -- a call of another designer, known or not, keeps the view
    pub other_view : d ≤ 1 → (c : RawCall) → eqb c.by d ≡ false → runs.view (designer_of d) (step s c) ≡ runs.view (designer_of d) s
    other_view h c e = go (stands_against s c).number refl
      where
        go : (n : ℕ) → (stands_against s c).number ≡ n → runs.view (designer_of d) (unless_refused n (runs.session_after s (call_of c)) s) ≡ runs.view (designer_of d) s
        go zero f = other_next s g (designer_of d) (call_of c) (apart d c.by h (known_designer c.by c.request _ f) e)
        go (suc n) f = refl

-- ---- the calls that were made do this
answered_of : (d : ℕ) {n n' : ℕ} {c c' : List ℕ} → n ≡ n' → c ≡ c' → ◌≡◌ {A = RawAnswer} (record { to = d; number = n; counts = c }) (record { to = d; number = n'; counts = c' })
answered_of d e f = cc

-- refused by the call, or by the operation
either : (a t : AnswerCode) (new old : Session) → unless_refused (or_else a t).number new old ≡ unless_refused a.number (unless_refused t.number new old) old
either a t new old = go a.number refl
  where
    go : (n : ℕ) → a.number ≡ n → unless_refused (unless_refused n t a).number new old ≡ unless_refused n (unless_refused t.number new old) old
    go zero e = refl
    go (suc n) e = rw e

pub made_is : (m m' : Memory) (c : RawCall) (a : RawAnswer) → RawMade m c a m' → (a ≡ reply (session_in m) c) × (session_in m' ≡ step (session_in m) c)
unfolding answer_to served against
made_is _ _ _ _ (drew m d bs xs v i after c' r h l) =
    let s = session_in m in
    let e = designer_of d in
    let ok = accepted (length v) (length i) s.state in
    let t = draw_verdict e s.state (settings_in bs) (patch_in bs xs) (length v) (length i) in
    let says = asked_or bs d ok t in (
      answered_of d (h.says.number ∙ ap (λ (x : AnswerCode). x.number) says) (h.says.counts ∙ ap (λ (x : AnswerCode). two_words x.values) says),
      go r refl ∙ ap (λ (n : ℕ). unless_refused n (served s e (runs.draw (settings_in bs) (patch_in bs xs))) s) (h.says.number ∙ ap (λ (x : AnswerCode). x.number) says)
          ∙ either (asked bs d ok done) t (served s e (runs.draw (settings_in bs) (patch_in bs xs))) s,
    )
  where
    left : ℕ → List ℕ
    left n = unless_refused n (state_words (drawn_state (designer_of d) (state_in m.words) (settings_in bs) (patch_in bs xs))) m.words

    go : (n : ℕ) → r ≡ n
        → ◌≡◌ {A = Session} (record { state = state_in after.words; vertices = unless_refused n after.vertices m.vertices; indices = unless_refused n after.indices m.indices })
        (unless_refused n (served (session_in m) (designer_of d) (runs.draw (settings_in bs) (patch_in bs xs))) (session_in m))
    go zero z = session_of (ap state_in (h.state ∙ ap left z)) (h.vertices ∙ rw (z, l.vertices z)) (h.indices ∙ rw (z, l.indices z))
    go (suc n) z = session_of (ap state_in (h.state ∙ ap left z)) refl refl
made_is _ _ _ _ (cleared m d v i w' r h) =
    let s = session_in m in
    let e = designer_of d in
    let ok = accepted v i s.state in
    let says = clear_or d ok in (
      answered_of d (h.number ∙ ap (λ (x : AnswerCode). x.number) says) refl,
      go r refl ∙ ap (λ (n : ℕ). unless_refused n (served s e runs.clear) s) (h.number ∙ ap (λ (x : AnswerCode). x.number) says)
          ∙ either (clear_says d ok) (clear_verdict ok) (served s e runs.clear) s,
    )
  where
    left : ℕ → List ℕ
    left n = unless_refused n (state_words (cleared_state (designer_of d) (state_in m.words))) m.words

    go : (n : ℕ) → r ≡ n
        → ◌≡◌ {A = Session} (record { state = state_in w'; vertices = m.vertices; indices = m.indices })
        (unless_refused n (served (session_in m) (designer_of d) runs.clear) (session_in m))
    go zero z = session_of (ap state_in (h.state ∙ ap left z)) refl refl
    go (suc n) z = session_of (ap state_in (h.state ∙ ap left z)) refl refl
