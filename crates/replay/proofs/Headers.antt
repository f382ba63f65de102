-- The answer for the header of a recording, test by test. Assumes nothing.
use Prim.Native.Nat.{ℕ, ◌-◌, ◌≤◌, ◌<◌}
use mathlib.Core.Path.{◌≡◌, subst, sym, ap, ◌∙◌}
use mathlib.Core.Bool.{Bool, true, false, cond, or-true, false≢true}
use mathlib.Core.List.{List}
use native.Mathlib.Decide.{dec_le}
use native.Mathlib.Omega.{arith}
use borrow.Author.Tests.{lt-ltb, le-ltb, ne_eqb}
use lib.Dec.{eqb}
use lib.ListN.{length, take, drop, length-drop}
use lib.Seq.{take_all}
use Rattle.job.specs.Header.{starts_with, version_number_in}
use Rattle.replay.specs.Answer.{Replay}
use Rattle.std.proofs.Common.{Ok, Err}
use Rattle.replay.specs.declared.answer.ReplayFailure.TheVariants.{NotARecording, UnknownVersion}
use Rattle.replay.specs.Replays.{recording_mark, not_a_recording, replay_start, go_on, replay_of, Countable}
use Rattle.replay.specs.Pieces.{is_open}

module _ (bs : List ℕ) where
  pub start_lacks : not_a_recording bs ≡ true → replay_start bs ≡ (Err NotARecording)
  unfolding replay_start
  start_lacks h = rw h

  pub start_short : length bs < 5 → replay_start bs ≡ (Err NotARecording)
  start_short h = start_lacks (rw (lt-ltb _ _ h))

  pub start_other : starts_with recording_mark bs ≡ false → replay_start bs ≡ (Err NotARecording)
  start_other h = start_lacks (rw (h, or-true))

  pub start_version : 5 ≤ length bs → starts_with recording_mark bs ≡ true → (version_number_in bs ≡ 1 → ⊥) → replay_start bs ≡ (Err UnknownVersion)
  unfolding replay_start
  start_version h m p = rw (le-ltb _ _ h, m, ne_eqb _ _ p)

  pub start_right : 5 ≤ length bs → starts_with recording_mark bs ≡ true → version_number_in bs ≡ 1 → replay_start bs ≡ Ok 0
  unfolding replay_start
  start_right h m e = rw (le-ltb _ _ h, m, e)

  -- under 5 bytes there are no entries
  pub replay_short : length bs < 5 → replay_of bs ≡ (Err NotARecording)
  unfolding replay_of
  replay_short h = rw (start_short h)

  -- else the entries after the header, as the code takes them
  pub replay_long : {s r : Replay} → s ≡ replay_start bs → r ≡ go_on s (take (length bs - 5) (drop 5 bs)) → r ≡ replay_of bs
  unfolding replay_of
  replay_long e h = h ∙ rw (e, take_all (length bs - 5) (drop 5 bs) (omega (arith, length-drop 5 bs)))

-- a header that is accepted has all its bytes
pub start_open : (bs : List ℕ) → is_open (replay_start bs) ≡ true → 5 ≤ length bs
start_open bs h = elim (dec_le 5 (length bs)) [
  | yes l ↦ l
  | no l ↦ absurd (false≢true (sym (ap is_open (start_short bs (omega arith))) ∙ h))
]

-- after the header the number of entries is 0
pub start_countable : (bs : List ℕ) {s : Replay} {n : ℕ} → s ≡ replay_start bs → n ≤ 18446744073709551615 → Countable s n
unfolding replay_start
start_countable bs {n = n} e h = subst (λ (r : Replay). Countable r n) (sym e) (go (not_a_recording bs) (eqb (version_number_in bs) 1))
  where
    go : (a b : Bool) → Countable (cond a (Err NotARecording) (cond b (Ok 0) (Err UnknownVersion))) n
    go true b = tt
    go false true = omega arith
    go false false = tt
