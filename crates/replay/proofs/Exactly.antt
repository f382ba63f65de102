-- When a replay gives each answer. Assumes nothing.
use Prim.Native.Nat.{ℕ, zero, suc, ◌+◌, ◌-◌, ◌*◌, ◌≤◌, ◌<◌}
use mathlib.Core.Path.{◌≡◌, refl, sym, subst, ◌∙◌}
use mathlib.Core.Bool.{Bool, true, false, cond, false≢true}
use mathlib.Core.List.{List}
use mathlib.Core.Logic.{◌↔◌, inl, inr}
use native.Mathlib.Decide.{ℕ_discrete, dec_le, dec_lt}
use native.Mathlib.Omega.{arith}
use lib.ListN.{length, take, drop, length-drop}
use lib.Seq.{drop-drop}
use Rattle.job.specs.Header.{starts_with, version_number_in}
use Rattle.job.proofs.Marks.{starts_take, take_starts}
use Rattle.replay.specs.Answer.{Replay}
use Rattle.std.proofs.Common.{Ok, Err}
use Rattle.replay.specs.declared.answer.ReplayFailure.TheVariants.{Differs, NotARecording, UnknownVersion, CutEntry}
use Rattle.replay_entry.specs.Entries.{recorded, replayed, agrees}
use Rattle.replay.specs.Replays.{recording_mark, entry_size, entries_from, replay_of}
use Rattle.replay.specs.Means.{Headed, entry_at, AgreesAt, AgreeBefore, whole_entries, ReplayMeans}
use Rattle.replay_entry.proofs.Sides.{same_equal, equal_same, differ_same}
use Rattle.replay.proofs.Headers.{start_short, start_other, start_version, start_right}
use Rattle.replay.proofs.Steps.{entries_step, entries_none, entries_cut}

module _ (bs : List ℕ) where
  -- the answer from entry i on
  abbrev from : ℕ → Replay
  from i = entries_from i (drop (5 + entry_size * i) bs)

  left : (i : ℕ) → length (drop (5 + entry_size * i) bs) ≡ length bs - (5 + 34 * i)
  left i = length-drop (5 + entry_size * i) bs

  step : (i : ℕ) → 5 + entry_size * suc i ≤ length bs → from i ≡ cond (agrees (entry_at bs i)) (from (suc i)) (Err (Differs i (recorded (entry_at bs i)) (replayed (entry_at bs i))))
  step i h =
      let n : 5 + 34 * i + 34 ≡ 5 + 34 * suc i = omega arith in
      entries_step i (drop (5 + entry_size * i) bs) (omega (arith, left i)) ∙ rw (drop-drop entry_size (5 + entry_size * i) bs, n)

  -- entries that agree do not change the answer
  skip : (n : ℕ) → 5 + entry_size * n ≤ length bs → AgreeBefore bs n → from 0 ≡ from n
  skip zero h a = refl
  skip (suc n) h a =
      let e = entry_at bs n in
      skip n (omega arith) (λ i l. a i (omega arith)) ∙ step n h ∙ rw (equal_same (recorded e) (replayed e) (a n (omega arith)))

  -- ---- if an answer is right, it is given

  headed : {r : Replay} → Headed bs → from 0 ≡ r → replay_of bs ≡ r
  unfolding replay_of
  headed h e = rw (start_right bs h.long (take_starts recording_mark bs h.marked) h.version) e

  not_marked : (take 3 bs ≡ recording_mark → ⊥) → (t : Bool) → starts_with recording_mark bs ≡ t → replay_of bs ≡ (Err NotARecording)
  unfolding replay_of
  not_marked d true m = absurd (d (starts_take recording_mark bs m))
  not_marked d false m = rw (start_other bs m)

  means_replay : (r : Replay) → ReplayMeans bs r → replay_of bs ≡ r
  unfolding replay_of
  means_replay (Err NotARecording) (inl h) = rw (start_short bs h)
  means_replay (Err NotARecording) (inr d) = not_marked d (starts_with recording_mark bs) refl
  means_replay (Err UnknownVersion) (h, m, p) = rw (start_version bs h (take_starts recording_mark bs m) p)
  means_replay (Ok n) (h, l, a) = headed h (skip n (omega arith) a ∙ entries_none n (drop (5 + entry_size * n) bs) (omega (arith, left n)))
  means_replay (Err CutEntry) (h, l, a) =
      let n = whole_entries bs in
      headed h (skip n (omega (arith, h.long)) a ∙ entries_cut n (drop (5 + entry_size * n) bs) (omega (arith, left n, h.long)) (omega (arith, left n, h.long)))
  means_replay (Err (Differs k a b)) (h, l, s, d, ea, eb) =
      let e = entry_at bs k in
      headed h (skip k (omega arith) s ∙ step k l ∙ rw (differ_same (recorded e) (replayed e) d, ← ea, ← eb))

  -- ---- if an answer is given, it is right

  one_more : (i : ℕ) → AgreeBefore bs i → AgreesAt bs i → AgreeBefore bs (suc i)
  one_more i a e j l = elim (dec_lt j i) [
    | yes s ↦ a j s
    | no s ↦ let z : j ≡ i = omega arith in rw z e
  ]

  module _ (h : Headed bs) where
    -- at the end
    ends : (i : ℕ) → i ≡ whole_entries bs → AgreeBefore bs i → ReplayMeans bs (from i)
    ends i e a = elim (dec_le (length bs) (5 + 34 * i)) [
      | yes l ↦ rw (entries_none i (drop (5 + entry_size * i) bs) (omega (arith, left i))) (h, omega (arith, h.long), a)
      | no l ↦ rw (entries_cut i (drop (5 + entry_size * i) bs) (omega (arith, left i)) (omega (arith, left i, h.long))) (h, omega (arith, h.long), rw e at a)
    ]

    -- one entry, then those after it
    turn : (i : ℕ) → 5 + entry_size * suc i ≤ length bs → AgreeBefore bs i → (AgreeBefore bs (suc i) → ReplayMeans bs (from (suc i))) → ReplayMeans bs (from i)
    turn i l a rest = subst (ReplayMeans bs) (sym (step i l)) (go (agrees (entry_at bs i)) refl)
      where
        go : (t : Bool) → agrees (entry_at bs i) ≡ t → ReplayMeans bs (cond t (from (suc i)) (Err (Differs i (recorded (entry_at bs i)) (replayed (entry_at bs i)))))
        go true e = rest (one_more i a (same_equal (recorded (entry_at bs i)) (replayed (entry_at bs i)) e))
        go false e = (h, l, a, (λ q. false≢true (sym e ∙ equal_same (recorded (entry_at bs i)) (replayed (entry_at bs i)) q)), refl, refl)

    from_means : (m i : ℕ) → i + m ≡ whole_entries bs → AgreeBefore bs i → ReplayMeans bs (from i)
    from_means zero i e a = ends i (omega arith) a
    from_means (suc m) i e a = turn i (omega (arith, h.long)) a (from_means m (suc i) (omega arith))

    headed_means : ReplayMeans bs (replay_of bs)
    headed_means = subst (ReplayMeans bs) (sym (headed h refl)) (from_means (whole_entries bs) 0 (omega arith) (λ i l. absurd (omega arith)))

  by_mark : 5 ≤ length bs → (t : Bool) → starts_with recording_mark bs ≡ t → ReplayMeans bs (replay_of bs)
  by_mark h false m =
      let d : take 3 bs ≡ recording_mark → ⊥ = λ e. false≢true (sym m ∙ take_starts recording_mark bs e) in
      rw (not_marked d false m) (inr d)
  by_mark h true m = elim (ℕ_discrete (version_number_in bs) 1) [
    | yes v ↦ headed_means (record { long = h; marked = starts_take recording_mark bs m; version = v })
    | no p ↦ let w : ReplayMeans bs (Err UnknownVersion) = (h, starts_take recording_mark bs m, p) in rw (means_replay (Err UnknownVersion) w) w
  ]

  replay_means : ReplayMeans bs (replay_of bs)
  replay_means = elim (dec_le 5 (length bs)) [
    | yes h ↦ by_mark h (starts_with recording_mark bs) refl
    | no h ↦ let k : length bs < 5 = omega arith in rw (means_replay (Err NotARecording) (inl k)) (inl k)
  ]

  -- each answer is given exactly if it is right
  pub replay_exactly : (r : Replay) → replay_of bs ≡ r ↔ ReplayMeans bs r
  replay_exactly r = (λ e. rw e at replay_means, means_replay r)
