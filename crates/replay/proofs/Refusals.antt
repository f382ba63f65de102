-- Each refusal is given exactly if it applies, and so are the two other answers. Assumes nothing.
use Prim.Native.Nat.{ℕ, suc, ◌+◌, ◌*◌, ◌≤◌}
use mathlib.Core.Path.{◌≡◌, refl, sym, ap, ◌∙◌}
use mathlib.Core.Bool.{cond}
use mathlib.Core.List.{List, [], ◌∷◌}
use mathlib.Core.Logic.{◌↔◌}
use native.Mathlib.Omega.{arith}
use lib.Dec.{eqb}
use lib.ListN.{length, get_or}
use Rattle.replay_entry.specs.declared.outcome.Outcome.{Outcome}
use Rattle.replay.specs.Answer.{Replay}
use Rattle.std.proofs.Common.{Ok, Err}
use Rattle.replay.specs.declared.answer.ReplayFailure.TheVariants.{Differs, NotARecording, UnknownVersion, CutEntry}
use Rattle.replay_entry.specs.Entries.{recorded, replayed}
use Rattle.replay.specs.Replays.{entry_size, replay_of}
use Rattle.replay.specs.ReplayCode.{replay_code}
use Rattle.replay.specs.Means.{Headed, entry_at, AgreesAt, AgreeBefore, ReplayMeans, ReplaySaid}
use Rattle.replay.proofs.Exactly.{replay_exactly}

-- the number of a refusal
abbrev Numbered : Replay → ℕ → Type 0
Numbered r n = (replay_code r).refusal ≡ n ∷ []

first : {xs ys : List ℕ} → xs ≡ ys → get_or xs 0 0 ≡ get_or ys 0 0
first e = ap (λ (l : List ℕ). get_or l 0 0) e

-- the refusal with a number
abbrev of_number : ℕ → Replay
of_number n = cond (eqb n 5) (Err NotARecording) (cond (eqb n 6) (Err UnknownVersion) (Err CutEntry))

only : (r : Replay) (n : ℕ) → Numbered r (suc n) → r ≡ of_number (suc n)
only (Ok k) n e = absurd (let z : ◌≡◌ {A = ℕ} 0 (suc n) = first e in omega arith)
only (Err (Differs k a b)) n e = absurd (let z : ◌≡◌ {A = ℕ} 0 (suc n) = first e in omega arith)
only (Err NotARecording) n e = ap of_number (first e)
only (Err UnknownVersion) n e = ap of_number (first e)
only (Err CutEntry) n e = ap of_number (first e)

module _ (bs : List ℕ) where
  -- a number is given exactly if its answer is right
  numbered : (r : Replay) → r ≡ replay_of bs → (n : ℕ) → Numbered (of_number (suc n)) (suc n) → Numbered r (suc n) ↔ ReplayMeans bs (of_number (suc n))
  numbered r e n told = (
    λ t. (replay_exactly bs (of_number (suc n))).0 (sym e ∙ only r n t),
    λ m. ap (λ (x : Replay). (replay_code x).refusal) (e ∙ (replay_exactly bs (of_number (suc n))).1 m) ∙ told,
  )

  -- an answer that equals `replay_of` satisfies the whole contract
  pub replay_said : {r : Replay} → r ≡ replay_of bs → ReplaySaid bs r
  replay_said {r} e = record {
    is = e;
    exactly = λ x. (λ h. (replay_exactly bs x).0 (sym e ∙ h), λ m. e ∙ (replay_exactly bs x).1 m);
    refused_5 = numbered r e 4
        refl;
    refused_6 = numbered r e 5 refl;
    refused_7 = numbered r e 6 refl;
  }

  -- all agree: a header and n whole entries, each of which agrees
  pub all_agree : (n : ℕ) → replay_of bs ≡ Ok n ↔ Headed bs × (length bs ≡ 5 + entry_size * n) × AgreeBefore bs n
  all_agree n = replay_exactly bs (Ok n)

  -- the entry that differs is the first that does, with both answers
  pub first_differs : (k : ℕ) (a b : Outcome) → replay_of bs ≡ Err (Differs k a b)
      ↔ Headed bs × (5 + entry_size * suc k ≤ length bs) × AgreeBefore bs k × (AgreesAt bs k → ⊥) × (a ≡ recorded (entry_at bs k)) × (b ≡ replayed (entry_at bs k))
  first_differs k a b = replay_exactly bs (Err (Differs k a b))
