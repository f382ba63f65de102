-- When each answer of a replay is right. Assumes nothing.
use Rattle.std.specs.Prelude.{ℕ, suc, ◌+◌, ◌-◌, ◌*◌, ◌/◌, ◌%◌, ◌≤◌, ◌<◌, ◌≡◌, List, [], ◌∷◌, ◌⊎◌, ◌↔◌, length, take, drop}
use Rattle.job.specs.Header.{version_number_in}
use Rattle.replay.specs.Answer.{Replay}
use Rattle.std.specs.Prelude.{Ok, Err}
use Rattle.replay.specs.declared.answer.ReplayFailure.TheVariants.{Differs, NotARecording, UnknownVersion, CutEntry}
use Rattle.replay_entry.specs.Entries.{recorded, replayed}
use Rattle.replay.specs.Replays.{recording_mark, entry_size, replay_of}
use Rattle.replay.specs.ReplayCode.{replay_code}

-- the bytes begin with a recording's header: the mark, and version 1
pub record Headed (bs : List ℕ) : Type 0 where
  pub long : 5 ≤ length bs
  pub marked : take 3 bs ≡ recording_mark
  pub version : version_number_in bs ≡ 1

-- the bytes of entry i, counted from 0
abbrev pub entry_at : List ℕ → ℕ → List ℕ
entry_at bs i = take entry_size (drop (5 + entry_size * i) bs)

-- the recorded and the replayed answer of entry i are equal
abbrev pub AgreesAt : List ℕ → ℕ → Type 0
AgreesAt bs i = recorded (entry_at bs i) ≡ replayed (entry_at bs i)

-- the first n entries agree
abbrev pub AgreeBefore : List ℕ → ℕ → Type 0
AgreeBefore bs n = (i : ℕ) → i < n → AgreesAt bs i

-- how many whole entries there are
abbrev pub whole_entries : List ℕ → ℕ
whole_entries bs = (length bs - 5) / entry_size

-- the answer is right
abbrev pub ReplayMeans : List ℕ → Replay → Type 0
ReplayMeans bs (Err NotARecording) = (length bs < 5) ⊎ (take 3 bs ≡ recording_mark → ⊥)
ReplayMeans bs (Err UnknownVersion) = (5 ≤ length bs) × (take 3 bs ≡ recording_mark) × (version_number_in bs ≡ 1 → ⊥)
ReplayMeans bs (Ok n) = Headed bs × (length bs ≡ 5 + entry_size * n) × AgreeBefore bs n
ReplayMeans bs (Err CutEntry) = Headed bs × (1 ≤ (length bs - 5) % entry_size) × AgreeBefore bs (whole_entries bs)
ReplayMeans bs (Err (Differs k a b)) =
    Headed bs × (5 + entry_size * suc k ≤ length bs) × AgreeBefore bs k × (AgreesAt bs k → ⊥) × (a ≡ recorded (entry_at bs k)) × (b ≡ replayed (entry_at bs k))

-- the contract of a replay: each answer is given exactly if it is right; by number, exactly when 5, 6 and 7 are given
pub record ReplaySaid (bs : List ℕ) (r : Replay) : Type 0 where
  pub is : r ≡ replay_of bs
  pub exactly : (x : Replay) → r ≡ x ↔ ReplayMeans bs x
  pub refused_5 : (replay_code r).refusal ≡ 5 ∷ [] ↔ ReplayMeans bs (Err NotARecording)
  pub refused_6 : (replay_code r).refusal ≡ 6 ∷ [] ↔ ReplayMeans bs (Err UnknownVersion)
  pub refused_7 : (replay_code r).refusal ≡ 7 ∷ [] ↔ ReplayMeans bs (Err CutEntry)
