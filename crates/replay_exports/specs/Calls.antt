-- What a call that replays a recording answers and leaves, for every input: bs are the bytes, w' the seven words at exit. Assumes nothing.
use Rattle.std.specs.Prelude.{ℕ, ◌+◌, ◌≡◌, List, [], ◌∷◌, ◌↔◌, get_or}
use Rattle.replay_entry.specs.declared.outcome.Outcome.{Outcome}
use Rattle.replay.specs.Answer.{Replay}
use Rattle.std.specs.Prelude.{Ok, Err}
use Rattle.replay.specs.declared.answer.ReplayFailure.TheVariants.{Differs, NotARecording, UnknownVersion, CutEntry}
use Rattle.replay.specs.ReplayCode.{replay_code}
use Rattle.replay.specs.Replays.{replay_of}
use Rattle.replay.specs.Means.{ReplayMeans}
use Rattle.answer_codes.specs.Reports.{AnsweredExactly}

-- the number of an answer: 0 if all entries agree, 60 if one differs, else the number of the refusal
abbrev pub call_number : Replay → ℕ
call_number (Ok n) = 0
call_number (Err (Differs k a b)) = 60
call_number (Err NotARecording) = 5
call_number (Err UnknownVersion) = 6
call_number (Err CutEntry) = 7

-- seven words for the values of an answer, 0 for a value that it lacks
abbrev pub seven_words : List ℕ → List ℕ
seven_words vs = get_or vs 0 0 ∷ get_or vs 1 0 ∷ get_or vs 2 0 ∷ get_or vs 3 0 ∷ get_or vs 4 0 ∷ get_or vs 5 0 ∷ get_or vs 6 0 ∷ []

-- the contract of the call
pub record ReplayCalled (bs w' : List ℕ) (r : ℕ) : Type 0 where
  pub number : r ≡ call_number (replay_of bs)
  pub values : w' ≡ seven_words (replay_code (replay_of bs)).values

-- the recorded (k = 1) or the replayed (k = 4) answer in the seven words
abbrev pub side_in : List ℕ → ℕ → Outcome
side_in w k = record { answer = get_or w k 0; points = get_or w (k + 1) 0; indices = get_or w (k + 2) 0 }

-- when the call gives each number, and what it leaves in memory
pub record ReplayExactly (bs w' : List ℕ) (r : ℕ) : Type 0 where
  -- each answer is given, by number and words, exactly if it is right
  pub answers : AnsweredExactly call_number (λ a. seven_words (replay_code a).values) (ReplayMeans bs) w' r
  -- the same for each number
  pub agrees : (r ≡ 0) ↔ ReplayMeans bs (Ok (get_or w' 0 0))
  pub not_a_recording : (r ≡ 5) ↔ ReplayMeans bs (Err NotARecording)
  pub unknown_version : (r ≡ 6) ↔ ReplayMeans bs (Err UnknownVersion)
  pub cut_entry : (r ≡ 7) ↔ ReplayMeans bs (Err CutEntry)
  pub differs : (r ≡ 60) ↔ ReplayMeans bs (Err (Differs (get_or w' 0 0) (side_in w' 1) (side_in w' 4)))
