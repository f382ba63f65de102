-- A call that replays gives each number exactly if it is right. Assumes nothing.
use Prim.Native.Nat.{ℕ}
use mathlib.Core.Path.{◌≡◌, refl}
use mathlib.Core.Bool.{cond}
use mathlib.Core.List.{List}
use lib.Dec.{eqb}
use lib.ListN.{get_or}
use Rattle.replay.specs.Answer.{Replay}
use Rattle.std.proofs.Common.{Ok, Err}
use Rattle.replay.specs.declared.answer.ReplayFailure.TheVariants.{Differs, NotARecording, UnknownVersion, CutEntry}
use Rattle.replay.specs.ReplayCode.{replay_code}
use Rattle.replay.proofs.Exactly.{replay_exactly}
use Rattle.answer_codes.specs.Reports.{Reports}
use Rattle.answer_codes.proofs.Exactly.{number_exactly, answered_exactly}
use Rattle.replay_exports.specs.Calls.{call_number, seven_words, side_in, ReplayCalled, ReplayExactly}

-- the answer with this number and these seven words
abbrev answer_in : ℕ → List ℕ → Replay
answer_in n w =
    cond (eqb n 0) (Ok (get_or w 0 0))
    (cond (eqb n 60) (Err (Differs (get_or w 0 0) (side_in w 1) (side_in w 4))) (cond (eqb n 5) (Err NotARecording) (cond (eqb n 6) (Err UnknownVersion) (Err CutEntry))))

abbrev words_of : Replay → List ℕ
words_of a = seven_words (replay_code a).values

same_answer : (a : Replay) → answer_in (call_number a) (words_of a) ≡ a
same_answer (Ok n) = refl
same_answer (Err (Differs k a b)) = refl
same_answer (Err NotARecording) = refl
same_answer (Err UnknownVersion) = refl
same_answer (Err CutEntry) = refl

pub replay_call_exactly : (bs : List ℕ) {w' : List ℕ} {r : ℕ} → ReplayCalled bs w' r → ReplayExactly bs w' r
replay_call_exactly bs c =
    let told : Reports call_number words_of _ _ _ = record { number = c.number; words = c.values } in
    record {
      answers = answered_exactly answer_in (same_answer _) told same_answer (replay_exactly bs);
      agrees = number_exactly answer_in (same_answer _) told (replay_exactly bs) 0 refl;
      not_a_recording = number_exactly answer_in (same_answer _) told (replay_exactly bs) 5 refl;
      unknown_version = number_exactly answer_in (same_answer _) told (replay_exactly bs) 6 refl;
      cut_entry = number_exactly answer_in (same_answer _) told (replay_exactly bs) 7 refl;
      differs = number_exactly answer_in (same_answer _) told (replay_exactly bs) 60 refl;
    }
