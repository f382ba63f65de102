-- A recording of calls that were made agrees. Assumes nothing.
use Prim.Native.Nat.{ℕ, suc, ◌+◌}
use mathlib.Core.Path.{◌≡◌, refl, ap, subst, ◌∙◌}
use mathlib.Core.List.{List, [], ◌++◌}
use native.Mathlib.Omega.{arith}
use lib.ListN.{length, take, drop, length-append}
use lib.Seq.{take-append_seam, drop-append_seam}
use Rattle.job_fields.specs.Bytes.{word, low_bytes}
use Rattle.job.specs.Header.{starts_with}
use Rattle.replay.specs.Answer.{Replay}
use Rattle.std.proofs.Common.{Ok}
use Rattle.replay.specs.Replays.{entry_size, replay_start, entries_from, go_on, replay_of}
use Rattle.replay.proofs.Steps.{entries_step, entries_none}
use Rattle.replay.proofs.Pieces.{replay_header, replay_more}
use Rattle.replay_recording.specs.Recordings.{RecordedCall, AllMade, none, more, entry_bytes, entries_bytes, recording_header, recording_of}
use Rattle.replay_recording.proofs.Entry.{entry_length, entry_agrees}

entries_agree : {cs : List RecordedCall} (k : ℕ) → AllMade cs → entries_from k (entries_bytes cs) ≡ Ok (k + length cs)
unfolding entries_bytes
entries_agree k none = entries_none k [] refl ∙ ap Ok (omega arith)
entries_agree k (more {c} {cs} m w) =
    let e = entry_bytes c in
    let front : take entry_size (e ++ entries_bytes cs) ≡ e = subst (λ (n : ℕ). take n (e ++ entries_bytes cs) ≡ e) (entry_length c) (take-append_seam e (entries_bytes cs)) in
    let rest : drop entry_size (e ++ entries_bytes cs) ≡ entries_bytes cs =
    subst (λ (n : ℕ). drop n (e ++ entries_bytes cs) ≡ entries_bytes cs) (entry_length c) (drop-append_seam e (entries_bytes cs)) in
    entries_step k (e ++ entries_bytes cs) (omega (arith, length-append e (entries_bytes cs), entry_length c))
    ∙ rw (front, rest, entry_agrees c m) (entries_agree (suc k) w ∙ ap Ok (omega arith))

header_says_lem : replay_start recording_header ≡ Ok 0
unfolding replay_start starts_with word low_bytes
header_says_lem = refl

header_length : length recording_header ≡ 5
unfolding low_bytes
header_length = refl

-- a replay answers that all entries agree, and how many there are
pub recording_agrees : (cs : List RecordedCall) → AllMade cs → replay_of (recording_of cs) ≡ Ok (length cs)
recording_agrees cs w =
    replay_more 0 recording_header (entries_bytes cs) header_length
    ∙ ap (λ (r : Replay). go_on r (entries_bytes cs)) (replay_header recording_header (omega (arith, header_length)) ∙ header_says_lem)
    ∙ entries_agree 0 w
    ∙ ap Ok (omega arith)
