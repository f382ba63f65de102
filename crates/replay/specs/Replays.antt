-- The answer of a replay of a whole recording. Assumes nothing.
use Rattle.std.specs.Prelude.{ℕ, zero, suc, ◌+◌, ◌/◌, ◌≤◌, Bool, cond, List, [], ◌∷◌, eqb, length, take, drop}
use Rattle.job.specs.Header.{lacks_mark, version_number_in}
use Rattle.replay.specs.Answer.{Replay}
use Rattle.std.specs.Prelude.{Ok, Err}
use Rattle.replay.specs.declared.answer.ReplayFailure.TheVariants.{Differs, NotARecording, UnknownVersion, CutEntry}
use Rattle.replay_entry.specs.Entries.{recorded, replayed, agrees}

-- the mark: the bytes of "TSR"
abbrev pub recording_mark : List ℕ
recording_mark = 0x54 ∷ 0x53 ∷ 0x52 ∷ []

-- how many bytes an entry has: a record of 29, the answer's number, and two counts of two bytes each
abbrev pub entry_size : ℕ
entry_size = 34

-- answer 5, not a recording: fewer than 5 bytes, or another mark
abbrev pub not_a_recording : List ℕ → Bool
not_a_recording bs = lacks_mark recording_mark bs

-- the answer after the header: 5, 6 if the version is not 1, or that all of 0 entries agree
unfoldable pub replay_start : List ℕ → Replay
replay_start bs = cond (not_a_recording bs) (Err NotARecording) (cond (eqb (version_number_in bs) 1) (Ok 0) (Err UnknownVersion))

-- the answer for n whole entries, the first of which is entry k, and the bytes after them
unfoldable pub say_entries : ℕ → ℕ → List ℕ → Replay
say_entries zero k bs = cond (eqb (length bs) 0) (Ok k) (Err CutEntry)
say_entries (suc n) k bs =
    cond (agrees (take entry_size bs)) (say_entries n (suc k) (drop entry_size bs)) (Err (Differs k (recorded (take entry_size bs)) (replayed (take entry_size bs))))

-- the answer for entries of which the first is entry k
abbrev pub entries_from : ℕ → List ℕ → Replay
entries_from k bs = say_entries (length bs / entry_size) k bs

-- the answer after further bytes: they matter only if all entries so far agree
abbrev pub go_on : Replay → List ℕ → Replay
go_on (Ok k) bs = entries_from k bs
go_on (Err failure) bs = Err failure

-- the answer for the bytes of a recording: its header, then its entries
unfoldable pub replay_of : List ℕ → Replay
replay_of bs = go_on (replay_start bs) (drop 5 bs)

-- counting n more entries stays within 64 bits
abbrev pub Countable : Replay → ℕ → Type 0
Countable (Ok k) n = k + n ≤ 18446744073709551615
Countable (Err failure) n = Unit {0}
