-- A job that is read in pieces: the text for each piece. Assumes nothing.
use Rattle.std.specs.Prelude.{ℕ, ◌*◌, ◌≡◌, List, [], ◌∷◌, ◌++◌, length, Option, Some, None}
use Rattle.job_fields.specs.declared.version.Version.{Version}
use Rattle.job_fields.specs.Version.{record_size}
use Rattle.job.specs.Header.{header_of}
use Rattle.job_text.specs.Jobs.{answers_from, start_text, rest_of}

-- the pieces, joined
unfoldable pub joined_pieces : List (List ℕ) → List ℕ
joined_pieces [] = []
joined_pieces (c ∷ cs) = c ++ joined_pieces cs

-- every piece but the last consists of whole records of the version
pub data RecordPieces (v : Version) : List (List ℕ) → Type 0 where
  none : RecordPieces v []
  last : (c : List ℕ) → RecordPieces v (c ∷ [])
  more : {c : List ℕ} {cs : List (List ℕ)} (n : ℕ) → length c ≡ record_size v * n → RecordPieces v cs → RecordPieces v (c ∷ cs)

-- the text for the records of each piece, joined
unfoldable pub piece_texts : Version → List (List ℕ) → List ℕ
piece_texts v [] = []
piece_texts v (c ∷ cs) = answers_from v c 0 ++ piece_texts v cs

-- every piece but the last consists of whole records, if records follow
abbrev pub WholeAfter : Option Version → List (List ℕ) → Type 0
WholeAfter (Some v) cs = RecordPieces v cs
WholeAfter None cs = Unit {0}

-- the text for the pieces, if records follow
abbrev pub said_after : Option Version → List (List ℕ) → List ℕ
said_after (Some v) cs = piece_texts v cs
said_after None cs = []

-- the text for a header and for the pieces after it
abbrev pub said_of : List ℕ → List (List ℕ) → List ℕ
said_of header cs = start_text (header_of header) ++ said_after (rest_of (header_of header)) cs
