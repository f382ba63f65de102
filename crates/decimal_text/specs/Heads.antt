-- The lines that contain words: the title, and the first line of each record's answer. Assumes nothing.
use Rattle.std.specs.Prelude.{ℕ, List, [], ◌∷◌, ◌++◌}
use Prim.Native.Char.{code}
use Prim.Native.String as string
use Prim.Native.String.{String}
use Rattle.decimal_text.specs.Lines.{line}

-- a text as bytes; all its characters are below 128
abbrev pub bytes : String → List ℕ
bytes string.[] = []
bytes (string.◌∷◌ c s) = code c ∷ bytes s

-- the title: the first line of the output, with the version of the job file
abbrev pub title_line : ℕ → List ℕ
title_line version = bytes "TSJ " ++ line (version ∷ [])

-- the first line of a drawn record: how many points and indices it has
abbrev pub drawn_line : ℕ → ℕ → List ℕ
drawn_line points indices = bytes "drawn " ++ line (points ∷ indices ∷ [])

-- the line of a discarded record
abbrev pub discarded_line : List ℕ
discarded_line = bytes "discarded\n"

-- the line of a refused record or header, with the number of the refusal
abbrev pub refused_line : ℕ → List ℕ
refused_line n = bytes "refused " ++ line (n ∷ [])
