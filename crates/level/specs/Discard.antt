-- When a level discards its patch. Assumes nothing.
use Rattle.std.specs.Prelude.{Bool, false, ◌||◌, pos, Float}
use Rattle.std.specs.Float.{fin}
use Rattle.std.specs.Float.Ieee.{le, is_nan}

-- the level is NaN or <= 0; negative zero equals 0
abbrev pub discarded : Float → Bool
discarded x = is_nan x || le x (fin false 0 (pos 0))
