-- The tessellation levels of document 01's worked cases. Assumes nothing.
use Rattle.std.specs.Prelude.{false, pos, Float}
use Rattle.std.specs.Float.{fin}

-- 1 = 1 * 2 ^ 0
abbrev pub level1 : Float
level1 = fin false 1 (pos 0)

-- 2 = 1 * 2 ^ 1
abbrev pub level2 : Float
level2 = fin false 1 (pos 1)

-- 3 = 3 * 2 ^ 0
abbrev pub level3 : Float
level3 = fin false 3 (pos 0)

-- 4 = 1 * 2 ^ 2
abbrev pub level4 : Float
level4 = fin false 1 (pos 2)

-- 64 = 1 * 2 ^ 6, the greatest level
abbrev pub level64 : Float
level64 = fin false 1 (pos 6)
