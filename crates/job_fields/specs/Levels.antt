-- The six levels of a record: four outer, two inner. Assumes nothing.
use Rattle.std.specs.Prelude.{ℕ, ◌+◌, List, Float}
use Rattle.std.specs.Float.{binary32}
use Rattle.std.specs.Float.Ieee.{of_bits}
use Rattle.job_fields.specs.Bytes.{word}
use Rattle.job_fields.specs.declared.levels.Levels.{Levels}

-- the bit patterns of the six levels from place `at` on, four bytes each
abbrev pub bits_at : List ℕ → ℕ → Levels ℕ
bits_at bs at = record {
  outer0 = word 4 bs at;
  outer1 = word 4 bs (at + 4);
  outer2 = word 4 bs (at + 8);
  outer3 = word 4 bs (at + 12);
  inner0 = word 4 bs (at + 16);
  inner1 = word 4 bs (at + 20);
}

-- the f32 levels with these bit patterns
abbrev pub levels_of : Levels ℕ → Levels Float
levels_of bits = record {
  outer0 = of_bits binary32 bits.outer0;
  outer1 = of_bits binary32 bits.outer1;
  outer2 = of_bits binary32 bits.outer2;
  outer3 = of_bits binary32 bits.outer3;
  inner0 = of_bits binary32 bits.inner0;
  inner1 = of_bits binary32 bits.inner1;
}
