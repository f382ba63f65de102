-- Document 01's sentences on n and L as properties: n and L are the least numbers that satisfy them. Assumes nothing.
use Rattle.std.specs.Prelude.{ℕ, ◌*◌, ◌%◌, ◌≤◌, ◌≡◌, Float}
use Rattle.level.specs.Clamp.{clamped_level}
use Rattle.level.specs.Scale.{LeastParts}
use Rattle.level.specs.declared.Spacing.{Spacing}
use Rattle.level.specs.declared.Spacing.TheVariants.{Equal, FractionalEven, FractionalOdd}
use Rattle.level.specs.declared.Segments.{Segments}

-- the numbers that a spacing rounds to: whole, even or odd
abbrev pub FitsSpacing : Spacing → ℕ → Type 0
FitsSpacing Equal n = Unit
FitsSpacing FractionalEven n = n % 2 ≡ 0
FitsSpacing FractionalOdd n = n % 2 ≡ 1

-- n is the least number of the spacing's kind that is not below L / 65536
pub record LeastCount (s : Spacing) (L n : ℕ) : Type 0 where
  pub kind : FitsSpacing s n
  pub enough : L ≤ 65536 * n
  pub least : (k : ℕ) → FitsSpacing s k → L ≤ 65536 * k → n ≤ k

-- L after rounding: 65536 * n for equal spacing, unchanged for the other two
abbrev pub scaled_after : Spacing → ℕ → ℕ → ℕ
scaled_after Equal L n = 65536 * n
scaled_after FractionalEven L n = L
scaled_after FractionalOdd L n = L

-- g has the n and L that rounding gives for the scaled level L
pub record Rounded (s : Spacing) (L : ℕ) (g : Segments) : Type 0 where
  pub count : LeastCount s L g.count
  pub scaled : g.scaled ≡ scaled_after s L g.count

-- g has the n and L that the level x gives under the top level t: before rounding, L is the least whole number not below 65536
-- times the clamped x
pub record FromLevel (s : Spacing) (t : ℕ) (x : Float) (L : ℕ) (g : Segments) : Type 0 where
  pub parts : LeastParts (clamped_level s t x) L
  pub rounded : Rounded s L g
