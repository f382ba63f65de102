-- The segments of a level, as the code holds them. Assumes nothing.
use Rattle.std.specs.Prelude.{ℕ, ◌≤◌, ◌≡◌, Float}
use Rattle.level.specs.declared.Spacing.{Spacing}
use Rattle.level.specs.declared.Segments.{Segments}
use Rattle.level.specs.Segments.{segments_of}

-- r has the n and L of the level x under the top level t, and n is at most 64
pub record Counted (s : Spacing) (t : ℕ) (x : Float) (r : Segments) : Type 0 where
  pub all : r ≡ segments_of s t x
  pub is : r.count ≡ (segments_of s t x).count
  pub few : r.count ≤ 64
