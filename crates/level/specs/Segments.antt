-- The number of segments (n) and the scaled level (L) that a level gives. Assumes nothing.
use Rattle.std.specs.Prelude.{ℕ, ◌+◌, ◌-◌, ◌*◌, ◌≤◌, ◌<◌, cond, eqb, Float}
use Rattle.level.specs.Clamp.{clamped_level}
use Rattle.level.specs.Scale.{ceil, scaled_level}
use Rattle.level.specs.declared.Spacing.{Spacing}
use Rattle.level.specs.declared.Spacing.TheVariants.{Equal, FractionalEven, FractionalOdd}
use Rattle.level.specs.declared.Segments.{Segments}

-- n and L for a scaled level L: n is L / 65536 rounded up to a whole, even or odd number; equal spacing then sets L to 65536 * n
abbrev pub segments_at : Spacing → ℕ → Segments
segments_at Equal L = record { count = ceil L 65536; scaled = 65536 * ceil L 65536 }
segments_at FractionalEven L = record { count = 2 * ceil L 131072; scaled = L }
segments_at FractionalOdd L = record { count = 2 * ceil (L - 65536) 131072 + 1; scaled = L }

-- n and L of a level, under the top level t
unfoldable pub segments_of : Spacing → ℕ → Float → Segments
segments_of s t x = segments_at s (scaled_level (clamped_level s t x))

-- n and L of an inner level that would give one segment: L is 65537 before rounding
abbrev pub raised : Spacing → Segments
raised s = segments_at s 65537

-- n and L of an inner level: its own, or the raised ones if its own n is 1
unfoldable pub as_inner : Spacing → Segments → Segments
as_inner s own = cond (eqb own.count 1) (raised s) own

-- n and L of an inner level x, under the top level t
abbrev pub inner_segments : Spacing → ℕ → Float → Segments
inner_segments s t x = as_inner s (segments_of s t x)

-- what every edge needs: n is from 1 to 64, and L is at most 65536 * n but more than 65536 * (n - 2), so that at most two segments are short
pub record Valid (n L : ℕ) : Type 0 where
  pub some : 1 ≤ n
  pub few : n ≤ 64
  pub least : 65536 ≤ L
  pub most : L ≤ 65536 * n
  pub tight : 65536 * n < L + 131072
