-- The top level: the greatest level, to which higher levels are clamped. Assumes nothing.
use Rattle.std.specs.Prelude.{ℕ, ◌-◌, ◌%◌, ◌≤◌, ◌≡◌, Bool, ◌&&◌, leb, eqb}
use Rattle.level.specs.declared.Spacing.{Spacing}
use Rattle.level.specs.declared.Spacing.TheVariants.{Equal, FractionalEven, FractionalOdd}

-- t can be a top level: an even number from 2 to 64
pub record Top (t : ℕ) : Type 0 where
  pub least : 2 ≤ t
  pub most : t ≤ 64
  pub even : t % 2 ≡ 0

-- whether t can be a top level
abbrev pub is_top : ℕ → Bool
is_top t = leb 2 t && leb t 64 && eqb (t % 2) 0

-- the most segments that a level can give: t, or t - 1 for odd spacing
abbrev pub most_segments : Spacing → ℕ → ℕ
most_segments Equal t = t
most_segments FractionalEven t = t
most_segments FractionalOdd t = t - 1
