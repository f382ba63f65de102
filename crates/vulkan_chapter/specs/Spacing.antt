-- 23.3, Tessellator Spacing: from a level to the number and the lengths of an edge's segments.
-- Assumes nothing.
use Rattle.std.specs.Prelude.{ℕ, ◌-◌, ◌*◌, ◌≤◌, ◌<◌, ◌≡◌, false, pos, negsuc, T, Float}
use Rattle.std.specs.Float.{fin}
use Rattle.std.specs.Float.Ieee.{lt, le}
use Rattle.std.specs.Float.Ieee.Exact.{HasValue}
use Rattle.level.specs.declared.Spacing.{Spacing}
use Rattle.level.specs.declared.Spacing.TheVariants.{Equal, FractionalEven, FractionalOdd}
use Rattle.level.specs.Top.{Top}
use Rattle.level.specs.Scale.{LeastParts}
use Rattle.level.specs.Rounding.{FitsSpacing}
use Rattle.mesh_geometry.specs.Edge.{Run}
use Rattle.vulkan_chapter.specs.Lengths.{Divided, AllEqual, Additional, Decreases, Vanishes}

-- ---- the clamp, where t is the maximum level
-- the ends of the range of a spacing: 1 and t, 2 and t, 1 and t - 1
abbrev pub low_end : Spacing → ℕ
low_end Equal = 1
low_end FractionalEven = 2
low_end FractionalOdd = 1

abbrev pub high_end : Spacing → ℕ → ℕ
high_end Equal t = t
high_end FractionalEven t = t
high_end FractionalOdd t = t - 1

-- f is the level x clamped to that range. A NaN fails every comparison; the chapter leaves open what an inner NaN gives
pub record LevelClamped (s : Spacing) (t : ℕ) (x f : Float) : Type 0 where
  pub low : Float
  pub high : Float
  pub low_is : HasValue low false (low_end s) 1
  pub high_is : HasValue high false (high_end s t) 1
  pub below : T (lt x low) → f ≡ low
  pub above : T (lt high x) → f ≡ high
  pub inside : T (le low x) → T (le x high) → f ≡ x

-- ---- the number of segments
-- the whole number k as a level
abbrev pub whole_level : ℕ → Float
whole_level k = fin false k (pos 0)

-- n is the level f rounded up to the nearest whole, even or odd number
pub record RoundedUp (s : Spacing) (f : Float) (n : ℕ) : Type 0 where
  pub kind : FitsSpacing s n
  pub enough : T (le f (whole_level n))
  pub nearest : (k : ℕ) → FitsSpacing s k → T (le f (whole_level k)) → n ≤ k

-- ---- the lengths
-- fractional spacing; L is the level's 65536 f
pub record Fractional (n L : ℕ) (q : ℕ → ℕ) : Type 0 where
  pub additional : Additional n q
  -- if n - f is 0, all segments are equal
  pub equal : L ≡ 65536 * n → AllEqual n q
  pub vanishes : 1 < n → Vanishes n L q

abbrev pub LengthsOf : Spacing → ℕ → ℕ → (ℕ → ℕ) → Type 0
LengthsOf Equal n L q = AllEqual n q
LengthsOf FractionalEven n L q = Fractional n L q
LengthsOf FractionalOdd n L q = Fractional n L q

-- an edge with e.c segments and its vertices at the places e .q 0, e.q 1, .., as the spacing and the clamped level f require
pub record Spaced (s : Spacing) (f : Float) (e : Run) : Type 0 where
  pub rounded : RoundedUp s f e.c
  pub divided : Divided e.c e.q
  pub lengths : (L : ℕ) → LeastParts f L → LengthsOf s e.c L e.q

-- ---- how a tessellator subdivides edges
-- what a tessellator makes of a spacing, a maximum level and a level: the clamped level, the edge that it gives as an outer level, and the
-- edge that it gives as an inner level
pub record EdgeRule : Type 0 where
  pub clamp : Spacing → ℕ → Float → Float
  pub edge : Spacing → ℕ → Float → Run
  pub inner : Spacing → ℕ → Float → Run

-- a little more than 1: the chapter leaves open how much, and here it is 1 + 1 / 65536
abbrev pub one_plus : Float
one_plus = fin false 65537 (negsuc 15)

pub record Subdivides (rule : EdgeRule) : Type 0 where
  -- every level is clamped, then rounded up, and its edge is divided as its spacing requires
  pub clamped : (s : Spacing) (t : ℕ) (x : Float) → Top t → LevelClamped s t x (rule.clamp s t x)
  pub spaced : (s : Spacing) (t : ℕ) (x : Float) → Top t → Spaced s (rule.clamp s t x) (rule.edge s t x)
  -- edges with the same clamped level are the same, even under another maximum level
  pub identical : (s : Spacing) (t t' : ℕ) (x y : Float) → rule.clamp s t x ≡ rule.clamp s t' y → rule.edge s t x ≡ rule.edge s t' y
  -- of two levels with the same number of segments, the smaller level has the shorter additional segments
  pub decreases : (s : Spacing) (t : ℕ) (x y : Float) → Top t → (rule.edge s t x).c ≡ (rule.edge s t y).c
      → T (le (rule.clamp s t x) (rule.clamp s t y)) → Decreases (rule.edge s t x).c (rule.edge s t x).q (rule.edge s t y).q
  -- if n - f is 0, the edge is exactly the edge of equal spacing with the same number of segments
  pub whole_level_lem : (s : Spacing) (t : ℕ) (x y : Float) → Top t → HasValue (rule.clamp s t x) false (rule.edge s t x).c 1
      → (rule.edge s t x).c ≡ (rule.edge Equal t y).c → rule.edge s t x ≡ rule.edge Equal t y
  -- 23.6 and 23.7: an inner level that gives one segment is raised to a little more than 1, any other stays as it is
  pub inner_one : (s : Spacing) (t : ℕ) (x : Float) → Top t → (rule.edge s t x).c ≡ 1 → Spaced s one_plus (rule.inner s t x)
  pub inner_more : (s : Spacing) (t : ℕ) (x : Float) → Top t → ((rule.edge s t x).c ≡ 1 → ⊥) → rule.inner s t x ≡ rule.edge s t x
