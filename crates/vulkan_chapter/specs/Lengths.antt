-- 23.3, Tessellator Spacing: the lengths of the segments along one edge.
-- An edge is 65536 units long, and a level f is given as L, the least whole number not below 65536 f. The chapter speaks of real lengths;
-- here every place is a whole number of units, so lengths that the chapter calls equal may differ by the units that `off` gives.
-- Assumes nothing.
use Rattle.std.specs.Prelude.{ℕ, suc, ◌+◌, ◌-◌, ◌*◌, ◌%◌, ◌≤◌, ◌<◌, ◌≡◌}

-- the length of segment i, where the vertices lie at the places q 0, q 1, ..
abbrev pub segment : (ℕ → ℕ) → ℕ → ℕ
segment q i = q (suc i) - q i

-- the most units by which two of n equal segments differ: 1 if n is even, 2 if it is odd. Both bounds are reached
abbrev pub off : ℕ → ℕ
off n = 1 + n % 2

-- n segments, none of them empty, from one end of the edge to the other
pub record Divided (n : ℕ) (q : ℕ → ℕ) : Type 0 where
  pub start : q 0 ≡ 0
  pub end : q n ≡ 65536
  pub rises : (i : ℕ) → i < n → q i < q (suc i)

-- all n segments have the same length
abbrev pub AllEqual : ℕ → (ℕ → ℕ) → Type 0
AllEqual n q = (i j : ℕ) → i < n → j < n → segment q i ≤ segment q j + off n

-- segment i is one of the n - 2 between the two additional segments. The chapter leaves the place of these two open; here they lie at the
-- edge's two ends, opposite each other
abbrev pub Inner : ℕ → ℕ → Type 0
Inner n i = (0 < i) × (suc i < n)

-- n - 2 segments of one length, and two additional segments, exactly equal to each other, that are not longer
pub record Additional (n : ℕ) (q : ℕ → ℕ) : Type 0 where
  pub rest_equal : (i j : ℕ) → Inner n i → Inner n j → segment q i ≤ segment q j + off n
  pub two_equal : segment q 0 ≡ segment q (n - 1)
  pub two_shorter : (i : ℕ) → Inner n i → segment q 0 ≤ segment q i + off n

-- two edges with n segments each, where q are the places for the smaller level: there the additional segments are not longer, exactly, and
-- the other segments not shorter. So the additional segments shrink against the others as n - f grows
pub record Decreases (n : ℕ) (q q' : ℕ → ℕ) : Type 0 where
  pub two_shrink : segment q 0 ≤ segment q' 0
  pub rest_grow : (i j : ℕ) → Inner n i → Inner n j → segment q' j ≤ segment q i + off n

-- the additional segments vanish as n - f nears 2: each is at most k units long where f - (n - 2) is at most 2 k / 65536 of f. For k = 1 that
-- is at most one unit for every f up to 2 / 65536 above n - 2
abbrev pub Vanishes : ℕ → ℕ → (ℕ → ℕ) → Type 0
Vanishes n L q = (k : ℕ) → 32768 * (L - 65536 * (n - 2)) ≤ k * L → segment q 0 ≤ k
