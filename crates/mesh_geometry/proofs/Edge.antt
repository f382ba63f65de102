-- Places that rise along an edge. Assumes nothing.
use Prim.Native.Nat.{ℕ, zero, suc, ◌+◌, ◌≤◌, ◌<◌}
use mathlib.Core.Path.{◌≡◌}
use native.Mathlib.Omega.{arith}
use native.Mathlib.Decide.{dec_le}
use Rattle.mesh_geometry.specs.Edge.{GoodPlaces, Run, GoodRun}

pub far : (x : ℕ → ℕ) (n : ℕ) → ((i : ℕ) → i < n → x i < x (suc i)) → (i j : ℕ) → i ≤ j → j ≤ n → x i + j ≤ x j + i
far x n h i zero l m = let e : i ≡ 0 = omega arith in rw e (omega arith)
far x n h i (suc j) l m =
    elim (dec_le i j) [
      | yes k ↦ omega (arith, far x n h i j k (omega arith), h j m)
      | no k ↦ let e : i ≡ suc j = omega arith in rw e (omega arith)
    ]

-- the places of the edge e rise from one corner to the next of the ring d units inside
pub record Span (d : ℕ) (e : Run) : Type 0 where
  pub low : e.q 0 ≡ d
  pub high : e.q e.c + d ≡ 65536
  pub rises : (i : ℕ) → i < e.c → e.q i < e.q (suc i)

module _ {d : ℕ} {e : Run} (s : Span d e) where
  pub span_less : (i j : ℕ) → i < j → j ≤ e.c → e.q i < e.q j
  span_less i j l m = omega (arith, far e.q e.c s.rises i j (omega arith) m)

  pub span_from : (i : ℕ) → i ≤ e.c → d ≤ e.q i
  span_from i l = omega (arith, far e.q e.c s.rises 0 i (omega arith) l, s.low)

  pub span_to : (i : ℕ) → i ≤ e.c → e.q i + d ≤ 65536
  span_to i l = omega (arith, far e.q e.c s.rises i e.c l (omega arith), s.high)

  pub span_before : (i : ℕ) → i < e.c → e.q i + d < 65536
  span_before i l = omega (arith, span_less i e.c l (omega arith), s.high)

pub good_span : {e : Run} → GoodRun e → Span 0 e
good_span g = record { low = g.first; high = omega (arith, g.last); rises = g.rises }

-- places after the first, before the last, and up to the last
module _ {e : Run} (g : GoodRun e) (i : ℕ) where
  pub good_after : 0 < i → i ≤ e.c → 0 < e.q i
  good_after h l = omega (arith, g.first, span_less (good_span g) 0 i h l)

  pub good_before : i < e.c → e.q i < 65536
  good_before l = omega (arith, g.last, span_less (good_span g) i e.c l (omega arith))

  pub good_between : 0 < i → i < e.c → (0 < e.q i) × (e.q i < 65536)
  good_between h l = (good_after h (omega arith), good_before l)

  pub good_to : i ≤ e.c → e.q i ≤ 65536
  good_to l = omega (arith, span_to (good_span g) i l)

-- an edge has at least one segment
pub good_some : {q : ℕ → ℕ} {n : ℕ} → GoodPlaces q n → 1 ≤ n
good_some {q} {n} g = go n g.last
  where
    go : (n : ℕ) → q n ≡ 65536 → 1 ≤ n
    go zero e = absurd (omega (arith, g.first))
    go (suc n) e = omega arith
