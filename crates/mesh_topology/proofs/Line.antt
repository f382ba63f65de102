-- The segments of a line. Assumes nothing.
use Prim.Native.Nat.{ℕ, zero, suc, ◌+◌, ◌≤◌, ◌<◌, min, max}
use mathlib.Core.Path.{◌≡◌, refl, ap₂}
use mathlib.Core.Logic.{◌⊎◌, ⊎_elim}
use native.Mathlib.Omega.{arith}
use native.Mathlib.Decide.{dec_le}
use native.Mathlib.Nat.{add-zero, add-suc}
use Rattle.mesh_topology.specs.Sides.{hit, flip, sum, line_sum}
use Rattle.mesh_topology.specs.Band.{from}
use Rattle.mesh_topology.proofs.Sums.{part, sum_once, sum_first, one_of_two}
use Rattle.mesh_topology.proofs.Hits.{hit_le, hit_at, hit_self}

-- the segments of a line up to point o, and from there on
pub line_from : (f : ℕ → ℕ → ℕ) (F : ℕ → ℕ) (o n : ℕ) → line_sum f F (o + n) ≡ line_sum f F o + line_sum f (from o F) n
unfolding sum
line_from f F o zero = rw (add-zero o) (omega arith)
line_from f F o (suc n) = rw add-suc (omega (arith, line_from f F o n))

-- a line walked backwards
pub line_back : (f : ℕ → ℕ → ℕ) (A B : ℕ → ℕ) (n : ℕ) → ((j k : ℕ) → j + k ≡ n → A j ≡ B k) → line_sum f A n ≡ line_sum (flip f) B n
unfolding sum
line_back f A B zero e = refl
line_back f A B (suc n) e =
    omega (
      arith,
      sum_first (λ k. f (B (suc k)) (B k)) n,
      line_back f A (λ k. B (suc k)) n (λ j k h. e j (suc k) (omega arith)),
      ap₂ f (e n 1 (omega arith)) (e (suc n) 0 (omega arith)),
    )

-- a segment that occurs has a place on the line
pub record Piece (F : ℕ → ℕ) (x y n : ℕ) : Type 0 where
  pub k : ℕ
  pub below : k < n
  pub start : x ≡ F k
  pub end : y ≡ F (suc k)

pub piece : (F : ℕ → ℕ) (x y n : ℕ) → 1 ≤ line_sum (hit x y) F n → Piece F x y n
piece F x y n h =
    let s = part (λ k. hit x y (F k) (F (suc k))) n h in
    let e = hit_at x y _ _ s.some in
    record { k = s.k; below = s.below; start = e.0; end = e.1 }

-- each segment occurs
pub pieces_at : (F : ℕ → ℕ) (k n : ℕ) → k < n → 1 ≤ line_sum (hit (F k) (F (suc k))) F n
unfolding sum
pieces_at F k zero h = absurd (omega arith)
pieces_at F k (suc n) h = elim (dec_le n k) [
  | yes l ↦ let e : k ≡ n = omega arith in rw e (omega (arith, hit_self (F n) (F (suc n))))
  | no l ↦ omega (arith, pieces_at F k n (omega arith))
]

-- if a line's vertices lie from `low` up to `top`, so do the ends of its segments
pub line_in : (F : ℕ → ℕ) (n low top : ℕ) → ((k : ℕ) → k ≤ n → (low ≤ F k) × (F k < top))
    → (x y : ℕ) → 1 ≤ line_sum (hit x y) F n + line_sum (hit y x) F n → (low ≤ min x y) × (max x y < top)
line_in F n low top on x y h =
    elim (dec_le 1 (line_sum (hit x y) F n)) [ yes k ↦ of x y (piece F x y n k) | no k ↦ omega (arith, of y x (piece F y x n (omega arith))) ]
  where
    of : (p q : ℕ) → Piece F p q n → (low ≤ min p q) × (max p q < top)
    of p q s = omega (arith, on s.k (omega arith), on (suc s.k) s.below)

-- the vertices 0 to n of a closed line: the last equals the first, and all others differ
pub record Closed (F : ℕ → ℕ) (n : ℕ) : Type 0 where
  pub close : F n ≡ F 0
  pub same : (j k : ℕ) → j ≤ k → k ≤ n → F j ≡ F k → (j ≡ k) ⊎ ((j ≡ 0) × (k ≡ n))

-- no segment of a closed line of 3 or more segments occurs twice, or together with its reverse
pub line_once : (F : ℕ → ℕ) (x y n : ℕ) → (1 ≤ n → 3 ≤ n) → Closed F n → line_sum (hit x y) F n + line_sum (hit y x) F n ≤ 1
line_once F x y n big c =
    one_of_two _ _ (once x y) (once y x)
    (λ h k. turned (piece F x y n h) (piece F y x n k))
  where
    once : (p q : ℕ) → line_sum (hit p q) F n ≤ 1
    once p q = sum_once _ n (λ k h. hit_le p q _ _)
        (λ j k h l s t. let u = hit_at p q _ _ s in let v = hit_at p q _ _ t in
        ⊎_elim (λ w. omega arith) (λ w. omega arith) (c.same j k (omega arith) (omega arith) (cc)))

    ordered : (j k : ℕ) → j ≤ k → k < n → F j ≡ F (suc k) → F (suc j) ≡ F k → ⊥
    ordered j k l m e f =
        let b = big (omega arith) in
        ⊎_elim (λ u. omega arith)
        (λ u. ⊎_elim (λ v. omega arith) (λ v. omega arith) (c.same (suc j) k (omega arith) (omega arith) f))
        (c.same j (suc k) (omega arith) (omega arith) e)

    turned : Piece F x y n → Piece F y x n → ⊥
    turned s t = elim (dec_le s.k t.k) [
      | yes l ↦ ordered s.k t.k l t.below (cc) (cc)
      | no l ↦ ordered t.k s.k (omega arith) s.below (cc) (cc)
    ]
