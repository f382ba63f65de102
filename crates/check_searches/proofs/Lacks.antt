-- A list of indices searched for two numbers, word by word. Assumes nothing.
use Prim.Native.Nat.{ℕ, ◌+◌, ◌≤◌, ◌<◌}
use mathlib.Core.Path.{◌≡◌, refl}
use mathlib.Core.Bool.{Bool, true, false, ◌||◌, true≢false}
use mathlib.Core.List.{List}
use native.Mathlib.Omega.{arith}
use native.Mathlib.Decide.{dec_le}
use lib.ListN.{get_or}
use lib.Dec.{eqb}
use borrow.Author.Tests.{eqb-false}
use Rattle.check_searches.specs.Indices.{Lacks}

pub lacks_none : (ws : List ℕ) (from x y : ℕ) → Lacks ws from from x y
lacks_none ws from x y = record { x_no = λ k l m e. omega arith; y_no = λ k l m e. omega arith }

-- up to an earlier end
pub lacks_to : {ws : List ℕ} {from to x y m : ℕ} → Lacks ws from to x y → m ≤ to → Lacks ws from m x y
lacks_to h l = record { x_no = λ k i j. h.x_no k i (omega arith); y_no = λ k i j. h.y_no k i (omega arith) }

neither : (f p q : Bool) → (f || p || q) ≡ false → (f ≡ false) × (p ≡ false) × (q ≡ false)
neither false false q h = (refl, refl, h)
neither false true q h = absurd (true≢false h)
neither true p q h = absurd (true≢false h)

-- one more word
pub lacks_more : (ws : List ℕ) {from k x y : ℕ} {f : Bool} → from ≤ k → (f ≡ false → Lacks ws from k x y)
    → (f || eqb (get_or ws k 0) x || eqb (get_or ws k 0) y) ≡ false → Lacks ws from (k + 1) x y
lacks_more ws {k = k} {x = x} {y = y} {f = f} l h e =
    let w = neither f (eqb (get_or ws k 0) x) (eqb (get_or ws k 0) y) e in
    let b = h w.0 in
    record {
      x_no = λ i m n. last i n (b.x_no i m) (eqb-false (get_or ws k 0) x w.1);
      y_no = λ i m n. last i n (b.y_no i m) (eqb-false (get_or ws k 0) y w.2);
    }
  where
    last : (i : ℕ) {z : ℕ} → i < k + 1 → (i < k → get_or ws i 0 ≡ z → ⊥) → (get_or ws k 0 ≡ z → ⊥) → get_or ws i 0 ≡ z → ⊥
    last i n p q = elim (dec_le k i) [ yes j ↦ let s : i ≡ k = omega arith in rw s q | no j ↦ p (omega arith) ]
