-- A row that a loop fills in from the middle outwards. Assumes nothing.
use mathlib.Core.Path.{◌≡◌, refl, sym, ◌∙◌}
use mathlib.Core.Logic.{◌⊎◌, inl, inr, ⊎_elim}
use mathlib.Core.List.{List}
use Prim.Native.Nat.{ℕ, ◌+◌, ◌-◌, ◌*◌, ◌≤◌, ◌<◌}
use native.Mathlib.Decide.{dec_le}
use native.Mathlib.Omega.{arith}
use lib.ListN.{length, get_or, set, length-set}
use lib.Seq.{get_or-set_same, get_or-set_other}
use Rattle.edge.specs.Positions.{reach, position}
use Rattle.edge.specs.Rows.{RowFilled}
use Rattle.edge.proofs.Reach.{low, high}

-- ys has the positions of the points from `left` to n - left, and is xs elsewhere
pub record Outward (xs : List ℕ) (from n L left : ℕ) (ys : List ℕ) : Type 0 where
  pub size : length ys ≡ length xs
  pub near : (j : ℕ) → left ≤ j → j + left ≤ n → get_or ys (from + j) 0 ≡ position n L j
  pub far : (j : ℕ) → (j < from + left) ⊎ (from + n < j + left) → get_or ys j 0 ≡ get_or xs j 0

module _ (xs : List ℕ) (from n L : ℕ) where
  -- before the first turn no point is written
  pub outward_none : (left : ℕ) → n < 2 * left → Outward xs from n L left xs
  outward_none left h = record { size = refl; near = λ j a b. absurd (omega arith); far = λ j a. refl }

  -- one turn adds two points, i and n - i, which lie d half segments from the middle
  pub outward_more : (ys : List ℕ) (i d v w : ℕ) → from + n < length xs → 2 * i + d ≡ n → v ≡ 32768 - reach L d → w ≡ 32768 + reach L d
      → Outward xs from n L (i + 1) ys → Outward xs from n L i (set (set ys (from + i) v) (from + (n - i)) w)
  outward_more ys i d v w room e ev ew o = record {
    size = length-set (set ys (from + i) v) (from + (n - i)) w ∙ length-set ys (from + i) v ∙ o.size;
    near = near;
    far = λ j a. other j (⊎_elim (λ x y. omega arith) (λ x y. omega arith) a) (⊎_elim (λ x y. omega arith) (λ x y. omega arith) a)
        ∙ o.far j (⊎_elim (λ x. inl (omega arith)) (λ x. inr (omega arith)) a);
  }
    where
      other : (j : ℕ) → (j ≡ from + (n - i) → ⊥) → (j ≡ from + i → ⊥) → get_or (set (set ys (from + i) v) (from + (n - i)) w) j 0 ≡ get_or ys j 0
      other j p q = get_or-set_other (set ys (from + i) v) (from + (n - i)) j w 0 p ∙ get_or-set_other ys (from + i) j v 0 q

      near : (j : ℕ) → i ≤ j → j + i ≤ n → get_or (set (set ys (from + i) v) (from + (n - i)) w) (from + j) 0 ≡ position n L j
      near j a b = elim (dec_le (n - i) j) [
        | yes p ↦
            let same : j ≡ n - i = omega arith in
            rw same (get_or-set_same (set ys (from + i) v) (from + (n - i)) w 0 (omega (arith, length-set ys (from + i) v, o.size)) ∙ ew ∙ sym (high n L (n - i) d (omega arith)))
        | no p ↦ elim (dec_le j i) [
          | yes q ↦
              let same : j ≡ i = omega arith in
              rw same (get_or-set_other (set ys (from + i) v) (from + (n - i)) (from + i) w 0 (λ r. omega arith) ∙ get_or-set_same ys (from + i) v 0 (omega (arith, o.size)) ∙ ev ∙ sym (low n L i d e))
          | no q ↦ other (from + j) (λ r. omega arith) (λ r. omega arith) ∙ o.near j (omega arith) (omega arith)
        ]
      ]

  -- after the last turn all points are written
  pub outward_all : (ys : List ℕ) → from + n < length xs → Outward xs from n L 0 ys → RowFilled xs from n L ys
  outward_all ys room o = record {
    row = record { fits = omega (arith, o.size); at = λ i h. o.near i (omega arith) (omega arith) };
    same = o.size;
    other = λ j h. o.far j (⊎_elim (λ a. inl (omega arith)) (λ a. inr (omega arith)) h);
  }
