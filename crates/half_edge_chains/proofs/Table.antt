-- The table of sides: how it is updated, and what a search along a chain passes. Assumes nothing.
use Prim.Native.Nat.{ℕ, zero, suc, ◌+◌, ◌-◌, ◌*◌, ◌/◌, ◌%◌, ◌≤◌, ◌<◌}
use mathlib.Core.Path.{◌≡◌, refl, sym, subst, ◌∙◌}
use mathlib.Core.Bool.{Bool, true, false, cond}
use mathlib.Core.List.{List}
use native.Mathlib.Numerals.{add-one}
use native.Mathlib.Omega.{arith}
use native.Mathlib.Decide.{dec_le}
use lib.Dec.{eqb}
use lib.ListN.{length, get_or, set, replicate, length-set}
use lib.Seq.{get_or-set_same, get_or-set_other}
use borrow.Author.Tests.{eq-eqb, ne_eqb, eqb-true, eqb-false}
use Rattle.strip.specs.declared.triangle.Triangle.{Triangle}
use Rattle.check_searches.specs.First.{some_below}
use Rattle.check_searches.proofs.First.{some_here, some_none}
use Rattle.half_edge_chains.specs.Sides.{side_start, side_end, is_side}
use Rattle.half_edge_chains.specs.Links.{last_from, link_of, Linked, Walked, Zeros}

-- after the last side that starts at x no later side does
none_step : (ts : List Triangle) (n x m : ℕ) (b : Bool) → eqb (side_start ts n) x ≡ b → (last_from ts n x ≤ m → m < n → side_start ts m ≡ x → ⊥)
    → cond b (suc n) (last_from ts n x) ≤ m → m < suc n → side_start ts m ≡ x → ⊥
none_step ts n x m true h r k l e = omega arith
none_step ts n x m false h r k l e = elim (dec_le n m) [
  | yes p ↦ (let d : m ≡ n = omega arith in eqb-false (side_start ts n) x h (rw d at e))
  | no p ↦ r k (omega arith) e
]

pub last_none : (ts : List Triangle) (n x m : ℕ) → last_from ts n x ≤ m → m < n → side_start ts m ≡ x → ⊥
unfolding last_from
last_none ts zero x m k l e = omega arith
last_none ts (suc n) x m k l e = none_step ts n x m (eqb (side_start ts n) x) refl (last_none ts n x m) k l e

-- the last side that starts at x does start there
is_step : (ts : List Triangle) (n x j : ℕ) (b : Bool) → eqb (side_start ts n) x ≡ b → (last_from ts n x ≡ suc j → side_start ts j ≡ x)
    → cond b (suc n) (last_from ts n x) ≡ suc j → side_start ts j ≡ x
is_step ts n x j true h r e = let d : j ≡ n = omega arith in rw d (eqb-true (side_start ts n) x h)
is_step ts n x j false h r e = r e

pub last_is : (ts : List Triangle) (n x j : ℕ) → last_from ts n x ≡ suc j → side_start ts j ≡ x
unfolding last_from
last_is ts zero x j e = absurd (omega arith)
last_is ts (suc n) x j e = is_step ts n x j (eqb (side_start ts n) x) refl (last_is ts n x j) e

most_step : (n l : ℕ) (b : Bool) → l ≤ n → cond b (suc n) l ≤ suc n
most_step n l true h = omega arith
most_step n l false h = omega arith

pub last_most : (ts : List Triangle) (n x : ℕ) → last_from ts n x ≤ n
unfolding last_from
last_most ts zero x = omega arith
last_most ts (suc n) x = most_step n (last_from ts n x) (eqb (side_start ts n) x) (last_most ts n x)

-- a side that does not start at x is not x→y
start_apart : (ts : List Triangle) (x y m : ℕ) → (side_start ts m ≡ x → ⊥) → is_side ts x y m ≡ false
start_apart ts x y m h = rw (ne_eqb (side_start ts m) x h)

end_apart : (ts : List Triangle) (x y m : ℕ) → side_start ts m ≡ x → (side_end ts m ≡ y → ⊥) → is_side ts x y m ≡ false
end_apart ts x y m e h = rw (eq-eqb (side_start ts m) x e, ne_eqb (side_end ts m) y h)

walked_from : (ts : List Triangle) (n x y b : ℕ) → b ≤ n → ((m : ℕ) → b ≤ m → m < n → is_side ts x y m ≡ false) → Walked ts n x y (last_from ts b x)
walked_from ts n x y b l h = record {
  most = omega (arith, last_most ts b x);
  here = λ j e. last_is ts b x j e;
  passed = λ m k i. elim (dec_le b m) [ yes p ↦ h m p i | no p ↦ start_apart ts x y m (λ e. last_none ts b x m k (omega arith) e) ];
}

module _ {ts : List Triangle} {n : ℕ} {heads links : List ℕ} (t : Linked ts n heads links) where
  -- a search begins at the last side that starts at x
  pub walk_begins : (x y : ℕ) → x < length heads → Walked ts n x y (get_or heads x 0)
  walk_begins x y l = rw (t.head x l) (walked_from ts n x y n (omega arith) (λ m p i. absurd (omega arith)))

  -- what the link of side j holds
  pub link_end : (j : ℕ) → j < n → get_or links j 0 % 65536 ≡ side_end ts j
  link_end j l = let s = t.small j l in let e = t.link j l in omega arith

  pub link_before : (j : ℕ) → j < n → get_or links j 0 / 65536 ≡ last_from ts j (side_start ts j)
  link_before j l = let s = t.small j l in let e = t.link j l in omega arith

  goes_on_lem : (x y j : ℕ) → Walked ts n x y (suc j) → (get_or links j 0 % 65536 ≡ y → ⊥) → Walked ts n x y (get_or links j 0 / 65536)
  goes_on_lem x y j w h =
      let l : j < n = omega (arith, w.most) in
      let s : side_start ts j ≡ x = w.here j refl in
      rw (link_before j l, s)
      (walked_from ts n x y j (omega arith)
      (λ m p i. elim (dec_le (suc j) m) [
        | yes q ↦ w.passed m q i
        | no q ↦ (let d : m ≡ j = omega arith in rw d (end_apart ts x y j s (λ e. h (link_end j l ∙ e))))
      ]))

  meets : (x y j : ℕ) → Walked ts n x y (suc j) → get_or links j 0 % 65536 ≡ y → is_side ts x y j ≡ true
  meets x y j w h =
      let l : j < n = omega (arith, w.most) in
      rw (eq-eqb (side_start ts j) x (w.here j refl), eq-eqb (side_end ts j) y (sym (link_end j l) ∙ h))

  at_side : (x y k : ℕ) → 0 < k → Walked ts n x y k → Walked ts n x y (suc (k - 1))
  at_side x y k l w = let d : suc (k - 1) ≡ k = omega arith in rw d w

  -- after another side, the search continues with the one before it
  pub walk_goes_on : (x y k : ℕ) → 0 < k → Walked ts n x y k → (get_or links (k - 1) 0 % 65536 ≡ y → ⊥) → Walked ts n x y (get_or links (k - 1) 0 / 65536)
  walk_goes_on x y k l w h = goes_on_lem x y (k - 1) (at_side x y k l w) h

  pub walk_less : (x y k : ℕ) → 0 < k → Walked ts n x y k → get_or links (k - 1) 0 / 65536 < k
  walk_less x y k l w = omega (arith, link_before (k - 1) (omega (arith, w.most)), last_most ts (k - 1) (side_start ts (k - 1)))

  -- the search met x→y, or reached the end of the chain
  pub walk_meets : (x y k : ℕ) → 0 < k → Walked ts n x y k → get_or links (k - 1) 0 % 65536 ≡ y → true ≡ some_below (is_side ts x y) n
  walk_meets x y k l w h =
      sym (some_here (is_side ts x y) n (k - 1) (omega (arith, w.most)) (meets x y (k - 1) (at_side x y k l w) h))

  pub walk_ends : (x y : ℕ) → Walked ts n x y 0 → false ≡ some_below (is_side ts x y) n
  walk_ends x y w = sym (some_none (is_side ts x y) n (λ m l. w.passed m (omega arith) l))

-- lists of zeros
pub zero_at : (n k : ℕ) → ◌≡◌ {A = ℕ} (get_or (replicate n 0) k 0) 0
zero_at zero k = refl
zero_at (suc n) zero = refl
zero_at (suc n) (suc k) = zero_at n k

pub zeros_all : (n : ℕ) → Zeros (replicate n 0)
zeros_all n = record { at = λ k l. zero_at n k }

-- the empty table
pub linked_none : (ts : List Triangle) (heads links : List ℕ) → Zeros heads → Linked ts 0 heads links
unfolding last_from
linked_none ts heads links z = record {
  room = omega arith;
  head = λ x l. z.at x l;
  link = λ m l. absurd (omega arith);
  small = λ m l. absurd (omega arith);
}

-- the table with one more side
module _ (ts : List Triangle) (m x y : ℕ) (heads links : List ℕ) (t : Linked ts m heads links) (s : x ≡ side_start ts m) (e : y ≡ side_end ts m) (small : y < 65536)
    (lh : x < length heads) (ll : m < length links) where
  head_step : (v : ℕ) (b : Bool) → eqb (side_start ts m) v ≡ b → v < length heads → get_or (set heads x (m + 1)) v 0 ≡ cond b (suc m) (last_from ts m v)
  head_step v true h l =
      let d : x ≡ v = s ∙ eqb-true (side_start ts m) v h in
      rw (← d) (get_or-set_same heads x (m + 1) 0 lh ∙ add-one m)
  head_step v false h l = get_or-set_other heads x v (m + 1) 0 (λ d. eqb-false (side_start ts m) v h (sym s ∙ sym d)) ∙ t.head v l

  new_head : (v : ℕ) → v < length (set heads x (m + 1)) → get_or (set heads x (m + 1)) v 0 ≡ last_from ts (suc m) v
  unfolding last_from
  new_head v l = head_step v (eqb (side_start ts m) v) refl (rw (length-set heads x (m + 1)) at l)

  new_link : (k : ℕ) → k < suc m → get_or (set links m (get_or heads x 0 * 65536 + y)) k 0 ≡ link_of ts k
  new_link k l = elim (dec_le m k) [
    | yes p ↦ (let d : k ≡ m = omega arith in rw (d, get_or-set_same links m (get_or heads x 0 * 65536 + y) 0 ll, t.head x lh, ← s, ← e))
    | no p ↦ get_or-set_other links m k (get_or heads x 0 * 65536 + y) 0 (λ d. p (omega arith)) ∙ t.link k (omega arith)
  ]

  after : Linked ts (suc m) (set heads x (m + 1)) (set links m (get_or heads x 0 * 65536 + y))
  after = record {
    room = omega (arith, length-set links m (get_or heads x 0 * 65536 + y));
    head = new_head;
    link = new_link;
    small = λ k l. elim (dec_le m k) [ yes p ↦ (let d : k ≡ m = omega arith in rw (d, ← e) small) | no p ↦ t.small k (omega arith) ];
  }

  pub linked_more : Linked ts (m + 1) (set heads x (m + 1)) (set links m (get_or heads x 0 * 65536 + y))
  linked_more = subst (λ n. Linked ts n (set heads x (m + 1)) (set links m (get_or heads x 0 * 65536 + y))) (sym (add-one m)) after
