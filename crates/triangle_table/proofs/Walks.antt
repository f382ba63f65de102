-- A search along the chain of sides that start at a triangle's first corner. Assumes nothing.
use Prim.Native.Nat.{ℕ, suc, ◌+◌, ◌-◌, ◌*◌, ◌/◌, ◌≤◌, ◌<◌}
use mathlib.Core.Path.{◌≡◌, refl, sym, ap, ◌∙◌}
use mathlib.Core.Bool.{Bool, true, false, ◌&&◌, true≢false}
use mathlib.Core.List.{List}
use mathlib.Core.Logic.{◌⊎◌, inl, inr}
use native.Mathlib.Omega.{arith}
use native.Mathlib.Decide.{dec_le}
use lib.Dec.{eqb}
use lib.ListN.{get_or}
use borrow.Author.Tests.{eq-eqb, ne_eqb, eqb-true}
use Rattle.strip.specs.declared.triangle.Triangle.{Triangle}
use Rattle.check_searches.specs.Triangles.{triangle_at}
use Rattle.check_searches.proofs.First.{some_here, some_none}
use Rattle.check_side_searches.specs.Same.{same_triangle}
use Rattle.check_faults.specs.Outline.{start_corner, end_of}
use Rattle.half_edge_chains.specs.Sides.{side_start, side_end, is_side}
use Rattle.half_edge_chains.specs.Links.{last_from, Linked}
use Rattle.half_edge_chains.proofs.Numbers.{numbered_start, numbered_end, both, both_which, which_of, same_ends}
use Rattle.half_edge_chains.proofs.Table.{last_none, last_is, last_most, link_before}
use Rattle.triangle_table.specs.Hits.{some_face, hits, TriangleSought}

test_false : (b : Bool) → (b ≡ true → ⊥) → b ≡ false
test_false true h = absurd (h refl)
test_false false h = refl

-- a side with another start, one with another end, and one of another triangle
hit_start : (ts : List Triangle) (t : Triangle) (m : ℕ) → (side_start ts m ≡ t.a → ⊥) → hits ts t m ≡ false
unfolding hits
hit_start ts t m h = rw (ne_eqb (side_start ts m) t.a h)

pub hit_end : (ts : List Triangle) (t : Triangle) (m e : ℕ) → e ≡ side_end ts m → (e ≡ t.b → ⊥) → side_start ts m ≡ t.a → false ≡ hits ts t m
unfolding hits
hit_end ts t m e d h s = rw (eq-eqb (side_start ts m) t.a s, ne_eqb (side_end ts m) t.b (λ k. h (d ∙ k)))

pub hit_same : (ts : List Triangle) (t : Triangle) (m e : ℕ) → e ≡ side_end ts m → e ≡ t.b → side_start ts m ≡ t.a
    → same_triangle (triangle_at ts (m / 3)) t ≡ hits ts t m
unfolding hits
hit_same ts t m e d h s = rw (eq-eqb (side_start ts m) t.a s, eq-eqb (side_end ts m) t.b (sym d ∙ h))

sought_from : (ts : List Triangle) (t : Triangle) (n b : ℕ) → b ≤ n → ((m : ℕ) → b ≤ m → m < n → hits ts t m ≡ false) → TriangleSought ts t n (last_from ts b t.a)
sought_from ts t n b l h = record {
  most = omega (arith, last_most ts b t.a);
  here = λ j e. last_is ts b t.a j e;
  passed = λ m k i. elim (dec_le b m) [ yes p ↦ h m p i | no p ↦ hit_start ts t m (λ e. last_none ts b t.a m k (omega arith) e) ];
}

-- the search begins with the last of these sides
pub seek_begins : (ts : List Triangle) (t : Triangle) (n k : ℕ) → k ≡ last_from ts n t.a → TriangleSought ts t n k
seek_begins ts t n k e = rw e (sought_from ts t n n (omega arith) (λ m p i. absurd (omega arith)))

module _ {ts : List Triangle} {all : ℕ} {heads links : List ℕ} (d : Linked ts all heads links) (t : Triangle) (n : ℕ) (few : n ≤ all) where
  goes_on_lem : (j : ℕ) → TriangleSought ts t n (suc j) → hits ts t j ≡ false → TriangleSought ts t n (get_or links j 0 / 65536)
  goes_on_lem j w h =
      let l : j < all = omega (arith, w.most) in
      rw (link_before d j l, w.here j refl)
      (sought_from ts t n j (omega (arith, w.most))
      (λ m p i. elim (dec_le (suc j) m) [ yes q ↦ w.passed m q i | no q ↦ (let e : m ≡ j = omega arith in rw e h) ]))

  at_side : (k : ℕ) → 0 < k → TriangleSought ts t n k → TriangleSought ts t n (suc (k - 1))
  at_side k l w = let e : suc (k - 1) ≡ k = omega arith in rw e w

  pub seek_here : (k : ℕ) → 0 < k → TriangleSought ts t n k → side_start ts (k - 1) ≡ t.a
  seek_here k l w = w.here (k - 1) (omega arith)

  pub seek_goes_on : (k : ℕ) → 0 < k → TriangleSought ts t n k → hits ts t (k - 1) ≡ false → TriangleSought ts t n (get_or links (k - 1) 0 / 65536)
  seek_goes_on k l w h = goes_on_lem (k - 1) (at_side k l w) h

  pub seek_less : (k : ℕ) → 0 < k → TriangleSought ts t n k → get_or links (k - 1) 0 / 65536 < k
  seek_less k l w = omega (arith, link_before d (k - 1) (omega (arith, w.most)), last_most ts (k - 1) (side_start ts (k - 1)))

-- a hit is a triangle equal to t
pub seek_meets : (ts : List Triangle) (t : Triangle) (n k : ℕ) → 0 < k → TriangleSought ts t (n * 3) k → hits ts t (k - 1) ≡ true → true ≡ some_face ts t n
unfolding hits
seek_meets ts t n k l w h =
    sym (some_here (λ i. same_triangle (triangle_at ts i) t) n ((k - 1) / 3) (omega (arith, w.most))
    (both_which (is_side ts t.a t.b (k - 1)) (same_triangle (triangle_at ts ((k - 1) / 3)) t) h).1)

-- a triangle equal to t has t's first side
pub record First (s t : Triangle) : Type 0 where
  pub number : ℕ
  pub least : number < 3
  pub start : start_corner s number ≡ t.a
  pub end : end_of s number ≡ t.b

three : (p q r : Bool) → (p && q && r) ≡ true → (p ≡ true) × (q ≡ true) × (r ≡ true)
three true true r h = (refl, refl, h)
three true false r h = absurd (true≢false (sym h))
three false q r h = absurd (true≢false (sym h))

same_first : (s t : Triangle) → same_triangle s t ≡ true → First s t
unfolding same_triangle
same_first s t h = pick (which_of
    (eqb s.a t.a && eqb s.b t.b && eqb s.c t.c)
    (eqb s.a t.b && eqb s.b t.c && eqb s.c t.a)
    (eqb s.a t.c && eqb s.b t.a && eqb s.c t.b) h)
  where
    pick : ((eqb s.a t.a && eqb s.b t.b && eqb s.c t.c) ≡ true)
        ⊎ (((eqb s.a t.b && eqb s.b t.c && eqb s.c t.a) ≡ true) ⊎ ((eqb s.a t.c && eqb s.b t.a && eqb s.c t.b) ≡ true))
        → First s t
    pick (inl k) =
        let w = three (eqb s.a t.a) (eqb s.b t.b) (eqb s.c t.c) k in
        record { number = 0; least = omega arith; start = eqb-true s.a t.a w.0; end = eqb-true s.b t.b w.1 }
    pick (inr (inl k)) =
        let w = three (eqb s.a t.b) (eqb s.b t.c) (eqb s.c t.a) k in
        record { number = 2; least = omega arith; start = eqb-true s.c t.a w.2; end = eqb-true s.a t.b w.0 }
    pick (inr (inr k)) =
        let w = three (eqb s.a t.c) (eqb s.b t.a) (eqb s.c t.b) k in
        record { number = 1; least = omega arith; start = eqb-true s.b t.a w.1; end = eqb-true s.c t.b w.2 }

-- that side is a hit
same_hits : (ts : List Triangle) (t : Triangle) (i m : ℕ) (f : First (triangle_at ts i) t) → m ≡ i * 3 + f.number → same_triangle (triangle_at ts i) t ≡ true → hits ts t m ≡ true
unfolding hits
same_hits ts t i m f e h =
    let q : m / 3 ≡ i = omega (arith, f.least) in
    both (is_side ts t.a t.b m) (same_triangle (triangle_at ts (m / 3)) t)
    (same_ends (side_start ts m) (side_end ts m) t.a t.b (numbered_start ts i f.number m e f.least ∙ f.start) (numbered_end ts i f.number m e f.least ∙ f.end))
    (rw q h)

-- a search that reached the end of the chain
pub seek_ends : (ts : List Triangle) (t : Triangle) (n : ℕ) → TriangleSought ts t (n * 3) 0 → false ≡ some_face ts t n
seek_ends ts t n w = sym (some_none (λ i. same_triangle (triangle_at ts i) t) n (λ i l. test_false (same_triangle (triangle_at ts i) t) (λ h. met i l h (same_first (triangle_at ts i) t h))))
  where
    met : (i : ℕ) → i < n → same_triangle (triangle_at ts i) t ≡ true → First (triangle_at ts i) t → ⊥
    met i l h f = true≢false (sym (same_hits ts t i (i * 3 + f.number) f refl h) ∙ w.passed (i * 3 + f.number) (omega arith) (omega (arith, f.least)))

-- where the search for triangle k among earlier triangles begins
pub earlier_from : {ts : List Triangle} {all : ℕ} {heads links : List ℕ} → Linked ts all heads links → (t : Triangle) (k : ℕ) → k * 3 < all → t ≡ triangle_at ts k
    → get_or links (k * 3) 0 / 65536 ≡ last_from ts (k * 3) t.a
earlier_from {ts} d t k l e = rw e (link_before d (k * 3) l ∙ ap (last_from ts (k * 3)) (numbered_start ts k 0 (k * 3) (omega arith) (omega arith)))
