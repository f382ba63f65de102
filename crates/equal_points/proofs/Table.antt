-- What the marks show, and how they are updated. Assumes nothing.
use Prim.Native.Nat.{ℕ, ◌+◌, ◌-◌, ◌<◌}
use mathlib.Core.Path.{◌≡◌, refl, sym, ap, ◌∙◌}
use mathlib.Core.Bool.{Bool, true, false, true≢false}
use mathlib.Core.List.{List}
use mathlib.Core.Logic.{◌⊎◌, inl, inr}
use native.Mathlib.Omega.{arith}
use native.Mathlib.Decide.{dec_le}
use lib.ListN.{length, get_or, set}
use lib.Seq.{get_or-set_same, get_or-set_other}
use Rattle.mesh_geometry.specs.declared.Point.{Point}
use Rattle.mesh_geometry.specs.Faces.{at}
use Rattle.check_searches.specs.Points.{same_point, repeats}
use Rattle.check_searches.proofs.First.{some_none}
use Rattle.point_table.specs.Trees.{slot_of}
use Rattle.equal_points.specs.Marks.{Names, Marks, NamesNoEqual, NewMark}
use Rattle.check_searches.proofs.Equal.{same_is}

-- if the mark is clear, no earlier point equals p
named_no : (ps : List Point) (mark i : ℕ) (p : Point) → NamesNoEqual ps mark p → (mark ≡ i + 1) ⊎ (mark ≡ 65535) → same_point (at ps i) p ≡ true → ⊥
named_no ps mark i p (inl z) (inl e) h = omega arith
named_no ps mark i p (inl z) (inr e) h = omega arith
named_no ps mark i p (inr c) (inl e) h =
    let k : mark - 1 ≡ i = omega arith in
    true≢false (sym h ∙ ap (λ (n : ℕ). same_point (at ps n) p) (sym k) ∙ c.1)
named_no ps mark i p (inr c) (inr e) h = omega (arith, c.0)

test_false : (b : Bool) → (b ≡ true → ⊥) → b ≡ false
test_false true h = absurd (h refl)
test_false false h = refl

pub clear_new : (ps : List Point) (n j mark : ℕ) (p : Point) → p ≡ at ps j → Names ps n j (slot_of n p) mark → NamesNoEqual ps mark p → repeats ps j ≡ false
clear_new ps n j mark p e h c = rw (← e) (some_none (λ i. same_point (at ps i) p) j
    (λ i l. test_false (same_point (at ps i) p) (λ t. named_no ps mark i p c (h.each i l (ap (slot_of n) (same_is (at ps i) p t))) t)))

-- the mark of a slot in the table
pub marks_name : (ps : List Point) (n j s : ℕ) (ms : List ℕ) → Marks ps n j ms → Names ps n j s (get_or ms s 0)
marks_name ps n j s ms h = record {
  each = λ i l e. ap_slot i (h.each i l) e;
}
  where
    ap_slot : (i : ℕ) → (get_or ms (slot_of n (at ps i)) 0 ≡ i + 1) ⊎ (get_or ms (slot_of n (at ps i)) 0 ≡ 65535) → slot_of n (at ps i) ≡ s
        → (get_or ms s 0 ≡ i + 1) ⊎ (get_or ms s 0 ≡ 65535)
    ap_slot i h e = rw (← e) h

pub marks_none : (ps : List Point) (n : ℕ) (ms : List ℕ) → Marks ps n 0 ms
marks_none ps n ms = record { each = λ i l. absurd (omega arith) }

equal_or : (x y : ℕ) → (x ≡ y) ⊎ (x ≡ y → ⊥)
equal_or x y = elim (dec_le x y) [
  | yes p ↦ elim (dec_le y x) [ yes q ↦ inl (omega arith) | no q ↦ inr (λ e. omega arith) ]
  | no p ↦ inr (λ e. omega arith)
]

-- the table after one more point
module _ (ps : List Point) (n j s r : ℕ) (ms : List ℕ) (h : Marks ps n j ms) (m : NewMark (get_or ms s 0) j r) (e : s ≡ slot_of n (at ps j)) (l : s < length ms) where
  last : (r ≡ 65535) ⊎ ((get_or ms s 0 ≡ 0) × (r ≡ j + 1)) → (r ≡ j + 1) ⊎ (r ≡ 65535)
  last (inl k) = inr k
  last (inr k) = inl k.1

  kept : (i : ℕ) → (r ≡ 65535) ⊎ ((get_or ms s 0 ≡ 0) × (r ≡ j + 1)) → (get_or ms s 0 ≡ i + 1) ⊎ (get_or ms s 0 ≡ 65535) → (r ≡ i + 1) ⊎ (r ≡ 65535)
  kept i (inl k) o = inr k
  kept i (inr k) (inl o) = absurd (omega (arith, k.0))
  kept i (inr k) (inr o) = absurd (omega (arith, k.0))

  one : (i : ℕ) → i < j + 1 → (slot_of n (at ps i) ≡ s) ⊎ (slot_of n (at ps i) ≡ s → ⊥) → (get_or (set ms s r) (slot_of n (at ps i)) 0 ≡ i + 1) ⊎ (get_or (set ms s r) (slot_of n (at ps i)) 0 ≡ 65535)
  one i b (inl q) = rw (q, get_or-set_same ms s r 0 l) (elim (dec_le j i) [
    | yes p ↦ (let d : i ≡ j = omega arith in rw d (last m))
    | no p ↦ kept i m (rw q at (h.each i (omega arith)))
  ])
  one i b (inr q) = rw (get_or-set_other ms s (slot_of n (at ps i)) r 0 q) (elim (dec_le j i) [
    | yes p ↦ (let d : i ≡ j = omega arith in absurd (q (ap (λ (k : ℕ). slot_of n (at ps k)) d ∙ sym e)))
    | no p ↦ h.each i (omega arith)
  ])

  pub marks_more : Marks ps n (j + 1) (set ms s r)
  marks_more = record { each = λ i b. one i b (equal_or (slot_of n (at ps i)) s) }
