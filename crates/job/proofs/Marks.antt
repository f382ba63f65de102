-- A mark at the beginning of a list. Assumes nothing.
use Prim.Native.Nat.{ℕ, ◌≤◌}
use native.Mathlib.Decide.{dec_le}
use native.Mathlib.Omega.{arith}
use mathlib.Core.Path.{◌≡◌, refl, sym, ◌∙◌}
use mathlib.Core.Bool.{Bool, true, false, ◌&&◌, false≢true}
use mathlib.Core.List.{List, [], ◌∷◌}
use borrow.Author.Tests.{eq-eqb, ne_eqb, eqb-true, lt-ltb, le-ltb, not-false}
use lib.Dec.{eqb}
use lib.Pointwise.{pointwise}
use native.Mathlib.Decide.{ℕ_discrete}
use lib.ListN.{length, take}
use Rattle.job.specs.Header.{starts_with, lacks_mark}

both : (s t : Bool) → (s && t) ≡ true → (s ≡ true) × (t ≡ true)
both true t h = (refl, h)
both false t h = absurd (false≢true h)

-- `starts_with` compares the first bytes
pub starts_take : (ms bs : List ℕ) → starts_with ms bs ≡ true → take (length ms) bs ≡ ms
unfolding starts_with
starts_take [] bs h = refl
starts_take (m ∷ ms) [] h = absurd (false≢true h)
starts_take (m ∷ ms) (b ∷ bs) h =
    let p = both (eqb b m) (starts_with ms bs) h in
    rw (eqb-true b m p.0, starts_take ms bs p.1)

pub take_starts : (ms bs : List ℕ) → take (length ms) bs ≡ ms → starts_with ms bs ≡ true
unfolding starts_with
take_starts [] bs h = refl
take_starts (m ∷ ms) [] h = absurd (let z : ◌≡◌ {A = ℕ} 0 1 = cc in omega arith)
take_starts (m ∷ ms) (b ∷ bs) h = rw (eq-eqb b m (cc), take_starts ms bs (cc))

eqb_sym : (a b : ℕ) → eqb a b ≡ eqb b a
eqb_sym a b = elim (ℕ_discrete a b) [ yes e ↦ rw e | no p ↦ rw (ne_eqb a b p, ne_eqb b a (λ e. p (sym e))) ]

-- the test of a slice's beginning is `starts_with`
pub mark_test : (ms bs : List ℕ) → pointwise eqb ms (take (length ms) bs) ≡ starts_with ms bs
unfolding starts_with
mark_test [] bs = refl
mark_test (m ∷ ms) [] = refl
mark_test (m ∷ ms) (b ∷ bs) = rw (eqb_sym m b, mark_test ms bs)

module _ (ms bs : List ℕ) where
  -- a file that does not lack the mark has at least five bytes, and begins with the mark
  pub has_mark : lacks_mark ms bs ≡ false → (5 ≤ length bs) × (starts_with ms bs ≡ true)
  has_mark h = elim (dec_le 5 (length bs)) [
    | yes l ↦ (l, not-false (starts_with ms bs) (rw (le-ltb (length bs) 5 l) at h))
    | no l ↦ absurd (false≢true (sym h ∙ rw (lt-ltb (length bs) 5 (omega arith))))
  ]
