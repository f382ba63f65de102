-- `is_top` tests whether a number can be the top level. Assumes nothing.
use Prim.Native.Nat.{ℕ, ◌%◌}
use mathlib.Core.Path.{◌≡◌, refl, sym, subst, ◌∙◌}
use mathlib.Core.Bool.{Bool, true, false, not, ◌&&◌, true≢false, false≢true}
use lib.Dec.{T, leb, eqb, leb→le, eqb→eq, le→leb}
use lib.Ieee.Fits.{and_i, and_l, and_r, eq→eqb}
use Rattle.level.specs.Top.{Top, is_top}

-- a number that passes the test is a top level
pub top_of : (t : ℕ) → T (is_top t) → Top t
top_of t h =
    let bounds = and_l (leb 2 t && leb t 64) (eqb (t % 2) 0) h in
    record {
      least = leb→le 2 t (and_l (leb 2 t) (leb t 64) bounds);
      most = leb→le t 64 (and_r (leb 2 t) (leb t 64) bounds);
      even = eqb→eq (t % 2) 0 (and_r (leb 2 t && leb t 64) (eqb (t % 2) 0) h);
    }

-- every top level passes the test
pub of_top : (t : ℕ) → Top t → T (is_top t)
of_top t top =
    and_i (leb 2 t && leb t 64) (eqb (t % 2) 0) (and_i (leb 2 t) (leb t 64) (le→leb 2 t top.least) (le→leb t 64 top.most)) (eq→eqb top.even)

-- the least top level and the greatest
pub top_two : Top 2
top_two = top_of 2 tt

pub top_64 : Top 64
top_64 = top_of 64 tt

-- ---- the test as a Bool
-- it was not bad
pub good : {y : Bool} (b : Bool) → b ≡ y → not b ≡ false → y ≡ true
good true e h = sym e
good false e h = absurd (true≢false h)

-- it was bad
pub bad : {y : Bool} (b : Bool) → b ≡ y → not b ≡ true → y ≡ false
bad true e h = absurd (false≢true h)
bad false e h = sym e

pub top_as : (t : ℕ) → is_top t ≡ true → Top t
top_as t e = top_of t (subst T (sym e) tt)

pub is_top_lem : (t : ℕ) → Top t → is_top t ≡ true
is_top_lem t h = go (is_top t) (of_top t h)
  where
    go : (b : Bool) → T b → b ≡ true
    go true h = refl
    go false h = absurd h

pub no_top : (t : ℕ) → is_top t ≡ false → Top t → ⊥
no_top t e h = true≢false (sym (is_top_lem t h) ∙ e)

pub top_no : (t : ℕ) → (Top t → ⊥) → is_top t ≡ false
top_no t h = go (is_top t) refl
  where
    go : (b : Bool) → is_top t ≡ b → b ≡ false
    go true e = absurd (h (top_as t e))
    go false e = refl
