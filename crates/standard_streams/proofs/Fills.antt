-- Bytes read to the front of a list, and whether they fill it. Assumes nothing.
use Prim.Native.Nat.{ℕ, ◌≤◌, ◌<◌}
use mathlib.Core.Path.{◌≡◌, refl, sym, ◌∙◌}
use mathlib.Core.Bool.{Bool, true, false, ◌&&◌, and-true, false≢true}
use mathlib.Core.List.{List, ◌++◌}
use native.Mathlib.Decide.{dec_le}
use native.Mathlib.Omega.{arith}
use borrow.Author.Tests.{eqb-true, eqb-false}
use lib.Dec.{eqb}
use lib.ListN.{length, take, drop, length-append}
use Rattle.standard_streams.proofs.Prefixes.{length-take_of_le, prefix_len_of_le}
use Rattle.standard_streams.specs.declared.input.Input.{Input}
use Rattle.standard_streams.specs.Moved.{Filled}

-- the whole list was lent
pub filled_as : {n : ℕ} {xs : List ℕ} {r : Input} → length xs ≡ n → Filled (length xs) xs r → Filled n xs r
filled_as {n} {xs} {r} e f = record { counts = f.counts; most = omega (arith, f.most); short = λ h. omega (arith, f.short h) }

-- the first n words of xs were lent, and came back as ys
pub part_filled : (n : ℕ) (xs ys : List ℕ) {r : Input} → n ≤ length xs → length ys ≡ length (take n xs) → Filled (length ys) ys r → Filled n (ys ++ drop n xs) r
part_filled n xs ys {r} l e f =
    let whole = length-take_of_le n xs l in
    record {
      counts = prefix_len_of_le r.count (ys ++ drop n xs) (omega (arith, length-append ys (drop n xs), f.most));
      most = omega (arith, f.most);
      short = λ h. omega (arith, f.short h);
    }

-- no byte was read
pub filled_none : {n : ℕ} (xs : List ℕ) → Filled n xs (record { count = 0; failed = false })
filled_none xs = record { counts = prefix_len_of_le 0 xs (omega arith); most = omega arith; short = λ h. absurd (false≢true h) }

-- no read failed if all n bytes were read
pub filled_read : {n : ℕ} {xs : List ℕ} {r : Input} → Filled n xs r → r.count ≡ n → r.failed ≡ false
filled_read {n} {xs} {r} f e = go r.failed refl
  where
    go : (t : Bool) → r.failed ≡ t → t ≡ false
    go true h = absurd (omega (arith, f.short h))
    go false h = refl

-- the two parts of a test
pub both : (s t : Bool) → (s && t) ≡ true → (s ≡ true) × (t ≡ true)
both true true h = (refl, refl)
both true false h = absurd (false≢true h)
both false t h = absurd (false≢true h)

-- reading continues only if the part is full
pub part_full : (n size : ℕ) (t : Bool) → (eqb n size && t) ≡ true → n ≡ size
part_full n size t h = eqb-true n size (both (eqb n size) t h).0

-- reading stops only if the part is not full, or the other test fails
pub part_short : (n size : ℕ) (t : Bool) → n ≤ size → (eqb n size && t) ≡ false → t ≡ true → n < size
part_short n size t l h g =
    let other = eqb-false n size (sym (and-true (eqb n size)) ∙ (rw g at h)) in
    elim (dec_le size n) [
      | yes k ↦ absurd (other (omega arith))
      | no k ↦ omega arith
    ]
