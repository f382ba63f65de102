-- Numbers written low byte first read back, and bytes that were read are written back. Assumes nothing.
use Prim.Native.Nat.{ℕ, zero, suc, ◌+◌, ◌/◌, ◌%◌, ◌^◌, ◌≤◌, ◌<◌}
use native.Mathlib.Nat.{pow-suc}
use native.Mathlib.Numerals.{add-one}
use native.Mathlib.Omega.{arith}
use mathlib.Core.Path.{◌≡◌, refl}
use mathlib.Core.List.{List, [], ◌∷◌, ◌++◌}
use lib.ListN.{length, length-append, take, drop}
use lib.Seq.{get_or-append_seam, append_snoc, drop-cons}
use Rattle.job_fields.specs.Bytes.{byte_at, word, low_bytes}

-- the k low bytes of a number below 256 ^ k, at any place, read back as that number
pub word_back : (k x : ℕ) (xs ys : List ℕ) → x < 256 ^ k → word k (xs ++ (low_bytes k x ++ ys)) (length xs) ≡ x
unfolding word low_bytes
word_back zero x xs ys h = omega arith
word_back (suc k) x xs ys h =
    let rest = word_back k (x / 256) (xs ++ (x % 256 ∷ [])) ys (omega (arith, rw (pow-suc 256 k) at h)) in
    rw get_or-append_seam (omega (arith, simp (length-append, append_snoc) at rest))

-- the k bytes from a place on are the low bytes of the number read there
pub bytes_back : (k : ℕ) (bs : List ℕ) (at : ℕ) → at + k ≤ length bs → ((i : ℕ) → byte_at bs i < 256)
    → low_bytes k (word k bs at) ≡ take k (drop at bs)
unfolding word low_bytes
bytes_back zero bs at h b = refl
bytes_back (suc k) bs at h b =
    let low : word (suc k) bs at % 256 ≡ byte_at bs at = omega (arith, b at) in
    let high : word (suc k) bs at / 256 ≡ word k bs (at + 1) = omega (arith, b at) in
    rw (low, high, bytes_back k bs (at + 1) (omega arith) b, add-one at, drop-cons bs at 0 (omega arith))
