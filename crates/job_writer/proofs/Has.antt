-- Bytes at a place of a list, and the numbers in them. Assumes nothing.
use Prim.Native.Nat.{ℕ, zero, suc, ◌+◌, ◌^◌, ◌≤◌, ◌<◌}
use native.Mathlib.Omega.{arith}
use mathlib.Core.Path.{◌≡◌, sym, ap, ◌∙◌}
use mathlib.Core.List.{List, ◌++◌}
use lib.ListN.{length, take, drop, get_or, length-append, length-take, length-drop, take-append-drop}
use lib.Seq.{take-add, take-take, drop-drop, ext_get_or, take-append_seam, drop-append_seam, get_or-take, get_or-drop, length-take-le}
use Rattle.job_fields.specs.Bytes.{byte_at, word, low_bytes}
use Rattle.job_fields.proofs.Words.{word_back, bytes_back}
use Rattle.job_writer.specs.Whole.{Bytes}
use Rattle.job_bytes.proofs.LowBytes.{low_length}

-- bs has the bytes ys from place `at` on
pub record Has (bs : List ℕ) (at : ℕ) (ys : List ℕ) : Type 0 where
  pub is : take (length ys) (drop at bs) ≡ ys

-- joined bytes
pub has_front : {bs : List ℕ} {at : ℕ} (xs ys : List ℕ) → Has bs at (xs ++ ys) → Has bs at xs
has_front {bs} {at} xs ys h =
    let n : length xs ≤ length (xs ++ ys) = omega (arith, length-append xs ys) in
    record { is = sym (take-take (length xs) (length (xs ++ ys)) (drop at bs) n) ∙ ap (take (length xs)) h.is ∙ take-append_seam xs ys }

split : (bs : List ℕ) (at : ℕ) (xs ys : List ℕ)
    → take (length (xs ++ ys)) (drop at bs) ≡ take (length xs) (drop at bs) ++ take (length ys) (drop (at + length xs) bs)
split bs at xs ys = rw (length-append xs ys, take-add (length xs) (length ys) (drop at bs), drop-drop (length xs) at bs)

pub has_back : {bs : List ℕ} {at : ℕ} (xs ys : List ℕ) → Has bs at (xs ++ ys) → Has bs (at + length xs) ys
has_back {bs} {at} xs ys h =
    let e = sym (split bs at xs ys) ∙ h.is in
    let f : xs ++ take (length ys) (drop (at + length xs) bs) ≡ xs ++ ys = rw (has_front xs ys h).is at e in
    record { is = sym (drop-append_seam xs (take (length ys) (drop (at + length xs) bs))) ∙ ap (drop (length xs)) f ∙ drop-append_seam xs ys }

pub has_both : {bs : List ℕ} {at : ℕ} (xs ys : List ℕ) → Has bs at xs → Has bs (at + length xs) ys → Has bs at (xs ++ ys)
has_both {bs} {at} xs ys p q = record { is = split bs at xs ys ∙ rw (p.is, q.is) }

-- each byte
pub has_byte : {bs : List ℕ} {at : ℕ} {ys : List ℕ} → Has bs at ys → (i : ℕ) → i < length ys → byte_at bs (at + i) ≡ get_or ys i 0
has_byte {bs} {at} {ys} h i l =
    sym (get_or-drop at bs i 0) ∙ sym (get_or-take (length ys) (drop at bs) i 0 l) ∙ ap (λ (zs : List ℕ). get_or zs i 0) h.is

-- all bytes
pub has_all : (bs : List ℕ) (at : ℕ) (ys : List ℕ) → at + length ys ≤ length bs → ((i : ℕ) → i < length ys → byte_at bs (at + i) ≡ get_or ys i 0) → Has bs at ys
has_all bs at ys h same =
    let n : length (take (length ys) (drop at bs)) ≡ length ys = omega (arith, length-take (length ys) (drop at bs), length-drop at bs) in
    record {
      is = ext_get_or 0 _ _ n (λ i l. let k : i < length ys = omega arith in get_or-take (length ys) (drop at bs) i 0 k ∙ get_or-drop at bs i 0 ∙ same i k);
    }

-- the bytes end within the list
pub has_within : {bs : List ℕ} {at : ℕ} {ys : List ℕ} → 1 ≤ length ys → Has bs at ys → at + length ys ≤ length bs
has_within {bs} {at} {ys} l h = omega (arith, ap length h.is, length-take (length ys) (drop at bs), length-drop at bs)

-- ---- low_bytes k and word k are inverse to each other

-- the low bytes of a number read back as the number
pub word_has : {bs : List ℕ} {at : ℕ} (k x : ℕ) → x < 256 ^ k → Has bs at (low_bytes k x) → word k bs at ≡ x
unfolding word
word_has zero x h p = omega arith
word_has {bs} {at} (suc k) x h p =
    let n = low_length (suc k) x in
    let rest = drop (suc k) (drop at bs) in
    let within : at ≤ length bs = omega (arith, n, has_within (omega (arith, n)) p) in
    let from : low_bytes (suc k) x ++ rest ≡ drop at bs =
    ap (λ (ys : List ℕ). ys ++ rest) (sym (rw n at p.is)) ∙ take-append-drop (suc k) (drop at bs) in
    let whole : take at bs ++ (low_bytes (suc k) x ++ rest) ≡ bs = ap (λ (ys : List ℕ). take at bs ++ ys) from ∙ take-append-drop at bs in
    rw (whole, length-take-le at bs within) at (word_back (suc k) x (take at bs) rest h)

-- the bytes that a number was read from are its low bytes
pub has_word : (bs : List ℕ) (at k : ℕ) → at + k ≤ length bs → Bytes bs → Has bs at (low_bytes k (word k bs at))
has_word bs at k h b = record { is = rw (low_length k (word k bs at)) (sym (bytes_back k bs at h b)) }
