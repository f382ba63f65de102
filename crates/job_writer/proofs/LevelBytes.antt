-- The bit patterns of a record's levels and their bytes determine each other. Assumes nothing.
use Prim.Native.Nat.{ℕ, zero, suc, ◌+◌, ◌^◌, ◌≤◌, ◌<◌}
use native.Mathlib.Nat.{pow-suc}
use native.Mathlib.Omega.{arith}
use mathlib.Core.Path.{◌≡◌, refl}
use mathlib.Core.List.{List, ◌++◌}
use lib.ListN.{length}
use Rattle.job_fields.specs.declared.levels.Levels.{Levels}
use Rattle.job_fields.specs.Bytes.{word, low_bytes}
use Rattle.job_fields.specs.Levels.{bits_at}
use Rattle.job_bytes.specs.Written.{level_bytes}
use Rattle.job_bytes.specs.Patterns.{Patterns}
use Rattle.job_writer.specs.Whole.{Bytes}
use Rattle.job_bytes.proofs.LowBytes.{low_length}
use Rattle.job_writer.proofs.Has.{Has, has_front, has_back, has_both, word_has, has_word}

module _ {bs : List ℕ} {at : ℕ} (next : ℕ) (e : at + 4 ≡ next) where
  -- a pattern, and the bytes after it
  first : (x : ℕ) (ys : List ℕ) → x < 256 ^ 4 → Has bs at (low_bytes 4 x ++ ys) → (word 4 bs at ≡ x) × Has bs next ys
  first x ys h p = (word_has 4 x h (has_front (low_bytes 4 x) ys p), rw e at (rw (low_length 4 x) at (has_back (low_bytes 4 x) ys p)))

  again : (ys : List ℕ) → next ≤ length bs → Bytes bs → Has bs next ys → Has bs at (low_bytes 4 (word 4 bs at) ++ ys)
  again ys h b p = has_both (low_bytes 4 (word 4 bs at)) ys (has_word bs at 4 (omega arith) b) (rw (low_length 4 (word 4 bs at), e) p)

-- written patterns read back
pub bits_back : {bs : List ℕ} {at : ℕ} (b : Levels ℕ) → Patterns b → Has bs at (level_bytes b) → bits_at bs at ≡ b
unfolding level_bytes
bits_back {bs} {at} b p h =
    let w0 = first (at + 4) refl b.outer0 _ p.outer0 h in
    let w1 = first (at + 8) (omega arith) b.outer1 _ p.outer1 w0.1 in
    let w2 = first (at + 12) (omega arith) b.outer2 _ p.outer2 w1.1 in
    let w3 = first (at + 16) (omega arith) b.outer3 _ p.outer3 w2.1 in
    let w4 = first (at + 20) (omega arith) b.inner0 _ p.inner0 w3.1 in
    rw (w0.0, w1.0, w2.0, w3.0, w4.0, word_has 4 b.inner1 p.inner1 w4.1)

-- a number of k bytes is below 256 ^ k
word_small : (bs : List ℕ) (at k : ℕ) → Bytes bs → word k bs at < 256 ^ k
unfolding word
word_small bs at zero b = omega arith
word_small bs at (suc k) b = omega (arith, b at, word_small bs (at + 1) k b, pow-suc 256 k)

module _ (bs : List ℕ) (at : ℕ) where
  -- patterns that were read have at most 32 bits
  pub bits_small : Bytes bs → Patterns (bits_at bs at)
  bits_small b = record {
    outer0 = word_small bs at 4 b;
    outer1 = word_small bs (at + 4) 4 b;
    outer2 = word_small bs (at + 8) 4 b;
    outer3 = word_small bs (at + 12) 4 b;
    inner0 = word_small bs (at + 16) 4 b;
    inner1 = word_small bs (at + 20) 4 b;
  }

  -- their bytes are where they were read
  pub bits_again : at + 24 ≤ length bs → Bytes bs → Has bs at (level_bytes (bits_at bs at))
  unfolding level_bytes
  bits_again h b =
      again (at + 4) refl _ (omega arith) b
      (again (at + 8) (omega arith) _ (omega arith) b
      (again (at + 12) (omega arith) _ (omega arith) b
      (again (at + 16) (omega arith) _ (omega arith) b (again (at + 20) (omega arith) _ (omega arith) b (has_word bs (at + 20) 4 (omega arith) b)))))
