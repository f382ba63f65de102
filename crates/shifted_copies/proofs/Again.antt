-- Lists by their words, and words that are overwritten together with those after them. Assumes nothing.
use Prim.Native.Nat.{ℕ, zero, suc, ◌+◌, ◌-◌, ◌≤◌}
use mathlib.Core.Path.{◌≡◌, refl, sym, ap, ◌∙◌}
use mathlib.Core.List.{List, [], ◌∷◌, ◌++◌, append_assoc, append-nil}
use native.Mathlib.Omega.{arith}
use lib.ListN.{length, take, drop, get_or, length-append, length-take}
use lib.Seq.{drop-cons, take_at, drop-append-add, drop-drop}
use Rattle.buffer.specs.Over.{over, Wrote, flat}

-- ---- a list by its words
pub drop_all : (xs : List ℕ) (i : ℕ) → length xs ≤ i → drop i xs ≡ []
drop_all [] zero h = refl
drop_all [] (suc i) h = refl
drop_all (x ∷ xs) zero h = absurd (omega arith)
drop_all (x ∷ xs) (suc i) h = drop_all xs i (omega arith)

words_from : (xs : List ℕ) (i k : ℕ) → i + k ≡ length xs → flat (λ j. get_or xs j 0 ∷ []) i k ≡ drop i xs
unfolding flat
words_from xs i zero e = sym (drop_all xs i (omega arith))
words_from xs i (suc k) e =
    let s : i + 1 ≡ suc i = omega arith in
    rw (drop-cons xs i 0 (omega arith), words_from xs (i + 1) k (omega arith), s)

pub words_all : (xs : List ℕ) (n : ℕ) → n ≡ length xs → flat (λ j. get_or xs j 0 ∷ []) 0 n ≡ xs
words_all xs n e = words_from xs 0 n (omega arith)

-- a list that was overwritten completely
pub wrote_whole : {xs ys xs' : List ℕ} {w : ℕ} → length ys ≡ length xs → Wrote xs 0 ys xs' w → xs' ≡ ys
unfolding over
wrote_whole {xs} {ys} e p = p.is ∙ ap (λ (l : List ℕ). ys ++ l) (drop_all xs (0 + length ys) (omega arith)) ∙ append-nil ys

-- ---- words that are overwritten, and others after them
-- `gs` are the words after `ys` that are lost
again_over : (xs : List ℕ) (at : ℕ) (ys gs zs : List ℕ) → at ≤ length xs → length gs ≤ length zs → over (over xs at (ys ++ gs)) (at + length ys) zs ≡ over xs at (ys ++ zs)
unfolding over
again_over xs at ys gs zs fits less =
    let P = take at xs in
    let D = drop (at + length (ys ++ gs)) xs in
    let p : length P ≡ at = length-take at xs ∙ omega arith in
    let q : length (P ++ ys) ≡ at + length ys = length-append P ys ∙ omega arith in
    let whole : P ++ ((ys ++ gs) ++ D) ≡ (P ++ ys) ++ (gs ++ D) = simp append_assoc in
    let front : take (at + length ys) (P ++ ((ys ++ gs) ++ D)) ≡ P ++ ys = ap (take (at + length ys)) whole ∙ take_at (P ++ ys) (gs ++ D) (at + length ys) q in
    let s : length zs ≡ length gs + (length zs - length gs) = omega arith in
    let t : length (P ++ (ys ++ gs)) ≡ at + length (ys ++ gs) = length-append P (ys ++ gs) ∙ omega arith in
    let u : at + length ys + length zs ≡ length (P ++ (ys ++ gs)) + (length zs - length gs) = omega (arith, length-append ys gs) in
    let v : at + length (ys ++ gs) + (length zs - length gs) ≡ at + length (ys ++ zs) = omega (arith, length-append ys gs, length-append ys zs) in
    let back : drop (at + length ys + length zs) (P ++ ((ys ++ gs) ++ D)) ≡ drop (at + length (ys ++ zs)) xs =
    ap (λ (k : ℕ). drop k (P ++ ((ys ++ gs) ++ D))) u
    ∙ ap (drop (length (P ++ (ys ++ gs)) + (length zs - length gs))) (sym (append_assoc P (ys ++ gs) D))
    ∙ drop-append-add (P ++ (ys ++ gs)) D (length zs - length gs)
    ∙ drop-drop (length zs - length gs) (at + length (ys ++ gs)) xs
    ∙ ap (λ (k : ℕ). drop k xs) v in
    rw (front, back) (simp append_assoc)

pub wrote_again : {xs mid out : List ℕ} {at w w' v : ℕ} (ys gs zs : List ℕ) → at ≤ length xs → length gs ≤ length zs → v ≡ at + length ys
    → Wrote xs at (ys ++ gs) mid w → Wrote mid v zs out w' → Wrote xs at (ys ++ zs) out w'
wrote_again {xs} {at = at} ys gs zs fits less e p q = record {
  is = rw (q.is, p.is, e) (again_over xs at ys gs zs fits less);
  next = omega (arith, length-append ys zs);
}

-- ---- pieces with a shifted number
pub flat_moved : (f : ℕ → List ℕ) (k i n : ℕ) → flat (λ j. f (j + k)) i n ≡ flat f (i + k) n
unfolding flat
flat_moved f k i zero = refl
flat_moved f k i (suc n) =
    let e : i + 1 + k ≡ i + k + 1 = omega arith in
    rw (flat_moved f k (i + 1) n, e)
