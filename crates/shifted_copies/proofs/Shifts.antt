-- Copies of words: a copy of several copies is a run of later copies. Assumes nothing.
use Prim.Native.Nat.{ℕ, zero, suc, min, ◌+◌, ◌-◌, ◌*◌, ◌%◌, ◌≤◌, ◌<◌}
use mathlib.Core.Path.{◌≡◌, refl, sym, ap, subst, ◌∙◌}
use mathlib.Core.List.{List, [], ◌∷◌, ◌++◌, append_assoc}
use native.Mathlib.Nat.{add_assoc, add-zero, add-mul, mul-add, mul_comm, mul-le-mul_right, zero-add, mod-add-mod}
use native.Mathlib.Omega.{arith}
use lib.ListN.{length, take, drop, get_or, length-append, length-take, length-drop, take-append-drop, get_or-append}
use lib.Seq.{drop-cons, take_at, drop_at, take-add, get_or-take}
use Rattle.buffer.specs.Over.{over, Wrote, flat}
use Rattle.buffer.proofs.Laws.{flat_length, flat_done, Left, left_all, left_step, left_none, Counting, wrote_then}
use Rattle.shifted_copies.specs.Copies.{shifted, copy}

-- ---- words shifted
pub shifted_length : (d : ℕ) (xs : List ℕ) → length (shifted d xs) ≡ length xs
unfolding shifted
shifted_length d [] = refl
shifted_length d (x ∷ xs) = ap suc (shifted_length d xs)

pub shifted_append : (d : ℕ) (xs ys : List ℕ) → shifted d (xs ++ ys) ≡ shifted d xs ++ shifted d ys
unfolding shifted
shifted_append d [] ys = refl
shifted_append d (x ∷ xs) ys = ap (λ (l : List ℕ). (x + d) % 65536 ∷ l) (shifted_append d xs ys)

pub shifted_twice : (d e : ℕ) (xs : List ℕ) → shifted d (shifted e xs) ≡ shifted (e + d) xs
unfolding shifted
shifted_twice d e [] = refl
shifted_twice d e (x ∷ xs) =
    let head : ((x + e) % 65536 + d) % 65536 ≡ (x + (e + d)) % 65536 = mod-add-mod (x + e) 65536 d ∙ ap (λ (k : ℕ). k % 65536) (add_assoc x e d) in
    rw (head, shifted_twice d e xs)

-- ---- joined pieces
pub flat_split : (f : ℕ → List ℕ) (i j k : ℕ) → flat f i (j + k) ≡ flat f i j ++ flat f (i + j) k
unfolding flat
flat_split f i zero k = rw (zero-add k, add-zero i)
flat_split f i (suc j) k =
    let e : suc j + k ≡ suc (j + k) = omega arith in
    let l : i + 1 + j ≡ i + suc j = omega arith in
    rw (e, flat_split f (i + 1) j k, l) (sym (append_assoc (f i) (flat f (i + 1) j) (flat f (i + suc j) k)))

-- pieces that agree up to the last
pub flat_below : (f g : ℕ → List ℕ) (i k : ℕ) → ((j : ℕ) → j < i + k → f j ≡ g j) → flat f i k ≡ flat g i k
unfolding flat
flat_below f g i zero h = refl
flat_below f g i (suc k) h = rw (h i (omega arith), flat_below f g (i + 1) k (λ j l. h j (omega arith)))

pub flat_shifted : (d : ℕ) (f : ℕ → List ℕ) (i k : ℕ) → shifted d (flat f i k) ≡ flat (λ j. shifted d (f j)) i k
unfolding flat shifted
flat_shifted d f i zero = refl
flat_shifted d f i (suc k) = shifted_append d (f i) (flat f (i + 1) k) ∙ ap (λ (l : List ℕ). shifted d (f i) ++ l) (flat_shifted d f (i + 1) k)

module _ (by : ℕ) (ys : List ℕ) where
  pub copy_length : (i : ℕ) → length (copy by ys i) ≡ length ys
  unfolding copy
  copy_length i = shifted_length (i * by) ys

  copies_length : (i k : ℕ) → length (flat (copy by ys) i k) ≡ length ys * k
  copies_length i k = flat_length (copy by ys) (length ys) i k copy_length

  copy_copied : (s i : ℕ) → shifted (s * by) (copy by ys i) ≡ copy by ys (s + i)
  unfolding copy
  copy_copied s i =
      let e : i * by + s * by ≡ (s + i) * by = omega (arith, add-mul s i by) in
      shifted_twice (s * by) (i * by) ys ∙ ap (λ (k : ℕ). shifted k ys) e

  copies_copied : (s i k : ℕ) → shifted (s * by) (flat (copy by ys) i k) ≡ flat (copy by ys) (s + i) k
  unfolding flat shifted
  copies_copied s i zero = refl
  copies_copied s i (suc k) =
      let e : s + (i + 1) ≡ s + i + 1 = omega arith in
      shifted_append (s * by) (copy by ys i) (flat (copy by ys) (i + 1) k)
      ∙ rw (copy_copied s i, copies_copied s (i + 1) k, e)

  -- a copy of the first k + 1 copies is k + 1 copies from copy s on
  all_copied : (s k : ℕ) → shifted (s * by) (ys ++ flat (copy by ys) 1 k) ≡ flat (copy by ys) s (suc k)
  unfolding flat copy
  all_copied s k = shifted_append (s * by) ys (flat (copy by ys) 1 k) ∙ ap (λ (l : List ℕ). shifted (s * by) ys ++ l) (copies_copied s 1 k)

-- ---- the words before what is left to write
pub left_front : {out rest xs ys : List ℕ} {w at : ℕ} (done : List ℕ) → ys ≡ done ++ rest → at ≤ length xs → Left out w rest xs at ys → take w out ≡ take at xs ++ done
unfolding over
left_front {out} {rest} {xs} {ys} {w} {at} done e h l =
    let n : length ys ≡ length done + length rest = ap length e ∙ length-append done rest in
    let place : w ≡ at + length done = omega arith in
    let P = take at xs in
    let p : length P ≡ at = length-take at xs ∙ omega arith in
    let q : length (P ++ done) ≡ w = length-append P done ∙ omega arith in
    let o : length (take w out) ≡ w = length-take w out ∙ omega arith in
    let here : take w (over out w rest) ≡ take w out = take_at (take w out) (rest ++ drop (w + length rest) out) w o in
    let there : over xs at ys ≡ (P ++ done) ++ (rest ++ drop (at + length ys) xs) =
    rw (ap (over xs at) e, append_assoc done rest (drop (at + length (done ++ rest)) xs))
    (sym (append_assoc P done (rest ++ drop (at + length (done ++ rest)) xs)) ∙ ap (λ (m : List ℕ). P ++ done ++ (rest ++ drop (at + length m) xs))
    (sym e)) in
    sym here ∙ ap (take w) l.is ∙ ap (take w) there ∙ take_at (P ++ done) (rest ++ drop (at + length ys) xs) w q

-- a counting loop has written the pieces before the current one
counted : {f : ℕ → List ℕ} {i n : ℕ} {out : List ℕ} {w : ℕ} {xs : List ℕ} {at : ℕ} → at ≤ length xs → Counting f i n out w xs at → take w out ≡ take at xs ++ flat f 0 i
counted {f} {i} {n} h c =
    let e : i + (n - i) ≡ n = omega (arith, c.within) in
    left_front (flat f 0 i) (ap (flat f 0) (sym e) ∙ flat_split f 0 i (n - i) ∙ ap (λ (k : ℕ). flat f 0 i ++ flat f k (n - i)) (zero-add i)) h c.left

-- and has not changed the words before them
pub count_keeps : {f : ℕ → List ℕ} {i n : ℕ} {out : List ℕ} {w : ℕ} {xs : List ℕ} {at : ℕ} → at ≤ length xs → Counting f i n out w xs at → (j : ℕ) → j < at → get_or out j 0 ≡ get_or xs j 0
count_keeps {f} {i} {n} {out} {w} {xs} {at} h c j l =
    let front = counted h c in
    let sizes : min w (length out) ≡ min at (length xs) + length (flat f 0 i) = sym (length-take w out) ∙ ap length front ∙ length-append (take at xs)
    (flat f 0 i) ∙ ap (λ (k : ℕ). k + length (flat f 0 i)) (length-take at xs) in
    let below : j < w = omega arith in
    let inside : j < length (take at xs) = rw (length-take at xs) (omega arith) in
    sym (get_or-take w out j 0 below) ∙ ap (λ (m : List ℕ). get_or m j 0) front ∙ get_or-append (take at xs) (flat f 0 i) 0 j inside ∙ get_or-take at xs j 0 l

-- word j of a copy of xs from `from` on
abbrev pub copied : ℕ → List ℕ → ℕ → ℕ → List ℕ
copied by xs from j = ((get_or xs (from + j) 0 + by) % 65536) ∷ []

copied_from : (by : ℕ) (xs : List ℕ) (from i k : ℕ) → from + i + k ≤ length xs → flat (copied by xs from) i k ≡ shifted by (take k (drop (from + i) xs))
unfolding flat shifted
copied_from by xs from i zero h = refl
copied_from by xs from i (suc k) h =
    let e : from + (i + 1) ≡ suc (from + i) = omega arith in
    rw (drop-cons xs (from + i) 0 (omega arith), copied_from by xs from (i + 1) k (omega arith), e)

pub all_words : (by : ℕ) (xs : List ℕ) (from n : ℕ) → from + n ≤ length xs → flat (copied by xs from) 0 n ≡ shifted by (take n (drop from xs))
all_words by xs from n h = copied_from by xs from 0 n (omega arith) ∙ ap (λ (k : ℕ). shifted by (take n (drop k xs))) (add-zero from)

-- ---- the loop that writes the n words at `at` k times; r copies are there
abbrev pub words_at : List ℕ → ℕ → ℕ → List ℕ
words_at xs at n = take n (drop at xs)

pub record Copying (xs : List ℕ) (at n k by r : ℕ) (out : List ℕ) (w : ℕ) : Type 0 where
  pub some : 1 ≤ r
  pub within : r ≤ k
  pub left : Left out w (flat (copy by (words_at xs at n)) r (k - r)) xs (at + n) (flat (copy by (words_at xs at n)) 1 (k - 1))

module _ (xs : List ℕ) (at n k by : ℕ) (fits : at + k * n ≤ length xs) (some : 1 ≤ k) where
  words_length : length (words_at xs at n) ≡ n
  words_length = length-take n (drop at xs) ∙ omega (arith, length-drop at xs, mul-le-mul_right n some)

  run_length : (i j : ℕ) → length (flat (copy by (words_at xs at n)) i j) ≡ n * j
  run_length i j = copies_length by (words_at xs at n) i j ∙ ap (λ (l : ℕ). l * j) words_length

  pub copying_start : Copying xs at n k by 1 xs (at + n)
  copying_start =
      let all : n * (1 + (k - 1)) ≡ n * k = ap (λ (j : ℕ). n * j) (omega arith) in
      record {
        some = omega arith;
        within = some;
        left = left_all refl (omega (arith, run_length 1 (k - 1), all, mul-add n 1 (k - 1), mul_comm n k));
      }

  module _ {r : ℕ} {out : List ℕ} {w : ℕ} (c : Copying xs at n k by r out w) where
    pub copying_place : w ≡ at + r * n
    copying_place =
        let all : n * (1 + (k - 1)) ≡ n * k = ap (λ (j : ℕ). n * j) (omega arith) in
        let parts : n * (r + (k - r)) ≡ n * k = ap (λ (j : ℕ). n * j) (omega arith) in
        omega (arith, run_length r (k - r), run_length 1 (k - 1), all, parts, mul-add n 1 (k - 1), mul-add n r (k - r), mul_comm n r)

    -- the first m copies
    copying_front : (m : ℕ) → 1 ≤ m → m ≤ r → take (m * n) (drop at out) ≡ words_at xs at n ++ flat (copy by (words_at xs at n)) 1 (m - 1)
    copying_front m h l =
        let ys = words_at xs at n in
        let C = copy by ys in
        let P = take at xs in
        let whole : flat C 1 (k - 1) ≡ flat C 1 (r - 1) ++ flat C r (k - r) =
        let e : k - 1 ≡ r - 1 + (k - r) = omega arith in
        let f : 1 + (r - 1) ≡ r = omega arith in
        rw (e, flat_split C 1 (r - 1) (k - r), f) in
        let some' : flat C 1 (r - 1) ≡ flat C 1 (m - 1) ++ flat C m (r - m) =
        let e : r - 1 ≡ m - 1 + (r - m) = omega arith in
        let f : 1 + (m - 1) ≡ m = omega arith in
        rw (e, flat_split C 1 (m - 1) (r - m), f) in
        let p : length P ≡ at = length-take at xs ∙ omega arith in
        let q : length (ys ++ flat C 1 (m - 1)) ≡ m * n =
        let all : n * (1 + (m - 1)) ≡ n * m = ap (λ (j : ℕ). n * j) (omega arith) in
        length-append ys (flat C 1 (m - 1)) ∙ omega (arith, words_length, run_length 1 (m - 1), all, mul-add n 1 (m - 1), mul_comm n m) in
        let front = left_front (flat C 1 (r - 1)) whole (omega (arith, mul-le-mul_right n some)) c.left in
        let split : out ≡ P ++ (ys ++ flat C 1 (m - 1) ++ (flat C m (r - m) ++ drop w out)) =
        sym (take-append-drop w out) ∙ rw (front, take-add at n xs, some') (simp append_assoc) in
        ap (λ (l : List ℕ). take (m * n) (drop at l)) split
        ∙ ap (take (m * n)) (drop_at P (ys ++ flat C 1 (m - 1) ++ (flat C m (r - m) ++ drop w out)) at p)
        ∙ take_at (ys ++ flat C 1 (m - 1)) (flat C m (r - m) ++ drop w out) (m * n) q

    pub copying_step : (m : ℕ) {out' : List ℕ} {w' : ℕ} → 1 ≤ m → m ≤ r → m ≤ k - r → Wrote out w (shifted (r * by) (take (m * n) (drop at out))) out' w' → Copying xs at n k by (r + m) out' w'
    copying_step m {out'} {w'} h l g p =
        let C = copy by (words_at xs at n) in
        let e : suc (m - 1) ≡ m = omega arith in
        let more : k - r ≡ m + (k - (r + m)) = omega arith in
        let wrote : shifted (r * by) (take (m * n) (drop at out)) ≡ flat C r m =
        ap (shifted (r * by)) (copying_front m h l) ∙ all_copied by (words_at xs at n) r (m - 1) ∙ ap (flat C r) e in
        record {
          some = omega arith;
          within = omega arith;
          left = left_step (subst (λ (zs : List ℕ). Wrote out w zs out' w') wrote p) (ap (flat C r) more ∙ flat_split C r m (k - (r + m))) c.left;
        }

    pub copying_done : k ≤ r → Wrote xs (at + n) (flat (copy by (words_at xs at n)) 1 (k - 1)) out w
    copying_done h = left_none (flat_done (copy by (words_at xs at n)) r k h) c.left

-- the written words are at their place
words_stand : {xs ys mid : List ℕ} {at w : ℕ} (n : ℕ) → length ys ≡ n → at ≤ length xs → Wrote xs at ys mid w → words_at mid at n ≡ ys
unfolding over
words_stand {xs} {ys} {mid} {at} n e h p =
    let front : length (take at xs) ≡ at = length-take at xs ∙ omega arith in
    ap (λ (l : List ℕ). take n (drop at l)) p.is ∙ ap (take n) (drop_at (take at xs) (ys ++ drop (at + length ys) xs) at front) ∙ take_at ys (drop (at + length ys) xs) n e

-- a first piece and its copies are all pieces
pub copies_wrote : {xs ys mid out : List ℕ} {at w w' : ℕ} (n k by : ℕ) (row : ℕ → List ℕ) → at ≤ length xs → length ys ≡ n → 1 ≤ k → ys ≡ row 0 → ((r : ℕ) → r < k → copy by ys r ≡ row r)
    → Wrote xs at ys mid w → Wrote mid (at + n) (flat (copy by (words_at mid at n)) 1 (k - 1)) out w' → Wrote xs at (flat row 0 k) out w'
unfolding flat
copies_wrote {xs} {ys} {mid} {out} {at} {w} {w'} n k by row h e some first later p q =
    let all : k ≡ suc (k - 1) = omega arith in
    let place : at + n ≡ w = omega (arith, p.next) in
    let stand : words_at mid at n ≡ ys = words_stand n e h p in
    let next : Wrote mid w (flat (copy by ys) 1 (k - 1)) out w' =
    subst (λ (a : ℕ). Wrote mid a (flat (copy by ys) 1 (k - 1)) out w') place (subst (λ (zs : List ℕ). Wrote mid (at + n) (flat (copy by zs) 1 (k - 1)) out w') stand q) in
    let words : ys ++ flat (copy by ys) 1 (k - 1) ≡ flat row 0 k =
    rw (flat_below (copy by ys) row 1 (k - 1) (λ j l. later j (omega arith)), first) (ap (flat row 0) (sym all)) in
    subst (λ (zs : List ℕ). Wrote xs at zs out w') words (wrote_then h p next)
