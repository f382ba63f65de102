-- Four pairs at a time: their words from the pattern, later words from earlier ones, and words that are overwritten. Assumes nothing.
use Prim.Native.Nat.{ℕ, zero, suc, ◌+◌, ◌-◌, ◌*◌, ◌/◌, ◌%◌, ◌≤◌, ◌<◌}
use mathlib.Core.Path.{◌≡◌, refl, sym, ap, subst, ◌∙◌}
use mathlib.Core.Bool.{Bool, true, false}
use mathlib.Core.List.{List, [], ◌∷◌, ◌++◌, append_assoc, append-nil}
use native.Mathlib.Nat.{add_assoc, add-zero, mod-add-mod}
use native.Mathlib.Omega.{arith}
use lib.ListN.{length, take, drop, get_or, length-append, length-take}
use lib.Seq.{take_all, take_at, take-suc, get_or-append-add, get_or-drop, drop-append-add, drop-drop}
use Rattle.buffer.specs.Over.{over, Wrote, flat}
use Rattle.buffer.proofs.Laws.{flat_length, flat_last, wrote_then}
use Rattle.strip.specs.Triangles.{indices}
use Rattle.strip.specs.Strips.{step_triangle, strip}
use Rattle.strip.proofs.Lines.{along_more}
use Rattle.strip.specs.Rule.{outer_next}
use Rattle.strip.proofs.Strips.{indices_length, words_length}
use Rattle.shifted_copies.proofs.Again.{drop_all, wrote_again, flat_moved}
use Rattle.shifted_copies.specs.Copies.{shifted, copy}
use Rattle.shifted_copies.proofs.Shifts.{shifted_twice, shifted_length, shifted_append, flat_split, flat_below, flat_shifted}
use Rattle.strip_pairs.specs.Pairs.{pair, pair_words}
use Rattle.strip_pairs.proofs.Pairs.{pairs_length, alternates, halves}
use Rattle.strip_blocks.specs.Blocks.{on, pair_on, block_pattern, line_of}

-- ---- the loop that adds `by` to each word of xs; it has done the first i words
pub record Raised (by : ℕ) (xs : List ℕ) (i : ℕ) (ys : List ℕ) : Type 0 where
  pub is : ys ≡ shifted by (take i xs) ++ drop i xs

module _ (by : ℕ) (xs : List ℕ) where
  pub raise_start : Raised by xs 0 xs
  unfolding shifted
  raise_start = record { is = refl }

  front_length : (i : ℕ) → i ≤ length xs → length (shifted by (take i xs)) ≡ i
  front_length i h = shifted_length by (take i xs) ∙ length-take i xs ∙ omega arith

  raise_read : (i : ℕ) {ys : List ℕ} → i < length xs → Raised by xs i ys → get_or ys i 0 ≡ get_or xs i 0
  raise_read i {ys} h r =
      let F = shifted by (take i xs) in
      let n : length F ≡ i = front_length i (omega arith) in
      let e : i ≡ length F + 0 = omega arith in
      ap (λ (l : List ℕ). get_or l i 0) r.is ∙ ap (λ (k : ℕ). get_or (F ++ drop i xs) k 0) e ∙ get_or-append-add F (drop i xs) 0 0 ∙ get_or-drop i xs 0 0 ∙ ap (λ (k : ℕ). get_or xs k 0) (add-zero i)

  pub raise_step : (i : ℕ) {ys ys' : List ℕ} {x w : ℕ} → i < length xs → Raised by xs i ys → x ≡ get_or ys i 0 → Wrote ys i (((x + by) % 65536) ∷ []) ys' w → Raised by xs w ys'
  unfolding over shifted
  raise_step i {ys} {ys'} {x} {w} h r e p =
      let F = shifted by (take i xs) in
      let n : length F ≡ i = front_length i (omega arith) in
      let s : i + 1 ≡ suc i = omega arith in
      let t : i + 1 ≡ length F + 1 = omega arith in
      let v : w ≡ suc i = omega (arith, p.next) in
      let front : take i ys ≡ F = ap (take i) r.is ∙ take_at F (drop i xs) i n in
      let back : drop (i + 1) ys ≡ drop (suc i) xs = ap (drop (i + 1)) r.is ∙ ap (λ (k : ℕ). drop k (F ++ drop i xs)) t ∙ drop-append-add F (drop i xs) 1 ∙
      drop-drop 1 i xs ∙ ap (λ (k : ℕ). drop k xs) s in
      let word : x ≡ get_or xs i 0 = e ∙ raise_read i h r in
      record { is = p.is ∙ rw (front, back, word, v, take-suc xs i 0 h, shifted_append) (simp append_assoc) }

  pub raise_done : (i : ℕ) {ys : List ℕ} → length xs ≤ i → Raised by xs i ys → ys ≡ shifted by xs
  raise_done i h r = r.is ∙ rw (take_all i xs h, drop_all xs i h) (append-nil (shifted by xs))

-- ---- copies, each plus 4
shifted_none : (xs : List ℕ) → ((i : ℕ) → get_or xs i 0 < 65536) → shifted 0 xs ≡ xs
unfolding shifted
shifted_none [] g = refl
shifted_none (x ∷ xs) g =
    let small : x < 65536 = g 0 in
    let same : (x + 0) % 65536 ≡ x = omega arith in
    rw (same, shifted_none xs (λ i. g (suc i)))

pub copy_first : (xs : List ℕ) → ((i : ℕ) → get_or xs i 0 < 65536) → xs ≡ copy 4 xs 0
unfolding copy
copy_first xs g = sym (shifted_none xs g)

pub copy_next : (xs : List ℕ) (i : ℕ) {ys ys' : List ℕ} → ys ≡ copy 4 xs i → ys' ≡ shifted 4 ys → ys' ≡ copy 4 xs (i + 1)
unfolding copy
copy_next xs i e f =
    let s : i * 4 + 4 ≡ (i + 1) * 4 = omega arith in
    f ∙ ap (shifted 4) e ∙ shifted_twice 4 (i * 4) xs ∙ ap (λ (k : ℕ). shifted k xs) s

-- ---- later pairs
on_more : (x i k : ℕ) → (on x i + k) % 65536 ≡ on x (i + k)
on_more x i k = mod-add-mod (x + i) 65536 k ∙ ap (λ (j : ℕ). j % 65536) (add_assoc x i k)

module _ (x y : ℕ) where
  pair_shifted : (positive : Bool) (k j : ℕ) → shifted k (pair_on positive x y j) ≡ pair_on positive x y (j + k)
  unfolding pair_on indices shifted
  pair_shifted true k j =
      let s : suc j + k ≡ suc (j + k) = omega arith in
      rw (on_more x j k, on_more y j k, on_more x (suc j) k, on_more y (suc j) k, s)
  pair_shifted false k j =
      let s : suc j + k ≡ suc (j + k) = omega arith in
      rw (on_more x j k, on_more y j k, on_more x (suc j) k, on_more y (suc j) k, s)

  pub pairs_shifted : (positive : Bool) (k i n : ℕ) → shifted k (flat (pair_on positive x y) i n) ≡ flat (pair_on positive x y) (i + k) n
  pairs_shifted positive k i n =
      flat_shifted k (pair_on positive x y) i n ∙ flat_below (λ j. shifted k (pair_on positive x y j)) (λ j. pair_on positive x y (j + k)) i n (λ j h. pair_shifted positive k j)
      ∙ flat_moved (pair_on positive x y) k i n

  -- four pairs at a time
  blocks_from : (positive : Bool) (m i k : ℕ) → flat (copy 4 (flat (pair_on positive x y) m 4)) i k ≡ flat (pair_on positive x y) (m + i * 4) (4 * k)
  unfolding flat copy
  blocks_from positive m i zero = refl
  blocks_from positive m i (suc k) =
      let f = pair_on positive x y in
      let e : 4 * suc k ≡ 4 + 4 * k = omega arith in
      let s : m + i * 4 + 4 ≡ m + (i + 1) * 4 = omega arith in
      rw (e, flat_split f (m + i * 4) 4 (4 * k), s, blocks_from positive m (i + 1) k, pairs_shifted positive (i * 4) m 4)

  pub blocks : (positive : Bool) (m k : ℕ) → flat (copy 4 (flat (pair_on positive x y) m 4)) 0 k ≡ flat (pair_on positive x y) m (4 * k)
  blocks positive m k = blocks_from positive m 0 k ∙ ap (λ (i : ℕ). flat (pair_on positive x y) i (4 * k)) (omega arith)

  pub pairs_size : (positive : Bool) (i n : ℕ) → length (flat (pair_on positive x y) i n) ≡ 6 * n
  unfolding pair_on
  pairs_size positive i n = flat_length (pair_on positive x y) 6 i n (λ j. indices_length positive (pair (on x) (on y) j j))

  -- the first four pairs, then all pairs from number m on, four at a time
  pub run_wrote : (positive : Bool) (n k m : ℕ) {xs ws ws' mid out : List ℕ} {at w w' v : ℕ} → at ≤ length xs → m + 4 * k ≡ n → m ≤ 4 → 4 ≤ n
      → ws ≡ flat (pair_on positive x y) 0 4 → Wrote xs at ws mid w → ws' ≡ shifted m ws → v ≡ at + 6 * m
      → Wrote mid v (flat (copy 4 ws') 0 k) out w' → Wrote xs at (flat (pair_on positive x y) 0 n) out w'
  run_wrote positive n k m {xs} {ws} {ws'} {mid} {out} {at} {w} {w'} {v} fits sum few many first p raised place q =
      let f = pair_on positive x y in
      let z : 0 + m ≡ m = omega arith in
      let four : m + (4 - m) ≡ 4 = omega arith in
      let front : ws ≡ flat f 0 m ++ flat f m (4 - m) = first ∙ ap (flat f 0) (sym four) ∙ flat_split f 0 m (4 - m) ∙ ap (λ (i : ℕ). flat f 0 m ++ flat f i (4 - m)) z in
      let moved : ws' ≡ flat f m 4 = raised ∙ ap (shifted m) first ∙ pairs_shifted positive m 0 4 ∙ ap (λ (i : ℕ). flat f i 4) z in
      let later : flat (copy 4 ws') 0 k ≡ flat f m (4 * k) = ap (λ (l : List ℕ). flat (copy 4 l) 0 k) moved ∙ blocks positive m k in
      let whole : flat f 0 m ++ flat f m (4 * k) ≡ flat f 0 n = ap (λ (i : ℕ). flat f 0 m ++ flat f i (4 * k)) (sym z) ∙ sym (flat_split f 0 m (4 * k)) ∙ ap (flat f 0) sum in
      subst (λ (l : List ℕ). Wrote xs at l out w') whole
      (wrote_again (flat f 0 m) (flat f m (4 - m)) (flat f m (4 * k)) fits (omega (arith, pairs_size positive m (4 - m), pairs_size positive m (4 * k))) (omega (arith, pairs_size positive 0 m))
      (subst (λ (l : List ℕ). Wrote xs at l mid w) front p) (subst (λ (l : List ℕ). Wrote mid v l out w') later q))

-- ---- the words of four pairs, from their pattern p
abbrev pub laid : List ℕ → ℕ → ℕ → ℕ → List ℕ
laid p d x j = ((get_or p j 0 * d + get_or p (24 + j) 0 + x) % 65536) ∷ []

outer_on : (d x k : ℕ) → (0 * d + k + x) % 65536 ≡ on x k
outer_on d x k = ap (λ (j : ℕ). j % 65536) (omega arith)

inner_on : (d x y k : ℕ) → x + d ≡ y → (1 * d + k + x) % 65536 ≡ on y k
inner_on d x y k e = ap (λ (j : ℕ). j % 65536) (omega arith)

pub block_laid : (positive : Bool) (p : List ℕ) (d x y : ℕ) → p ≡ block_pattern positive → x + d ≡ y → flat (laid p d x) 0 24 ≡ flat (pair_on positive x y) 0 4
unfolding flat pair_on block_pattern indices
block_laid true p d x y e h =
    rw (e, outer_on d x 0, outer_on d x 1, outer_on d x 2, outer_on d x 3, outer_on d x 4, inner_on d x y 0 h, inner_on d x y 1 h, inner_on d x y 2 h, inner_on d x y 3 h, inner_on d x y 4 h)
block_laid false p d x y e h =
    rw (e, outer_on d x 0, outer_on d x 1, outer_on d x 2, outer_on d x 3, outer_on d x 4, inner_on d x y 0 h, inner_on d x y 1 h, inner_on d x y 2 h, inner_on d x y 3 h, inner_on d x y 4 h)

-- ---- a strip between lines of consecutive vertices, except for their last vertices
pub line_on : (x n e i : ℕ) → i < n → line_of x n e i ≡ on x i
line_on x n e i h = sym (along_more x 1 n e i (λ g. omega arith)) ∙ ap (λ (k : ℕ). k % 65536) (omega arith)

module _ (A B : ℕ → ℕ) (positive : Bool) where
  pair_on_lem : (x y i a b : ℕ) → A a ≡ on x i → A (suc a) ≡ on x (suc i) → B b ≡ on y i → B (suc b) ≡ on y (suc i) → pair_on positive x y i ≡ indices positive (pair A B a b)
  unfolding pair_on
  pair_on_lem x y i a b p q r s = rw (p, q, r, s)

  pairs_on : (x y a b n : ℕ) → ((i : ℕ) → i ≤ n → A (a + i) ≡ on x i) → ((i : ℕ) → i ≤ n → B (b + i) ≡ on y i)
      → flat (pair_on positive x y) 0 n ≡ pair_words A B positive a b n
  unfolding pair_words
  pairs_on x y a b n outer inner =
      flat_below (pair_on positive x y) (λ i. indices positive (pair A B (a + i) (b + i))) 0 n
      (λ j h.
      let p : suc (a + j) ≡ a + suc j = omega arith in
      let q : suc (b + j) ≡ b + suc j = omega arith in
      pair_on_lem x y j (a + j) (b + j) (outer j (omega arith)) (ap A p ∙ outer (suc j) (omega arith)) (inner j (omega arith)) (ap B q ∙ inner (suc j) (omega arith)))

  two_steps : (a b : ℕ) → indices positive (pair A B a b) ≡ indices positive (step_triangle A B true a b ∷ []) ++ indices positive (step_triangle A B false (suc a) b ∷ [])
  unfolding indices
  two_steps a b = refl

  module _ (x y r : ℕ) (many : 10 ≤ r) (outer : (i : ℕ) → i < r + 2 → A i ≡ on x i) (inner : (i : ℕ) → i < r → B i ≡ on y i) where
    first_half : flat (pair_on positive x y) 0 (r / 2 + 1)
        ≡ pair_words A B positive 0 0 (r / 2) ++ indices positive (step_triangle A B true (r / 2) (r / 2) ∷ []) ++ indices positive (step_triangle A B false (suc (r / 2)) (r / 2) ∷ [])
    first_half =
        let h = r / 2 in
        let s : h + 1 ≡ suc h = omega arith in
        let z : 0 + h ≡ h = omega arith in
        let zero-on : (i : ℕ) → 0 + i ≡ i = λ i. omega arith in
        let last = pair_on_lem x y h h h (outer h (omega arith)) (outer (suc h) (omega arith)) (inner h (omega arith)) (inner (suc h) (omega arith)) in
        ap (flat (pair_on positive x y) 0) s ∙ flat_last (pair_on positive x y) 0 h ∙ ap (λ (k : ℕ). flat (pair_on positive x y) 0 h ++ pair_on positive x y k) z
        ∙ rw (pairs_on x y 0 0 h (λ i l. ap A (zero-on i) ∙ outer i (omega arith)) (λ i l. ap B (zero-on i) ∙ inner i (omega arith)), last, two_steps h h)
        (sym (append_assoc (pair_words A B positive 0 0 h) (indices positive (step_triangle A B true h h ∷ []))
        (indices positive (step_triangle A B false (suc h) h ∷ []))))

    second_half : flat (pair_on positive (x + (r / 2 + 1)) (y + r / 2)) 0 (r - r / 2 - 1) ≡ pair_words A B positive (r / 2 + 1) (r / 2) (r - r / 2 - 1)
    second_half =
        let h = r / 2 in
        pairs_on (x + (h + 1)) (y + h) (h + 1) h (r - h - 1)
        (λ i l. outer (h + 1 + i) (omega arith) ∙ ap (λ (k : ℕ). k % 65536) (omega arith))
        (λ i l. inner (h + i) (omega arith) ∙ ap (λ (k : ℕ). k % 65536) (omega arith))

    pub long_wrote : {xs m₁ m₂ out : List ℕ} {at w₁ v w₂ w : ℕ} → at ≤ length xs → Wrote xs at (flat (pair_on positive x y) 0 (r / 2 + 1)) m₁ w₁
        → v ≡ at + 6 * (r / 2) + 3 → Wrote m₁ v (flat (pair_on positive (x + (r / 2 + 1)) (y + r / 2)) 0 (r - r / 2 - 1)) m₂ w₂
        → Wrote m₂ w₂ (indices positive (pair A B r (r - 1)) ++ indices positive (step_triangle A B true (r + 1) r ∷ [])) out w
        → Wrote xs at (indices positive (strip A B (r + 2) r)) out w
    long_wrote {xs} {m₁} {m₂} {out} {at} {w₁} {v} {w₂} {w} fits p place q l =
        let h = r / 2 in
        let P = pair_words A B positive 0 0 h in
        let T = indices positive (step_triangle A B true h h ∷ []) in
        let G = indices positive (step_triangle A B false (suc h) h ∷ []) in
        let Q = pair_words A B positive (h + 1) h (r - h - 1) in
        let size-P = pairs_length A B positive 0 0 h in
        let size-T = indices_length positive (step_triangle A B true h h ∷ []) in
        let size-G = indices_length positive (step_triangle A B false (suc h) h ∷ []) in
        let size-Q = pairs_length A B positive (h + 1) h (r - h - 1) in
        let p' : Wrote xs at (P ++ T ++ G) m₁ w₁ = subst (λ (s : List ℕ). Wrote xs at s m₁ w₁) first_half p in
        let q' : Wrote m₁ v Q m₂ w₂ = subst (λ (s : List ℕ). Wrote m₁ v s m₂ w₂) second_half q in
        rw (halves A B positive (r + 2) r refl (λ z. omega arith))
        (wrote_then fits (wrote_again (P ++ T) G Q fits (omega arith) (omega (arith, length-append P T)) p' q') l)

-- ---- a strip between lines of consecutive vertices, their last vertices included
module _ (positive : Bool) (x y r : ℕ) (many : 10 ≤ r) where
  open_half : flat (pair_on positive (x + (r / 2 + 1)) (y + r / 2)) 0 (r - r / 2 + 1)
      ≡ pair_words (on x) (on y) positive (r / 2 + 1) (r / 2) (r - r / 2) ++ indices positive (step_triangle (on x) (on y) true (r + 1) r ∷ [])
      ++ indices positive (step_triangle (on x) (on y) false (r + 2) r ∷ [])
  open_half =
      let h = r / 2 in
      let n = r - h in
      let f = pair_on positive (x + (h + 1)) (y + h) in
      let s : n + 1 ≡ suc n = omega arith in
      let z : 0 + n ≡ n = omega arith in
      let t : suc (r + 1) ≡ r + 2 = omega arith in
      let first =
      pairs_on (on x) (on y) positive (x + (h + 1)) (y + h) (h + 1) h n (λ i l. ap (λ (k : ℕ). k % 65536) (omega arith)) (λ i l. ap (λ (k : ℕ). k % 65536) (omega arith)) in
      let last =
      pair_on_lem (on x) (on y) positive (x + (h + 1)) (y + h) n (r + 1) r (ap (λ (k : ℕ). k % 65536) (omega arith)) (ap (λ (k : ℕ). k % 65536) (omega arith))
      (ap (λ (k : ℕ). k % 65536) (omega arith)) (ap (λ (k : ℕ). k % 65536) (omega arith)) in
      ap (flat f 0) s ∙ flat_last f 0 n ∙ ap (λ (k : ℕ). flat f 0 n ++ f k) z
      ∙ rw (first, last, two_steps (on x) (on y) positive (r + 1) r)
      (sym (append_assoc (pair_words (on x) (on y) positive (h + 1) h n) (indices positive (step_triangle (on x) (on y) true (r + 1) r ∷ []))
      (indices positive (step_triangle (on x) (on y) false (suc (r + 1)) r ∷ []))))
      ∙ ap (λ (k : ℕ). pair_words (on x) (on y) positive (h + 1) h n ++ indices positive (step_triangle (on x) (on y) true (r + 1) r ∷ []) ++ indices positive
      (step_triangle (on x) (on y) false k r ∷ [])) t

  pub open_wrote : {xs mid out : List ℕ} {at w v w' u : ℕ} → at ≤ length xs → Wrote xs at (flat (pair_on positive x y) 0 (r / 2 + 1)) mid w → v ≡ at + 6 * (r / 2) + 3
      → Wrote mid v (flat (pair_on positive (x + (r / 2 + 1)) (y + r / 2)) 0 (r - r / 2 + 1)) out w' → w' ≡ u
      → Wrote xs at (indices positive (strip (on x) (on y) (r + 2) r) ++ indices positive (step_triangle (on x) (on y) false (r + 2) r ∷ [])) out u
  open_wrote {xs} {mid} {out} {at} {w} {v} {w'} {u} fits p place q e =
      let h = r / 2 in
      let A = on x in
      let B = on y in
      let P = pair_words A B positive 0 0 h in
      let T = indices positive (step_triangle A B true h h ∷ []) in
      let G = indices positive (step_triangle A B false (suc h) h ∷ []) in
      let Q = pair_words A B positive (h + 1) h (r - h) in
      let U = indices positive (step_triangle A B true (r + 1) r ∷ []) in
      let H = indices positive (step_triangle A B false (r + 2) r ∷ []) in
      let size-P = pairs_length A B positive 0 0 h in
      let size-T = indices_length positive (step_triangle A B true h h ∷ []) in
      let size-G = indices_length positive (step_triangle A B false (suc h) h ∷ []) in
      let size-Q = pairs_length A B positive (h + 1) h (r - h) in
      let p' : Wrote xs at (P ++ T ++ G) mid w = subst (λ (s : List ℕ). Wrote xs at s mid w) (first_half A B positive x y r many (λ i l. refl) (λ i l. refl)) p in
      let q' : Wrote mid v (Q ++ U ++ H) out w' = subst (λ (s : List ℕ). Wrote mid v s out w') open_half q in
      let all : Wrote xs at (P ++ T ++ (Q ++ U ++ H)) out w' =
      wrote_again (P ++ T) G (Q ++ U ++ H) fits (omega (arith, length-append (Q ++ U) H, length-append Q U)) (omega (arith, length-append P T)) p' q' in
      let words : P ++ T ++ (Q ++ U ++ H) ≡ indices positive (strip A B (r + 2) r) ++ H = rw (alternates A B positive (r + 2) r refl) (simp append_assoc) in
      subst (λ (k : ℕ). Wrote xs at (indices positive (strip A B (r + 2) r) ++ H) out k) e (subst (λ (s : List ℕ). Wrote xs at s out w') words all)

  pub open_next : {xs xs' : List ℕ} {at w : ℕ} → Wrote xs at (indices positive (strip (on x) (on y) (r + 2) r) ++ indices positive (step_triangle (on x) (on y) false (r + 2) r ∷ [])) xs' (w + 3)
      → w ≡ at + (6 * r + 6)
  open_next p =
      let S = indices positive (strip (on x) (on y) (r + 2) r) in
      let H = indices positive (step_triangle (on x) (on y) false (r + 2) r ∷ []) in
      omega (arith, p.next, length-append S H, words_length (on x) (on y) (outer_next (r + 2) r) positive (r + 2 + r) 0 0, indices_length positive (step_triangle (on x) (on y) false (r + 2) r ∷ []))
