-- Laws of `over xs at ys`: xs with ys in place of as many words from `at` on. Assumes nothing.
use mathlib.Core.Path.{◌≡◌, refl, sym, ap, subst, ◌∙◌}
use mathlib.Core.List.{List, [], ◌∷◌, ◌++◌, append_assoc, append-nil}
use Prim.Native.Nat.{ℕ, zero, suc, ◌+◌, ◌-◌, ◌*◌, ◌≤◌, ◌<◌, zero-le}
use native.Mathlib.Nat.{add_assoc, add_comm, add-zero, mul-zero, mul-suc, sub-zero}
use native.Mathlib.Numerals.{add-one}
use native.Mathlib.Omega.{arith}
use borrow.Author.Rules.{rules}
use lib.ListN.{length, get_or, take, drop, set, length-append, length-take, length-drop, take-append-drop}
use lib.Seq.{set_split, take-suc, take_all, take-append-add, drop-append-add, take-append_seam, drop-drop}
use Rattle.buffer.specs.Over.{over, Wrote, flat}

module _ {A : Type 0} where
  -- no words
  pub over_none : (xs : List A) (at : ℕ) → over xs at [] ≡ xs
  unfolding over
  over_none xs at = rw add-zero (take-append-drop at xs)

  -- writing within the list keeps its length
  pub over_length : (xs : List A) (at : ℕ) (ys : List A) → at + length ys ≤ length xs → length (over xs at ys) ≡ length xs
  unfolding over
  over_length xs at ys h = simp (length-append, length-take, length-drop) (omega arith)

  -- one store
  pub over_set : (xs : List A) (i : ℕ) (v : A) → i < length xs → set xs i v ≡ over xs i (v ∷ [])
  unfolding over
  over_set xs i v h = rw add-one (set_split xs i v h)

  -- writing ys, then zs right after it
  pub over_over : (xs : List A) (at : ℕ) (ys zs : List A) → at ≤ length xs → over (over xs at ys) (at + length ys) zs ≡ over xs at (ys ++ zs)
  unfolding over
  over_over xs at ys zs h =
      let P = take at xs in
      let D = drop (at + length ys) xs in
      let p : length P ≡ at = omega (arith, length-take at xs) in
      let front : take (at + length ys) (P ++ (ys ++ D)) ≡ P ++ ys =
      ap (λ (k : ℕ). take (k + length ys) (P ++ (ys ++ D))) (sym p) ∙ take-append-add P (ys ++ D) (length ys) ∙ ap (λ (l : List A). P ++ l) (take-append_seam ys D) in
      let back : drop (at + length ys + length zs) (P ++ (ys ++ D)) ≡ drop (at + length ys + length zs) xs =
      ap (λ (k : ℕ). drop k (P ++ (ys ++ D))) (add_assoc at (length ys) (length zs) ∙ ap (λ (k : ℕ). k + (length ys + length zs)) (sym p))
      ∙ drop-append-add P (ys ++ D) (length ys + length zs) ∙ drop-append-add ys D (length zs) ∙ drop-drop (length zs) (at + length ys) xs in
      rw (front, back, length-append) (simp (append_assoc, add_assoc))

  -- writing ys, then one word right after it
  pub over_more : (xs : List A) (at : ℕ) (ys : List A) (v : A) → at + length ys < length xs → set (over xs at ys) (at + length ys) v ≡ over xs at (ys ++ (v ∷ []))
  over_more xs at ys v h = over_set (over xs at ys) (at + length ys) v (omega (arith, over_length xs at ys (omega arith))) ∙ over_over xs at ys (v ∷ []) (omega arith)

  -- two stores
  pub over_two : (xs : List A) (at : ℕ) (x y : A) → at + 2 ≤ length xs → set (set xs at x) (at + 1) y ≡ over xs at (x ∷ y ∷ [])
  over_two xs at x y h = rw (over_set xs at x (omega arith), over_more xs at (x ∷ []) y (omega arith))

  -- three stores
  pub over_three : (xs : List A) (at : ℕ) (x y z : A) → at + 3 ≤ length xs → set (set (set xs at x) (at + 1) y) (at + 2) z ≡ over xs at (x ∷ y ∷ z ∷ [])
  over_three xs at x y z h = rw (over_set xs at x (omega arith), over_more xs at (x ∷ []) y (omega arith), over_more xs at (x ∷ y ∷ []) z (omega arith))

  -- ---- stores of adjacent words, as in functions that write a few words
  pub wrote_one : {xs : List A} {at : ℕ} {x : A} → at + 1 ≤ length xs → Wrote xs at (x ∷ []) (set xs at x) (at + 1)
  wrote_one {xs} {at} {x} h = record { is = over_set xs at x (omega arith); next = refl }

  pub wrote_two : {xs : List A} {at : ℕ} {x y : A} → at + 2 ≤ length xs → Wrote xs at (x ∷ y ∷ []) (set (set xs at x) (at + 1) y) (at + 2)
  wrote_two {xs} {at} {x} {y} h = record { is = over_two xs at x y h; next = refl }

  pub wrote_three : {xs : List A} {at : ℕ} {x y z : A} → at + 3 ≤ length xs
      → Wrote xs at (x ∷ y ∷ z ∷ []) (set (set (set xs at x) (at + 1) y) (at + 2) z) (at + 3)
  wrote_three {xs} {at} {x} {y} {z} h = record { is = over_three xs at x y z h; next = refl }

  -- a loop that writes ys from `at` on has written the first i words, and writes the next
  pub over_next : (xs : List A) (at : ℕ) (ys : List A) (i : ℕ) {out : List A} {x : A} → at + length ys ≤ length xs → i < length ys → x ≡ get_or ys i x
      → out ≡ over xs at (take i ys) → set out (at + i) x ≡ over xs at (take (i + 1) ys)
  over_next xs at ys i {out} {x} h l e o =
      let n : length (take i ys) ≡ i = length-take i ys ∙ omega arith in
      let p : at + i ≡ at + length (take i ys) = omega arith in
      let s : i + 1 ≡ suc i = omega arith in
      ap (λ (zs : List A). set zs (at + i) x) o ∙ ap (λ (k : ℕ). set (over xs at (take i ys)) k x) p ∙ over_more xs at (take i ys) x (omega arith)
      ∙ ap (over xs at) (ap (λ (y : A). take i ys ++ (y ∷ [])) e ∙ sym (take-suc ys i x l) ∙ ap (λ (k : ℕ). take k ys) (sym s))

  -- all of them are written
  pub over_done : (xs : List A) (at : ℕ) (ys : List A) (i : ℕ) {out : List A} → length ys ≤ i → out ≡ over xs at (take i ys) → Wrote xs at ys out (at + length ys)
  over_done xs at ys i h o = record { is = o ∙ ap (over xs at) (take_all i ys h); next = refl }

  -- the words at the front read back
  pub over_front : (xs ys : List A) (n : ℕ) → n ≡ length ys → take n (over xs 0 ys) ≡ ys
  unfolding over
  over_front xs ys n e = rw e (take-append_seam ys (drop (0 + length ys) xs))

  -- no words written
  pub wrote_none : (xs : List A) (at : ℕ) → Wrote xs at [] xs at
  wrote_none xs at = record { is = sym (over_none xs at); next = omega arith }

  -- two writes, the second right after the first
  pub wrote_then : {xs ys xs₁ zs xs₂ : List A} {at w r : ℕ} → at ≤ length xs → Wrote xs at ys xs₁ w → Wrote xs₁ w zs xs₂ r → Wrote xs at (ys ++ zs) xs₂ r
  wrote_then {xs} {ys} {xs₁} {zs} {xs₂} {at} h p q = record {
    is = rw (q.is, p.is, p.next) (over_over xs at ys zs h);
    next = omega (arith, length-append ys zs);
  }

  -- a write ends within the list
  pub wrote_within : {xs ys xs' : List A} {at r : ℕ} → at ≤ length xs → Wrote xs at ys xs' r → r ≤ length xs'
  unfolding over
  wrote_within {xs} {ys} {xs'} {at} h w = rw (w.is, length-append, length-append, length-take, length-drop) (omega arith)

  -- the list up to the end of the write is its old front and what was written
  pub wrote_front : {xs ys xs' : List A} {at r : ℕ} → at ≤ length xs → Wrote xs at ys xs' r → take r xs' ≡ take at xs ++ ys
  unfolding over
  wrote_front {xs} {ys} {xs'} {at} {r} h w =
      let P = take at xs in
      let p : length P ≡ at = length-take at xs ∙ omega arith in
      let n : r ≡ length P + length ys = omega arith in
      rw (w.is, n) (take-append-add P (ys ++ drop (at + length ys) xs) (length ys) ∙ ap (λ (l : List A). P ++ l) (take-append_seam ys (drop (at + length ys) xs)))

  -- a write for a value is a write for an equal value
  pub wrote_as : {B : Type 0} (f : B → List A) {x y : B} {xs xs' : List A} {at r : ℕ} → x ≡ y → Wrote xs at (f y) xs' r → Wrote xs at (f x) xs' r
  wrote_as {B} f {xs = xs} {xs' = xs'} {at = at} {r = r} e w = subst (λ (y : B). Wrote xs at (f y) xs' r) (sym e) w

  -- ---- the invariant of a loop that writes ys into xs from `at` on in pieces: `rest` is left to write, into `out` from w on
  pub record Left (out : List A) (w : ℕ) (rest xs : List A) (at : ℕ) (ys : List A) : Type 0 where
    pub is : over out w rest ≡ over xs at ys
    pub place : w + length rest ≡ at + length ys
    pub room : at + length ys ≤ length out
    pub same : length out ≡ length xs

  -- at the start all of ys is left
  pub left_all : {xs rest ys : List A} {at : ℕ} → rest ≡ ys → at + length ys ≤ length xs → Left xs at rest xs at ys
  left_all {xs} {rest} {ys} {at} e h = record { is = ap (over xs at) e; place = ap (λ (l : List A). at + length l) e; room = h; same = refl }

  -- there is room for the next piece
  pub left_fits : {out rest xs ys : List A} {w at : ℕ} (ps rest' : List A) → rest ≡ ps ++ rest' → Left out w rest xs at ys → w + length ps ≤ length out
  left_fits ps rest' e l =
      let n = ap length e ∙ length-append ps rest' in
      omega arith

  -- one piece is written
  pub left_step : {out ps out' rest rest' xs ys : List A} {w w' at : ℕ} → Wrote out w ps out' w' → rest ≡ ps ++ rest' → Left out w rest xs at ys → Left out' w' rest' xs at ys
  left_step {out} {ps} {out'} {rest} {rest'} {xs} {ys} {w} {w'} {at} p e l =
      let n : length rest ≡ length ps + length rest' = ap length e ∙ length-append ps rest' in
      let o : length out' ≡ length out = ap length p.is ∙ over_length out w ps (omega arith) in
      record {
        is = rw (p.is, p.next) (over_over out w ps rest' (omega arith) ∙ ap (over out w) (sym e) ∙ l.is);
        place = omega arith;
        room = omega arith;
        same = omega arith;
      }

  -- at the end nothing is left
  pub left_none : {out rest xs ys : List A} {w at : ℕ} → rest ≡ [] → Left out w rest xs at ys → Wrote xs at ys out w
  left_none {out} {rest} {xs} {ys} {w} {at} e l = record {
    is = sym (over_none out w) ∙ ap (over out w) (sym e) ∙ l.is;
    next = omega (arith, ap length e);
  }

  -- the last piece is written
  pub left_last : {out ps out' rest xs ys : List A} {w w' at : ℕ} → Wrote out w ps out' w' → rest ≡ ps → Left out w rest xs at ys → Wrote xs at ys out' w'
  left_last {ps = ps} p e l = left_none refl (left_step p (e ∙ sym (append-nil ps)) l)

  -- ---- a loop that counts i up to n
  pub flat_step : (f : ℕ → List A) (i n : ℕ) → i < n → flat f i (n - i) ≡ f i ++ flat f (i + 1) (n - (i + 1))
  unfolding flat
  flat_step f i n h =
      let e : n - i ≡ suc (n - (i + 1)) = omega arith in
      rw e

  pub flat_all : (f : ℕ → List A) (n : ℕ) → flat f 0 (n - 0) ≡ flat f 0 n
  flat_all f n = rw (sub-zero n)

  pub flat_done : (f : ℕ → List A) (i n : ℕ) → n ≤ i → flat f i (n - i) ≡ []
  unfolding flat
  flat_done f i n h =
      let e : n - i ≡ 0 = omega arith in
      rw e

  -- the length, if all pieces have the same length
  pub flat_length : (f : ℕ → List A) (c i k : ℕ) → ((j : ℕ) → length (f j) ≡ c) → length (flat f i k) ≡ c * k
  unfolding flat
  flat_length f c i zero h = sym (mul-zero c)
  flat_length f c i (suc k) h = rw (length-append, flat_length f c (i + 1) k h, h i, mul-suc) (add_comm c (c * k))

  -- the last piece on its own
  pub flat_last : (f : ℕ → List A) (i k : ℕ) → flat f i (suc k) ≡ flat f i k ++ f (i + k)
  unfolding flat
  flat_last f i zero = rw (add-zero i) (append-nil (f i))
  flat_last f i (suc k) =
      let e : i + 1 + k ≡ i + suc k = omega arith in
      ap (λ (l : List A). f i ++ l) (flat_last f (i + 1) k ∙ ap (λ (n : ℕ). flat f (i + 1) k ++ f n) e) ∙ sym (append_assoc (f i) (flat f (i + 1) k) (f (i + suc k)))

  -- equal pieces
  pub flat_same : (f g : ℕ → List A) (i k : ℕ) → ((j : ℕ) → f j ≡ g j) → flat f i k ≡ flat g i k
  unfolding flat
  flat_same f g i zero h = refl
  flat_same f g i (suc k) h = rw (h i, flat_same f g (i + 1) k h)

  -- ---- the invariant of a loop that writes f i for each i from 0 to n: laws for its start, the room for a piece, a step and its end
  pub record Counting (f : ℕ → List A) (i n : ℕ) (out : List A) (w : ℕ) (xs : List A) (at : ℕ) : Type 0 where
    pub within : i ≤ n
    pub left : Left out w (flat f i (n - i)) xs at (flat f 0 n)

  pub count_start : {f : ℕ → List A} {n : ℕ} {xs : List A} {at : ℕ} → at + length (flat f 0 n) ≤ length xs → Counting f 0 n xs at xs at
  count_start {f} {n} h = record { within = zero-le; left = left_all (flat_all f n) h }

  -- the start, if all pieces have the same length
  pub count_begin : {f : ℕ → List A} {n : ℕ} (c : ℕ) {xs : List A} {at : ℕ} → ((j : ℕ) → length (f j) ≡ c) → at + c * n ≤ length xs → Counting f 0 n xs at xs at
  count_begin {f} {n} c e h = count_start (omega (arith, flat_length f c 0 n e))

  pub count_fits : {f : ℕ → List A} {i n : ℕ} {out : List A} {w : ℕ} {xs : List A} {at : ℕ} → i < n → Counting f i n out w xs at → w + length (f i) ≤ length out
  count_fits {f} {i} {n} h c = left_fits (f i) (flat f (i + 1) (n - (i + 1))) (flat_step f i n h) c.left

  -- the room for a piece, if all pieces have the same length
  pub count_room : {f : ℕ → List A} {i n c : ℕ} {out : List A} {w : ℕ} {xs : List A} {at : ℕ} → Counting f i n out w xs at → i < n → ((j : ℕ) → length (f j) ≡ c)
      → w + c ≤ length out
  count_room {i = i} p h e = omega (arith, count_fits h p, e i)

  pub count_step : {f : ℕ → List A} {i n : ℕ} {out out' : List A} {w w' : ℕ} {xs : List A} {at : ℕ} → i < n → Wrote out w (f i) out' w' → Counting f i n out w
      xs at → Counting f (i + 1) n out' w' xs at
  count_step {f} {i} {n} h p c = record { within = omega arith; left = left_step p (flat_step f i n h) c.left }

  pub count_done : {f : ℕ → List A} {i n : ℕ} {out : List A} {w : ℕ} {xs : List A} {at : ℕ} → n ≤ i → Counting f i n out w xs at → Wrote xs at (flat f 0 n) out w
  count_done {f} {i} {n} h c = left_none (flat_done f i n h) c.left

-- all facts that the needs of such a loop use
pub ruleset counting = (count_start, count_begin, count_fits, count_room, count_step, count_done, rules)
