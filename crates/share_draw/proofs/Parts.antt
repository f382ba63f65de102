-- Laws of `over xs at ws` for a part of the list xs that is lent and put back. Assumes nothing.
use mathlib.Core.Path.{◌≡◌, sym, ap, ◌∙◌}
use mathlib.Core.List.{List, ◌++◌, append_assoc}
use Prim.Native.Nat.{ℕ, ◌+◌, ◌-◌, ◌≤◌}
use native.Mathlib.Omega.{arith}
use lib.ListN.{length, take, drop, length-drop, take-append-drop}
use lib.Seq.{length-take-le, drop-append-le, drop-append-add, take-append_seam, drop-append_seam, take_at, drop_at, drop-drop}
use borrow.Rule.Slice.PartMut.{put_mid}
use Rattle.buffer.specs.Over.{over}

-- the part from a to b, written at its front
pub put_back : (xs : List ℕ) (a b : ℕ) (ws : List ℕ) → a + length ws ≤ b → b ≤ length xs → put_mid a (b - a) xs (over (take (b - a) (drop a xs)) 0 ws) ≡ over xs a ws
unfolding over
put_back xs a b ws h k =
    let D = drop a xs in
    let Q = take (b - a) D in
    let q : length Q ≡ b - a = length-take-le (b - a) D (omega (arith, length-drop a xs)) in
    let z : 0 + length ws ≡ length ws = omega arith in
    let rest : drop (0 + length ws) Q ++ drop (b - a) D ≡ drop (a + length ws) xs =
    ap (λ (n : ℕ). drop n Q ++ drop (b - a) D) z ∙ sym (drop-append-le (length ws) Q (drop (b - a) D) (omega arith)) ∙ ap (drop (length ws)) (take-append-drop (b - a) D)
    ∙ drop-drop (length ws) a xs in
    ap (λ (l : List ℕ). take a xs ++ l) (append_assoc ws (drop (0 + length ws) Q) (drop (b - a) D) ∙ ap (λ (l : List ℕ). ws ++ l) rest)

-- the part, written completely
pub put_over : (xs : List ℕ) (a b : ℕ) (ys : List ℕ) → a + length ys ≡ b → put_mid a (b - a) xs ys ≡ over xs a ys
unfolding over
put_over xs a b ys h =
    let e : b - a ≡ length ys = omega arith in
    rw e (ap (λ (l : List ℕ). take a xs ++ (ys ++ l)) (drop-drop (length ys) a xs))

-- the part, read
pub lent_words : (xs : List ℕ) (a b : ℕ) (ws : List ℕ) → a + length ws ≡ b → a ≤ length xs → take (b - a) (drop a (over xs a ws)) ≡ ws
unfolding over
lent_words xs a b ws h k =
    let e : b - a ≡ length ws = omega arith in
    rw (e, drop_at (take a xs) (ws ++ drop (a + length ws) xs) a (length-take-le a xs k)) (take-append_seam ws (drop (a + length ws) xs))

-- equally many words, written again
pub over_again : (xs : List ℕ) (a : ℕ) (ws ys : List ℕ) → length ys ≡ length ws → a ≤ length xs → over (over xs a ws) a ys ≡ over xs a ys
unfolding over
over_again xs a ws ys e h =
    let P = take a xs in
    let D = drop (a + length ws) xs in
    let p = length-take-le a xs h in
    let back : drop (a + length ys) (P ++ (ws ++ D)) ≡ drop (a + length ys) xs =
    ap (λ (n : ℕ). drop (a + n) (P ++ (ws ++ D))) e ∙ ap (λ (n : ℕ). drop (n + length ws) (P ++ (ws ++ D))) (sym p) ∙ drop-append-add P (ws ++ D) (length ws)
    ∙ drop-append_seam ws D ∙ ap (λ (n : ℕ). drop (a + n) xs) (sym e) in
    rw (take_at P (ws ++ D) a p, back)

-- the part from a to b was written at its front with ws, and these words were then replaced by equally many others
pub put_twice : (xs zs : List ℕ) (a b e : ℕ) (ws ys : List ℕ) → a + length ws ≤ b → b ≤ length xs → a + length ws ≡ e → length ys ≡ length ws
    → zs ≡ over xs a ws → put_mid a (e - a) zs ys ≡ over xs a ys
put_twice xs zs a b e ws ys h k m n is = rw is (put_over (over xs a ws) a e ys (omega arith) ∙ over_again xs a ws ys n (omega arith))
