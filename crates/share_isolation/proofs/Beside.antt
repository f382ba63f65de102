-- Laws of `over xs at ws` for a part of the list xs, where ws is written inside the part, before it or after it. Assumes nothing.
use mathlib.Core.Path.{◌≡◌, sym, ap, ◌∙◌}
use mathlib.Core.List.{List, ◌++◌, append_assoc}
use Prim.Native.Nat.{ℕ, ◌+◌, ◌-◌, ◌≤◌}
use native.Mathlib.Nat.{add_assoc}
use native.Mathlib.Omega.{arith}
use lib.ListN.{length, take, drop, length-take, length-drop}
use lib.Seq.{length-take-le, take-append-le, take-append-add, drop-append-add, drop_at, take-take, drop-drop, take-add}
use Rattle.buffer.specs.Over.{over}

-- the end of a part
drop_take : (m r : ℕ) (l : List ℕ) → m ≤ length l → drop m (take (m + r) l) ≡ take r (drop m l)
drop_take m r l h = rw take-add (drop_at (take m l) (take r (drop m l)) m (length-take-le m l h))

-- written from u words after a on
drop_over : (xs : List ℕ) (a u : ℕ) (ws : List ℕ) → a ≤ length xs → drop a (over xs (a + u) ws) ≡ over (drop a xs) u ws
unfolding over
drop_over xs a u ws h =
    rw (take-add a u xs, append_assoc (take a xs))
    (drop_at (take a xs) _ a (length-take-le a xs h)
    ∙ ap (λ (l : List ℕ). take u (drop a xs) ++ (ws ++ l)) (ap (λ (n : ℕ). drop n xs) (add_assoc a u (length ws)) ∙ sym (drop-drop (u + length ws) a xs)))

-- written before q
take_over : (xs : List ℕ) (q u : ℕ) (ws : List ℕ) → u + length ws ≤ q → q ≤ length xs → take q (over xs u ws) ≡ over (take q xs) u ws
unfolding over
take_over xs q u ws h k =
    let r = q - (u + length ws) in
    let P = take u xs in
    let D = drop (u + length ws) xs in
    let p : length P ≡ u = length-take-le u xs (omega arith) in
    let e : q ≡ length P + (length ws + r) = omega arith in
    let f : q ≡ u + length ws + r = omega arith in
    let left : take q (P ++ (ws ++ D)) ≡ P ++ (ws ++ take r D) =
    ap (λ (n : ℕ). take n (P ++ (ws ++ D))) e ∙ take-append-add P (ws ++ D) (length ws + r) ∙ ap (λ (l : List ℕ). P ++ l) (take-append-add ws D r) in
    let back : drop (u + length ws) (take q xs) ≡ take r D =
    ap (λ (n : ℕ). drop (u + length ws) (take n xs)) f ∙ drop_take (u + length ws) r xs (omega arith) in
    rw (left, take-take u q xs (omega arith), back)

-- written inside the part of q words from a on
pub inside : (xs : List ℕ) (a q u : ℕ) (ws : List ℕ) → u + length ws ≤ q → a + q ≤ length xs → take q (drop a (over xs (a + u) ws)) ≡ over (take q (drop a xs)) u ws
inside xs a q u ws h k = rw (drop_over xs a u ws (omega arith)) (take_over (drop a xs) q u ws h (omega (arith, length-drop a xs)))

-- written after the part
pub behind : (xs : List ℕ) (a q b : ℕ) (ws : List ℕ) → a + q ≤ b → b ≤ length xs → take q (drop a (over xs b ws)) ≡ take q (drop a xs)
unfolding over
behind xs a q b ws h k =
    let u = b - a in
    let e : b ≡ a + u = omega arith in
    rw (e, drop_over xs a u ws (omega arith))
    (take-append-le q (take u (drop a xs)) _ (omega (arith, length-take u (drop a xs), length-drop a xs)) ∙ take-take q u (drop a xs) (omega arith))

-- written before the part
pub before : (xs : List ℕ) (a q b : ℕ) (ws : List ℕ) → b + length ws ≤ a → a ≤ length xs → take q (drop a (over xs b ws)) ≡ take q (drop a xs)
unfolding over
before xs a q b ws h k =
    let r = a - (b + length ws) in
    let P = take b xs in
    let D = drop (b + length ws) xs in
    let p : length P ≡ b = length-take-le b xs (omega arith) in
    let e : a ≡ length P + (length ws + r) = omega arith in
    let f : b + length ws + r ≡ a = omega arith in
    ap (take q)
    (ap (λ (n : ℕ). drop n (P ++ (ws ++ D))) e ∙ drop-append-add P (ws ++ D) (length ws + r) ∙ drop-append-add ws D r ∙ drop-drop r (b + length ws) xs
    ∙ ap (λ (n : ℕ). drop n xs) f)
