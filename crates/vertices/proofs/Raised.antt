-- Points as words, of which only the heights change. Assumes nothing.
use Prim.Native.Nat.{ℕ, zero, suc, ◌+◌, ◌*◌, ◌≤◌}
use mathlib.Core.Path.{◌≡◌, refl, sym, ap, ◌∙◌}
use mathlib.Core.List.{List, [], ◌∷◌, ◌++◌, append_assoc, append-nil}
use native.Mathlib.Omega.{arith}
use lib.ListN.{length, take, drop, get_or, set, length-append, length-take}
use lib.Seq.{drop-cons, take-add, set_at, take-length, drop-length}
use Rattle.edge.specs.Table.{table}
use Rattle.mesh_geometry.specs.Words.{vertex_words}
use Rattle.vertices.specs.Rows.{place_in}
use Rattle.vertices.specs.Grids.{row_points, with_second}

pub raised_length : (v : ℕ) (ws : List ℕ) → length (with_second v ws) ≡ length ws
unfolding with_second
raised_length v [] = refl
raised_length v (a ∷ []) = refl
raised_length v (a ∷ b ∷ []) = refl
raised_length v (a ∷ b ∷ c ∷ ws) = ap (λ (n : ℕ). suc (suc (suc n))) (raised_length v ws)

-- whole points, and further words after them
raised_append : (v i : ℕ) (ws zs : List ℕ) → length ws ≡ 3 * i → with_second v (ws ++ zs) ≡ with_second v ws ++ with_second v zs
unfolding with_second
raised_append v zero [] zs h = refl
raised_append v zero (a ∷ ws) zs h = absurd (omega arith)
raised_append v (suc i) [] zs h = absurd (omega arith)
raised_append v (suc i) (a ∷ []) zs h = absurd (omega arith)
raised_append v (suc i) (a ∷ b ∷ []) zs h = absurd (omega arith)
raised_append v (suc i) (a ∷ b ∷ c ∷ ws) zs h = ap (λ (l : List ℕ). a ∷ v ∷ c ∷ l) (raised_append v i ws zs (omega arith))

-- one more point
pub raised_more : (v i : ℕ) (ws : List ℕ) → 3 * (i + 1) ≤ length ws
    → set (with_second v (take (3 * i) ws) ++ drop (3 * i) ws) (3 * i + 1) v ≡ with_second v (take (3 * (i + 1)) ws) ++ drop (3 * (i + 1)) ws
unfolding with_second
raised_more v i ws h =
    let A = with_second v (take (3 * i) ws) in
    let a = get_or ws (3 * i) 0 in
    let b = get_or ws (suc (3 * i)) 0 in
    let c = get_or ws (suc (suc (3 * i))) 0 in
    let D = drop (suc (suc (suc (3 * i)))) ws in
    let t : length (take (3 * i) ws) ≡ 3 * i = length-take (3 * i) ws ∙ omega arith in
    let n : length (A ++ (a ∷ [])) ≡ 3 * i + 1 = length-append A (a ∷ []) ∙ omega (arith, raised_length v (take (3 * i) ws)) in
    let next : drop (3 * i) ws ≡ a ∷ b ∷ c ∷ D =
    rw (drop-cons ws (3 * i) 0 (omega arith), drop-cons ws (suc (3 * i)) 0 (omega arith), drop-cons ws (suc (suc (3 * i))) 0 (omega arith)) in
    let here : set (A ++ drop (3 * i) ws) (3 * i + 1) v ≡ A ++ (a ∷ v ∷ c ∷ D) =
    ap (λ (l : List ℕ). set l (3 * i + 1) v) (ap (λ (l : List ℕ). A ++ l) next ∙ sym (append_assoc A (a ∷ []) (b ∷ c ∷ D)))
    ∙ set_at (A ++ (a ∷ [])) b (c ∷ D) v (3 * i + 1) n ∙ append_assoc A (a ∷ []) (v ∷ c ∷ D) in
    let size : 3 * (i + 1) ≡ 3 * i + 3 = omega arith in
    let three : take 3 (drop (3 * i) ws) ≡ a ∷ b ∷ c ∷ [] = ap (take 3) next in
    let front : with_second v (take (3 * (i + 1)) ws) ≡ A ++ (a ∷ v ∷ c ∷ []) =
    ap (λ (k : ℕ). with_second v (take k ws)) size ∙ ap (with_second v) (take-add (3 * i) 3 ws ∙ ap (λ (l : List ℕ). take (3 * i) ws ++ l) three) ∙ raised_append
    v i (take (3 * i) ws) (a ∷ b ∷ c ∷ []) t in
    let past : 3 * (i + 1) ≡ suc (suc (suc (3 * i))) = omega arith in
    let back : drop (3 * (i + 1)) ws ≡ D = ap (λ (k : ℕ). drop k ws) past in
    here ∙ sym (rw (front, back) (append_assoc A (a ∷ v ∷ c ∷ []) D))

-- the words of points at one height, moved to another
points_raised : (u : ℕ → ℕ) (x v n : ℕ) → with_second v (vertex_words (table (λ c. record { u = u c; v = x; w = 0 }) n)) ≡ vertex_words (table (λ c. record { u = u c; v = v; w = 0 }) n)
unfolding with_second vertex_words table
points_raised u x v zero = refl
points_raised u x v (suc n) = ap (λ (l : List ℕ). u 0 ∷ v ∷ 0 ∷ l) (points_raised (λ c. u (suc c)) x v n)

pub row_raised : (columns : List ℕ) (x v : ℕ) → with_second v (vertex_words (row_points columns x)) ≡ vertex_words (row_points columns v)
row_raised columns x v = points_raised (place_in columns) x v (length columns)

-- all points of a row
pub raised_all : (v n : ℕ) (ws : List ℕ) → length ws ≡ 3 * n → with_second v (take (3 * n) ws) ++ drop (3 * n) ws ≡ with_second v ws
raised_all v n ws h = rw (← h, take-length ws, drop-length ws) (append-nil (with_second v ws))
