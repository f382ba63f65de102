-- Points and triangles by number, read from words. Assumes nothing.
use Prim.Native.Nat.{ℕ, zero, suc, ◌+◌, ◌*◌, ◌/◌, ◌<◌}
use mathlib.Core.Path.{◌≡◌, refl, ◌∙◌}
use mathlib.Core.List.{List, [], ◌∷◌}
use native.Mathlib.Omega.{arith}
use lib.ListN.{length, get_or}
use Rattle.mesh_geometry.specs.Faces.{at}
use Rattle.mesh_geometry.specs.Words.{read_points, read_triangles}
use Rattle.check_searches.specs.Triangles.{triangle_at}

pub points_count : (ws : List ℕ) → length (read_points ws) ≡ length ws / 3
unfolding read_points
points_count [] = refl
points_count (u ∷ []) = refl
points_count (u ∷ v ∷ []) = refl
points_count (u ∷ v ∷ w ∷ rest) = omega (arith, points_count rest)

pub triangles_count : (ws : List ℕ) → length (read_triangles ws) ≡ length ws / 3
unfolding read_triangles
triangles_count [] = refl
triangles_count (a ∷ []) = refl
triangles_count (a ∷ b ∷ []) = refl
triangles_count (a ∷ b ∷ c ∷ rest) = omega (arith, triangles_count rest)

-- word x + 3 of a list is word x after its first three
later : (a b c : ℕ) (rest : List ℕ) (x y : ℕ) → y ≡ x + 3 → get_or (a ∷ b ∷ c ∷ rest) y 0 ≡ get_or rest x 0
later a b c rest x y e = let h : y ≡ suc (suc (suc x)) = omega arith in rw h

-- what is read of three words each: `item ws k` is number k, made of the words from 3 * k on
read_at : {A : Type 0} (make : ℕ → ℕ → ℕ → A) (item : List ℕ → ℕ → A) → ((a b c : ℕ) (rest : List ℕ) → make a b c ≡ item (a ∷ b ∷ c ∷ rest) 0)
    → ((a b c : ℕ) (rest : List ℕ) (k : ℕ) → item rest k ≡ item (a ∷ b ∷ c ∷ rest) (suc k)) → (ws : List ℕ) (k : ℕ) → k < length ws / 3
    → make (get_or ws (k * 3) 0) (get_or ws (k * 3 + 1) 0) (get_or ws (k * 3 + 2) 0) ≡ item ws k
read_at make item front back [] k l = absurd (omega arith)
read_at make item front back (a ∷ []) k l = absurd (omega arith)
read_at make item front back (a ∷ b ∷ []) k l = absurd (omega arith)
read_at make item front back (a ∷ b ∷ c ∷ rest) zero l = front a b c rest
read_at make item front back (a ∷ b ∷ c ∷ rest) (suc k) l =
    rw (later a b c rest (k * 3) (suc k * 3) (omega arith), later a b c rest (k * 3 + 1) (suc k * 3 + 1) (omega arith), later a b c rest (k * 3 + 2) (suc k * 3 + 2) (omega arith))
    (read_at make item front back rest k (omega arith) ∙ back a b c rest k)

pub point_read : (ws : List ℕ) (k : ℕ) → k < length ws / 3
    → record { u = get_or ws (k * 3) 0; v = get_or ws (k * 3 + 1) 0; w = get_or ws (k * 3 + 2) 0 } ≡ at (read_points ws) k
unfolding read_points
point_read = read_at (λ u v w. record { u = u; v = v; w = w }) (λ ws k. at (read_points ws) k) (λ u v w rest. refl) (λ u v w rest k. refl)

pub triangle_read : (ws : List ℕ) (k : ℕ) → k < length ws / 3
    → record { a = get_or ws (k * 3) 0; b = get_or ws (k * 3 + 1) 0; c = get_or ws (k * 3 + 2) 0 } ≡ triangle_at (read_triangles ws) k
unfolding read_triangles
triangle_read = read_at (λ a b c. record { a = a; b = b; c = c }) (λ ws k. triangle_at (read_triangles ws) k) (λ a b c rest. refl) (λ a b c rest k. refl)
