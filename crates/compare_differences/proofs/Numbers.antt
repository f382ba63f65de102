-- In a mesh with distinct points, triangles are the same by coordinates exactly if they are the same by number. Assumes nothing.
use Prim.Native.Nat.{ℕ, ◌*◌, ◌/◌, ◌+◌, ◌≤◌, ◌<◌}
use mathlib.Core.Path.{◌≡◌, refl, sym, ap, ◌∙◌}
use mathlib.Core.Bool.{Bool, true, false, and-false, true≢false}
use mathlib.Core.List.{List}
use native.Mathlib.Omega.{arith}
use native.Mathlib.Decide.{dec_le}
use lib.ListN.{length, get_or}
use lib.Dec.{eqb}
use borrow.Author.Tests.{eq-eqb, ne_eqb}
use Rattle.mesh_geometry.specs.declared.Point.{Point}
use Rattle.mesh_geometry.specs.Cover.{Face}
use Rattle.mesh_geometry.specs.Faces.{at, face_of}
use Rattle.mesh_geometry.specs.Words.{read_points, read_triangles}
use Rattle.check_searches.specs.Points.{same_point, first_repeated}
use Rattle.check_searches.specs.Triangles.{triangle_at}
use Rattle.check_side_searches.specs.Same.{same_triangle}
use Rattle.check_searches.proofs.First.{first_all, some_all}
use Rattle.check_searches.proofs.Read.{points_count, triangle_read}
use Rattle.check_searches.proofs.Equal.{same_is, is_same}
use Rattle.strip.specs.declared.triangle.Triangle.{Triangle}
use Rattle.check_searches.specs.Indices.{AllNumbered}
use Rattle.std.specs.Prelude.{Some, None}
use Rattle.compare_differences.specs.Meshes.{NoneRepeated, same_face}
use Rattle.compare_differences.specs.Found.{PointFound, Cornered, Matched}

-- no point equals an earlier point
pub single_before : (pw : List ℕ) → NoneRepeated pw → (i j : ℕ) → i < j → j < length (read_points pw) → same_point (at (read_points pw) i) (at (read_points pw) j) ≡ false
unfolding first_repeated
single_before pw h i j l m = some_all _ j (first_all _ _ h.is j m) i l

test_false : (b : Bool) → (b ≡ true → ⊥) → b ≡ false
test_false true h = absurd (h refl)
test_false false h = refl

-- no two points are equal
apart : (pw : List ℕ) → NoneRepeated pw → (i x : ℕ) → i < length (read_points pw) → x < length (read_points pw) → (i ≡ x → ⊥)
    → same_point (at (read_points pw) i) (at (read_points pw) x) ≡ false
apart pw h i x l m n = elim (dec_le i x) [
  | yes q ↦ single_before pw h i x (lower i x q n) m
  | no q ↦ test_false _ (λ e. true≢false (sym (is_same (at (read_points pw) x) (at (read_points pw) i)
      (sym (same_is (at (read_points pw) i) (at (read_points pw) x) e))) ∙ single_before pw h x i (omega arith) l))
]
  where
    lower : (i x : ℕ) → i ≤ x → (i ≡ x → ⊥) → i < x
    lower i x l n = elim (dec_le x i) [ yes q ↦ absurd (n (omega arith)) | no q ↦ omega arith ]

-- points i and x are equal exactly if i is x
pub number_is : (pw : List ℕ) → NoneRepeated pw → (i x : ℕ) (p : Point) → i < length (read_points pw) → x < length (read_points pw)
    → same_point (at (read_points pw) x) p ≡ true → same_point (at (read_points pw) i) p ≡ eqb i x
number_is pw h i x p l m e = rw (← same_is (at (read_points pw) x) p e) (elim (dec_le i x) [
  | yes q ↦ elim (dec_le x i) [
    | yes r ↦ (let d : i ≡ x = omega arith in rw (eq-eqb i x d) (is_same _ _ (ap (at (read_points pw)) d)))
    | no r ↦ rw (ne_eqb i x (λ d. omega arith)) (apart pw h i x l m (λ d. omega arith))
  ]
  | no q ↦ rw (ne_eqb i x (λ d. omega arith)) (apart pw h i x l m (λ d. omega arith))
])

-- the corners of triangle s are at those of f
pub record Lies (ps : List Point) (s : Triangle) (f : Face) : Type 0 where
  pub p : same_point (at ps s.a) f.p ≡ true
  pub q : same_point (at ps s.b) f.q ≡ true
  pub r : same_point (at ps s.c) f.r ≡ true

pub numbers_same : (pw : List ℕ) → NoneRepeated pw → (t s : Triangle) (f : Face) → Cornered (length (read_points pw)) t → Cornered (length (read_points pw)) s
    → Lies (read_points pw) s f → same_face (face_of (at (read_points pw)) t) f ≡ same_triangle t s
unfolding same_triangle
numbers_same pw h t s f m n l = rw (
  number_is pw h t.a s.a f.p m.a n.a l.p,
  number_is pw h t.b s.b f.q m.b n.b l.q,
  number_is pw h t.c s.c f.r m.c n.c l.r,
  number_is pw h t.a s.b f.q m.a n.b l.q,
  number_is pw h t.b s.c f.r m.b n.c l.r,
  number_is pw h t.c s.a f.p m.c n.a l.p,
  number_is pw h t.a s.c f.r m.a n.c l.r,
  number_is pw h t.b s.a f.p m.b n.a l.p,
  number_is pw h t.c s.b f.q m.c n.b l.q,
)

-- the corners of a triangle are at its own
pub lies_itself : (ps : List Point) (t : Triangle) → Lies ps t (face_of (at ps) t)
lies_itself ps t = record { p = is_same (at ps t.a) (at ps t.a) refl; q = is_same (at ps t.b) (at ps t.b) refl; r = is_same (at ps t.c) (at ps t.c) refl }

-- ---- the corners of f among the first `count` points, which are all that an index can refer to
module _ (pw : List ℕ) (count : ℕ) (f : Face) where
  there : (p q : Point) (r : ℕ) → PointFound (read_points pw) count p r → p ≡ q → r < count → same_point (at (read_points pw) r) q ≡ true
  there p q r h e l = rw (← e) (h.there l)

  -- all three corners are found
  pub match_found : (p q r : Point) (x y z : ℕ) → NoneRepeated pw → count ≤ length pw / 3 → count ≤ 65536 → PointFound (read_points pw) count p x
      → PointFound (read_points pw) count q y → PointFound (read_points pw) count r z → p ≡ f.p → q ≡ f.q → r ≡ f.r → x < count → y < count → z < count
      → Matched (read_points pw) f (Some (record { a = x; b = y; c = z }))
  match_found p q r x y z s least small hx hy hz ep eq er lx ly lz =
      let n = points_count pw in
      record {
        each = λ t m. numbers_same pw s t (record { a = x; b = y; c = z }) f m
            (record { a = omega arith; b = omega arith; c = omega arith; small_a = omega arith; small_b = omega arith; small_c = omega arith })
            (record { p = there p f.p x hx ep lx; q = there q f.q y hy eq ly; r = there r f.r z hz er lz });
      }

  -- a corner is missing, so no triangle has it
  module _ (cap : (i : ℕ) → i < length pw / 3 → i < 65536 → i < count) (p : Point) (r : ℕ) (h : PointFound (read_points pw) count p r) (l : count ≤ r) where
    none : (q : Point) → p ≡ q → (i : ℕ) → i < length (read_points pw) → i < 65536 → same_point (at (read_points pw) i) q ≡ false
    none q e i m k = rw (← e) (h.none (omega (arith, h.most)) i (cap i (omega (arith, points_count pw)) k))

    pub missing_p : p ≡ f.p → Matched (read_points pw) f None
    missing_p e = record { each = λ t m. simp (none f.p e t.a m.a m.small_a, none f.p e t.b m.b m.small_b, none f.p e t.c m.c m.small_c, and-false) }

    pub missing_q : p ≡ f.q → Matched (read_points pw) f None
    missing_q e = record { each = λ t m. simp (none f.q e t.a m.a m.small_a, none f.q e t.b m.b m.small_b, none f.q e t.c m.c m.small_c, and-false) }

    pub missing_r : p ≡ f.r → Matched (read_points pw) f None
    missing_r e = record { each = λ t m. simp (none f.r e t.a m.a m.small_a, none f.r e t.b m.b m.small_b, none f.r e t.c m.c m.small_c, and-false) }

-- the triangle's corners are below n
pub record Ranged (n : ℕ) (t : Triangle) : Type 0 where
  pub a : t.a < n
  pub b : t.b < n
  pub c : t.c < n

pub ranged : (pw iw : List ℕ) → AllNumbered (length (read_points pw)) iw → (k : ℕ) → k < length iw / 3 → Ranged (length (read_points pw)) (triangle_at (read_triangles iw) k)
ranged pw iw h k l = rw (← triangle_read iw k l) (record { a = h.at (k * 3) (omega arith); b = h.at (k * 3 + 1) (omega arith); c = h.at (k * 3 + 2) (omega arith) })

pub cornered : (pw iw : List ℕ) → AllNumbered (length (read_points pw)) iw → ((k : ℕ) → get_or iw k 0 < 65536) → (k : ℕ) → k < length iw / 3 → Cornered
    (length (read_points pw)) (triangle_at (read_triangles iw) k)
cornered pw iw h small k l = rw (← triangle_read iw k l) (record {
  a = h.at (k * 3) (omega arith);
  b = h.at (k * 3 + 1) (omega arith);
  c = h.at (k * 3 + 2) (omega arith);
  small_a = small (k * 3);
  small_b = small (k * 3 + 1);
  small_c = small (k * 3 + 2);
})
