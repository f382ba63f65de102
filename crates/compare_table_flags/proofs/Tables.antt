-- How partners and flags are updated, and what follows from them. Assumes nothing.
use Prim.Native.Nat.{ℕ, zero, suc, ◌+◌, ◌/◌, ◌≤◌, ◌<◌}
use mathlib.Core.Path.{◌≡◌, refl, sym, ap, ◌∙◌}
use mathlib.Core.Bool.{Bool, true, false, not, ◌&&◌}
use mathlib.Core.List.{List}
use native.Mathlib.Omega.{arith}
use native.Mathlib.Decide.{dec_le}
use lib.Dec.{leb}
use borrow.Author.Tests.{le-leb, lt-leb}
use lib.ListN.{length, get_or, set, length-set, replicate}
use lib.Seq.{get_or-set_same, get_or-set_other}
use Rattle.mesh_geometry.specs.declared.Point.{Point}
use Rattle.mesh_geometry.specs.Cover.{Face}
use Rattle.mesh_geometry.specs.Faces.{at, face_of}
use Rattle.mesh_geometry.specs.Words.{read_points, read_triangles}
use Rattle.check_searches.specs.First.{some_below}
use Rattle.check_searches.specs.Points.{same_point, first_repeated}
use Rattle.check_searches.specs.Triangles.{triangle_at}
use Rattle.check_searches.proofs.Read.{points_count, triangles_count}
use Rattle.check_side_searches.specs.Same.{same_triangle}
use Rattle.strip.specs.declared.triangle.Triangle.{Triangle}
use Rattle.check_searches.specs.Indices.{AllNumbered}
use Rattle.point_table.specs.Trees.{PointTable}
use Rattle.triangle_table.specs.Hits.{some_face}
use Rattle.std.specs.Prelude.{Some, None}
use Rattle.compare_differences.specs.Lacking.{among, lacks}
use Rattle.compare_differences.specs.Meshes.{NoneRepeated, DistinctAndNumbered, point_row, face_row, same_face}
use Rattle.compare_differences.specs.Found.{PointFound, Cornered}
use Rattle.compare_differences.proofs.Numbers.{match_found, missing_p, missing_q, missing_r}
use Rattle.compare_differences.proofs.Lacks.{point_found, point_missing, has_found, has_missing, among_own}
use Rattle.compare_table_flags.specs.Flags.{Partners, Partnered, AllSet, Narrowed, Flagged, no_same_face, is_first}

-- ---- a table of all points
pub table_whole : {ow : List ℕ} {slots r : ℕ} {t : List ℕ} → NoneRepeated ow → r ≡ first_repeated (read_points ow) → PointTable (read_points ow) slots r t →
    PointTable (read_points ow) slots (length ow / 3) t
table_whole {ow} s e h = rw (e ∙ s.is ∙ points_count ow) at h

-- ---- partners
pub partners_none : (pw ow ms : List ℕ) → Partners pw ow 0 ms
partners_none pw ow ms = record { each = λ k l. absurd (omega arith) }

pub partners_more : {pw ow ms : List ℕ} {n : ℕ} (p : Point) (r : ℕ) → Partners pw ow n ms → n < length ms → p ≡ at (read_points pw) n → PointFound (read_points ow) (length ow / 3) p r
    → Partners pw ow (n + 1) (set ms n r)
partners_more {pw} {ow} {ms} {n} p r h l e f = record { each = one }
  where
    one : (k : ℕ) → k < n + 1 → PointFound (read_points ow) (length ow / 3) (at (read_points pw) k) (get_or (set ms n r) k 0)
    one k b = elim (dec_le n k) [
      | yes q ↦ (let d : k ≡ n = omega arith in rw (d, get_or-set_same ms n r 0 l, ← e) f)
      | no q ↦ rw (get_or-set_other ms n k r 0 (λ d. q (omega arith))) (h.each k (omega arith))
    ]

-- ---- flags
pub narrowed_none : (t : ℕ → Bool) (fs : List Bool) → Narrowed t 0 fs fs
narrowed_none t fs = record { size = refl; each = λ k l. absurd (omega arith); rest = λ k l. refl }

pub narrowed_more : {t : ℕ → Bool} {fs gs : List Bool} {n : ℕ} (r : Bool) → Narrowed t n fs gs → n < length gs → r ≡ (get_or gs n false && t n)
    → Narrowed t (n + 1) fs (set gs n r)
narrowed_more {t} {fs} {gs} {n} r h l e = record {
  size = length-set gs n r ∙ h.size;
  each = one;
  rest = λ k m. get_or-set_other gs n k r false (λ d. omega arith) ∙ h.rest k (omega arith);
}
  where
    one : (k : ℕ) → k < n + 1 → get_or (set gs n r) k false ≡ (get_or fs k false && t k)
    one k m = elim (dec_le n k) [
      | yes q ↦ (let d : k ≡ n = omega arith in rw (d, get_or-set_same gs n r false l) (e ∙ ap (λ (f : Bool). f && t n) (h.rest n (omega arith))))
      | no q ↦ get_or-set_other gs n k r false (λ d. q (omega arith)) ∙ h.each k (omega arith)
    ]

pub narrowed_all : {t : ℕ → Bool} {m n : ℕ} {fs gs : List Bool} → Narrowed t m fs gs → m ≡ n → Narrowed t n fs gs
narrowed_all h e = rw e at h

-- flags that were all set, narrowed by one test and by two tests
pub flagged_once : {t : ℕ → Bool} {m n : ℕ} {fs gs : List Bool} → AllSet m fs → n ≤ m → Narrowed t n fs gs → Flagged t n gs
flagged_once {t} {m} {n} {fs} {gs} a l h = record {
  room = omega (arith, a.room, h.size);
  each = λ k b. h.each k b ∙ ap (λ (f : Bool). f && t k) (a.each k (omega arith));
}

pub flagged_twice : {s t u : ℕ → Bool} {m n : ℕ} {fs gs hs : List Bool} → AllSet m fs → n ≤ m → Narrowed s n fs gs → Narrowed t n gs hs → ((k : ℕ) → (s k && t k) ≡ u k) → Flagged u n hs
flagged_twice {s} {t} {u} a l g h e =
    let f = flagged_once a l g in
    record {
      room = omega (arith, f.room, h.size);
      each = λ k b. h.each k b ∙ ap (λ (x : Bool). x && t k) (f.each k b) ∙ e k;
    }

pub and_turned : (b c : Bool) → (b && c) ≡ (c && b)
and_turned true true = refl
and_turned true false = refl
and_turned false true = refl
and_turned false false = refl

set_at : (n k : ℕ) → k < n → get_or (replicate n true) k false ≡ true
set_at zero k l = absurd (omega arith)
set_at (suc n) zero l = refl
set_at (suc n) (suc k) l = set_at n k (omega arith)

pub all_set : (n : ℕ) → n ≤ length (replicate n true) → AllSet n (replicate n true)
all_set n l = record { room = l; each = set_at n }

-- a flag that a test decides
pub flag_asked : (flag r b : Bool) → flag ≡ true → r ≡ b → r ≡ (flag && b)
flag_asked flag r b e f = rw e f

-- ---- a point whose partner is known
pub point_asked : (pw ow : List ℕ) (k r : ℕ) → NoneRepeated pw → k < length pw / 3 → PointFound (read_points ow) (length ow / 3) (at (read_points pw) k) r
    → leb (length ow / 3) r ≡ lacks same_point (point_row pw) (point_row ow) k
point_asked pw ow k r s m h = elim (dec_le (length ow / 3) r) [
  | yes q ↦ rw (le-leb (length ow / 3) r q) (sym (point_missing pw ow k _ r refl s m h q))
  | no q ↦ rw (lt-leb (length ow / 3) r (omega arith)) (sym (point_found pw ow k _ r refl h (omega arith)))
]

-- ---- the corners of a triangle by their partners
module _ (pw ow jw ms : List ℕ) (g : DistinctAndNumbered ow jw) (small : (k : ℕ) → get_or jw k 0 < 65536) (p : Partnered pw ow ms) (t : Triangle) (m : Cornered (length pw / 3) t) where
  face : Face
  face = face_of (at (read_points pw)) t

  pub corner_missing_a : length ow / 3 ≤ get_or ms t.a 0 → false ≡ among same_face (face_row ow jw) (face_row ow jw).count (face_of (at (read_points pw)) t)
  corner_missing_a l = has_missing ow jw g.numbered small (face_of (at (read_points pw)) t) None
      (missing_p ow (length ow / 3) (face_of (at (read_points pw)) t) (λ i k j. k) (at (read_points pw) t.a) (get_or ms t.a 0) (p.all.each t.a m.a) l refl) refl

  pub corner_missing_b : length ow / 3 ≤ get_or ms t.b 0 → false ≡ among same_face (face_row ow jw) (face_row ow jw).count (face_of (at (read_points pw)) t)
  corner_missing_b l = has_missing ow jw g.numbered small (face_of (at (read_points pw)) t) None
      (missing_q ow (length ow / 3) (face_of (at (read_points pw)) t) (λ i k j. k) (at (read_points pw) t.b) (get_or ms t.b 0) (p.all.each t.b m.b) l refl) refl

  pub corner_missing_c : length ow / 3 ≤ get_or ms t.c 0 → false ≡ among same_face (face_row ow jw) (face_row ow jw).count (face_of (at (read_points pw)) t)
  corner_missing_c l = has_missing ow jw g.numbered small (face_of (at (read_points pw)) t) None
      (missing_r ow (length ow / 3) (face_of (at (read_points pw)) t) (λ i k j. k) (at (read_points pw) t.c) (get_or ms t.c 0) (p.all.each t.c m.c) l refl) refl

  pub corners_found : (x y z : ℕ) (r : Bool) → x ≡ get_or ms t.a 0 → y ≡ get_or ms t.b 0 → z ≡ get_or ms t.c 0 → x < length ow / 3 → y < length ow / 3 → z < length ow / 3
      → length ow / 3 ≤ 65536 → r ≡ some_face (read_triangles jw) (record { a = x; b = y; c = z }) (length jw / 3)
      → r ≡ among same_face (face_row ow jw) (face_row ow jw).count (face_of (at (read_points pw)) t)
  corners_found x y z r ex ey ez lx ly lz few h =
      has_found ow jw g.numbered small (face_of (at (read_points pw)) t) (Some (record { a = x; b = y; c = z })) (record { a = x; b = y; c = z }) r
      (match_found ow (length ow / 3) (face_of (at (read_points pw)) t) (at (read_points pw) t.a) (at (read_points pw) t.b) (at (read_points pw) t.c) x y z g.single (omega arith) few
      (rw ex (p.all.each t.a m.a)) (rw ey (p.all.each t.b m.b)) (rw ez (p.all.each t.c m.c)) refl refl refl lx ly lz)
      refl (rw (triangles_count jw) h)

-- ---- a triangle that the other mesh has
pub missing_is : (pw iw ow jw : List ℕ) (k : ℕ) (t : Triangle) (r : Bool) → t ≡ triangle_at (read_triangles iw) k → r ≡ among same_face (face_row ow jw)
    (face_row ow jw).count (face_of (at (read_points pw)) t)
    → not r ≡ no_same_face pw iw ow jw k
missing_is pw iw ow jw k t r e h = ap not (h ∙ ap (λ (u : Triangle). among same_face (face_row ow jw) (face_row ow jw).count (face_of (at (read_points pw)) u)) e)

-- ---- a triangle that its own mesh has earlier
pub first_is : (pw iw : List ℕ) (k : ℕ) (t : Triangle) (q : Bool) → t ≡ triangle_at (read_triangles iw) k → DistinctAndNumbered pw iw →
    ((i : ℕ) → get_or iw i 0 < 65536) → k < length iw / 3 → q ≡ some_face (read_triangles iw) t k
    → not q ≡ is_first pw iw k
first_is pw iw k t q e g small l h = ap not (h ∙ ap (λ (u : Triangle). some_below (λ i. same_triangle (triangle_at (read_triangles iw) i) u) k) e ∙ among_own pw iw g small k l)

-- ---- the indices of a mesh that can be compared fit a table for its points
pub numbered_in : (pw iw : List ℕ) (n : ℕ) → DistinctAndNumbered pw iw → length pw / 3 ≤ n → AllNumbered n iw
numbered_in pw iw n g l = record { at = λ k m. omega (arith, g.numbered.at k m, points_count pw) }
