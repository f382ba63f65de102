-- Each return of the tests for a difference. Assumes nothing.
use Prim.Native.Nat.{ℕ, ◌/◌, ◌≤◌, ◌<◌}
use mathlib.Core.Path.{◌≡◌, refl, sym, ap, ◌∙◌}
use mathlib.Core.Bool.{Bool, true, false, not, true≢false}
use mathlib.Core.List.{List}
use native.Mathlib.Omega.{arith}
use lib.ListN.{length, get_or}
use Rattle.mesh_geometry.specs.declared.Point.{Point}
use Rattle.mesh_geometry.specs.Cover.{Face}
use Rattle.mesh_geometry.specs.Faces.{at, face_of}
use Rattle.mesh_geometry.specs.Words.{read_points, read_triangles}
use Rattle.check_searches.specs.First.{some_below}
use Rattle.check_searches.specs.Points.{same_point}
use Rattle.check_searches.specs.Triangles.{triangle_at}
use Rattle.check_side_searches.specs.Same.{same_triangle, TriangleFound}
use Rattle.check_searches.proofs.First.{some_here, some_none}
use Rattle.check_searches.proofs.Read.{points_count, triangles_count}
use Rattle.strip.specs.declared.triangle.Triangle.{Triangle}
use Rattle.check_searches.specs.Indices.{AllNumbered}
use Rattle.std.specs.Prelude.{Option, Some, None, IfSome, is_some, unwrap_or}
use Rattle.compare_differences.specs.Lacking.{Row, among, lacks}
use Rattle.compare_differences.specs.Meshes.{NoneRepeated, DistinctAndNumbered, point_row, face_row, same_face}
use Rattle.compare_differences.specs.Found.{PointFound, Matched, is_match, some_triangle, InPlace}
use Rattle.compare_differences.proofs.Tests.{in_order, some_same, lacks_single, lacks_found, lacks_other}
use Rattle.compare_differences.proofs.Numbers.{single_before, numbers_same, lies_itself, cornered}

-- a point is found, or not
module _ (pw ow : List ℕ) (k : ℕ) where
  pub point_found : (p : Point) (r : ℕ) → p ≡ at (read_points pw) k → PointFound (read_points ow) (length ow / 3) p r → r < length ow / 3
      → lacks same_point (point_row pw) (point_row ow) k ≡ false
  point_found p r e h l = lacks_found same_point (point_row pw) (point_row ow) k (rw (← e)
      (some_here (λ i. same_point (at (read_points ow) i) p) (length (read_points ow)) r (omega (arith, points_count ow)) (h.there l)))

  pub point_missing : (p : Point) (r : ℕ) → p ≡ at (read_points pw) k → NoneRepeated pw → k < length pw / 3 → PointFound (read_points ow) (length ow / 3) p r
      → length ow / 3 ≤ r → lacks same_point (point_row pw) (point_row ow) k ≡ true
  point_missing p r e s m h l =
      lacks_single same_point (point_row pw) (point_row ow) k (some_none (λ i. same_point (at (read_points pw) i) (at (read_points pw) k)) k
      (λ i n. single_before pw s i k n (omega (arith, points_count pw))))
      ∙ ap not none
    where
      none : among same_point (point_row ow) (point_row ow).count (at (read_points pw) k) ≡ false
      none = rw (← e) (some_none (λ i. same_point (at (read_points ow) i) p) (length (read_points ow)) (λ i n. h.none (omega (arith, h.most)) i (omega (arith, points_count ow))))

  -- what a search for it found tells whether it is lacked
  pub point_told : (p : Point) (o : Option ℕ) (b : Bool) → p ≡ at (read_points pw) k → NoneRepeated pw → k < length pw / 3
      → PointFound (read_points ow) (length ow / 3) p (unwrap_or o (length ow / 3)) → IfSome o (λ r. r < length ow / 3) → is_some o ≡ not b
      → b ≡ lacks same_point (point_row pw) (point_row ow) k
  point_told p (Some r) true e s m h l q = absurd (true≢false q)
  point_told p (Some r) false e s m h l q = sym (point_found p r e h l)
  point_told p None true e s m h l q = sym (point_missing p (length ow / 3) e s m h (omega arith))
  point_told p None false e s m h l q = absurd (true≢false (sym q))

-- the other mesh has the triangle at the same number
pub in_place_found : (xs ys : Row Face) (k : ℕ) → InPlace xs ys k → lacks same_face xs ys k ≡ false
in_place_found xs ys k h = lacks_found same_face xs ys k (some_here (λ i. same_face (ys.entry i) (xs.entry k)) ys.count k h.number (in_order (ys.entry k) (xs.entry k) h.same))

-- a search of all triangles
pub held_all : (ts : List Triangle) (t : Triangle) (n : ℕ) (r : Bool) → TriangleFound ts 0 n t r → r ≡ some_below (λ i. same_triangle (triangle_at ts i) t) n
held_all ts t n true h = let w = h.yes refl in sym (some_here (λ i. same_triangle (triangle_at ts i) t) n w.0 w.1 w.2)
held_all ts t n false h = sym (some_none (λ i. same_triangle (triangle_at ts i) t) n (λ i l. h.no refl i (omega arith) l))

-- a search of some triangles
pub held_near : (ts : List Triangle) (t : Triangle) (from to : ℕ) (r : Bool) → TriangleFound ts from to t r → to ≤ length ts → r ≡ true → true ≡ some_triangle ts t
held_near ts t from to r h l e = let w = h.yes e in sym (some_here (λ i. same_triangle (triangle_at ts i) t) (length ts) w.0 (omega (arith, w.1)) w.2)

-- searching a mesh's triangles by number for a match
pub among_match : (pw iw : List ℕ) → AllNumbered (length (read_points pw)) iw → ((k : ℕ) → get_or iw k 0 < 65536) → (f : Face) (m : Option Triangle) → Matched (read_points pw) f m
    → some_below (λ i. is_match m (triangle_at (read_triangles iw) i)) (length (read_triangles iw)) ≡ among same_face (face_row pw iw) (face_row pw iw).count f
among_match pw iw h small f m w = some_same _ _ _ (λ i l. sym (w.each (triangle_at (read_triangles iw) i) (cornered pw iw h small i (omega (arith, triangles_count iw)))))

pub has_found : (pw iw : List ℕ) → AllNumbered (length (read_points pw)) iw → ((k : ℕ) → get_or iw k 0 < 65536) → (f : Face) (m : Option Triangle) (s : Triangle) (r : Bool)
    → Matched (read_points pw) f m
    → m ≡ Some s → r ≡ some_triangle (read_triangles iw) s → r ≡ among same_face (face_row pw iw) (face_row pw iw).count f
has_found pw iw h small f m s r w e t = t ∙ among_match pw iw h small f (Some s) (rw e at w)

pub has_missing : (pw iw : List ℕ) → AllNumbered (length (read_points pw)) iw → ((k : ℕ) → get_or iw k 0 < 65536) → (f : Face) (m : Option Triangle) → Matched (read_points pw) f m
    → m ≡ None → false ≡ among same_face (face_row pw iw) (face_row pw iw).count f
has_missing pw iw h small f m w e = sym (some_none (λ i. false) (length (read_triangles iw)) (λ i l. refl)) ∙ among_match pw iw h small f None (rw e at w)

-- searching a mesh's earlier triangles for one of its own
pub among_own : (pw iw : List ℕ) → DistinctAndNumbered pw iw → ((k : ℕ) → get_or iw k 0 < 65536) → (k : ℕ) → k < length iw / 3
    → some_below (λ i. same_triangle (triangle_at (read_triangles iw) i) (triangle_at (read_triangles iw) k)) k ≡ among same_face (face_row pw iw) k ((face_row pw iw).entry k)
among_own pw iw h small k l = some_same _ _ k (λ i m. sym
    (numbers_same pw h.single (triangle_at (read_triangles iw) i) (triangle_at (read_triangles iw) k) _ (cornered pw iw h.numbered small i (omega arith))
    (cornered pw iw h.numbered small k l) (lies_itself _ _)))

-- a triangle is found in the other mesh, or not
module _ (pw iw ow jw : List ℕ) (k : ℕ) (t : Triangle) (e : t ≡ triangle_at (read_triangles iw) k) (r : Bool)
    (h : r ≡ among same_face (face_row ow jw) (face_row ow jw).count (face_of (at (read_points pw)) t)) where
  told : {b : Bool} → r ≡ b → among same_face (face_row ow jw) (face_row ow jw).count ((face_row pw iw).entry k) ≡ b
  told l = ap (λ (u : Triangle). among same_face (face_row ow jw) (face_row ow jw).count (face_of (at (read_points pw)) u)) (sym e) ∙ sym h ∙ l

  pub face_found : r ≡ true → lacks same_face (face_row pw iw) (face_row ow jw) k ≡ false
  face_found l = lacks_found same_face (face_row pw iw) (face_row ow jw) k (told l)

  pub face_missing : r ≡ false → DistinctAndNumbered pw iw → ((i : ℕ) → get_or iw i 0 < 65536) → k < length iw / 3 → (q : Bool) → TriangleFound (read_triangles iw) 0 k t q
      → not q ≡ lacks same_face (face_row pw iw) (face_row ow jw) k
  face_missing l g small m q held =
      ap not (held_all (read_triangles iw) t k q held ∙ ap (λ (u : Triangle). some_below (λ i. same_triangle (triangle_at (read_triangles iw) i) u) k) e ∙ among_own pw iw g small k m)
      ∙ sym (lacks_other same_face (face_row pw iw) (face_row ow jw) k (told l))
