-- Each answer is given exactly if it is right; "no differences" exactly if both meshes are the same. Assumes nothing.
use Prim.Native.Nat.{ℕ, ◌*◌, ◌%◌, ◌<◌}
use mathlib.Core.Path.{◌≡◌, refl, sym, ap, ◌∙◌}
use mathlib.Core.Bool.{Bool, true, false, cond, ◌&&◌, true≢false}
use mathlib.Core.List.{List}
use native.Mathlib.Omega.{arith}
use lib.ListN.{length, get_or}
use lib.Dec.{ltb, leb, eqb}
use borrow.Author.Tests.{lt-ltb, le-ltb, ltb-true, ltb-false, le-leb, lt-leb, leb-true, leb-false, eq-eqb, eqb-true}
use Rattle.mesh_geometry.specs.Cover.{AllDistinct}
use Rattle.mesh_geometry.specs.Faces.{at}
use Rattle.mesh_geometry.specs.Words.{read_points}
use Rattle.mesh_geometry.proofs.Lists.{neither}
use Rattle.check_searches.specs.Indices.{first_unknown_index, AllNumbered}
use Rattle.check_searches.specs.Points.{same_point, repeats, first_repeated}
use Rattle.check_searches.proofs.First.{some_which, some_here, some_none, some_all}
use Rattle.check_searches.proofs.Equal.{same_is, is_same}
use Rattle.compare_meshes.specs.declared.answer.Fault.TheVariants.{NotThrees, UnknownIndex, EqualPoints}
use Rattle.compare_meshes.specs.declared.answer.Fault.{Fault}
use Rattle.compare_meshes.specs.declared.answer.CompareRefusal.{CompareRefusal}
use Rattle.compare_meshes.specs.declared.answer.CompareRefusal.TheVariants.{NoRoom, Left, Right}
use Rattle.std.specs.Prelude.{⊤, Result, Ok, Err}
use Rattle.compare_meshes.specs.Answers.{MeshWords, mesh_in, checked, unless_fault, compare_verdict}
use Rattle.compare_differences.specs.Differences.{differences}
use Rattle.compare_sameness.specs.Same.{SameMesh}
use Rattle.compare_sameness.specs.Refusals.{InThrees, Comparable, PastPoints, TwoEqual, CheckMeans, AnswerMeans}
use Rattle.compare_sameness.proofs.Sames.{empty, none_same, same_none}

-- ---- the three tests of a mesh
module _ (pw iw : List ℕ) where
  abbrev threes : Bool
  threes = eqb (length pw % 3) 0 && eqb (length iw % 3) 0

  abbrev unknown : Bool
  unknown = ltb (first_unknown_index iw (length (read_points pw))) (length iw)

  abbrev equal : Bool
  equal = ltb (first_repeated (read_points pw)) (length (read_points pw))

  both : (x y : Bool) → (x && y) ≡ true → (x ≡ true) × (y ≡ true)
  both true true h = (refl, refl)
  both true false h = absurd (true≢false (sym h))
  both false y h = absurd (true≢false (sym h))

  threes_is : threes ≡ true → InThrees pw iw
  threes_is h =
      let w = both (eqb (length pw % 3) 0) (eqb (length iw % 3) 0) h in
      record { points = eqb-true (length pw % 3) 0 w.0; indices = eqb-true (length iw % 3) 0 w.1 }

  is_threes : InThrees pw iw → threes ≡ true
  is_threes h = rw (eq-eqb (length pw % 3) 0 h.points, eq-eqb (length iw % 3) 0 h.indices)

  not_threes : (InThrees pw iw → ⊥) → threes ≡ false
  not_threes h = go threes refl
    where
      go : (b : Bool) → threes ≡ b → threes ≡ false
      go true e = absurd (h (threes_is e))
      go false e = e

  unknown_is : unknown ≡ true → PastPoints pw iw
  unfolding first_unknown_index
  unknown_is h =
      let w = some_which (λ k. leb (length (read_points pw)) (get_or iw k 0)) (length iw) h in
      record { k = w.0; index = w.1; past = leb-true (length (read_points pw)) (get_or iw w.0 0) w.2 }

  is_unknown : PastPoints pw iw → unknown ≡ true
  unfolding first_unknown_index
  is_unknown h = some_here (λ k. leb (length (read_points pw)) (get_or iw k 0)) (length iw) h.k h.index (le-leb (length (read_points pw)) (get_or iw h.k 0) h.past)

  known_is : unknown ≡ false → AllNumbered (length (read_points pw)) iw
  unfolding first_unknown_index
  known_is h = record { at = λ k l. leb-false (length (read_points pw)) (get_or iw k 0) (some_all (λ i. leb (length (read_points pw)) (get_or iw i 0)) (length iw) h k l) }

  is_known : AllNumbered (length (read_points pw)) iw → unknown ≡ false
  unfolding first_unknown_index
  is_known h = some_none (λ k. leb (length (read_points pw)) (get_or iw k 0)) (length iw) (λ k l. lt-leb (length (read_points pw)) (get_or iw k 0) (h.at k l))

  equal_is : equal ≡ true → TwoEqual pw
  unfolding first_repeated
  equal_is h =
      let ps = read_points pw in
      let w = some_which (repeats ps) (length ps) h in
      let v = some_which (λ i. same_point (at ps i) (at ps w.0)) w.0 w.2 in
      record { i = v.0; j = w.0; earlier = v.1; point = w.1; equal = same_is (at ps v.0) (at ps w.0) v.2 }

  is_equal : TwoEqual pw → equal ≡ true
  unfolding first_repeated
  is_equal h =
      let ps = read_points pw in
      some_here (repeats ps) (length ps) h.j h.point
      (some_here (λ i. same_point (at ps i) (at ps h.j)) h.j h.i h.earlier (is_same (at ps h.i) (at ps h.j) h.equal))

  earlier_differs : equal ≡ false → (i j : ℕ) → i < j → j < length (read_points pw) → at (read_points pw) i ≡ at (read_points pw) j → ⊥
  unfolding first_repeated
  earlier_differs h i j l m e =
      let ps = read_points pw in
      true≢false (sym (is_same (at ps i) (at ps j) e) ∙ some_all (λ k. same_point (at ps k) (at ps j)) j (some_all (repeats ps) (length ps) h j m) i l)

  apart_is : equal ≡ false → AllDistinct (read_points pw)
  apart_is h i j l m e = neither i j (λ k. earlier_differs h i j k m e) (λ k. earlier_differs h j i k l (sym e))

  not-true : (b : Bool) → (b ≡ true → ⊥) → b ≡ false
  not-true true h = absurd (h refl)
  not-true false h = refl

  is_apart : AllDistinct (read_points pw) → equal ≡ false
  is_apart h = not-true equal (λ e. let w = equal_is e in let z = h w.i w.j (omega (arith, w.earlier, w.point)) w.point w.equal in omega (arith, z, w.earlier))

  -- a mesh is refused exactly if the refusal is right
  pub check_means : CheckMeans (checked pw iw) pw iw
  unfolding checked
  check_means = go threes unknown equal refl refl refl
    where
      go : (t u v : Bool) → threes ≡ t → unknown ≡ u → equal ≡ v
          → CheckMeans (cond t (cond u (Err UnknownIndex) (cond v (Err EqualPoints) (Ok tt))) (Err NotThrees)) pw iw
      go false u v a b c = λ h. true≢false (sym (is_threes h) ∙ a)
      go true true v a b c = (threes_is a, unknown_is b)
      go true false true a b c = (threes_is a, known_is b, equal_is c)
      go true false false a b c = record { threes = threes_is a; numbered = known_is b; distinct = apart_is c }

  pub means_check : (x : Result ⊤ Fault) → CheckMeans x pw iw → checked pw iw ≡ x
  unfolding checked
  means_check (Ok u) h = rw (is_threes h.threes, is_known h.numbered, is_apart h.distinct)
  means_check (Err NotThrees) h = rw (not_threes h)
  means_check (Err UnknownIndex) h = rw (is_threes h.0, is_unknown h.1)
  means_check (Err EqualPoints) h = rw (is_threes h.0, is_known h.1, is_equal h.2)

-- ---- the answer
module _ (left right : MeshWords) (room : ℕ) where
  abbrev total : ℕ
  total = length (differences (mesh_in left) (mesh_in right))

  pub answer_means : AnswerMeans (compare_verdict left right room) left right room
  unfolding compare_verdict
  answer_means =
      go (checked left.points left.indices) (checked right.points right.indices) (ltb room (3 * total))
      (check_means left.points left.indices) (check_means right.points right.indices) refl
    where
      go : (a b : Result ⊤ Fault) (s : Bool) → CheckMeans a left.points left.indices → CheckMeans b right.points right.indices → ltb room (3 * total) ≡ s
          → AnswerMeans (unless_fault Left a (unless_fault Right b (cond s (Err (NoRoom total)) (Ok total)))) left right room
      go (Err f) b s l r e = l
      go (Ok u) (Err f) s l r e = (l, r)
      go (Ok u) (Ok v) true l r e = ((l, r, refl), ltb-true room (3 * total) e)
      go (Ok u) (Ok v) false l r e = ((l, r, refl), ltb-false room (3 * total) e)

  pub means_answer : (a : Result ℕ CompareRefusal) → AnswerMeans a left right room → compare_verdict left right room ≡ a
  unfolding compare_verdict
  means_answer (Err (Left f)) h = rw (means_check left.points left.indices (Err f) h)
  means_answer (Err (Right f)) h = rw (means_check left.points left.indices (Ok tt) h.0, means_check right.points right.indices (Err f) h.1)
  means_answer (Err (NoRoom n)) h = rw (means_check left.points left.indices (Ok tt) h.0.0, means_check right.points right.indices (Ok tt) h.0.1, h.0.2, lt-ltb room (3 * n) h.1)
  means_answer (Ok n) h = rw (means_check left.points left.indices (Ok tt) h.0.0, means_check right.points right.indices (Ok tt) h.0.1, h.0.2, le-ltb room (3 * n) h.1)

  -- "no differences" is answered exactly if both meshes can be compared and have the same points and triangles, whatever the room
  pub same_told : Comparable left.points left.indices → Comparable right.points right.indices → SameMesh (mesh_in left) (mesh_in right) → compare_verdict left right room ≡ Ok 0
  same_told l r s = means_answer (Ok 0) ((l, r, ap length (same_none (mesh_in left) (mesh_in right) s)), omega arith)

  pub told_same : compare_verdict left right room ≡ Ok 0 → Comparable left.points left.indices × Comparable right.points right.indices × SameMesh (mesh_in left) (mesh_in right)
  told_same e =
      let w = rw e at answer_means in
      (w.0.0, w.0.1, none_same (mesh_in left) (mesh_in right) (empty _ w.0.2))
