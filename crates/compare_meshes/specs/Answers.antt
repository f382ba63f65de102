-- The answers of comparing, and its contract. Assumes nothing.
use Rattle.std.specs.Prelude.{ℕ, ◌+◌, ◌*◌, ◌%◌, ◌≡◌, cond, ◌&&◌, List, [], ◌∷◌, ⊤, Result, Ok, Err, length, ltb, eqb}
use Rattle.mesh_geometry.specs.Words.{read_points}
use Rattle.check_searches.specs.Indices.{first_unknown_index}
use Rattle.check_searches.specs.Points.{first_repeated}
use Rattle.answer_codes.specs.AnswerCode.{AnswerCode, refused}
use Rattle.answer_codes.specs.Drew.{list_after}
use Rattle.compare_meshes.specs.declared.answer.Fault.{Fault}
use Rattle.compare_meshes.specs.declared.answer.Fault.TheVariants.{NotThrees, UnknownIndex, EqualPoints}
use Rattle.compare_meshes.specs.declared.answer.CompareRefusal.{CompareRefusal}
use Rattle.compare_meshes.specs.declared.answer.CompareRefusal.TheVariants.{NoRoom, Left, Right}
use Rattle.compare_differences.specs.Meshes.{Mesh, read_mesh}
use Rattle.compare_differences.specs.Differences.{Difference, differences, words}

-- a mesh as words: three for each point, and the indices
pub record MeshWords : Type 0 where
  pub points : List ℕ
  pub indices : List ℕ

-- the mesh that they hold
abbrev pub mesh_in : MeshWords → Mesh
mesh_in m = read_mesh m.points m.indices

-- why a mesh is refused: the number of point words or of indices is not a multiple of three, then an index is not the number of a point,
-- then two points are equal
unfoldable pub checked : List ℕ → List ℕ → Result ⊤ Fault
checked pw iw =
    cond (eqb (length pw % 3) 0 && eqb (length iw % 3) 0)
    (cond (ltb (first_unknown_index iw (length (read_points pw))) (length iw)) (Err UnknownIndex)
    (cond (ltb (first_repeated (read_points pw)) (length (read_points pw))) (Err EqualPoints) (Ok tt))) (Err NotThrees)

-- the refusal, if the mesh is refused, and the answer a otherwise
abbrev pub unless_fault : (Fault → CompareRefusal) → Result ⊤ Fault → Result ℕ CompareRefusal → Result ℕ CompareRefusal
unless_fault refusal (Ok u) a = a
unless_fault refusal (Err f) a = Err (refusal f)

-- the answer for n differences and a list of `room` words
abbrev pub counted : ℕ → ℕ → Result ℕ CompareRefusal
counted n room = cond (ltb room (3 * n)) (Err (NoRoom n)) (Ok n)

-- the answer for a left and a right mesh and a list of `room` words: the left mesh is checked first
unfoldable pub compare_verdict : MeshWords → MeshWords → ℕ → Result ℕ CompareRefusal
compare_verdict left right room =
    unless_fault Left (checked left.points left.indices)
    (unless_fault Right (checked right.points right.indices) (counted (length (differences (mesh_in left) (mesh_in right))) room))

-- the three refusals of one side, with the numbers n, n + 1 and n + 2
abbrev pub fault_code : ℕ → Fault → AnswerCode
fault_code n NotThrees = refused n
fault_code n UnknownIndex = refused (n + 1)
fault_code n EqualPoints = refused (n + 2)

-- 0 compared and 40 no room, with the number of differences; 41 to 43 if the left mesh is refused, 44 to 46 if the right mesh is
abbrev pub comparison_code : Result ℕ CompareRefusal → AnswerCode
comparison_code (Ok n) = record { number = 0; values = n ∷ [] }
comparison_code (Err (NoRoom n)) = record { number = 40; values = n ∷ [] }
comparison_code (Err (Left f)) = fault_code 41 f
comparison_code (Err (Right f)) = fault_code 44 f

-- an operation answered r, which is `right`, and its list xs became xs'
pub record ListAnswered (right r : Result ℕ CompareRefusal) (ws xs xs' : List ℕ) : Type 0 where
  pub answer : r ≡ right
  -- if compared, the list begins with the words and is unchanged after them; otherwise it is unchanged
  pub list : xs' ≡ list_after (comparison_code r).number xs ws

-- the contract of listing the differences ds
abbrev pub DifferencesListed : List Difference → List ℕ → List ℕ → Result ℕ CompareRefusal → Type 0
DifferencesListed ds xs xs' r = ListAnswered (counted (length ds) (length xs)) r (words ds) xs xs'

-- the contract of comparing a left and a right mesh, given as words
abbrev pub Compared : MeshWords → MeshWords → List ℕ → List ℕ → Result ℕ CompareRefusal → Type 0
Compared left right xs xs' r = ListAnswered (compare_verdict left right (length xs)) r (words (differences (mesh_in left) (mesh_in right))) xs xs'
