-- Why a mesh is refused, in terms of its points and indices. Assumes nothing.
use Rattle.std.specs.Prelude.{ℕ, ◌*◌, ◌%◌, ◌≤◌, ◌<◌, ◌≡◌, List, ⊤, Result, Ok, Err, length, get_or}
use Rattle.mesh_geometry.specs.Cover.{AllDistinct}
use Rattle.mesh_geometry.specs.Faces.{at}
use Rattle.mesh_geometry.specs.Words.{read_points}
use Rattle.check_searches.specs.Indices.{AllNumbered}
use Rattle.compare_meshes.specs.declared.answer.Fault.{Fault}
use Rattle.compare_meshes.specs.declared.answer.Fault.TheVariants.{NotThrees, UnknownIndex, EqualPoints}
use Rattle.compare_meshes.specs.declared.answer.CompareRefusal.{CompareRefusal}
use Rattle.compare_meshes.specs.declared.answer.CompareRefusal.TheVariants.{NoRoom, Left, Right}
use Rattle.compare_differences.specs.Differences.{differences}
use Rattle.compare_meshes.specs.Answers.{MeshWords, mesh_in}

-- the numbers of point words and of indices are multiples of three
pub record InThrees (pw iw : List ℕ) : Type 0 where
  pub points : length pw % 3 ≡ 0
  pub indices : length iw % 3 ≡ 0

-- the mesh can be compared
pub record Comparable (pw iw : List ℕ) : Type 0 where
  pub threes : InThrees pw iw
  pub numbered : AllNumbered (length (read_points pw)) iw
  pub distinct : AllDistinct (read_points pw)

-- index k is not the number of a point
pub record PastPoints (pw iw : List ℕ) : Type 0 where
  pub k : ℕ
  pub index : k < length iw
  pub past : length (read_points pw) ≤ get_or iw k 0

-- points i and j are equal
pub record TwoEqual (pw : List ℕ) : Type 0 where
  pub i : ℕ
  pub j : ℕ
  pub earlier : i < j
  pub point : j < length (read_points pw)
  pub equal : at (read_points pw) i ≡ at (read_points pw) j

-- what each fault means; each presumes that the faults before it are absent
abbrev pub FaultMeans : Fault → List ℕ → List ℕ → Type 0
FaultMeans NotThrees pw iw = InThrees pw iw → ⊥
FaultMeans UnknownIndex pw iw = InThrees pw iw × PastPoints pw iw
FaultMeans EqualPoints pw iw = InThrees pw iw × AllNumbered (length (read_points pw)) iw × TwoEqual pw

-- what the check of one mesh means
abbrev pub CheckMeans : Result ⊤ Fault → List ℕ → List ℕ → Type 0
CheckMeans (Ok u) pw iw = Comparable pw iw
CheckMeans (Err f) pw iw = FaultMeans f pw iw

-- both meshes can be compared, and have n differences
abbrev pub HasDifferences : MeshWords → MeshWords → ℕ → Type 0
HasDifferences left right n =
    Comparable left.points left.indices × Comparable right.points right.indices × (length (differences (mesh_in left) (mesh_in right)) ≡ n)

-- what each answer means, for a list of `room` words: the left mesh is checked first, and room last
abbrev pub AnswerMeans : Result ℕ CompareRefusal → MeshWords → MeshWords → ℕ → Type 0
AnswerMeans (Err (Left f)) left right room = FaultMeans f left.points left.indices
AnswerMeans (Err (Right f)) left right room = Comparable left.points left.indices × FaultMeans f right.points right.indices
AnswerMeans (Err (NoRoom n)) left right room = HasDifferences left right n × (room < 3 * n)
AnswerMeans (Ok n) left right room = HasDifferences left right n × (3 * n ≤ room)
