-- What a call answers and leaves, for every input: `left` and `right` are the words of the two meshes, xs and xs' the list of
-- differences at entry and at exit, and c' the count at exit. Assumes nothing.
use Rattle.std.specs.Prelude.{ℕ, ◌≡◌, List, [], ◌∷◌, ◌↔◌, Ok, Err, length, get_or}
use Rattle.answer_codes.specs.AnswerCode.{AnswerCode}
use Rattle.draw_exports.specs.Calls.{ListCalled}
use Rattle.call_answers.specs.Replies.{one_word}
use Rattle.answer_codes.specs.Reports.{AnsweredExactly}
use Rattle.compare_differences.specs.Differences.{differences, words}
use Rattle.compare_meshes.specs.Answers.{MeshWords, mesh_in, compare_verdict, comparison_code}
use Rattle.compare_meshes.specs.declared.answer.Fault.{Fault}
use Rattle.compare_meshes.specs.declared.answer.Fault.TheVariants.{NotThrees, UnknownIndex, EqualPoints}
use Rattle.compare_meshes.specs.declared.answer.CompareRefusal.TheVariants.{NoRoom, Left, Right}
use Rattle.compare_sameness.specs.Same.{SameMesh}
use Rattle.compare_sameness.specs.Refusals.{Comparable, AnswerMeans}
use Rattle.compare_exports.specs.declared.reply.CountReply.{CountReply}

-- the position of a fault among the three numbers of its side
abbrev pub shift_of : Fault → ℕ
shift_of NotThrees = 0
shift_of UnknownIndex = 1
shift_of EqualPoints = 2

-- the number of an answer and its value, 0 if it has no value
abbrev pub comparison_reply : AnswerCode → CountReply
comparison_reply t = record { number = t.number; count = get_or t.values 0 0 }

-- the contract: the number and the count of the answer; for 0 the list begins with the differences, else it is unchanged
abbrev pub CompareCalled : MeshWords → MeshWords → List ℕ → List ℕ → List ℕ → ℕ → Type 0
CompareCalled left right xs xs' c' r =
    ListCalled (comparison_code (compare_verdict left right (length xs))) (words (differences (mesh_in left) (mesh_in right))) xs xs' c' r

-- when the call gives each number, for a list of `room` words, and which count it leaves
pub record CompareExactly (left right : MeshWords) (room : ℕ) (c' : List ℕ) (r : ℕ) : Type 0 where
  -- each answer is given, by number and count, exactly if it is right
  pub answers : AnsweredExactly (λ a. (comparison_code a).number) (λ a. one_word (comparison_code a).values) (λ a. AnswerMeans a left right room) c' r
  -- the same for each number; 0 with the count 0: both meshes can be compared, and have the same points and triangles
  pub same : ((r ≡ 0) × (c' ≡ 0 ∷ []))
      ↔ (Comparable left.points left.indices × Comparable right.points right.indices × SameMesh (mesh_in left) (mesh_in right))
  pub compared : (r ≡ 0) ↔ AnswerMeans (Ok (get_or c' 0 0)) left right room
  pub no_room : (r ≡ 40) ↔ AnswerMeans (Err (NoRoom (get_or c' 0 0))) left right room
  pub left_not_threes : (r ≡ 41) ↔ AnswerMeans (Err (Left NotThrees)) left right room
  pub left_unknown_index : (r ≡ 42) ↔ AnswerMeans (Err (Left UnknownIndex)) left right room
  pub left_equal_points : (r ≡ 43) ↔ AnswerMeans (Err (Left EqualPoints)) left right room
  pub right_not_threes : (r ≡ 44) ↔ AnswerMeans (Err (Right NotThrees)) left right room
  pub right_unknown_index : (r ≡ 45) ↔ AnswerMeans (Err (Right UnknownIndex)) left right room
  pub right_equal_points : (r ≡ 46) ↔ AnswerMeans (Err (Right EqualPoints)) left right room
