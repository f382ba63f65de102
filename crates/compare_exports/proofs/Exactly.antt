-- A call that compares gives each number exactly if it is right. Assumes nothing.
use Prim.Native.Nat.{ℕ}
use mathlib.Core.Path.{◌≡◌, refl, ap, ◌∙◌}
use mathlib.Core.Bool.{cond}
use mathlib.Core.List.{List}
use mathlib.Core.Logic.{◌↔◌}
use lib.Dec.{eqb}
use lib.ListN.{length, get_or}
use Rattle.compare_meshes.specs.declared.answer.Fault.TheVariants.{NotThrees, UnknownIndex, EqualPoints}
use Rattle.compare_meshes.specs.declared.answer.CompareRefusal.{CompareRefusal}
use Rattle.compare_meshes.specs.declared.answer.CompareRefusal.TheVariants.{NoRoom, Left, Right}
use Rattle.std.specs.Prelude.{Result, Ok, Err}
use Rattle.compare_meshes.specs.Answers.{MeshWords, comparison_code, compare_verdict}
use Rattle.call_answers.specs.Replies.{one_word}
use Rattle.compare_sameness.specs.Refusals.{AnswerMeans}
use Rattle.compare_sameness.proofs.Exactly.{answer_means, means_answer, same_told, told_same}
use Rattle.answer_codes.specs.Reports.{Reports}
use Rattle.answer_codes.proofs.Exactly.{told_back, number_exactly, answered_exactly}
use Rattle.compare_exports.specs.Calls.{CompareCalled, CompareExactly}

-- the answer with this number and this count
abbrev answer_in : ℕ → List ℕ → Result ℕ CompareRefusal
answer_in n c =
    cond (eqb n 0) (Ok (get_or c 0 0))
    (cond (eqb n 40) (Err (NoRoom (get_or c 0 0)))
    (cond (eqb n 41) (Err (Left NotThrees))
    (cond (eqb n 42) (Err (Left UnknownIndex))
    (cond (eqb n 43) (Err (Left EqualPoints))
    (cond (eqb n 44) (Err (Right NotThrees)) (cond (eqb n 45) (Err (Right UnknownIndex)) (Err (Right EqualPoints))))))))

abbrev number_of : Result ℕ CompareRefusal → ℕ
number_of a = (comparison_code a).number

abbrev words_of : Result ℕ CompareRefusal → List ℕ
words_of a = one_word (comparison_code a).values

same_answer : (a : Result ℕ CompareRefusal) → answer_in (number_of a) (words_of a) ≡ a
same_answer (Ok n) = refl
same_answer (Err (NoRoom n)) = refl
same_answer (Err (Left NotThrees)) = refl
same_answer (Err (Left UnknownIndex)) = refl
same_answer (Err (Left EqualPoints)) = refl
same_answer (Err (Right NotThrees)) = refl
same_answer (Err (Right UnknownIndex)) = refl
same_answer (Err (Right EqualPoints)) = refl

module _ (left right : MeshWords) where
  exactly : (room : ℕ) (a : Result ℕ CompareRefusal) → compare_verdict left right room ≡ a ↔ AnswerMeans a left right room
  exactly room a = (λ e. rw e at (answer_means left right room), means_answer left right room a)

  pub compare_call_exactly : {xs xs' c' : List ℕ} {r : ℕ} → CompareCalled left right xs xs' c' r → CompareExactly left right (length xs) c' r
  compare_call_exactly {xs} {c' = c'} c =
      let room = length xs in
      let t : Reports number_of words_of _ _ _ = record { number = c.says.number; words = c.says.counts } in
      let ex = exactly room in
      record {
        answers = answered_exactly answer_in (same_answer _) t same_answer ex;
        same = (
          λ h. told_same left right room (told_back answer_in (same_answer _) t ∙ ap (λ (n : ℕ). answer_in n c') h.0 ∙ ap (λ (l : List ℕ). answer_in 0 l) h.1),
          λ h. let e = same_told left right room h.0 h.1 h.2 in (c.says.number ∙ ap number_of e, c.says.counts ∙ ap words_of e),
        );
        compared = number_exactly answer_in (same_answer _) t ex 0 refl;
        no_room = number_exactly answer_in (same_answer _) t ex 40 refl;
        left_not_threes = number_exactly answer_in (same_answer _) t ex 41 refl;
        left_unknown_index = number_exactly answer_in (same_answer _) t ex 42 refl;
        left_equal_points = number_exactly answer_in (same_answer _) t ex 43 refl;
        right_not_threes = number_exactly answer_in (same_answer _) t ex 44 refl;
        right_unknown_index = number_exactly answer_in (same_answer _) t ex 45 refl;
        right_equal_points = number_exactly answer_in (same_answer _) t ex 46 refl;
      }
