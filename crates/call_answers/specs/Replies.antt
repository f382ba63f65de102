-- Answers as a number with two values. Assumes nothing.
use Rattle.std.specs.Prelude.{ℕ, ◌≡◌, List, [], ◌∷◌, ◌⊎◌, get_or}
use Rattle.answer_codes.specs.AnswerCode.{AnswerCode}
use Rattle.call_answers.specs.declared.reply.Reply.{Reply}

-- the number of an answer and its first two values; 0 for a value that it lacks
abbrev pub reply_of : AnswerCode → Reply
reply_of t = record { number = t.number; first = get_or t.values 0 0; second = get_or t.values 1 0 }

-- r is `reply_of t`, field by field
pub record IsReply (t : AnswerCode) (r : Reply) : Type 0 where
  pub number : r.number ≡ t.number
  pub first : r.first ≡ get_or t.values 0 0
  pub second : r.second ≡ get_or t.values 1 0

-- answer 8, unknown setting: its value is the place, 0 to 4, of the first setting byte that is out of range
abbrev pub unknown_setting : ℕ → AnswerCode
unknown_setting place = record { number = 8; values = place ∷ [] }

-- answer 11, bad top: the number is not a top level
abbrev pub bad_top : AnswerCode
bad_top = record { number = 11; values = [] }

-- the words that a call writes for the values of an answer: two, or one
abbrev pub two_words : List ℕ → List ℕ
two_words vs = get_or vs 0 0 ∷ get_or vs 1 0 ∷ []

abbrev pub one_word : List ℕ → List ℕ
one_word vs = get_or vs 0 0 ∷ []

-- r is the number of the answer t, and the counts c' hold the words of its values
pub record Says (words : List ℕ → List ℕ) (t : AnswerCode) (c' : List ℕ) (r : ℕ) : Type 0 where
  pub number : r ≡ t.number
  pub counts : c' ≡ words t.values

-- n is one of these numbers
abbrev pub OneOf : List ℕ → ℕ → Type 0
OneOf [] n = ⊥
OneOf (k ∷ ks) n = (n ≡ k) ⊎ OneOf ks n
