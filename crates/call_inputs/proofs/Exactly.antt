-- A call gives exactly the right answers if its operation does. Assumes nothing.
use Prim.Native.Nat.{ℕ}
use mathlib.Core.Path.{◌≡◌, refl, sym, ap, ◌∙◌}
use mathlib.Core.Bool.{Bool, true, false, cond}
use mathlib.Core.List.{List, [], ◌∷◌}
use mathlib.Core.Logic.{◌↔◌}
use lib.Dec.{ltb, eqb}
use lib.ListN.{get_or}
use Rattle.level.specs.Top.{Top, is_top}
use Rattle.job_fields.specs.Settings.{choices, first_unknown_setting, FirstOver, AllBelow}
use Rattle.answer_codes.specs.AnswerCode.{AnswerCode}
use Rattle.call_answers.specs.Replies.{unknown_setting, bad_top, Says}
use Rattle.answer_codes.specs.Reports.{Reports}
use Rattle.answer_codes.proofs.Exactly.{number_exactly, answered_exactly}
use Rattle.call_inputs.specs.Inputs.{top_in}
use Rattle.call_inputs.specs.Asked.{known}
use Rattle.call_inputs.specs.Exactly.{CallAnswer, unknown, found, call_code, CallMeans, CalledExactly}
use Rattle.call_inputs.proofs.Known.{known_cases, one_first, not_all}

-- an operation whose answer is `right`, which holds exactly for its meaning
pub record Answers {A : Type 0} (bs : List ℕ) (told : A → AnswerCode) (Means : A → Type 0) (right bad : A) : Type 0 where
  pub exactly : (v : A) → right ≡ v ↔ Means v
  pub bad_number : told bad ≡ bad_top
  pub bad_top_lem : (Top (top_in bs) → ⊥) → right ≡ bad

-- `back` recovers an answer from its number and words
pub record Readable {A : Type 0} (words : List ℕ → List ℕ) (told : A → AnswerCode) (back : ℕ → List ℕ → A) : Type 0 where
  pub same : (v : A) → back (told v).number (words (told v).values) ≡ v
  pub no_eight : (v : A) → eqb (told v).number 8 ≡ false
  pub place : (k : ℕ) → get_or (words (k ∷ [])) 0 0 ≡ k

module _ {A : Type 0} (bs : List ℕ) (told : A → AnswerCode) (Means : A → Type 0) (right bad : A) (op : Answers bs told Means right bad) where
  abbrev answer : CallAnswer A
  answer = known bs (found bad) unknown (found right)

  answer_told : known bs bad_top unknown_setting (told right) ≡ call_code told answer
  unfolding known
  answer_told = go (is_top (top_in bs)) (ltb (first_unknown_setting bs 0) 5)
    where
      go : (a b : Bool) → cond a (cond b (unknown_setting (first_unknown_setting bs 0)) (told right)) bad_top
          ≡ call_code told (cond a (cond b (unknown (first_unknown_setting bs 0)) (found right)) (found bad))
      go false b = sym op.bad_number
      go true true = refl
      go true false = refl

  means_of : {x : CallAnswer A} → CallMeans bs Means x → (a : CallAnswer A) → x ≡ a → CallMeans bs Means a
  means_of m a e = rw e at m

  pub answer_exactly : (a : CallAnswer A) → answer ≡ a ↔ CallMeans bs Means a
  answer_exactly = known_cases bs (found bad) unknown (found right) (λ x. (a : CallAnswer A) → x ≡ a ↔ CallMeans bs Means a)
      (λ n a. (means_of ((λ t. absurd (n t)), (op.exactly bad).0 (op.bad_top_lem n)) a, none n a))
      (λ k t f a. (means_of (t, f) a, other k t f a))
      (λ t b a. (means_of ((λ h. b), (op.exactly right).0 refl) a, all t b a))
    where
      none : (Top (top_in bs) → ⊥) → (a : CallAnswer A) → CallMeans bs Means a → found bad ≡ a
      none n (unknown k) m = absurd (n m.0)
      none n (found v) m = ap found (sym (op.bad_top_lem n) ∙ (op.exactly v).1 m.1)

      other : (k : ℕ) → Top (top_in bs) → FirstOver choices bs 0 k → (a : CallAnswer A) → CallMeans bs Means a → unknown k ≡ a
      other k t f (unknown j) m = ap unknown (one_first bs k j f m.1)
      other k t f (found v) m = absurd (not_all bs k f (m.0 t))

      all : Top (top_in bs) → AllBelow choices bs 0 → (a : CallAnswer A) → CallMeans bs Means a → found right ≡ a
      all t b (unknown k) m = absurd (not_all bs k m.1 b)
      all t b (found v) m = ap found ((op.exactly v).1 m.1)

  module _ (words : List ℕ → List ℕ) (back : ℕ → List ℕ → A) (read : Readable words told back) where
    abbrev pub answer_in : ℕ → List ℕ → CallAnswer A
    answer_in n w = cond (eqb n 8) (unknown (get_or w 0 0)) (found (back n w))

    same_answer : (a : CallAnswer A) → answer_in (call_code told a).number (words (call_code told a).values) ≡ a
    same_answer (unknown k) = ap unknown (read.place k)
    same_answer (found v) = rw (read.no_eight v) (ap found (read.same v))

    module _ {w : List ℕ} {r : ℕ} (says : Says words (known bs bad_top unknown_setting (told right)) w r) where
      told_is : Reports (λ (a : CallAnswer A). (call_code told a).number) (λ (a : CallAnswer A). words (call_code told a).values) answer w r
      told_is = record {
        number = says.number ∙ ap (λ (x : AnswerCode). x.number) answer_told;
        words = says.counts ∙ ap (λ (x : AnswerCode). words x.values) answer_told;
      }

      pub called_exactly : CalledExactly words told bs Means w r
      called_exactly = answered_exactly answer_in (same_answer answer) told_is same_answer answer_exactly

      -- the call gives the number n exactly if the answer that n and the words give is right
      pub number_called : (n : ℕ) → (call_code told (answer_in n w)).number ≡ n → (r ≡ n) ↔ CallMeans bs Means (answer_in n w)
      number_called n e = number_exactly answer_in (same_answer answer) told_is answer_exactly n e
