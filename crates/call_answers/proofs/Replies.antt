-- What a reply holds, and what the call reports by it. Assumes nothing.
use Prim.Native.Nat.{ℕ}
use mathlib.Core.Path.{◌≡◌, sym, ap, ◌∙◌}
use mathlib.Core.List.{List, [], ◌∷◌}
use Rattle.answer_codes.specs.AnswerCode.{AnswerCode}
use Rattle.call_answers.specs.declared.reply.Reply.{Reply}
use Rattle.call_answers.specs.Replies.{reply_of, IsReply, two_words, one_word, Says}

-- a reply is determined by its number and values
pub reply_is : {t : AnswerCode} {reply : Reply} → IsReply t reply → reply ≡ reply_of t
reply_is {t} {reply} h = rw (← h.number, ← h.first, ← h.second)

pub reply_of_lem : {t : AnswerCode} {reply : Reply} → reply ≡ reply_of t → IsReply t reply
reply_of_lem e = record { number = ap (λ (x : Reply). x.number) e; first = ap (λ (x : Reply). x.first) e; second = ap (λ (x : Reply). x.second) e }

-- a reply to an answer is one to an equal answer
pub reply_as : {t s : AnswerCode} {reply : Reply} → t ≡ s → IsReply s reply → IsReply t reply
reply_as e h = rw e h

-- how an answer is reported
module _ {t : AnswerCode} {reply : Reply} {c' : List ℕ} {r : ℕ} (tells : IsReply t reply) where
  pub said_two : (r ≡ reply.number) × (c' ≡ reply.first ∷ reply.second ∷ []) → Says two_words t c' r
  said_two (n, w) = record { number = n ∙ tells.number; counts = w ∙ rw (tells.first, tells.second) }

  pub said_one : (r ≡ reply.number) × (c' ≡ reply.first ∷ []) → Says one_word t c' r
  said_one (n, w) = record { number = n ∙ tells.number; counts = w ∙ rw tells.first }

-- a report of an answer is one of an equal answer
pub says_as : {words : List ℕ → List ℕ} {t s : AnswerCode} {c' : List ℕ} {r : ℕ} → t ≡ s → Says words s c' r → Says words t c' r
says_as {words} e s = record { number = s.number ∙ ap (λ (x : AnswerCode). x.number) (sym e); counts = s.counts ∙ ap (λ (x : AnswerCode). words x.values) (sym e) }
