-- Which answer a call gives: its operation's for known settings, else the refusal. Assumes nothing.
use Prim.Native.Nat.{ℕ, ◌<◌, ◌≤◌}
use mathlib.Core.Path.{◌≡◌, refl, sym, ◌∙◌}
use mathlib.Core.Bool.{Bool, true, false, cond}
use mathlib.Core.List.{List}
use native.Mathlib.Omega.{arith}
use borrow.Author.Tests.{lt-ltb, le-ltb, ltb-true, ltb-false}
use lib.Dec.{ltb}
use Rattle.level.specs.Top.{Top, is_top}
use Rattle.job_fields.specs.Settings.{choices, first_unknown_setting, FirstOver, AllBelow}
use Rattle.job_fields.proofs.Limits.{first_is, first_none}
use Rattle.answer_codes.specs.AnswerCode.{AnswerCode}
use Rattle.level.proofs.Top.{top_as, no_top}
use Rattle.call_answers.specs.Replies.{unknown_setting, bad_top}
use Rattle.call_inputs.specs.Inputs.{top_in}
use Rattle.call_inputs.specs.Asked.{known}

module _ {A : Type 0} (bs : List ℕ) (bad : A) (unknown : ℕ → A) (t : A) where
  pub top_bad : is_top (top_in bs) ≡ false → known bs bad unknown t ≡ bad
  unfolding known
  top_bad e = rw e

  pub setting_unknown : is_top (top_in bs) ≡ true → first_unknown_setting bs 0 < 5 → known bs bad unknown t ≡ unknown (first_unknown_setting bs 0)
  unfolding known
  setting_unknown e h = rw (e, lt-ltb (first_unknown_setting bs 0) 5 h)

  pub all_known : is_top (top_in bs) ≡ true → 5 ≤ first_unknown_setting bs 0 → known bs bad unknown t ≡ t
  unfolding known
  all_known e h = rw (e, le-ltb (first_unknown_setting bs 0) 5 h)

-- the answer 0 comes from the operation
pub known_zero : (bs : List ℕ) (t : AnswerCode) → (known bs bad_top unknown_setting t).number ≡ 0 → known bs bad_top unknown_setting t ≡ t
unfolding known
known_zero bs t = go (is_top (top_in bs)) (ltb (first_unknown_setting bs 0) 5)
  where
    go : (a b : Bool) → (cond a (cond b (unknown_setting (first_unknown_setting bs 0)) t) bad_top).number ≡ 0 → cond a (cond b (unknown_setting (first_unknown_setting bs 0)) t) bad_top ≡ t
    go false b e = absurd (omega arith)
    go true true e = absurd (omega arith)
    go true false e = refl

-- ---- settings that are refused or known, for any property of the answer
-- the top level is bad; or it is good and a setting byte is out of range, this one first; or all are in range
pub known_cases : {A : Type 0} (bs : List ℕ) (bad : A) (other : ℕ → A) (t : A) (P : A → Type 0) → ((Top (top_in bs) → ⊥) → P bad)
    → ((k : ℕ) → Top (top_in bs) → FirstOver choices bs 0 k → P (other k)) → (Top (top_in bs) → AllBelow choices bs 0 → P t) → P (known bs bad other t)
unfolding known
known_cases bs bad other t P p q r = go (is_top (top_in bs)) (ltb (first_unknown_setting bs 0) 5) refl refl
  where
    go : (a b : Bool) → is_top (top_in bs) ≡ a → ltb (first_unknown_setting bs 0) 5 ≡ b → P (cond a (cond b (other (first_unknown_setting bs 0)) t) bad)
    go false b e f = p (no_top (top_in bs) e)
    go true true e f = q (first_unknown_setting bs 0) (top_as (top_in bs) e) ((first_is choices bs 0 (first_unknown_setting bs 0)).0 (refl, ltb-true (first_unknown_setting bs 0) 5 f))
    go true false e f = r (top_as (top_in bs) e) ((first_none choices bs 0).0 (ltb-false (first_unknown_setting bs 0) 5 f))

-- only one byte is the first out of range, and then not all are in range
pub one_first : (bs : List ℕ) (k m : ℕ) → FirstOver choices bs 0 k → FirstOver choices bs 0 m → k ≡ m
one_first bs k m f g = sym ((first_is choices bs 0 k).1 f).0 ∙ ((first_is choices bs 0 m).1 g).0

pub not_all : (bs : List ℕ) (k : ℕ) → FirstOver choices bs 0 k → AllBelow choices bs 0 → ⊥
not_all bs k f a = omega (arith, ((first_is choices bs 0 k).1 f).0, ((first_is choices bs 0 k).1 f).1, (first_none choices bs 0).1 a)
