-- The contracts of starting and of clearing: the answer, and the state to pass on. Assumes nothing.
use Rattle.std.specs.Prelude.{ℕ, zero, suc, ◌≡◌, cond, Result, Ok, Err}
use Rattle.share_state.specs.declared.state.Designer.{Designer}
use Rattle.share_state.specs.declared.state.Share.{Share}
use Rattle.share_state.specs.declared.state.SharedList.{SharedList}
use Rattle.share_state.specs.declared.state.Quota.{Quota}
use Rattle.share_state.specs.declared.state.State.{State}
use Rattle.share_state.specs.declared.answer.QuotasTooLarge.{QuotasTooLarge}
use Rattle.share_state.specs.declared.answer.ClearResult.{ClearResult}
use Rattle.share_state.specs.SharedList.{with_used}
use Rattle.share_state.specs.Answers.{start_code, clear_code, quotas_fit, start_verdict, accepted, clear_verdict}

-- a value after an answer with this number: the new one for 0, else the old one
abbrev pub unless_refused : {A : Type 0} → ℕ → A → A → A
unless_refused zero new old = new
unless_refused (suc n) new old = old

-- a share of quota q with no words used
abbrev pub unused : ℕ → Share
unused q = record { quota = q; used = 0 }

-- a list of n words with these two quotas, no words used
abbrev pub unused_list : ℕ → ℕ → ℕ → SharedList
unused_list n a b = record { length = n; first = unused a; second = unused b }

-- the state after a start on lists of v and i words
abbrev pub start_state : ℕ → ℕ → Quota → Quota → State
start_state v i a b = record { vertices = unused_list v a.vertices b.vertices; indices = unused_list i a.indices b.indices }

-- the contract of starting
pub record DidStart (v i : ℕ) (a b : Quota) (r : Result State QuotasTooLarge) : Type 0 where
  pub answer : start_code r ≡ start_verdict v i a b
  pub is : r ≡ cond (quotas_fit v i a b) (Ok (start_state v i a b)) (Err (record {}))

-- the state after a designer's part is cleared
abbrev pub cleared_state : Designer → State → State
cleared_state d s = record { vertices = with_used d 0 s.vertices; indices = with_used d 0 s.indices }

-- the contract of clearing, with lists of v and i words lent
pub record DidClear (d : Designer) (s : State) (v i : ℕ) (r : ClearResult) : Type 0 where
  pub answer : clear_code r.answer ≡ clear_verdict (accepted v i s)
  pub state : r.state ≡ unless_refused (clear_code r.answer).number (cleared_state d s) s
