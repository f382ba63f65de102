-- The numbers and values of the answers to starting and clearing, and which answer applies. Assumes nothing.
use Rattle.std.specs.Prelude.{ℕ, ◌+◌, Bool, cond, ◌&&◌, leb, eqb, Result, Ok, Err}
use Rattle.answer_codes.specs.AnswerCode.{AnswerCode, refused, done}
use Rattle.share_state.specs.declared.state.Quota.{Quota}
use Rattle.share_state.specs.declared.state.State.{State}
use Rattle.share_state.specs.declared.answer.QuotasTooLarge.{QuotasTooLarge}
use Rattle.share_state.specs.declared.answer.BadState.{BadState}
use Rattle.share_state.specs.SharedList.{sound, whole_points}

-- the numbers of the answers of both operations
abbrev pub start_code : Result State QuotasTooLarge → AnswerCode
start_code (Ok s) = done
start_code (Err e) = refused 12

abbrev pub clear_code : Result (Unit {0}) BadState → AnswerCode
clear_code (Ok u) = done
clear_code (Err e) = refused 14

-- the quotas of the two designers fit into lists of v and i words
unfoldable pub quotas_fit : ℕ → ℕ → Quota → Quota → Bool
quotas_fit v i a b = leb (a.vertices + b.vertices) v && leb (a.indices + b.indices) i

-- the answer to starting
abbrev pub start_verdict : ℕ → ℕ → Quota → Quota → AnswerCode
start_verdict v i a b = cond (quotas_fit v i a b) done (refused 12)

-- a state that can occur: the quotas fit into the lists, no share uses more than its quota, and the vertices used are whole points
unfoldable pub sound_state : State → Bool
sound_state s = sound s.vertices && sound s.indices && whole_points s.vertices

-- lists of v and i words have the lengths that they had at the start
unfoldable pub lent : ℕ → ℕ → ℕ → ℕ → Bool
lent v i v₀ i₀ = eqb v v₀ && eqb i i₀

-- the state can occur, and the lists of v and i words lent with it have the lengths of the start
abbrev pub accepted : ℕ → ℕ → State → Bool
accepted v i s = lent v i s.vertices.length s.indices.length && sound_state s

-- the answer to clearing
unfoldable pub clear_verdict : Bool → AnswerCode
clear_verdict ok = cond ok done (refused 14)
