-- A start and the calls after it, as a C program makes them: what each call was given, answered and left, by the contracts of
-- the calls alone. The state is ten words in the caller's memory. Assumes nothing.
use Rattle.std.specs.Prelude.{ℕ, ◌≡◌, List, [], eqb, Float, length}
use Rattle.share_state.specs.declared.state.Quota.{Quota}
use Rattle.share_state.specs.Operations.{unless_refused}
use Rattle.share_words.specs.Words.{state_in, quota_in, designer_of}
use Rattle.share_words.specs.Memory.{Memory}
use Rattle.share_exports.specs.Calls.{DrawCalled, StartCalled, ClearCalled}
use Rattle.share_isolation.specs.Steps.{those}
use Rattle.share_isolation.specs.Steps as steps
use Rattle.share_isolation.specs.Session.{Session, View}
use Rattle.share_isolation.specs.Session as session

-- what a call after the start asks for: drawing, with six setting bytes and six levels, or clearing
pub data RawRequest : Type 0 where
  draw : List ℕ → List Float → RawRequest
  clear : RawRequest

-- a call: any number for the designer, what is asked for, and the lengths of the two lists lent
pub record RawCall : Type 0 where
  pub by : ℕ
  pub request : RawRequest
  pub vertices : ℕ
  pub indices : ℕ

-- an answer: the designer, its number, and the two counts that drawing leaves in memory
pub record RawAnswer : Type 0 where
  pub to : ℕ
  pub number : ℕ
  pub counts : List ℕ

-- a start with the quotas q on the lists v and i was answered with 0, and left this memory
pub data RawBegun (q v i : List ℕ) : Memory → Type 0 where
  begin : (w w' : List ℕ) → StartCalled q (length v) (length i) w w' 0 → RawBegun q v i (record { words = w'; vertices = v; indices = i })

-- the lists v and i, lent to a call with this answer, are those in memory, unless the call was refused
pub record RawSameLists (m : Memory) (r : ℕ) (v i : List ℕ) : Type 0 where
  pub vertices : r ≡ 0 → v ≡ m.vertices
  pub indices : r ≡ 0 → i ≡ m.indices

-- one call, given the ten words in memory: its answer, and the memory after it
pub data RawMade : Memory → RawCall → RawAnswer → Memory → Type 0 where
  drew : (m : Memory) (d : ℕ) (bs : List ℕ) (xs : List Float) (v i : List ℕ) (after : Memory) (c' : List ℕ) (r : ℕ)
      → DrawCalled bs xs d (record { words = m.words; vertices = v; indices = i }) after c' r → RawSameLists m r v i
      → RawMade m (record { by = d; request = draw bs xs; vertices = length v; indices = length i }) (record { to = d; number = r; counts = c' })
      (record { words = after.words; vertices = unless_refused r after.vertices m.vertices; indices = unless_refused r after.indices m.indices })
  cleared : (m : Memory) (d v i : ℕ) (w' : List ℕ) (r : ℕ) → ClearCalled d v i m.words w' r
      → RawMade m (record { by = d; request = clear; vertices = v; indices = i }) (record { to = d; number = r; counts = [] })
      (record { words = w'; vertices = m.vertices; indices = m.indices })

-- calls, their answers, and the memory after them
abbrev pub RawRan : Memory → List RawCall → List RawAnswer → Memory → Type 0
RawRan m cs xs m' = steps.RanSteps RawMade m cs xs m'

-- the calls with the designer d, and the answers to them
abbrev pub raw_calls_of : ℕ → List RawCall → List RawCall
raw_calls_of d cs = those (λ c. eqb c.by d) cs

abbrev pub raw_answers_of : ℕ → List RawAnswer → List RawAnswer
raw_answers_of d ys = those (λ a. eqb a.to d) ys

-- the session that the memory holds
abbrev pub session_in : Memory → Session
session_in m = record { state = state_in m.words; vertices = m.vertices; indices = m.indices }

-- what designer d sees in memory: quotas, used words and the words of both parts
abbrev pub raw_view : ℕ → Memory → View
raw_view d m = session.view (designer_of d) (session_in m)

-- the quota of designer d in the four words of a start
abbrev pub raw_quota_of : ℕ → List ℕ → Quota
raw_quota_of d q = session.quota_of (designer_of d) (quota_in q 0) (quota_in q 2)
