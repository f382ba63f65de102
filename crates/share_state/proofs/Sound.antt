-- What the tests of a state show, as facts about numbers, for each designer. Assumes nothing.
use Prim.Native.Nat.{ℕ, ◌+◌, ◌-◌, ◌%◌, ◌≤◌}
use mathlib.Core.Path.{◌≡◌, refl, sym, ◌∙◌}
use mathlib.Core.Bool.{Bool, true, false, ◌&&◌, false≢true}
use native.Mathlib.Omega.{arith}
use lib.Dec.{leb, eqb}
use borrow.Author.Tests.{leb-true, leb-false, le-leb, lt-leb, eqb-true, eq-eqb}
use Rattle.share_state.specs.declared.state.Designer.{Designer}
use Rattle.share_state.specs.declared.state.Designer.TheVariants.{First, Second}
use Rattle.share_state.specs.declared.state.SharedList.{SharedList}
use Rattle.share_state.specs.declared.state.State.{State}
use Rattle.share_state.specs.SharedList.{share, part_start, within, sound, whole_points, with_used}
use Rattle.share_state.specs.Answers.{sound_state, clear_verdict}

-- two tests that both hold
pub both : (a b : Bool) → a && b ≡ true → (a ≡ true) × (b ≡ true)
both true b h = (refl, h)
both false b h = absurd (false≢true h)

pub and : {a b : Bool} → a ≡ true → b ≡ true → a && b ≡ true
and {a = true} e f = f
and {a = false} e f = absurd (false≢true e)

-- a second test that holds does not matter
pub and-true : (a : Bool) {b : Bool} → b ≡ true → a && b ≡ a
and-true true f = f
and-true false f = refl

-- the quotas fit into the list, and neither share uses more than its quota
pub record Sound (t : SharedList) : Type 0 where
  pub quotas : t.first.quota + t.second.quota ≤ t.length
  pub first : t.first.used ≤ t.first.quota
  pub second : t.second.used ≤ t.second.quota

pub sound_facts : (t : SharedList) → sound t ≡ true → Sound t
unfolding sound
sound_facts t e =
    let h = both (leb (t.first.quota + t.second.quota) t.length && within t.first) (within t.second) e in
    let k = both (leb (t.first.quota + t.second.quota) t.length) (within t.first) h.0 in
    record { quotas = leb-true _ _ k.0; first = leb-true _ _ k.1; second = leb-true _ _ h.1 }

pub sound_test : (t : SharedList) → Sound t → sound t ≡ true
unfolding sound
sound_test t s = and (and (le-leb _ _ s.quotas) (le-leb _ _ s.first)) (le-leb _ _ s.second)

-- whole points, for both designers
pub record Whole (t : SharedList) : Type 0 where
  pub first : t.first.used % 3 ≡ 0
  pub second : t.second.used % 3 ≡ 0

pub whole_facts : (t : SharedList) → whole_points t ≡ true → Whole t
unfolding whole_points
whole_facts t e =
    let h = both (eqb (t.first.used % 3) 0) (eqb (t.second.used % 3) 0) e in
    record { first = eqb-true _ _ h.0; second = eqb-true _ _ h.1 }

pub whole_test : (t : SharedList) → Whole t → whole_points t ≡ true
unfolding whole_points
whole_test t w = and (eq-eqb _ _ w.first) (eq-eqb _ _ w.second)

-- the whole state
pub record SoundState (s : State) : Type 0 where
  pub vertices : Sound s.vertices
  pub indices : Sound s.indices
  pub whole : Whole s.vertices

pub state_facts : (s : State) → sound_state s ≡ true → SoundState s
unfolding sound_state
state_facts s e =
    let h = both (sound s.vertices && sound s.indices) (whole_points s.vertices) e in
    let k = both (sound s.vertices) (sound s.indices) h.0 in
    record { vertices = sound_facts _ k.0; indices = sound_facts _ k.1; whole = whole_facts _ h.1 }

pub state_test : (s : State) → SoundState s → sound_state s ≡ true
unfolding sound_state
state_test s f = and (and (sound_test _ f.vertices) (sound_test _ f.indices)) (whole_test _ f.whole)

-- one designer's part fits into the list
pub record Lies (d : Designer) (t : SharedList) : Type 0 where
  pub inside : part_start d t + (share d t).quota ≤ t.length
  pub used : (share d t).used ≤ (share d t).quota

pub lies : (d : Designer) {t : SharedList} → Sound t → Lies d t
lies First s = omega arith
lies Second s = omega arith

-- another number of used words, up to the quota, keeps the list sound
pub still_sound : (d : Designer) {t : SharedList} (n : ℕ) → Sound t → n ≤ (share d t).quota → Sound (with_used d n t)
still_sound First n s h = omega arith
still_sound Second n s h = omega arith

pub still_whole : (d : Designer) {t : SharedList} (n : ℕ) → Whole t → n % 3 ≡ 0 → Whole (with_used d n t)
still_whole First n w h = record { first = h; second = w.second }
still_whole Second n w h = record { first = w.first; second = h }

-- a designer's used words are whole points
pub whole_points_lem : (d : Designer) {t : SharedList} → Whole t → (share d t).used % 3 ≡ 0
whole_points_lem First w = w.first
whole_points_lem Second w = w.second

-- the test of a sum, computed without the sum
pub minus_test : (a b n : ℕ) → a ≤ n → leb b (n - a) ≡ leb (a + b) n
minus_test a b n h = go (leb b (n - a)) refl
  where
    go : (t : Bool) → leb b (n - a) ≡ t → leb b (n - a) ≡ leb (a + b) n
    go true e = e ∙ sym (le-leb (a + b) n (omega (arith, leb-true b (n - a) e)))
    go false e = e ∙ sym (lt-leb (a + b) n (omega (arith, leb-false b (n - a) e)))

-- clearing is refused only because of the state or the lists
pub cleared : (ok : Bool) → (clear_verdict ok).number ≡ 0 → ok ≡ true
unfolding clear_verdict
cleared true h = refl
cleared false h = absurd (omega arith)
