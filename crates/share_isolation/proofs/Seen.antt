-- What one designer sees of one list, when words are appended to the own part and to the other's. Assumes nothing.
use Prim.Native.Nat.{ℕ, ◌+◌, ◌≤◌}
use mathlib.Core.Path.{◌≡◌, refl, sym}
use mathlib.Core.Bool.{false, true≢false, true}
use mathlib.Core.List.{List}
use native.Mathlib.Omega.{arith}
use lib.ListN.{length}
use Rattle.buffer.specs.Over.{over}
use Rattle.buffer.proofs.Laws.{over_length}
use Rattle.share_state.specs.declared.state.Designer.{Designer}
use Rattle.share_state.specs.declared.state.Designer.TheVariants.{First, Second}
use Rattle.share_state.specs.declared.state.SharedList.{SharedList}
use Rattle.share_state.specs.SharedList.{share, part_start, first_free, part, used_to, with_used, appended}
use Rattle.share_isolation.specs.Session.{same_designer}
use Rattle.share_isolation.proofs.Beside.{inside, behind, before}
use Rattle.share_state.proofs.Sound.{Sound, lies}

-- two designers are equal if `same_designer` says so
pub same_is : (d e : Designer) → same_designer d e ≡ true → e ≡ d
same_is First First h = refl
same_is First Second h = absurd (true≢false (sym h))
same_is Second First h = absurd (true≢false (sym h))
same_is Second Second h = refl

-- ---- shares: the number of used words changes in the own share only, and no length changes
pub own_share : (d : Designer) (n : ℕ) (t : SharedList) → share d (with_used d n t) ≡ used_to n (share d t)
own_share First n t = refl
own_share Second n t = refl

pub other_share : (d e : Designer) → same_designer d e ≡ false → (n : ℕ) (t : SharedList) → share d (with_used e n t) ≡ share d t
other_share First First h n t = absurd (true≢false h)
other_share First Second h n t = refl
other_share Second First h n t = refl
other_share Second Second h n t = absurd (true≢false h)

pub same_length : (e : Designer) (n : ℕ) (t : SharedList) → (with_used e n t).length ≡ t.length
same_length First n t = refl
same_length Second n t = refl

-- a part stays where it is
pub same_part : (d e : Designer) (n : ℕ) (t : SharedList) (xs : List ℕ) → part d (with_used e n t) xs ≡ part d t xs
same_part First First n t xs = refl
same_part First Second n t xs = refl
same_part Second First n t xs = refl
same_part Second Second n t xs = refl

-- ---- the list
module _ (t : SharedList) (xs : List ℕ) (s : Sound t) (fits : length xs ≡ t.length) where
  -- appending keeps the length
  pub append_length : (d : Designer) (ws : List ℕ) → (share d t).used + length ws ≤ (share d t).quota → length (appended d ws t xs) ≡ length xs
  append_length d ws h = over_length xs (first_free d t) ws (omega (arith, lies d s))

  -- appending to the own part: after its used words
  pub append_own : (d : Designer) (ws : List ℕ) → (share d t).used + length ws ≤ (share d t).quota
      → part d t (appended d ws t xs) ≡ over (part d t xs) (share d t).used ws
  append_own d ws h = inside xs (part_start d t) (share d t).quota (share d t).used ws h (omega (arith, lies d s))

  -- appending to the other's part: nothing changes
  pub append_other : (d e : Designer) → same_designer d e ≡ false → (ws : List ℕ) → (share e t).used + length ws ≤ (share e t).quota
      → part d t (appended e ws t xs) ≡ part d t xs
  append_other First First h ws k = absurd (true≢false h)
  append_other First Second h ws k = behind xs 0 t.first.quota (first_free Second t) ws (omega arith) (omega arith)
  append_other Second First h ws k = before xs t.first.quota t.second.quota (first_free First t) ws (omega arith) (omega arith)
  append_other Second Second h ws k = absurd (true≢false h)
