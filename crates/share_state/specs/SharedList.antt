-- One list that two designers share: where each part lies, and what is left of it. Assumes nothing.
use Rattle.std.specs.Prelude.{ℕ, ◌+◌, ◌-◌, ◌%◌, Bool, ◌&&◌, List, leb, eqb, length, take, drop}
use Rattle.buffer.specs.Over.{over}
use Rattle.share_state.specs.declared.state.Designer.{Designer}
use Rattle.share_state.specs.declared.state.Designer.TheVariants.{First, Second}
use Rattle.share_state.specs.declared.state.Share.{Share}
use Rattle.share_state.specs.declared.state.SharedList.{SharedList}

-- a designer's share
abbrev pub share : Designer → SharedList → Share
share First t = t.first
share Second t = t.second

-- where a designer's part begins: the first designer's at word 0, the second's right after it
abbrev pub part_start : Designer → SharedList → ℕ
part_start First t = 0
part_start Second t = t.first.quota

-- the first free word of a designer's part
abbrev pub first_free : Designer → SharedList → ℕ
first_free d t = part_start d t + (share d t).used

-- how many words a designer's part has left
abbrev pub left : Designer → SharedList → ℕ
left d t = (share d t).quota - (share d t).used

-- the words of a designer's part of the list xs, used or not
abbrev pub part : Designer → SharedList → List ℕ → List ℕ
part d t xs = take (share d t).quota (drop (part_start d t) xs)

-- a share with n words used
abbrev pub used_to : ℕ → Share → Share
used_to n s = record { quota = s.quota; used = n }

-- a designer's share with n words used; the other share is unchanged
abbrev pub with_used : Designer → ℕ → SharedList → SharedList
with_used First n t = record { length = t.length; first = used_to n t.first; second = t.second }
with_used Second n t = record { length = t.length; first = t.first; second = used_to n t.second }

-- a shared list after the words ws were appended to a designer's part
abbrev pub grown : Designer → List ℕ → SharedList → SharedList
grown d ws t = with_used d ((share d t).used + length ws) t

abbrev pub appended : Designer → List ℕ → SharedList → List ℕ → List ℕ
appended d ws t xs = over xs (first_free d t) ws

-- the share uses no more than its quota
abbrev pub within : Share → Bool
within s = leb s.used s.quota

-- the quotas fit into the list, and neither share uses more than its quota
unfoldable pub sound : SharedList → Bool
sound t = leb (t.first.quota + t.second.quota) t.length && within t.first && within t.second

-- each share uses a multiple of three words
unfoldable pub whole_points : SharedList → Bool
whole_points t = eqb (t.first.used % 3) 0 && eqb (t.second.used % 3) 0
