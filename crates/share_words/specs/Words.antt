-- States, quotas and designers as words. Assumes nothing.
use Rattle.std.specs.Prelude.{ℕ, ◌+◌, cond, List, [], ◌∷◌, eqb, get_or}
use Rattle.share_state.specs.declared.state.Designer.{Designer}
use Rattle.share_state.specs.declared.state.Designer.TheVariants.{First, Second}
use Rattle.share_state.specs.declared.state.SharedList.{SharedList}
use Rattle.share_state.specs.declared.state.Quota.{Quota}
use Rattle.share_state.specs.declared.state.State.{State}

-- a shared list from its five words at k: its length, then quota and used words of each designer
abbrev pub list_in : List ℕ → ℕ → SharedList
list_in ws k = record {
  length = get_or ws k 0;
  first = record { quota = get_or ws (k + 1) 0; used = get_or ws (k + 2) 0 };
  second = record { quota = get_or ws (k + 3) 0; used = get_or ws (k + 4) 0 };
}

abbrev pub list_words : SharedList → List ℕ → List ℕ
list_words t ws = t.length ∷ t.first.quota ∷ t.first.used ∷ t.second.quota ∷ t.second.used ∷ ws

-- a state from its ten words: the vertex list, then the index list
abbrev pub state_in : List ℕ → State
state_in ws = record { vertices = list_in ws 0; indices = list_in ws 5 }

abbrev pub state_words : State → List ℕ
state_words s = list_words s.vertices (list_words s.indices [])

-- a designer's quota from its two words at k: words for vertices, words for indices
abbrev pub quota_in : List ℕ → ℕ → Quota
quota_in ws k = record { vertices = get_or ws k 0; indices = get_or ws (k + 1) 0 }

-- designer 0 is the first, any other number the second
abbrev pub designer_of : ℕ → Designer
designer_of n = cond (eqb n 0) First Second
