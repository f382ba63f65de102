-- Anything that answers calls step by step: the state after a list of calls, and the answers. Assumes nothing.
use Rattle.std.specs.Prelude.{Bool, cond, List, [], ◌∷◌}

-- the elements of a list that pass the test
unfoldable pub those : {A : Type 0} → (A → Bool) → List A → List A
those test [] = []
those test (x ∷ xs) = cond (test x) (x ∷ those test xs) (those test xs)

-- the state after calls
unfoldable pub state_after : {S C : Type 0} → (S → C → S) → S → List C → S
state_after step s [] = s
state_after step s (c ∷ cs) = state_after step (step s c) cs

-- the answers to calls
unfoldable pub replies : {S C A : Type 0} → (S → C → S) → (S → C → A) → S → List C → List A
replies step reply s [] = []
replies step reply s (c ∷ cs) = reply s c ∷ replies step reply (step s c) cs

-- calls, their answers and the state after them; `Made s c a s₁` says that the call c in state s was answered with a and left s₁
pub data RanSteps {S C A : Type 0} (Made : S → C → A → S → Type 0) : S → List C → List A → S → Type 0 where
  none : (s : S) → RanSteps Made s [] [] s
  more : (s s₁ s₂ : S) (c : C) (a : A) (cs : List C) (xs : List A) → Made s c a s₁ → RanSteps Made s₁ cs xs s₂ → RanSteps Made s (c ∷ cs) (a ∷ xs) s₂
