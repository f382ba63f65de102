-- Membership in a list.
-- Assumes nothing.
use mathlib.Core.List.{List, Memᴰ}

-- x is an element of the list
abbrev pub Member : {A : Type 0} → A → List A → Type 0
Member x xs = Memᴰ x xs
