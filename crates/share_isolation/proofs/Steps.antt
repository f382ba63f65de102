-- Isolation for anything that answers step by step: if an own step changes a view by that view alone, and the others' steps
-- keep it, the view is the same without the others' steps. Assumes nothing.
use mathlib.Core.Path.{◌≡◌, refl, ap, ap₂, ◌∙◌}
use mathlib.Core.Bool.{Bool, true, false, cond}
use mathlib.Core.List.{List, [], ◌∷◌}
use Rattle.share_isolation.specs.Steps.{those, state_after, replies, RanSteps, none, more}

-- selecting own calls twice changes nothing
pub those_twice : {A : Type 0} (mine : A → Bool) (xs : List A) → those mine (those mine xs) ≡ those mine xs
unfolding those
those_twice mine [] = refl
those_twice {A} mine (x ∷ xs) = go (mine x) refl (those_twice mine xs)
  where
    go : (b : Bool) → mine x ≡ b → those mine (those mine xs) ≡ those mine xs
        → those mine (cond b (x ∷ those mine xs) (those mine xs)) ≡ cond b (x ∷ those mine xs) (those mine xs)
    go true e h = rw e (ap (λ (l : List A). x ∷ l) h)
    go false e h = h

-- a run from s to s' with the answers that the steps give
pub record Played {S C A : Type 0} (step : S → C → S) (reply : S → C → A) (s : S) (cs : List C) (xs : List A) (s' : S) : Type 0 where
  pub told : xs ≡ replies step reply s cs
  pub left : s' ≡ state_after step s cs

-- each call that was made is a step of the view
module _ {M S C A : Type 0} (Made : M → C → A → M → Type 0) (see : M → S) (step : S → C → S) (reply : S → C → A)
    (made : (m m' : M) (c : C) (a : A) → Made m c a m' → (a ≡ reply (see m) c) × (see m' ≡ step (see m) c)) where
  pub ran_is : {m m' : M} {cs : List C} {xs : List A} → RanSteps Made m cs xs m' → Played step reply (see m) cs xs (see m')
  unfolding replies state_after
  ran_is (none m) = record { told = refl; left = refl }
  ran_is (more m m₁ m₂ c a cs xs h r) =
      let i = made m m₁ c a h in
      let p = ran_is r in
      record {
        told = ap₂ (λ (x : A) (l : List A). x ∷ l) i.0 (p.told ∙ ap (λ (s : S). replies step reply s cs) i.1);
        left = p.left ∙ ap (λ (s : S). state_after step s cs) i.1;
      }

module _ {S C : Type 0} (step : S → C → S) (Good : S → Type 0) (good : (s : S) → Good s → (c : C) → Good (step s c)) where
  -- good states stay good
  pub good_after : (s : S) → Good s → (cs : List C) → Good (state_after step s cs)
  unfolding state_after
  good_after s g [] = g
  good_after s g (c ∷ cs) = good_after (step s c) (good s g c) cs

  -- what every step keeps, calls keep
  pub kept_after : {X : Type 0} (see : S → X) → ((s : S) → Good s → (c : C) → see (step s c) ≡ see s) → (s : S) → Good s → (cs : List C)
      → see (state_after step s cs) ≡ see s
  unfolding state_after
  kept_after see keeps s g [] = refl
  kept_after see keeps s g (c ∷ cs) = kept_after see keeps (step s c) (good s g c) cs ∙ keeps s g c

  module _ (mine : C → Bool) {X : Type 0} (see : S → X) (react : X → C → X)
      (own : (s : S) → Good s → (c : C) → mine c ≡ true → see (step s c) ≡ react (see s) c)
      (other : (s : S) → Good s → (c : C) → mine c ≡ false → see (step s c) ≡ see s) where
    -- the view depends on the own calls only
    pub seen : (s : S) → Good s → (cs : List C) → see (state_after step s cs) ≡ state_after react (see s) (those mine cs)
    unfolding state_after those
    seen s g [] = refl
    seen s g (c ∷ cs) = go (mine c) refl (seen (step s c) (good s g c) cs)
      where
        go : (b : Bool) → mine c ≡ b → see (state_after step (step s c) cs) ≡ state_after react (see (step s c)) (those mine cs)
            → see (state_after step (step s c) cs) ≡ state_after react (see s) (cond b (c ∷ those mine cs) (those mine cs))
        go true e h = h ∙ ap (λ (x : X). state_after react x (those mine cs)) (own s g c e)
        go false e h = h ∙ ap (λ (x : X). state_after react x (those mine cs)) (other s g c e)

    module _ {A : Type 0} (whose : A → Bool) (reply : S → C → A) (answer : X → C → A) (named : (s : S) (c : C) → whose (reply s c) ≡ mine c)
        (own_reply_lem : (s : S) → Good s → (c : C) → mine c ≡ true → reply s c ≡ answer (see s) c) where
      -- so do the own answers
      pub answered : (s : S) → Good s → (cs : List C) → those whose (replies step reply s cs) ≡ replies react answer (see s) (those mine cs)
      unfolding replies those
      answered s g [] = refl
      answered s g (c ∷ cs) = rw (named s c) (go (mine c) refl (answered (step s c) (good s g c) cs))
        where
          go : (b : Bool) → mine c ≡ b → those whose (replies step reply (step s c) cs) ≡ replies react answer (see (step s c)) (those mine cs)
              → cond b (reply s c ∷ those whose (replies step reply (step s c) cs)) (those whose (replies step reply (step s c) cs))
              ≡ replies react answer (see s) (cond b (c ∷ those mine cs) (those mine cs))
          go true e rest =
              ap₂ (λ (a : A) (l : List A). a ∷ l) (own_reply_lem s g c e)
              (rest ∙ ap (λ (x : X). replies react answer x (those mine cs)) (own s g c e))
          go false e rest = rest ∙ ap (λ (x : X). replies react answer x (those mine cs)) (other s g c e)
