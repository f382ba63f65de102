-- The places along the edges of an outline are those of its runs. Assumes nothing.
use Prim.Native.Nat.{ℕ, suc, ◌+◌, ◌≤◌, ◌<◌}
use mathlib.Core.Path.{subst, ◌≡◌, refl, sym, ◌∙◌}
use mathlib.Core.Bool.{true, false, cond}
use mathlib.Core.List.{List, [], ◌∷◌, ◌++◌, map, append-nil, append_assoc}
use native.Mathlib.Omega.{arith}
use lib.Dec.{eqb}
use lib.ListN.{length, length-append}
use borrow.Author.Tests.{eq-eqb, ne_eqb}
use Rattle.edge.specs.Table.{table}
use Rattle.mesh_geometry.specs.declared.Point.{Point}
use Rattle.mesh_geometry.specs.Seam.{keep, OuterEdge, places}
use Rattle.mesh_geometry.specs.Edge.{Run, GoodRun, ring, along, EdgesPlaced}
use Rattle.mesh_geometry.proofs.Lists.{All, none, more, all_append, all_more, all_table}
use Rattle.mesh_geometry.proofs.Edge.{good_some, good_after, good_before, good_to}
use Rattle.mesh_geometry.proofs.Shape.{Shape}
use Rattle.mesh_geometry.proofs.Along.{keep_append, keep_all, keep_none, keep_first, table_last, table_same, table_map, good_sorted, good_rotated, good_mirrors}

-- the edge that comes after edge k
abbrev pub after : ℕ → ℕ → ℕ
after sides k = cond (eqb (suc k) sides) 0 (suc k)

-- the edge E is where the coordinate `mark` equals `aim`; of an outline's points exactly those of run k and the first of run `next` lie on it
pub record Sees (place : ℕ → ℕ → ℕ → Point) (depth : Point → ℕ) (sides k next : ℕ) (mark : Point → ℕ) (aim : ℕ) (E : OuterEdge)
    : Type 0 where
  pub on_is : (p : Point) → E.on p ≡ eqb (mark p) aim
  pub own : (x : ℕ) → x ≤ 65536 → mark (place k x 0) ≡ aim
  pub at : (x : ℕ) → x ≤ 65536 → E.along (place k x 0) ≡ x
  pub others : (j x : ℕ) → j < sides → (j ≡ k → ⊥) → (j ≡ next → 0 < x) → x < 65536 → mark (place j x 0) ≡ aim → ⊥
  pub inside : (p : Point) → 0 < depth p → mark p ≡ aim → ⊥

module _ {Fits : ℕ → ℕ → Type 0} {place : ℕ → ℕ → ℕ → Point} {depth : Point → ℕ} {gain : ℕ → ℕ}
    {sides k next : ℕ} {mark : Point → ℕ} {aim : ℕ} {E : OuterEdge}
    (shape : Shape sides Fits place depth gain) (sees : Sees place depth sides k next mark aim E) where
  on : (x : ℕ) → x ≤ 65536 → E.on (place k x 0) ≡ true
  on x h = sees.on_is (place k x 0) ∙ eq-eqb _ _ (sees.own x h)

  off : (p : Point) → (mark p ≡ aim → ⊥) → E.on p ≡ false
  off p h = sees.on_is p ∙ ne_eqb _ _ h

  -- the points of the run e as edge j
  abbrev edge : ℕ → Run → List Point
  edge j e = table (λ i. place j (e.q i) 0) e.c

  keep_own : (e : Run) → GoodRun e → keep E.on (edge k e) ≡ edge k e
  keep_own e g = keep_all E.on (all_table _ _ e.c (λ i l. on (e.q i) (good_to g i (omega arith))))

  keep_next : (e : Run) → GoodRun e → next < sides → (next ≡ k → ⊥) → place next 0 0 ≡ place k 65536 0
      → keep E.on (edge next e) ≡ place k 65536 0 ∷ []
  keep_next e g h other joint =
      keep_first E.on (λ i. place next (e.q i) 0) e.c (good_some g) (rw (g.first, joint) (on 65536 (omega arith)))
      (λ i l. off _ (sees.others next (e.q (suc i)) h other (λ z. good_after g (suc i) (omega arith) (omega arith))
      (good_before g (suc i) l)))
      ∙ rw (g.first, joint)

  -- runs other than k and `next` have no points on E
  skip : (pre : List Run) (j t : ℕ) (es : List Run) → j + length pre ≡ t → t ≤ sides
      → ((i : ℕ) → j ≤ i → i < t → (i ≡ k → ⊥) × (i ≡ next → ⊥))
      → All GoodRun pre → keep E.on (ring place j (pre ++ es) 0) ≡ keep E.on (ring place t es 0)
  unfolding ring
  skip [] j t es e h clear none = let z : j ≡ t = omega arith in rw z
  skip (p ∷ pre) j t es e h clear (more g gs) =
      let c = clear j (omega arith) (omega arith) in
      keep_append E.on (edge j p) (ring place (suc j) (pre ++ es) 0)
      ∙ rw (keep_none E.on (all_table (λ a. E.on a ≡ false) _ p.c
      (λ i l. off _ (sees.others j (p.q i) (omega arith) c.0 (λ z. absurd (c.1 z)) (good_before g i l)))))
      (skip pre (suc j) t es (omega arith) h (λ i u v. clear i (omega arith) v) gs)

  -- the places of one edge's points
  along_is : (e : Run) (n : ℕ) → GoodRun e → n ≤ suc e.c → map E.along (table (λ i. place k (e.q i) 0) n) ≡ table e.q n
  along_is e n g h =
      table_map E.along (λ i. place k (e.q i) 0) n
      ∙ table_same _ e.q n (λ i l. sees.at (e.q i) (good_to g i (omega arith)))

  -- inner points do not lie on E
  outside : (s l : List Point) → All (λ p. 0 < depth p) l → keep E.on (s ++ l) ≡ keep E.on s
  outside s l h = keep_append E.on s l ∙ rw (keep_none E.on (all_more (λ p d. off p (sees.inside p d)) h), append-nil)

  all_far : (post : List Run) (j : ℕ) → j + length post ≤ sides → ((i : ℕ) → j ≤ i → i < sides → (i ≡ k → ⊥) × (i ≡ next → ⊥))
      → All GoodRun post
      → keep E.on (ring place j post 0) ≡ []
  unfolding ring keep
  all_far post j h clear gs = rw append-nil at (skip post j (j + length post) [] refl h (λ i u v. clear i u (omega arith)) gs)

  -- an edge before the last: the next run follows it
  module _ (pre : List Run) (e e' : Run) (post : List Run) (l : List Point)
      (a : length pre ≡ k) (b : suc k ≡ next) (h : suc (suc (k + length post)) ≤ sides)
      (gs : All GoodRun pre) (g : GoodRun e) (g' : GoodRun e') (gs' : All GoodRun post) (deep : All (λ p. 0 < depth p) l) where
    keep_middle : keep E.on (ring place 0 (pre ++ (e ∷ e' ∷ post)) 0 ++ l) ≡ table (λ i. place k (e.q i) 0) (suc e.c)
    unfolding ring
    keep_middle =
        outside _ l deep ∙ skip pre 0 k (e ∷ e' ∷ post) (omega arith) (omega arith) (λ i u v. omega arith) gs
        ∙ keep_append E.on (edge k e) _ ∙ rw (
          keep_own e g,
          b,
          keep_append E.on (edge next e') (ring place (suc next) post 0),
          keep_next e' g' (omega arith) (omega arith) (rw (← b) (sym (shape.next k 65536 0 refl))),
          all_far post (suc next) (omega arith) (λ i u v. omega arith) gs',
          table_last (λ i. place k (e.q i) 0) e.c,
          g.last,
        )

    places_middle : places E (ring place 0 (pre ++ (e ∷ e' ∷ post)) 0 ++ l) ≡ along e
    unfolding places
    places_middle = rw (keep_middle, along_is e (suc e.c) g (omega arith)) (good_sorted g)

  -- the last edge: the next run is the first
  module _ (e' : Run) (pre : List Run) (e : Run) (l : List Point) (a : suc (length pre) ≡ k) (b : next ≡ 0) (h : suc k ≡ sides)
      (g' : GoodRun e') (gs : All GoodRun pre) (g : GoodRun e) (deep : All (λ p. 0 < depth p) l) where
    keep_last : keep E.on (ring place 0 (e' ∷ (pre ++ (e ∷ []))) 0 ++ l) ≡ place k 65536 0 ∷ edge k e
    unfolding ring
    keep_last =
        outside _ l deep ∙ keep_append E.on (edge 0 e') _ ∙ rw (
          rw b at (keep_next e' g' (omega arith) (omega arith) (rw b (sym (shape.next k 65536 0 refl ∙ rw h (shape.round 0))))),
          skip pre 1 k (e ∷ []) (omega arith) (omega arith) (λ i u v. omega arith) gs,
          append-nil,
          keep_own e g,
        )

    places_last : places E (ring place 0 (e' ∷ (pre ++ (e ∷ []))) 0 ++ l) ≡ along e
    unfolding places
    places_last = rw (keep_last, sees.at 65536 (omega arith), along_is e e.c g (omega arith), ← g.last) (good_rotated g)

-- all edges of an outline with inner points, if each edge has its own points on it
module _ {sides : ℕ} {Fits : ℕ → ℕ → Type 0} {place : ℕ → ℕ → ℕ → Point} {depth : Point → ℕ} {gain : ℕ → ℕ}
    {mark : ℕ → Point → ℕ} {aim : ℕ → ℕ} {edge : ℕ → OuterEdge} (shape : Shape sides Fits place depth gain) (two : 2 ≤ sides)
    (sees : (k : ℕ) → k < sides → Sees place depth sides k (after sides k) (mark k) (aim k) (edge k))
    (rest : List Point) (deep : All (λ p. 0 < depth p) rest) where
  -- from edge k on, where `pre` are the edges before it
  placed_from : (k : ℕ) (pre es : List Run) → length pre ≡ k → k + length es ≡ sides → All GoodRun pre → All GoodRun es
      → EdgesPlaced edge (ring place 0 (pre ++ es) 0 ++ rest) k es
  placed_from k pre [] a b gs none = tt
  placed_from k [] (e ∷ []) a b none (more g none) = absurd (omega arith)
  placed_from k (e' ∷ pre) (e ∷ []) a b (more g' gs) (more g none) = (
    places_last shape (sees k (omega arith)) e' pre e rest a (rw (eq-eqb (suc k) sides (omega arith))) (omega arith) g' gs g deep,
    good_mirrors g,
    tt,
  )
  placed_from k pre (e ∷ e' ∷ post) a b gs (more g (more g' gs')) = (
    places_middle shape (sees k (omega arith)) pre e e' post rest a (rw (ne_eqb (suc k) sides (λ z. omega arith))) (omega arith)
        gs g g' gs' deep,
    good_mirrors g,
    subst (λ (xs : List Run). EdgesPlaced edge (ring place 0 xs 0 ++ rest) (suc k) (e' ∷ post)) (append_assoc pre (e ∷ []) (e' ∷ post))
        (placed_from (suc k) (pre ++ (e ∷ [])) (e' ∷ post) (simp length-append (omega arith)) (omega arith)
        (all_append (e ∷ []) gs (more g none)) (more g' gs')),
  )

  pub outline_places : (es : List Run) → length es ≡ sides → All GoodRun es → EdgesPlaced edge (ring place 0 es 0 ++ rest) 0 es
  outline_places es n gs = placed_from 0 [] es refl (omega arith) none gs
