-- If every outer level gives one segment, the outline has only corners, and each edge its two ends. Assumes nothing.
use Prim.Native.Nat.{ℕ, suc}
use mathlib.Core.Path.{◌≡◌, refl, sym, ap, ◌∙◌}
use mathlib.Core.Bool.{Bool, true, false, ◌&&◌, false≢true}
use mathlib.Core.List.{List, [], ◌∷◌, ◌++◌, map}
use borrow.Author.Tests.{eqb-true}
use lib.Ieee.{Float}
use Rattle.level.specs.declared.Spacing.{Spacing}
use Rattle.level.specs.Top.{Top}
use Rattle.level.specs.Segments.{segments_of}
use Rattle.level.proofs.Valid.{segments_valid}
use Rattle.edge.specs.Table.{table}
use Rattle.patch.specs.Every.{every}
use Rattle.patch.specs.declared.kinds.Patch.{Patch}
use Rattle.patch.specs.Subdivide.{outer_levels, single}
use Rattle.mesh_geometry.specs.declared.Point.{Point}
use Rattle.mesh_geometry.specs.Seam.{OuterEdge}
use Rattle.mesh_geometry.specs.Edge.{Run, GoodRun, ends, ring, along, EdgesPlaced}
use Rattle.mesh_geometry.proofs.Lists.{All, none, more, all_more, all_map}
use Rattle.patch_mesh.specs.Points.{run}
use Rattle.patch_mesh.specs.Demand.{outer_runs}
use Rattle.patch_mesh.proofs.Runs.{good_run}

-- if all elements of a list pass a test, the first ones do
both : (a b : Bool) → a && b ≡ true → (a ≡ true) × (b ≡ true)
both true b e = (refl, e)
both false b e = absurd (false≢true e)

first_pass : {A : Type 0} (test : A → Bool) (xs ys : List A) → every test (xs ++ ys) ≡ true → All (λ x. test x ≡ true) xs
unfolding every
first_pass test [] ys e = none
first_pass test (x ∷ xs) ys e =
    let w = both (test x) (every test (xs ++ ys)) e in
    more w.0 (first_pass test xs ys w.1)

-- an edge whose only points are its two ends
record TwoEnds (e : Run) : Type 0 where
  one : e.c ≡ 1
  start : e.q 0 ≡ 0
  end : e.q 1 ≡ 65536

two_ends : {e : Run} → GoodRun e → e.c ≡ 1 → TwoEnds e
two_ends {e} g h = record { one = h; start = g.first; end = ap e.q (sym h) ∙ g.last }

-- equally many edges of one segment
abbrev pub plain : List Run → List Run
plain es = map (λ e. ends) es

ring_plain : (place : ℕ → ℕ → ℕ → Point) (k d : ℕ) {es : List Run} → All TwoEnds es → ring place k es d ≡ ring place k (plain es) d
unfolding ring table
ring_plain place k d none = refl
ring_plain place k d (more h hs) = rw (h.one, h.start, ring_plain place (suc k) d hs)

along_plain : {e : Run} → TwoEnds e → along e ≡ along ends
unfolding table
along_plain h = rw (h.one, h.start, h.end)

placed_plain : (edge : ℕ → OuterEdge) (ps : List Point) (k : ℕ) {es : List Run} → All TwoEnds es
    → EdgesPlaced edge ps k (plain es) → EdgesPlaced edge ps k es
placed_plain edge ps k none p = tt
placed_plain edge ps k (more h hs) p = rw (along_plain h) (p.0, p.1, placed_plain edge ps (suc k) hs p.2)

-- a patch whose levels, outer and inner, all give one segment
module _ (s : Spacing) (t : ℕ) (top : Top t) (p : Patch) (inner : List Float) (h : every (single s t) (outer_levels p ++ inner) ≡ true) where
  ones : All TwoEnds (outer_runs s t p)
  ones = all_map (λ x. run (segments_of s t x)) TwoEnds
      (all_more (λ x e. two_ends (good_run _ (segments_valid s t top x)) (eqb-true (segments_of s t x).count 1 e))
      (first_pass (single s t) (outer_levels p) inner h))

  pub plain_outline : (place : ℕ → ℕ → ℕ → Point) → ring place 0 (outer_runs s t p) 0 ≡ ring place 0 (plain (outer_runs s t p)) 0
  plain_outline place = ring_plain place 0 0 ones

  pub plain_placed : (edge : ℕ → OuterEdge) (ps : List Point) → EdgesPlaced edge ps 0 (plain (outer_runs s t p)) → EdgesPlaced edge ps 0 (outer_runs s t p)
  plain_placed edge ps = placed_plain edge ps 0 ones
