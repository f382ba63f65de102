-- Laws of the vertices along a line. Assumes nothing.
use mathlib.Core.Path.{◌≡◌, sym, ap, ◌∙◌}
use Prim.Native.Nat.{ℕ, suc, ◌+◌, ◌*◌, ◌%◌, ◌≤◌, ◌<◌}
use native.Mathlib.Nat.{mul-suc, mul-le-mul}
use native.Mathlib.Omega.{arith}
use native.Mathlib.Decide.{dec_le}
use borrow.Author.Tests.{eq-eqb, ne_eqb}
use Rattle.strip.specs.declared.line.Line.{Line}
use Rattle.strip.specs.Lines.{vertex_along, vertex}

module _ (first step n last : ℕ) where
  -- the last point has a number of its own
  pub along_last : (i : ℕ) → i ≡ n → last ≡ vertex_along first step n last i
  unfolding vertex_along
  along_last i h = rw (eq-eqb i n h)

  -- the other points' numbers increase by the step
  pub along_more : (i : ℕ) → (i ≡ n → ⊥) → (first + step * i) % 65536 ≡ vertex_along first step n last i
  unfolding vertex_along
  along_more i h = rw (ne_eqb i n h)

  -- a line with the given first vertex, step and last vertex follows G
  pub along_line : (G : ℕ → ℕ) → ((i : ℕ) → i < n → (first + step * i) % 65536 ≡ G i) → last ≡ G n
      → (i : ℕ) → i ≤ n → vertex_along first step n last i ≡ G i
  along_line G before end i h = elim (dec_le n i) [
    | yes l ↦ let same : i ≡ n = omega arith in sym (along_last i same) ∙ end ∙ ap G (sym same)
    | no l ↦ sym (along_more i (λ k. omega arith)) ∙ before i (omega arith)
  ]

module _ (l : Line) where
  pub at_last : (i : ℕ) → i ≡ l.count → l.last ≡ vertex l i
  at_last = along_last l.first l.step l.count l.last

  pub at_more : (i : ℕ) → (i ≡ l.count → ⊥) → (l.first + l.step * i) % 65536 ≡ vertex l i
  at_more = along_more l.first l.step l.count l.last

  pub at_next : (i x : ℕ) → suc i < l.count → x ≡ vertex l i → (x + l.step) % 65536 ≡ vertex l (suc i)
  at_next i x h e =
      let now : x ≡ (l.first + l.step * i) % 65536 = e ∙ sym (at_more i (λ g. omega arith)) in
      let on : (x + l.step) % 65536 ≡ (l.first + l.step * suc i) % 65536 = rw (mul-suc l.step i) (omega arith) in
      on ∙ at_more (suc i) (λ g. omega arith)

  -- the products in `vertex` are small
  pub small : (i : ℕ) → i ≤ 64 → l.step ≤ 65535 → l.step * i ≤ 4194240
  small i h s = mul-le-mul s h
