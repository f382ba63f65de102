-- The numbers of refusals, and the call. Assumes nothing.
use Prim.Native.Nat.{ℕ, ◌+◌, ◌≤◌}
use mathlib.Core.Path.{◌≡◌, refl, sym, ap, ◌∙◌}
use mathlib.Core.List.{List, [], ◌∷◌}
use native.Mathlib.Nat.{add-zero}
use native.Mathlib.Omega.{arith}
use Rattle.compare_meshes.specs.declared.answer.Fault.{Fault}
use Rattle.compare_meshes.specs.declared.answer.Fault.TheVariants.{NotThrees, UnknownIndex, EqualPoints}
use Rattle.compare_meshes.specs.declared.answer.CompareRefusal.{CompareRefusal}
use Rattle.std.specs.Prelude.{Result}
use Rattle.compare_meshes.specs.Answers.{fault_code, comparison_code, ListAnswered}
use Rattle.answer_codes.specs.Drew.{list_after}
use Rattle.draw_exports.specs.Calls.{ListCalled}
use Rattle.compare_exports.specs.declared.reply.CountReply.{CountReply}
use Rattle.compare_exports.specs.Calls.{comparison_reply, shift_of}

pub shift_most : (f : Fault) → shift_of f ≤ 2
shift_most NotThrees = omega arith
shift_most UnknownIndex = omega arith
shift_most EqualPoints = omega arith

-- the number of a refusal, where n is the first number of its side
pub fault_told : (n : ℕ) (f : Fault) → record { number = n + shift_of f; count = 0 } ≡ comparison_reply (fault_code n f)
fault_told n NotThrees = ap (λ (k : ℕ). record { number = k; count = 0 }) (add-zero n)
fault_told n UnknownIndex = refl
fault_told n EqualPoints = refl

-- the call reports the answer by its number and count
pub called : (right a : Result ℕ CompareRefusal) (ws xs xs' : List ℕ) (p : CountReply) → ListAnswered right a ws xs xs' → p ≡ comparison_reply (comparison_code a) → ListCalled
    (comparison_code right) ws xs xs' (p.count ∷ []) p.number
called right a ws xs xs' p h e =
    let f : p ≡ comparison_reply (comparison_code right) = e ∙ ap (λ (b : Result ℕ CompareRefusal). comparison_reply (comparison_code b)) h.answer in
    record {
      says = record { number = ap (λ (q : CountReply). q.number) f; counts = ap (λ (q : CountReply). q.count ∷ []) f };
      list = h.list ∙ ap (λ (q : CountReply). list_after q.number xs ws) (sym e);
    }
