use native.Mathlib.Omega.{arith}
use borrow.Author.Tests.{eq-eqb, ne_eqb}
use Rattle.job_words.specs.Inputs.{version_of_number}
use Rattle.job_words.proofs.version.version_in.Goals as goal

pub returns-in-1 : goal.returns-in-1
unfolding version_of_number
returns-in-1 c = rw (eq-eqb _ 1 c.in-1.is)

pub returns-in_default : goal.returns-in_default
unfolding version_of_number
returns-in_default c = rw (ne_eqb c.args.number 1 (λ e. omega arith))
