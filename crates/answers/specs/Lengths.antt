-- What is answered where a line was put, by its length.
use Rattle.std.specs.Prelude.{ℕ, eqb, Result, Ok, Err}
use Rattle.chars.specs.Pick.{pick}
use Rattle.refusals.specs.declared.Kind.TheVariants.{NoRoom}
use Rattle.refusals.specs.Refusal.{nowhere}
use Rattle.refusals.specs.declared.Refusal.{Refusal}

-- a length; no line is empty, so that 0 says that there was no room
unfoldable pub answered : ℕ → Result ℕ Refusal
answered n = pick (eqb n 0) (Err (nowhere NoRoom)) (Ok n)
