use mathlib.Core.Bool.{false≢true}
use native.Mathlib.Omega.{arith}
use borrow.Author.Tests.{leb-true}
use Rattle.reader.proofs.is_small.Goals as goal

pub returns-then-list-le56 : goal.returns-then-list-le56
returns-then-list-le56 c = λ h. record { few_bytes = omega arith; few_chunks = leb-true _ _ h }

pub returns : goal.returns
returns c = λ h. absurd (false≢true h)
