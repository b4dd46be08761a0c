use native.Mathlib.Omega.{arith}
use Rattle.scanner.proofs.Quicks.{quick-none, quick-one}
use Rattle.scanner.proofs.one_byte.Goals as goal

pub returns-then-c-lt128 : goal.returns-then-c-lt128
returns-then-c-lt128 c = quick-one _ c.if-c-lt128.true

pub returns-else-c-lt128 : goal.returns-else-c-lt128
returns-else-c-lt128 c = quick-none _
