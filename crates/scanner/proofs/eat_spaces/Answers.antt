use native.Mathlib.Omega.{arith}
use Rattle.scanner.proofs.eat_spaces.Goals as goal
use Rattle.scanner.proofs.eat_spaces.Goals.{else-loop-i-test, then-loop-i-test+else-s-i-lt64+else-not-are_spaces+else-i-end-i-gt64}

pub returns : goal.returns
returns c =
    elim c.loop-i-test.branch [
      | else-loop-i-test w ↦ grind arith
      | then-loop-i-test+else-s-i-lt64+else-not-are_spaces+else-i-end-i-gt64 w ↦ grind arith
    ]
