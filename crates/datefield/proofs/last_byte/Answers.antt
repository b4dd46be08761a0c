use native.Mathlib.Omega.{arith}
use Rattle.datefield.proofs.Finding.{last_none}
use Rattle.datefield.specs.Text.{last_byte}
use mathlib.Core.Path.{refl}
use Rattle.datefield.proofs.last_byte.Goals as goal

pub returns-then-n-eq0 : goal.returns-then-n-eq0
returns-then-n-eq0 c = last_none _ c.if-n-eq0.true

pub returns : goal.returns
unfolding last_byte
returns c = refl
