use mathlib.Core.Path.{refl}
use native.Mathlib.Omega.{arith}
use Rattle.datecheck.proofs.Turning.{refilled}
use Rattle.datecheck.proofs.refill.Goals as goal

pub returns-clause-state_value : goal.returns-clause-state_value
returns-clause-state_value g c =
    let a = c.args in
    let r = c.read_on in (
      refl,
      refilled a.buf.now c.move_down.new.buf r.new.buf a.from a.have (omega arith) (omega arith) c.move_down.ensures (omega arith) (omega arith) c.in_ok-got.got (rw c.in_ok-got.was at r.ensures),
    )
