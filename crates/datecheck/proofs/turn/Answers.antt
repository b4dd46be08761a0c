use native.Mathlib.Omega.{arith}
use Rattle.datecheck.proofs.Turning.{stays-in, leaves-room, turned-full, turned-waits}
use Rattle.datecheck.proofs.turn.Goals as goal

pub refill-requires : goal.refill-requires
refill-requires g c =
    let p = c.args.p in
    let d = c.steps-d in
    let i = stays-in c.args.buf.now d.new.out p.from p.have d.result.from d.result.put (omega arith) (omega arith) d.ensures.from_in_bounds.0 d.ensures.went in
    let l = leaves-room c.args.buf.now d.new.out p.from p.have d.result.from d.result.put (omega arith) (omega arith) d.ensures.from_in_bounds.0 d.ensures.went c.in-Waits.is in
    (i, (omega arith, omega arith))

pub returns-in-Waits-clause-turned : goal.returns-in-Waits-clause-turned
returns-in-Waits-clause-turned g c =
    let p = c.args.p in
    let d = c.steps-d in
    turned-waits c.args.buf.now d.new.out p.from p.have d.result.from d.result.put (omega arith) (omega arith) d.ensures.from_in_bounds.0 d.ensures.went c.refill.new.buf c.refill.result d.ensures.from_in_bounds.1 c.in-Waits.is c.refill.ensures.state_value

pub returns-in-Full-clause-turned : goal.returns-in-Full-clause-turned
returns-in-Full-clause-turned g c =
    let p = c.args.p in
    let d = c.steps-d in
    turned-full c.args.buf.now d.new.out p.from p.have d.result.from d.result.put (omega arith) (omega arith) d.ensures.from_in_bounds.0 d.ensures.went d.ensures.from_in_bounds.1 c.in-Full.is
