use Rattle.findings.proofs.Runs.{stored, refused}
use native.Mathlib.Omega.{arith}
use Rattle.std.proofs.lemmas.Result.{err_from_is_err_and}
use Rattle.findings.proofs.write_unread.Goals as goal

pub returns : goal.returns
returns c =
    let both = stored c.put_unread-n.ensures c.args.out.now (omega (arith, c.well_formed)) c.decide.ensures c.in_ok-decide.was c.put_unread.ensures in record { value = both.0; out_after = both.1 }

pub returns-in_err-decide : goal.returns-in_err-decide
returns-in_err-decide c =
    let p = err_from_is_err_and c.from_residual.result c.from_residual.ensures.1 in
    let both = refused c.put_unread-n.ensures c.args.out.now (omega (arith, c.well_formed)) c.decide.ensures c.in_err-decide.was in record { value = rw (p.1, p.2) both.0; out_after = both.1 }
