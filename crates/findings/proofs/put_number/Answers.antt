use Rattle.findings.proofs.Runs.{both, ran-as}
use Rattle.findings.proofs.Texts.{last-digit}
use Rattle.findings.proofs.put_number.Goals as goal

pub returns-then-n-lt10 : goal.returns-then-n-lt10
returns-then-n-lt10 c =
    c.put_decimal.ensures

pub returns : goal.returns
returns c =
    ran-as (both c.put_decimal-k.ensures c.put_piece.ensures) (last-digit _ c.if-n-lt10.false)
