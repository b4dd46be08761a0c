use Rattle.findings.proofs.Runs.{tried-digits}
use Rattle.findings.proofs.put_decimal.Goals as goal

pub returns : goal.returns
returns c =
    let a = c.args in
    tried-digits a.least a.n c.width-w.ensures.value c.put_digits.ensures c.forward.ensures
