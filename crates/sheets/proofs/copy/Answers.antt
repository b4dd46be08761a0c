use Rattle.sheets.proofs.Copies.{copied-front}
use native.Mathlib.Omega.{arith}
use Rattle.sheets.proofs.copy.Goals as goal

pub returns : goal.returns
returns c =
    let a = c.args in
    copied-front a.own.now a.text.now (omega arith) c.copy_text.ensures.value c.copy_text.ensures.out_after c.unwrap_or.ensures
