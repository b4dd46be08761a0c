use native.Mathlib.Omega.{arith}
use mathlib.Core.Path.{sym, ◌∙◌}
use Rattle.codes.proofs.Laws.{without, without-last, marked-some}
use lib.Seq.{take-length}
use Rattle.codes.proofs.unmarked_length.Goals as goal

pub returns-then-marks-eq0 : goal.returns-then-marks-eq0
returns-then-marks-eq0 c = (take-length _ ∙ sym (without _ c.requires c.if-marks-eq0.true), omega arith)

pub overflow_sub-result : goal.overflow_sub-result
overflow_sub-result c = omega (arith, marked-some _ c.requires c.if-marks-eq0.false)

pub returns : goal.returns
returns c = (sym (without-last _ c.requires c.if-marks-eq0.false), omega arith)
