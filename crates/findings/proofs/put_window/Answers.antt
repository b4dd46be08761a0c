use Rattle.findings.proofs.Runs.{nothing, ran-as}
use Rattle.findings.specs.Words.{window_words}
use Rattle.chars.specs.Pick.{pick}
use Rattle.findings.proofs.put_window.Goals as goal

pub returns-then-windowed : goal.returns-then-windowed
unfolding window_words pick
returns-then-windowed c =
    ran-as c.put_piece.ensures (simp c.if-windowed.true)

pub returns : goal.returns
unfolding window_words pick
returns c =
    ran-as (nothing c.args.out.now c.args.at) (simp c.if-windowed.false)
