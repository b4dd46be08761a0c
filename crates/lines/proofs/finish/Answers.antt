use Rattle.frames.specs.Frame.{line_answer}
use Rattle.lines.proofs.Ways.{frames-long}
use Rattle.lines.proofs.Moves.{finished, nothing_left}
use borrow.Author.Rules.{rules}
use Rattle.lines.proofs.finish.Goals as goal

pub returns-then-rest-long : goal.returns-then-rest-long
returns-then-rest-long c = let a = c.args in nothing_left line_answer 16384 a.long a.rest.now a.out.now c.if-rest-long.true

pub returns : goal.returns
returns c =
    let a = c.args in
    finished frames-long a.long a.rest.now a.out.now c.if-rest-long.false c.put_line.ensures
