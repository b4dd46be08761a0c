use native.Mathlib.Omega.{arith}
use Rattle.std.proofs.lemmas.List.{take_rest}
use Rattle.lines.proofs.Feeds.{first-feed}
use Rattle.lines.proofs.line_end.Goals as goal

pub returns : goal.returns
returns c =
    let r = take_rest c.args.s.now c.args.at in
    let f = rw r at c.memchr.ensures in
    let u = rw r at c.unwrap_or.ensures in
    omega (arith, u, first-feed _ c.memchr.result f)
