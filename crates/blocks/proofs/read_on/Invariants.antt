use Rattle.std.specs.Io.{ReadsAtMost}
use Rattle.blocks.proofs.read_on.Given as goal

abbrev pub invariant-loop : goal.invariant-loop
invariant-loop g l = ReadsAtMost l.got l.buf
