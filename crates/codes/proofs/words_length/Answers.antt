use Rattle.codes.proofs.Writing.{added}
use Rattle.codes.specs.Back.{is_set, shaped_text, words_text}
use native.Mathlib.Omega.{arith}
use Rattle.puts.specs.Marks.{mark_text}
use Prim.Native.Nat.{◌/◌, ◌%◌}
use borrow.Author.Rules.{rules}
use Rattle.codes.proofs.words_length.Goals as goal

pub returns : goal.returns
unfolding words_text
returns c =
    (added (shaped_text (c.args.last % 256) c.args.first c.args.second) (mark_text (is_set (c.args.last / 256 % 256)) (is_set (c.args.last / 65536 % 256))) c.shaped_length.ensures.0 c.marks_length.ensures.0, omega arith)
