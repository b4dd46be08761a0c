use Rattle.frames.proofs.Plain.{plain-is, first_season, second_season}
use borrow.Author.Rules.{rules}
use Rattle.frames.proofs.says_plain.Goals as goal

pub returns-then-w-lt72057594037927936-2 : goal.returns-then-w-lt72057594037927936-2
returns-then-w-lt72057594037927936-2 c = plain-is c.args.w c.if-w-lt72057594037927936.true c.if-w-lt72057594037927936-2.true c.is_plain.ensures

pub returns-else-w-lt72057594037927936-2 : goal.returns-else-w-lt72057594037927936-2
returns-else-w-lt72057594037927936-2 c = second_season c.args.w c.if-w-lt72057594037927936.true c.if-w-lt72057594037927936-2.false

pub returns-else-w-lt72057594037927936 : goal.returns-else-w-lt72057594037927936
returns-else-w-lt72057594037927936 c = first_season c.args.w c.if-w-lt72057594037927936.false
