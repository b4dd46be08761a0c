use Rattle.chars.specs.Utf8.{len_d}
use borrow.Author.Rules.{rules}
use Rattle.csv_rows.proofs.char_step.Goals as goal

pub returns-in-Char : goal.returns-in-Char
unfolding len_d
returns-in-Char c =
    simp (← c.decode_at.ensures, c.in-Char.is)

pub returns-in-Bad : goal.returns-in-Bad
unfolding len_d
returns-in-Bad c =
    simp (← c.decode_at.ensures, c.in-Bad.is)

pub returns-in-End : goal.returns-in-End
unfolding len_d
returns-in-End c =
    simp (← c.decode_at.ensures, c.in-End.is)
