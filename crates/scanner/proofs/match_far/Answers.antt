use Rattle.chars.specs.Pick.{pick}
use Rattle.scanner.specs.Scan.{match_len, len_in}
use borrow.Author.Rules.{rules}
use Rattle.scanner.proofs.match_far.Goals as goal

pub enum_known-code : goal.enum_known-code
enum_known-code c = c.in-Char.in-Char-own.keys1

pub enum_told-1 : goal.enum_told-1
enum_told-1 c = c.in-Bad.in-Bad-own.keys2

pub enum_told-in-End : goal.enum_told-in-End
enum_told-in-End c = c.in-End.in-End-own.keys3

pub returns-then-in_class : goal.returns-then-in_class
unfolding match_len len_in pick
returns-then-in_class c =
    simp (← c.decode_far.ensures, c.in-Char.is, ← c.in_class.ensures, c.if-in_class.true)

pub returns-else-in_class : goal.returns-else-in_class
unfolding match_len len_in pick
returns-else-in_class c =
    simp (← c.decode_far.ensures, c.in-Char.is, ← c.in_class.ensures, c.if-in_class.false)

pub returns-in-Bad : goal.returns-in-Bad
unfolding match_len len_in pick
returns-in-Bad c =
    simp (← c.decode_far.ensures, c.in-Bad.is)

pub returns-in-End : goal.returns-in-End
unfolding match_len len_in pick
returns-in-End c =
    simp (← c.decode_far.ensures, c.in-End.is)
