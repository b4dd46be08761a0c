use Rattle.writer.specs.Texts.{end_panics, too_large}
use borrow.Author.Rules.{rules}
use Rattle.writer.proofs.end_panics.Goals as goal

pub enum_told-1 : goal.enum_told-1
enum_told-1 c = c.in-NoParts.in-NoParts-own.keys1

pub enum_told-in-WithMonth : goal.enum_told-in-WithMonth
enum_told-in-WithMonth c = c.in-WithMonth.in-WithMonth-own.keys2

pub enum_told-in-WithDay : goal.enum_told-in-WithDay
enum_told-in-WithDay c = c.in-WithDay.in-WithDay-own.keys3

pub enum_told-in-TooLarge : goal.enum_told-in-TooLarge
enum_told-in-TooLarge c = c.in-TooLarge.in-TooLarge-own.keys4

pub returns-in-NoParts : goal.returns-in-NoParts
unfolding end_panics too_large
returns-in-NoParts c =
    simp (← c.parts_of.ensures, c.in-NoParts.is)

pub returns-in-WithMonth : goal.returns-in-WithMonth
unfolding end_panics too_large
returns-in-WithMonth c =
    simp (← c.parts_of.ensures, c.in-WithMonth.is)

pub returns-in-WithDay : goal.returns-in-WithDay
unfolding end_panics too_large
returns-in-WithDay c =
    simp (← c.parts_of.ensures, c.in-WithDay.is)

pub returns-in-TooLarge : goal.returns-in-TooLarge
unfolding end_panics too_large
returns-in-TooLarge c =
    simp (← c.parts_of.ensures, c.in-TooLarge.is)
