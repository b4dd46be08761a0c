use Rattle.writer.proofs.Pieces.{hyphen-length}
use Rattle.writer.specs.Texts.{hyphen_part, parts_text}
use mathlib.Core.List.{◌++◌}
use lib.ListN.{length, length-append}
use native.Mathlib.Omega.{arith}
use mathlib.Core.Path.{sym, ap, ◌≡◌}
use Rattle.writer.specs.declared.Parts.{Parts}
use borrow.Author.Rules.{rules}
use Rattle.writer.proofs.parts_length.Goals as goal

pub enum_told-1 : goal.enum_told-1
enum_told-1 c = c.in-NoParts.in-NoParts-own.keys1

pub enum_known-p : goal.enum_known-p
enum_known-p c = c.in-WithMonth.in-WithMonth-own.keys2

pub enum_known-p-in-WithDay-1 : goal.enum_known-p-in-WithDay-1
enum_known-p-in-WithDay-1 c = c.in-WithDay.in-WithDay-own.keys3

pub enum_told-in-TooLarge : goal.enum_told-in-TooLarge
enum_told-in-TooLarge c = c.in-TooLarge.in-TooLarge-own.keys4

pub returns-in-NoParts : goal.returns-in-NoParts
unfolding parts_text
returns-in-NoParts c = (sym (ap (λ (x : Parts). length (parts_text x)) c.in-NoParts.is), omega arith)

pub returns-in-WithMonth : goal.returns-in-WithMonth
unfolding parts_text
returns-in-WithMonth c =
    let e : length (parts_text c.args.p) ≡ length (hyphen_part c.in-WithMonth.m.0) = (ap (λ (x : Parts). length (parts_text x)) c.in-WithMonth.is) in
    (omega (arith, e, hyphen-length c.in-WithMonth.m.0, c.part_length.ensures.0), omega arith)

pub returns-in-WithDay : goal.returns-in-WithDay
unfolding parts_text
returns-in-WithDay c =
    let e : length (parts_text c.args.p) ≡ length (hyphen_part c.in-WithDay.m.0 ++ hyphen_part c.in-WithDay.d.0) = (ap (λ (x : Parts). length (parts_text x)) c.in-WithDay.is) in
    (omega (arith, e, length-append (hyphen_part c.in-WithDay.m.0) (hyphen_part c.in-WithDay.d.0), hyphen-length c.in-WithDay.m.0, hyphen-length c.in-WithDay.d.0, c.part_length-in-WithDay.ensures.0, c.part_length-in-WithDay-2.ensures.0), omega arith)

pub returns-in-TooLarge : goal.returns-in-TooLarge
unfolding parts_text
returns-in-TooLarge c = (sym (ap (λ (x : Parts). length (parts_text x)) c.in-TooLarge.is), omega arith)
