use Rattle.writer.specs.Fields.{end_lines, value_lines}
use Rattle.writer.proofs.Pieces.{added}
use mathlib.Core.Bool.{true, false}
use lib.ListN.{length}
use native.Mathlib.Omega.{arith}
use mathlib.Core.Path.{sym, ap, ◌∙◌}
use Rattle.dates.specs.declared.DateValue.{DateValue}
use borrow.Author.Rules.{rules}
use Rattle.writer.proofs.value_lines_length.Goals as goal

pub enum_known-v : goal.enum_known-v
enum_known-v c = c.in-At.in-At-own.keys1

pub enum_known-v-in-After-1 : goal.enum_known-v-in-After-1
enum_known-v-in-After-1 c = c.in-After.in-After-own.keys2

pub enum_known-v-in-Before-1 : goal.enum_known-v-in-Before-1
enum_known-v-in-Before-1 c = c.in-Before.in-Before-own.keys3

pub enum_known-v-in-Between-1 : goal.enum_known-v-in-Between-1
enum_known-v-in-Between-1 c = c.in-Between.in-Between-own.keys4

pub returns-in-At : goal.returns-in-At
unfolding value_lines
returns-in-At c =
    (c.end_lines_length.ensures.0 ∙ sym (ap (λ (x : DateValue). length (value_lines x)) c.in-At.is), omega arith)

pub returns-in-After : goal.returns-in-After
unfolding value_lines
returns-in-After c =
    (c.end_lines_length-in-After.ensures.0 ∙ sym (ap (λ (x : DateValue). length (value_lines x)) c.in-After.is), omega arith)

pub returns-in-Before : goal.returns-in-Before
unfolding value_lines
returns-in-Before c =
    (c.end_lines_length-in-Before.ensures.0 ∙ sym (ap (λ (x : DateValue). length (value_lines x)) c.in-Before.is), omega arith)

pub returns-in-Between : goal.returns-in-Between
unfolding value_lines
returns-in-Between c =
    (added (end_lines false c.in-Between.a) (end_lines true c.in-Between.b) c.end_lines_length-k.ensures.0 c.end_lines_length-in-Between.ensures.0 ∙ sym (ap (λ (x : DateValue). length (value_lines x)) c.in-Between.is), omega arith)
