use Rattle.writer.proofs.Pieces.{added}
use Rattle.dates.specs.declared.DateValue.{DateValue}
use mathlib.Core.Path.{sym, ap, ◌∙◌}
use lib.ListN.{length}
use native.Mathlib.Omega.{arith}
use Rattle.timed.specs.Texts.{time_text, times_text}
use borrow.Author.Rules.{rules}
use Rattle.timed.proofs.times_length.Goals as goal

pub enum_known-v : goal.enum_known-v
enum_known-v c = c.in-At.in-At-own.keys1

pub enum_known-v-in-After-1 : goal.enum_known-v-in-After-1
enum_known-v-in-After-1 c = c.in-After.in-After-own.keys2

pub enum_known-v-in-Before-1 : goal.enum_known-v-in-Before-1
enum_known-v-in-Before-1 c = c.in-Before.in-Before-own.keys3

pub enum_known-v-in-Between-1 : goal.enum_known-v-in-Between-1
enum_known-v-in-Between-1 c = c.in-Between.in-Between-own.keys4

pub returns-in-At : goal.returns-in-At
unfolding times_text
returns-in-At c =
    (c.time_length.ensures.0 ∙ sym (ap (λ (x : DateValue). length (times_text x)) c.in-At.is), omega arith)

pub returns-in-After : goal.returns-in-After
unfolding times_text
returns-in-After c =
    (c.time_length-in-After.ensures.0 ∙ sym (ap (λ (x : DateValue). length (times_text x)) c.in-After.is), omega arith)

pub returns-in-Before : goal.returns-in-Before
unfolding times_text
returns-in-Before c =
    (c.time_length-in-Before.ensures.0 ∙ sym (ap (λ (x : DateValue). length (times_text x)) c.in-Before.is), omega arith)

pub returns-in-Between : goal.returns-in-Between
unfolding times_text
returns-in-Between c =
    (added (time_text c.in-Between.a.time) (time_text c.in-Between.b.time) c.time_length-in-Between.ensures.0 c.time_length-in-Between-2.ensures.0 ∙ sym (ap (λ (x : DateValue). length (times_text x)) c.in-Between.is), omega arith)
