use Rattle.writer.specs.Texts.{value_text, datetime_text}
use Rattle.chars.specs.Ascii.{ascii}
use Rattle.writer.proofs.Pieces.{added}
use mathlib.Core.List.{◌++◌}
use lib.ListN.{length}
use native.Mathlib.Omega.{arith}
use mathlib.Core.Path.{sym, ap, ◌∙◌, refl}
use Rattle.dates.specs.declared.DateValue.{DateValue}
use borrow.Author.Rules.{rules}
use Rattle.writer.proofs.value_length.Goals as goal

pub enum_known-v : goal.enum_known-v
enum_known-v c = c.in-At.in-At-own.keys1

pub enum_known-v-in-After-1 : goal.enum_known-v-in-After-1
enum_known-v-in-After-1 c = c.in-After.in-After-own.keys2

pub enum_known-v-in-Before-1 : goal.enum_known-v-in-Before-1
enum_known-v-in-Before-1 c = c.in-Before.in-Before-own.keys3

pub enum_known-v-in-Between-1 : goal.enum_known-v-in-Between-1
enum_known-v-in-Between-1 c = c.in-Between.in-Between-own.keys4

pub returns-in-At : goal.returns-in-At
unfolding value_text
returns-in-At c =
    (c.datetime_length.ensures.0 ∙ sym (ap (λ (x : DateValue). length (value_text x)) c.in-At.is), omega arith)

pub returns-in-After : goal.returns-in-After
unfolding value_text
returns-in-After c =
    (added (datetime_text c.in-After.d) (ascii "/..") c.datetime_length-in-After.ensures.0 refl ∙ sym (ap (λ (x : DateValue). length (value_text x)) c.in-After.is), omega arith)

pub returns-in-Before : goal.returns-in-Before
unfolding value_text
returns-in-Before c =
    (added (ascii "../") (datetime_text c.in-Before.d) refl c.datetime_length-in-Before.ensures.0 ∙ sym (ap (λ (x : DateValue). length (value_text x)) c.in-Before.is), omega arith)

pub returns-in-Between : goal.returns-in-Between
unfolding value_text
returns-in-Between c =
    (added ((datetime_text c.in-Between.a) ++ ascii "/") (datetime_text c.in-Between.b) (added (datetime_text c.in-Between.a) (ascii "/") c.datetime_length-in-Between.ensures.0 refl) c.datetime_length-in-Between-2.ensures.0 ∙ sym (ap (λ (x : DateValue). length (value_text x)) c.in-Between.is), omega arith)
