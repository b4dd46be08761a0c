use Rattle.scanner.specs.Class.{in_class}
use borrow.Author.Tests.{eq-eqb, ne_eqb}
use borrow.Author.Rules.{rules}
use Rattle.scanner.proofs.in_class.Goals as goal

pub enum_told-1 : goal.enum_told-1
enum_told-1 c = c.in-Whitespace.in-Whitespace-own.keys1

pub enum_told-in-PlainWhitespace : goal.enum_told-in-PlainWhitespace
enum_told-in-PlainWhitespace c = c.in-PlainWhitespace.in-PlainWhitespace-own.keys2

pub enum_told-in-Numeric : goal.enum_told-in-Numeric
enum_told-in-Numeric c = c.in-Numeric.in-Numeric-own.keys3

pub enum_told-in-AsciiDigit : goal.enum_told-in-AsciiDigit
enum_told-in-AsciiDigit c = c.in-AsciiDigit.in-AsciiDigit-own.keys4

pub enum_told-in-AsciiAlphabetic : goal.enum_told-in-AsciiAlphabetic
enum_told-in-AsciiAlphabetic c = c.in-AsciiAlphabetic.in-AsciiAlphabetic-own.keys5

pub enum_told-in-Alphanumeric : goal.enum_told-in-Alphanumeric
enum_told-in-Alphanumeric c = c.in-Alphanumeric.in-Alphanumeric-own.keys6

pub enum_told-in-Sign : goal.enum_told-in-Sign
enum_told-in-Sign c = c.in-Sign.in-Sign-own.keys7

pub enum_told-in-Separator : goal.enum_told-in-Separator
enum_told-in-Separator c = c.in-Separator.in-Separator-own.keys8

pub enum_known-class : goal.enum_known-class
enum_known-class c = c.in-Is.in-Is-own.keys9

pub returns-in-Whitespace : goal.returns-in-Whitespace
unfolding in_class
returns-in-Whitespace c =
    simp (c.in-Whitespace.is, ← c.is_whitespace.ensures)

pub returns-then-is_whitespace : goal.returns-then-is_whitespace
unfolding in_class
returns-then-is_whitespace c =
    simp (c.in-PlainWhitespace.is, ← c.is_whitespace-in-PlainWhitespace.ensures, c.if-is_whitespace.true)

pub returns-else-is_whitespace : goal.returns-else-is_whitespace
unfolding in_class
returns-else-is_whitespace c =
    simp (c.in-PlainWhitespace.is, ← c.is_whitespace-in-PlainWhitespace.ensures, c.if-is_whitespace.false)

pub returns-in-Numeric : goal.returns-in-Numeric
unfolding in_class
returns-in-Numeric c =
    simp (c.in-Numeric.is, ← c.is_numeric.ensures)

pub returns-in-AsciiDigit : goal.returns-in-AsciiDigit
unfolding in_class
returns-in-AsciiDigit c =
    simp (c.in-AsciiDigit.is, ← c.is_ascii_digit.ensures)

pub returns-in-AsciiAlphabetic : goal.returns-in-AsciiAlphabetic
unfolding in_class
returns-in-AsciiAlphabetic c =
    simp (c.in-AsciiAlphabetic.is, ← c.is_ascii_alphabetic.ensures)

pub returns-in-Alphanumeric : goal.returns-in-Alphanumeric
unfolding in_class
returns-in-Alphanumeric c =
    simp (c.in-Alphanumeric.is, ← c.is_alphanumeric.ensures)

pub returns-then-code-eq-PLUS : goal.returns-then-code-eq-PLUS
unfolding in_class
returns-then-code-eq-PLUS c =
    simp (c.in-Sign.is, eq-eqb _ _ c.if-code-eq-PLUS.true)

pub returns-else-code-eq-PLUS : goal.returns-else-code-eq-PLUS
unfolding in_class
returns-else-code-eq-PLUS c =
    simp (c.in-Sign.is, ne_eqb _ _ c.if-code-eq-PLUS.false)

pub returns-then-code-eq-HYPHEN : goal.returns-then-code-eq-HYPHEN
unfolding in_class
returns-then-code-eq-HYPHEN c =
    simp (c.in-Separator.is, eq-eqb _ _ c.if-code-eq-HYPHEN.true)

pub returns-else-code-eq-HYPHEN : goal.returns-else-code-eq-HYPHEN
unfolding in_class
returns-else-code-eq-HYPHEN c =
    simp (c.in-Separator.is, ne_eqb _ _ c.if-code-eq-HYPHEN.false)

pub returns-in-Is : goal.returns-in-Is
unfolding in_class
returns-in-Is c =
    simp c.in-Is.is
