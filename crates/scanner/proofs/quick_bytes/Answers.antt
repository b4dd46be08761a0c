use Rattle.scanner.proofs.Quicks.{quick-digits, quick-numeric, quick-letters, quick-hyphens, quick-none}
use borrow.Author.Rules.{rules}
use Rattle.scanner.proofs.quick_bytes.Goals as goal

pub enum_told-1 : goal.enum_told-1
enum_told-1 c = c.in-Whitespace.in-Whitespace-own.keys1

pub enum_told-in-PlainWhitespace : goal.enum_told-in-PlainWhitespace
enum_told-in-PlainWhitespace c = c.in-PlainWhitespace.in-PlainWhitespace-own.keys2

pub enum_told-in-Numeric : goal.enum_told-in-Numeric
enum_told-in-Numeric c = c.in-Numeric.in-Numeric-own.keys3

pub enum_told-in-AsciiDigit : goal.enum_told-in-AsciiDigit
enum_told-in-AsciiDigit c = c.in-AsciiDigit.in-AsciiDigit-own.keys4

pub enum_told-in-AsciiAlphabetic : goal.enum_told-in-AsciiAlphabetic
enum_told-in-AsciiAlphabetic c = c.in-AsciiAlphabetic.in-AsciiAlphabetic-own.keys5

pub enum_told-in-Alphanumeric : goal.enum_told-in-Alphanumeric
enum_told-in-Alphanumeric c = c.in-Alphanumeric.in-Alphanumeric-own.keys6

pub enum_told-in-Sign : goal.enum_told-in-Sign
enum_told-in-Sign c = c.in-Sign.in-Sign-own.keys7

pub enum_told-in-Separator : goal.enum_told-in-Separator
enum_told-in-Separator c = c.in-Separator.in-Separator-own.keys8

pub enum_known-class : goal.enum_known-class
enum_known-class c = c.in-Is.in-Is-own.keys9

pub returns-in-Whitespace : goal.returns-in-Whitespace
returns-in-Whitespace c = rw c.in-Whitespace.is (quick-none _)

pub returns-in-PlainWhitespace : goal.returns-in-PlainWhitespace
returns-in-PlainWhitespace c = rw c.in-PlainWhitespace.is (quick-none _)

pub returns-in-Numeric : goal.returns-in-Numeric
returns-in-Numeric c = rw c.in-Numeric.is quick-numeric

pub returns-in-AsciiDigit : goal.returns-in-AsciiDigit
returns-in-AsciiDigit c = rw c.in-AsciiDigit.is quick-digits

pub returns-in-AsciiAlphabetic : goal.returns-in-AsciiAlphabetic
returns-in-AsciiAlphabetic c = rw c.in-AsciiAlphabetic.is quick-letters

pub returns-in-Alphanumeric : goal.returns-in-Alphanumeric
returns-in-Alphanumeric c = rw c.in-Alphanumeric.is (quick-none _)

pub returns-in-Sign : goal.returns-in-Sign
returns-in-Sign c = rw c.in-Sign.is (quick-none _)

pub returns-in-Separator : goal.returns-in-Separator
returns-in-Separator c = rw c.in-Separator.is quick-hyphens

pub returns-in-Is : goal.returns-in-Is
returns-in-Is c = rw c.in-Is.is c.one_byte.ensures
