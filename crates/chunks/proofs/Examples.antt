-- Chunk lists as they are checked and formatted: each kind, each fault with its place, the order of the faults, and the limits.
-- Assumes nothing.
use mathlib.Core.Path.{◌≡◌, refl}
use mathlib.Core.Bool.{Bool, true, false}
use mathlib.Core.List.{List, [], ◌∷◌, ◌++◌, map}
use Prim.Native.Nat.{ℕ, zero, suc}
use lib.Dec.{lit≤}
use lib.ListN.{replicate}
use Rattle.chars.specs.Ascii.{ascii}
use Rattle.chars.specs.Pick.{pick}
use Rattle.chars.specs.Classes.{within, is_admitted, is_whitespace}
use Rattle.chars.specs.Upper.{loses32, upper_of, codes_of as upper_codes}
use Rattle.chars.specs.Utf8.{len_of, is_cont, is_surrogate, decode2, decode3, decode4, decode, first, encode, encode_all}
use Rattle.refusals.specs.declared.Kind.{Kind}
use Rattle.refusals.specs.declared.Kind.TheVariants.{BadUtf8, UnsupportedChar, NoRoom, BadChunks, TooLong}
use Rattle.refusals.specs.Refusal.{file_span, refusal}
use Rattle.refusals.specs.declared.Refusal.{Refusal}
use Rattle.std.specs.Prelude.{Result, Ok, Err}
use Rattle.chunks.specs.Characters.{and_then, up_to, characters, codes_of, codes}
use Rattle.chunks.specs.Chunks.{chunks_of, kinds_known, no_math, lengths, fits, is_short, last_end, span_of}
use Rattle.chunks.specs.Check.{fault_in, or_else, fault_of, checked}
use Rattle.chunks.specs.Format.{is_break, one_out, normal, last_white, chunk_out, chunk_flag, chunks_out, formatted}
use Rattle.chunks.specs.Upper.{upper_out, uppers, uppercase}
use Rattle.chunks.specs.Plain.{all_ascii}
use Rattle.chunks.specs.Standing.{is_standing, all_standing, list_stands}
use Rattle.chunks.specs.Answer.{text_of, room_of, answered, format_answer, buffer_after}
use Rattle.chunks.proofs.Plains.{chunk-plain}

-- a fault at a place, written out
abbrev fault : Kind → ℕ → ℕ → Result (Unit {0}) Refusal
fault kind start end = Err (record { kind = kind; place = file_span start end })

-- so many Normal chunks without a text
abbrev blanks : ℕ → List ℕ
blanks zero = []
blanks (suc n) = 0 ∷ 0 ∷ 0 ∷ 0 ∷ blanks n

-- a list, and what its checks say
pub record CheckExample : Type 0 where
  pub bytes : List ℕ
  pub table : List ℕ
  pub says : Result (Unit {0}) Refusal

abbrev pub checks : List CheckExample
checks =
    record { bytes = ascii "2020"; table = 0 ∷ 4 ∷ 10 ∷ 14 ∷ []; says = (Ok tt) }
    -- the three kinds, and no fourth
    ∷ record { bytes = ascii "abc"; table = 0 ∷ 1 ∷ 0 ∷ 1 ∷ 1 ∷ 1 ∷ 1 ∷ 2 ∷ 2 ∷ 1 ∷ 2 ∷ 3 ∷ []; says = (Ok tt) }
    ∷ record { bytes = ascii "a"; table = 3 ∷ 1 ∷ 0 ∷ 1 ∷ []; says = fault BadChunks 0 0 }
    -- four numbers a chunk
    ∷ record { bytes = []; table = 0 ∷ 0 ∷ 5 ∷ []; says = fault BadChunks 0 0 }
    ∷ record { bytes = []; table = 0 ∷ 0 ∷ 5 ∷ 5 ∷ 0 ∷ []; says = fault BadChunks 0 0 }
    -- the lengths sum to the number of bytes: one less, one more, no chunk for them, and a sum that is above all 64-bit numbers
    ∷ record { bytes = ascii "ab"; table = 0 ∷ 1 ∷ 0 ∷ 2 ∷ []; says = fault BadChunks 0 0 }
    ∷ record { bytes = ascii "ab"; table = 0 ∷ 3 ∷ 0 ∷ 2 ∷ []; says = fault BadChunks 0 0 }
    ∷ record { bytes = ascii "ab"; table = []; says = fault BadChunks 0 0 }
    ∷ record { bytes = ascii "a"; table = 0 ∷ 18446744073709551615 ∷ 0 ∷ 1 ∷ 0 ∷ 2 ∷ 0 ∷ 1 ∷ []; says = fault BadChunks 0 0 }
    -- 64 chunks, and one more
    ∷ record { bytes = []; table = blanks 64; says = (Ok tt) }
    ∷ record { bytes = []; table = blanks 65; says = fault TooLong 0 0 }
    -- an ill-formed sequence: its first byte and one more, whatever its length
    ∷ record { bytes = 0x61 ∷ 0xFF ∷ 0x61 ∷ []; table = 0 ∷ 3 ∷ 0 ∷ 3 ∷ []; says = fault BadUtf8 1 2 }
    ∷ record { bytes = 0xED ∷ 0xA0 ∷ 0x80 ∷ []; table = 0 ∷ 3 ∷ 0 ∷ 3 ∷ []; says = fault BadUtf8 0 1 }
    -- each chunk by itself: a character in two chunks is none
    ∷ record { bytes = 0x61 ∷ 0xC3 ∷ 0xA9 ∷ []; table = 0 ∷ 3 ∷ 7 ∷ 10 ∷ []; says = (Ok tt) }
    ∷ record { bytes = 0x61 ∷ 0xC3 ∷ 0xA9 ∷ []; table = 0 ∷ 2 ∷ 7 ∷ 9 ∷ 0 ∷ 1 ∷ 9 ∷ 10 ∷ []; says = fault BadUtf8 1 2 }
    -- a character that is not read: its own bytes
    ∷ record { bytes = 0xC3 ∷ 0xBF ∷ []; table = 0 ∷ 2 ∷ 0 ∷ 2 ∷ []; says = (Ok tt) }
    ∷ record { bytes = 0x61 ∷ 0xC4 ∷ 0x80 ∷ []; table = 1 ∷ 3 ∷ 0 ∷ 3 ∷ []; says = fault UnsupportedChar 1 3 }
    ∷ record { bytes = 0xE1 ∷ 0xBF ∷ 0xBF ∷ []; table = 2 ∷ 3 ∷ 0 ∷ 3 ∷ []; says = fault UnsupportedChar 0 3 }
    ∷ record { bytes = 0xE2 ∷ 0x80 ∷ 0x80 ∷ 0xE2 ∷ 0x81 ∷ 0xAF ∷ []; table = 0 ∷ 6 ∷ 0 ∷ 6 ∷ []; says = (Ok tt) }
    ∷ record { bytes = 0xE2 ∷ 0x81 ∷ 0xB0 ∷ []; table = 0 ∷ 3 ∷ 0 ∷ 3 ∷ []; says = fault UnsupportedChar 0 3 }
    ∷ record { bytes = 0xF0 ∷ 0x9F ∷ 0x98 ∷ 0x80 ∷ []; table = 0 ∷ 4 ∷ 0 ∷ 4 ∷ []; says = fault UnsupportedChar 0 4 }
    -- of two of them the first, in a chunk and in two
    ∷ record { bytes = 0xC4 ∷ 0x80 ∷ 0xFF ∷ []; table = 0 ∷ 3 ∷ 0 ∷ 3 ∷ []; says = fault UnsupportedChar 0 2 }
    ∷ record { bytes = 0xFF ∷ 0xC4 ∷ 0x80 ∷ []; table = 0 ∷ 1 ∷ 0 ∷ 1 ∷ 0 ∷ 2 ∷ 1 ∷ 3 ∷ []; says = fault BadUtf8 0 1 }
    ∷ record { bytes = 0x61 ∷ 0xC4 ∷ 0x80 ∷ 0xFF ∷ []; table = 0 ∷ 1 ∷ 0 ∷ 1 ∷ 0 ∷ 2 ∷ 1 ∷ 3 ∷ 0 ∷ 1 ∷ 3 ∷ 4 ∷ []; says = fault UnsupportedChar 1 3 }
    -- the table before the limits, and both before the characters
    ∷ record { bytes = []; table = 3 ∷ 0 ∷ 0 ∷ 0 ∷ blanks 64; says = fault BadChunks 0 0 }
    ∷ record { bytes = 0xFF ∷ []; table = 0 ∷ 1 ∷ 0 ∷ 1 ∷ blanks 64; says = fault TooLong 0 0 }
    ∷ record { bytes = 0xFF ∷ []; table = 3 ∷ 1 ∷ 0 ∷ 1 ∷ []; says = fault BadChunks 0 0 }
    ∷ []

pub check-examples : map (λ (e : CheckExample). checked e.bytes e.table) checks ≡ map (λ (e : CheckExample). e.says) checks
unfolding checked fits is_short chunks_of kinds_known lengths fault_of or_else fault_in characters up_to and_then first decode len_of is_cont is_surrogate decode2 decode3 decode4 is_admitted within refusal pick
check-examples = refl

-- 4,096 bytes are admitted
letters-ascii : all_ascii (replicate 4096 0x61) ≡ true
unfolding all_ascii
letters-ascii = refl

pub bytes-admitted : checked (replicate 4096 0x61) (0 ∷ 4096 ∷ 0 ∷ 4096 ∷ []) ≡ (Ok tt)
bytes-admitted = (chunk-plain (replicate 4096 0x61) 0 4096 0 4096 refl refl (lit≤ tt) letters-ascii).0

-- one more is not
pub bytes-refused : checked (replicate 4097 0x61) (0 ∷ 4097 ∷ 0 ∷ 4097 ∷ []) ≡ fault TooLong 0 0
unfolding checked fits is_short chunks_of kinds_known lengths refusal pick
bytes-refused = refl

-- a list, its formatted text, and that in upper case
pub record TextExample : Type 0 where
  pub bytes : List ℕ
  pub table : List ℕ
  pub text : List ℕ
  pub upper : List ℕ

abbrev pub texts : List TextExample
texts =
    record { bytes = ascii "jan"; table = 0 ∷ 3 ∷ 0 ∷ 3 ∷ []; text = ascii "jan"; upper = ascii "JAN" }
    -- a line break becomes a space, at the front too, and is dropped behind white space
    ∷ record { bytes = ascii "a" ++ (0x0A ∷ ascii "b"); table = 0 ∷ 3 ∷ 0 ∷ 3 ∷ []; text = ascii "a b"; upper = ascii "A B" }
    ∷ record { bytes = 0x0D ∷ ascii "b"; table = 0 ∷ 2 ∷ 0 ∷ 2 ∷ []; text = ascii " b"; upper = ascii " B" }
    ∷ record { bytes = ascii "a" ++ (0x0D ∷ 0x0A ∷ ascii "b"); table = 0 ∷ 4 ∷ 0 ∷ 4 ∷ []; text = ascii "a b"; upper = ascii "A B" }
    ∷ record { bytes = ascii "a " ++ (0x0A ∷ ascii " b"); table = 0 ∷ 5 ∷ 0 ∷ 5 ∷ []; text = ascii "a  b"; upper = ascii "A  B" }
    ∷ record { bytes = ascii "a" ++ (0xC2 ∷ 0xA0 ∷ 0x0A ∷ ascii "b"); table = 0 ∷ 5 ∷ 0 ∷ 5 ∷ []; text = ascii "a" ++ (0xC2 ∷ 0xA0 ∷ ascii "b"); upper = ascii "A" ++ (0xC2 ∷ 0xA0 ∷ ascii "B") }
    -- Verbatim and Math keep it; Math stands between two dollar signs
    ∷ record { bytes = ascii "a" ++ (0x0A ∷ ascii "b"); table = 1 ∷ 3 ∷ 0 ∷ 3 ∷ []; text = ascii "a" ++ (0x0A ∷ ascii "b"); upper = ascii "A" ++ (0x0A ∷ ascii "B") }
    ∷ record { bytes = ascii "a" ++ (0x0A ∷ ascii "b"); table = 2 ∷ 3 ∷ 0 ∷ 3 ∷ []; text = ascii "$a" ++ (0x0A ∷ ascii "b$"); upper = ascii "$A" ++ (0x0A ∷ ascii "B$") }
    ∷ record { bytes = []; table = 2 ∷ 0 ∷ 0 ∷ 0 ∷ []; text = ascii "$$"; upper = ascii "$$" }
    -- the flag from chunk to chunk: Normal and Verbatim say it by their last character
    ∷ record { bytes = ascii "a " ++ (0x0A ∷ ascii "b"); table = 0 ∷ 2 ∷ 0 ∷ 2 ∷ 0 ∷ 2 ∷ 2 ∷ 4 ∷ []; text = ascii "a b"; upper = ascii "A B" }
    ∷ record { bytes = ascii "a " ++ (0x0A ∷ ascii "b"); table = 1 ∷ 2 ∷ 0 ∷ 2 ∷ 0 ∷ 2 ∷ 2 ∷ 4 ∷ []; text = ascii "a b"; upper = ascii "A B" }
    ∷ record { bytes = ascii " a" ++ (0x0A ∷ ascii "b"); table = 0 ∷ 1 ∷ 0 ∷ 1 ∷ 1 ∷ 1 ∷ 1 ∷ 2 ∷ 0 ∷ 2 ∷ 2 ∷ 4 ∷ []; text = ascii " a b"; upper = ascii " A B" }
    -- empty, Normal leaves it and Verbatim clears it
    ∷ record { bytes = ascii "a " ++ (0x0A ∷ ascii "b"); table = 0 ∷ 2 ∷ 0 ∷ 2 ∷ 0 ∷ 0 ∷ 2 ∷ 2 ∷ 0 ∷ 2 ∷ 2 ∷ 4 ∷ []; text = ascii "a b"; upper = ascii "A B" }
    ∷ record { bytes = ascii "a " ++ (0x0A ∷ ascii "b"); table = 0 ∷ 2 ∷ 0 ∷ 2 ∷ 1 ∷ 0 ∷ 2 ∷ 2 ∷ 0 ∷ 2 ∷ 2 ∷ 4 ∷ []; text = ascii "a  b"; upper = ascii "A  B" }
    -- Math leaves it, set or clear
    ∷ record { bytes = ascii "a x" ++ (0x0A ∷ ascii "b"); table = 0 ∷ 2 ∷ 0 ∷ 2 ∷ 2 ∷ 1 ∷ 2 ∷ 3 ∷ 0 ∷ 2 ∷ 3 ∷ 5 ∷ []; text = ascii "a $x$b"; upper = ascii "A $X$B" }
    ∷ record { bytes = ascii "a " ++ (0x0A ∷ ascii "b"); table = 0 ∷ 1 ∷ 0 ∷ 1 ∷ 2 ∷ 1 ∷ 1 ∷ 2 ∷ 0 ∷ 2 ∷ 2 ∷ 4 ∷ []; text = ascii "a$ $ b"; upper = ascii "A$ $ B" }
    -- upper case beyond ASCII: é, ß, ÿ and µ
    ∷ record { bytes = 0xC3 ∷ 0xA9 ∷ 0xC3 ∷ 0x9F ∷ []; table = 0 ∷ 4 ∷ 0 ∷ 4 ∷ []; text = 0xC3 ∷ 0xA9 ∷ 0xC3 ∷ 0x9F ∷ []; upper = 0xC3 ∷ 0x89 ∷ 0x53 ∷ 0x53 ∷ [] }
    ∷ record { bytes = 0xC3 ∷ 0xBF ∷ 0xC2 ∷ 0xB5 ∷ []; table = 1 ∷ 4 ∷ 0 ∷ 4 ∷ []; text = 0xC3 ∷ 0xBF ∷ 0xC2 ∷ 0xB5 ∷ []; upper = 0xC5 ∷ 0xB8 ∷ 0xCE ∷ 0x9C ∷ [] }
    ∷ []

pub text-examples : map (λ (e : TextExample). text_of false e.bytes e.table) texts ≡ map (λ (e : TextExample). e.text) texts
unfolding text_of formatted chunks_out chunk_out chunk_flag chunks_of normal last_white one_out is_break is_whitespace within encode codes codes_of characters up_to and_then first decode len_of is_cont decode2 pick
text-examples = refl

pub upper-examples : map (λ (e : TextExample). text_of true e.bytes e.table) texts ≡ map (λ (e : TextExample). e.upper) texts
unfolding text_of formatted chunks_out chunk_out chunk_flag chunks_of normal last_white one_out is_break is_whitespace within encode codes codes_of characters up_to and_then first decode len_of is_cont decode2 uppercase uppers upper_out upper_of loses32 upper_codes encode_all pick
upper-examples = refl

-- a list and a buffer, what formatting answers, and the buffer afterwards
pub record AnswerExample : Type 0 where
  pub bytes : List ℕ
  pub table : List ℕ
  pub buffer : List ℕ
  pub says : Result ℕ Refusal
  pub holds : List ℕ

abbrev pub answers : List AnswerExample
answers =
    -- the room is that of the bytes and two for each chunk, whatever the text needs; what stands behind the text stays
    record { bytes = ascii "ab"; table = 0 ∷ 2 ∷ 0 ∷ 2 ∷ []; buffer = 1 ∷ 2 ∷ 3 ∷ 4 ∷ 5 ∷ []; says = Ok 2; holds = 0x61 ∷ 0x62 ∷ 3 ∷ 4 ∷ 5 ∷ [] }
    ∷ record { bytes = ascii "ab"; table = 0 ∷ 2 ∷ 0 ∷ 2 ∷ []; buffer = 1 ∷ 2 ∷ 3 ∷ 4 ∷ []; says = Ok 2; holds = 0x61 ∷ 0x62 ∷ 3 ∷ 4 ∷ [] }
    ∷ record { bytes = ascii "ab"; table = 0 ∷ 2 ∷ 0 ∷ 2 ∷ []; buffer = 1 ∷ 2 ∷ 3 ∷ []; says = Err (record { kind = NoRoom; place = file_span 0 0 }); holds = 1 ∷ 2 ∷ 3 ∷ [] }
    ∷ record { bytes = ascii "x"; table = 2 ∷ 1 ∷ 0 ∷ 1 ∷ []; buffer = 1 ∷ 2 ∷ 3 ∷ []; says = Ok 3; holds = 0x24 ∷ 0x78 ∷ 0x24 ∷ [] }
    -- a fault comes before NoRoom, and stores nothing
    ∷ record { bytes = 0x61 ∷ 0xFF ∷ []; table = 0 ∷ 2 ∷ 0 ∷ 2 ∷ []; buffer = 1 ∷ []; says = Err (record { kind = BadUtf8; place = file_span 1 2 }); holds = 1 ∷ [] }
    ∷ record { bytes = 0x61 ∷ 0xFF ∷ []; table = 0 ∷ 2 ∷ 0 ∷ 2 ∷ []; buffer = 1 ∷ 2 ∷ 3 ∷ 4 ∷ []; says = Err (record { kind = BadUtf8; place = file_span 1 2 }); holds = 1 ∷ 2 ∷ 3 ∷ 4 ∷ [] }
    ∷ []

pub answer-examples : map (λ (e : AnswerExample). format_answer false e.bytes e.table e.buffer) answers ≡ map (λ (e : AnswerExample). e.says) answers
unfolding format_answer answered room_of text_of formatted chunks_out chunk_out chunk_flag chunks_of normal last_white one_out is_break is_whitespace within encode codes codes_of characters up_to and_then first decode len_of is_cont decode2 checked fits is_short kinds_known lengths fault_of or_else fault_in is_admitted refusal pick
answer-examples = refl

pub buffer-examples : map (λ (e : AnswerExample). buffer_after e.says (text_of false e.bytes e.table) e.buffer) answers ≡ map (λ (e : AnswerExample). e.holds) answers
unfolding buffer_after text_of formatted chunks_out chunk_out chunk_flag chunks_of normal last_white one_out is_break is_whitespace within encode codes codes_of characters up_to and_then first decode len_of is_cont decode2 pick
buffer-examples = refl

-- a list's span: its first chunk's start and its last one's end
pub span-one : span_of (chunks_of (0 ∷ 4 ∷ 10 ∷ 14 ∷ [])) ≡ file_span 10 14
unfolding span_of last_end chunks_of
span-one = refl

pub span-three : span_of (chunks_of (0 ∷ 1 ∷ 5 ∷ 6 ∷ 1 ∷ 1 ∷ 20 ∷ 21 ∷ 2 ∷ 1 ∷ 9 ∷ 12 ∷ [])) ≡ file_span 5 12
unfolding span_of last_end chunks_of
span-three = refl

-- a list, and whether it stands: as it is, and in upper case
pub record StandingExample : Type 0 where
  pub bytes : List ℕ
  pub table : List ℕ
  pub as_is : Bool
  pub upper : Bool

abbrev pub standings : List StandingExample
standings =
    record { bytes = ascii "2020-01 ~"; table = 0 ∷ 9 ∷ 0 ∷ 9 ∷ []; as_is = true; upper = true }
    ∷ record { bytes = []; table = []; as_is = true; upper = true }
    -- Normal and Verbatim, and no Math, in whatever chunk
    ∷ record { bytes = ascii "2020"; table = 0 ∷ 1 ∷ 0 ∷ 1 ∷ 1 ∷ 3 ∷ 1 ∷ 4 ∷ []; as_is = true; upper = true }
    ∷ record { bytes = ascii "2020"; table = 2 ∷ 4 ∷ 0 ∷ 4 ∷ []; as_is = false; upper = false }
    ∷ record { bytes = ascii "2020"; table = 0 ∷ 4 ∷ 0 ∷ 4 ∷ 2 ∷ 0 ∷ 4 ∷ 4 ∷ []; as_is = false; upper = false }
    -- line breaks, and what stands behind them
    ∷ record { bytes = 0x0A ∷ []; table = 0 ∷ 1 ∷ 0 ∷ 1 ∷ []; as_is = false; upper = false }
    ∷ record { bytes = ascii "1" ++ (0x0D ∷ ascii "1"); table = 0 ∷ 3 ∷ 0 ∷ 3 ∷ []; as_is = false; upper = false }
    ∷ record { bytes = 0x0E ∷ []; table = 0 ∷ 1 ∷ 0 ∷ 1 ∷ []; as_is = true; upper = true }
    -- the lower-case letters, and what stands beside them
    ∷ record { bytes = ascii "x"; table = 0 ∷ 1 ∷ 0 ∷ 1 ∷ []; as_is = true; upper = false }
    ∷ record { bytes = ascii "X"; table = 0 ∷ 1 ∷ 0 ∷ 1 ∷ []; as_is = true; upper = true }
    ∷ record { bytes = ascii "a"; table = 0 ∷ 1 ∷ 0 ∷ 1 ∷ []; as_is = true; upper = false }
    ∷ record { bytes = ascii "z"; table = 0 ∷ 1 ∷ 0 ∷ 1 ∷ []; as_is = true; upper = false }
    ∷ record { bytes = ascii "`{"; table = 0 ∷ 2 ∷ 0 ∷ 2 ∷ []; as_is = true; upper = true }
    -- no character beyond ASCII
    ∷ record { bytes = 0x7F ∷ []; table = 0 ∷ 1 ∷ 0 ∷ 1 ∷ []; as_is = true; upper = true }
    ∷ record { bytes = 0x80 ∷ []; table = 0 ∷ 1 ∷ 0 ∷ 1 ∷ []; as_is = false; upper = false }
    ∷ record { bytes = 0xC3 ∷ 0xA9 ∷ []; table = 0 ∷ 2 ∷ 0 ∷ 2 ∷ []; as_is = false; upper = false }
    -- lengths that do not fit, an unknown kind, and a chunk too many
    ∷ record { bytes = ascii "2020"; table = 0 ∷ 3 ∷ 0 ∷ 4 ∷ []; as_is = false; upper = false }
    ∷ record { bytes = ascii "2020"; table = 3 ∷ 4 ∷ 0 ∷ 4 ∷ []; as_is = false; upper = false }
    ∷ record { bytes = []; table = blanks 64; as_is = true; upper = true }
    ∷ record { bytes = []; table = blanks 65; as_is = false; upper = false }
    ∷ []

pub standing-examples : map (λ (e : StandingExample). list_stands false e.bytes e.table) standings ≡ map (λ (e : StandingExample). e.as_is) standings
unfolding list_stands fits is_short chunks_of kinds_known lengths no_math all_standing is_standing
standing-examples = refl

pub standing-upper-examples : map (λ (e : StandingExample). list_stands true e.bytes e.table) standings ≡ map (λ (e : StandingExample). e.upper) standings
unfolding list_stands fits is_short chunks_of kinds_known lengths no_math all_standing is_standing
standing-upper-examples = refl
