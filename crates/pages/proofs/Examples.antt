-- The worked examples, with each answer written out in numbers: what one piece says, and what several pieces are answered.
-- Assumes nothing.
use Prim.Native.Nat.{ℕ, zero, suc}
use mathlib.Core.Path.{◌≡◌, refl}
use mathlib.Core.List.{List, [], ◌∷◌, ◌++◌, map}
use lib.ListN.{length, replicate}
use Rattle.chars.specs.Ascii.{ascii}
use Rattle.refusals.specs.declared.Refusal.{Refusal}
use Rattle.refusals.specs.Refusal.{number}
use Rattle.std.specs.Prelude.{Result, Ok, Err}
use Rattle.pages.specs.Piece.{piece}
use Rattle.pages.specs.Pieces.{pages_answer, pages_afterwards}
use Rattle.pages.specs.Text.{written_range}
use Rattle.chars.specs.Ascii as chars_ascii
use Rattle.chars.specs.Classes as chars_classes
use Rattle.chars.specs.Pick as chars_pick
use Rattle.chars.specs.Utf8 as chars_utf8
use Rattle.scanner.specs.Class as scanner_class
use Rattle.scanner.specs.Scan as scanner_scan
use Rattle.refusals.specs.Refusal as refusals_refusal
use Rattle.refusals.specs.Offset as refusals_offset
use Rattle.chunks.specs.Characters as chunks_characters
use Rattle.chunks.specs.Check as chunks_check
use Rattle.chunks.specs.Chunks as chunks_chunks
use Rattle.chunks.specs.Format as chunks_format
use Rattle.numbers.specs.Parse as strs_parse
use Rattle.puts.specs.Numbers as writer_numbers
use Rattle.pages.specs.Piece as pages_piece
use Rattle.pages.specs.Pieces as pages_pieces
use Rattle.pages.specs.Text as pages_text

-- a refusal in numbers: its own, and its place
abbrev pub in_numbers : Refusal → List ℕ
in_numbers e = number e.kind ∷ e.place.0 ∷ e.place.1 ∷ []

-- what a piece says in numbers: 0 and the range, or the refusal
abbrev pub shown : Result (ℕ × ℕ) Refusal → List ℕ
shown (Ok (a, b)) = 0 ∷ a ∷ b ∷ []
shown (Err e) = in_numbers e

-- a text of one Normal chunk, with its span in the file, and what it says
pub record Row : Type 0 where
  pub text : List ℕ
  pub start : ℕ
  pub end : ℕ
  pub says : List ℕ

-- what is read: the three dashes, hyphens, white space, 32 bits
abbrev pub read_rows : List Row
read_rows =
    record { text = ascii "5"; start = 10; end = 20; says = 0 ∷ 5 ∷ 5 ∷ [] }
    ∷ record { text = ascii "5 "; start = 10; end = 20; says = 0 ∷ 5 ∷ 5 ∷ [] }
    ∷ record { text = ascii " 5 - 7"; start = 10; end = 20; says = 0 ∷ 5 ∷ 7 ∷ [] }
    ∷ record { text = ascii "5-7"; start = 10; end = 20; says = 0 ∷ 5 ∷ 7 ∷ [] }
    ∷ record { text = ascii "5--7"; start = 10; end = 20; says = 0 ∷ 5 ∷ 7 ∷ [] }
    ∷ record { text = ascii "5----7"; start = 10; end = 20; says = 0 ∷ 5 ∷ 7 ∷ [] }
    ∷ record { text = ascii "7-5"; start = 10; end = 20; says = 0 ∷ 7 ∷ 5 ∷ [] }
    ∷ record { text = ascii "0005-00"; start = 10; end = 20; says = 0 ∷ 5 ∷ 0 ∷ [] }
    ∷ record { text = ascii "5" ++ (0xE2 ∷ 0x80 ∷ 0x93 ∷ ascii "7"); start = 10; end = 20; says = 0 ∷ 5 ∷ 7 ∷ [] }
    ∷ record { text = ascii "5" ++ (0xE2 ∷ 0x80 ∷ 0x94 ∷ ascii "7"); start = 10; end = 20; says = 0 ∷ 5 ∷ 7 ∷ [] }
    ∷ record { text = ascii "5 " ++ (0xE2 ∷ 0x80 ∷ 0x94 ∷ ascii "-- 7"); start = 10; end = 20; says = 0 ∷ 5 ∷ 7 ∷ [] }
    ∷ record { text = ascii "4294967295"; start = 10; end = 20; says = 0 ∷ 4294967295 ∷ 4294967295 ∷ [] }
    ∷ record { text = ascii "0-4294967295"; start = 10; end = 20; says = 0 ∷ 0 ∷ 4294967295 ∷ [] }
    ∷ record { text = 0x09 ∷ (ascii "5" ++ (0xC2 ∷ 0xA0 ∷ (ascii "-" ++ (0xC2 ∷ 0x85 ∷ ascii "2009")))); start = 10; end = 20; says = 0 ∷ 5 ∷ 2009 ∷ [] }
    ∷ record { text = 0xE2 ∷ 0x80 ∷ 0x89 ∷ (ascii "5" ++ (0xE2 ∷ 0x80 ∷ 0xAF ∷ 0xE2 ∷ 0x80 ∷ 0x94 ∷ 0xE2 ∷ 0x80 ∷ 0xA8 ∷ ascii "7")); start = 10; end = 20; says = 0 ∷ 5 ∷ 7 ∷ [] }
    ∷ record { text = ascii "5"; start = 18446744073709551615; end = 0; says = 0 ∷ 5 ∷ 5 ∷ [] }
    ∷ []

pub read : map (λ (r : Row). shown (piece r.text (0 ∷ length r.text ∷ r.start ∷ r.end ∷ []))) read_rows ≡ map (λ (r : Row). r.says) read_rows
unfolding chars_ascii.digit_of chars_classes.within chars_classes.is_admitted chars_classes.is_whitespace chars_classes.is_ascii_digit chars_classes.is_numeric chars_classes.is_ascii_alphabetic chars_classes.is_alphabetic chars_classes.is_alphanumeric chars_pick.pick chars_utf8.len_of chars_utf8.is_cont chars_utf8.is_surrogate chars_utf8.decode2 chars_utf8.decode3 chars_utf8.decode4 chars_utf8.decode chars_utf8.first chars_utf8.decode_at chars_utf8.len_d chars_utf8.encode chars_utf8.encode_all scanner_class.in_class scanner_scan.len_in scanner_scan.match_len scanner_scan.walk scanner_scan.eat_while scanner_scan.eat_if scanner_scan.begins scanner_scan.eat_text scanner_scan.eaten scanner_scan.eat_at scanner_scan.stands_at scanner_scan.done_at scanner_scan.part refusals_refusal.refusal chunks_characters.and_then chunks_characters.up_to chunks_characters.characters chunks_characters.codes_of chunks_characters.codes chunks_check.fault_in chunks_check.or_else chunks_check.fault_of chunks_check.checked chunks_chunks.chunks_of chunks_chunks.kinds_known chunks_chunks.lengths chunks_chunks.fits chunks_chunks.is_short chunks_chunks.last_end chunks_chunks.span_of chunks_format.is_break chunks_format.one_out chunks_format.normal chunks_format.last_white chunks_format.chunk_out chunks_format.chunk_flag chunks_format.chunks_out chunks_format.formatted strs_parse.whole_value strs_parse.digits_from strs_parse.parse scanner_scan.run_at scanner_scan.next_run refusals_offset.offset_number refusals_offset.until_span_end pages_piece.numbered pages_piece.number_of pages_piece.number_at pages_piece.or_else pages_piece.dash_at pages_piece.on_number pages_piece.second_at pages_piece.behind_dash pages_piece.on_dash pages_piece.behind_first pages_piece.range_text pages_piece.on_clean pages_piece.piece
read = refl

-- what is refused, and where: a number's own place is a sum, which may be too large; no other is
abbrev pub refused_rows : List Row
refused_rows =
    record { text = []; start = 10; end = 20; says = 4 ∷ 10 ∷ 10 ∷ [] }
    ∷ record { text = ascii "x"; start = 10; end = 20; says = 4 ∷ 10 ∷ 10 ∷ [] }
    ∷ record { text = ascii " x"; start = 10; end = 20; says = 4 ∷ 11 ∷ 11 ∷ [] }
    ∷ record { text = ascii "-5"; start = 10; end = 20; says = 4 ∷ 10 ∷ 10 ∷ [] }
    ∷ record { text = ascii "+5"; start = 10; end = 20; says = 4 ∷ 10 ∷ 10 ∷ [] }
    ∷ record { text = ascii "4294967296"; start = 10; end = 20; says = 4 ∷ 10 ∷ 20 ∷ [] }
    ∷ record { text = ascii " 4294967296"; start = 10; end = 20; says = 4 ∷ 11 ∷ 21 ∷ [] }
    ∷ record { text = ascii "5-4294967296"; start = 10; end = 20; says = 4 ∷ 12 ∷ 22 ∷ [] }
    ∷ record { text = ascii "5 - 4294967296"; start = 10; end = 20; says = 4 ∷ 14 ∷ 24 ∷ [] }
    ∷ record { text = ascii "5x"; start = 10; end = 20; says = 4 ∷ 10 ∷ 20 ∷ [] }
    ∷ record { text = ascii "5 7"; start = 10; end = 20; says = 4 ∷ 10 ∷ 20 ∷ [] }
    ∷ record { text = ascii "5,7"; start = 10; end = 20; says = 4 ∷ 10 ∷ 20 ∷ [] }
    ∷ record { text = ascii "5" ++ (0xE2 ∷ 0x80 ∷ 0x92 ∷ ascii "7"); start = 10; end = 20; says = 4 ∷ 10 ∷ 20 ∷ [] }
    ∷ record { text = ascii "5" ++ (0xE2 ∷ 0x80 ∷ 0x95 ∷ ascii "7"); start = 10; end = 20; says = 4 ∷ 10 ∷ 20 ∷ [] }
    ∷ record { text = ascii "5" ++ (0xE2 ∷ 0x80 ∷ 0x8B ∷ []); start = 10; end = 20; says = 4 ∷ 10 ∷ 20 ∷ [] }
    ∷ record { text = ascii "5-"; start = 10; end = 20; says = 4 ∷ 12 ∷ 12 ∷ [] }
    ∷ record { text = ascii "5- "; start = 10; end = 20; says = 4 ∷ 13 ∷ 13 ∷ [] }
    ∷ record { text = ascii "5-x"; start = 10; end = 20; says = 4 ∷ 12 ∷ 12 ∷ [] }
    ∷ record { text = ascii "5-" ++ (0xE2 ∷ 0x80 ∷ 0x93 ∷ ascii "7"); start = 10; end = 20; says = 4 ∷ 12 ∷ 12 ∷ [] }
    ∷ record { text = ascii "5" ++ (0xE2 ∷ 0x80 ∷ 0x93 ∷ []); start = 10; end = 20; says = 4 ∷ 14 ∷ 14 ∷ [] }
    ∷ record { text = ascii "5-7x"; start = 10; end = 20; says = 4 ∷ 2 ∷ 20 ∷ [] }
    ∷ record { text = ascii "5-7 "; start = 10; end = 20; says = 4 ∷ 2 ∷ 20 ∷ [] }
    ∷ record { text = ascii "5-7-9"; start = 10; end = 20; says = 4 ∷ 2 ∷ 20 ∷ [] }
    ∷ record { text = ascii "5 -- 7x"; start = 10; end = 20; says = 4 ∷ 5 ∷ 20 ∷ [] }
    ∷ record { text = ascii "5" ++ (0xE2 ∷ 0x80 ∷ 0x94 ∷ ascii "7x"); start = 10; end = 20; says = 4 ∷ 4 ∷ 20 ∷ [] }
    ∷ record { text = ascii "x"; start = 18446744073709551615; end = 0; says = 4 ∷ 18446744073709551615 ∷ 18446744073709551615 ∷ [] }
    ∷ record { text = ascii " x"; start = 18446744073709551615; end = 0; says = 9 ∷ 0 ∷ 0 ∷ [] }
    ∷ record { text = ascii "5-"; start = 18446744073709551613; end = 0; says = 4 ∷ 18446744073709551615 ∷ 18446744073709551615 ∷ [] }
    ∷ record { text = ascii "5-"; start = 18446744073709551614; end = 0; says = 9 ∷ 0 ∷ 0 ∷ [] }
    ∷ record { text = ascii "4294967296"; start = 18446744073709551605; end = 0; says = 4 ∷ 18446744073709551605 ∷ 18446744073709551615 ∷ [] }
    ∷ record { text = ascii "4294967296"; start = 18446744073709551606; end = 0; says = 9 ∷ 0 ∷ 0 ∷ [] }
    ∷ record { text = ascii "5x"; start = 18446744073709551615; end = 9; says = 4 ∷ 18446744073709551615 ∷ 9 ∷ [] }
    ∷ record { text = ascii "5-7x"; start = 18446744073709551615; end = 9; says = 4 ∷ 2 ∷ 9 ∷ [] }
    ∷ record { text = ascii "5" ++ (0xC3 ∷ []); start = 10; end = 20; says = 10 ∷ 1 ∷ 2 ∷ [] }
    ∷ record { text = ascii "5" ++ (0xE2 ∷ 0x82 ∷ 0xAC ∷ []); start = 10; end = 20; says = 11 ∷ 1 ∷ 4 ∷ [] }
    ∷ record { text = ascii "5" ++ (0xE1 ∷ 0xBF ∷ 0xBF ∷ []); start = 10; end = 20; says = 11 ∷ 1 ∷ 4 ∷ [] }
    ∷ record { text = ascii "5" ++ (0xE2 ∷ 0x81 ∷ 0xB0 ∷ []); start = 10; end = 20; says = 11 ∷ 1 ∷ 4 ∷ [] }
    ∷ []

pub refused : map (λ (r : Row). shown (piece r.text (0 ∷ length r.text ∷ r.start ∷ r.end ∷ []))) refused_rows ≡ map (λ (r : Row). r.says) refused_rows
unfolding chars_ascii.digit_of chars_classes.within chars_classes.is_admitted chars_classes.is_whitespace chars_classes.is_ascii_digit chars_classes.is_numeric chars_classes.is_ascii_alphabetic chars_classes.is_alphabetic chars_classes.is_alphanumeric chars_pick.pick chars_utf8.len_of chars_utf8.is_cont chars_utf8.is_surrogate chars_utf8.decode2 chars_utf8.decode3 chars_utf8.decode4 chars_utf8.decode chars_utf8.first chars_utf8.decode_at chars_utf8.len_d chars_utf8.encode chars_utf8.encode_all scanner_class.in_class scanner_scan.len_in scanner_scan.match_len scanner_scan.walk scanner_scan.eat_while scanner_scan.eat_if scanner_scan.begins scanner_scan.eat_text scanner_scan.eaten scanner_scan.eat_at scanner_scan.stands_at scanner_scan.done_at scanner_scan.part refusals_refusal.refusal chunks_characters.and_then chunks_characters.up_to chunks_characters.characters chunks_characters.codes_of chunks_characters.codes chunks_check.fault_in chunks_check.or_else chunks_check.fault_of chunks_check.checked chunks_chunks.chunks_of chunks_chunks.kinds_known chunks_chunks.lengths chunks_chunks.fits chunks_chunks.is_short chunks_chunks.last_end chunks_chunks.span_of chunks_format.is_break chunks_format.one_out chunks_format.normal chunks_format.last_white chunks_format.chunk_out chunks_format.chunk_flag chunks_format.chunks_out chunks_format.formatted strs_parse.whole_value strs_parse.digits_from strs_parse.parse scanner_scan.run_at scanner_scan.next_run refusals_offset.offset_number refusals_offset.until_span_end pages_piece.numbered pages_piece.number_of pages_piece.number_at pages_piece.or_else pages_piece.dash_at pages_piece.on_number pages_piece.second_at pages_piece.behind_dash pages_piece.on_dash pages_piece.behind_first pages_piece.range_text pages_piece.on_clean pages_piece.piece
refused = refl

-- an answer in numbers: 0 and how many ranges, or the refusal
abbrev pub told : Result ℕ Refusal → List ℕ
told (Ok n) = 0 ∷ n ∷ []
told (Err e) = in_numbers e

-- pieces, the room for numbers, and what is answered
pub record Asked : Type 0 where
  pub bytes : List ℕ
  pub table : List ℕ
  pub counts : List ℕ
  pub room : ℕ
  pub says : List ℕ

-- two pieces, "5" and "6-7"
abbrev pub two : List ℕ
two = 0 ∷ 1 ∷ 0 ∷ 1 ∷ 0 ∷ 3 ∷ 2 ∷ 5 ∷ []

-- the table of so many chunks of one byte each
abbrev pub ones : ℕ → List ℕ
ones zero = []
ones (suc n) = 0 ∷ 1 ∷ 0 ∷ 1 ∷ ones n

-- the room, the shape, the first refused piece, places in a piece, and 64 pieces but not 65
abbrev pub asked_rows : List Asked
asked_rows =
    record { bytes = ascii "56-7"; table = two; counts = 1 ∷ 1 ∷ []; room = 4; says = 0 ∷ 2 ∷ [] }
    ∷ record { bytes = ascii "56-7"; table = two; counts = 1 ∷ 1 ∷ []; room = 3; says = 13 ∷ 0 ∷ 0 ∷ [] }
    ∷ record { bytes = ascii "56-7"; table = two; counts = 2 ∷ []; room = 2; says = 0 ∷ 1 ∷ [] }
    ∷ record { bytes = ascii "56-7"; table = two; counts = 1 ∷ []; room = 4; says = 15 ∷ 0 ∷ 0 ∷ [] }
    ∷ record { bytes = ascii "56-78"; table = two; counts = 1 ∷ 1 ∷ []; room = 4; says = 15 ∷ 0 ∷ 0 ∷ [] }
    ∷ record { bytes = ascii "56-7"; table = 0 ∷ two; counts = 1 ∷ 1 ∷ []; room = 4; says = 15 ∷ 0 ∷ 0 ∷ [] }
    ∷ record { bytes = ascii "x6-x"; table = two; counts = 1 ∷ 1 ∷ []; room = 4; says = 4 ∷ 0 ∷ 0 ∷ [] }
    ∷ record { bytes = ascii "56-x"; table = two; counts = 1 ∷ 1 ∷ []; room = 4; says = 4 ∷ 4 ∷ 4 ∷ [] }
    ∷ record { bytes = ascii "56" ++ (0xC3 ∷ 0x37 ∷ []); table = two; counts = 1 ∷ 1 ∷ []; room = 4; says = 10 ∷ 1 ∷ 2 ∷ [] }
    ∷ record { bytes = ascii "56-7"; table = 0 ∷ 1 ∷ 0 ∷ 1 ∷ 3 ∷ 3 ∷ 2 ∷ 5 ∷ []; counts = 1 ∷ 1 ∷ []; room = 4; says = 15 ∷ 0 ∷ 0 ∷ [] }
    ∷ record { bytes = ascii "x6-7"; table = 0 ∷ 1 ∷ 0 ∷ 1 ∷ 3 ∷ 3 ∷ 2 ∷ 5 ∷ []; counts = 1 ∷ 1 ∷ []; room = 4; says = 4 ∷ 0 ∷ 0 ∷ [] }
    ∷ record { bytes = []; table = []; counts = []; room = 0; says = 0 ∷ 0 ∷ [] }
    ∷ record { bytes = []; table = []; counts = 0 ∷ []; room = 2; says = 4 ∷ 0 ∷ 0 ∷ [] }
    ∷ record { bytes = replicate 64 0x35; table = ones 64; counts = replicate 64 1; room = 128; says = 0 ∷ 64 ∷ [] }
    ∷ record { bytes = replicate 64 0x35; table = ones 64; counts = replicate 64 1; room = 127; says = 13 ∷ 0 ∷ 0 ∷ [] }
    ∷ record { bytes = replicate 65 0x35; table = ones 65; counts = replicate 65 1; room = 130; says = 16 ∷ 0 ∷ 0 ∷ [] }
    ∷ record { bytes = []; table = 7 ∷ []; counts = replicate 65 0; room = 0; says = 16 ∷ 0 ∷ 0 ∷ [] }
    ∷ []

pub answered : map (λ (r : Asked). told (pages_answer r.bytes r.table r.counts r.room)) asked_rows ≡ map (λ (r : Asked). r.says) asked_rows
unfolding chars_ascii.digit_of chars_classes.within chars_classes.is_admitted chars_classes.is_whitespace chars_classes.is_ascii_digit chars_classes.is_numeric chars_classes.is_ascii_alphabetic chars_classes.is_alphabetic chars_classes.is_alphanumeric chars_pick.pick chars_utf8.len_of chars_utf8.is_cont chars_utf8.is_surrogate chars_utf8.decode2 chars_utf8.decode3 chars_utf8.decode4 chars_utf8.decode chars_utf8.first chars_utf8.decode_at chars_utf8.len_d chars_utf8.encode chars_utf8.encode_all scanner_class.in_class scanner_scan.len_in scanner_scan.match_len scanner_scan.walk scanner_scan.eat_while scanner_scan.eat_if scanner_scan.begins scanner_scan.eat_text scanner_scan.eaten scanner_scan.eat_at scanner_scan.stands_at scanner_scan.done_at scanner_scan.part refusals_refusal.refusal chunks_characters.and_then chunks_characters.up_to chunks_characters.characters chunks_characters.codes_of chunks_characters.codes chunks_check.fault_in chunks_check.or_else chunks_check.fault_of chunks_check.checked chunks_chunks.chunks_of chunks_chunks.kinds_known chunks_chunks.lengths chunks_chunks.fits chunks_chunks.is_short chunks_chunks.last_end chunks_chunks.span_of chunks_format.is_break chunks_format.one_out chunks_format.normal chunks_format.last_white chunks_format.chunk_out chunks_format.chunk_flag chunks_format.chunks_out chunks_format.formatted strs_parse.whole_value strs_parse.digits_from strs_parse.parse scanner_scan.run_at scanner_scan.next_run refusals_offset.offset_number refusals_offset.until_span_end pages_piece.numbered pages_piece.number_of pages_piece.number_at pages_piece.or_else pages_piece.dash_at pages_piece.on_number pages_piece.second_at pages_piece.behind_dash pages_piece.on_dash pages_piece.behind_first pages_piece.range_text pages_piece.on_clean pages_piece.piece pages_pieces.total pages_pieces.adds_up pages_pieces.size_of pages_pieces.first_of pages_pieces.pieces_of pages_pieces.said pages_pieces.on_range pages_pieces.judged pages_pieces.numbers_of pages_pieces.put pages_pieces.refused_pages pages_pieces.pages_answer pages_pieces.table_after pages_pieces.pages_afterwards
answered = refl

-- the lent table afterwards: two numbers a piece, and what is behind them stays; a refused piece leaves it as it is
pub left : pages_afterwards (ascii "56-7") two (1 ∷ 1 ∷ []) (1 ∷ 2 ∷ 3 ∷ 4 ∷ 9 ∷ []) ∷ pages_afterwards (ascii "5x-7") two (1 ∷ 1 ∷ []) (1 ∷ 2 ∷ 3 ∷ 4 ∷ 9 ∷ []) ∷ [] ≡ (5 ∷ 5 ∷ 6 ∷ 7 ∷ 9 ∷ []) ∷ (1 ∷ 2 ∷ 3 ∷ 4 ∷ 9 ∷ []) ∷ []
unfolding chars_ascii.digit_of chars_classes.within chars_classes.is_admitted chars_classes.is_whitespace chars_classes.is_ascii_digit chars_classes.is_numeric chars_classes.is_ascii_alphabetic chars_classes.is_alphabetic chars_classes.is_alphanumeric chars_pick.pick chars_utf8.len_of chars_utf8.is_cont chars_utf8.is_surrogate chars_utf8.decode2 chars_utf8.decode3 chars_utf8.decode4 chars_utf8.decode chars_utf8.first chars_utf8.decode_at chars_utf8.len_d chars_utf8.encode chars_utf8.encode_all scanner_class.in_class scanner_scan.len_in scanner_scan.match_len scanner_scan.walk scanner_scan.eat_while scanner_scan.eat_if scanner_scan.begins scanner_scan.eat_text scanner_scan.eaten scanner_scan.eat_at scanner_scan.stands_at scanner_scan.done_at scanner_scan.part refusals_refusal.refusal chunks_characters.and_then chunks_characters.up_to chunks_characters.characters chunks_characters.codes_of chunks_characters.codes chunks_check.fault_in chunks_check.or_else chunks_check.fault_of chunks_check.checked chunks_chunks.chunks_of chunks_chunks.kinds_known chunks_chunks.lengths chunks_chunks.fits chunks_chunks.is_short chunks_chunks.last_end chunks_chunks.span_of chunks_format.is_break chunks_format.one_out chunks_format.normal chunks_format.last_white chunks_format.chunk_out chunks_format.chunk_flag chunks_format.chunks_out chunks_format.formatted strs_parse.whole_value strs_parse.digits_from strs_parse.parse scanner_scan.run_at scanner_scan.next_run refusals_offset.offset_number refusals_offset.until_span_end pages_piece.numbered pages_piece.number_of pages_piece.number_at pages_piece.or_else pages_piece.dash_at pages_piece.on_number pages_piece.second_at pages_piece.behind_dash pages_piece.on_dash pages_piece.behind_first pages_piece.range_text pages_piece.on_clean pages_piece.piece pages_pieces.total pages_pieces.adds_up pages_pieces.size_of pages_pieces.first_of pages_pieces.pieces_of pages_pieces.said pages_pieces.on_range pages_pieces.judged pages_pieces.numbers_of pages_pieces.put pages_pieces.refused_pages pages_pieces.pages_answer pages_pieces.table_after pages_pieces.pages_afterwards
left = refl

-- written ranges
pub written : written_range 5 7 ∷ written_range 0 0 ∷ written_range 70 5 ∷ [] ≡ ascii "5-7" ∷ ascii "0-0" ∷ ascii "70-5" ∷ []
unfolding pages_text.written_range writer_numbers.decimal writer_numbers.width writer_numbers.digit_count writer_numbers.count chars_pick.pick
written = refl

-- the longest written range has 21 bytes
pub longest : length (written_range 4294967295 4294967295) ≡ 21
unfolding pages_text.written_range writer_numbers.decimal writer_numbers.width writer_numbers.digit_count writer_numbers.count chars_pick.pick
longest = refl
