-- Worked examples: files, and the answers to their first rows; texts, lines and bytes. Each answer is written out. Assumes nothing.
use mathlib.Core.Path.{◌≡◌, refl}
use mathlib.Core.Bool.{true, false}
use mathlib.Core.List.{List, [], ◌∷◌, ◌++◌}
use Prim.Native.Nat.{ℕ, zero, suc}
use Rattle.chars.specs.Pick.{pick}
use Rattle.chars.specs.Ascii.{ascii}
use Rattle.chars.specs.Utf8.{len_of, is_cont, is_surrogate, decode2, decode3, decode4, decode, first, len_d}
use Rattle.csv_rows.specs.declared.Separator.TheVariants.{Comma, Semicolon, Tab}
use Rattle.csv_rows.specs.declared.Fault.TheVariants.{QuoteInside, TextBehind, LoneReturn, NeverClosed, TooMany}
use Rattle.csv_rows.specs.declared.RowRead.{RowRead}
use Rattle.csv_rows.specs.declared.RowRead.TheVariants.{Row, Faulty, More, Nothing}
use Rattle.std.specs.Prelude.{Some, None}
use Rattle.csv_rows.specs.declared.Skipped.TheVariants.{Ended, Wait, Over}
use Rattle.csv_rows.specs.Reader.{byte_of, is_stop, is_special, is, up_to, inner_len, return_of, stop_of, closed, plain_by, quoted_by, cell_of, line_by, line_from, line}
use Rattle.csv_rows.specs.Answers.{window, is_cut, is_over, place_of, end_len, counted, row_by, refused, answer_by, answer_of, numbers, listed, line_of, answer, table_after, skipped}
use Rattle.csv_rows.specs.Texts.{undoubled, copied, copied_into, own_bytes, text_of, texts_of}
use Rattle.csv_rows.specs.Bytes.{one_if, feeds, utf8_from, utf8_end}
use Rattle.csv_rows.specs.Written.{doubles, any_special, cell_text, cells_text, file_text}

pub record Example : Type 0 where
  pub file : List ℕ
  pub says : RowRead

abbrev pub map : (Example → RowRead) → List Example → List RowRead
map f [] = []
map f (e ∷ es) = f e ∷ map f es

-- a quote, a line feed, a carriage return
abbrev q : List ℕ
q = 34 ∷ []

abbrev lf : List ℕ
lf = 10 ∷ []

abbrev cr : List ℕ
cr = 13 ∷ []

abbrev table : List Example
table =
    record { file = ascii "a,b" ++ lf ++ ascii "c"; says = Row 4 2 }
    ∷ record { file = ascii "a,b," ++ cr ++ lf; says = Row 6 3 }
    ∷ record { file = q ++ ascii "a,b" ++ q ++ ascii ",c"; says = Row 7 2 }
    ∷ record { file = q ++ ascii "a" ++ q ++ q ++ lf ++ q ++ lf; says = Row 7 1 }
    ∷ record { file = q ++ q; says = Row 2 1 }
    ∷ record { file = lf ++ ascii "a"; says = Row 1 1 }
    ∷ record { file = []; says = Nothing }
    ∷ record { file = ascii "a;b" ++ lf; says = Row 4 1 }
    ∷ record { file = ascii "5" ++ q ++ ascii " disk,x" ++ lf ++ ascii "y"; says = Faulty 10 (QuoteInside 1) }
    ∷ record { file = q ++ ascii "a" ++ q ++ ascii "b," ++ q ++ lf ++ q ++ lf; says = Faulty 7 (TextBehind 3) }
    ∷ record { file = ascii "a," ++ q ++ ascii "b" ++ lf ++ ascii "c"; says = Faulty 5 (NeverClosed 2) }
    ∷ record { file = ascii "a," ++ q ++ ascii "b"; says = Faulty 4 (NeverClosed 2) }
    ∷ record { file = ascii "a" ++ cr ++ ascii "b" ++ lf ++ ascii "c"; says = Faulty 4 (LoneReturn 1) }
    ∷ record { file = q ++ ascii "a" ++ q ++ cr ++ ascii "b"; says = Faulty 5 (LoneReturn 3) }
    ∷ record { file = ascii "a" ++ cr; says = Faulty 2 (LoneReturn 1) }
    ∷ []

-- of files that are given whole
pub examples : map (λ (e : Example). answer 44 true e.file) table ≡ map (λ (e : Example). e.says) table
unfolding pick is_stop is_special is up_to inner_len return_of stop_of closed plain_by quoted_by cell_of line_by line_from line window is_cut is_over place_of end_len counted row_by refused answer_by answer_of line_of answer
examples = refl

-- of blocks that the file goes on behind: what is not ended, a carriage return or a quote at the end, a fault whose line is not
abbrev waiting : List Example
waiting =
    record { file = ascii "a,b"; says = More }
    ∷ record { file = ascii "a,b" ++ cr; says = More }
    ∷ record { file = q ++ ascii "a" ++ lf ++ q; says = More }
    ∷ record { file = []; says = More }
    ∷ record { file = ascii "a" ++ q ++ ascii "b"; says = More }
    ∷ record { file = ascii "a" ++ q ++ ascii "b" ++ lf; says = Faulty 4 (QuoteInside 1) }
    ∷ record { file = ascii "a" ++ cr ++ lf; says = Row 3 1 }
    ∷ []

pub waits : map (λ (e : Example). answer 44 false e.file) waiting ≡ map (λ (e : Example). e.says) waiting
unfolding pick is_stop is_special is up_to inner_len return_of stop_of closed plain_by quoted_by cell_of line_by line_from line window is_cut is_over place_of end_len counted row_by refused answer_by answer_of line_of answer
waits = refl

-- the separators: comma, semicolon and tab
pub separators : byte_of Comma ∷ byte_of Semicolon ∷ byte_of Tab ∷ [] ≡ ascii ",;" ++ 9 ∷ []
separators = refl

-- two hundred and fifty-six cells are a row, and one more is not
abbrev commas : ℕ → List ℕ
commas zero = []
commas (suc n) = 44 ∷ commas n

pub many : (answer 44 true (commas 255) ≡ Row 255 256) × (answer 44 true (commas 256 ++ 10 ∷ []) ≡ Faulty 257 TooMany)
unfolding pick is_stop is_special is up_to inner_len return_of stop_of closed plain_by quoted_by cell_of line_by line_from line window is_cut is_over place_of end_len counted row_by refused answer_by answer_of line_of answer
many = (refl, refl)

-- the places of cells, as the table gets them, and the texts; nothing is stored behind them, nor of what is behind a fault
pub places : table_after 44 true (ascii "a," ++ q ++ ascii "b" ++ q ++ q ++ q ++ ascii ",") (7 ∷ 7 ∷ 7 ∷ 7 ∷ 7 ∷ 7 ∷ 7 ∷ []) ≡ 0 ∷ 1 ∷ 3 ∷ 6 ∷ 8 ∷ 8 ∷ 7 ∷ []
unfolding pick is_stop is_special is up_to inner_len return_of stop_of closed plain_by quoted_by cell_of line_by line_from line window is_cut is_over numbers listed line_of table_after
places = refl

pub before-fault : table_after 44 true (ascii "a,b" ++ q ++ ascii ",c") (7 ∷ 7 ∷ 7 ∷ 7 ∷ []) ≡ 0 ∷ 1 ∷ 7 ∷ 7 ∷ []
unfolding pick is_stop is_special is up_to inner_len return_of stop_of closed plain_by quoted_by cell_of line_by line_from line window is_cut is_over numbers listed line_of table_after
before-fault = refl

pub texts : texts_of (ascii "a," ++ q ++ ascii "b" ++ q ++ q ++ q ++ ascii ",") (line_of 44 true (ascii "a," ++ q ++ ascii "b" ++ q ++ q ++ q ++ ascii ",")).cells ≡ ascii "a" ∷ (ascii "b" ++ q) ∷ [] ∷ []
unfolding pick is_stop is_special is up_to inner_len return_of stop_of closed plain_by quoted_by cell_of line_by line_from line window is_cut is_over line_of undoubled own_bytes text_of texts_of
texts = refl

-- copying: room for the own bytes, or none
pub copies : (copied (97 ∷ 34 ∷ 34 ∷ []) 3 ≡ Some 2) × (copied (97 ∷ 34 ∷ 34 ∷ []) 2 ≡ None) × (copied_into (97 ∷ 34 ∷ 34 ∷ []) (1 ∷ 2 ∷ 3 ∷ []) ≡ 97 ∷ 34 ∷ 3 ∷ []) × (copied_into (97 ∷ 34 ∷ 34 ∷ []) (1 ∷ 2 ∷ []) ≡ 1 ∷ 2 ∷ [])
unfolding undoubled copied copied_into pick
copies = (refl, refl, refl, refl)

-- the rest of a line
pub skips : (skipped false (ascii "ab" ++ lf ++ ascii "c") ≡ Ended 3) × (skipped true (ascii "ab") ≡ Ended 2) × (skipped false (ascii "ab") ≡ Wait) × (skipped true [] ≡ Over)
unfolding skipped window up_to pick
skips = (refl, refl, refl, refl)

-- line feeds, and ill-formed bytes: a lone continuation byte, a truncated character, an overlong form, a surrogate
pub feeds-of : feeds (ascii "a" ++ lf ++ cr ++ lf) ≡ 2
unfolding feeds one_if pick
feeds-of = refl

pub ill-formed : (utf8_end (97 ∷ 0xC3 ∷ 0xA9 ∷ 98 ∷ []) ≡ 4) × (utf8_end (97 ∷ 0x80 ∷ []) ≡ 1) × (utf8_end (97 ∷ 0xE2 ∷ 0x82 ∷ []) ≡ 1) × (utf8_end (0xC0 ∷ 0x80 ∷ []) ≡ 0) × (utf8_end (0xED ∷ 0xA0 ∷ 0x80 ∷ []) ≡ 0)
unfolding utf8_end utf8_from first decode decode2 decode3 decode4 len_of is_cont is_surrogate len_d pick
ill-formed = (refl, refl, refl, refl, refl)

-- rows as they are written
pub written : cells_text 44 (ascii "a") ((ascii "b,c") ∷ (ascii "d" ++ q) ∷ [] ∷ []) ≡ ascii "a," ++ q ++ ascii "b,c" ++ q ++ ascii "," ++ q ++ ascii "d" ++ q ++ q ++ q ++ ascii ","
unfolding doubles any_special is_special cell_text cells_text pick
written = refl

pub written-file : file_text 59 (record { head = ascii "a"; tail = [] } ∷ record { head = []; tail = ascii "b" ∷ [] } ∷ []) ≡ ascii "a" ++ cr ++ lf ++ ascii ";b" ++ cr ++ lf
unfolding doubles any_special is_special cell_text cells_text file_text pick
written-file = refl
