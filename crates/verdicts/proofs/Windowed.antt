-- A cell is said to be windowed exactly if the ported reader puts a year of it into the window, whatever characters it has.
-- Assumes nothing.
use Prim.Native.Nat.{ℕ, ◌+◌, ◌<◌}
use mathlib.Core.Path.{◌≡◌, refl, sym, ap, subst, ◌∙◌}
use mathlib.Core.Bool.{Bool, true, false, not, ◌&&◌, ◌||◌}
use mathlib.Core.List.{List, [], ◌∷◌, append-nil}
use native.Mathlib.Omega.{arith}
use borrow.Author.Tests.{leb-true, ltb-false, eqb-true}
use lib.Dec.{eqb, lit<}
use lib.ListN.{length, get_or, take, drop_of_length-le}
use lib.Seq.{take_all}
use Rattle.chars.specs.Pick.{pick}
use Rattle.chars.specs.Classes.{within, is_whitespace, is_ascii_digit, is_numeric}
use Rattle.chars.specs.Utf8.{len_of, decode, first, decode_at, encode_all}
use Rattle.chars.proofs.Cases.{of_test, and-true}
use Rattle.chars.proofs.Spelled.{entries}
use Rattle.scanner.specs.Class.{in_class}
use Rattle.scanner.specs.Scan.{len_in, match_len, walk, eat_while, eat_if, stands_at, part, run_at, next_run}
use Rattle.numbers.specs.declared.Digits.TheVariants.{Two}
use Rattle.numbers.specs.declared.NoNumber.{NoNumber}
use Rattle.numbers.specs.declared.NoNumber.TheVariants.{Panics, Wrong}
use Rattle.refusals.specs.declared.Refusal.{Refusal}
use Rattle.scanner.specs.declared.Cursor.{Cursor}
use Rattle.std.specs.Prelude.{Result, Ok, Err, ℤ}
use Rattle.numbers.specs.Number.{admits, run_of, or_kept, behind_sign, with_sign, signed_at, signed_run, int_of, parse_int}
use Rattle.dates.specs.declared.Date.{Date}
use Rattle.chunks.specs.Characters.{codes}
use Rattle.chunks.specs.Chunks.{chunks_of}
use Rattle.chunks.specs.Check.{fault_of, checked}
use Rattle.chunks.specs.Format.{is_break, normal, chunk_out, chunks_out, formatted}
use Rattle.chunks.specs.Upper.{uppers, uppercase}
use Rattle.chunks.proofs.Answers.{clean-faultless}
use Rattle.chunks.proofs.Proper.{Spells, spells_none, spells_more, spelled-codes, Proper, proper-text}
use Rattle.points.specs.Point.{windowed_int, short_year}
use Rattle.datefield.specs.Text.{first_of, is_blank, is_dots, is_open, trimmed, unmarked}
use Rattle.reading_laws.specs.Field.{on_clean, parsed}
use Rattle.verdicts.specs.Dates.{cell_table}
use Rattle.verdicts.specs.Windows.{stands, has_x, is_int, begins_two, either_two, is_windowed}
use Rattle.verdicts.specs.Century.{text_read, half_before, half_behind, puts_point, puts_half, puts_year}
use Rattle.verdicts.proofs.Fronts.{before, behind, has, number, take-before, drop-behind, stands-has, before-bytes, behind-bytes, has-bytes, reads, number_read, no_number}
use Rattle.verdicts.proofs.Formed.{plain_codes, normal-bytes, plain-spells, before-plain, behind-plain, has-plain, number-plain}
use Rattle.verdicts.proofs.Raised.{upper_all, upper-bytes, upper-spells, before-upper, behind-upper, has-upper, number-upper}
use Rattle.verdicts.proofs.Cut.{Cut, text-cut, spells-front, before-cut, behind-cut, has-cut}

-- ---- the reader's text, by codes

-- a cell without a fault is the bytes of codes, as a Verbatim chunk of it shows
proper-cell : (s : List ℕ) → checked s (cell_table s) ≡ Ok tt → Proper s
unfolding chunks_of fault_of formatted chunks_out chunk_out pick
proper-cell s h =
    let p = proper-text s (1 ∷ length s ∷ 0 ∷ length s ∷ []) (clean-faultless s (cell_table s) h) in
    subst Proper (append-nil (take (length s) s) ∙ take_all (length s) s (omega arith)) p

formatted-cell : (s : List ℕ) → formatted s (cell_table s) ≡ normal false (codes s)
unfolding formatted chunks_of chunks_out chunk_out pick
formatted-cell s = append-nil (normal false (codes (take (length s) s))) ∙ ap (λ (t : List ℕ). normal false (codes t)) (take_all (length s) s (omega arith))

upper-cell : {cs : List ℕ} → Spells cs → uppercase (formatted (encode_all cs) (cell_table (encode_all cs))) ≡ encode_all (upper_all (plain_codes false cs))
unfolding uppercase
upper-cell {cs} p =
    let f = formatted-cell (encode_all cs) ∙ ap (normal false) (spelled-codes p) ∙ normal-bytes false cs in
    ap (λ (t : List ℕ). uppers (codes t)) f ∙ ap uppers (spelled-codes (plain-spells false p)) ∙ upper-bytes (plain_codes false cs)

-- ---- what the reader puts, in the words of what is said of a cell

short-two : (r : Result (ℤ × Cursor) NoNumber) → is_int (windowed_int r) ≡ is_int r
unfolding is_int windowed_int
short-two (Ok (y, c)) = refl
short-two (Err (Wrong c)) = refl
short-two (Err Panics) = refl

-- a short year is one of two digits
pub point-two : (s : List ℕ) → puts_point s ≡ begins_two s
unfolding puts_point begins_two short_year
point-two s = short-two (parse_int s 0 Two)

-- two dots, which are no number
dots : begins_two (0x2E ∷ 0x2E ∷ []) ≡ false
unfolding pick within is_whitespace is_ascii_digit is_numeric len_of decode first decode_at in_class len_in match_len walk eat_while eat_if stands_at part run_at next_run admits run_of or_kept behind_sign with_sign signed_at signed_run int_of parse_int is_int begins_two
dots = refl

dots-none : (s : List ℕ) → is_dots s ≡ true → begins_two s ≡ false
unfolding is_dots
dots-none s e =
    let p = and-true (eqb (length s) 2) _ e in
    let q = and-true (eqb (get_or s 0 0) 0x2E) (eqb (get_or s 1 0) 0x2E) p.1 in
    let is : s ≡ 0x2E ∷ 0x2E ∷ [] = sym (entries 2 s (eqb-true (length s) 2 p.0)) ∙ rw (eqb-true (get_or s 0 0) 0x2E q.0, eqb-true (get_or s 1 0) 0x2E q.1) in
    ap begins_two is ∙ dots

none-two : begins_two [] ≡ false
unfolding begins_two admits
none-two = no_number Two [] refl (omega arith)

pub or-none : (b : Bool) → b || false ≡ b
or-none true = refl
or-none false = refl

-- an open half begins with no digit
open_none : (s : List ℕ) → is_open s ≡ true → begins_two s ≡ false
unfolding is_open is_blank begins_two admits
open_none s e =
    of_test (is_blank s) (λ t. no_number Two s refl (leb-true (length s) _ t)) (λ t. dots-none s (rw t at e))

half-two : (s : List ℕ) → puts_half s ≡ begins_two s
unfolding puts_half pick
half-two s = of_test (is_open s) (λ t. rw (t, open_none s t)) (λ t. rw t (point-two s))

-- without a slash the first half is all of the text, and the second is empty
whole-two : (s : List ℕ) → stands 0x2F s ≡ false → begins_two s ≡ either_two s (first_of 0x2F s)
unfolding stands either_two
whole-two s e =
    let h = ltb-false (first_of 0x2F s) (length s) e in
    rw (take_all (first_of 0x2F s) s h, drop_of_length-le s {i = first_of 0x2F s + 1} (omega arith), none-two) (sym (or-none (begins_two s)))

both : (s : List ℕ) → (puts_half (half_before s) || puts_half (half_behind s)) ≡ either_two s (first_of 0x2F s)
unfolding either_two
both s = rw (half-two (half_before s), half-two (half_behind s))

puts-two : (s : List ℕ) → puts_year s ≡ not (stands 0x58 s) && either_two s (first_of 0x2F s)
unfolding puts_year pick
puts-two s =
    of_test (stands 0x58 s) (λ t. rw t)
    (λ t. rw t (of_test (stands 0x2F s) (λ u. rw u (both s)) (λ u. rw u (point-two s ∙ whole-two s u))))

-- ---- the same of codes

before-spells : {cs : List ℕ} → Spells cs → Spells (before 0x2F cs)
unfolding pick
before-spells spells_none = spells_none
before-spells (spells_more {c} p r) = of_test (eqb c 0x2F) (λ t. rw t spells_none) (λ t. rw t (spells_more p (before-spells r)))

behind-spells : {cs : List ℕ} → Spells cs → Spells (behind 0x2F cs)
unfolding pick
behind-spells spells_none = spells_none
behind-spells (spells_more {c} p r) = of_test (eqb c 0x2F) (λ t. rw t r) (λ t. rw t (behind-spells r))

-- two digits at the front of a half
abbrev half_reads : List ℕ → Bool
half_reads cs = reads Two (encode_all (number cs))

either-codes : {cs : List ℕ} → Spells cs → either_two (encode_all cs) (first_of 0x2F (encode_all cs)) ≡ half_reads (before 0x2F cs) || half_reads (behind 0x2F cs)
unfolding either_two begins_two
either-codes {cs} p =
    rw (
      take-before 0x2F (encode_all cs),
      drop-behind 0x2F (encode_all cs),
      before-bytes 0x2F (lit< tt) cs,
      behind-bytes 0x2F (lit< tt) cs,
      number_read Two (before-spells p),
      number_read Two (behind-spells p),
    )

-- a code stands in a text exactly if it is one of its codes
stands-codes : (b : ℕ) → b < 0x80 → (cs : List ℕ) → stands b (encode_all cs) ≡ has b cs
stands-codes b h cs = stands-has b (encode_all cs) ∙ has-bytes b h cs

-- ---- the theorem, of a cell by its codes

-- a slash and an X, large or small, are no line breaks, and a slash is no white space
slash-break : is_break 0x2F ≡ false
unfolding is_break
slash-break = refl

slash-solid : is_whitespace 0x2F ≡ false
unfolding is_whitespace within
slash-solid = refl

big-break : is_break 0x58 ≡ false
unfolding is_break
big-break = refl

small-break : is_break 0x78 ≡ false
unfolding is_break
small-break = refl

module _ (cs : List ℕ) (p : Spells cs) where
  -- formatted and in upper case, and what is left of that in the text
  abbrev raised_codes : List ℕ
  raised_codes = upper_all (plain_codes false cs)

  cut : Cut raised_codes (unmarked (trimmed (encode_all raised_codes)))
  cut = text-cut raised_codes (upper-spells (plain-spells false p))

  kept-spells : Spells cut.kept
  kept-spells = spells-front cut.kept cut.left (subst Spells cut.whole (upper-spells (plain-spells false p)))

  same_text : text_read (encode_all cs) ≡ encode_all cut.kept
  unfolding text_read
  same_text = ap (λ (t : List ℕ). unmarked (trimmed t)) (upper-cell p) ∙ cut.text

  -- the halves begin with the same numbers, and an X of the text is an X or an x of the cell
  same_first : number (before 0x2F cut.kept) ≡ number (before 0x2F cs)
  same_first =
      sym (before-cut cut.kept cut.idle)
      ∙ ap (λ (l : List ℕ). number (before 0x2F l)) (sym cut.whole)
      ∙ ap number (before-upper (plain_codes false cs))
      ∙ number-upper (before 0x2F (plain_codes false cs))
      ∙ ap number (before-plain 0x2F slash-break refl false cs)
      ∙ number-plain false (before 0x2F cs)

  same_second : number (behind 0x2F cut.kept) ≡ number (behind 0x2F cs)
  same_second =
      sym (behind-cut cut.kept cut.idle)
      ∙ ap (λ (l : List ℕ). number (behind 0x2F l)) (sym cut.whole)
      ∙ ap number (behind-upper (plain_codes false cs))
      ∙ number-upper (behind 0x2F (plain_codes false cs))
      ∙ ap number (behind-plain 0x2F slash-break refl slash-solid false cs)
      ∙ number-plain false (behind 0x2F cs)

  same-x : has 0x58 cut.kept ≡ has 0x58 cs || has 0x78 cs
  same-x =
      sym (has-cut cut.kept cut.idle)
      ∙ ap (has 0x58) (sym cut.whole)
      ∙ has-upper (plain_codes false cs)
      ∙ rw (has-plain 0x58 big-break refl false cs, has-plain 0x78 small-break refl false cs)

  -- what both come to
  abbrev says : Bool
  says = not (has 0x58 cs || has 0x78 cs) && (half_reads (before 0x2F cs) || half_reads (behind 0x2F cs))

  cell-says : is_windowed (encode_all cs) ≡ says
  unfolding is_windowed has_x
  cell-says = rw (stands-codes 0x58 (lit< tt) cs, stands-codes 0x78 (lit< tt) cs, either-codes p)

  text_says : puts_year (text_read (encode_all cs)) ≡ says
  text_says =
      ap puts_year same_text
      ∙ puts-two (encode_all cut.kept)
      ∙ rw (stands-codes 0x58 (lit< tt) cut.kept, either-codes kept-spells, same-x, same_first, same_second)

  x-codes : has_x (encode_all cs) ≡ stands 0x58 (text_read (encode_all cs))
  unfolding has_x
  x-codes =
      rw (stands-codes 0x58 (lit< tt) cs, stands-codes 0x78 (lit< tt) cs)
      (sym same-x ∙ sym (stands-codes 0x58 (lit< tt) cut.kept) ∙ ap (stands 0x58) (sym same_text))

-- ---- the theorems

-- Of every cell that passes the checks it is said that a year of two digits is put into a century exactly if the ported reader, as it takes
-- the text apart, puts one there: a short year of the point, or of a half that is not open, and no X in the text.
pub windowed-clean : (s : List ℕ) → checked s (cell_table s) ≡ Ok tt → is_windowed s ≡ puts_year (text_read s)
windowed-clean s h =
    let p = proper-cell s h in
    subst (λ (t : List ℕ). is_windowed t ≡ puts_year (text_read t)) (sym p.is) (cell-says p.chars p.spells ∙ sym (text_says p.chars p.spells))

-- And a cell has an X, large or small, exactly if that text has an X.
pub x-clean : (s : List ℕ) → checked s (cell_table s) ≡ Ok tt → has_x s ≡ stands 0x58 (text_read s)
x-clean s h =
    let p = proper-cell s h in
    subst (λ (t : List ℕ). has_x t ≡ stands 0x58 (text_read t)) (sym p.is) (x-codes p.chars p.spells)

-- what was accepted passed the checks
pub of-clean : (k : Result (Unit {0}) Refusal) {r : Result Date Refusal} {d : Date} → on_clean k r ≡ Ok d → (k ≡ Ok tt) × (r ≡ Ok d)
unfolding on_clean
of-clean (Ok tt) e = (refl, e)
of-clean (Err f) e = absurd (let z : ◌≡◌ {A = ℕ} 0 1 = cc in omega arith)

-- So of every cell that the ported reader accepts it is said exactly if that reader put a year of it into the window.
pub windowed-exactly : (s : List ℕ) {d : Date} → parsed s (cell_table s) ≡ Ok d → is_windowed s ≡ puts_year (text_read s)
unfolding parsed
windowed-exactly s e = windowed-clean s (of-clean (checked s (cell_table s)) e).0
