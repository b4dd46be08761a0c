-- Bytes as digits, byte by byte. Assumes nothing.
use mathlib.Core.Path.{◌≡◌, refl, ap, ◌∙◌}
use mathlib.Core.Bool.{Bool, true, false}
use mathlib.Core.List.{List, [], ◌∷◌, ◌++◌}
use Prim.Native.Nat.{ℕ, suc, ◌+◌, ◌*◌, ◌/◌, ◌%◌, ◌≤◌, ◌<◌}
use native.Mathlib.Numerals.{add-one}
use native.Mathlib.Omega.{arith}
use lib.ListN.{length, get_or, drop, set, length-append, drop_of_length-le}
use lib.Seq.{sets, drop-cons}
use lib.Bits.{bit_and, bit_or}
use Rattle.chars.specs.Pick.{pick}
use Rattle.chars.proofs.Below.{agree}
use Rattle.chars.proofs.Spelled.{bytes_at, entries}
use Rattle.dates.specs.declared.TimeOffset.{TimeOffset}
use Rattle.dates.specs.declared.TimeOffset.TheVariants.{Utc, Offset}
use Rattle.std.specs.Prelude.{Option, Some, None}
use Rattle.dates.specs.declared.Time.{Time}
use Rattle.dates.specs.declared.Datetime.{Datetime}
use Rattle.dates.specs.declared.DateValue.{DateValue}
use Rattle.dates.specs.declared.DateValue.TheVariants.{At, After, Before, Between}
use Rattle.dates.specs.declared.Date.{Date}
use Rattle.dates.specs.Value.{season_number}
use Rattle.refusals.specs.declared.Refusal.{Refusal}
use Rattle.refusals.specs.Refusal.{number}
use Rattle.codes.specs.Words.{twos}
use Rattle.puts.specs.Answers.{Put}
use Rattle.puts.proofs.Puts.{as-text, both, kept}
use Rattle.answers.specs.Answer.{glyph, hex_text, word_bytes, month_byte, day_byte, bit, marks, shift_bytes, offset_bytes, time_bytes, datetime_bytes, end_bytes, end_length, shape, ends_bytes, long_bytes, bytes_with, accepted_bytes, refused_bytes, line_of, accepted_line}
use Rattle.answers.specs.Shapes.{one_line, two_line}

-- two digits a byte
pub length-hex : (t : List ℕ) → length (hex_text t) ≡ 2 * length t
unfolding hex_text
length-hex [] = refl
length-hex (b ∷ t) = let e = length-hex t in omega arith

pub hex-append : (s t : List ℕ) → hex_text (s ++ t) ≡ hex_text s ++ hex_text t
unfolding hex_text
hex-append [] t = refl
hex-append (b ∷ s) t = ap (λ (l : List ℕ). glyph (b / 16) ∷ glyph (b % 16) ∷ l) (hex-append s t)

-- the two digits of a byte, and those behind them
pub next-digits : (t out : List ℕ) (at i : ℕ) → i < length t
    → sets (set (set out (at + 2 * i) (glyph (get_or t i 0 / 16))) (at + 2 * i + 1) (glyph (get_or t i 0 % 16))) (at + 2 * (i + 1)) (hex_text (drop (i + 1) t))
    ≡ sets out (at + 2 * i) (hex_text (drop i t))
unfolding hex_text
next-digits t out at i h =
    let e : i + 1 ≡ suc i = omega arith in
    let f : at + 2 * i + 1 ≡ suc (at + 2 * i) = omega arith in
    let g : at + 2 * suc i ≡ suc (suc (at + 2 * i)) = omega arith in
    rw (drop-cons t i 0 h, e, f, g)

pub no-digits : (t : List ℕ) (i : ℕ) → length t ≤ i → hex_text (drop i t) ≡ []
unfolding hex_text
no-digits t i h = rw (drop_of_length-le t {i = i} h)

-- both digits of a byte as one number, the high one lowest
unfoldable pub digit_pair : ℕ → ℕ
digit_pair b = (b / 16 + 256 * (b % 16) + 0x3030) + 39 * bit_and ((b / 16 + 256 * (b % 16) + 0x0606) / 16) 0x0101

pub first-digit : (b : ℕ) → b < 256 → digit_pair b % 256 ≡ glyph (b / 16)
unfolding digit_pair glyph pick
first-digit b h = agree (λ b. digit_pair b % 256) (λ b. glyph (b / 16)) 256 tt b h

pub second-digit : (b : ℕ) → b < 256 → digit_pair b / 256 ≡ glyph (b % 16)
unfolding digit_pair glyph pick
second-digit b h = agree (λ b. digit_pair b / 256) (λ b. glyph (b % 16)) 256 tt b h

-- the two bits
pub packed : (u a : Bool) → bit_or (bit_and (bit u) 1) (bit_and (bit a) 1 * 2 % 256) ≡ marks u a
unfolding bit marks
packed true true = refl
packed true false = refl
packed false true = refl
packed false false = refl

-- bytes, then others
pub hex-both : (a b : List ℕ) {l m p : List ℕ} {i j k : ℕ} → Put (hex_text a) l i m j → Put (hex_text b) m j p k → Put (hex_text (a ++ b)) l i p k
hex-both a b p q = as-text (hex-append a b) (both p q)

-- the room behind them
pub hex-room : (a : List ℕ) {l m : List ℕ} {i j : ℕ} → Put (hex_text a) l i m j → (j ≡ i + 2 * length a) × (length m ≡ length l)
hex-room a p = (let e = length-hex a in omega (arith, p.behind), kept p)

-- a byte, digit by digit
pub byte_put : (out : List ℕ) (at b : ℕ) {h l : ℕ} → h ≡ glyph (b / 16) → l ≡ glyph (b % 16) → Put (hex_text (b ∷ [])) out at (set (set out at h) (at + 1) l) (at + 2)
unfolding hex_text
byte_put out at b e f = record { behind = refl; bytes = rw (e, f, add-one at) refl }

-- bytes by another name
pub hex-as : {a b l m : List ℕ} {i j : ℕ} → a ≡ b → Put (hex_text b) l i m j → Put (hex_text a) l i m j
hex-as e p = as-text (ap hex_text e) p

pub length_shift : (o : TimeOffset) → length (shift_bytes o) ≡ 3
unfolding shift_bytes
length_shift Utc = refl
length_shift (Offset true h m) = refl
length_shift (Offset false h m) = refl

pub length-offset : (o : Option TimeOffset) → length (offset_bytes o) ≡ 3
unfolding offset_bytes
length-offset None = refl
length-offset (Some o) = length_shift o

pub length-time : (t : Option Time) → length (time_bytes t) ≡ 7
unfolding time_bytes
length-time None = refl
length-time (Some t) = let e = length-offset t.offset in omega arith

pub length-datetime : (d : Datetime) → length (datetime_bytes d) ≡ 13
unfolding datetime_bytes
length-datetime d = let e = length-time d.time in omega arith

pub no_time : {t : Option Time} → t ≡ None → 0 ∷ 0 ∷ 0 ∷ 0 ∷ 0 ∷ 0 ∷ 0 ∷ [] ≡ time_bytes t
unfolding time_bytes
no_time e = rw e refl

pub some-time : {t : Option Time} {u : Time} {o : List ℕ} → t ≡ Some u → o ≡ offset_bytes u.offset → (1 ∷ u.hour ∷ u.minute ∷ u.second ∷ []) ++ bytes_at 3 0 o ≡ time_bytes t
unfolding time_bytes
some-time {u = u} {o = o} e g = rw e (ap (λ (l : List ℕ). 1 ∷ u.hour ∷ u.minute ∷ u.second ∷ l) (entries 3 o (ap length g ∙ length-offset u.offset) ∙ g))

pub datetime-is : (d : Datetime) {n m k : ℕ} {w t : List ℕ} → n ≡ twos d.year → w ≡ word_bytes n → m ≡ month_byte d.month → k ≡ day_byte d.day → t ≡ time_bytes d.time
    → bytes_at 4 0 w ++ ((m ∷ k ∷ []) ++ bytes_at 7 0 t) ≡ datetime_bytes d
unfolding datetime_bytes
datetime-is d {m = m} {k = k} {w = w} {t = t} en ew em ek et =
    ap (λ (l : List ℕ). l ++ ((m ∷ k ∷ []) ++ bytes_at 7 0 t)) (entries 4 w (ap length ew))
    ∙ ap (λ (l : List ℕ). w ++ ((m ∷ k ∷ []) ++ l)) (entries 7 t (ap length et ∙ length-time d.time))
    ∙ rw (ew, en, em, ek, et) refl

-- the length of a line
pub length-line : (b : List ℕ) → length (line_of b) ≡ 2 * length b + 1
length-line b = length-append (hex_text b) (0x0A ∷ []) ∙ let e = length-hex b in omega arith

pub length-end : (level : Bool) (d : Datetime) → length (end_bytes level d) ≡ end_length level
unfolding end_bytes end_length
length-end true d = length-append (datetime_bytes d) (season_number d.season ∷ []) ∙ let e = length-datetime d in omega arith
length-end false d = length-datetime d

pub length-one : (level : Bool) (n m : ℕ) (d : Datetime) (text : List ℕ) → length (one_line level n m d text) ≡ 2 * (3 + end_length level + length text) + 1
length-one level n m d text =
    length-line (bytes_with n m (end_bytes level d) text)
    ∙ let e = length-append (end_bytes level d) text in
    let f = length-end level d in
    omega arith

pub length_two : (level : Bool) (m : ℕ) (a b : Datetime) (text : List ℕ) → length (two_line level m a b text) ≡ 2 * (3 + 2 * end_length level + length text) + 1
length_two level m a b text =
    length-line (bytes_with 3 m (end_bytes level a ++ end_bytes level b) text)
    ∙ let e = length-append (end_bytes level a ++ end_bytes level b) text in
    let f = length-append (end_bytes level a) (end_bytes level b) in
    let g = length-end level a in
    let h = length-end level b in
    omega arith

pub length-refused : (e : Refusal) → length (refused_bytes e) ≡ 17
unfolding refused_bytes
length-refused e = refl

-- one Datetime or two
ends-most : (level : Bool) (v : DateValue) → length (ends_bytes level v) ≤ 2 * end_length level
unfolding ends_bytes
ends-most level (At a) = omega (arith, length-end level a)
ends-most level (After a) = omega (arith, length-end level a)
ends-most level (Before a) = omega (arith, length-end level a)
ends-most level (Between a b) = omega (arith, length-append (end_bytes level a) (end_bytes level b), length-end level a, length-end level b)

-- the line of a Date, by the length of its text
pub accepted-most : (level : Bool) (d : Date) (text : List ℕ) → length (accepted_line level d text) ≤ 2 * (3 + 2 * end_length level + length text) + 1
unfolding accepted_bytes
accepted-most level d text =
    omega (arith, length-line (accepted_bytes level d text), length-append (ends_bytes level d.value) text, ends-most level d.value)

-- the end that was put: the Datetime, and by level one the season behind it
pub plain_end : {level : Bool} (d : Datetime) {w : List ℕ} → level ≡ false → w ≡ datetime_bytes d → end_bytes level d ≡ w
unfolding end_bytes
plain_end d e f = rw (e, f) refl

pub season-end : {level : Bool} (d : Datetime) {w : List ℕ} {n : ℕ} → level ≡ true → w ≡ datetime_bytes d → n ≡ season_number d.season → end_bytes level d ≡ w ++ (n ∷ [])
unfolding end_bytes
season-end d e f g = rw (e, f, g) refl

-- the Datetime fits where the end does, and the season behind it
pub end-least : (level : Bool) → 13 ≤ end_length level
unfolding end_length
end-least true = omega arith
end-least false = omega arith

pub end-most : (level : Bool) → end_length level ≤ 14
unfolding end_length
end-most true = omega arith
end-most false = omega arith

-- a line that was put
pub line-put : (b : List ℕ) {l m p : List ℕ} {j k : ℕ} → Put (hex_text b) l 0 m j → Put (0x0A ∷ []) m j p k → Put (line_of b) l 0 p k
line-put b p q = both p q

-- the line of a Date, by what it has
module _ (level : Bool) (d : Date) (text : List ℕ) {m : ℕ} (em : m ≡ marks d.uncertain d.approximate) where
  pub at-line : {a : Datetime} → d.value ≡ At a → one_line level 0 m a text ≡ accepted_line level d text
  unfolding accepted_bytes shape ends_bytes
  at-line e = rw (e, em) refl

  pub after_line : {a : Datetime} → d.value ≡ After a → one_line level 1 m a text ≡ accepted_line level d text
  unfolding accepted_bytes shape ends_bytes
  after_line e = rw (e, em) refl

  pub before-line : {a : Datetime} → d.value ≡ Before a → one_line level 2 m a text ≡ accepted_line level d text
  unfolding accepted_bytes shape ends_bytes
  before-line e = rw (e, em) refl

  pub between-line : {a b : Datetime} → d.value ≡ Between a b → two_line level m a b text ≡ accepted_line level d text
  unfolding accepted_bytes shape ends_bytes
  between-line e = rw (e, em) refl

pub refused-is : (e : Refusal) {n : ℕ} → n ≡ number e.kind → refused_bytes e ≡ (n ∷ []) ++ (long_bytes e.place.0 ++ long_bytes e.place.1)
unfolding refused_bytes
refused-is e en = rw en
