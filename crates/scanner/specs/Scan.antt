-- What the scanner's functions find from a place of a text on. A place is a count of bytes from the text's start.
use Rattle.std.specs.Prelude.{ℕ, zero, suc, ◌+◌, ◌-◌, ◌≡◌, List, [], ◌∷◌, Bool, true, false, not, ◌&&◌, leb, eqb, length, take, drop, Option, Some, None}
use Rattle.chars.specs.Pick.{pick}
use Rattle.chars.specs.Utf8.{decode_at}
use Rattle.chars.specs.declared.Decoded.{Decoded}
use Rattle.chars.specs.declared.Decoded.TheVariants.{Char, Bad, End}
use Rattle.scanner.specs.declared.Class.{Class}
use Rattle.scanner.specs.declared.Class.TheVariants.{Whitespace}
use Rattle.scanner.specs.declared.Cursor.{Cursor}
use Rattle.scanner.specs.declared.Run.{Run}
use Rattle.scanner.specs.Class.{in_class}

-- the length of a character of the class; of anything else 0
unfoldable pub len_in : Class → Decoded → ℕ
len_in k (Char code len) = pick (in_class k code) len 0
len_in k Bad = 0
len_in k End = 0

-- the byte length of the character at a place, if it is of the class; else 0
unfoldable pub match_len : Class → List ℕ → ℕ → ℕ
match_len k s at = len_in k (decode_at s at)

-- on by steps until one is 0, at most as often as the number says
unfoldable pub walk : (ℕ → ℕ) → ℕ → ℕ → ℕ
walk step zero at = at
walk step (suc f) at = pick (eqb (step at) 0) at (walk step f (at + step at))

-- the place behind the run of characters of the class that starts at a place: there are no more characters than bytes
unfoldable pub eat_while : Class → List ℕ → ℕ → ℕ
eat_while k s at = walk (match_len k s) (length s) at

-- behind a character of the class, if one stands at the place
unfoldable pub eat_if : Class → List ℕ → ℕ → Option Cursor
eat_if k s at = pick (eqb (match_len k s at) 0) None (Some (record { 0 = at + match_len k s at }))

-- whether the second text begins with the first
unfoldable pub begins : List ℕ → List ℕ → Bool
begins [] s = true
begins (x ∷ t) [] = false
begins (x ∷ t) (y ∷ s) = eqb x y && begins t s

-- behind the text t, if it stands at the place; a place past the end has nothing
unfoldable pub eat_text : List ℕ → List ℕ → ℕ → Option Cursor
eat_text t s at = pick (leb at (length s)) (pick (begins t (drop at s)) (Some (record { 0 = at + length t })) None) None

-- the character at a place, and the place behind it
unfoldable pub eaten : Decoded → ℕ → Option (ℕ × Cursor)
eaten (Char code len) at = Some (code, record { 0 = at + len })
eaten Bad at = None
eaten End at = None

-- the character at a place of a text, and the place behind it
unfoldable pub eat_at : List ℕ → ℕ → Option (ℕ × Cursor)
eat_at s at = eaten (decode_at s at) at

-- whether a character of the class stands at the place
unfoldable pub stands_at : Class → List ℕ → ℕ → Bool
stands_at k s at = not (eqb (match_len k s at) 0)

-- whether the place is the end of the text, or past it
unfoldable pub done_at : List ℕ → ℕ → Bool
done_at s at = leb (length s) at

-- the part of a text from a place to another, as far as the text goes; nothing where the second is before the first
unfoldable pub part : List ℕ → ℕ → ℕ → List ℕ
part s a e = take (e - a) (drop a s)

-- the run of characters of the class that starts at a place, by where it starts and ends
unfoldable pub run_at : Class → List ℕ → ℕ → Run
run_at k s at = record { start = record { 0 = at }; end = record { 0 = eat_while k s at } }

-- such a run behind white space
unfoldable pub next_run : Class → List ℕ → ℕ → Run
next_run k s at = run_at k s (eat_while Whitespace s at)

-- from place i to a place there are characters of the class, one behind the other, and nothing else
pub data AllOf (k : Class) (s : List ℕ) (i : ℕ) : ℕ → Type 0 where
  none : AllOf k s i i
  more : {j code len : ℕ} → AllOf k s i j → decode_at s j ≡ Char code len → in_class k code ≡ true → AllOf k s i (j + len)
