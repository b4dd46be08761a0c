-- A text without the white space at its ends.
use Rattle.std.specs.Prelude.{ℕ, ◌+◌, ◌-◌, ◌≤◌, ◌≡◌, false, List, [], length}
use Rattle.chars.specs.Utf8.{decode_at}
use Rattle.chars.specs.declared.Decoded.{Decoded}
use Rattle.chars.specs.declared.Decoded.TheVariants.{Char, Bad, End}
use Rattle.scanner.specs.declared.Class.TheVariants.{Whitespace}
use Rattle.scanner.specs.Class.{in_class}
use Rattle.scanner.specs.Scan.{walk, eat_while, part, AllOf}

-- from place i to behind the character at place a, counted in bytes; 0 where there is none
unfoldable pub step_by : ℕ → ℕ → Decoded → ℕ
step_by i a (Char code len) = a + len - i
step_by i a Bad = 0
step_by i a End = 0

-- the same, of a text
unfoldable pub step_over : List ℕ → ℕ → ℕ → ℕ
step_over s i a = step_by i a (decode_at s a)

-- past white space and one more character, counted in bytes; 0 where no character is left
unfoldable pub trim_step : List ℕ → ℕ → ℕ
trim_step s i = step_over s i (eat_while Whitespace s i)

-- the place behind the last character from a place on that is no white space
unfoldable pub trim_from : List ℕ → ℕ → ℕ
trim_from s at = walk (trim_step s) (length s) at

-- the place behind the last character that is no white space
unfoldable pub trim_end : List ℕ → ℕ
trim_end s = trim_from s 0

-- the text without the white space at its ends
unfoldable pub trim : List ℕ → List ℕ
trim s = part s (eat_while Whitespace s 0) (trim_end s)

-- at a place no character is left: the text is over, or goes on with what is no character
pub data Over (s : List ℕ) (at : ℕ) : Type 0 where
  past : length s ≤ at → Over s at
  ill : decode_at s at ≡ Bad → Over s at

-- a character that is no white space stands at a place, and ends at another
pub record Solid (s : List ℕ) (at next : ℕ) : Type 0 where
  -- its code
  pub code : ℕ
  -- how many bytes it has
  pub len : ℕ
  -- it stands there
  pub stands : decode_at s at ≡ Char code len
  -- it is no white space
  pub solid : in_class Whitespace code ≡ false
  -- the other place is behind it
  pub ends : at + len ≡ next

-- what is left of a text from place a to place e has no character, or it begins and ends in one that is no white space
pub data Ended (s : List ℕ) (a e : ℕ) : Type 0 where
  empty : part s a e ≡ [] → Ended s a e
  both : {behind last : ℕ} → Solid s a behind → behind ≤ e → a ≤ last → Solid s last e → Ended s a e

-- t is the text s without the white space at its ends: the part from one place to another, between white space alone, with no white
-- space at its ends. Behind the last white space no character is left
pub record Trimmed (s t : List ℕ) : Type 0 where
  -- where the part starts
  pub start : ℕ
  -- where it ends
  pub end : ℕ
  -- where the white space behind it ends
  pub rest : ℕ
  -- the part is what is left
  pub left : t ≡ part s start end
  -- before it stands white space alone
  pub before : AllOf Whitespace s 0 start
  -- and behind it
  pub behind : AllOf Whitespace s end rest
  -- there no character is left
  pub over : Over s rest
  -- it begins and ends in no white space
  pub ends : Ended s start end
