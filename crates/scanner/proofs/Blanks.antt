-- What is white space and what is none, by its first byte.
-- Assumes nothing.
use mathlib.Core.Path.{◌≡◌, refl}
use mathlib.Core.Bool.{Bool, true, false, ◌&&◌}
use mathlib.Core.List.{List}
use Prim.Native.Nat.{ℕ, ◌+◌, ◌≤◌, ◌<◌}
use native.Mathlib.Decide.{dec_lt}
use native.Mathlib.Omega.{arith}
use borrow.Author.Tests.{lt-ltb, le-ltb, lt-leb, ne_eqb}
use lib.Dec.{leb}
use lib.ListN.{length, get_or}
use Rattle.chars.specs.Pick.{pick}
use Rattle.chars.specs.Classes.{within, is_whitespace}
use Rattle.chars.specs.Utf8.{len_of, is_cont, code2, decode2, decode}
use Rattle.chars.specs.declared.Decoded.TheVariants.{Char, Bad}
use Rattle.chars.proofs.Classes.{within-past}
use Rattle.chars.proofs.Laws.{inside_is}
use Rattle.scanner.specs.declared.Class.TheVariants.{Whitespace}
use Rattle.scanner.specs.Class.{in_class}
use Rattle.scanner.specs.Scan.{len_in, match_len}
use Rattle.scanner.proofs.Laws.{match-end}

-- a space
pub space-white : in_class Whitespace 0x20 ≡ true
unfolding in_class is_whitespace within
space-white = refl

-- a character of two bytes from U+00C0 on is none
two-not-white : (n : ℕ) → 0xC0 ≤ n → n < 0x800 → in_class Whitespace n ≡ false
unfolding in_class is_whitespace within
two-not-white n l h =
    rw (
      within-past 0x09 0x0D n (omega arith),
      ne_eqb n 0x20 (λ (e : n ≡ 0x20). omega arith),
      ne_eqb n 0x85 (λ (e : n ≡ 0x85). omega arith),
      ne_eqb n 0xA0 (λ (e : n ≡ 0xA0). omega arith),
      lt-leb 0x2000 n (omega arith),
      lt-leb 0x2028 n (omega arith),
      ne_eqb n 0x202F (λ (e : n ≡ 0x202F). omega arith),
      ne_eqb n 0x205F (λ (e : n ≡ 0x205F). omega arith),
    )

two-len : (a b c d : ℕ) → 0xC3 ≤ a → a < 0xE0 → len_in Whitespace (decode a b c d) ≡ 0
unfolding decode len_of decode2 len_in pick
two-len a b c d l h =
    rw (le-ltb a 0x80 (omega arith), le-ltb a 0xC0 (omega arith), lt-ltb a 0xE0 h) (by-case (is_cont b && leb 0x80 (code2 a b)))
  where
    by-case : (t : Bool) → len_in Whitespace (pick t (Char (code2 a b) 2) Bad) ≡ 0
    by-case true = rw (two-not-white (code2 a b) (omega arith) (omega arith))
    by-case false = refl

pub match-two : (s : List ℕ) (at : ℕ) → 0xC3 ≤ get_or s at 0 → get_or s at 0 < 0xE0 → match_len Whitespace s at ≡ 0
unfolding match_len
match-two s at l h =
    elim (dec_lt at (length s)) [
      | yes m ↦ rw (inside_is s at m) (two-len (get_or s at 0) (get_or s (at + 1) 0) (get_or s (at + 2) 0) (get_or s (at + 3) 0) l h)
      | no m ↦ match-end Whitespace s at (omega arith)
    ]
