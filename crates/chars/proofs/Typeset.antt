-- The typesetter's characters, U+2000..206F, all of them: read, no letter and no number, and upper case leaves them. Assumes nothing.
use mathlib.Core.Path.{◌≡◌}
use mathlib.Core.Bool.{true, false}
use Prim.Native.Nat.{ℕ, ◌≤◌}
use native.Mathlib.Omega.{arith}
use borrow.Author.Tests.{le-leb, lt-leb, ne_eqb}
use Rattle.chars.specs.Classes.{within, is_admitted, is_wide_space, is_whitespace, is_ascii_digit, is_numeric, is_ascii_alphabetic, is_alphabetic, is_alphanumeric}
use Rattle.chars.specs.Upper.{upper_of}
use Rattle.chars.specs.declared.Upper.TheVariants.{One}
use Rattle.chars.proofs.Classes.{within-past}
use Rattle.chars.proofs.Uppers.{upper-far}

module _ (c : ℕ) (l : 0x2000 ≤ c) (h : c ≤ 0x206F) where
  -- each is read
  pub typeset-admitted : is_admitted c ≡ true
  unfolding is_admitted within
  typeset-admitted = rw (lt-leb c 0xFF (omega arith), le-leb 0x2000 c l, le-leb c 0x206F h)

  -- white space among them is the typesetter's
  pub typeset-white : is_whitespace c ≡ is_wide_space c
  unfolding is_whitespace
  typeset-white =
      rw (
        within-past 0x09 0x0D c (omega arith),
        ne_eqb c 0x20 (λ (e : c ≡ 0x20). omega arith),
        ne_eqb c 0x85 (λ (e : c ≡ 0x85). omega arith),
        ne_eqb c 0xA0 (λ (e : c ≡ 0xA0). omega arith),
      )

  -- none is numeric
  pub typeset-not-numeric : is_numeric c ≡ false
  unfolding is_numeric is_ascii_digit
  typeset-not-numeric =
      rw (
        within-past 0x30 0x39 c (omega arith),
        within-past 0xB2 0xB3 c (omega arith),
        ne_eqb c 0xB9 (λ (e : c ≡ 0xB9). omega arith),
        within-past 0xBC 0xBE c (omega arith),
      )

  -- none is alphabetic
  pub typeset-not-alphabetic : is_alphabetic c ≡ false
  unfolding is_alphabetic is_ascii_alphabetic
  typeset-not-alphabetic =
      rw (
        within-past 0x41 0x5A c (omega arith),
        within-past 0x61 0x7A c (omega arith),
        ne_eqb c 0xAA (λ (e : c ≡ 0xAA). omega arith),
        ne_eqb c 0xB5 (λ (e : c ≡ 0xB5). omega arith),
        ne_eqb c 0xBA (λ (e : c ≡ 0xBA). omega arith),
        within-past 0xC0 0xD6 c (omega arith),
        within-past 0xD8 0xF6 c (omega arith),
        within-past 0xF8 0xFF c (omega arith),
      )

  -- so none is alphanumeric
  pub typeset-not-alphanumeric : is_alphanumeric c ≡ false
  unfolding is_alphanumeric
  typeset-not-alphanumeric = rw (typeset-not-alphabetic, typeset-not-numeric)

  -- upper case leaves each as it is
  pub typeset-upper : upper_of c ≡ One c
  typeset-upper = upper-far c (omega arith)
