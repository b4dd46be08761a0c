-- Upper case keeps the number of bytes, and of ASCII it is one byte.
-- Assumes nothing.
use mathlib.Core.Path.{◌≡◌, sym, ap, ◌∙◌}
use mathlib.Core.Bool.{true, false≢true}
use mathlib.Core.List.{append-nil}
use Prim.Native.Nat.{ℕ, ◌≤◌, ◌<◌}
use native.Mathlib.Omega.{arith}
use native.Mathlib.Decide.{dec_lt}
use borrow.Author.Tests.{lt-leb, ne_eqb}
use lib.ListN.{length}
use Rattle.chars.specs.Pick.{pick}
use Rattle.chars.specs.Utf8.{encode, encode_all}
use Rattle.chars.specs.Classes.{within}
use Rattle.chars.specs.Upper.{loses32, upper_of, codes_of}
use Rattle.chars.specs.declared.Upper.{Upper}
use Rattle.chars.specs.declared.Upper.TheVariants.{One, Two}
use Rattle.chars.proofs.Below.{agree}
use Rattle.chars.proofs.Cases.{by-test}
use Rattle.chars.proofs.Classes.{within-past}

-- a letter that loses 32 is at least that
pub loses-above : (c : ℕ) → loses32 c ≡ true → 32 ≤ c
unfolding loses32 within
loses-above c e =
    elim (dec_lt c 32) [
      | yes h ↦ absurd (false≢true (sym (rw (lt-leb 0x61 c (omega arith), lt-leb 0xE0 c (omega arith), lt-leb 0xF8 c (omega arith))) ∙ e))
      | no h ↦ omega (arith, h)
    ]

-- above U+00FF every character stays as it is
pub upper-far : (c : ℕ) → 256 ≤ c → upper_of c ≡ One c
unfolding upper_of loses32 pick
upper-far c h =
    rw (
      within-past 0x61 0x7A c (omega arith),
      within-past 0xE0 0xF6 c (omega arith),
      within-past 0xF8 0xFE c (omega arith),
      ne_eqb c 0xFF (λ (e : c ≡ 0xFF). omega arith),
      ne_eqb c 0xB5 (λ (e : c ≡ 0xB5). omega arith),
      ne_eqb c 0xDF (λ (e : c ≡ 0xDF). omega arith),
    )

-- the bytes of a character's upper case are as many as the character's
pub upper-length : (c : ℕ) → length (encode_all (codes_of (upper_of c))) ≡ length (encode c)
unfolding encode_all codes_of upper_of loses32 within encode pick
upper-length c =
    elim (dec_lt c 256) [
      | yes h ↦ agree (λ (c : ℕ). length (encode_all (codes_of (upper_of c)))) (λ (c : ℕ). length (encode c)) 256 tt c h
      | no h ↦ ap (λ (u : Upper). length (encode_all (codes_of u))) (upper-far c (omega (arith, h))) ∙ ap length (append-nil (encode c))
    ]

-- what is known of an upper case: its codes are no larger than the largest one
pub data Small : Upper → Type 0 where
  small_one : {a : ℕ} → a < 0x110000 → Small (One a)
  small_two : {a b : ℕ} → a < 0x110000 → b < 0x110000 → Small (Two a b)

pub upper-small : (c : ℕ) → c < 0x110000 → Small (upper_of c)
unfolding upper_of
upper-small c h =
    by-test Small _ (λ _. small_one (omega arith))
    (λ _. by-test Small _ (λ _. small_one (omega arith))
    (λ _. by-test Small _ (λ _. small_one (omega arith)) (λ _. by-test Small _ (λ _. small_two (omega arith) (omega arith)) (λ _. small_one h))))
