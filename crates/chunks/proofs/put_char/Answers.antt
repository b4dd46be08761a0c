use Rattle.chars.specs.Utf8.{encode}
use Rattle.chars.proofs.Encode.{encode-four, encode_one, encode-two, encode-three}
use mathlib.Core.List.{[], ◌∷◌}
use lib.ListN.{length, length-set}
use Prim.Native.Nat.{◌+◌, ◌/◌, ◌%◌, ℕ}
use native.Mathlib.Omega.{arith}
use mathlib.Core.Path.{ap, refl, ◌≡◌}
use native.Mathlib.Numerals.{add-one, add-two, add-three}
use borrow.Author.Rules.{rules}
use Rattle.chunks.proofs.put_char.Goals as goal
use Rattle.chunks.proofs.put_char.Goals.{Else-code-lt65536, Then-code-lt128, Then-code-lt2048, Then-code-lt65536}

one : (c : Then-code-lt128) → encode c.args.code ≡ c.args.code ∷ []
one c = encode_one _ c.if-code-lt128.true

two : (c : Then-code-lt2048) → let x : ℕ = c.args.code in encode x ≡ (0xC0 + x / 64) ∷ (0x80 + x % 64) ∷ []
two c = encode-two _ c.if-code-lt128.false c.if-code-lt2048.true

three : (c : Then-code-lt65536) → let x : ℕ = c.args.code in encode x ≡ (0xE0 + x / 64 / 64) ∷ (0x80 + x / 64 % 64) ∷ (0x80 + x % 64) ∷ []
three c = encode-three _ c.if-code-lt2048.false c.if-code-lt65536.true

four : (c : Else-code-lt65536) → let x : ℕ = c.args.code in encode x ≡ (0xF0 + x / 64 / 64 / 64) ∷ (0x80 + x / 64 / 64 % 64) ∷ (0x80 + x / 64 % 64) ∷ (0x80 + x % 64) ∷ []
four c = encode-four _ c.if-code-lt65536.false

pub bounds-buf-n : goal.bounds-buf-n
bounds-buf-n c = omega (arith, ap length (one (goal.at.bounds-buf-n c).Then-code-lt128))

pub returns-then-code-lt128 : goal.returns-then-code-lt128
returns-then-code-lt128 c = rw (one (goal.at.returns-then-code-lt128 c).Then-code-lt128) (refl, refl)

pub bounds-buf-n-then-code-lt2048 : goal.bounds-buf-n-then-code-lt2048
bounds-buf-n-then-code-lt2048 c = omega (arith, ap length (two (goal.at.bounds-buf-n-then-code-lt2048 c).Then-code-lt2048))

pub bounds-buf-n-then-code-lt2048-2 : goal.bounds-buf-n-then-code-lt2048-2
bounds-buf-n-then-code-lt2048-2 c = simp length-set (omega (arith, ap length (two (goal.at.bounds-buf-n-then-code-lt2048-2 c).Then-code-lt2048)))

pub returns-then-code-lt2048 : goal.returns-then-code-lt2048
returns-then-code-lt2048 c = rw (two (goal.at.returns-then-code-lt2048 c).Then-code-lt2048) (refl, rw add-one refl)

pub bounds-buf-n-then-code-lt65536 : goal.bounds-buf-n-then-code-lt65536
bounds-buf-n-then-code-lt65536 c = omega (arith, ap length (three (goal.at.bounds-buf-n-then-code-lt65536 c).Then-code-lt65536))

pub bounds-buf-n-then-code-lt65536-2 : goal.bounds-buf-n-then-code-lt65536-2
bounds-buf-n-then-code-lt65536-2 c = simp length-set (omega (arith, ap length (three (goal.at.bounds-buf-n-then-code-lt65536-2 c).Then-code-lt65536)))

pub bounds-buf-n-then-code-lt65536-3 : goal.bounds-buf-n-then-code-lt65536-3
bounds-buf-n-then-code-lt65536-3 c = simp length-set (omega (arith, ap length (three (goal.at.bounds-buf-n-then-code-lt65536-3 c).Then-code-lt65536)))

pub returns-then-code-lt65536 : goal.returns-then-code-lt65536
returns-then-code-lt65536 c = rw (three (goal.at.returns-then-code-lt65536 c).Then-code-lt65536) (refl, rw (add-one, add-two) refl)

pub bounds-buf-n-2 : goal.bounds-buf-n-2
bounds-buf-n-2 c = omega (arith, ap length (four (goal.at.bounds-buf-n-2 c).Else-code-lt65536))

pub bounds-buf-n-3 : goal.bounds-buf-n-3
bounds-buf-n-3 c = simp length-set (omega (arith, ap length (four (goal.at.bounds-buf-n-3 c).Else-code-lt65536)))

pub bounds-buf-n-4 : goal.bounds-buf-n-4
bounds-buf-n-4 c = simp length-set (omega (arith, ap length (four (goal.at.bounds-buf-n-4 c).Else-code-lt65536)))

pub bounds-buf-n-5 : goal.bounds-buf-n-5
bounds-buf-n-5 c = simp length-set (omega (arith, ap length (four (goal.at.bounds-buf-n-5 c).Else-code-lt65536)))

pub returns : goal.returns
returns c = rw (four (goal.at.returns c).Else-code-lt65536) (refl, rw (add-one, add-two, add-three) refl)
