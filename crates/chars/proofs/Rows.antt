-- Which codes the rows of Table 3-7 have: each up to U+10FFFF that is no surrogate, by its own bytes, and no other. Assumes nothing.
use mathlib.Core.Path.{◌≡◌, sym, subst, ◌∙◌}
use mathlib.Core.Logic.{◌↔◌}
use mathlib.Core.Bool.{false}
use mathlib.Core.List.{List, [], ◌∷◌}
use Prim.Native.Nat.{ℕ, ◌+◌, ◌*◌, ◌/◌, ◌%◌, ◌≤◌, ◌<◌}
use native.Mathlib.Omega.{arith}
use native.Mathlib.Decide.{dec_lt}
use lib.ListN.{length}
use lib.Seq.{take-length}
use Rattle.chars.specs.Utf8.{is_surrogate, code2, code3, code4, encode}
use Rattle.chars.specs.Table.{WellFormed}
use Rattle.chars.specs.Table.WellFormed.{row1, row2, row3, row4, row5, row6, row7, row8, row9}
use Rattle.chars.specs.declared.Decoded.TheVariants.{Char}
use Rattle.chars.proofs.Encode.{encode_one, encode-two, encode-three, encode-four}
use Rattle.chars.proofs.Laws.{Cont, Sound, first-sound}
use Rattle.chars.proofs.Laws.Sound.{char}
use Rattle.chars.proofs.Table.{no_surrogate, past-surrogates, three-row, four-row, whole}

-- a row's code is no surrogate
plain : {s : List ℕ} {c : ℕ} → WellFormed s c → is_surrogate c ≡ false
plain (row1 {a} h) = no_surrogate a (omega (arith, h.high))
plain (row2 {a} {b} h k) = no_surrogate (code2 a b) (omega arith)
plain (row3 {a} {b} {c} h k l) = no_surrogate (code3 a b c) (omega (arith, h.low, h.high))
plain (row4 {a} {b} {c} h k l) = no_surrogate (code3 a b c) (omega (arith, h.low, h.high))
plain (row5 {a} {b} {c} h k l) = no_surrogate (code3 a b c) (omega (arith, h.low, h.high, k.low, k.high))
plain (row6 {a} {b} {c} h k l) = past-surrogates (code3 a b c) (omega (arith, h.low, h.high))
plain (row7 {a} {b} {c} {d} h k l m) = past-surrogates (code4 a b c d) (omega (arith, h.low, h.high, k.low, k.high))
plain (row8 {a} {b} {c} {d} h k l m) = past-surrogates (code4 a b c d) (omega (arith, h.low, h.high))
plain (row9 {a} {b} {c} {d} h k l m) = past-surrogates (code4 a b c d) (omega (arith, h.low, h.high))

-- what is known of a text that is one character
record Own (s : List ℕ) (c : ℕ) : Type 0 where
  bytes : s ≡ encode c
  below : c ≤ 0x10FFFF

own : {s : List ℕ} {c : ℕ} → Sound s (Char c (length s)) → Own s c
own {s} (char h l m e) = record { bytes = sym (e ∙ take-length s); below = omega (arith, m) }

-- a byte that continues a character, of six bits
six : (n : ℕ) → Cont (0x80 + n % 64)
six n = record { low = omega arith; high = omega arith }

-- the last six bits behind all others
back : (n m : ℕ) → m ≡ n / 64 → m * 64 + (0x80 + n % 64) % 64 ≡ n
back n m e = omega arith

module _ (c : ℕ) where
  row-two : 0x80 ≤ c → c < 0x800 → WellFormed ((0xC0 + c / 64) ∷ (0x80 + c % 64) ∷ []) c
  row-two l h =
      let a : ℕ = 0xC0 + c / 64 in
      let b : ℕ = 0x80 + c % 64 in
      let e : code2 a b ≡ c = back c (a % 32) (omega arith) in
      subst (WellFormed (a ∷ b ∷ [])) e (row2 {a = a} {b = b} (record { low = omega arith; high = omega arith }) (record { low = omega arith; high = omega arith }))

  row-three : 0x800 ≤ c → c < 0x10000 → is_surrogate c ≡ false → WellFormed ((0xE0 + c / 64 / 64) ∷ (0x80 + c / 64 % 64) ∷ (0x80 + c % 64) ∷ []) c
  row-three l h n =
      let x : ℕ = 0xE0 + c / 64 / 64 in
      let y : ℕ = 0x80 + c / 64 % 64 in
      let z : ℕ = 0x80 + c % 64 in
      let e : code3 x y z ≡ c = back c (x % 16 * 64 + y % 64) (back (c / 64) (x % 16) (omega arith)) in
      subst (WellFormed (x ∷ y ∷ z ∷ [])) e (three-row x y z (six (c / 64)) (six c) (omega arith) (omega arith) (rw e l) (rw e n))

  row-four : 0x10000 ≤ c → c ≤ 0x10FFFF → WellFormed ((0xF0 + c / 64 / 64 / 64) ∷ (0x80 + c / 64 / 64 % 64) ∷ (0x80 + c / 64 % 64) ∷ (0x80 + c % 64) ∷ []) c
  row-four l h =
      let w : ℕ = 0xF0 + c / 64 / 64 / 64 in
      let x : ℕ = 0x80 + c / 64 / 64 % 64 in
      let y : ℕ = 0x80 + c / 64 % 64 in
      let z : ℕ = 0x80 + c % 64 in
      let f : w % 8 * 64 + x % 64 ≡ c / 64 / 64 = back (c / 64 / 64) (w % 8) (omega arith) in
      let e : code4 w x y z ≡ c = back c ((w % 8 * 64 + x % 64) * 64 + y % 64) (back (c / 64) (w % 8 * 64 + x % 64) f) in
      subst (WellFormed (w ∷ x ∷ y ∷ z ∷ [])) e (four-row w x y (six (c / 64 / 64)) (six (c / 64)) z (six c) (omega arith) (rw e l) (rw e h) (omega arith))

  -- the bytes of a code are a row
  row_of : c ≤ 0x10FFFF → is_surrogate c ≡ false → WellFormed (encode c) c
  row_of m n =
      elim (dec_lt c 0x80) [
        | yes h ↦ rw (encode_one c h) (row1 {a = c} (record { low = omega arith; high = omega arith }))
        | no h1 ↦ elim (dec_lt c 0x800) [
          | yes h ↦ rw (encode-two c (omega (arith, h1)) h) (row-two (omega (arith, h1)) h)
          | no h2 ↦ elim (dec_lt c 0x10000) [
            | yes h ↦ rw (encode-three c (omega (arith, h2)) h) (row-three (omega (arith, h2)) h n)
            | no h3 ↦ rw (encode-four c (omega (arith, h3))) (row-four (omega (arith, h3)) m)
          ]
        ]
      ]

-- a row has a sequence for a code exactly if it is the code's own bytes, the code is no surrogate and not above U+10FFFF
pub rows-exact : (s : List ℕ) (c : ℕ) → WellFormed s c ↔ ((s ≡ encode c) × (c ≤ 0x10FFFF) × (is_surrogate c ≡ false))
rows-exact s c = ((λ w. let o = own (subst (Sound s) (whole w) (first-sound s)) in (o.bytes, o.below, plain w)), λ h. subst (λ (t : List ℕ). WellFormed t c) (sym h.0) (row_of c h.1 h.2))
