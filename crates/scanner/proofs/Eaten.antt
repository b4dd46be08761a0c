-- What was eaten, by its bytes: how many they are, and which ones where the class has one character.
-- Assumes nothing.
use mathlib.Core.Path.{◌≡◌, refl, sym, ap, ◌∙◌}
use mathlib.Core.Bool.{true}
use mathlib.Core.List.{List, [], ◌∷◌}
use Prim.Native.Nat.{ℕ, ◌+◌, ◌-◌, ◌≤◌, ◌<◌}
use native.Mathlib.Decide.{dec_lt}
use native.Mathlib.Nat.{le_refl}
use native.Mathlib.Omega.{arith}
use borrow.Author.Tests.{eqb-true}
use lib.ListN.{length, take, drop, length-drop, replicate, replicate-append-replicate}
use lib.Seq.{length-take-le}
use Rattle.chars.specs.Pick.{pick}
use Rattle.chars.specs.Utf8.{decode_at, encode}
use Rattle.chars.specs.declared.Decoded.{Decoded}
use Rattle.chars.specs.declared.Decoded.TheVariants.{Char, Bad, End}
use Rattle.chars.proofs.Cases.{of_test}
use Rattle.chars.proofs.Encode.{encode_one}
use Rattle.chars.proofs.Laws.{found}
use Rattle.scanner.specs.declared.Class.{Class}
use Rattle.scanner.specs.declared.Class.TheVariants.{Is}
use Rattle.scanner.specs.Class.{in_class}
use Rattle.scanner.specs.Scan.{len_in, match_len, eat_while, part}
use Rattle.scanner.proofs.Laws.{match-fits, kept, inside-some}
use Rattle.scanner.proofs.Parts.{part-empty, part-grown}

module _ (k : Class) (s : List ℕ) where
  found_in : (i : ℕ) (d : Decoded) → decode_at s i ≡ d → 0 < len_in k d → (c : ℕ) × (in_class k c ≡ true) × (encode c ≡ take (len_in k d) (drop i s))
  unfolding len_in pick
  found_in i (Char c n) e h = of_test (in_class k c) (λ t. (c, t, rw t (found s i e).bytes)) (λ t. absurd (let z : 0 < 0 = rw t at h in omega arith))
  found_in i Bad e h = absurd (omega arith)
  found_in i End e h = absurd (omega arith)

  -- what matches at a place is a character of the class
  pub matched : (i : ℕ) → 0 < match_len k s i → (c : ℕ) × (in_class k c ≡ true) × (encode c ≡ take (match_len k s i) (drop i s))
  unfolding match_len
  matched i h = found_in i (decode_at s i) refl h

  -- what was eaten has as many bytes as the places say
  pub eaten-long : (at : ℕ) → length (part s at (eat_while k s at)) ≡ eat_while k s at - at
  unfolding part
  eaten-long at =
      let e = eat_while k s at in
      elim (dec_lt at e) [
        | yes l ↦ length-take-le (e - at) (drop at s) (omega (arith, inside-some k s at l, length-drop at s))
        | no l ↦ let z : e - at ≡ 0 = omega (arith, l) in ap (λ (n : ℕ). length (take n (drop at s))) z ∙ sym z
      ]

-- one ASCII character, again and again
module _ (b : ℕ) (h : b < 0x80) (s : List ℕ) where
  same_more : (at i : ℕ) → 0 < match_len (Is b) s i → (at ≤ i) × (part s at i ≡ replicate (i - at) b) → (at ≤ i + match_len (Is b) s i) × (part s at (i + match_len (Is b) s i) ≡ replicate (i + match_len (Is b) s i - at) b)
  unfolding in_class
  same_more at i l p =
      let n = match_len (Is b) s i in
      let m = matched (Is b) s i l in
      let one : take n (drop i s) ≡ b ∷ [] = sym m.2 ∙ ap encode (eqb-true m.0 b m.1) ∙ encode_one b h in
      let long : n ≡ 1 = sym (length-take-le n (drop i s) (omega (arith, match-fits (Is b) s i, length-drop i s))) ∙ ap length one in
      let sum : i - at + 1 ≡ i + n - at = omega (arith, p.0) in (
        omega (arith, p.0),
        part-grown s at i n p.0 ∙ rw (p.1, one) (replicate-append-replicate (i - at) 1 b ∙ ap (λ (j : ℕ). replicate j b) sum),
      )

  pub eaten-same : (at : ℕ) → part s at (eat_while (Is b) s at) ≡ replicate (eat_while (Is b) s at - at) b
  eaten-same at =
      let z : at - at ≡ 0 = omega arith in
      (kept (Is b) s (λ j. (at ≤ j) × (part s at j ≡ replicate (j - at) b)) (same_more at) at (le_refl at, part-empty s at ∙ ap (λ (j : ℕ). replicate j b) (sym z))).1
