-- Digits, and lines of them from a place on. Assumes nothing.
use mathlib.Core.Path.{◌≡◌, refl, sym, ap, ◌∙◌}
use mathlib.Core.Bool.{Bool, true, false, ◌&&◌, false≢true}
use mathlib.Core.List.{List, [], ◌∷◌, ◌++◌}
use Prim.Native.Nat.{ℕ, zero, suc, ◌+◌, ◌-◌, ◌*◌, ◌/◌, ◌%◌, ◌≤◌, ◌<◌}
use native.Mathlib.Omega.{arith}
use native.Mathlib.Decide.{dec_lt}
use borrow.Author.Tests.{lt-leb, le-leb, leb-true, ne_eqb, eq-eqb}
use lib.Dec.{leb}
use lib.ListN.{length, get_or, drop, set, length-set, length-drop, drop_of_length-le}
use lib.Seq.{take_all, sets, drop-cons, drop-drop, sets-eq, get_or-set_same, get_or-set_other, set-get_or}
use Rattle.std.proofs.lemmas.Slice.{put_mid-paste}
use borrow.Rule.Slice.PartMut.{put_mid}
use Rattle.chars.specs.Pick.{pick}
use Rattle.chars.proofs.Cases.{of_test}
use Rattle.std.specs.Prelude.{Some, None}
use Rattle.hexes.specs.Hex.{within, is_digit, digit_of, all_digits, bytes_of, half, is_hex, decoded, decoded_into}

and_left : (a b : Bool) → a && b ≡ true → a ≡ true
and_left true b e = refl
and_left false b e = e

and_right : (a b : Bool) → a && b ≡ true → b ≡ true
and_right true b e = e
and_right false b e = absurd (false≢true e)

pub and_assoc : (a b c : Bool) → (a && b) && c ≡ a && (b && c)
and_assoc true b c = refl
and_assoc false b c = refl

pub and-true : (a : Bool) → a && true ≡ a
and-true true = refl
and-true false = refl

-- within: from the low byte to the high one
from-to : (low high b : ℕ) → within low high b ≡ true → (low ≤ b) × (b ≤ high)
from-to low high b e = (leb-true low b (and_left _ _ e), leb-true b high (and_right (leb low b) _ e))

-- the value of a digit by its low bits
pub value-is : (b : ℕ) → is_digit b ≡ true → (b % 16 + 9 * (b / 64) ≡ digit_of b) × (b % 16 + 9 * (b / 64) < 16)
unfolding is_digit digit_of pick
value-is b e =
    of_test (within 0x30 0x39 b)
    (λ q. let h = from-to 0x30 0x39 b q in rw q (omega (arith, h.0, h.1), omega (arith, h.0, h.1)))
    (λ q. of_test (within 0x61 0x66 b)
    (λ r. let h = from-to 0x61 0x66 b r in rw (q, r) (omega (arith, h.0, h.1), omega (arith, h.0, h.1)))
    (λ r. let h = from-to 0x41 0x46 b (rw (q, r) at e) in rw (q, r) (omega (arith, h.0, h.1), omega (arith, h.0, h.1))))

-- from a place on
pub next_is : (line : List ℕ) (i : ℕ) → i < length line → all_digits (drop i line) ≡ is_digit (get_or line i 0) && all_digits (drop (suc i) line)
unfolding all_digits
next_is line i h = rw (drop-cons line i 0 h)

pub none_left : (line : List ℕ) (i : ℕ) → length line ≤ i → all_digits (drop i line) ≡ true
unfolding all_digits
none_left line i h = rw (drop_of_length-le line {i = i} h)

-- and behind a place, where all are digits
rest-digits : (l : List ℕ) (k : ℕ) → all_digits l ≡ true → all_digits (drop k l) ≡ true
unfolding all_digits
rest-digits l zero e = e
rest-digits [] (suc k) e = e
rest-digits (b ∷ l) (suc k) e = rest-digits l k (and_right (is_digit b) _ e)

-- the last block
pub last_block : (line : List ℕ) (at : ℕ) → length line ≤ at + 32 → {r : Bool} → (r && all_digits (drop (at + 32) line)) ≡ all_digits (drop at line) → r ≡ all_digits (drop at line)
last_block line at h {r} e = sym (and-true r) ∙ (rw (none_left line (at + 32) h) at e)

-- it is looked at last, and no other is left
pub ended : (line : List ℕ) (k i : ℕ) → k ≤ i → all_digits (drop i line) ≡ all_digits line → all_digits (drop k line) ≡ all_digits line
ended line k i h e =
    of_test (all_digits (drop k line))
    (λ q. let f : k + (i - k) ≡ i = omega arith in q ∙ sym (rw (drop-drop (i - k) k line, f) at (rest-digits (drop k line) (i - k) q)) ∙ e)
    (λ q. of_test (all_digits line) (λ r. absurd (false≢true (sym q ∙ rest-digits line k r))) (λ r. q ∙ sym r))

-- each of them is one
pub each-digit : (line : List ℕ) (i : ℕ) → all_digits line ≡ true → i < length line → is_digit (get_or line i 0) ≡ true
unfolding all_digits
each-digit [] i e h = absurd (omega arith)
each-digit (b ∷ l) zero e h = and_left _ _ e
each-digit (b ∷ l) (suc i) e h = each-digit l i (and_right (is_digit b) _ e) (omega arith)

-- a digit is no line feed
pub no_feed : (line : List ℕ) (i : ℕ) → all_digits line ≡ true → i < length line → get_or line i 0 ≡ 10 → ⊥
unfolding is_digit
no_feed line i e h q = false≢true (ap is_digit (sym q) ∙ each-digit line i e h)

-- the byte of the pair at a place
pub pair_is : (line : List ℕ) (i : ℕ) → 2 * i + 1 < length line
    → bytes_of (drop (2 * i) line) ≡ (digit_of (get_or line (2 * i) 0) * 16 + digit_of (get_or line (2 * i + 1) 0)) ∷ bytes_of (drop (2 * (i + 1)) line)
pair_is line i h =
    let e : drop (2 * i) line ≡ get_or line (2 * i) 0 ∷ get_or line (2 * i + 1) 0 ∷ drop (2 * (i + 1)) line =
    drop-cons line (2 * i) 0 (omega arith)
    ∙ ap (λ (r : List ℕ). get_or line (2 * i) 0 ∷ r)
    (drop-cons line (suc (2 * i)) 0 (omega arith) ∙ let f : suc (2 * i) ≡ 2 * i + 1 = omega arith in let g : suc (2 * i + 1) ≡ 2 * (i + 1) = omega arith in rw (f, g))
    in
    ap bytes_of e

-- no pair is left
pub no-pair : (l : List ℕ) → length l < 2 → bytes_of l ≡ []
no-pair [] h = refl
no-pair (a ∷ []) h = refl
no-pair (a ∷ b ∷ l) h = absurd (omega arith)

pairs-done : (line : List ℕ) (i : ℕ) → half line ≤ i → bytes_of (drop (2 * i) line) ≡ []
pairs-done line i h = no-pair (drop (2 * i) line) (rw length-drop (omega arith))

-- how many bytes there are
pub length-bytes : (line : List ℕ) → length (bytes_of line) ≡ half line
length-bytes [] = refl
length-bytes (a ∷ []) = omega arith
length-bytes (a ∷ b ∷ l) = let e = length-bytes l in omega arith

-- the store of one byte, and those still to come
pub next-byte : (line frame : List ℕ) (i : ℕ) → 2 * i + 1 < length line
    → sets (set frame i (digit_of (get_or line (2 * i) 0) * 16 + digit_of (get_or line (2 * i + 1) 0))) (i + 1) (bytes_of (drop (2 * (i + 1)) line))
    ≡ sets frame i (bytes_of (drop (2 * i) line))
next-byte line frame i h = let e : i + 1 ≡ suc i = omega arith in rw (pair_is line i h, e)

-- a part of a frame that is stored at once
pub put-part : (frame ys bytes : List ℕ) (at k : ℕ) → ys ≡ bytes → k ≡ length bytes → at + k ≤ length frame → put_mid at k frame ys ≡ sets frame at bytes
put-part frame ys bytes at k e h g =
    put_mid-paste at k frame ys bytes k e refl h ∙ rw (take_all k bytes (omega arith), h) (sym (sets-eq bytes frame at (omega arith)))

-- the byte at a place of a line, and a frame with those from a place on
abbrev pub byte_at : List ℕ → ℕ → ℕ
byte_at line i = digit_of (get_or line (2 * i) 0) * 16 + digit_of (get_or line (2 * i + 1) 0)

abbrev pub rest : List ℕ → List ℕ → ℕ → List ℕ
rest line frame i = sets frame i (bytes_of (drop (2 * i) line))

-- the store of some bytes, and those still to come
pub puts : (line bytes frame : List ℕ) (at : ℕ) → at + length bytes ≤ half line → ((i : ℕ) → i < length bytes → get_or bytes i 0 ≡ byte_at line (at + i))
    → rest line (sets frame at bytes) (at + length bytes) ≡ rest line frame at
puts line [] frame at h f = let e : at + 0 ≡ at = omega arith in rw e refl
puts line (b ∷ bytes) frame at h f =
    let e : at + suc (length bytes) ≡ suc at + length bytes = omega arith in
    let n : at + 1 ≡ suc at = omega arith in
    let z : at + 0 ≡ at = omega arith in
    let is : b ≡ byte_at line at = rw z at (f 0 (omega arith)) in
    let p : rest line (sets (set frame at b) (suc at) bytes) (suc at + length bytes) ≡ rest line (set frame at b) (suc at) =
    puts line bytes (set frame at b) (suc at) (omega arith) (λ i l. let m : at + suc i ≡ suc at + i = omega arith in rw m at (f (suc i) (omega arith)))
    in
    let q : rest line (set frame at b) (suc at) ≡ rest line frame at = rw is (rw n at (next-byte line frame at (omega arith))) in
    rw e (p ∙ q)

-- one byte more of those before a place
pub one_more : (line bytes : List ℕ) (at i b : ℕ) → i < length bytes → b ≡ byte_at line (at + i) → ((k : ℕ) → k < i → get_or bytes k 0 ≡ byte_at line (at + k))
    → (k : ℕ) → k < i + 1 → get_or (set bytes i b) k 0 ≡ byte_at line (at + k)
one_more line bytes at i b h e f k g =
    elim (dec_lt k i) [
      | yes l ↦ get_or-set_other bytes i k b 0 (λ q. omega arith) ∙ f k l
      | no l ↦ let q : k ≡ i = omega arith in rw q (get_or-set_same bytes i b 0 h ∙ e)
    ]

-- what stands before a place stays
before-sets : (f vs : List ℕ) (i j : ℕ) → j < i → get_or (sets f i vs) j 0 ≡ get_or f j 0
before-sets f [] i j h = refl
before-sets f (a ∷ vs) i j h = before-sets (set f i a) vs (suc i) j (omega arith) ∙ get_or-set_other f i j a 0 (λ e. omega arith)

-- and each byte behind it is the line's
byte-in : (line frame : List ℕ) (n k : ℕ) → 2 * (k + n) + 1 < length line → k + n < length frame → get_or (rest line frame k) (k + n) 0 ≡ byte_at line (k + n)
byte-in line frame zero k h g =
    let e : k + 0 ≡ k = omega arith in
    rw (e, ← next-byte line frame k (omega arith))
    (before-sets (set frame k (byte_at line k)) (bytes_of (drop (2 * (k + 1)) line)) (k + 1) k (omega arith) ∙ get_or-set_same frame k (byte_at line k) 0 (omega arith))
byte-in line frame (suc n) k h g =
    let e : k + suc n ≡ (k + 1) + n = omega arith in
    let b = byte_at line k in
    rw (e, ← next-byte line frame k (omega arith)) (byte-in line (set frame k b) n (k + 1) (omega arith) (rw (length-set frame k b) (omega arith)))

-- so bytes that were put may be put again
again : (line before frame : List ℕ) (n j : ℕ) → 2 * (j + n) ≤ length line → j + n ≤ length before → rest line frame (j + n) ≡ rest line before 0 → rest line frame j ≡ rest line before 0
again line before frame zero j h g q = let e : j + 0 ≡ j = omega arith in rw e at q
again line before frame (suc n) j h g q =
    let e : j + suc n ≡ (j + 1) + n = omega arith in
    let z : 0 + j ≡ j = omega arith in
    let b : byte_at line j ≡ get_or frame j 0 =
    sym (rw z at (byte-in line before j 0 (omega arith) (omega arith))) ∙ ap (λ (l : List ℕ). get_or l j 0) (sym q) ∙ before-sets frame (bytes_of (drop (2 * (j + suc n)) line)) (j + suc n) j (omega arith)
    in
    let s : set frame j (byte_at line j) ≡ frame = rw b (set-get_or frame j 0) in
    sym (next-byte line frame j (omega arith)) ∙ rw s (again line before frame n (j + 1) (omega arith) (omega arith) (rw e at q))

pub put-again : (line before frame : List ℕ) (i j : ℕ) → j ≤ i → 2 * i ≤ length line → i ≤ length before → rest line frame i ≡ rest line before 0 → rest line frame j ≡ rest line before 0
put-again line before frame i j l h g q =
    let e : i ≡ j + (i - j) = omega arith in
    again line before frame (i - j) j (omega arith) (omega arith) (rw e at q)

-- and the last of them end it
pub last-put : (line frame : List ℕ) (i : ℕ) → half line ≤ i → frame ≡ rest line frame i
last-put line frame i h = ap (λ (u : List ℕ). sets frame i u) (sym (pairs-done line i h))

-- all bytes at the front
pub bytes-front : (line frame : List ℕ) → half line ≤ length frame → sets frame 0 (bytes_of line) ≡ bytes_of line ++ drop (half line) frame
bytes-front line frame h =
    let e = length-bytes line in
    let f : 0 + length (bytes_of line) ≡ half line = omega arith in
    sets-eq (bytes_of line) frame 0 (omega arith) ∙ ap (λ (j : ℕ). bytes_of line ++ drop j frame) f

-- what is said of a line, and what the frame then is
module _ (line frame : List ℕ) where
  refused : is_hex line (length frame) ≡ false → (None ≡ decoded line (length frame)) × (frame ≡ decoded_into line frame)
  unfolding decoded decoded_into pick
  refused e = rw e (refl, refl)

  pub odd : (length line % 2 ≡ 0 → ⊥) → (None ≡ decoded line (length frame)) × (frame ≡ decoded_into line frame)
  unfolding is_hex
  odd h = refused (rw (ne_eqb (length line % 2) 0 h))

  module _ (even : length line % 2 ≡ 0) where
    pub long : length frame < half line → (None ≡ decoded line (length frame)) × (frame ≡ decoded_into line frame)
    unfolding is_hex
    long h = refused (rw (eq-eqb (length line % 2) 0 even, lt-leb (half line) (length frame) h))

    module _ (fits : half line ≤ length frame) where
      pub foreign : all_digits line ≡ false → (None ≡ decoded line (length frame)) × (frame ≡ decoded_into line frame)
      unfolding is_hex
      foreign e = refused (rw (eq-eqb (length line % 2) 0 even, le-leb (half line) (length frame) fits, e))

      is-hex : all_digits line ≡ true → is_hex line (length frame) ≡ true
      unfolding is_hex
      is-hex e = rw (eq-eqb (length line % 2) 0 even, le-leb (half line) (length frame) fits, e)

      pub good : all_digits line ≡ true → (Some (half line) ≡ decoded line (length frame)) × (sets frame 0 (bytes_of line) ≡ decoded_into line frame)
      unfolding decoded decoded_into pick
      good e = rw (is-hex e) (refl, bytes-front line frame fits)
