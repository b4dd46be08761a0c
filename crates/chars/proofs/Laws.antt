-- What callers use of the decoding: a character lies within the text and is encoded as the bytes it was read from; an ASCII byte is
-- a character by itself; what stands at a place depends on what the text has from there on.
-- Assumes nothing.
use mathlib.Core.Path.{◌≡◌, refl, sym, ap, subst, ◌∙◌}
use mathlib.Core.Bool.{true, false, false≢true}
use mathlib.Core.List.{List, [], ◌∷◌, ◌++◌}
use Prim.Native.Nat.{ℕ, suc, ◌+◌, ◌-◌, ◌*◌, ◌/◌, ◌%◌, ◌≤◌, ◌<◌, zero-le}
use native.Mathlib.Omega.{arith}
use borrow.Author.Tests.{lt-ltb, le-ltb, ltb-true, ltb-false, leb-true, not-true, le-leb}
use lib.Dec.{ltb, leb, lit<}
use lib.ListN.{length, get_or, take, drop, length-take, length-drop, drop_of_length-le}
use lib.Seq.{drop-cons, get_or-drop}
use Rattle.chars.specs.Ascii.{digit_of}
use Rattle.chars.specs.Pick.{pick}
use Rattle.chars.specs.Utf8.{len_of, is_cont, is_surrogate, code2, code3, code4, decode2, decode3, decode4, decode, first, decode_at, len_d, encode}
use Rattle.chars.specs.declared.Decoded.{Decoded}
use Rattle.chars.specs.declared.Decoded.TheVariants.{Char, Bad, End}
use Rattle.chars.proofs.Cases.{by-test, and-true}
use Rattle.chars.proofs.Encode.{encode_one, encode-two, encode-three, encode-four}

-- the range of the first byte of a character of k bytes
pub data Head (a : ℕ) : ℕ → Type 0 where
  head0 : Head a 0
  head1 : a < 0x80 → Head a 1
  head2 : 0xC0 ≤ a → a < 0xE0 → Head a 2
  head3 : 0xE0 ≤ a → a < 0xF0 → Head a 3
  head4 : 0xF0 ≤ a → a < 0xF8 → Head a 4

pub head_of : (a : ℕ) → Head a (len_of a)
unfolding len_of
head_of a =
    by-test (Head a) _ (λ t. head1 (ltb-true a 0x80 t))
    (λ _. by-test (Head a) _ (λ _. head0)
    (λ e2. by-test (Head a) _ (λ t. head2 (ltb-false a 0xC0 e2) (ltb-true a 0xE0 t))
    (λ e3. by-test (Head a) _ (λ t. head3 (ltb-false a 0xE0 e3) (ltb-true a 0xF0 t))
    (λ e4. by-test (Head a) _ (λ t. head4 (ltb-false a 0xF0 e4) (ltb-true a 0xF8 t)) (λ _. head0)))))

-- the range of a byte that continues a character
pub record Cont (b : ℕ) : Type 0 where
  pub low : 0x80 ≤ b
  pub high : b < 0xC0

pub cont : (b : ℕ) → is_cont b ≡ true → Cont b
unfolding is_cont
cont b e =
    let h = and-true (leb 0x80 b) (ltb b 0xC0) e in
    record { low = leb-true 0x80 b h.0; high = ltb-true b 0xC0 h.1 }

-- six bits behind others, and those others again
shift_div : (x y : ℕ) → (x * 64 + y % 64) / 64 ≡ x
shift_div x y = omega arith

shift-mod : (x y : ℕ) → (x * 64 + y % 64) % 64 ≡ y % 64
shift-mod x y = omega arith

-- a byte that continues a character is its payload bits and its mark
cont-bits : {b : ℕ} → Cont b → 0x80 + b % 64 ≡ b
cont-bits {b} h = omega (arith, h.low, h.high)

module _ (a b : ℕ) (hb : Cont b) where
  encode2 : 0xC0 ≤ a → a < 0xE0 → 0x80 ≤ code2 a b → encode (code2 a b) ≡ a ∷ b ∷ []
  encode2 l h v =
      let e : 0xC0 + a % 32 ≡ a = omega arith in
      rw (encode-two (code2 a b) v (omega arith), shift_div (a % 32) b, shift-mod (a % 32) b, e, cont-bits hb)

  module _ (c : ℕ) (hc : Cont c) where
    encode3 : 0xE0 ≤ a → a < 0xF0 → 0x800 ≤ code3 a b c → encode (code3 a b c) ≡ a ∷ b ∷ c ∷ []
    encode3 l h v =
        let e : 0xE0 + a % 16 ≡ a = omega arith in
        let x : ℕ = a % 16 * 64 + b % 64 in
        rw (
          encode-three (code3 a b c) v (omega arith),
          shift_div x c,
          shift-mod x c,
          shift_div (a % 16) b,
          shift-mod (a % 16) b,
          e,
          cont-bits hb,
          cont-bits hc,
        )

    module _ (d : ℕ) (hd : Cont d) where
      encode4 : 0xF0 ≤ a → a < 0xF8 → 0x10000 ≤ code4 a b c d → encode (code4 a b c d) ≡ a ∷ b ∷ c ∷ d ∷ []
      encode4 l h v =
          let e : 0xF0 + a % 8 ≡ a = omega arith in
          let x : ℕ = a % 8 * 64 + b % 64 in
          let y : ℕ = x * 64 + c % 64 in
          rw (
            encode-four (code4 a b c d) v,
            shift_div y d,
            shift-mod y d,
            shift_div x c,
            shift-mod x c,
            shift_div (a % 8) b,
            shift-mod (a % 8) b,
            e,
            cont-bits hb,
            cont-bits hc,
            cont-bits hd,
          )

-- The ways in which four bytes are decoded: what is to be shown of what they begin with is shown for each.
pub record Ways (P : Decoded → Type 0) (a b c d : ℕ) : Type 0 where
  pub ill : P Bad
  pub one : a < 0x80 → P (Char a 1)
  pub two_bytes : 0xC0 ≤ a → a < 0xE0 → is_cont b ≡ true → 0x80 ≤ code2 a b → P (Char (code2 a b) 2)
  pub three_bytes : 0xE0 ≤ a → a < 0xF0 → is_cont b ≡ true → is_cont c ≡ true → 0x800 ≤ code3 a b c → is_surrogate (code3 a b c) ≡ false → P (Char (code3 a b c) 3)
  pub four_bytes : 0xF0 ≤ a → a < 0xF8 → is_cont b ≡ true → is_cont c ≡ true → is_cont d ≡ true → 0x10000 ≤ code4 a b c d → code4 a b c d ≤ 0x10FFFF → P (Char (code4 a b c d) 4)

module _ {P : Decoded → Type 0} {a b c d : ℕ} (w : Ways P a b c d) where
  two_ways : 0xC0 ≤ a → a < 0xE0 → P (decode2 a b)
  unfolding decode2
  two_ways l h =
      by-test P _ (λ t. let e = and-true _ _ t in w.two_bytes l h e.0 (leb-true 0x80 (code2 a b) e.1)) (λ _. w.ill)

  three_ways : 0xE0 ≤ a → a < 0xF0 → P (decode3 a b c)
  unfolding decode3
  three_ways l h =
      by-test P _
      (λ t. let e3 = and-true _ _ t in
      let e2 = and-true _ _ e3.0 in
      let e1 = and-true _ _ e2.0 in
      w.three_bytes l h e1.0 e1.1 (leb-true 0x800 (code3 a b c) e2.1) (not-true _ e3.1))
      (λ _. w.ill)

  four-ways : 0xF0 ≤ a → a < 0xF8 → P (decode4 a b c d)
  unfolding decode4
  four-ways l h =
      by-test P _
      (λ t. let e4 = and-true _ _ t in
      let e3 = and-true _ _ e4.0 in
      let e2 = and-true _ _ e3.0 in
      let e1 = and-true _ _ e2.0 in
      w.four_bytes l h e1.0 e1.1 e2.1 (leb-true 0x10000 (code4 a b c d) e3.1) (leb-true (code4 a b c d) 0x10FFFF e4.1))
      (λ _. w.ill)

  -- by the length that the first byte says
  by-head : {k : ℕ} → Head a k → P (get_or (Bad ∷ Char a 1 ∷ decode2 a b ∷ decode3 a b c ∷ decode4 a b c d ∷ []) k Bad)
  by-head head0 = w.ill
  by-head (head1 h) = w.one h
  by-head (head2 l h) = two_ways l h
  by-head (head3 l h) = three_ways l h
  by-head (head4 l h) = four-ways l h

  decode-ways : P (decode a b c d)
  unfolding decode
  decode-ways = by-head (head_of a)

-- What a text begins with, by its first four bytes: behind the end there are zeros, which continue nothing.
pub first-ways : (P : List ℕ → Decoded → Type 0) → P [] End → ((t : List ℕ) (a b c d : ℕ) → take 1 t ≡ a ∷ [] → (is_cont b ≡ true → take 2 t ≡ a ∷ b ∷ []) → (is_cont c ≡ true → take 3 t ≡ a ∷ b ∷ c ∷ []) → (is_cont d ≡ true → take 4 t ≡ a ∷ b ∷ c ∷ d ∷ []) → Ways (P t) a b c d) → (t : List ℕ) → P t (first t)
unfolding first is_cont
first-ways P n w [] = n
first-ways P n w (a ∷ []) = decode-ways (w (a ∷ []) a 0 0 0 refl (λ e. absurd (false≢true e)) (λ e. absurd (false≢true e)) (λ e. absurd (false≢true e)))
first-ways P n w (a ∷ b ∷ []) = decode-ways (w (a ∷ b ∷ []) a b 0 0 refl (λ _. refl) (λ e. absurd (false≢true e)) (λ e. absurd (false≢true e)))
first-ways P n w (a ∷ b ∷ c ∷ []) = decode-ways (w (a ∷ b ∷ c ∷ []) a b c 0 refl (λ _. refl) (λ _. refl) (λ e. absurd (false≢true e)))
first-ways P n w (a ∷ b ∷ c ∷ d ∷ r) = decode-ways (w (a ∷ b ∷ c ∷ d ∷ r) a b c d refl (λ _. refl) (λ _. refl) (λ _. refl))

-- What is known of what a text t begins with: a character has some bytes and no more than t, its code is no larger
-- than the largest one, and the bytes are those of the code.
pub data Sound (t : List ℕ) : Decoded → Type 0 where
  char : {k code : ℕ} → 0 < k → k ≤ length t → code < 0x110000 → encode code ≡ take k t → Sound t (Char code k)
  bad : Sound t Bad
  end : Sound t End

sound-char : (t : List ℕ) (k : ℕ) (u : List ℕ) {code : ℕ} → take k t ≡ u → length u ≡ k → 0 < k → code < 0x110000 → encode code ≡ u → Sound t (Char code k)
sound-char t k u e l h m f = char {k = k} h (omega (arith, length-take k t, ap length e)) m (f ∙ sym e)

pub first-sound : (t : List ℕ) → Sound t (first t)
first-sound =
    first-ways Sound end λ t a b c d h1 h2 h3 h4.
    record {
      ill = bad;
      one = λ h. sound-char t 1 (a ∷ []) h1 refl (lit< tt) (omega arith) (encode_one a h);
      two_bytes = λ l h e v. sound-char t 2 (a ∷ b ∷ []) (h2 e) refl (lit< tt) (omega arith) (encode2 a b (cont b e) l h v);
      three_bytes = λ l h e f v _. sound-char t 3 (a ∷ b ∷ c ∷ []) (h3 f) refl (lit< tt) (omega arith) (encode3 a b (cont b e) c (cont c f) l h v);
      four_bytes = λ l h e f g v m. sound-char t 4 (a ∷ b ∷ c ∷ d ∷ []) (h4 g) refl (lit< tt) (omega arith) (encode4 a b (cont b e) c (cont c f) d (cont d g) l h v);
    }

-- the bytes of a character, with anything behind them
module _ (a b : ℕ) where
  pub two_is : (r : List ℕ) → 0xC0 ≤ a → a < 0xE0 → is_cont b ≡ true → 0x80 ≤ code2 a b → first (a ∷ b ∷ r) ≡ Char (code2 a b) 2
  unfolding first decode len_of decode2 pick
  two_is r l h e v = rw (le-ltb a 0x80 (omega arith), le-ltb a 0xC0 l, lt-ltb a 0xE0 h, e, le-leb 0x80 (code2 a b) v)

  pub three-is : (c : ℕ) (r : List ℕ) → 0xE0 ≤ a → a < 0xF0 → is_cont b ≡ true → is_cont c ≡ true → 0x800 ≤ code3 a b c → is_surrogate (code3 a b c) ≡ false → first (a ∷ b ∷ c ∷ r) ≡ Char (code3 a b c) 3
  unfolding first decode len_of decode3 pick
  three-is c r l h e f v n =
      rw (le-ltb a 0x80 (omega arith), le-ltb a 0xC0 (omega arith), le-ltb a 0xE0 l, lt-ltb a 0xF0 h, e, f, le-leb 0x800 (code3 a b c) v, n)

  pub four_is : (c d : ℕ) (r : List ℕ) → 0xF0 ≤ a → a < 0xF8 → is_cont b ≡ true → is_cont c ≡ true → is_cont d ≡ true → 0x10000 ≤ code4 a b c d → code4 a b c d ≤ 0x10FFFF → first (a ∷ b ∷ c ∷ d ∷ r) ≡ Char (code4 a b c d) 4
  unfolding first decode len_of decode4 pick
  four_is c d r l h e f g v m =
      rw (
        le-ltb a 0x80 (omega arith),
        le-ltb a 0xC0 (omega arith),
        le-ltb a 0xE0 (omega arith),
        le-ltb a 0xF0 l,
        lt-ltb a 0xF8 h,
        e,
        f,
        g,
        le-leb 0x10000 (code4 a b c d) v,
        le-leb (code4 a b c d) 0x10FFFF m,
      )

-- an ASCII byte is a character by itself
pub first-ascii : (a : ℕ) (t : List ℕ) → a < 128 → first (a ∷ t) ≡ Char a 1
unfolding first decode len_of pick
first-ascii a t l = rw (lt-ltb a 128 l)

-- what is read as a character is read as it whatever stands behind it
data Firm (t : List ℕ) : Decoded → Type 0 where
  firm : {k code : ℕ} → ((r : List ℕ) → first (take k t ++ r) ≡ Char code k) → Firm t (Char code k)
  ill : Firm t Bad
  none : Firm t End

first-firm : (t : List ℕ) → Firm t (first t)
first-firm =
    first-ways Firm none λ t a b c d h1 h2 h3 h4.
    record {
      ill = ill;
      one = λ h. firm (λ r. rw h1 (first-ascii a r h));
      two_bytes = λ l h e v. firm (λ r. rw (h2 e) (two_is a b r l h e v));
      three_bytes = λ l h e f v n. firm (λ r. rw (h3 f) (three-is a b c r l h e f v n));
      four_bytes = λ l h e f g v m. firm (λ r. rw (h4 g) (four_is a b c d r l h e f g v m));
    }

of-firm : {t : List ℕ} {code k : ℕ} → Firm t (Char code k) → (r : List ℕ) → first (take k t ++ r) ≡ Char code k
of-firm (firm f) = f

pub first-kept : (t r : List ℕ) {code k : ℕ} → first t ≡ Char code k → first (take k t ++ r) ≡ Char code k
first-kept t r e = of-firm (subst (Firm t) e (first-firm t)) r

-- only a text that is empty begins with nothing
data Begun (t : List ℕ) : Decoded → Type 0 where
  begun : {k code : ℕ} → Begun t (Char code k)
  ill : Begun t Bad
  over : t ≡ [] → Begun t End

first-begun : (t : List ℕ) → Begun t (first t)
first-begun =
    first-ways Begun (over refl) λ t a b c d h1 h2 h3 h4.
    record { ill = ill; one = λ _. begun; two_bytes = λ _ _ _ _. begun; three_bytes = λ _ _ _ _ _ _. begun; four_bytes = λ _ _ _ _ _ _ _. begun }

of-over : {t : List ℕ} → Begun t End → t ≡ []
of-over (over e) = e

pub first-end : (t : List ℕ) → first t ≡ End → t ≡ []
first-end t e = of-over (subst (Begun t) e (first-begun t))

pub sound : (s : List ℕ) (at : ℕ) → Sound (drop at s) (decode_at s at)
unfolding decode_at
sound s at = first-sound (drop at s)

-- the same, of a character that was found
pub record OfChar (s : List ℕ) (at code k : ℕ) : Type 0 where
  pub some : 0 < k
  pub inside : k ≤ length s - at
  pub below : code < 0x110000
  pub bytes : encode code ≡ take k (drop at s)
  pub long : length (encode code) ≡ k

of_char : (s : List ℕ) (at : ℕ) {code k : ℕ} → Sound (drop at s) (Char code k) → OfChar s at code k
of_char s at (char {k} {code} a b d c) =
    record {
      some = a;
      inside = omega (arith, b, length-drop at s);
      below = d;
      bytes = c;
      long = omega (arith, ap length c, length-take k (drop at s));
    }

pub found : (s : List ℕ) (at : ℕ) {code k : ℕ} → decode_at s at ≡ Char code k → OfChar s at code k
found s at e = of_char s at (subst (Sound (drop at s)) e (sound s at))

within : {t : List ℕ} {r : Decoded} → Sound t r → len_d r ≤ length t
unfolding len_d
within (char a b c d) = b
within bad = zero-le
within end = zero-le

-- the character at a place lies within the text
pub fits : (s : List ℕ) (at : ℕ) → len_d (decode_at s at) ≤ length s - at
fits s at = omega (arith, within (sound s at), length-drop at s)

-- behind the end there is nothing
pub past_end : (s : List ℕ) (at : ℕ) → length s ≤ at → decode_at s at ≡ End
unfolding decode_at first
past_end s at h = rw (drop_of_length-le s h)

-- within the text the four bytes at the place decide
pub inside_is : (s : List ℕ) (at : ℕ) → at < length s → decode_at s at ≡ decode (get_or s at 0) (get_or s (at + 1) 0) (get_or s (at + 2) 0) (get_or s (at + 3) 0)
unfolding decode_at first
inside_is s at h =
    let e0 : suc at + 0 ≡ at + 1 = omega arith in
    let e1 : suc at + 1 ≡ at + 2 = omega arith in
    let e2 : suc at + 2 ≡ at + 3 = omega arith in
    rw (drop-cons s at 0 h, get_or-drop (suc at) s 0 0, get_or-drop (suc at) s 1 0, get_or-drop (suc at) s 2 0, e0, e1, e2)

-- an ASCII byte is a character by itself
pub ascii : (s : List ℕ) (at : ℕ) → at < length s → get_or s at 0 < 128 → decode_at s at ≡ Char (get_or s at 0) 1
unfolding decode_at
ascii s at h l = rw (drop-cons s at 0 h) (first-ascii _ _ l)

-- what stands at a place depends on what the text has from there on
pub decode-same : (s t : List ℕ) (i j : ℕ) → drop i s ≡ drop j t → decode_at s i ≡ decode_at t j
unfolding decode_at
decode-same s t i j e = ap first e

-- a digit's byte says the digit
pub digit-is : (d : ℕ) → d < 10 → digit_of (48 + d) ≡ d
unfolding digit_of pick
digit-is d h = simp (le-ltb (48 + d) 0x30 (omega arith), lt-ltb (48 + d) 0x3A (omega arith)) (omega arith)
