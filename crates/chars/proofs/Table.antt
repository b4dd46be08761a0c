-- What is taken for a character, at any place of any text, is just what the rows of the Unicode Standard's Table 3-7 have.
-- Assumes nothing.
use mathlib.Core.Path.{◌≡◌, refl, sym, ap, subst, ◌∙◌}
use mathlib.Core.Logic.{◌↔◌}
use mathlib.Core.Bool.{true, false, false≢true}
use mathlib.Core.List.{List, [], ◌∷◌, ◌++◌, append-nil}
use Prim.Native.Nat.{ℕ, ◌≤◌, ◌<◌}
use native.Mathlib.Omega.{arith}
use native.Mathlib.Decide.{dec_lt}
use borrow.Author.Tests.{lt-ltb, le-ltb, le-leb, lt-leb}
use lib.ListN.{length, take, drop, take-append-drop, length-drop}
use Rattle.chars.specs.Utf8.{is_cont, is_surrogate, code3, code4, first, decode_at}
use Rattle.chars.specs.Table.{In, WellFormed, Begins}
use Rattle.chars.specs.Table.WellFormed.{row1, row2, row3, row4, row5, row6, row7, row8, row9}
use Rattle.chars.specs.Table.Begins.{begins}
use Rattle.chars.specs.declared.Decoded.{Decoded}
use Rattle.chars.specs.declared.Decoded.TheVariants.{Char, Bad, End}
use Rattle.chars.proofs.Laws.{Cont, cont, first-ways, first-ascii, first-end, past_end, two_is, three-is, four_is}

-- a row's bytes are one character
is-cont : (b : ℕ) → In 0x80 0xBF b → is_cont b ≡ true
unfolding is_cont
is-cont b h = rw (le-leb 0x80 b h.low, lt-ltb b 0xC0 (omega (arith, h.high)))

pub no_surrogate : (n : ℕ) → n < 0xD800 → is_surrogate n ≡ false
unfolding is_surrogate
no_surrogate n h = rw (lt-leb 0xD800 n h)

pub past-surrogates : (n : ℕ) → 0xE000 ≤ n → is_surrogate n ≡ false
unfolding is_surrogate
past-surrogates n h = rw (le-leb 0xD800 n (omega arith), le-ltb n 0xE000 h)

-- each sequence of the table is taken for its character, whatever stands behind it
taken : {s : List ℕ} {code : ℕ} → WellFormed s code → (t : List ℕ) → first (s ++ t) ≡ Char code (length s)
taken (row1 {a} h) t = first-ascii a t (omega (arith, h.high))
taken (row2 {a} {b} h k) t = two_is a b t (omega (arith, h.low)) (omega (arith, h.high)) (is-cont b k) (omega (arith, h.low, h.high))
taken (row3 {a} {b} {c} h k l) t =
    three-is a b c t h.low (omega (arith, h.high)) (is-cont b (record { low = omega (arith, k.low); high = k.high })) (is-cont c l) (omega (arith, h.low, h.high, k.low, k.high)) (no_surrogate (code3 a b c) (omega (arith, h.low, h.high)))
taken (row4 {a} {b} {c} h k l) t =
    three-is a b c t (omega (arith, h.low)) (omega (arith, h.high)) (is-cont b k) (is-cont c l) (omega (arith, h.low, h.high)) (no_surrogate (code3 a b c) (omega (arith, h.low, h.high)))
taken (row5 {a} {b} {c} h k l) t =
    three-is a b c t (omega (arith, h.low)) (omega (arith, h.high)) (is-cont b (record { low = k.low; high = omega (arith, k.high) })) (is-cont c l) (omega (arith, h.low, h.high)) (no_surrogate (code3 a b c) (omega (arith, h.low, h.high, k.low, k.high)))
taken (row6 {a} {b} {c} h k l) t =
    three-is a b c t (omega (arith, h.low)) (omega (arith, h.high)) (is-cont b k) (is-cont c l) (omega (arith, h.low, h.high)) (past-surrogates (code3 a b c) (omega (arith, h.low, h.high)))
taken (row7 {a} {b} {c} {d} h k l m) t =
    four_is a b c d t h.low (omega (arith, h.high)) (is-cont b (record { low = omega (arith, k.low); high = k.high })) (is-cont c l) (is-cont d m) (omega (arith, h.low, h.high, k.low, k.high)) (omega (arith, h.low, h.high))
taken (row8 {a} {b} {c} {d} h k l m) t =
    four_is a b c d t (omega (arith, h.low)) (omega (arith, h.high)) (is-cont b k) (is-cont c l) (is-cont d m) (omega (arith, h.low, h.high)) (omega (arith, h.low, h.high))
taken (row9 {a} {b} {c} {d} h k l m) t =
    four_is a b c d t (omega (arith, h.low)) (omega (arith, h.high)) (is-cont b (record { low = k.low; high = omega (arith, k.high) })) (is-cont c l) (is-cont d m) (omega (arith, h.low, h.high)) (omega (arith, h.low, h.high, k.low, k.high))

-- it alone is that character
pub whole : {s : List ℕ} {code : ℕ} → WellFormed s code → first s ≡ Char code (length s)
whole {s} w = rw (append-nil s) at (taken w [])

-- what is taken for a character begins with a sequence of the table
data Listed (t : List ℕ) : Decoded → Type 0 where
  listed : {k code : ℕ} → Begins t code k → Listed t (Char code k)
  ill : Listed t Bad
  none : Listed t End

in-cont : {b : ℕ} → Cont b → In 0x80 0xBF b
in-cont h = record { low = h.low; high = omega (arith, h.high) }

surrogate-not : (n : ℕ) → is_surrogate n ≡ false → 0xD800 ≤ n → 0xE000 ≤ n
unfolding is_surrogate
surrogate-not n e h = elim (dec_lt n 0xE000) [ yes l ↦ absurd (false≢true (sym e ∙ rw (le-leb 0xD800 n h, lt-ltb n 0xE000 l))) | no l ↦ omega (arith, l) ]

module _ (a b c : ℕ) (hb : Cont b) (hc : Cont c) where
  pub three-row : 0xE0 ≤ a → a < 0xF0 → 0x800 ≤ code3 a b c → is_surrogate (code3 a b c) ≡ false → WellFormed (a ∷ b ∷ c ∷ []) (code3 a b c)
  three-row l h v n =
      elim (dec_lt a 0xE1) [
        | yes x ↦ row3 {a = a} {b = b} (record { low = l; high = omega arith }) (record { low = omega (arith, hb.low, hb.high); high = omega (arith, hb.high) }) (in-cont hc)
        | no x ↦ elim (dec_lt a 0xED) [
          | yes y ↦ row4 {a = a} {b = b} (record { low = omega (arith, x); high = omega arith }) (in-cont hb) (in-cont hc)
          | no y ↦ elim (dec_lt a 0xEE) [
            | yes z ↦ row5 {a = a} {b = b} (record { low = omega (arith, y); high = omega arith }) (record { low = hb.low; high = not-high y z }) (in-cont hc)
            | no z ↦ row6 {a = a} {b = b} (record { low = omega (arith, z); high = omega arith }) (in-cont hb) (in-cont hc)
          ]
        ]
      ]
    where
      not-high : (a < 0xED → ⊥) → a < 0xEE → b ≤ 0x9F
      not-high y z =
          elim (dec_lt b 0xA0) [
            | yes x ↦ omega arith
            | no x ↦ omega (arith, x, y, hb.low, hb.high, surrogate-not (code3 a b c) n (omega (arith, x, y, hb.low, hb.high)))
          ]

  module _ (d : ℕ) (hd : Cont d) where
    pub four-row : 0xF0 ≤ a → 0x10000 ≤ code4 a b c d → code4 a b c d ≤ 0x10FFFF → a < 0xF8 → WellFormed (a ∷ b ∷ c ∷ d ∷ []) (code4 a b c d)
    four-row l v m h =
        elim (dec_lt a 0xF1) [
          | yes x ↦ row7 {a = a} {b = b} (record { low = l; high = omega arith }) (record { low = omega (arith, hb.low, hb.high); high = omega (arith, hb.high) }) (in-cont hc) (in-cont hd)
          | no x ↦ elim (dec_lt a 0xF4) [
            | yes y ↦ row8 {a = a} {b = b} (record { low = omega (arith, x); high = omega arith }) (in-cont hb) (in-cont hc) (in-cont hd)
            | no y ↦ row9 {a = a} {b = b} (record { low = omega (arith, y); high = omega (arith, y) }) (record { low = hb.low; high = omega (arith, y, hb.low, hb.high) }) (in-cont hc) (in-cont hd)
          ]
        ]

-- a text whose first bytes are a sequence of the table
front : (t : List ℕ) {s : List ℕ} {code : ℕ} → take (length s) t ≡ s → WellFormed s code → Begins t code (length s)
front t {s} {code} e w =
    subst (λ (u : List ℕ). Begins u code (length s)) (ap (λ (u : List ℕ). u ++ drop (length s) t) (sym e) ∙ take-append-drop (length s) t)
    (begins (drop (length s) t) w)

of-table : (t : List ℕ) → Listed t (first t)
of-table =
    first-ways Listed none λ t a b c d h1 h2 h3 h4.
    record {
      ill = ill;
      one = λ h. listed (front t h1 (row1 (record { low = omega arith; high = omega arith })));
      two_bytes = λ l h e v. listed (front t (h2 e) (row2 (record { low = omega arith; high = omega arith }) (in-cont (cont b e))));
      three_bytes = λ l h e f v n. listed (front t (h3 f) (three-row a b c (cont b e) (cont c f) l h v n));
      four_bytes = λ l h e f g v m. listed (front t (h4 g) (four-row a b c (cont b e) (cont c f) d (cont d g) l v m h));
    }

of-listed : {t : List ℕ} {code k : ℕ} → Listed t (Char code k) → Begins t code k
of-listed (listed b) = b

of-begins : {t : List ℕ} {code k : ℕ} → Begins t code k → first t ≡ Char code k
of-begins (begins t w) = taken w t

bad-no-char : {code n : ℕ} → ◌≡◌ {A = Decoded} Bad (Char code n) → ⊥
bad-no-char {code} {n} e = let z : ◌≡◌ {A = ℕ} 0 1 = cc in omega arith

bad-no-end : ◌≡◌ {A = Decoded} Bad End → ⊥
bad-no-end e = let z : ◌≡◌ {A = ℕ} 0 1 = cc in omega arith

module _ (s : List ℕ) (at : ℕ) where
  -- a character of n bytes stands at a place exactly if the text from there on begins with n bytes that the table has for its code
  pub char-exact : (code n : ℕ) → (decode_at s at ≡ Char code n) ↔ Begins (drop at s) code n
  unfolding decode_at
  char-exact code n = ((λ e. of-listed (subst (Listed (drop at s)) e (of-table (drop at s)))), of-begins)

  -- the place is the end exactly if the text is no longer
  pub end-exact : (decode_at s at ≡ End) ↔ (length s ≤ at)
  unfolding decode_at
  end-exact = ((λ e. omega (arith, length-drop at s, ap length (first-end (drop at s) e))), past_end s at)

  no_row : (d : Decoded) → decode_at s at ≡ d → at < length s → ((code n : ℕ) → Begins (drop at s) code n → ⊥) → decode_at s at ≡ Bad
  no_row (Char code n) e h f = absurd (f code n ((char-exact code n).0 e))
  no_row Bad e h f = e
  no_row End e h f = absurd (omega (arith, end-exact.0 e))

  goes_on : decode_at s at ≡ Bad → at < length s
  goes_on e = elim (dec_lt at (length s)) [ yes h ↦ h | no h ↦ absurd (bad-no-end (sym e ∙ past_end s at (omega (arith, h)))) ]

  -- no character stands at a place exactly if the text goes on there and no sequence of the table is what it begins with
  pub bad-exact : (decode_at s at ≡ Bad) ↔ ((at < length s) × ((code n : ℕ) → Begins (drop at s) code n → ⊥))
  bad-exact = ((λ e. (goes_on e, λ code n b. bad-no-char (sym e ∙ (char-exact code n).1 b))), λ h. no_row (decode_at s at) refl h.0 h.1)
