-- Texts as a whole: of ASCII, cut in chunks, and without a line break.
-- Assumes nothing.
use mathlib.Core.Path.{◌≡◌, refl, sym, ap, ◌∙◌}
use mathlib.Core.Bool.{Bool, true, false, ◌&&◌}
use mathlib.Core.List.{List, [], ◌∷◌, ◌++◌}
use Prim.Native.Nat.{ℕ, zero, suc, ◌+◌, ◌≤◌, ◌<◌}
use native.Mathlib.Decide.{dec_lt}
use native.Mathlib.Numerals.{add-one}
use native.Mathlib.Omega.{arith}
use borrow.Author.Tests.{lt-ltb, ltb-true, ne_eqb}
use lib.Dec.{ltb}
use lib.ListN.{length, get_or, take, drop, drop_of_length-le}
use lib.Seq.{drop-cons}
use Rattle.chars.specs.Pick.{pick}
use Rattle.chars.specs.Utf8.{encode, encode_all}
use Rattle.chars.specs.Classes.{is_whitespace}
use Rattle.chars.proofs.Cases.{and-true}
use Rattle.chars.proofs.Encode.{encode_one}
use Rattle.std.specs.Prelude.{Ok}
use Rattle.chunks.specs.Chunks.{Chunk, chunks_of, fits, is_short}
use Rattle.chunks.specs.Check.{or_else, fault_of, checked}
use Rattle.chunks.specs.Format.{is_break, one_out, normal}
use Rattle.chunks.specs.Upper.{uppers, uppercase}
use Rattle.chunks.specs.Plain.{all_ascii, all_unbroken, plain_byte, plain_out, plain_text}
use Rattle.chunks.proofs.Plains.{front_low, rest-ascii, ascii-clean, upper-ascii, upper-plain}

take-ascii : (n : ℕ) (t : List ℕ) → all_ascii t ≡ true → all_ascii (take n t) ≡ true
unfolding all_ascii
take-ascii zero t e = refl
take-ascii (suc n) [] e = refl
take-ascii (suc n) (b ∷ t) e = rw (lt-ltb b 0x80 (front_low b t e), take-ascii n t (rest-ascii b t e))

drop-ascii : (n : ℕ) (t : List ℕ) → all_ascii t ≡ true → all_ascii (drop n t) ≡ true
drop-ascii zero t e = e
drop-ascii (suc n) [] e = e
drop-ascii (suc n) (b ∷ t) e = drop-ascii n t (rest-ascii b t e)

-- however it is cut in chunks, it has no fault
pub ascii-faultless : (p : ℕ) (b : List ℕ) (cs : List Chunk) → all_ascii b ≡ true → fault_of p b cs ≡ (Ok tt)
unfolding fault_of or_else
ascii-faultless p b [] e = refl
ascii-faultless p b (c ∷ cs) e =
    rw (ascii-clean p (take c.len b) (take-ascii c.len b e)) (ascii-faultless (p + c.len) (drop c.len b) cs (drop-ascii c.len b e))

pub ascii-checked : (b t : List ℕ) → fits b t ≡ true → is_short b t ≡ true → all_ascii b ≡ true → checked b t ≡ (Ok tt)
unfolding checked pick
ascii-checked b t f s e = rw (f, s) (ascii-faultless 0 b (chunks_of t) e)

-- no line break
module _ (b : ℕ) (t : List ℕ) (e : all_unbroken (b ∷ t) ≡ true) where
  unbroken-high : 0x0D < b
  unfolding all_unbroken
  unbroken-high = ltb-true 0x0D b (and-true (ltb 0x0D b) (all_unbroken t) e).0

  pub unbroken-front : is_break b ≡ false
  unfolding is_break
  unbroken-front =
      let h = unbroken-high in
      rw (ne_eqb b 0x0A (λ (z : b ≡ 0x0A). omega arith), ne_eqb b 0x0D (λ (z : b ≡ 0x0D). omega arith))

  pub unbroken-rest : all_unbroken t ≡ true
  unfolding all_unbroken
  unbroken-rest = (and-true (ltb 0x0D b) (all_unbroken t) e).1

-- such a text is put as it is
pub unbroken-plain : (w : Bool) (t : List ℕ) → all_unbroken t ≡ true → plain_text false w t ≡ t
unfolding plain_text plain_out plain_byte pick
unbroken-plain w [] e = refl
unbroken-plain w (b ∷ t) e =
    rw (unbroken-front b t e) (ap (λ (l : List ℕ). b ∷ l) (unbroken-plain (is_whitespace b) t (unbroken-rest b t e)))

unbroken-both : (s t : List ℕ) → all_unbroken (s ++ t) ≡ true → (all_unbroken s ≡ true) × (all_unbroken t ≡ true)
unfolding all_unbroken
unbroken-both [] t e = (refl, e)
unbroken-both (b ∷ s) t e =
    let p = unbroken-both s t (unbroken-rest b (s ++ t) e) in
    (rw (lt-ltb 0x0D b (unbroken-high b (s ++ t) e)) p.0, p.1)

-- a character without a line break among its bytes is none
no-break : (c : ℕ) → all_unbroken (encode c) ≡ true → is_break c ≡ false
unfolding is_break
no-break c e =
    elim (dec_lt c 0x80) [
      | yes h ↦ unbroken-front c [] (rw (encode_one c h) at e)
      | no h ↦ rw (ne_eqb c 0x0A (λ (z : c ≡ 0x0A). omega arith), ne_eqb c 0x0D (λ (z : c ≡ 0x0D). omega arith))
    ]

-- characters whose bytes have no line break are put as they are
pub unbroken-codes : (w : Bool) (cs : List ℕ) → all_unbroken (encode_all cs) ≡ true → normal w cs ≡ encode_all cs
unfolding normal encode_all one_out pick
unbroken-codes w [] e = refl
unbroken-codes w (c ∷ cs) e =
    let p = unbroken-both (encode c) (encode_all cs) e in
    rw (no-break c p.0) (ap (λ (l : List ℕ). encode c ++ l) (unbroken-codes (is_whitespace c) cs p.1))

-- no byte is dropped
pub unbroken-long : (u w : Bool) (t : List ℕ) → all_unbroken t ≡ true → length (plain_text u w t) ≡ length t
unfolding plain_text plain_out pick
unbroken-long u w [] e = refl
unbroken-long u w (b ∷ t) e = rw (unbroken-front b t e) (ap suc (unbroken-long u (is_whitespace b) t (unbroken-rest b t e)))

-- in upper case
pub unbroken-upper : (t : List ℕ) → all_ascii t ≡ true → all_unbroken t ≡ true → uppercase t ≡ plain_text true false t
unbroken-upper t a e = ap uppercase (sym (unbroken-plain false t e)) ∙ upper-plain t a

-- byte by byte
module _ (t : List ℕ) (i : ℕ) (h : i < length t) where
  pub unbroken-step : all_unbroken (drop i t) ≡ (ltb 0x0D (get_or t i 0) && all_unbroken (drop (i + 1) t))
  unfolding all_unbroken
  unbroken-step = rw (add-one, drop-cons t i 0 h)

  pub low-at : all_ascii (drop i t) ≡ true → get_or t i 0 < 0x80
  low-at e = front_low (get_or t i 0) (drop (suc i) t) (ap all_ascii (sym (drop-cons t i 0 h)) ∙ e)

  pub upper-step : all_ascii (drop i t) ≡ true → uppers (drop i t) ≡ plain_byte true (get_or t i 0) ∷ uppers (drop (i + 1) t)
  unfolding uppers
  upper-step e = rw (add-one, drop-cons t i 0 h, upper-ascii (get_or t i 0) (low-at e))

pub unbroken-all : (t : List ℕ) (i : ℕ) → length t ≤ i → all_unbroken (drop i t) ≡ true
unfolding all_unbroken
unbroken-all t i h = rw (drop_of_length-le t h)
