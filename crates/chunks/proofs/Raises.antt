-- Upper case of characters up to U+00FF, byte by byte.
-- Assumes nothing.
use mathlib.Core.Path.{◌≡◌, refl, sym, ap, ◌∙◌}
use mathlib.Core.Bool.{Bool, true, false, not, ◌&&◌}
use mathlib.Core.List.{List, [], ◌∷◌}
use Prim.Native.Nat.{ℕ, zero, suc, ◌+◌, ◌-◌, ◌/◌, ◌%◌, ◌≤◌, ◌<◌}
use native.Mathlib.Numerals.{add-one}
use native.Mathlib.Omega.{arith}
use borrow.Author.Tests.{ltb-true, lt-leb, ne_eqb}
use lib.Dec.{ltb, leb}
use lib.ListN.{length, get_or, drop, drop_of_length-le}
use lib.Seq.{drop-cons}
use Rattle.chars.specs.Pick.{pick}
use Rattle.chars.specs.Utf8.{is_cont, code2, encode, encode_all}
use Rattle.chars.specs.Classes.{within}
use Rattle.chars.specs.Upper.{loses32, upper_of, codes_of as upper_codes}
use Rattle.chars.proofs.Below.{agree}
use Rattle.chars.proofs.Cases.{of_test, and-true}
use Rattle.chars.proofs.Laws.{cont}
use Rattle.chars.proofs.Encode.{encode-two}
use Rattle.chunks.specs.Characters.{codes_of, codes}
use Rattle.chunks.specs.Plain.{plain_byte}
use Rattle.chunks.specs.Upper.{upper_out, uppers, uppercase}
use Rattle.chunks.specs.Latin.{is_lead, all_latin, is_odd, none_odd, raised, raised_all}
use Rattle.chunks.proofs.Plains.{no-characters, upper-ascii}
use Rattle.chunks.proofs.Room.{upper_long}
use Rattle.chunks.proofs.Latins.{lead_is, lead-not, latin-rest, begins, continues, open-some, pair-next, pair-characters, low-characters}

-- the two bytes of the character that is so far behind U+0080
abbrev hi : ℕ → ℕ
hi k = 0xC0 + (0x80 + k) / 64

abbrev lo : ℕ → ℕ
lo k = 0x80 + (0x80 + k) % 64

-- its upper case, tested at each of them
first_byte : (k : ℕ) → k < 128 → pick (is_odd (hi k) (lo k)) 0 (get_or (upper_out (0x80 + k)) 0 0) ≡ pick (is_odd (hi k) (lo k)) 0 (hi k)
unfolding is_odd upper_out upper_of loses32 within upper_codes encode_all encode pick
first_byte k h = agree (λ k. pick (is_odd (hi k) (lo k)) 0 (get_or (upper_out (0x80 + k)) 0 0)) (λ k. pick (is_odd (hi k) (lo k)) 0 (hi k)) 128 tt k h

second-byte : (k : ℕ) → k < 128 → pick (is_odd (hi k) (lo k)) 0 (get_or (upper_out (0x80 + k)) 1 0) ≡ pick (is_odd (hi k) (lo k)) 0 (raised (hi k) (lo k))
unfolding is_odd upper_out upper_of loses32 within upper_codes encode_all encode raised plain_byte pick
second-byte k h = agree (λ k. pick (is_odd (hi k) (lo k)) 0 (get_or (upper_out (0x80 + k)) 1 0)) (λ k. pick (is_odd (hi k) (lo k)) 0 (raised (hi k) (lo k))) 128 tt k h

two_bytes : (l : List ℕ) → length l ≡ 2 → l ≡ get_or l 0 0 ∷ get_or l 1 0 ∷ []
two_bytes [] e = absurd (omega arith)
two_bytes (x ∷ []) e = absurd (omega arith)
two_bytes (x ∷ y ∷ []) e = refl
two_bytes (x ∷ y ∷ z ∷ l) e = absurd (omega arith)

upper-at : (k : ℕ) → k < 128 → is_odd (hi k) (lo k) ≡ false → upper_out (0x80 + k) ≡ hi k ∷ raised (hi k) (lo k) ∷ []
unfolding pick
upper-at k h o =
    let l : length (upper_out (0x80 + k)) ≡ 2 = upper_long (0x80 + k) ∙ ap length (encode-two (0x80 + k) (omega arith) (omega arith)) in
    let a : get_or (upper_out (0x80 + k)) 0 0 ≡ hi k = rw o at (first_byte k h) in
    let b : get_or (upper_out (0x80 + k)) 1 0 ≡ raised (hi k) (lo k) = rw o at (second-byte k h) in
    two_bytes (upper_out (0x80 + k)) l ∙ rw (a, b)

pair-upper : (b c : ℕ) → is_lead b ≡ true → is_cont c ≡ true → is_odd b c ≡ false → upper_out (code2 b c) ≡ b ∷ raised b c ∷ []
pair-upper b c h k o =
    let l = lead_is b h in
    let d = cont c k in
    let n : ℕ = code2 b c - 0x80 in
    let z : 0x80 + n ≡ code2 b c = omega (arith, l.0, l.1, d.low, d.high) in
    let x : hi n ≡ b = omega (arith, l.0, l.1, d.low, d.high) in
    let y : lo n ≡ c = omega (arith, l.0, l.1, d.low, d.high) in
    let u = upper-at n (omega (arith, l.0, l.1, d.low, d.high)) (ap (λ (i : ℕ). is_odd i (lo n)) x ∙ ap (is_odd b) y ∙ o) in
    ap upper_out (sym z) ∙ u ∙ ap (λ (i : ℕ). i ∷ raised i (lo n) ∷ []) x ∙ ap (λ (i : ℕ). b ∷ raised b i ∷ []) y

-- behind a byte that begins no character
raised-low : (p b : ℕ) → is_lead p ≡ false → raised p b ≡ plain_byte true b
unfolding raised pick is_lead
raised-low p b h = rw (ne_eqb p 0xC3 (λ (e : p ≡ 0xC3). absurd (closed (rw e at h))))
  where
    closed : true ≡ false → ⊥
    closed e = let z : ◌≡◌ {A = ℕ} 0 1 = cc in omega arith

raised-lead : (p b : ℕ) → is_lead p ≡ false → is_lead b ≡ true → raised p b ≡ b
unfolding plain_byte pick
raised-lead p b h e = raised-low p b h ∙ rw (lt-leb b 0x7A (omega (arith, (lead_is b e).0))) (kept (leb 0x61 b))
  where
    kept : (t : Bool) → pick (t && false) (b - 32) b ≡ b
    kept true = refl
    kept false = refl

-- the parts of what is said of the bytes
module _ (p b : ℕ) (t : List ℕ) (e : none_odd p (b ∷ t) ≡ true) where
  odd-front : is_odd p b ≡ false
  unfolding none_odd
  odd-front = is-not (is_odd p b) (and-true (not (is_odd p b)) (none_odd b t) e).0
    where
      is-not : (t : Bool) → not t ≡ true → t ≡ false
      is-not true h = sym h
      is-not false h = refl

  odd-rest : none_odd b t ≡ true
  unfolding none_odd
  odd-rest = (and-true (not (is_odd p b)) (none_odd b t) e).1

-- the characters
codes-none : codes [] ≡ []
unfolding codes codes_of
codes-none = rw no-characters

codes-low : (b : ℕ) (t : List ℕ) → b < 0x80 → codes (b ∷ t) ≡ b ∷ codes t
unfolding codes codes_of
codes-low b t h = rw (low-characters b t h)

codes-pair : (b c : ℕ) (t : List ℕ) → is_lead b ≡ true → is_cont c ≡ true → codes (b ∷ c ∷ t) ≡ code2 b c ∷ codes t
unfolding codes codes_of
codes-pair b c t h k = rw (pair-characters b c h k t)

uppers-low : (p b : ℕ) (t r : List ℕ) → b < 0x80 → is_lead p ≡ false → uppers (codes t) ≡ r → uppers (codes (b ∷ t)) ≡ raised p b ∷ r
unfolding uppers
uppers-low p b t r h l e = rw (codes-low b t h, upper-ascii b h, raised-low p b l, e)

latin-uppers : (n p : ℕ) (t : List ℕ) → length t ≤ n → is_lead p ≡ false → all_latin p t ≡ true → none_odd p t ≡ true → uppers (codes t) ≡ raised_all p t
unfolding raised_all uppers
latin-uppers n p [] l h e o = rw codes-none
latin-uppers zero p (b ∷ t) l h e o = absurd (omega arith)
latin-uppers (suc n) p (b ∷ []) l h e o =
    of_test (ltb b 0x80)
    (λ y. let low = ltb-true b 0x80 y in uppers-low p b [] _ low h (latin-uppers n b [] (omega arith) (lead-not b (omega arith)) (latin-rest p b [] e) (odd-rest p b [] o)))
    (λ y. absurd (open-some b (rw y at (begins p b [] e h)) (latin-rest p b [] e)))
latin-uppers (suc n) p (b ∷ c ∷ t) l h e o =
    of_test (ltb b 0x80)
    (λ y. let low = ltb-true b 0x80 y in uppers-low p b (c ∷ t) _ low h (latin-uppers n b (c ∷ t) (omega arith) (lead-not b (omega arith)) (latin-rest p b (c ∷ t) e) (odd-rest p b (c ∷ t) o)))
    (λ y.
    let lead : is_lead b ≡ true = rw y at (begins p b (c ∷ t) e h) in
    let more = latin-rest p b (c ∷ t) e in
    let k = continues b c t more lead in
    let even = odd-rest p b (c ∷ t) o in
    let rest = latin-uppers n c t (omega arith) (pair-next b c lead k) (latin-rest b c t more) (odd-rest b c t even) in
    rw (codes-pair b c t lead k, pair-upper b c lead k (odd-front b c t even), raised-lead p b h lead, rest))

pub latin-upper : (t : List ℕ) → all_latin 0 t ≡ true → none_odd 0 t ≡ true → uppercase t ≡ raised_all 0 t
unfolding uppercase
latin-upper t e o = latin-uppers (length t) 0 t (omega arith) (lead-not 0 (omega arith)) e o

-- byte by byte
module _ (p : ℕ) (t : List ℕ) (i : ℕ) where
  pub odd_step : i < length t → none_odd p (drop i t) ≡ (not (is_odd p (get_or t i 0)) && none_odd (get_or t i 0) (drop (i + 1) t))
  unfolding none_odd
  odd_step h = rw (add-one, drop-cons t i 0 h)

  pub odd-end : length t ≤ i → none_odd p (drop i t) ≡ true
  unfolding none_odd
  odd-end h = rw (drop_of_length-le t h)

  pub raised-step : i < length t → raised_all p (drop i t) ≡ raised p (get_or t i 0) ∷ raised_all (get_or t i 0) (drop (i + 1) t)
  unfolding raised_all
  raised-step h = rw (add-one, drop-cons t i 0 h)

  pub raised-end : length t ≤ i → raised_all p (drop i t) ≡ []
  unfolding raised_all
  raised-end h = rw (drop_of_length-le t h)
