-- The last character of a text, by the text's last bytes.
-- Assumes nothing.
use mathlib.Core.Path.{◌≡◌, refl, sym, ap, ◌∙◌}
use mathlib.Core.Bool.{Bool, true}
use mathlib.Core.List.{List, [], ◌∷◌, ◌++◌, append-nil, append_assoc}
use Prim.Native.Nat.{ℕ, ◌+◌, ◌-◌, ◌/◌, ◌%◌, ◌≤◌, ◌<◌}
use native.Mathlib.Decide.{dec_lt}
use native.Mathlib.Omega.{arith}
use lib.ListN.{length, get_or, length-append}
use lib.Seq.{get_or-append-add}
use Rattle.chars.specs.Utf8.{encode, encode_all, code2}
use Rattle.chars.specs.Classes.{is_whitespace}
use Rattle.chars.proofs.Encode.{encode_one, encode-two, encode-three, encode-four}
use Rattle.chunks.specs.Format.{last_white}
use Rattle.chunks.specs.Latin.{is_lead}
use Rattle.chunks.proofs.Latins.{lead_is}

-- characters have a last one, whose bytes are the last bytes
record Ended (w : Bool) (cs : List ℕ) : Type 0 where
  front : List ℕ
  last : ℕ
  is : encode_all cs ≡ front ++ encode last
  white : last_white w cs ≡ is_whitespace last

ended : (w : Bool) (c : ℕ) (cs : List ℕ) → Ended w (c ∷ cs)
unfolding encode_all last_white
ended w c [] = record { front = []; last = c; is = append-nil (encode c); white = refl }
ended w c (d ∷ cs) =
    let e = ended (is_whitespace c) d cs in
    record {
      front = encode c ++ e.front;
      last = e.last;
      is = ap (λ (l : List ℕ). encode c ++ l) e.is ∙ sym (append_assoc (encode c) e.front (encode e.last));
      white = e.white;
    }

-- the byte that is so many from the end
from_end : (a l : List ℕ) (k : ℕ) → 0 < k → k ≤ length l → get_or (a ++ l) (length (a ++ l) - k) 0 ≡ get_or l (length l - k) 0
from_end a l k h m =
    let n : length (a ++ l) - k ≡ length a + (length l - k) = omega (arith, length-append a l) in
    ap (λ (i : ℕ). get_or (a ++ l) i 0) n ∙ get_or-append-add a l (length l - k) 0

-- the bytes of a code by their number: behind the first of three or four stand bytes that continue it
data Size (c : ℕ) : List ℕ → Type 0 where
  one : c < 0x80 → Size c (c ∷ [])
  two : 0x80 ≤ c → c < 0x800 → Size c ((0xC0 + c / 64) ∷ (0x80 + c % 64) ∷ [])
  more : (a : List ℕ) (x y : ℕ) → x < 0xC0 → 0x80 ≤ y → Size c (a ++ x ∷ y ∷ [])

size : (c : ℕ) → Size c (encode c)
size c =
    elim (dec_lt c 0x80) [
      | yes h ↦ rw (encode_one c h) (one h)
      | no h ↦ elim (dec_lt c 0x800) [
        | yes i ↦ rw (encode-two c (omega arith) i) (two (omega arith) i)
        | no i ↦ elim (dec_lt c 0x10000) [
          | yes j ↦ rw (encode-three c (omega arith) j) (more ((0xE0 + c / 64 / 64) ∷ []) (0x80 + c / 64 % 64) (0x80 + c % 64) (omega arith) (omega arith))
          | no j ↦ rw (encode-four c (omega arith)) (more ((0xF0 + c / 64 / 64 / 64) ∷ (0x80 + c / 64 / 64 % 64) ∷ []) (0x80 + c / 64 % 64) (0x80 + c % 64) (omega arith) (omega arith))
        ]
      ]
    ]

size-some : {c : ℕ} {l : List ℕ} → Size c l → 0 < length l
size-some (one h) = omega arith
size-some (two l h) = omega arith
size-some (more a x y l h) = omega (arith, length-append a (x ∷ y ∷ []))

module _ (a : List ℕ) {c : ℕ} where
  -- a last byte below 0x80 is the last character
  low_end : {l : List ℕ} → Size c l → get_or (a ++ l) (length (a ++ l) - 1) 0 < 0x80 → get_or (a ++ l) (length (a ++ l) - 1) 0 ≡ c
  low_end (one h) g = from_end a (c ∷ []) 1 (omega arith) (omega arith)
  low_end (two l h) g = absurd (omega (arith, g, from_end a ((0xC0 + c / 64) ∷ (0x80 + c % 64) ∷ []) 1 (omega arith) (omega arith)))
  low_end (more b x y l h) g =
      let m = length-append b (x ∷ y ∷ []) in
      absurd (omega (arith, g, from_end a (b ++ x ∷ y ∷ []) 1 (omega arith) (omega arith), from_end b (x ∷ y ∷ []) 1 (omega arith) (omega arith)))

  -- two last bytes of which one begins a character are the last character
  pair_end : {l : List ℕ} → Size c l → 0x80 ≤ get_or (a ++ l) (length (a ++ l) - 1) 0 → is_lead (get_or (a ++ l) (length (a ++ l) - 2) 0) ≡ true → code2 (get_or (a ++ l) (length (a ++ l) - 2) 0) (get_or (a ++ l) (length (a ++ l) - 1) 0) ≡ c
  pair_end (one h) g e = absurd (omega (arith, g, from_end a (c ∷ []) 1 (omega arith) (omega arith)))
  pair_end (two l h) g e =
      let t : List ℕ = (0xC0 + c / 64) ∷ (0x80 + c % 64) ∷ [] in
      rw (from_end a t 2 (omega arith) (omega arith), from_end a t 1 (omega arith) (omega arith)) (omega arith)
  pair_end (more b x y l h) g e =
      let m = length-append b (x ∷ y ∷ []) in
      let q = lead_is _ e in
      absurd (omega (arith, q.0, from_end a (b ++ x ∷ y ∷ []) 2 (omega arith) (omega arith), from_end b (x ∷ y ∷ []) 2 (omega arith) (omega arith)))

-- whether the last character of a text is white space
module _ (w : Bool) (t : List ℕ) where
  pub last_none : (cs : List ℕ) → encode_all cs ≡ t → length t ≡ 0 → w ≡ last_white w cs
  unfolding last_white
  last_none [] h m = refl
  last_none (c ∷ cs) h m =
      let e = ended w c cs in
      absurd (omega (arith, m, ap length h, ap length e.is, length-append e.front (encode e.last), size-some (size e.last)))

  pub last-low : (cs : List ℕ) → encode_all cs ≡ t → 0 < length t → get_or t (length t - 1) 0 < 0x80 → is_whitespace (get_or t (length t - 1) 0) ≡ last_white w cs
  unfolding encode_all
  last-low [] h m g = absurd (omega (arith, m, ap length h))
  last-low (c ∷ cs) h m g =
      let e = ended w c cs in
      let q : t ≡ e.front ++ encode e.last = sym h ∙ e.is in
      rw q (ap is_whitespace (low_end e.front (size e.last) (rw q at g)) ∙ sym e.white)

  pub last-pair : (cs : List ℕ) → encode_all cs ≡ t → 2 ≤ length t → 0x80 ≤ get_or t (length t - 1) 0 → is_lead (get_or t (length t - 2) 0) ≡ true → is_whitespace (code2 (get_or t (length t - 2) 0) (get_or t (length t - 1) 0)) ≡ last_white w cs
  unfolding encode_all
  last-pair [] h m g k = absurd (omega (arith, m, ap length h))
  last-pair (c ∷ cs) h m g k =
      let e = ended w c cs in
      let q : t ≡ e.front ++ encode e.last = sym h ∙ e.is in
      rw q (ap is_whitespace (pair_end e.front (size e.last) (rw q at g) (rw q at k)) ∙ sym e.white)
