-- A letter that stands in a text in neither case does not stand in its upper case. The letter S is none of these, as ß becomes SS.
-- Assumes nothing.
use mathlib.Core.Path.{◌≡◌, refl, sym, ap, ◌∙◌}
use mathlib.Core.Bool.{false}
use mathlib.Core.List.{List, [], ◌∷◌, ◌++◌}
use Prim.Native.Nat.{ℕ, zero, suc, ◌+◌, ◌-◌, ◌/◌, ◌%◌, ◌≤◌, ◌<◌}
use native.Mathlib.Omega.{arith}
use native.Mathlib.Decide.{dec_lt}
use borrow.Author.Tests.{ne_eqb, le-ltb}
use lib.Dec.{eqb, ltb}
use lib.ListN.{length, get_or, take, drop, length-take, get_or-eq_default, get_or-append}
use lib.Seq.{get_or-take, get_or-drop, get_or-append-add}
use Rattle.chars.specs.Pick.{pick}
use Rattle.chars.specs.Utf8.{first, decode_at, encode, encode_all}
use Rattle.chars.specs.Upper.{loses32, upper_of, codes_of as upper_codes}
use Rattle.chars.specs.declared.Decoded.{Decoded}
use Rattle.chars.specs.declared.Decoded.TheVariants.{Char, Bad, End}
use Rattle.chars.specs.declared.Upper.{Upper}
use Rattle.chars.proofs.Cases.{by-test}
use Rattle.chars.proofs.Encode.{encode_one, encode-two, encode-three, encode-four}
use Rattle.chars.proofs.Laws.{found}
use Rattle.chars.proofs.Uppers.{loses-above}
use Rattle.chunks.specs.Characters.{and_then, up_to, characters, codes_of, codes}
use Rattle.chunks.specs.Upper.{upper_out, uppers, uppercase}
use Rattle.datefield.specs.Text.{first_of}
use Rattle.roundtrip_laws.specs.Letters.{NoByte}
use Rattle.roundtrip_laws.proofs.Bytes.{Each, each_at}
use Rattle.roundtrip_laws.proofs.Bytes.Each.{none, more}

-- parts of a text
module _ {b : ℕ} where
  pub no_drop : (n : ℕ) {s : List ℕ} → NoByte b s → NoByte b (drop n s)
  no_drop n {s} h = record { none = λ i e. h.none (n + i) (sym (get_or-drop n s i 0) ∙ e) }

  pub no-take : (n : ℕ) {s : List ℕ} → 0 < b → NoByte b s → NoByte b (take n s)
  no-take n {s} p h =
      record {
        none = λ i e.
            elim (dec_lt i n) [
              | yes l ↦ h.none i (sym (get_or-take n s i 0 l) ∙ e)
              | no l ↦
                  let z : 0 ≡ b = sym (get_or-eq_default (take n s) 0 {n = i} (omega (arith, l, length-take n s))) ∙ e in
                  omega arith
            ];
      }

  pub no-append : {s t : List ℕ} → NoByte b s → NoByte b t → NoByte b (s ++ t)
  no-append {s} {t} h k =
      record {
        none = λ i e.
            elim (dec_lt i (length s)) [
              | yes l ↦ h.none i (sym (get_or-append s t 0 i l) ∙ e)
              | no l ↦
                  let q : length s + (i - length s) ≡ i = omega (arith, l) in
                  k.none (i - length s) (sym (get_or-append-add s t (i - length s) 0) ∙ ap (λ (j : ℕ). get_or (s ++ t) j 0) q ∙ e)
            ];
      }

  no-each : {s : List ℕ} → 0 < b → Each (λ (x : ℕ). x ≡ b → ⊥) s → NoByte b s
  no-each {s} p e =
      record {
        none = λ i q.
            elim (dec_lt i (length s)) [
              | yes l ↦ each_at e i l q
              | no l ↦ let z : 0 ≡ b = sym (get_or-eq_default s 0 {n = i} (omega (arith, l))) ∙ q in omega arith
            ];
      }

  -- a text without the byte has no first of it
  first_past : (s : List ℕ) → NoByte b s → length s ≤ first_of b s
  unfolding first_of pick
  first_past [] h = omega arith
  first_past (x ∷ t) h = rw (ne_eqb x b (h.none 0)) (let k = first_past t (no_drop 1 h) in omega arith)

  pub no-first : (s : List ℕ) → NoByte b s → ltb (first_of b s) (length s) ≡ false
  no-first s h = le-ltb (first_of b s) (length s) (first_past s h)

-- a code above ASCII has no ASCII byte
above : {b : ℕ} (x : ℕ) → b < 0x80 → 0x80 ≤ x → x ≡ b → ⊥
above x h l e = omega arith

far-bytes : (b c : ℕ) → 0 < b → b < 0x80 → 0x80 ≤ c → NoByte b (encode c)
far-bytes b c p h l =
    let a : (x : ℕ) → 0x80 ≤ x → x ≡ b → ⊥ = λ x k. above x h k in
    no-each p
    (elim (dec_lt c 0x800) [
      | yes k ↦ rw (encode-two c l k) (more (a (0xC0 + c / 64) (omega arith)) (more (a (0x80 + c % 64) (omega arith)) none))
      | no k ↦
          elim (dec_lt c 0x10000) [
            | yes m ↦
                rw (encode-three c (omega (arith, k)) m)
                (more (a (0xE0 + c / 64 / 64) (omega arith)) (more (a (0x80 + c / 64 % 64) (omega arith)) (more (a (0x80 + c % 64) (omega arith)) none)))
            | no m ↦
                rw (encode-four c (omega (arith, m)))
                (more (a (0xF0 + c / 64 / 64 / 64) (omega arith))
                (more (a (0x80 + c / 64 / 64 % 64) (omega arith)) (more (a (0x80 + c / 64 % 64) (omega arith)) (more (a (0x80 + c % 64) (omega arith)) none))))
          ]
    ])

-- another code has not the byte
other-bytes : (b c : ℕ) → 0 < b → b < 0x80 → (c ≡ b → ⊥) → NoByte b (encode c)
other-bytes b c p h n =
    elim (dec_lt c 0x80) [
      | yes l ↦ no-each p (rw (encode_one c l) (more n none))
      | no l ↦ far-bytes b c p h (omega (arith, l))
    ]

-- the codes of a text without the byte
module _ (b : ℕ) (h : b < 0x80) where
  char-not : (t : List ℕ) {c k : ℕ} → NoByte b t → first t ≡ Char c k → c ≡ b → ⊥
  unfolding decode_at
  char-not t {c} {k} n e q =
      let o = found t 0 e in
      n.none 0 (sym (get_or-take k t 0 0 o.some) ∙ ap (λ (l : List ℕ). get_or l 0 0) (sym o.bytes ∙ ap encode q ∙ encode_one b h))

  decoded-not : (t : List ℕ) (n : ℕ) → ((l : ℕ) → Each (λ (x : ℕ). x ≡ b → ⊥) (codes_of (up_to n (drop l t)))) → NoByte b t → (d : Decoded) → first t ≡ d → Each (λ (x : ℕ). x ≡ b → ⊥) (codes_of (and_then d (λ k. up_to n (drop k t))))
  unfolding codes_of and_then
  decoded-not t n r k (Char c l) e = more (char-not t k e) (r l)
  decoded-not t n r k Bad e = none
  decoded-not t n r k End e = none

  code-not : (n : ℕ) (t : List ℕ) → NoByte b t → Each (λ (x : ℕ). x ≡ b → ⊥) (codes_of (up_to n t))
  unfolding up_to codes_of
  code-not zero t k = none
  code-not (suc n) t k = decoded-not t n (λ l. code-not n (drop l t) (no_drop l k)) k (first t) refl

  codes-not : (t : List ℕ) → NoByte b t → Each (λ (x : ℕ). x ≡ b → ⊥) (codes t)
  unfolding codes characters
  codes-not t k = code-not (length t) t k

-- a capital letter other than S, and its small one
module _ (b : ℕ) (low : 0x41 ≤ b) (high : b ≤ 0x5A) (no-s : b ≡ 0x53 → ⊥) where
  one-not : (c : ℕ) → (c ≡ b → ⊥) → NoByte b (encode c ++ [])
  one-not c n = no-append (other-bytes b c (omega arith) (omega arith) n) (no-each (omega arith) none)

  letter-not : (c : ℕ) → (c ≡ b → ⊥) → (c ≡ b + 32 → ⊥) → NoByte b (upper_out c)
  unfolding upper_out upper_of upper_codes encode_all
  letter-not c n m =
      by-test (λ (u : Upper). NoByte b (encode_all (upper_codes u))) (loses32 c)
      (λ l. one-not (c - 32) (λ e. m (omega (arith, e, loses-above c l))))
      (λ _. by-test (λ (u : Upper). NoByte b (encode_all (upper_codes u))) (eqb c 0xFF) (λ _. one-not 0x178 (λ e. omega arith))
      (λ _. by-test (λ (u : Upper). NoByte b (encode_all (upper_codes u))) (eqb c 0xB5) (λ _. one-not 0x39C (λ e. omega arith))
      (λ _. by-test (λ (u : Upper). NoByte b (encode_all (upper_codes u))) (eqb c 0xDF)
      (λ _. no-append (other-bytes b 0x53 (omega arith) (omega arith) (λ e. no-s (sym e))) (one-not 0x53 (λ e. no-s (sym e))))
      (λ _. one-not c n))))

  uppers-not : (cs : List ℕ) → Each (λ (x : ℕ). x ≡ b → ⊥) cs → Each (λ (x : ℕ). x ≡ b + 32 → ⊥) cs → NoByte b (uppers cs)
  unfolding uppers
  uppers-not [] n m = no-each (omega arith) none
  uppers-not (c ∷ cs) (more h n) (more k m) = no-append (letter-not c h k) (uppers-not cs n m)

  -- neither of them in a text: the capital one is not in its upper case
  pub upper-not : (s : List ℕ) → NoByte b s → NoByte (b + 32) s → NoByte b (uppercase s)
  unfolding uppercase
  upper-not s n m = uppers-not (codes s) (codes-not b (omega arith) s n) (codes-not (b + 32) (omega arith) s m)
