-- What formatting makes of codes: it keeps what stands before and behind the slash, which codes there are, and the number at the front.
-- Assumes nothing.
use mathlib.Core.Path.{◌≡◌, refl, sym, ap, ◌∙◌}
use mathlib.Core.Bool.{Bool, true, false, false≢true}
use mathlib.Core.List.{List, [], ◌∷◌, ◌++◌, append-nil}
use Prim.Native.Nat.{ℕ, ◌<◌}
use native.Mathlib.Decide.{dec_lt}
use native.Mathlib.Omega.{arith}
use borrow.Author.Tests.{eqb-true, ne_eqb}
use lib.Dec.{eqb, lit<}
use Rattle.chars.specs.Pick.{pick}
use Rattle.chars.specs.Classes.{within, is_whitespace, is_numeric, is_ascii_digit}
use Rattle.chars.specs.Utf8.{encode, encode_all}
use Rattle.chars.proofs.Below.{agree}
use Rattle.chars.proofs.Cases.{by-test, of_test}
use Rattle.chars.proofs.Classes.{within-past}
use Rattle.chars.proofs.Encode.{encode_one}
use Rattle.scanner.specs.declared.Class.TheVariants.{Whitespace, Numeric, Sign}
use Rattle.scanner.specs.Class.{in_class}
use Rattle.chunks.specs.Format.{is_break, one_out, normal}
use Rattle.chunks.proofs.Plains.{break-white}
use Rattle.chunks.proofs.Proper.{Spells, spells_none, spells_more, encode-append, spelled-ascii}
use Rattle.roundtrip_laws.proofs.Bytes.{Each}
use Rattle.roundtrip_laws.proofs.Bytes.Each.{none, more}
use Rattle.verdicts.proofs.Fronts.{before, behind, has, front, skip, skip_one, number, Not, before-past, behind-past, has-past}

-- what a character of a cell becomes: a line break a space, or nothing behind white space
abbrev pub one_code : Bool → ℕ → List ℕ
one_code w c = pick (is_break c) (pick w [] (0x20 ∷ [])) (c ∷ [])

-- what the characters become; the flag says whether the one before was white space
abbrev pub plain_codes : Bool → List ℕ → List ℕ
plain_codes w [] = []
plain_codes w (c ∷ cs) = one_code w c ++ plain_codes (is_whitespace c) cs

one-bytes : (w : Bool) (c : ℕ) → one_out w c ≡ encode_all (one_code w c)
unfolding one_out encode_all pick
one-bytes w c =
    of_test (is_break c) (λ t. rw t (by_flag w)) (λ t. rw t (sym (append-nil (encode c))))
  where
    by_flag : (w : Bool) → pick w [] (0x20 ∷ []) ≡ encode_all (pick w [] (0x20 ∷ []))
    by_flag true = refl
    by_flag false = sym (ap (λ (l : List ℕ). l ++ []) (encode_one 0x20 (lit< tt)))

-- the formatted text is their bytes
pub normal-bytes : (w : Bool) (cs : List ℕ) → normal w cs ≡ encode_all (plain_codes w cs)
unfolding normal encode_all
normal-bytes w [] = refl
normal-bytes w (c ∷ cs) =
    rw (one-bytes w c, normal-bytes (is_whitespace c) cs) (sym (encode-append (one_code w c) (plain_codes (is_whitespace c) cs)))

-- and each is read as itself
pub plain-spells : (w : Bool) {cs : List ℕ} → Spells cs → Spells (plain_codes w cs)
unfolding pick
plain-spells w spells_none = spells_none
plain-spells true (spells_more {c} p r) =
    of_test (is_break c) (λ t. rw t (plain-spells (is_whitespace c) r)) (λ t. rw t (spells_more p (plain-spells (is_whitespace c) r)))
plain-spells false (spells_more {c} p r) =
    of_test (is_break c) (λ t. rw t (spells_more (spelled-ascii 0x20 (lit< tt)) (plain-spells (is_whitespace c) r)))
    (λ t. rw t (spells_more p (plain-spells (is_whitespace c) r)))

-- a character that is no break and no space
module _ (b : ℕ) (h : is_break b ≡ false) (l : eqb 0x20 b ≡ false) where
  apart-one : (w : Bool) (c : ℕ) → eqb c b ≡ false → Each (Not b) (one_code w c)
  apart-one w c e = by-test (Each (Not b)) (is_break c) (λ _. by-test (Each (Not b)) w (λ _. none) (λ _. more (record { is = l }) none)) (λ _. more (record { is = e }) none)

  itself : (w : Bool) (c : ℕ) → eqb c b ≡ true → one_code w c ≡ c ∷ []
  unfolding pick
  itself w c t = rw (eqb-true c b t, h)

  -- what stands before it, whether it stands there, and what stands behind it
  pub before-plain : (w : Bool) (cs : List ℕ) → before b (plain_codes w cs) ≡ plain_codes w (before b cs)
  unfolding pick
  before-plain w [] = refl
  before-plain w (c ∷ cs) =
      of_test (eqb c b) (λ t. rw (itself w c t, t))
      (λ t. rw t (before-past b _ (apart-one w c t) ∙ ap (λ (l : List ℕ). one_code w c ++ l) (before-plain (is_whitespace c) cs)))

  pub has-plain : (w : Bool) (cs : List ℕ) → has b (plain_codes w cs) ≡ has b cs
  has-plain w [] = refl
  has-plain w (c ∷ cs) =
      of_test (eqb c b) (λ t. rw (itself w c t, t))
      (λ t. rw t (has-past b _ (apart-one w c t) ∙ has-plain (is_whitespace c) cs))

  module _ (k : is_whitespace b ≡ false) where
    pub behind-plain : (w : Bool) (cs : List ℕ) → behind b (plain_codes w cs) ≡ plain_codes false (behind b cs)
    unfolding pick
    behind-plain w [] = refl
    behind-plain w (c ∷ cs) =
        of_test (eqb c b) (λ t. rw (itself w c t, t, eqb-true c b t, k))
        (λ t. rw t (behind-past b _ (apart-one w c t) ∙ behind-plain (is_whitespace c) cs))

-- what is no white space is no line break
no-break : (c : ℕ) → is_whitespace c ≡ false → is_break c ≡ false
no-break c h = of_test (is_break c) (λ t. absurd (false≢true (sym h ∙ break-white c t))) (λ t. t)

-- numeric is no white space
numeric-small : (c : ℕ) → is_numeric c ≡ true → c < 256
unfolding is_numeric is_ascii_digit
numeric-small c e =
    elim (dec_lt c 256) [
      | yes h ↦ h
      | no h ↦ absurd (false≢true (rw (within-past 0x30 0x39 c (omega arith), within-past 0xB2 0xB3 c (omega arith), ne_eqb c 0xB9 (λ (e : c ≡ 0xB9). omega arith), within-past 0xBC 0xBE c (omega arith)) at e))
    ]

pub numeric-solid : (c : ℕ) → in_class Numeric c ≡ true → is_whitespace c ≡ false
unfolding in_class is_numeric is_ascii_digit is_whitespace within pick
numeric-solid c e =
    let z = agree (λ (c : ℕ). pick (is_numeric c) (pick (is_whitespace c) 1 0) 0) (λ (c : ℕ). 0) 256 tt c (numeric-small c e) in
    of_test (is_whitespace c) (λ t. absurd (let o : ◌≡◌ {A = ℕ} 1 0 = rw (e, t) at z in omega arith)) (λ t. t)

-- nor is a sign
pub sign-solid : (c : ℕ) → in_class Sign c ≡ true → is_whitespace c ≡ false
unfolding in_class is_whitespace within
sign-solid c e = of_test (eqb c 0x2B) (λ t. rw (eqb-true c 0x2B t)) (λ t. let u : eqb c 0x2D ≡ true = rw t at e in rw (eqb-true c 0x2D u))

-- white space, and what is skipped behind it
pub record White (c : ℕ) : Type 0 where
  pub is : in_class Whitespace c ≡ true

skip-past : {l : List ℕ} (r : List ℕ) → Each White l → skip Whitespace (l ++ r) ≡ skip Whitespace r
unfolding pick
skip-past r none = refl
skip-past r (more h e) = rw h.is (skip-past r e)

white-one : (w : Bool) (c : ℕ) → is_whitespace c ≡ true → Each White (one_code w c)
unfolding in_class is_whitespace within
white-one w c e = by-test (Each White) (is_break c) (λ _. by-test (Each White) w (λ _. none) (λ _. more (record { is = refl }) none)) (λ _. more (record { is = e }) none)

skip-plain : (w : Bool) (cs : List ℕ) → skip Whitespace (plain_codes w cs) ≡ plain_codes false (skip Whitespace cs)
unfolding in_class pick
skip-plain w [] = refl
skip-plain w (c ∷ cs) =
    of_test (is_whitespace c)
    (λ t. rw t (skip-past _ (white-one w c t) ∙ skip-plain true cs))
    (λ t. let e : plain_codes false (c ∷ cs) ≡ c ∷ plain_codes false cs = rw (no-break c t, t) in rw (no-break c t, t) (sym e))

one_plain : (cs : List ℕ) → skip_one Sign (plain_codes false cs) ≡ plain_codes false (skip_one Sign cs)
unfolding in_class pick
one_plain [] = refl
one_plain (c ∷ cs) =
    of_test (in_class Sign c)
    (λ t. let s = sign-solid c t in rw (no-break c s, s, t))
    (λ t. of_test (is_break c) (λ u. rw (u, t, u)) (λ u. rw (u, t, u)))

space-numeric : in_class Numeric 0x20 ≡ false
unfolding in_class is_numeric is_ascii_digit within
space-numeric = refl

front-plain : (cs : List ℕ) → front Numeric (plain_codes false cs) ≡ front Numeric cs
unfolding pick
front-plain [] = refl
front-plain (c ∷ cs) =
    of_test (in_class Numeric c)
    (λ t. let s = numeric-solid c t in rw (no-break c s, s, t, front-plain cs))
    (λ t. of_test (is_break c) (λ u. rw (u, t, space-numeric)) (λ u. rw (u, t)))

-- the number at the front stays
pub number-plain : (w : Bool) (cs : List ℕ) → number (plain_codes w cs) ≡ number cs
number-plain w cs =
    rw (skip-plain w cs, one_plain (skip Whitespace cs), skip-plain false (skip_one Sign (skip Whitespace cs)))
    (front-plain (skip Whitespace (skip_one Sign (skip Whitespace cs))))
