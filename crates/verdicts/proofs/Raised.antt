-- What upper case makes of codes: it keeps what stands before and behind the slash, and the number at the front; an x becomes an X.
-- Assumes nothing.
use mathlib.Core.Path.{◌≡◌, refl, sym, ap, ◌∙◌}
use mathlib.Core.Bool.{Bool, true, false, false≢true, ◌||◌}
use mathlib.Core.List.{List, [], ◌∷◌, ◌++◌}
use Prim.Native.Nat.{ℕ, ◌+◌, ◌-◌, ◌/◌, ◌%◌, ◌≤◌, ◌<◌}
use native.Mathlib.Omega.{arith}
use borrow.Author.Tests.{eqb-true, eqb-false, ne_eqb, lt-leb, le-leb, lt-ltb, leb-true}
use lib.Dec.{eqb, leb, lit<, lit≤}
use Rattle.chars.specs.Pick.{pick}
use Rattle.chars.specs.Classes.{within, is_whitespace, is_numeric, is_ascii_digit}
use Rattle.chars.specs.Utf8.{is_cont, encode_all}
use Rattle.chars.specs.Upper.{loses32, upper_of, codes_of as upper_codes}
use Rattle.chars.specs.declared.Decoded.TheVariants.{Char}
use Rattle.chars.specs.declared.Upper.{Upper}
use Rattle.chars.proofs.Cases.{by-test, of_test, and-true}
use Rattle.chars.proofs.Classes.{within-past}
use Rattle.chars.proofs.Encode.{encode-two}
use Rattle.chars.proofs.Laws.{two_is}
use Rattle.scanner.specs.declared.Class.{Class}
use Rattle.scanner.specs.declared.Class.TheVariants.{Whitespace, Numeric, Sign}
use Rattle.scanner.specs.Class.{in_class}
use Rattle.scanner.proofs.Digits.{above-digits, no-numeric}
use Rattle.scanner.proofs.Laws.{not_white}
use Rattle.chunks.specs.Upper.{upper_out, uppers}
use Rattle.chunks.proofs.Proper.{Spelled, Spells, spells_none, spells_more, encode-append, spelled-ascii}
use Rattle.verdicts.proofs.Fronts.{before, behind, has, front, skip, skip_one, number}

-- a character that is none of those that count for the front or the slash
pub record Letter (c : ℕ) : Type 0 where
  pub white : in_class Whitespace c ≡ false
  pub sign : in_class Sign c ≡ false
  pub numeric : in_class Numeric c ≡ false
  pub slash : eqb c 0x2F ≡ false

no_sign : (c : ℕ) → 0x2F < c → in_class Sign c ≡ false
unfolding in_class
no_sign c h = rw (ne_eqb c 0x2B (λ (e : c ≡ 0x2B). omega arith), ne_eqb c 0x2D (λ (e : c ≡ 0x2D). omega arith))

low-letter : (c : ℕ) → 0x39 < c → c < 0x80 → Letter c
low-letter c l h =
    record {
      white = not_white c (omega arith) h;
      sign = no_sign c (omega arith);
      numeric = no-numeric c h (above-digits c l);
      slash = ne_eqb c 0x2F (λ (e : c ≡ 0x2F). omega arith);
    }

far-numeric : (c : ℕ) → 0xBE < c → in_class Numeric c ≡ false
unfolding in_class is_numeric is_ascii_digit
far-numeric c h =
    rw (
      within-past 0x30 0x39 c (omega arith),
      within-past 0xB2 0xB3 c (omega arith),
      ne_eqb c 0xB9 (λ (e : c ≡ 0xB9). omega arith),
      within-past 0xBC 0xBE c (omega arith),
    )

far-white : (c : ℕ) → 0xA0 < c → c < 0x2000 → in_class Whitespace c ≡ false
unfolding in_class is_whitespace within
far-white c l h =
    rw (
      within-past 0x09 0x0D c (omega arith),
      ne_eqb c 0x20 (λ (e : c ≡ 0x20). omega arith),
      ne_eqb c 0x85 (λ (e : c ≡ 0x85). omega arith),
      ne_eqb c 0xA0 (λ (e : c ≡ 0xA0). omega arith),
      lt-leb 0x2000 c (omega arith),
      lt-leb 0x2028 c (omega arith),
      ne_eqb c 0x202F (λ (e : c ≡ 0x202F). omega arith),
      ne_eqb c 0x205F (λ (e : c ≡ 0x205F). omega arith),
    )

far-letter : (c : ℕ) → 0xBE < c → c < 0x2000 → Letter c
far-letter c l h =
    record {
      white = far-white c (omega arith) h;
      sign = no_sign c (omega arith);
      numeric = far-numeric c l;
      slash = ne_eqb c 0x2F (λ (e : c ≡ 0x2F). omega arith);
    }

-- a code of two bytes is read as itself
cont-is : (b : ℕ) → 0x80 ≤ b → b < 0xC0 → is_cont b ≡ true
unfolding is_cont
cont-is b l h = rw (le-leb 0x80 b l, lt-ltb b 0xC0 h)

spelled-two : (c : ℕ) → 0x80 ≤ c → c < 0x800 → Spelled c
spelled-two c l h = record { reads = λ r. rw (encode-two c l h) (two_is (0xC0 + c / 64) (0x80 + c % 64) r (omega arith) (omega arith) (cont-is (0x80 + c % 64) (omega arith) (omega arith)) (omega arith) ∙ ap (λ (n : ℕ). Char n 2) (omega arith)) }

-- what a character becomes: it stays as it is, or it is a letter and becomes letters. An X comes of an X or an x alone
pub data Raised (c : ℕ) : List ℕ → Type 0 where
  stays : eqb c 0x78 ≡ false → Raised c (c ∷ [])
  becomes : (d : ℕ) → Letter c → Letter d → Spelled d → eqb c 0x58 ≡ false → eqb d 0x58 ≡ eqb c 0x78 → Raised c (d ∷ [])
  doubles : Letter c → eqb c 0x58 ≡ false → eqb c 0x78 ≡ false → Raised c (0x53 ∷ 0x53 ∷ [])

within-is : (a b n : ℕ) → within a b n ≡ true → (a ≤ n) × (n ≤ b)
unfolding within
within-is a b n e = let p = and-true (leb a n) (leb n b) e in (leb-true a n p.0, leb-true n b p.1)

ascii-raised : (c : ℕ) → 0x61 ≤ c → c ≤ 0x7A → Raised c ((c - 32) ∷ [])
ascii-raised c l h =
    becomes (c - 32) (low-letter c (omega arith) (omega arith)) (low-letter (c - 32) (omega arith) (omega arith)) (spelled-ascii (c - 32) (omega arith))
    (ne_eqb c 0x58 (λ (e : c ≡ 0x58). omega arith))
    (of_test (eqb c 0x78) (λ t. rw (eqb-true c 0x78 t)) (λ t. rw t (ne_eqb (c - 32) 0x58 (λ (e : c - 32 ≡ 0x58). let n = eqb-false c 0x78 t in omega arith))))

far-raised : (c d : ℕ) → 0xBE < c → c < 0x2000 → 0xBE < d → d < 0x800 → Raised c (d ∷ [])
far-raised c d l h m g =
    becomes d (far-letter c l h) (far-letter d m (omega arith)) (spelled-two d (omega arith) g) (ne_eqb c 0x58 (λ (e : c ≡ 0x58). omega arith))
    (rw (ne_eqb c 0x78 (λ (e : c ≡ 0x78). omega arith)) (ne_eqb d 0x58 (λ (e : d ≡ 0x58). omega arith)))

loses-raised : (c : ℕ) → loses32 c ≡ true → Raised c ((c - 32) ∷ [])
unfolding loses32
loses-raised c e =
    of_test (within 0x61 0x7A c) (λ t. let p = within-is 0x61 0x7A c t in ascii-raised c p.0 p.1)
    (λ t.
    of_test (within 0xE0 0xF6 c) (λ u. let p = within-is 0xE0 0xF6 c u in far-raised c (c - 32) (omega arith) (omega arith) (omega arith) (omega arith))
    (λ u.
    let v : within 0xF8 0xFE c ≡ true = rw (t, u) at e in
    let p = within-is 0xF8 0xFE c v in
    far-raised c (c - 32) (omega arith) (omega arith) (omega arith) (omega arith)))

-- U+00B5 becomes U+039C
micro : Letter 0xB5
unfolding in_class is_whitespace is_numeric is_ascii_digit within
micro = record { white = refl; sign = refl; numeric = refl; slash = refl }

not_x : (c : ℕ) → loses32 c ≡ false → eqb c 0x78 ≡ false
unfolding loses32 within
not_x c e = of_test (eqb c 0x78) (λ t. absurd (false≢true (sym (rw (eqb-true c 0x78 t) at e)))) (λ t. t)

-- so it is with every character
pub raised : (c : ℕ) → Raised c (upper_codes (upper_of c))
unfolding upper_of upper_codes
raised c =
    by-test P (loses32 c) (λ e. loses-raised c e)
    (λ e. by-test P (eqb c 0xFF) (λ t. let z = eqb-true c 0xFF t in far-raised c 0x178 (omega arith) (omega arith) (lit< tt) (lit< tt))
    (λ _. by-test P (eqb c 0xB5)
    (λ t. rw (eqb-true c 0xB5 t) (becomes 0x39C micro (far-letter 0x39C (lit< tt) (lit< tt)) (spelled-two 0x39C (lit≤ tt) (lit< tt)) refl refl))
    (λ _. by-test P (eqb c 0xDF) (λ t. rw (eqb-true c 0xDF t) (doubles (far-letter 0xDF (lit< tt) (lit< tt)) refl refl)) (λ _. stays (not_x c e)))))
  where
    P : Upper → Type 0
    P u = Raised c (upper_codes u)

-- the codes of the upper case
abbrev pub upper_all : List ℕ → List ℕ
upper_all [] = []
upper_all (c ∷ cs) = upper_codes (upper_of c) ++ upper_all cs

-- their bytes are the text in upper case
pub upper-bytes : (cs : List ℕ) → uppers cs ≡ encode_all (upper_all cs)
unfolding uppers upper_out encode_all
upper-bytes [] = refl
upper-bytes (c ∷ cs) = rw (upper-bytes cs) (sym (encode-append (upper_codes (upper_of c)) (upper_all cs)))

raised-spells : {c : ℕ} {l r : List ℕ} → Raised c l → Spelled c → Spells r → Spells (l ++ r)
raised-spells (stays _) p s = spells_more p s
raised-spells (becomes d _ _ q _ _) p s = spells_more q s
raised-spells (doubles _ _ _) p s = let q = spelled-ascii 0x53 (lit< tt) in spells_more q (spells_more q s)

-- and each is read as itself
pub upper-spells : {cs : List ℕ} → Spells cs → Spells (upper_all cs)
upper-spells spells_none = spells_none
upper-spells (spells_more {c} p r) = raised-spells (raised c) p (upper-spells r)

-- the letter S
ess : Letter 0x53
ess = low-letter 0x53 (lit< tt) (lit< tt)

-- a class that no letter is of
module _ (k : Class) (o : (c : ℕ) → Letter c → in_class k c ≡ false) where
  raised-skip : {c : ℕ} {l : List ℕ} (r : List ℕ) → Raised c l → skip k (l ++ r) ≡ pick (in_class k c) (skip k r) (l ++ r)
  unfolding pick
  raised-skip r (stays _) = refl
  raised-skip {c} r (becomes d a b _ _ _) = rw (o c a, o d b)
  raised-skip {c} r (doubles a _ _) = rw (o c a, o 0x53 ess)

  raised-one : {c : ℕ} {l : List ℕ} (r : List ℕ) → Raised c l → skip_one k (l ++ r) ≡ pick (in_class k c) r (l ++ r)
  unfolding pick
  raised-one r (stays _) = refl
  raised-one {c} r (becomes d a b _ _ _) = rw (o c a, o d b)
  raised-one {c} r (doubles a _ _) = rw (o c a, o 0x53 ess)

  raised-front : {c : ℕ} {l : List ℕ} (r : List ℕ) → Raised c l → front k (l ++ r) ≡ pick (in_class k c) (c ∷ front k r) []
  unfolding pick
  raised-front r (stays _) = refl
  raised-front {c} r (becomes d a b _ _ _) = rw (o c a, o d b)
  raised-front {c} r (doubles a _ _) = rw (o c a, o 0x53 ess)

  skip-upper : (cs : List ℕ) → skip k (upper_all cs) ≡ upper_all (skip k cs)
  unfolding pick
  skip-upper [] = refl
  skip-upper (c ∷ cs) = raised-skip (upper_all cs) (raised c) ∙ of_test (in_class k c) (λ t. rw t (skip-upper cs)) (λ t. rw t)

  one-upper : (cs : List ℕ) → skip_one k (upper_all cs) ≡ upper_all (skip_one k cs)
  unfolding pick
  one-upper [] = refl
  one-upper (c ∷ cs) = raised-one (upper_all cs) (raised c) ∙ of_test (in_class k c) (λ t. rw t) (λ t. rw t)

  front-upper : (cs : List ℕ) → front k (upper_all cs) ≡ front k cs
  unfolding pick
  front-upper [] = refl
  front-upper (c ∷ cs) = raised-front (upper_all cs) (raised c) ∙ of_test (in_class k c) (λ t. rw (t, front-upper cs)) (λ t. rw t)

-- the number at the front stays
pub number-upper : (cs : List ℕ) → number (upper_all cs) ≡ number cs
number-upper cs =
    let white : (c : ℕ) → Letter c → in_class Whitespace c ≡ false = λ c l. l.white in
    rw (
      skip-upper Whitespace white cs,
      one-upper Sign (λ c l. l.sign) (skip Whitespace cs),
      skip-upper Whitespace white (skip_one Sign (skip Whitespace cs)),
    )
    (front-upper Numeric (λ c l. l.numeric) (skip Whitespace (skip_one Sign (skip Whitespace cs))))

-- what stands before the slash and behind it
raised-before : {c : ℕ} {l : List ℕ} (r : List ℕ) → Raised c l → before 0x2F (l ++ r) ≡ pick (eqb c 0x2F) [] (l ++ before 0x2F r)
unfolding pick
raised-before r (stays _) = refl
raised-before {c} r (becomes d a b _ _ _) = rw (a.slash, b.slash)
raised-before {c} r (doubles a _ _) = rw a.slash

raised-behind : {c : ℕ} {l : List ℕ} (r : List ℕ) → Raised c l → behind 0x2F (l ++ r) ≡ pick (eqb c 0x2F) r (behind 0x2F r)
unfolding pick
raised-behind r (stays _) = refl
raised-behind {c} r (becomes d a b _ _ _) = rw (a.slash, b.slash)
raised-behind {c} r (doubles a _ _) = rw a.slash

-- (of all the codes)
pub before-upper : (cs : List ℕ) → before 0x2F (upper_all cs) ≡ upper_all (before 0x2F cs)
unfolding pick
before-upper [] = refl
before-upper (c ∷ cs) = raised-before (upper_all cs) (raised c) ∙ of_test (eqb c 0x2F) (λ t. rw t) (λ t. rw (t, before-upper cs))

pub behind-upper : (cs : List ℕ) → behind 0x2F (upper_all cs) ≡ upper_all (behind 0x2F cs)
unfolding pick
behind-upper [] = refl
behind-upper (c ∷ cs) = raised-behind (upper_all cs) (raised c) ∙ of_test (eqb c 0x2F) (λ t. rw t) (λ t. rw (t, behind-upper cs))

-- an X is one that was an X or an x
raised-has : {c : ℕ} {l : List ℕ} (r : List ℕ) → Raised c l → has 0x58 (l ++ r) ≡ (eqb c 0x58 || eqb c 0x78) || has 0x58 r
raised-has {c} r (stays e) = rw e (no_more (eqb c 0x58))
  where
    no_more : (b : Bool) → b || has 0x58 r ≡ (b || false) || has 0x58 r
    no_more true = refl
    no_more false = refl
raised-has r (becomes d _ _ _ e f) = rw (e, f)
raised-has r (doubles _ e f) = rw (e, f)

or_swap : (a b c d : Bool) → (a || b) || (c || d) ≡ (a || c) || (b || d)
or_swap true b c d = refl
or_swap false true true d = refl
or_swap false true false d = refl
or_swap false false c d = refl

pub has-upper : (cs : List ℕ) → has 0x58 (upper_all cs) ≡ has 0x58 cs || has 0x78 cs
has-upper [] = refl
has-upper (c ∷ cs) =
    raised-has (upper_all cs) (raised c)
    ∙ ap (λ (b : Bool). (eqb c 0x58 || eqb c 0x78) || b) (has-upper cs)
    ∙ or_swap (eqb c 0x58) (eqb c 0x78) (has 0x58 cs) (has 0x78 cs)
