-- One Normal chunk of ASCII: it is clean, and the one pass gives what formatting and upper case give.
-- Assumes nothing.
use mathlib.Core.Path.{◌≡◌, refl, sym, ap, ◌∙◌}
use mathlib.Core.Bool.{Bool, true, false, ◌&&◌, ◌||◌}
use mathlib.Core.List.{List, [], ◌∷◌, ◌++◌, append-nil, append_assoc}
use Prim.Native.Nat.{ℕ, ◌+◌, ◌-◌, ◌≤◌, ◌<◌, zero-le}
use native.Mathlib.Nat.{add-zero}
use native.Mathlib.Omega.{arith}
use borrow.Author.Tests.{ltb-true, leb-true, eqb-true, lt-ltb, le-leb, lt-leb, eq-eqb, ne_eqb}
use lib.Dec.{ltb, leb, eqb, lit<}
use lib.ListN.{length, get_or}
use lib.Seq.{take_all}
use Rattle.chars.specs.Pick.{pick}
use Rattle.chars.specs.Utf8.{encode_all}
use Rattle.chars.specs.Classes.{within, is_whitespace}
use Rattle.chars.proofs.Classes.{ascii-admitted, printing-not-white}
use Rattle.chars.specs.Upper.{loses32, upper_of, codes_of as upper_codes}
use Rattle.chars.specs.declared.Decoded.TheVariants.{Char}
use Rattle.chars.specs.declared.Upper.TheVariants.{One}
use Rattle.chars.proofs.Cases.{by-test, of_test, and-true}
use Rattle.chars.proofs.Encode.{encode_one}
use Rattle.chars.proofs.Laws.{first-ascii}
use Rattle.std.specs.Prelude.{Ok}
use Rattle.chunks.specs.Characters.{and_then, up_to, characters, codes_of, codes}
use Rattle.chunks.specs.Chunks.{chunks_of, kinds_known, lengths, fits, is_short}
use Rattle.chunks.specs.Check.{fault_in, or_else, fault_of, checked}
use Rattle.chunks.specs.Format.{is_break, one_out, normal, chunk_out, chunks_out, formatted}
use Rattle.chunks.specs.Upper.{upper_out, uppers, uppercase}
use Rattle.chunks.specs.Plain.{all_ascii, is_plain, plain_byte, plain_out, plain_text}
use Rattle.chunks.specs.Answer.{text_of, room_of}
use Rattle.chunks.proofs.Walk.{characters-are}

-- an ASCII text, byte by byte
module _ (b : ℕ) (t : List ℕ) (e : all_ascii (b ∷ t) ≡ true) where
  pub front_low : b < 0x80
  unfolding all_ascii
  front_low = ltb-true b 0x80 (and-true (ltb b 0x80) (all_ascii t) e).0

  pub rest-ascii : all_ascii t ≡ true
  unfolding all_ascii
  rest-ascii = (and-true (ltb b 0x80) (all_ascii t) e).1

  ascii-characters : characters (b ∷ t) ≡ Char b 1 ∷ characters t
  unfolding and_then
  ascii-characters = characters-are (b ∷ t) ∙ rw (first-ascii b t front_low)

pub no-characters : characters [] ≡ []
unfolding characters up_to
no-characters = refl

-- its characters are its bytes
pub ascii-codes : (t : List ℕ) → all_ascii t ≡ true → codes t ≡ t
unfolding codes codes_of
ascii-codes [] e = rw no-characters
ascii-codes (b ∷ t) e = rw (ascii-characters b t e) (ap (λ (l : List ℕ). b ∷ l) (ascii-codes t (rest-ascii b t e)))

-- none of them is a fault
pub ascii-clean : (p : ℕ) (t : List ℕ) → all_ascii t ≡ true → fault_in p (characters t) ≡ (Ok tt)
unfolding fault_in pick
ascii-clean p [] e = rw no-characters
ascii-clean p (b ∷ t) e = rw (ascii-characters b t e, ascii-admitted b (front_low b t e)) (ascii-clean (p + 1) t (rest-ascii b t e))

-- as it is
pub normal-plain : (w : Bool) (t : List ℕ) → all_ascii t ≡ true → normal w t ≡ plain_text false w t
unfolding normal plain_text one_out plain_out plain_byte pick
normal-plain w [] e = refl
normal-plain w (b ∷ t) e = rw (encode_one b (front_low b t e), normal-plain (is_whitespace b) t (rest-ascii b t e))

-- in upper case
pub upper-ascii : (b : ℕ) → b < 0x80 → upper_out b ≡ plain_byte true b ∷ []
unfolding upper_out upper_of loses32 within plain_byte encode_all upper_codes pick
upper-ascii b h =
    rw (
      lt-leb 0xE0 b (omega arith),
      lt-leb 0xF8 b (omega arith),
      ne_eqb b 0xFF (λ (e : b ≡ 0xFF). omega arith),
      ne_eqb b 0xB5 (λ (e : b ≡ 0xB5). omega arith),
      ne_eqb b 0xDF (λ (e : b ≡ 0xDF). omega arith),
    )
    (by-case (leb 0x61 b && leb b 0x7A))
  where
    by-case : (t : Bool) → encode_all (upper_codes (pick (t || false || false) (One (b - 32)) (One b))) ≡ pick t (b - 32) b ∷ []
    by-case true = ap (λ (l : List ℕ). l ++ []) (encode_one (b - 32) (omega arith))
    by-case false = ap (λ (l : List ℕ). l ++ []) (encode_one b h)

all_append : (s t : List ℕ) → all_ascii s ≡ true → all_ascii t ≡ true → all_ascii (s ++ t) ≡ true
unfolding all_ascii
all_append [] t e f = f
all_append (b ∷ s) t e f = rw (lt-ltb b 0x80 (front_low b s e), all_append s t (rest-ascii b s e) f)

plain-same : (b : ℕ) → plain_byte false b ≡ b
unfolding plain_byte pick
plain-same b = refl

out-ascii : (w : Bool) (b : ℕ) → b < 0x80 → all_ascii (plain_out false w b) ≡ true
unfolding plain_out all_ascii
out-ascii w b h = by-test P (is_break b) (λ _. by-test P w (λ _. refl) (λ _. refl)) (λ _. rw (plain-same b, lt-ltb b 0x80 h))
  where
    P : List ℕ → Type 0
    P l = all_ascii l ≡ true

text-ascii : (w : Bool) (t : List ℕ) → all_ascii t ≡ true → all_ascii (plain_text false w t) ≡ true
unfolding plain_text all_ascii
text-ascii w [] e = refl
text-ascii w (b ∷ t) e = all_append (plain_out false w b) (plain_text false (is_whitespace b) t) (out-ascii w b (front_low b t e)) (text-ascii (is_whitespace b) t (rest-ascii b t e))

uppers-append : (s t : List ℕ) → uppers (s ++ t) ≡ uppers s ++ uppers t
unfolding uppers
uppers-append [] t = refl
uppers-append (c ∷ s) t = rw (uppers-append s t) (sym (append_assoc (upper_out c) (uppers s) (uppers t)))

out-by-case : (brk w : Bool) (b : ℕ) → b < 0x80 → uppers (pick brk (pick w [] (0x20 ∷ [])) (plain_byte false b ∷ [])) ≡ pick brk (pick w [] (0x20 ∷ [])) (plain_byte true b ∷ [])
unfolding uppers pick plain_byte
out-by-case true true b h = refl
out-by-case true false b h = ap (λ (l : List ℕ). l ++ []) (upper-ascii 0x20 (lit< tt))
out-by-case false w b h = rw (plain-same b) (ap (λ (l : List ℕ). l ++ []) (upper-ascii b h))

out-upper : (w : Bool) (b : ℕ) → b < 0x80 → uppers (plain_out false w b) ≡ plain_out true w b
unfolding plain_out
out-upper w b h = out-by-case (is_break b) w b h

uppers-plain : (w : Bool) (t : List ℕ) → all_ascii t ≡ true → uppers (plain_text false w t) ≡ plain_text true w t
unfolding plain_text uppers
uppers-plain w [] e = refl
uppers-plain w (b ∷ t) e =
    rw (
      uppers-append (plain_out false w b) (plain_text false (is_whitespace b) t),
      out-upper w b (front_low b t e),
      uppers-plain (is_whitespace b) t (rest-ascii b t e),
    )

-- a byte puts out at most one
pub plain-short : (u w : Bool) (b : ℕ) → length (plain_out u w b) ≤ 1
unfolding plain_out
plain-short u w b = by-test P (is_break b) (λ _. by-test P w (λ _. zero-le) (λ _. omega arith)) (λ _. omega arith)
  where
    P : List ℕ → Type 0
    P l = length l ≤ 1

-- a byte above the space: no line break and no white space
pub plain-high : (u w : Bool) (b : ℕ) → 0x20 < b → b < 0x80 → (plain_out u w b ≡ plain_byte u b ∷ []) × (is_whitespace b ≡ false)
unfolding plain_out is_break pick
plain-high u w b l h =
    rw (
      ne_eqb b 0x0A (λ (e : b ≡ 0x0A). omega arith),
      ne_eqb b 0x0D (λ (e : b ≡ 0x0D). omega arith),
      printing-not-white b l h,
    )
    (refl, refl)

-- what a call said of the byte's code, of the byte itself
pub is-break-of : (b : ℕ) {code : ℕ} {r t : Bool} → code ≡ b → r ≡ is_break code → r ≡ t → is_break b ≡ t
is-break-of b e f g = sym (ap is_break e) ∙ sym f ∙ g

module _ (u w : Bool) (b : ℕ) where
  pub break-dropped : is_break b ≡ true → w ≡ true → plain_out u w b ≡ []
  unfolding plain_out pick
  break-dropped e f = rw (e, f)

  pub break-space : is_break b ≡ true → w ≡ false → plain_out u w b ≡ 0x20 ∷ []
  unfolding plain_out pick
  break-space e f = rw (e, f)

  pub other-out : is_break b ≡ false → plain_out u w b ≡ plain_byte u b ∷ []
  unfolding plain_out pick
  other-out e = rw e

-- a line break is white space
pub break-white : (b : ℕ) → is_break b ≡ true → is_whitespace b ≡ true
unfolding is_break is_whitespace within
break-white b e =
    of_test (eqb b 0x0A) (λ t. rw (eqb-true b 0x0A t)) (λ t. let u : eqb b 0x0D ≡ true = rw t at e in rw (eqb-true b 0x0D u))

-- what a plain list is
pub record IsPlain (b t : List ℕ) : Type 0 where
  pub four : length t ≡ 4
  pub normal_kind : get_or t 0 0 ≡ 0
  pub whole : get_or t 1 0 ≡ length b
  pub small : length b ≤ 4096
  pub ascii : all_ascii b ≡ true

pub of_plain : (b t : List ℕ) → is_plain b t ≡ true → IsPlain b t
unfolding is_plain
of_plain b t e =
    let p = and-true (eqb (length t) 4) _ e in
    let q = and-true (eqb (get_or t 0 0) 0) _ p.1 in
    let r = and-true (eqb (get_or t 1 0) (length b)) _ q.1 in
    let v = and-true (leb (length b) 4096) (all_ascii b) r.1 in
    record {
      four = eqb-true _ 4 p.0;
      normal_kind = eqb-true _ 0 q.0;
      whole = eqb-true _ _ r.0;
      small = leb-true (length b) 4096 v.0;
      ascii = v.1;
    }

-- one Normal chunk with all of the bytes
pub chunk-plain : (b : List ℕ) (k n s e : ℕ) → k ≡ 0 → n ≡ length b → length b ≤ 4096 → all_ascii b ≡ true → (checked b (k ∷ n ∷ s ∷ e ∷ []) ≡ (Ok tt)) × (formatted b (k ∷ n ∷ s ∷ e ∷ []) ≡ plain_text false false b)
unfolding checked fits is_short chunks_of kinds_known lengths fault_of or_else formatted chunks_out chunk_out pick
chunk-plain b k n s e z w h a =
    rw (z, w, add-zero (length b), eq-eqb (length b) (length b) refl, le-leb (length b) 4096 h, take_all (length b) b (omega arith), ascii-clean 0 b a, ascii-codes b a)
    (refl, append-nil (normal false b) ∙ normal-plain false b a)

pub upper-plain : (b : List ℕ) → all_ascii b ≡ true → uppercase (plain_text false false b) ≡ plain_text true false b
unfolding uppercase
upper-plain b a = rw (ascii-codes (plain_text false false b) (text-ascii false b a)) (uppers-plain false b a)

-- the text of a plain list, in upper case or as it is
pub plain-text : (u : Bool) (b t : List ℕ) → formatted b t ≡ plain_text false false b → all_ascii b ≡ true → text_of u b t ≡ plain_text u false b
unfolding text_of pick
plain-text true b t f a = rw f (upper-plain b a)
plain-text false b t f a = f

-- a plain list has no fault, and its text is what the one pass gives
pub record Plainly (b t : List ℕ) : Type 0 where
  pub clean : checked b t ≡ (Ok tt)
  pub text : (u : Bool) → text_of u b t ≡ plain_text u false b
  pub room : room_of b t ≡ length b + 2

pub plainly : (b t : List ℕ) → IsPlain b t → Plainly b t
unfolding room_of chunks_of
plainly b [] p = absurd (omega (arith, p.four))
plainly b (k ∷ []) p = absurd (omega (arith, p.four))
plainly b (k ∷ n ∷ []) p = absurd (omega (arith, p.four))
plainly b (k ∷ n ∷ s ∷ []) p = absurd (omega (arith, p.four))
plainly b (k ∷ n ∷ s ∷ e ∷ []) p =
    let both = chunk-plain b k n s e p.normal_kind p.whole p.small p.ascii in
    record { clean = both.0; text = λ u. plain-text u b (k ∷ n ∷ s ∷ e ∷ []) both.1 p.ascii; room = refl }
plainly b (k ∷ n ∷ s ∷ e ∷ x ∷ r) p = absurd (omega (arith, p.four))
