-- A list that stands: it has no fault, and its text is its bytes.
-- Assumes nothing.
use mathlib.Core.Path.{◌≡◌, refl, sym, ◌∙◌}
use mathlib.Core.Bool.{Bool, true, false, not, ◌&&◌, false≢true}
use mathlib.Core.List.{List, [], ◌∷◌}
use Prim.Native.Nat.{ℕ, zero, suc, ◌+◌, ◌≤◌, ◌<◌}
use native.Mathlib.Numerals.{add-one}
use native.Mathlib.Omega.{arith}
use borrow.Author.Tests.{leb-true}
use lib.Dec.{ltb, leb}
use lib.ListN.{length, get_or, take, drop, length-drop, take-append-drop, drop_of_length-le}
use lib.Seq.{drop-cons}
use Rattle.chars.specs.Pick.{pick}
use Rattle.chars.specs.Classes.{is_whitespace}
use Rattle.chars.proofs.Cases.{of_test, and-true}
use Rattle.std.specs.Prelude.{Ok}
use Rattle.chunks.specs.Chunks.{Chunk, chunks_of, no_math, lengths, fits, is_short}
use Rattle.chunks.specs.Check.{checked}
use Rattle.chunks.specs.Format.{chunk_out, chunk_flag, chunks_out, formatted}
use Rattle.chunks.specs.Plain.{all_ascii, all_unbroken, plain_byte, plain_text}
use Rattle.chunks.specs.Standing.{is_standing, all_standing, list_stands}
use Rattle.chunks.specs.Answer.{text_of}
use Rattle.chunks.proofs.Tables.{chunks-at, chunks-over, of-fits}
use Rattle.chunks.proofs.Plains.{ascii-codes, normal-plain, other-out, plain-text}
use Rattle.chunks.proofs.Whole.{ascii-checked, unbroken-front, unbroken-plain}

-- a byte that is put as it is
module _ (u : Bool) (b : ℕ) (e : is_standing u b ≡ true) where
  abbrev lower : Bool
  lower = leb 0x61 b && leb b 0x7A

  seven-bits : (ltb 0x0D b && ltb b 0x80) ≡ true
  unfolding is_standing
  seven-bits = (and-true (ltb 0x0D b && ltb b 0x80) (not (u && lower)) e).0

  not-raised : not (u && lower) ≡ true
  unfolding is_standing
  not-raised = (and-true (ltb 0x0D b && ltb b 0x80) (not (u && lower)) e).1

  above-breaks : ltb 0x0D b ≡ true
  above-breaks = (and-true (ltb 0x0D b) (ltb b 0x80) seven-bits).0

  is-low : ltb b 0x80 ≡ true
  is-low = (and-true (ltb 0x0D b) (ltb b 0x80) seven-bits).1

same_byte : (u : Bool) (b : ℕ) → is_standing u b ≡ true → plain_byte u b ≡ b
unfolding plain_byte pick
same_byte false b e = refl
same_byte true b e =
    of_test (leb 0x61 b && leb b 0x7A) (λ t. absurd (false≢true (rw t at (not-raised true b e)))) (λ t. rw t)

module _ (u : Bool) (b : ℕ) (t : List ℕ) (e : all_standing u (b ∷ t) ≡ true) where
  front-stands : is_standing u b ≡ true
  unfolding all_standing
  front-stands = (and-true (is_standing u b) (all_standing u t) e).0

  rest-stands : all_standing u t ≡ true
  unfolding all_standing
  rest-stands = (and-true (is_standing u b) (all_standing u t) e).1

pub standing-ascii : (u : Bool) (t : List ℕ) → all_standing u t ≡ true → all_ascii t ≡ true
unfolding all_ascii
standing-ascii u [] e = refl
standing-ascii u (b ∷ t) e = rw (is-low u b (front-stands u b t e)) (standing-ascii u t (rest-stands u b t e))

standing-unbroken : (u : Bool) (t : List ℕ) → all_standing u t ≡ true → all_unbroken t ≡ true
unfolding all_unbroken
standing-unbroken u [] e = refl
standing-unbroken u (b ∷ t) e = rw (above-breaks u b (front-stands u b t e)) (standing-unbroken u t (rest-stands u b t e))

-- cut in two
take-stands : (u : Bool) (n : ℕ) (t : List ℕ) → all_standing u t ≡ true → all_standing u (take n t) ≡ true
unfolding all_standing
take-stands u zero t e = refl
take-stands u (suc n) [] e = refl
take-stands u (suc n) (b ∷ t) e = rw (front-stands u b t e) (take-stands u n t (rest-stands u b t e))

drop-stands : (u : Bool) (n : ℕ) (t : List ℕ) → all_standing u t ≡ true → all_standing u (drop n t) ≡ true
drop-stands u zero t e = e
drop-stands u (suc n) [] e = e
drop-stands u (suc n) (b ∷ t) e = drop-stands u n t (rest-stands u b t e)

-- put as it is, and in upper case where that is asked
standing-plain : (u w : Bool) (t : List ℕ) → all_standing u t ≡ true → plain_text u w t ≡ t
unfolding plain_text
standing-plain u w [] e = refl
standing-plain u w (b ∷ t) e =
    rw (
      other-out u w b (unbroken-front b t (standing-unbroken u (b ∷ t) e)),
      same_byte u b (front-stands u b t e),
      standing-plain u (is_whitespace b) t (rest-stands u b t e),
    )

-- a chunk that is no Math
chunk-stands : (u w : Bool) (kind : ℕ) (t : List ℕ) → kind ≤ 1 → all_standing u t ≡ true → chunk_out w kind t ≡ t
unfolding chunk_out pick
chunk-stands u w zero t h e =
    let a = standing-ascii u t e in
    rw (ascii-codes t a) (normal-plain w t a ∙ unbroken-plain w t (standing-unbroken u t e))
chunk-stands u w (suc zero) t h e = refl
chunk-stands u w (suc (suc k)) t h e = absurd (omega arith)

-- and all of them
chunks-stand : (u w : Bool) (b : List ℕ) (cs : List Chunk) → all_standing u b ≡ true → no_math cs ≡ true → lengths cs ≡ length b → chunks_out w b cs ≡ b
unfolding chunks_out no_math lengths
chunks-stand u w [] [] s m e = refl
chunks-stand u w (x ∷ b) [] s m e = absurd (omega arith)
chunks-stand u w b (k ∷ cs) s m e =
    let p = and-true (leb k.kind 1) (no_math cs) m in
    let l = length-drop k.len b in
    rw (
      chunk-stands u w k.kind (take k.len b) (leb-true k.kind 1 p.0) (take-stands u k.len b s),
      chunks-stand u (chunk_flag w k.kind (take k.len b)) (drop k.len b) cs (drop-stands u k.len b s) p.1 (omega arith),
    )
    (take-append-drop k.len b)

-- what such a list is
record Stands (u : Bool) (b table : List ℕ) : Type 0 where
  whole : fits b table ≡ true
  short : is_short b table ≡ true
  plain : no_math (chunks_of table) ≡ true
  bytes : all_standing u b ≡ true

of-stands : (u : Bool) (b table : List ℕ) → list_stands u b table ≡ true → Stands u b table
unfolding list_stands
of-stands u b table s =
    let p = and-true (fits b table) _ s in
    let q = and-true (is_short b table) _ p.1 in
    let r = and-true (no_math (chunks_of table)) (all_standing u b) q.1 in
    record { whole = p.0; short = q.0; plain = r.0; bytes = r.1 }

module _ (u : Bool) (b table : List ℕ) (s : list_stands u b table ≡ true) where
  abbrev k : Stands u b table
  k = of-stands u b table s

  -- it has no fault,
  pub stands-clean : checked b table ≡ (Ok tt)
  stands-clean = ascii-checked b table k.whole k.short (standing-ascii u b k.bytes)

  -- it is put as it is,
  pub stands-formatted : formatted b table ≡ b
  unfolding formatted
  stands-formatted = chunks-stand u false b (chunks_of table) k.bytes k.plain (of-fits b table k.whole).sum

  -- and so is the text that is asked for
  pub stands-text : text_of u b table ≡ b
  stands-text =
      plain-text u b table (stands-formatted ∙ sym (unbroken-plain false b (standing-unbroken u b k.bytes))) (standing-ascii u b k.bytes)
      ∙ standing-plain u false b k.bytes

-- byte by byte
pub standing-step : (u : Bool) (t : List ℕ) (i : ℕ) → i < length t → all_standing u (drop i t) ≡ (is_standing u (get_or t i 0) && all_standing u (drop (i + 1) t))
unfolding all_standing
standing-step u t i h = rw (add-one, drop-cons t i 0 h)

pub standing-all : (u : Bool) (t : List ℕ) (i : ℕ) → length t ≤ i → all_standing u (drop i t) ≡ true
unfolding all_standing
standing-all u t i h = rw (drop_of_length-le t h)

-- chunk by chunk
pub math-step : (t : List ℕ) (k : ℕ) → k + 3 < length t → no_math (chunks_of (drop k t)) ≡ (leb (get_or t k 0) 1 && no_math (chunks_of (drop (k + 4) t)))
unfolding no_math
math-step t k h = rw (chunks-at t k h)

pub math-all : (t : List ℕ) (k : ℕ) → length t ≤ k → no_math (chunks_of (drop k t)) ≡ true
unfolding no_math
math-all t k h = rw (chunks-over t k h)
