-- A list without a Math chunk, of printing ASCII: it has no fault, and its text is its bytes.
-- Assumes nothing.
use mathlib.Core.Path.{◌≡◌, refl, sym, ◌∙◌}
use mathlib.Core.Bool.{Bool, true, false}
use mathlib.Core.List.{List, [], ◌∷◌}
use Prim.Native.Nat.{ℕ, zero, suc, ◌≤◌}
use native.Mathlib.Omega.{arith}
use borrow.Author.Tests.{leb-true, le-leb, ne_eqb}
use lib.Dec.{leb}
use lib.ListN.{length, take, drop, length-drop, take-append-drop}
use Rattle.chars.specs.Pick.{pick}
use Rattle.chars.specs.Classes.{is_whitespace}
use Rattle.chars.proofs.Cases.{and-true}
use Rattle.chars.proofs.Encode.{encode_one}
use Rattle.std.specs.Prelude.{Ok}
use Rattle.chunks.specs.Chunks.{Chunk, chunks_of, no_math, lengths, fits, is_short}
use Rattle.chunks.specs.Check.{checked}
use Rattle.chunks.specs.Format.{is_break, one_out, normal, chunk_out, chunk_flag, chunks_out, formatted}
use Rattle.chunks.specs.Answer.{text_of}
use Rattle.chunks.proofs.Plains.{ascii-codes, plain-text}
use Rattle.chunks.proofs.Tables.{of-fits}
use Rattle.chunks.proofs.Whole.{ascii-checked}
use Rattle.codes.specs.Lists.{is_joined}
use Rattle.roundtrip_laws.proofs.Bytes.{Clear, none, more, clear-text, clear-ascii}

-- a text cut in two
take-clear : (n : ℕ) {t : List ℕ} → Clear t → Clear (take n t)
take-clear zero c = none
take-clear (suc n) none = none
take-clear (suc n) (more p c) = more p (take-clear n c)

drop-clear : (n : ℕ) {t : List ℕ} → Clear t → Clear (drop n t)
drop-clear zero c = c
drop-clear (suc n) none = none
drop-clear (suc n) (more p c) = drop-clear n c

-- a chunk is put as it is: no character of a Normal one is a line break
normal-clear : (w : Bool) {t : List ℕ} → Clear t → normal w t ≡ t
unfolding normal one_out is_break pick
normal-clear w none = refl
normal-clear w (more {x} p c) =
    rw (
      ne_eqb x 0x0A (λ (e : x ≡ 0x0A). omega (arith, p.low)),
      ne_eqb x 0x0D (λ (e : x ≡ 0x0D). omega (arith, p.low)),
      encode_one x p.high,
      normal-clear (is_whitespace x) c,
    )

chunk-clear : (w : Bool) (kind : ℕ) {t : List ℕ} → kind ≤ 1 → Clear t → chunk_out w kind t ≡ t
unfolding chunk_out pick
chunk-clear w zero {t} h c = rw (ascii-codes t (clear-ascii c)) (normal-clear w c)
chunk-clear w (suc zero) h c = refl
chunk-clear w (suc (suc k)) h c = absurd (omega arith)

-- and so are all of them
chunks-clear : (w : Bool) (b : List ℕ) (cs : List Chunk) → Clear b → no_math cs ≡ true → lengths cs ≡ length b → chunks_out w b cs ≡ b
unfolding chunks_out no_math lengths
chunks-clear w [] [] c m e = refl
chunks-clear w (x ∷ b) [] c m e = absurd (omega arith)
chunks-clear w b (k ∷ cs) c m e =
    let p = and-true (leb k.kind 1) (no_math cs) m in
    let l = length-drop k.len b in
    rw (
      chunk-clear w k.kind (leb-true k.kind 1 p.0) (take-clear k.len c),
      chunks-clear (chunk_flag w k.kind (take k.len b)) (drop k.len b) cs (drop-clear k.len c) p.1 (omega arith),
    )
    (take-append-drop k.len b)

-- what such a list is
record Joined (b table : List ℕ) : Type 0 where
  short : length b ≤ 54
  few : length (chunks_of table) ≤ 64
  plain : no_math (chunks_of table) ≡ true
  whole : fits b table ≡ true

of-joined : (b table : List ℕ) → is_joined b table ≡ true → Joined b table
unfolding is_joined
of-joined b table j =
    let p = and-true (leb (length b) 54) _ j in
    let q = and-true (leb (length (chunks_of table)) 64) _ p.1 in
    let r = and-true (no_math (chunks_of table)) _ q.1 in
    record { short = leb-true _ 54 p.0; few = leb-true _ 64 q.0; plain = r.0; whole = r.1 }

module _ (b table : List ℕ) (j : is_joined b table ≡ true) (c : Clear b) where
  abbrev k : Joined b table
  k = of-joined b table j

  joined-short : is_short b table ≡ true
  unfolding is_short
  joined-short = rw (le-leb (length (chunks_of table)) 64 k.few, le-leb (length b) 4096 (omega (arith, k.short)))

  -- it has no fault,
  pub joined-clean : checked b table ≡ (Ok tt)
  joined-clean = ascii-checked b table k.whole joined-short (clear-ascii c)

  joined-formatted : formatted b table ≡ b
  unfolding formatted
  joined-formatted = chunks-clear false b (chunks_of table) c k.plain (of-fits b table k.whole).sum

  -- and its text is its bytes, in upper case and as it is
  pub joined-text : (u : Bool) → text_of u b table ≡ b
  joined-text u = plain-text u b table (joined-formatted ∙ sym (clear-text false false c)) (clear-ascii c) ∙ clear-text u false c
