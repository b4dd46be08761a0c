-- How long what is put out is: a character no longer than it was, a chunk at most two bytes longer, a list within the room that is asked
-- for, and so within 4,224 bytes. A list of 64 Math chunks with 4,096 bytes comes to just that.
-- Assumes nothing.
use mathlib.Core.Path.{◌≡◌, ap}
use mathlib.Core.Bool.{Bool, true, false}
use mathlib.Core.List.{List, [], ◌∷◌}
use Prim.Native.Nat.{ℕ, zero, suc, ◌+◌, ◌-◌, ◌*◌, ◌≤◌, ◌<◌, zero-le}
use native.Mathlib.Omega.{arith}
use borrow.Author.Tests.{leb-true}
use lib.Dec.{leb, eqb}
use lib.ListN.{length, take, drop, length-append, length-take, length-drop}
use Rattle.chars.specs.Utf8.{encode}
use Rattle.chars.specs.Classes.{is_whitespace}
use Rattle.chars.specs.declared.Decoded.{Decoded}
use Rattle.chars.proofs.Cases.{by-test, and-true}
use Rattle.chars.proofs.Laws.{Sound, first-sound}
use Rattle.chars.proofs.Laws.Sound.{char, bad, end}
use Rattle.chars.proofs.Uppers.{upper-length}
use Rattle.chunks.specs.Characters.{and_then, up_to, characters, codes_of, codes}
use Rattle.chunks.specs.Chunks.{Chunk, chunks_of, is_short}
use Rattle.chunks.specs.Format.{is_break, one_out, normal, chunk_out, chunk_flag, chunks_out, formatted}
use Rattle.chunks.specs.Upper.{upper_out}
use Rattle.chunks.specs.Answer.{room_of}

-- one character
pub one-short : (w : Bool) (code k : ℕ) → 0 < k → length (encode code) ≡ k → length (one_out w code) ≤ k
unfolding one_out
one-short w code k h e = by-test P (is_break code) (λ _. by-test P w (λ _. zero-le) (λ _. h)) (λ _. omega arith)
  where
    P : List ℕ → Type 0
    P b = length b ≤ k

-- a Normal chunk
after-short : {t : List ℕ} {d : Decoded} → Sound t d → (r : ℕ → List Decoded) → ((w : Bool) (k : ℕ) → length (normal w (codes_of (r k))) ≤ length t - k) → (w : Bool) → length (normal w (codes_of (and_then d r))) ≤ length t
unfolding and_then codes_of normal
after-short {t} (char {k} {code} a b m e) r h w =
    let long : length (encode code) ≡ k = omega (arith, ap length e, length-take k t) in
    simp length-append (omega (arith, a, b, h (is_whitespace code) k, one-short w code k a long))
after-short bad r h w = zero-le
after-short end r h w = zero-le

up-to-short : (n : ℕ) (t : List ℕ) (w : Bool) → length (normal w (codes_of (up_to n t))) ≤ length t
unfolding up_to codes_of normal
up-to-short zero t w = zero-le
up-to-short (suc n) t w = after-short (first-sound t) (λ k. up_to n (drop k t)) (λ v k. omega (arith, up-to-short n (drop k t) v, length-drop k t)) w

pub normal-short : (t : List ℕ) (w : Bool) → length (normal w (codes t)) ≤ length t
unfolding codes characters
normal-short t w = up-to-short (length t) t w

-- any chunk
pub chunk-short : (t : List ℕ) (w : Bool) (kind : ℕ) → length (chunk_out w kind t) ≤ length t + 2
unfolding chunk_out
chunk-short t w kind =
    by-test P (eqb kind 0) (λ _. omega (arith, normal-short t w))
    (λ _. by-test P (eqb kind 1) (λ _. omega arith) (λ _. omega (arith, length-append t (0x24 ∷ []))))
  where
    P : List ℕ → Type 0
    P b = length b ≤ length t + 2

-- a list
chunks-short : (w : Bool) (b : List ℕ) (cs : List Chunk) → length (chunks_out w b cs) ≤ length b + 2 * length cs
unfolding chunks_out
chunks-short w b [] = zero-le
chunks-short w b (c ∷ cs) =
    let t : List ℕ = take c.len b in
    let one = chunk-short t w c.kind in
    let rest = chunks-short (chunk_flag w c.kind t) (drop c.len b) cs in
    simp length-append (omega (arith, one, rest, length-take c.len b, length-drop c.len b))

pub text-short : (b table : List ℕ) → length (formatted b table) ≤ room_of b table
unfolding formatted room_of
text-short b table = chunks-short false b (chunks_of table)

-- no list within the limits asks for more than 4,224 bytes
pub room_bound : (b table : List ℕ) → is_short b table ≡ true → room_of b table ≤ 4224
unfolding is_short room_of
room_bound b table e =
    let h = and-true (leb (length (chunks_of table)) 64) (leb (length b) 4096) e in
    omega (arith, leb-true (length (chunks_of table)) 64 h.0, leb-true (length b) 4096 h.1)

-- the same number of bytes in upper case
pub upper_long : (code : ℕ) → length (upper_out code) ≡ length (encode code)
unfolding upper_out
upper_long code = upper-length code
