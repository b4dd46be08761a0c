use Rattle.chunks.proofs.Walk.{code-char}
use Rattle.chunks.proofs.Fill.{fill-put, behind, Filling}
use Rattle.chars.specs.declared.Decoded.TheVariants.{Char}
use lib.Seq.{drop-drop, sets}
use lib.ListN.{length, drop}
use native.Mathlib.Omega.{arith}
-- A character's upper case, as one character or two.
-- Assumes nothing.
use mathlib.Core.Path.{◌≡◌, sym, ap, subst, ◌∙◌}
use mathlib.Core.List.{List, ◌++◌, append-nil}
use Prim.Native.Nat.{ℕ, ◌<◌, ◌+◌, ◌≤◌}
use Rattle.chars.specs.Utf8.{encode, encode_all, decode_at}
use Rattle.chars.specs.Upper.{upper_of, codes_of as upper_codes}
use Rattle.chars.specs.declared.Upper.TheVariants.{One, Two}
use Rattle.chars.proofs.Uppers.{Small, upper-small}
use Rattle.chars.proofs.Uppers.Small.{small_one, small_two}
use Rattle.chunks.specs.Characters.{codes}
use Rattle.chunks.specs.Upper.{upper_out, uppers, uppercase}

pub one_out : (c : ℕ) {a : ℕ} → upper_of c ≡ One a → upper_out c ≡ encode a
unfolding upper_out encode_all upper_codes
one_out c {a} e = rw e (append-nil (encode a))

pub two_out : (c : ℕ) {a b : ℕ} → upper_of c ≡ Two a b → upper_out c ≡ encode a ++ encode b
unfolding upper_out encode_all upper_codes
two_out c {a} {b} e = rw e (ap (λ (l : List ℕ). encode a ++ l) (append-nil (encode b)))

of_one : {a : ℕ} → Small (One a) → a < 0x110000
of_one (small_one h) = h

of_two : {a b : ℕ} → Small (Two a b) → (a < 0x110000) × (b < 0x110000)
of_two (small_two h l) = (h, l)

pub one_below : (c : ℕ) {a : ℕ} → c < 0x110000 → upper_of c ≡ One a → a < 0x110000
one_below c h e = of_one (subst Small e (upper-small c h))

pub two-below : (c : ℕ) {a b : ℕ} → c < 0x110000 → upper_of c ≡ Two a b → (a < 0x110000) × (b < 0x110000)
two-below c h e = of_two (subst Small e (upper-small c h))

-- a character of the text in place, put in upper case: what is left behind it is as it was
module _ (b₀ buf buf' : List ℕ) (i code len m : ℕ) (e : m ≡ i + length (upper_out code)) (g : buf' ≡ sets buf i (upper_out code)) (n : length (upper_out code) ≡ len) where
  abbrev next : m ≡ i + len
  next = e ∙ ap (λ (k : ℕ). i + k) n

  pub raise-fill : Filling b₀ 0 (uppercase b₀) buf i (uppers (codes (drop i b₀))) → decode_at b₀ i ≡ Char code len → Filling b₀ 0 (uppercase b₀) buf' m (uppers (codes (drop m b₀)))
  unfolding uppers
  raise-fill f c =
      subst (λ (k : ℕ). Filling b₀ 0 (uppercase b₀) buf' m (uppers (codes (drop k b₀)))) (sym next)
      (fill-put (upper_out code) (rw (code-char b₀ i c) at f) e g)

  pub raise-same : drop i buf ≡ drop i b₀ → i + len ≤ length buf → drop m buf' ≡ drop m b₀
  raise-same s h =
      ap (λ (k : ℕ). drop k buf') e
      ∙ ap (drop (i + length (upper_out code))) g
      ∙ behind (upper_out code) buf i (omega arith)
      ∙ sym (drop-drop (length (upper_out code)) i buf)
      ∙ ap (drop (length (upper_out code))) s
      ∙ drop-drop (length (upper_out code)) i b₀
      ∙ ap (λ (k : ℕ). drop k b₀) (sym e)
