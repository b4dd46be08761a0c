use native.Mathlib.Omega.{arith}
use mathlib.Core.Path.{◌≡◌, refl, sym, ap, ◌∙◌}
use mathlib.Core.Bool.{true}
use mathlib.Core.List.{List, [], ◌∷◌}
use Prim.Native.Nat.{ℕ, ◌+◌, ◌<◌}
use lib.ListN.{length, get_or, drop, drop_of_length-le}
use lib.Seq.{drop-drop, drop-cons, sets}
use Rattle.chunks.specs.Upper.{uppercase, uppers}
use Rattle.chunks.specs.Plain.{all_ascii, plain_byte}
use Rattle.chunks.proofs.Fill.{fill_start, fill-put, behind}
use Rattle.chunks.proofs.Lengths.{ascii-on}
use Rattle.chunks.proofs.Plains.{ascii-codes}
use Rattle.chunks.proofs.Whole.{upper-step, low-at}
use Rattle.chunks.proofs.upper_bytes.Invariants.{Raised}
use Rattle.chunks.proofs.upper_bytes.Goals as goal

start : (b : List ℕ) → all_ascii b ≡ true → Raised b b 0
unfolding uppercase
start b e = record { fill = rw (ascii-codes b e) (fill_start b 0 (uppers b)); same = refl; ascii = e }

-- a byte is raised
turn : (b₀ b : List ℕ) (i x : ℕ) → Raised b₀ b i → i < length b₀ → x ≡ plain_byte true (get_or b i 0) → (b' : List ℕ) → b' ≡ sets b i (x ∷ []) → Raised b₀ b' (i + 1)
turn b₀ b i x v h e b' g =
    let l : length b ≡ length b₀ = v.fill.long in
    let same_byte : get_or b i 0 ≡ get_or b₀ i 0 = ap (λ (s : List ℕ). get_or s 0 0) (sym (drop-cons b i 0 (omega arith)) ∙ v.same ∙ drop-cons b₀ i 0 h) in
    let f : uppers (drop i b₀) ≡ x ∷ uppers (drop (i + 1) b₀) = upper-step b₀ i h v.ascii ∙ ap (λ (k : ℕ). k ∷ uppers (drop (i + 1) b₀)) (sym (e ∙ ap (plain_byte true) same_byte)) in
    record {
      fill = fill-put (x ∷ []) (rw f at v.fill) refl g;
      same = ap (drop (i + 1)) g ∙ behind (x ∷ []) b i (omega arith) ∙ sym (drop-drop 1 i b) ∙ ap (drop 1) v.same ∙ drop-drop 1 i b₀;
      ascii = sym (ascii-on b₀ i h (low-at b₀ i h v.ascii)) ∙ v.ascii;
    }

pub loop-b-init : goal.loop-b-init
loop-b-init c = start _ c.requires

pub loop-b-preserved : goal.loop-b-preserved
loop-b-preserved c = turn _ _ _ _ c.loop-b.invariant (omega (arith, c.loop-b.invariant.fill.long)) c.plain_byte.ensures _ refl

pub returns : goal.returns
unfolding uppers
returns c =
    let v = c.loop-b.invariant in
    (rw (drop_of_length-le c.args.buf.now {i = c.loop-b.b-index} (omega (arith, v.fill.long))) at v.fill).same
