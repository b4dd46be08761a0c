use native.Mathlib.Omega.{arith}
use mathlib.Core.Path.{◌≡◌, refl, sym, ap, ◌∙◌}
use mathlib.Core.Bool.{true}
use mathlib.Core.List.{List, [], ◌∷◌}
use Prim.Native.Nat.{ℕ, ◌+◌, ◌<◌}
use lib.ListN.{length, get_or, drop}
use lib.Seq.{drop-drop, drop-cons, sets}
use Rattle.chunks.specs.Latin.{all_latin, none_odd, raised, raised_all}
use Rattle.chunks.proofs.Fill.{fill_start, fill-put, behind}
use Rattle.chunks.proofs.Raises.{latin-upper, raised-step, raised-end}
use Rattle.chunks.proofs.upper_latin.Invariants.{Raised}
use Rattle.chunks.proofs.upper_latin.Goals as goal

start : (b : List ℕ) → all_latin 0 b ≡ true → none_odd 0 b ≡ true → Raised b b 0 0
start b e o = record { fill = rw (latin-upper b e o) (fill_start b 0 (raised_all 0 b)); same = refl }

-- a byte is raised
turn : (b₀ b : List ℕ) (p i x : ℕ) → Raised b₀ b p i → i < length b₀ → x ≡ raised p (get_or b i 0) → (b' : List ℕ) → b' ≡ sets b i (x ∷ []) → Raised b₀ b' (get_or b i 0) (i + 1)
turn b₀ b p i x v h e b' g =
    let l : length b ≡ length b₀ = v.fill.long in
    let same_byte : get_or b i 0 ≡ get_or b₀ i 0 = ap (λ (s : List ℕ). get_or s 0 0) (sym (drop-cons b i 0 (omega arith)) ∙ v.same ∙ drop-cons b₀ i 0 h) in
    let y : ℕ = get_or b₀ i 0 in
    let f : raised_all p (drop i b₀) ≡ x ∷ raised_all y (drop (i + 1) b₀) = raised-step p b₀ i h ∙ ap (λ (k : ℕ). k ∷ raised_all y (drop (i + 1) b₀)) (sym (e ∙ ap (raised p) same_byte)) in
    record {
      fill = rw same_byte (fill-put (x ∷ []) (rw f at v.fill) refl g);
      same = ap (drop (i + 1)) g ∙ behind (x ∷ []) b i (omega arith) ∙ sym (drop-drop 1 i b) ∙ ap (drop 1) v.same ∙ drop-drop 1 i b₀;
    }

pub loop-b-init : goal.loop-b-init
loop-b-init c = start _ c.requires.0 c.requires.1

pub loop-b-preserved : goal.loop-b-preserved
loop-b-preserved c = let l = c.loop-b in turn _ _ _ _ _ l.invariant (omega (arith, l.invariant.fill.long)) c.raise.ensures _ refl

pub returns : goal.returns
returns c =
    let l = c.loop-b in
    (rw (raised-end l.p c.args.buf.now l.b-index (omega (arith, l.invariant.fill.long))) at l.invariant.fill).same
