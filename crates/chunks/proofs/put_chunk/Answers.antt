use Rattle.chars.specs.Utf8.{encode}
use Rattle.chunks.specs.Characters.{codes}
use Rattle.chars.specs.Pick.{pick}
use Rattle.chunks.proofs.Fill.{Filling, fill_start, fill_end, fill-put}
use Rattle.chunks.specs.Format.{chunk_out, last_white, normal, chunk_flag}
use borrow.Author.Tests.{eq-eqb, ne_eqb}
use native.Mathlib.Omega.{arith}
use Prim.Native.Nat.{ℕ}
use mathlib.Core.List.{List, [], ◌∷◌, ◌++◌}
use mathlib.Core.Bool.{Bool, false}
use mathlib.Core.Path.{◌≡◌, refl}
use borrow.Author.Rules.{rules}
use Rattle.chunks.proofs.put_chunk.Goals as goal
use Rattle.chunks.proofs.put_chunk.Goals.{Else-kind-eq1, Then-kind-eq1}

-- what a chunk of each kind puts out, and the flag
out0 : (kind : ℕ) (w : Bool) (t : List ℕ) → kind ≡ 0 → chunk_out w kind t ≡ normal w (codes t)
unfolding chunk_out pick
out0 kind w t e = simp (eq-eqb _ _ e)

flag0 : (kind : ℕ) (w : Bool) (t : List ℕ) → kind ≡ 0 → chunk_flag w kind t ≡ last_white w (codes t)
unfolding chunk_flag pick
flag0 kind w t e = simp (eq-eqb _ _ e)

module _ (c : Then-kind-eq1) where
  out1 : let a = c.args in chunk_out a.white a.kind a.t.now ≡ a.t.now
  unfolding chunk_out pick
  out1 = simp (ne_eqb _ _ c.if-kind-eq0.false, eq-eqb _ _ c.if-kind-eq1.true)

  flag1 : let a = c.args in chunk_flag a.white a.kind a.t.now ≡ last_white false (codes a.t.now)
  unfolding chunk_flag pick
  flag1 = simp (ne_eqb _ _ c.if-kind-eq0.false, eq-eqb _ _ c.if-kind-eq1.true)

module _ (c : Else-kind-eq1) where
  out2 : let a = c.args in chunk_out a.white a.kind a.t.now ≡ 0x24 ∷ (a.t.now ++ 0x24 ∷ [])
  unfolding chunk_out pick
  out2 = simp (ne_eqb _ _ c.if-kind-eq0.false, ne_eqb _ _ c.if-kind-eq1.false)

  flag2 : let a = c.args in chunk_flag a.white a.kind a.t.now ≡ a.white
  unfolding chunk_flag pick
  flag2 = simp (ne_eqb _ _ c.if-kind-eq0.false, ne_eqb _ _ c.if-kind-eq1.false)

pub returns-then-kind-eq0 : goal.returns-then-kind-eq0
returns-then-kind-eq0 c = let e = c.if-kind-eq0.true in rw (out0 _ _ _ e, flag0 _ _ _ e) c.put_normal.ensures

pub returns-then-kind-eq1 : goal.returns-then-kind-eq1
returns-then-kind-eq1 c = rw (out1 (goal.at.returns-then-kind-eq1 c).Then-kind-eq1, flag1 (goal.at.returns-then-kind-eq1 c).Then-kind-eq1) (c.put_bytes-m.ensures.0, c.last_white-w.ensures, c.put_bytes-m.ensures.1)

pub put_char-m-requires : goal.put_char-m-requires
unfolding encode pick
put_char-m-requires c = (omega arith, omega arith)

pub put_bytes-p-requires : goal.put_bytes-p-requires
unfolding encode pick
put_bytes-p-requires c = omega arith

pub put_char-q-requires : goal.put_char-q-requires
unfolding encode pick
put_char-q-requires c = (omega arith, omega arith)

pub returns : goal.returns
unfolding encode pick
returns c =
    let a = c.args in
    let e1 = c.put_char-m.ensures in
    let e2 = c.put_bytes-p.ensures in
    let e3 = c.put_char-q.ensures in
    let all : List ℕ = 0x24 ∷ (a.t.now ++ 0x24 ∷ []) in
    let f1 : Filling a.buf.now a.n all _ _ (a.t.now ++ (0x24 ∷ [])) = fill-put (0x24 ∷ []) (fill_start a.buf.now a.n all) e1.0 e1.1 in
    let f2 : Filling a.buf.now a.n all _ _ (0x24 ∷ []) = fill-put a.t.now f1 e2.0 e2.1 in
    let f3 : Filling a.buf.now a.n all _ _ [] = fill-put (0x24 ∷ []) f2 e3.0 e3.1 in
    rw (out2 (goal.at.returns c).Else-kind-eq1, flag2 (goal.at.returns c).Else-kind-eq1) (fill_end f3, refl, f3.same)
