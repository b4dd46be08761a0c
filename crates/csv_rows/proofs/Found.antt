-- A cell is read as good exactly if the grammar derives one that ends there, as wrong exactly if what is wrong is derived, and as unclear exactly if
-- its end is not seen. Assumes nothing.
use mathlib.Core.Path.{◌≡◌, refl, sym, ap, ◌∙◌, subst}
use mathlib.Core.Bool.{Bool, true, false, false≢true}
use mathlib.Core.Logic.{⊎_elim}
use mathlib.Core.List.{List, [], ◌∷◌, ◌++◌, append-nil}
use Prim.Native.Nat.{ℕ, ◌+◌, ◌<◌}
use native.Mathlib.Omega.{arith}
use borrow.Author.Tests.{eqb-true}
use lib.Dec.{eqb}
use lib.ListN.{length}
use Rattle.chars.specs.Pick.{pick}
use Rattle.chars.proofs.Cases.{of_test}
use Rattle.csv_rows.specs.declared.Fault.{Fault}
use Rattle.csv_rows.specs.declared.Fault.TheVariants.{QuoteInside, TextBehind, LoneReturn}
use Rattle.csv_rows.specs.declared.Stop.{Stop}
use Rattle.csv_rows.specs.declared.Stop.TheVariants.{Ends, Lone, Other, Unsure}
use Rattle.csv_rows.specs.declared.CellRead.{CellRead}
use Rattle.csv_rows.specs.declared.CellRead.TheVariants.{Good, Wrong, Unclear}
use Rattle.csv_rows.specs.Reader.{is_stop, is_special, is, up_to, inner_len, stop_of, closed, plain_by, quoted_by, cell_of, Place}
use Rattle.csv_rows.specs.Grammar.{Plain, none, byte, Inner, OneCell, plain, quoted}
use Rattle.csv_rows.specs.Faults.{WrongCell, quote_inside, text_behind, lone_return, never_closed, OpenCell, no_end, half_end, no_quote}
use Rattle.csv_rows.proofs.Pieces.{Apart, stop_is, stop-special, plain-no-quote, plain-no-return, plain-no-stop, is_plain, is-quote, return-special, quote-special, is-cons, UnsureAt, nothing_yet, return_yet, stop-lone, stop-other, stop-unsure, unsure-stops, unsure-halts, lone-stops, other-stops, quote-stops, cell-not-quoted, plain_by_lem, plain-len, plain-split, halt-special, special-halts, inner-len, inner-all, quoted-by, InnerSplit, shut_at, open_at, inner-split, open_by, around, around-long}

-- a good cell: its bytes are derived, and it ends there
pub record Taken (over : Bool) (sep at : ℕ) (t : List ℕ) (a e n : ℕ) : Type 0 where
  pub raw : List ℕ
  pub text : List ℕ
  pub rest : List ℕ
  pub split : t ≡ raw ++ rest
  pub derived : OneCell sep at raw (record { start = a; stop = e }) text
  pub next_is : n ≡ at + length raw
  pub behind : stop_of over sep rest ≡ Ends

pub data Found (over : Bool) (sep at : ℕ) (t : List ℕ) : CellRead → Type 0 where
  good : {a e n : ℕ} → Taken over sep at t a e n → Found over sep at t (Good a e n)
  bad : {f : Fault} → WrongCell sep at t f → Found over sep at t (Wrong f)
  unseen : over ≡ false → OpenCell sep at t → Found over sep at t Unclear

some-plain : (p v : List ℕ) → is 34 (p ++ 34 ∷ v) ≡ false → 0 < length p
unfolding is
some-plain [] v h = absurd (false≢true (sym h))
some-plain (b ∷ p) v h = omega arith

open-cell : (sep at : ℕ) {s t u : List ℕ} {c : Place} → OneCell sep at s c t → UnsureAt u → OpenCell sep at (s ++ u)
open-cell sep at {s} o nothing_yet = rw (append-nil s) (no_end o)
open-cell sep at o return_yet = half_end o

module _ (over : Bool) (sep at : ℕ) where
  plain_closed : (p v : List ℕ) → Plain sep p → up_to (is_special sep) v ≡ 0 → is 34 (p ++ v) ≡ false → (st : Stop) → stop_of over sep v ≡ st
      → Found over sep at (p ++ v) (closed st at (at + length p) (at + length p) (QuoteInside (at + length p)))
  unfolding closed
  plain_closed p v d h n Ends q = good (record { raw = p; text = p; rest = v; split = refl; derived = plain d; next_is = refl; behind = q })
  plain_closed p v d h n Lone q = let o = stop-lone over sep v q in rw o.split (bad (lone_return o.rest (plain d) o.no_feed))
  plain_closed p v d h n Other q =
      let o = stop-other over sep v q in
      let k = is-quote sep o.it (halt-special sep o.it o.rest (rw o.split at h)) o.no_stop o.no_return in
      let e : v ≡ 34 ∷ o.rest = o.split ∙ rw k in
      rw e (bad (quote_inside o.rest d (some-plain p o.rest (rw e at n))))
  plain_closed p v d h n Unsure q = let u = stop-unsure over sep v q in unseen u.0 (open-cell sep at (plain d) u.1)

  plain-found : (t : List ℕ) → is 34 t ≡ false → Found over sep at t (cell_of over sep at t)
  plain-found t h =
      let i = plain-split sep t in
      let n = length i.run in
      let e : cell_of over sep at t ≡ closed (stop_of over sep i.rest) at (at + n) (at + n) (QuoteInside (at + n)) =
      cell-not-quoted over sep at t h
      ∙ ap (λ (m : ℕ). plain_by over sep at t m) i.len
      ∙ ap (λ (l : List ℕ). plain_by over sep at l n) i.split
      ∙ plain_by_lem over sep at i.run i.rest
      in
      rw e (subst (λ (l : List ℕ). Found over sep at l (closed (stop_of over sep i.rest) at (at + n) (at + n) (QuoteInside (at + n)))) (sym i.split)
      (plain_closed i.run i.rest i.plainly i.halt (rw i.split at h) (stop_of over sep i.rest) refl))

  quoted-closed : (s u : List ℕ) {x : List ℕ} → Inner s x → is 34 u ≡ false → (st : Stop) → stop_of over sep u ≡ st
      → Found over sep at ((34 ∷ s ++ 34 ∷ []) ++ u) (closed st (at + 1) (at + 1 + length s) (at + 1 + length s + 1) (TextBehind (at + 1 + length s + 1)))
  unfolding closed is
  quoted-closed s u {x} i n Ends q = good (record { raw = 34 ∷ s ++ 34 ∷ []; text = x; rest = u; split = refl; derived = quoted i; next_is = sym (around-long at s); behind = q })
  quoted-closed s u i n Lone q =
      let o = stop-lone over sep u q in
      rw o.split (subst (λ (m : ℕ). Found over sep at ((34 ∷ s ++ 34 ∷ []) ++ 13 ∷ o.rest) (Wrong (LoneReturn m))) (around-long at s) (bad (lone_return o.rest (quoted i) o.no_feed)))
  quoted-closed s u i n Other q =
      let o = stop-other over sep u q in
      let k : eqb o.it 34 ≡ false = rw o.split at n in
      rw o.split
      (subst (λ (m : ℕ). Found over sep at ((34 ∷ s ++ 34 ∷ []) ++ o.it ∷ o.rest) (Wrong (TextBehind m))) (around-long at s) (bad (text_behind o.it o.rest i (is_plain sep o.it o.no_stop k o.no_return))))
  quoted-closed s u i n Unsure q = let w = stop-unsure over sep u q in unseen w.0 (open-cell sep at (quoted i) w.1)

  quoted-found : (t : List ℕ) → InnerSplit t → Found over sep at (34 ∷ t) (cell_of over sep at (34 ∷ t))
  unfolding cell_of pick
  quoted-found t (open_at x i) = rw (inner-all i, open_by over sep at t) (of_test over (λ o. rw o (bad (never_closed i))) (λ o. rw o (unseen refl (no_quote i))))
  quoted-found t (shut_at s x u d i l o) =
      let n = length s in
      let e : quoted_by over sep at t (inner_len t) ≡ closed (stop_of over sep u) (at + 1) (at + 1 + n) (at + 1 + n + 1) (TextBehind (at + 1 + n + 1)) =
      ap (λ (m : ℕ). quoted_by over sep at t m) l ∙ ap (λ (r : List ℕ). quoted_by over sep at r n) d ∙ quoted-by over sep at s u
      in
      let f : 34 ∷ t ≡ (34 ∷ s ++ 34 ∷ []) ++ u = ap (λ (r : List ℕ). 34 ∷ r) d ∙ around s u in
      rw e (subst (λ (r : List ℕ). Found over sep at r (closed (stop_of over sep u) (at + 1) (at + 1 + n) (at + 1 + n + 1) (TextBehind (at + 1 + n + 1)))) (sym f) (quoted-closed s u i o (stop_of over sep u) refl))

  -- what is read is derived
  pub found : (t : List ℕ) → Found over sep at t (cell_of over sep at t)
  found t =
      of_test (is 34 t)
      (λ q. let v = is-cons 34 t q in subst (λ (l : List ℕ). Found over sep at l (cell_of over sep at l)) (sym v.1) (quoted-found v.0 (inner-split v.0)))
      (λ q. plain-found t q)

  taken_of : {t : List ℕ} {a e n : ℕ} → Found over sep at t (Good a e n) → Taken over sep at t a e n
  taken_of (good k) = k

  wrong-of : {t : List ℕ} {f : Fault} → Found over sep at t (Wrong f) → WrongCell sep at t f
  wrong-of (bad w) = w

  open_of : {t : List ℕ} → Found over sep at t Unclear → (over ≡ false) × OpenCell sep at t
  open_of (unseen o c) = (o, c)

  pub taken : (t : List ℕ) {a e n : ℕ} → cell_of over sep at t ≡ Good a e n → Taken over sep at t a e n
  taken t g = taken_of (rw g at (found t))

  pub wrongly : (t : List ℕ) {f : Fault} → cell_of over sep at t ≡ Wrong f → WrongCell sep at t f
  wrongly t g = wrong-of (rw g at (found t))

  pub opened : (t : List ℕ) → cell_of over sep at t ≡ Unclear → (over ≡ false) × OpenCell sep at t
  opened t g = open_of (rw g at (found t))

-- what stands where a cell ends is no quote, and no plain byte
module _ {sep : ℕ} (a : Apart sep) where
  stop-no-quote : (b : ℕ) → is_stop sep b ≡ true → eqb b 34 ≡ false
  stop-no-quote b h = ⊎_elim (λ p. rw p a.quote) (λ q. rw q) (stop_is sep b h)

  pub ends-no-quote : (over : Bool) (u : List ℕ) → stop_of over sep u ≡ Ends → is 34 u ≡ false
  unfolding stop_of is pick
  ends-no-quote over [] h = refl
  ends-no-quote over (b ∷ u) h =
      of_test (is_stop sep b) (λ q. stop-no-quote b q)
      (λ q. of_test (eqb b 13) (λ p. rw (eqb-true b 13 p)) (λ p. let g = rw (q, p) at h in absurd (let z : ◌≡◌ {A = ℕ} 0 1 = cc in omega arith)))

pub ends-halts : (over : Bool) (sep : ℕ) (u : List ℕ) → stop_of over sep u ≡ Ends → up_to (is_special sep) u ≡ 0
unfolding stop_of up_to pick
ends-halts over sep [] h = refl
ends-halts over sep (b ∷ u) h =
    of_test (is_stop sep b) (λ q. rw (stop-special sep b q))
    (λ q. of_test (eqb b 13) (λ p. rw (eqb-true b 13 p, return-special sep)) (λ p. let g = rw (q, p) at h in absurd (let z : ◌≡◌ {A = ℕ} 0 1 = cc in omega arith)))

front-none : (b : ℕ) (u : List ℕ) → eqb b 34 ≡ false → is 34 (b ∷ u) ≡ false
unfolding is
front-none b u h = h

-- what is derived is read
module _ {sep : ℕ} (a : Apart sep) where
  front-plain : {p : List ℕ} (u : List ℕ) → Plain sep p → is 34 u ≡ false → is 34 (p ++ u) ≡ false
  unfolding is
  front-plain u none h = h
  front-plain u (byte {b} h p) g = plain-no-quote sep b h

  front-some : {p : List ℕ} (u : List ℕ) → Plain sep p → 0 < length p → is 34 (p ++ u) ≡ false
  unfolding is
  front-some u none h = absurd (omega arith)
  front-some u (byte {b} h p) g = plain-no-quote sep b h

  plain-read : (over : Bool) (at : ℕ) {s : List ℕ} (u : List ℕ) → Plain sep s → is 34 (s ++ u) ≡ false → up_to (is_special sep) u ≡ 0
      → cell_of over sep at (s ++ u) ≡ closed (stop_of over sep u) at (at + length s) (at + length s) (QuoteInside (at + length s))
  plain-read over at {s} u p n h = cell-not-quoted over sep at (s ++ u) n ∙ rw (plain-len u p h, plain_by_lem over sep at s u)

  quoted-read : (over : Bool) (at : ℕ) {s t : List ℕ} (u : List ℕ) → Inner s t → is 34 u ≡ false
      → cell_of over sep at ((34 ∷ s ++ 34 ∷ []) ++ u) ≡ closed (stop_of over sep u) (at + 1) (at + 1 + length s) (at + 1 + length s + 1) (TextBehind (at + 1 + length s + 1))
  unfolding cell_of pick
  quoted-read over at {s} u i n = ap (λ (l : List ℕ). cell_of over sep at l) (sym (around s u)) ∙ rw (inner-len u i n, quoted-by over sep at s u)

  pub one-read : (over : Bool) {at : ℕ} {s t : List ℕ} {c : Place} (u : List ℕ) → OneCell sep at s c t → stop_of over sep u ≡ Ends → cell_of over sep at (s ++ u) ≡ Good c.start c.stop (at + length s)
  unfolding closed
  one-read over {at} u (plain p) h = plain-read over at u p (front-plain u p (ends-no-quote a over u h)) (ends-halts over sep u h) ∙ rw h
  one-read over {at} u (quoted {s} i) h = quoted-read over at u i (ends-no-quote a over u h) ∙ rw (h, around-long at s)

  pub wrong-read : {at : ℕ} {t : List ℕ} {f : Fault} → WrongCell sep at t f → cell_of true sep at t ≡ Wrong f
  unfolding closed cell_of pick
  wrong-read {at} (quote_inside u p h) = plain-read true at (34 ∷ u) p (front-some (34 ∷ u) p h) (special-halts sep 34 u (quote-special sep)) ∙ rw (quote-stops sep u a.quote)
  wrong-read {at} (text_behind {s} b u i h) =
      quoted-read true at (b ∷ u) i (front-none b u (plain-no-quote sep b h)) ∙ rw (other-stops sep b u (plain-no-stop sep b h) (plain-no-return sep b h), around-long at s)
  wrong-read {at} (lone_return u (plain p) h) = plain-read true at (13 ∷ u) p (front-plain (13 ∷ u) p (front-none 13 u refl)) (special-halts sep 13 u (return-special sep)) ∙ rw (lone-stops sep u a.return h)
  wrong-read {at} (lone_return u (quoted {s} i) h) = quoted-read true at (13 ∷ u) i (front-none 13 u refl) ∙ rw (lone-stops sep u a.return h, around-long at s)
  wrong-read {at} (never_closed {s} i) = rw (inner-all i, open_by true sep at s)

  unsure-read : {at : ℕ} {s t : List ℕ} {u : List ℕ} {c : Place} → OneCell sep at s c t → UnsureAt u → cell_of false sep at (s ++ u) ≡ Unclear
  unfolding closed
  unsure-read {at} {u = u} (plain p) y = let k = unsure-halts sep y in plain-read false at u p (front-plain u p k.1) k.0 ∙ rw (unsure-stops sep a.return y)
  unsure-read {at} {u = u} (quoted i) y = let k = unsure-halts sep y in quoted-read false at u i k.1 ∙ rw (unsure-stops sep a.return y)

  pub open-read : {at : ℕ} {t : List ℕ} → OpenCell sep at t → cell_of false sep at t ≡ Unclear
  unfolding cell_of pick
  open-read {at} (no_end {s} o) = ap (λ (l : List ℕ). cell_of false sep at l) (sym (append-nil s)) ∙ unsure-read o nothing_yet
  open-read (half_end o) = unsure-read o return_yet
  open-read {at} (no_quote {s} i) = rw (inner-all i, open_by false sep at s)
