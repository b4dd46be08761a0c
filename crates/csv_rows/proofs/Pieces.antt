-- One cell of a file given whole: what the grammar derives is read, and what is read is derived, good or wrong. Assumes nothing.
use mathlib.Core.Path.{◌≡◌, refl, sym, ap, ◌∙◌}
use mathlib.Core.Bool.{Bool, true, false, false≢true, ◌||◌}
use mathlib.Core.Logic.{◌⊎◌, inl, inr, ⊎_elim}
use mathlib.Core.List.{List, [], ◌∷◌, ◌++◌, append_assoc}
use Prim.Native.Nat.{ℕ, suc, ◌+◌}
use native.Mathlib.Omega.{arith}
use borrow.Author.Tests.{lt-ltb, le-ltb, eqb-true, eqb-false, ne_eqb}
use lib.Dec.{eqb, ltb}
use lib.ListN.{length, drop, length-append}
use lib.Seq.{drop-append_seam}
use Rattle.chars.specs.Pick.{pick}
use Rattle.chars.proofs.Cases.{of_test}
use Rattle.csv_rows.specs.declared.Separator.{Separator}
use Rattle.csv_rows.specs.declared.Separator.TheVariants.{Comma, Semicolon, Tab}
use Rattle.csv_rows.specs.declared.Fault.TheVariants.{QuoteInside, TextBehind, NeverClosed}
use Rattle.csv_rows.specs.declared.Stop.TheVariants.{Lone, Other, Unsure}
use Rattle.csv_rows.specs.declared.CellRead.TheVariants.{Wrong, Unclear}
use Rattle.csv_rows.specs.Reader.{byte_of, is_stop, is_special, is, up_to, inner_len, return_of, stop_of, closed, plain_by, quoted_by, cell_of}
use Rattle.csv_rows.specs.Grammar.{Plain, none, byte, Inner, nothing, other, doubled}

-- a separator is no quote, no carriage return and no line feed
pub record Apart (sep : ℕ) : Type 0 where
  pub quote : eqb sep 34 ≡ false
  pub return : eqb sep 13 ≡ false
  pub feed : eqb sep 10 ≡ false

pub apart : (k : Separator) → Apart (byte_of k)
apart Comma = record { quote = refl; return = refl; feed = refl }
apart Semicolon = record { quote = refl; return = refl; feed = refl }
apart Tab = record { quote = refl; return = refl; feed = refl }

-- kinds of bytes
or-true : (p q : Bool) → p || q ≡ true → (p ≡ true) ⊎ (q ≡ true)
or-true true q e = inl refl
or-true false q e = inr e

pub or_left : (p q : Bool) → p || q ≡ false → p ≡ false
or_left true q e = e
or_left false q e = refl

pub or_right : (p q : Bool) → p || q ≡ false → q ≡ false
or_right true q e = absurd (false≢true (sym e))
or_right false q e = e

pub stop_is : (sep b : ℕ) → is_stop sep b ≡ true → (b ≡ sep) ⊎ (b ≡ 10)
unfolding is_stop
stop_is sep b h = ⊎_elim (λ p. inl (eqb-true b sep p)) (λ q. inr (eqb-true b 10 q)) (or-true (eqb b sep) (eqb b 10) h)

module _ (sep b : ℕ) where
  pub stop-special : is_stop sep b ≡ true → is_special sep b ≡ true
  unfolding is_stop is_special
  stop-special h = rw h

  pub plain-no-quote : is_special sep b ≡ false → eqb b 34 ≡ false
  unfolding is_special
  plain-no-quote h = or_left (eqb b 34) (eqb b 13) (or_right (eqb b sep || eqb b 10) (eqb b 34 || eqb b 13) h)

  pub plain-no-return : is_special sep b ≡ false → eqb b 13 ≡ false
  unfolding is_special
  plain-no-return h = or_right (eqb b 34) (eqb b 13) (or_right (eqb b sep || eqb b 10) (eqb b 34 || eqb b 13) h)

  pub plain-no-stop : is_special sep b ≡ false → is_stop sep b ≡ false
  unfolding is_special is_stop
  plain-no-stop h = or_left (eqb b sep || eqb b 10) (eqb b 34 || eqb b 13) h

  -- a byte that is none of them
  pub is_plain : is_stop sep b ≡ false → eqb b 34 ≡ false → eqb b 13 ≡ false → is_special sep b ≡ false
  unfolding is_stop is_special
  is_plain h p q = rw (h, p, q)

  -- a special byte that is no stop and no carriage return
  pub is-quote : is_special sep b ≡ true → is_stop sep b ≡ false → eqb b 13 ≡ false → b ≡ 34
  unfolding is_stop is_special
  is-quote h p q = of_test (eqb b 34) (λ z. eqb-true b 34 z) (λ z. absurd (false≢true (rw (p, z, q) at h)))

pub return-special : (sep : ℕ) → is_special sep 13 ≡ true
unfolding is_special
return-special sep = of_test (eqb 13 sep || eqb 13 10) (λ q. rw q) (λ q. rw q)

pub quote-special : (sep : ℕ) → is_special sep 34 ≡ true
unfolding is_special
quote-special sep = of_test (eqb 34 sep || eqb 34 10) (λ q. rw q) (λ q. rw q)

pub is-cons : (c : ℕ) (u : List ℕ) → is c u ≡ true → (v : List ℕ) × (u ≡ c ∷ v)
unfolding is
is-cons c [] e = absurd (false≢true e)
is-cons c (b ∷ u) e = (u, rw (eqb-true b c e))

-- what stands where a cell can not end
pub record LoneAt (u : List ℕ) : Type 0 where
  pub rest : List ℕ
  pub split : u ≡ 13 ∷ rest
  pub no_feed : is 10 rest ≡ false

pub record OtherAt (sep : ℕ) (u : List ℕ) : Type 0 where
  pub it : ℕ
  pub rest : List ℕ
  pub split : u ≡ it ∷ rest
  pub no_stop : is_stop sep it ≡ false
  pub no_return : eqb it 13 ≡ false

return-lone : (over : Bool) (v : List ℕ) → return_of over v ≡ Lone → is 10 v ≡ false
unfolding return_of is pick
return-lone over [] h = refl
return-lone over (b ∷ v) h = of_test (eqb b 10) (λ q. let g = rw q at h in absurd (let z : ◌≡◌ {A = ℕ} 0 1 = cc in omega arith)) (λ q. q)

return-not-other : (over : Bool) (v : List ℕ) → return_of over v ≡ Other → ⊥
unfolding return_of pick
return-not-other over [] h = of_test over (λ o. let g = rw o at h in absurd (let z : ◌≡◌ {A = ℕ} 0 1 = cc in omega arith)) (λ o. let g = rw o at h in absurd (let z : ◌≡◌ {A = ℕ} 0 1 = cc in omega arith))
return-not-other over (b ∷ v) h =
    of_test (eqb b 10) (λ q. let g = rw q at h in let z : ◌≡◌ {A = ℕ} 0 1 = cc in omega arith) (λ q. let g = rw q at h in let z : ◌≡◌ {A = ℕ} 0 1 = cc in omega arith)

return-unsure : (over : Bool) (v : List ℕ) → return_of over v ≡ Unsure → (over ≡ false) × (v ≡ [])
unfolding return_of pick
return-unsure over [] h = of_test over (λ o. let g = rw o at h in absurd (let z : ◌≡◌ {A = ℕ} 0 1 = cc in omega arith)) (λ o. (o, refl))
return-unsure over (b ∷ v) h = of_test (eqb b 10) (λ q. let g = rw q at h in absurd (let z : ◌≡◌ {A = ℕ} 0 1 = cc in omega arith)) (λ q. let g = rw q at h in absurd (let z : ◌≡◌ {A = ℕ} 0 1 = cc in omega arith))

-- what stands where it can not be told whether a cell ends: nothing, or a carriage return and nothing
pub data UnsureAt : List ℕ → Type 0 where
  nothing_yet : UnsureAt []
  return_yet : UnsureAt (13 ∷ [])

unsure-return : (b : ℕ) (v : List ℕ) → b ≡ 13 → v ≡ [] → UnsureAt (b ∷ v)
unsure-return b v p q = rw (p, q) return_yet

module _ (over : Bool) (sep : ℕ) where
  pub stop-lone : (u : List ℕ) → stop_of over sep u ≡ Lone → LoneAt u
  unfolding stop_of pick
  stop-lone [] h = of_test over (λ o. let g = rw o at h in absurd (let z : ◌≡◌ {A = ℕ} 0 1 = cc in omega arith)) (λ o. let g = rw o at h in absurd (let z : ◌≡◌ {A = ℕ} 0 1 = cc in omega arith))
  stop-lone (b ∷ v) h =
      of_test (is_stop sep b) (λ q. let g = rw q at h in absurd (let z : ◌≡◌ {A = ℕ} 0 1 = cc in omega arith))
      (λ q. of_test (eqb b 13)
      (λ p. record { rest = v; split = rw (eqb-true b 13 p); no_feed = return-lone over v (rw (q, p) at h) })
      (λ p. let g = rw (q, p) at h in absurd (let z : ◌≡◌ {A = ℕ} 0 1 = cc in omega arith)))

  pub stop-other : (u : List ℕ) → stop_of over sep u ≡ Other → OtherAt sep u
  unfolding stop_of pick
  stop-other [] h = of_test over (λ o. let g = rw o at h in absurd (let z : ◌≡◌ {A = ℕ} 0 1 = cc in omega arith)) (λ o. let g = rw o at h in absurd (let z : ◌≡◌ {A = ℕ} 0 1 = cc in omega arith))
  stop-other (b ∷ v) h =
      of_test (is_stop sep b) (λ q. let g = rw q at h in absurd (let z : ◌≡◌ {A = ℕ} 0 1 = cc in omega arith))
      (λ q. of_test (eqb b 13)
      (λ p. absurd (return-not-other over v (rw (q, p) at h)))
      (λ p. record { it = b; rest = v; split = refl; no_stop = q; no_return = p }))

  pub stop-unsure : (u : List ℕ) → stop_of over sep u ≡ Unsure → (over ≡ false) × UnsureAt u
  unfolding stop_of pick
  stop-unsure [] h = of_test over (λ o. let g = rw o at h in absurd (let z : ◌≡◌ {A = ℕ} 0 1 = cc in omega arith)) (λ o. (o, nothing_yet))
  stop-unsure (b ∷ v) h =
      of_test (is_stop sep b) (λ q. let g = rw q at h in absurd (let z : ◌≡◌ {A = ℕ} 0 1 = cc in omega arith))
      (λ q. of_test (eqb b 13)
      (λ p. let r = return-unsure over v (rw (q, p) at h) in (r.0, unsure-return b v (eqb-true b 13 p) r.1))
      (λ p. let g = rw (q, p) at h in absurd (let z : ◌≡◌ {A = ℕ} 0 1 = cc in omega arith)))

module _ (sep : ℕ) where
  -- and that it is seen
  pub lone-stops : (v : List ℕ) → eqb sep 13 ≡ false → is 10 v ≡ false → stop_of true sep (13 ∷ v) ≡ Lone
  unfolding stop_of return_of is_stop is pick
  lone-stops [] a h = let g : eqb 13 sep ≡ false = ne_eqb 13 sep (λ z. eqb-false sep 13 a (sym z)) in rw g
  lone-stops (b ∷ v) a h = let g : eqb 13 sep ≡ false = ne_eqb 13 sep (λ z. eqb-false sep 13 a (sym z)) in rw (g, h)

  pub unsure-stops : {u : List ℕ} → eqb sep 13 ≡ false → UnsureAt u → stop_of false sep u ≡ Unsure
  unfolding stop_of return_of is_stop pick
  unsure-stops a nothing_yet = refl
  unsure-stops a return_yet = let g : eqb 13 sep ≡ false = ne_eqb 13 sep (λ z. eqb-false sep 13 a (sym z)) in rw g

  pub unsure-halts : {u : List ℕ} → UnsureAt u → (up_to (is_special sep) u ≡ 0) × (is 34 u ≡ false)
  unfolding up_to is pick
  unsure-halts nothing_yet = (refl, refl)
  unsure-halts return_yet = (rw (return-special sep), refl)

  pub other-stops : (b : ℕ) (v : List ℕ) → is_stop sep b ≡ false → eqb b 13 ≡ false → stop_of true sep (b ∷ v) ≡ Other
  unfolding stop_of pick
  other-stops b v h g = rw (h, g)

  pub quote-stops : (v : List ℕ) → eqb sep 34 ≡ false → stop_of true sep (34 ∷ v) ≡ Other
  unfolding stop_of is_stop pick
  quote-stops v a = let g : eqb 34 sep ≡ false = ne_eqb 34 sep (λ z. eqb-false sep 34 a (sym z)) in rw g

-- plain cells
pub cell-not-quoted : (over : Bool) (sep at : ℕ) (t : List ℕ) → is 34 t ≡ false → cell_of over sep at t ≡ plain_by over sep at t (up_to (is_special sep) t)
unfolding cell_of is pick up_to
cell-not-quoted over sep at [] h = refl
cell-not-quoted over sep at (b ∷ t) h = rw h

pub plain_by_lem : (over : Bool) (sep at : ℕ) (p u : List ℕ) → plain_by over sep at (p ++ u) (length p) ≡ closed (stop_of over sep u) at (at + length p) (at + length p) (QuoteInside (at + length p))
unfolding plain_by
plain_by_lem over sep at p u = rw (drop-append_seam p u)

pub plain-len : {sep : ℕ} {p : List ℕ} (u : List ℕ) → Plain sep p → up_to (is_special sep) u ≡ 0 → up_to (is_special sep) (p ++ u) ≡ length p
unfolding up_to pick
plain-len u none e = e
plain-len u (byte h p) e = rw (h, plain-len u p e)

pub record PlainSplit (sep : ℕ) (t : List ℕ) : Type 0 where
  pub run : List ℕ
  pub rest : List ℕ
  pub split : t ≡ run ++ rest
  pub plainly : Plain sep run
  pub len : up_to (is_special sep) t ≡ length run
  pub halt : up_to (is_special sep) rest ≡ 0

pub plain-split : (sep : ℕ) (t : List ℕ) → PlainSplit sep t
unfolding up_to pick
plain-split sep [] = record { run = []; rest = []; split = refl; plainly = none; len = refl; halt = refl }
plain-split sep (b ∷ t) =
    let i = plain-split sep t in
    of_test (is_special sep b)
    (λ q. record { run = []; rest = b ∷ t; split = refl; plainly = none; len = rw q; halt = rw q })
    (λ q. record { run = b ∷ i.run; rest = i.rest; split = ap (λ (l : List ℕ). b ∷ l) i.split; plainly = byte q i.plainly; len = rw q (ap suc i.len); halt = i.halt })

pub halt-special : (sep b : ℕ) (u : List ℕ) → up_to (is_special sep) (b ∷ u) ≡ 0 → is_special sep b ≡ true
unfolding up_to pick
halt-special sep b u h = of_test (is_special sep b) (λ q. q) (λ q. let g : suc (up_to (is_special sep) u) ≡ 0 = rw q at h in absurd (omega arith))

pub special-halts : (sep b : ℕ) (u : List ℕ) → is_special sep b ≡ true → up_to (is_special sep) (b ∷ u) ≡ 0
unfolding up_to pick
special-halts sep b u h = rw h

-- quoted cells
inner-other : (b : ℕ) (t : List ℕ) → eqb b 34 ≡ false → inner_len (b ∷ t) ≡ suc (inner_len t)
unfolding inner_len pick
inner-other b [] h = rw h
inner-other b (c ∷ t) h = rw h

inner-close : (t : List ℕ) → is 34 t ≡ false → inner_len (34 ∷ t) ≡ 0
unfolding inner_len pick is
inner-close [] h = refl
inner-close (c ∷ t) h = rw h

pub inner-len : {s t : List ℕ} (u : List ℕ) → Inner s t → is 34 u ≡ false → inner_len (s ++ 34 ∷ u) ≡ length s
unfolding inner_len pick
inner-len u nothing e = inner-close u e
inner-len u (other {b} {s} h i) e = inner-other b (s ++ 34 ∷ u) h ∙ ap suc (inner-len u i e)
inner-len u (doubled i) e = ap (λ (n : ℕ). suc (suc n)) (inner-len u i e)

pub inner-all : {s t : List ℕ} → Inner s t → inner_len s ≡ length s
unfolding inner_len pick
inner-all nothing = refl
inner-all (other {b} {s} h i) = inner-other b s h ∙ ap suc (inner-all i)
inner-all (doubled i) = ap (λ (n : ℕ). suc (suc n)) (inner-all i)

past-quote : (s : List ℕ) (q : ℕ) (u : List ℕ) → drop (suc (length s)) (s ++ q ∷ u) ≡ u
past-quote [] q u = refl
past-quote (b ∷ s) q u = past-quote s q u

pub quoted-by : (over : Bool) (sep at : ℕ) (s u : List ℕ)
    → quoted_by over sep at (s ++ 34 ∷ u) (length s) ≡ closed (stop_of over sep u) (at + 1) (at + 1 + length s) (at + 1 + length s + 1) (TextBehind (at + 1 + length s + 1))
unfolding quoted_by pick
quoted-by over sep at s u =
    let l = length-append s (34 ∷ u) in
    let t : ltb (length s) (length (s ++ 34 ∷ u)) ≡ true = lt-ltb (length s) (length (s ++ 34 ∷ u)) (omega arith) in
    rw (t, past-quote s 34 u)

pub data InnerSplit (t : List ℕ) : Type 0 where
  shut_at : (s x u : List ℕ) → t ≡ s ++ 34 ∷ u → Inner s x → inner_len t ≡ length s → is 34 u ≡ false → InnerSplit t
  open_at : (x : List ℕ) → Inner t x → InnerSplit t

split-other : (b : ℕ) (t : List ℕ) → eqb b 34 ≡ false → InnerSplit t → InnerSplit (b ∷ t)
split-other b t h (shut_at s x u e i l o) = shut_at (b ∷ s) (b ∷ x) u (ap (λ (r : List ℕ). b ∷ r) e) (other h i) (inner-other b t h ∙ ap suc l) o
split-other b t h (open_at x i) = open_at (b ∷ x) (other h i)

split-doubled : (t : List ℕ) → InnerSplit t → InnerSplit (34 ∷ 34 ∷ t)
unfolding inner_len pick
split-doubled t (shut_at s x u e i l o) = shut_at (34 ∷ 34 ∷ s) (34 ∷ x) u (ap (λ (r : List ℕ). 34 ∷ 34 ∷ r) e) (doubled i) (ap (λ (n : ℕ). suc (suc n)) l) o
split-doubled t (open_at x i) = open_at (34 ∷ x) (doubled i)

pub inner-split : (t : List ℕ) → InnerSplit t
unfolding inner_len is
inner-split [] = open_at [] nothing
inner-split (b ∷ []) =
    of_test (eqb b 34)
    (λ q. rw (eqb-true b 34 q) (shut_at [] [] [] refl nothing (inner-close [] refl) refl))
    (λ q. split-other b [] q (open_at [] nothing))
inner-split (b ∷ c ∷ t) =
    let i = inner-split t in
    let j = inner-split (c ∷ t) in
    of_test (eqb b 34)
    (λ q. of_test (eqb c 34)
    (λ p. rw (eqb-true b 34 q, eqb-true c 34 p) (split-doubled t i))
    (λ p. rw (eqb-true b 34 q) (shut_at [] [] (c ∷ t) refl nothing (inner-close (c ∷ t) p) p)))
    (λ q. split-other b (c ∷ t) q j)

pub open_by : (over : Bool) (sep at : ℕ) (t : List ℕ) → quoted_by over sep at t (length t) ≡ pick over (Wrong (NeverClosed at)) Unclear
unfolding quoted_by pick
open_by over sep at t = rw (le-ltb (length t) (length t) (omega arith))

-- a quoted cell as it is written, and how long it is
pub around : (s u : List ℕ) → 34 ∷ (s ++ 34 ∷ u) ≡ (34 ∷ s ++ 34 ∷ []) ++ u
around s u = sym (append_assoc (34 ∷ s) (34 ∷ []) u)

pub around-long : (at : ℕ) (s : List ℕ) → at + length (34 ∷ s ++ 34 ∷ []) ≡ at + 1 + length s + 1
around-long at s = let l = length-append (34 ∷ s) (34 ∷ []) in omega arith
