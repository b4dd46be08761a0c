-- When the comparison is refused: exactly if one of the two has a season; and the order's laws, of the comparison. Assumes nothing.
use mathlib.Core.Path.{◌≡◌, refl, sym, ap, ◌∙◌}
use mathlib.Core.Bool.{Bool, true, false, ◌||◌, false≢true}
use mathlib.Core.Logic.{◌⊎◌, ◌↔◌, inl, inr, ⊎_elim}
use Prim.Native.Nat.{ℕ}
use native.Mathlib.Omega.{arith}
use Rattle.chars.specs.Pick.{pick}
use Rattle.dates.specs.declared.Datetime.{Datetime}
use Rattle.dates.specs.Value.{has_season}
use Rattle.std.specs.Prelude.{Option, Some, Ok}
use Rattle.std.specs.declared.cmp.Ordering.{Ordering}
use Rattle.std.specs.declared.cmp.Ordering.TheVariants.{Equal, Less}
use Rattle.order.specs.Order.{order, seasoned, partial_cmp}
use Rattle.order.specs.Laws.{mirror, turned}
use Rattle.order.proofs.Laws.{order-mirror, order_trans, order_alike}

-- an answer is no refusal
stands-not : (o : Option Ordering) → Ok o ≡ seasoned → ⊥
unfolding seasoned
stands-not o e = let z : ◌≡◌ {A = ℕ} 0 1 = cc in omega arith

-- one of the two
asked : (s t : Bool) (o : Option Ordering) → pick (s || t) seasoned (Ok o) ≡ seasoned → (s ≡ true) ⊎ (t ≡ true)
unfolding pick
asked true t o e = inl refl
asked false true o e = inr refl
asked false false o e = absurd (stands-not o e)

either : (s t : Bool) (o : Option Ordering) → (s ≡ true) ⊎ (t ≡ true) → pick (s || t) seasoned (Ok o) ≡ seasoned
unfolding pick
either true t o h = refl
either false true o h = refl
either false false o h = ⊎_elim (λ (e : false ≡ true). absurd (false≢true e)) (λ (e : false ≡ true). absurd (false≢true e)) h

-- HasSeason exactly if the first or the second has a season,
pub compared-exactly : (a b : Datetime) → (partial_cmp a b ≡ seasoned) ↔ ((has_season a ≡ true) ⊎ (has_season b ≡ true))
unfolding partial_cmp
compared-exactly a b = (asked (has_season a) (has_season b) (order a b), either (has_season a) (has_season b) (order a b))

-- and else the order
pub compared-else : (a b : Datetime) → has_season a ≡ false → has_season b ≡ false → partial_cmp a b ≡ Ok (order a b)
unfolding partial_cmp pick
compared-else a b e f = rw (e, f)

-- an answer that is no refusal is the order's, of two without seasons
told : (s t : Bool) (o q : Option Ordering) → pick (s || t) seasoned (Ok o) ≡ Ok q → (s ≡ false) × (t ≡ false) × (o ≡ q)
unfolding pick
told true t o q e = absurd (stands-not q (sym e))
told false true o q e = absurd (stands-not q (sym e))
told false false o q e = (refl, refl, cc)

stands : (a b : Datetime) {q : Option Ordering} → partial_cmp a b ≡ Ok q → (has_season a ≡ false) × (has_season b ≡ false) × (order a b ≡ q)
unfolding partial_cmp
stands a b {q} e = told (has_season a) (has_season b) (order a b) q e

turned_by : (s t : Bool) (o : Option Ordering) → pick (t || s) seasoned (Ok (mirror o)) ≡ turned (pick (s || t) seasoned (Ok o))
unfolding pick seasoned
turned_by true true o = refl
turned_by true false o = refl
turned_by false true o = refl
turned_by false false o = refl

-- less and greater mirror each other,
pub compared-mirror : (a b : Datetime) → partial_cmp b a ≡ turned (partial_cmp a b)
unfolding partial_cmp
compared-mirror a b =
    ap (λ (o : Option Ordering). pick (has_season b || has_season a) seasoned (Ok o)) (order-mirror a b) ∙ turned_by (has_season a) (has_season b) (order a b)

-- less is transitive,
pub compared-trans : (a b c : Datetime) → partial_cmp a b ≡ Ok (Some Less) → partial_cmp b c ≡ Ok (Some Less) → partial_cmp a c ≡ Ok (Some Less)
compared-trans a b c e f =
    let p = stands a b e in
    let q = stands b c f in
    compared-else a c p.0 q.1 ∙ ap Ok (order_trans a b c p.2 q.2)

-- and two that compare equal get the same answer against any third, refused or not
pub compared-alike : (a b c : Datetime) → partial_cmp a b ≡ Ok (Some Equal) → partial_cmp a c ≡ partial_cmp b c
unfolding partial_cmp
compared-alike a b c e =
    let p = stands a b e in
    rw (p.0, p.1) (ap (λ (o : Option Ordering). pick (has_season c) seasoned (Ok o)) (order_alike a b c p.2))
