-- Texts over any kind of points and their reader: what has a derivation is accepted, and what is accepted has one. Assumes nothing.
use mathlib.Core.Path.{◌≡◌, refl, sym, ap, ◌∙◌, subst}
use Prim.Native.Nat.{ℕ, ◌+◌}
use Prim.Native.Char.{code}
use mathlib.Core.Bool.{Bool, true, false}
use mathlib.Core.List.{List, [], ◌∷◌, ◌++◌, append_assoc}
use lib.ListN.{drop}
use lib.Dec.{eqb, lit<}
use borrow.Author.Tests.{eqb-true}
use Rattle.chars.proofs.Cases.{by-test, and-true}
use Rattle.chars.specs.Pick.{pick}
use Rattle.chars.specs.Classes.{is_ascii_digit, within}
use Rattle.dates.specs.declared.Datetime.{Datetime}
use Rattle.dates.specs.declared.DateValue.{DateValue}
use Rattle.dates.specs.declared.DateValue.TheVariants.{At, After, Before as Until, Between}
use Rattle.dates.specs.declared.Date.{Date}
use Rattle.dates.specs.Value.{date}
use Rattle.std.specs.Prelude.{Option, Some, None}
use Rattle.strict.specs.Grammar.{Value, alone, between, after, before, Mark, no_mark, uncertain, approximate, both, TextOf, text}
use Rattle.strict.specs.Grammar
use Rattle.strict.specs.Matcher.{is, strictly, marked, ending, is_open, on_point, behind_open, behind_slash, from_point, of_points, on_unknown, text_of}
use Rattle.strict.proofs.Places.{Split, first, further, joined, one-taken}
use Rattle.strict.proofs.Points.{Ends, Exact, Derived, nothing, upto}
use Rattle.strict.proofs.Ranges.{no_digit, unknown-read, Ranged, no_range, range, unknown-taken}

-- ---- what has a derivation is accepted

mark-ends : {t : List ℕ} {u a : Bool} → Mark t u a → Ends t
unfolding is_ascii_digit within
mark-ends no_mark = record { dash = refl; tee = refl; zed = refl; plus = refl; digit = refl }
mark-ends uncertain = record { dash = refl; tee = refl; zed = refl; plus = refl; digit = refl }
mark-ends approximate = record { dash = refl; tee = refl; zed = refl; plus = refl; digit = refl }
mark-ends both = record { dash = refl; tee = refl; zed = refl; plus = refl; digit = refl }

slash-ends : (l : List ℕ) → Ends (code "/" ∷ l)
unfolding is_ascii_digit within
slash-ends l = record { dash = refl; tee = refl; zed = refl; plus = refl; digit = refl }

mark-slash : {t : List ℕ} {u a : Bool} → Mark t u a → is (code "/") t 0 ≡ false
mark-slash no_mark = refl
mark-slash uncertain = refl
mark-slash approximate = refl
mark-slash both = refl

mark-ending : {t : List ℕ} {u a : Bool} (v : DateValue) → Mark t u a → ending v t ≡ strictly v u a
unfolding ending marked pick
mark-ending v no_mark = refl
mark-ending v uncertain = refl
mark-ending v approximate = refl
mark-ending v both = refl

module _ {P : List ℕ → Datetime → Type 0} {read : List ℕ → Option (Datetime × ℕ)} (x : Exact P read) {m : List ℕ} {u a : Bool} (mark : Mark m u a) where
  -- a point and the mark
  last-point : {s : List ℕ} {d : Datetime} (v : Datetime → DateValue) → P s d → on_point (read (s ++ m)) (λ b next. ending (v b) (drop next (s ++ m))) ≡ strictly (v d) u a
  unfolding on_point
  last-point {s} {d} v p =
      let b = x.complete (mark-ends mark) p (record { is = refl }) in
      rw (b.reads, b.left.is) (mark-ending (v d) mark)

  -- behind a slash
  second-point : {s : List ℕ} {d : Datetime} (first : Datetime) → P s d → behind_slash read first (s ++ m) ≡ strictly (Between first d) u a
  unfolding behind_slash is_open pick
  second-point {s} {d} first p = rw (x.closed {r = m} p (record { is = refl })) (last-point (Between first) p)

  -- no point is open
  point-first : {s t r : List ℕ} {d : Datetime} → Ends r → P t d → Split s t r → text_of read s ≡ from_point read s
  unfolding text_of of_points on_unknown is_open pick
  point-first e p f = rw (x.known e p f, x.closed p f)

  value_read : {s : List ℕ} {v : DateValue} → Value P s v → text_of read (s ++ m) ≡ strictly v u a
  unfolding text_of of_points from_point behind_open behind_slash on_unknown on_point is_open pick is_ascii_digit within
  value_read {s} (alone p) =
      let b = x.complete (mark-ends mark) p (record { is = refl }) in
      point-first (mark-ends mark) p (record { is = refl })
      ∙ rw (b.reads, first b.left, mark-slash mark, b.left.is) (mark-ending _ mark)
  value_read (between {s = s} {t = t} {a = c} p q) =
      let f : Split ((s ++ (47 ∷ t)) ++ m) s (47 ∷ (t ++ m)) = record { is = append_assoc s (47 ∷ t) m } in
      let b = x.complete (slash-ends (t ++ m)) p f in
      point-first (slash-ends (t ++ m)) p f
      ∙ rw (b.reads, first b.left, (further b.left 1).is) (second-point c q)
  value_read (after {s = s} {a = c} p) =
      let f : Split ((s ++ (47 ∷ 46 ∷ 46 ∷ [])) ++ m) s (47 ∷ 46 ∷ 46 ∷ m) = record { is = append_assoc s (47 ∷ 46 ∷ 46 ∷ []) m } in
      let b = x.complete (slash-ends (46 ∷ 46 ∷ m)) p f in
      point-first (slash-ends (46 ∷ 46 ∷ m)) p f
      ∙ rw (b.reads, first b.left, (further b.left 1).is) (mark-ending (After c) mark)
  value_read (before {s = s} p) = rw (no_digit (46 ∷ 46 ∷ 47 ∷ (s ++ m)) refl) (last-point Until p)
  value_read {s} (Grammar.unknown p) =
      let b = unknown-read (mark-ends mark) p (record { is = refl }) in
      rw (b.reads, b.left.is) (mark-ending _ mark)

pub text-read : {P : List ℕ → Datetime → Type 0} {read : List ℕ → Option (Datetime × ℕ)} → Exact P read → {s : List ℕ} {d : Date} → TextOf P s d → text_of read s ≡ Some d
text-read x (text v mark) = value_read x mark v

-- ---- what is accepted has a derivation

pub data Accepted (P : List ℕ → Datetime → Type 0) (s : List ℕ) : Option Date → Type 0 where
  refused : Accepted P s None
  accepted : {d : Date} → TextOf P s d → Accepted P s (Some d)

open-taken : (l : List ℕ) → is_open l ≡ true → Split l (46 ∷ 46 ∷ []) (drop 2 l)
unfolding is_open
open-taken l e =
    let p = and-true (is 46 l 0) (is 46 l 1) e in
    joined (one-taken l 0 (eqb-true _ 46 p.0) (lit< tt)) (one-taken l 1 (eqb-true _ 46 p.1) (lit< tt))

module _ {P : List ℕ → Datetime → Type 0} (s : List ℕ) where
  whole : {t m : List ℕ} {v : DateValue} {u a : Bool} → Value P t v → Mark m u a → Split s t m → Accepted P s (strictly v u a)
  whole {v = v} {u = u} {a = a} d mark f = accepted (subst (λ (l : List ℕ). TextOf P l (date v u a)) (sym f.is) (text d mark))

  marked-taken : {t : List ℕ} {v : DateValue} (c : ℕ) → Value P t v → Split s t (c ∷ []) → Accepted P s (marked v c)
  unfolding marked
  marked-taken {t} c d f =
      by-test (Accepted P s) (eqb c 63) (λ e. whole d uncertain (said e))
      (λ _. by-test (Accepted P s) (eqb c 126) (λ e. whole d approximate (said e))
      (λ _. by-test (Accepted P s) (eqb c 37) (λ e. whole d both (said e)) (λ _. refused)))
    where
      said : {b : ℕ} → eqb c b ≡ true → Split s t (b ∷ [])
      said {b} e = subst (λ (x : ℕ). Split s t (x ∷ [])) (eqb-true c b e) f

  ending-taken : {t : List ℕ} {v : DateValue} (r : List ℕ) → Value P t v → Split s t r → Accepted P s (ending v r)
  unfolding ending
  ending-taken [] d f = whole d no_mark f
  ending-taken (c ∷ []) d f = marked-taken c d f
  ending-taken (b ∷ c ∷ r) d f = refused

  -- a point behind what was read before it
  last_taken : {t l : List ℕ} {r : Option (Datetime × ℕ)} (v : Datetime → DateValue) → Split s t l → ((u : List ℕ) (a : Datetime) → P u a → Value P (t ++ u) (v a))
      → Derived P l r → Accepted P s (on_point r (λ a next. ending (v a) (drop next l)))
  unfolding on_point
  last_taken v f d nothing = refused
  last_taken {l = l} v f d (upto {t = u} {a = a} {next = next} p g) = ending-taken (drop next l) (d u a p) (joined f g)

module _ {P : List ℕ → Datetime → Type 0} {read : List ℕ → Option (Datetime × ℕ)} (x : Exact P read) (s : List ℕ) where
  slash-taken : {t : List ℕ} {a : Datetime} (l : List ℕ) → P t a → Split s t (47 ∷ l) → Accepted P s (behind_slash read a l)
  unfolding behind_slash
  slash-taken {t} {a} l p f =
      by-test (Accepted P s) (is_open l)
      (λ e. ending-taken s (drop 2 l) (after p) (record { is = f.is ∙ ap (λ (r : List ℕ). t ++ (47 ∷ r)) (open-taken l e).is ∙ sym (append_assoc t (47 ∷ 46 ∷ 46 ∷ []) (drop 2 l)) }))
      (λ _. last_taken s {t = t ++ (47 ∷ [])} (Between a) (record { is = f.is ∙ sym (append_assoc t (47 ∷ []) l) }) second (x.sound l))
    where
      second : (u : List ℕ) (b : Datetime) → P u b → Value P ((t ++ (47 ∷ [])) ++ u) (Between a b)
      second u b q = subst (λ (r : List ℕ). Value P r (Between a b)) (sym (append_assoc t (47 ∷ []) u)) (between p q)

  from-taken : {r : Option (Datetime × ℕ)} → Derived P s r → Accepted P s (on_point r λ a next. pick (is 47 s next) (behind_slash read a (drop (next + 1) s)) (ending (At a) (drop next s)))
  unfolding on_point
  from-taken nothing = refused
  from-taken (upto {t = t} {a = a} {next = next} p f) =
      by-test (Accepted P s) (is 47 s next)
      (λ e. slash-taken (drop (next + 1) s) p (record { is = f.is ∙ ap (λ (r : List ℕ). t ++ r) (one-taken s next (eqb-true _ 47 e) (lit< tt)).is }))
      (λ _. ending-taken s (drop next s) (alone p) f)

  points-taken : Accepted P s (of_points read s)
  unfolding of_points behind_open from_point
  points-taken =
      by-test (Accepted P s) (is_open s)
      (λ e.
      by-test (Accepted P s) (is 47 s 2)
      (λ f. last_taken s Until (joined (open-taken s e) (one-taken s 2 (eqb-true _ 47 f) (lit< tt))) (λ u a p. before p) (x.sound (drop 3 s)))
      (λ _. refused))
      (λ _. from-taken (x.sound s))

  pub text-taken : Accepted P s (text_of read s)
  unfolding text_of on_unknown
  text-taken = go (unknown-taken s)
    where
      go : {r : Option (DateValue × ℕ)} → Ranged s r → Accepted P s (on_unknown r (of_points read s) λ v next. ending v (drop next s))
      go no_range = points-taken
      go (range {next = next} u f) = ending-taken s (drop next s) (Grammar.unknown u) f
