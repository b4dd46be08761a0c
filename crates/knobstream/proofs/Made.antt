-- What was made part by part is what its definition says. Over plain variables. Assumes nothing.
use mathlib.Core.Path.{◌≡◌, refl, ap, ◌∙◌}
use mathlib.Core.Bool.{◌||◌}
use mathlib.Core.List.{List, ◌++◌}
use Prim.Native.Nat.{ℕ, ◌<◌}
use native.Mathlib.Omega.{arith}
use lib.Dec.{eqb}
use lib.ListN.{length}
use lib.IntN.{ℤ, pos}
use mir.Syntax.{w32}
use mir.Val.{SFits, to_z, of_z}
use mir.ValLaws.{to_z_pos, to_z-of_z}
use Rattle.chars.specs.Pick.{pick}
use Rattle.chars.proofs.Cases.{of_test}
use Rattle.refusals.specs.declared.Refusal.{Refusal}
use Rattle.refusals.specs.Refusal.{number, refusal}
use Rattle.dates.specs.declared.Datetime.{Datetime}
use Rattle.dates.specs.declared.DateValue.{DateValue}
use Rattle.dates.specs.declared.DateValue.TheVariants.{At, After, Before, Between}
use Rattle.dates.specs.declared.Date.{Date}
use Rattle.dates.specs.Value.{has_season, any_season}
use Rattle.days.specs.declared.Period.{Period}
use Rattle.days.specs.Covered.{period}
use Rattle.instants.specs.Instants.{compared}
use Rattle.std.specs.Prelude.{Option, Some, None, Result, Ok, Err}
use Rattle.std.specs.declared.cmp.Ordering.{Ordering}
use Rattle.std.specs.declared.cmp.Ordering.TheVariants.{Equal, Greater, Less}
use Rattle.order.specs.Order.{order, seasoned, partial_cmp}
use Rattle.puts.specs.Answers.{measured, answer, afterwards}
use Rattle.writer.specs.Answers.{date_measured, date_answer, date_afterwards}
use Rattle.writer.specs.Texts.{parts_of, datetime_text, value_text, date_text, end_panics, value_panics, panics}
use Rattle.puts.specs.Marks.{mark_text}
use Rattle.writer.specs.Fields.{end_lines, value_lines, fields_text}
use Rattle.writer.specs.Level.{behind_text, level_end, level_value, level_text, level_end_panics, level_value_panics, level_panics}
use Rattle.knobstream.specs.declared.PlainDate.{PlainDate}
use Rattle.knobstream.specs.declared.PlainWritten.{PlainWritten}
use Rattle.knobstream.specs.Plain.{written, measure, order_number, compared_number}
use Rattle.knobstream.specs.Back.{is_set, datetime_of, day_only, date_value, date_by, date_of}

-- the number of an order has 32 bits
pub order-fits : (o : Option Ordering) → to_z w32 (of_z w32 (order_number o)) ≡ order_number o
order-fits (Some Less) = refl
order-fits (Some Equal) = refl
order-fits (Some Greater) = refl
order-fits None = refl

-- so has what the comparison answers
compared-fits : (a b : Datetime) → to_z w32 (of_z w32 (compared_number (partial_cmp a b))) ≡ compared_number (partial_cmp a b)
unfolding partial_cmp seasoned refusal pick
compared-fits a b = of_test (has_season a || has_season b) (λ x. rw x) (λ x. rw x (order-fits (order a b)))

pub made-stands : {c : Result (Option Ordering) Refusal} {o : Option Ordering} {r : ℤ} → c ≡ Ok o → r ≡ order_number o → to_z w32 (of_z w32 r) ≡ compared_number c
made-stands {o = o} e er = rw (e, er) (order-fits o)

pub made-refused : {c : Result (Option Ordering) Refusal} {e : Refusal} {n : ℕ} → n < 256 → c ≡ Err e → n ≡ number e.kind → to_z w32 n ≡ compared_number c
made-refused {n = n} h ec en = rw ec (to_z_pos w32 n (omega arith) ∙ ap pos en)

pub made-compared : {a b x y : Datetime} {o : Result (Option Ordering) Refusal} {r : ℤ} → x ≡ a → y ≡ b → o ≡ partial_cmp x y → r ≡ compared_number o → to_z w32 (of_z w32 r) ≡ compared_number (partial_cmp a b)
made-compared {a} {b} ex ey eo er = rw (er, eo, ex, ey) (compared-fits a b)

-- what the comparison of instants said
pub made-instants : {a b x y : Datetime} {o : Result (Option Ordering) Refusal} → x ≡ a → y ≡ b → o ≡ compared x y → o ≡ compared a b
made-instants ex ey eo = rw (eo, ex, ey)

-- what a writer said of a Date without its times, as a struct, and what it left in the buffer: the same as with its times
pub made-written : {d e : Date} (t : Date → List ℕ) (l : List ℕ) {m : List ℕ} {w : Result ℕ Refusal} {r : PlainWritten}
    → any_season d.value ≡ any_season e.value → panics d ≡ panics e → t d ≡ t e → (w ≡ date_answer d (t d) (length l)) × (m ≡ date_afterwards d (t d) l) → r ≡ written w
    → (r ≡ written (date_answer e (t e) (length l))) × (m ≡ date_afterwards e (t e) l)
unfolding date_measured date_answer date_afterwards
made-written t l es ep et h er = (rw (er, h.0, es, ep, et), rw (h.1, es, ep, et))

-- what measuring said of it
pub made-measure : (d e : Date) {m : Result ℕ Refusal} {r : PlainWritten} → any_season d.value ≡ any_season e.value → panics d ≡ panics e → date_text d ≡ date_text e → m ≡ date_measured d (date_text d) → r ≡ measure m
    → r ≡ measure (date_measured e (date_text e))
unfolding date_measured
made-measure d e es ep et em er = rw (er, em, es, ep, et)

-- the same of the writer of level one
pub level-written : (d e : Date) (l : List ℕ) {m : List ℕ} {w : Result ℕ Refusal} {r : PlainWritten}
    → level_panics d ≡ level_panics e → level_text d ≡ level_text e → (w ≡ answer (level_panics d) (level_text d) (length l)) × (m ≡ afterwards (level_panics d) (level_text d) l) → r ≡ written w
    → (r ≡ written (answer (level_panics e) (level_text e) (length l))) × (m ≡ afterwards (level_panics e) (level_text e) l)
level-written d e l ep et h er = (rw (er, h.0, ep, et), rw (h.1, ep, et))

pub level-measure : (d e : Date) {m : Result ℕ Refusal} {r : PlainWritten} → level_panics d ≡ level_panics e → level_text d ≡ level_text e → m ≡ measured (level_panics d) (level_text d) → r ≡ measure m
    → r ≡ measure (measured (level_panics e) (level_text e))
level-measure d e ep et em er = rw (er, em, ep, et)

module _ (p : PlainDate) where
  by_shape : {A : Type 0} (f : DateValue → A) → f (At (day_only p.first)) ≡ f (At (datetime_of p.first)) → f (After (day_only p.first)) ≡ f (After (datetime_of p.first))
      → f (Before (day_only p.first)) ≡ f (Before (datetime_of p.first)) → f (Between (day_only p.first) (day_only p.second)) ≡ f (Between (datetime_of p.first) (datetime_of p.second))
      → f (date_value day_only p) ≡ f (date_value datetime_of p)
  unfolding date_value pick
  by_shape f a b e g =
      of_test (eqb p.shape 0) (λ x. rw x a)
      (λ x. rw x (of_test (eqb p.shape 1) (λ y. rw y b) (λ y. rw y (of_test (eqb p.shape 2) (λ z. rw z e) (λ z. rw z g)))))

  pub same-panics : panics (date_by day_only p) ≡ panics (date_of p)
  unfolding panics date_by value_panics end_panics parts_of day_only datetime_of
  same-panics = by_shape value_panics refl refl refl refl

  pub same_text : date_text (date_by day_only p) ≡ date_text (date_of p)
  unfolding date_text date_by value_text datetime_text parts_of day_only datetime_of
  same_text = ap (λ (t : List ℕ). t ++ mark_text (is_set p.uncertain) (is_set p.approximate)) (by_shape value_text refl refl refl refl)

  pub same-fields : fields_text (date_by day_only p) ≡ fields_text (date_of p)
  unfolding fields_text date_by value_lines end_lines parts_of day_only datetime_of
  same-fields = by_shape value_lines refl refl refl refl

  pub same-season : any_season (date_by day_only p).value ≡ any_season (date_of p).value
  unfolding date_by day_only datetime_of
  same-season = by_shape any_season refl refl refl refl

  pub same-level-panics : level_panics (date_by day_only p) ≡ level_panics (date_of p)
  unfolding level_panics date_by level_value_panics level_end_panics end_panics parts_of day_only datetime_of
  same-level-panics = by_shape level_value_panics refl refl refl refl

  pub same-level-text : level_text (date_by day_only p) ≡ level_text (date_of p)
  unfolding level_text date_by level_value level_end behind_text parts_of day_only datetime_of
  same-level-text = ap (λ (t : List ℕ). t ++ mark_text (is_set p.uncertain) (is_set p.approximate)) (by_shape level_value refl refl refl refl)

-- the days of a period, as the machine has them, are those that were passed
pub same-days : (first last : ℤ) → SFits w32 first → SFits w32 last → {A : Type 0} (f : Period → A) → f (period (to_z w32 (of_z w32 first)) (to_z w32 (of_z w32 last))) ≡ f (period first last)
same-days first last a b f = rw (to_z-of_z w32 first a, to_z-of_z w32 last b)
