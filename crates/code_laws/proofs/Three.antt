-- Three fields that are answered at once: what is said of them is what the reader of three fields says, with a year of four digits, a stored month
-- below 99 and a stored day below 31.
-- Assumes nothing.
use mathlib.Core.Path.{◌≡◌, refl, sym, subst, ◌∙◌}
use mathlib.Core.Bool.{Bool, true, false}
use mathlib.Core.List.{List}
use Prim.Native.Nat.{ℕ, ◌<◌}
use native.Mathlib.Omega.{arith}
use borrow.Author.Tests.{eqb-true, lt-ltb, ne_eqb}
use lib.Dec.{eqb, lit<}
use lib.IntN.{ℤ, pos, negsuc, nat_abs}
use lib.ListN.{length, get_or}
use lib.Signed.{mag}
use Rattle.chars.specs.Pick.{pick}
use Rattle.chars.specs.Classes.{is_whitespace}
use Rattle.chars.proofs.Cases.{by-test, and-true}
use Rattle.refusals.specs.declared.FileSpan.{FileSpan}
use Rattle.dates.specs.declared.Day.{Day}
use Rattle.dates.specs.declared.Month.{Month}
use Rattle.refusals.specs.declared.Refusal.{Refusal}
use Rattle.std.proofs.lemmas.Option.{none-some, same_Some}
use Rattle.std.specs.Prelude.{Some, None, Result, Ok, Option}
use Rattle.dates.specs.declared.Date.{Date}
use Rattle.dates.specs.Value.{datetime, from_datetime}
use Rattle.chunks.specs.Check.{or_else}
use Rattle.chunks.specs.Format.{is_break}
use Rattle.chunks.specs.Plain.{all_ascii, plain_byte, plain_text}
use Rattle.chunks.specs.Lent.{Lent, Three, check_of, text_of, place_of}
use Rattle.chunks.proofs.Answers.{plain-as-is}
use Rattle.chunks.proofs.Plains.{other-out, plainly}
use Rattle.fields.proofs.Named.{MonthBelow}
use Rattle.fields.proofs.Ranges.{DayBelow}
use Rattle.fields.specs.Day.{day_field}
use Rattle.reading_laws.specs.Field.{on_clean}
use Rattle.reading_laws.specs.Fields.{parts_checked, fields_checked, moved_year, year_of, on_month, month_alone, field_day, month_and_day, parts_of, dated, on_year, read_fields, three_fields}
use Rattle.reading_laws.proofs.Stored.{FieldsIn, fields, no_fields, three-in}
use Rattle.roundtrip_laws.proofs.Bytes.{Each}
use Rattle.roundtrip_laws.proofs.Bytes.Each.{none as nothing, more}
use Rattle.codes.specs.Words.{month_number, day_number}
use Rattle.codes.specs.Parts.{year_part, month_part, day_part}
use Rattle.codes.specs.Lists.{one_normal, on_normal, month_or, day_or, list_three}
use Rattle.codes.specs.Typed.{Typed}
use Rattle.code_laws.proofs.Points.{by-some}
use Rattle.code_laws.proofs.Parts.{IsPrinted, Usual, year-said, MonthSaid, month-said, month-alone, DaySaid, given, day-said}

-- ---- a list of one Normal chunk with a usual text

unbroken : (x : ℕ) → IsPrinted x → is_break x ≡ false
unfolding is_break
unbroken x h = rw (ne_eqb x 0x0A (λ (e : x ≡ 0x0A). omega (arith, h.low)), ne_eqb x 0x0D (λ (e : x ≡ 0x0D). omega (arith, h.low)))

printed-text : (w : Bool) {s : List ℕ} → Each IsPrinted s → plain_text false w s ≡ s
unfolding plain_text plain_byte pick
printed-text w nothing = refl
printed-text w (more {x} h e) = rw (other-out false w x (unbroken x h), printed-text (is_whitespace x) e)

printed-ascii : {s : List ℕ} → Each IsPrinted s → all_ascii s ≡ true
unfolding all_ascii
printed-ascii nothing = refl
printed-ascii (more {x} h e) = rw (lt-ltb x 0x80 h.high, printed-ascii e)

-- it has no fault, and formatted it is its text
record Plain (l : Lent) : Type 0 where
  clean : check_of l ≡ (Ok tt)
  text : text_of l ≡ l.bytes

usual-list : (l : Lent) → one_normal l.bytes l.table ≡ true → Usual l.bytes → Plain l
unfolding one_normal
usual-list l o u =
    let b = l.bytes in
    let t = l.table in
    let p = and-true (eqb (length t) 4) _ o in
    let q = and-true (eqb (get_or t 0 0) 0) _ p.1 in
    let k =
    plainly b t
    (record { four = eqb-true _ 4 p.0; normal_kind = eqb-true _ 0 q.0; whole = eqb-true _ _ q.1; small = omega (arith, u.short); ascii = printed-ascii u.printed })
    in
    record { clean = k.clean; text = sym (plain-as-is b t {u = false} refl) ∙ k.text false ∙ printed-text false u.printed }

of-normal : {A : Type 0} (l : Lent) (read : List ℕ → Option A) {a : A} → on_normal l read ≡ Some a → (one_normal l.bytes l.table ≡ true) × (read l.bytes ≡ Some a)
unfolding on_normal
of-normal {A} l read {a} =
    by-test (λ (o : Option A). o ≡ Some a → (one_normal l.bytes l.table ≡ true) × (read l.bytes ≡ Some a)) (one_normal l.bytes l.table)
    (λ t e. (t, e))
    (λ _ e. absurd (none-some a e))

-- ---- what each list says

year-list : (l : Lent) {y : ℤ} → on_normal l year_part ≡ Some y → (check_of l ≡ (Ok tt)) × (year_of l ≡ Ok y)
unfolding year_of moved_year
year-list l e =
    let p = of-normal l year_part e in
    let y = year-said l.bytes p.1 in
    let k = usual-list l p.0 y.usual in
    (k.clean, rw (k.text, y.reads))

-- a month's list
record MonthList (l : Lent) (m : Option Month) : Type 0 where
  plain : Plain l
  says : MonthSaid l.bytes m

month-list : (l : Lent) {m : Option Month} → on_normal l month_part ≡ Some m → MonthList l m
month-list l e =
    let p = of-normal l month_part e in
    let m = month-said l.bytes p.1 in
    record { plain = usual-list l p.0 m.usual; says = m }

-- and a day's
day-usual : {s : List ℕ} {d : Option Day} → DaySaid s d → Usual s
day-usual (given u f) = u

day-beside : {s : List ℕ} {d : Option Day} → DaySaid s d → (m : Option Month) (span : FileSpan) → field_day m (day_field s span) ≡ Ok (m, d)
unfolding field_day
day-beside (given u f) m span = rw (f span)

day-list : (l : Lent) {d : Option Day} → on_normal l day_part ≡ Some d → (check_of l ≡ (Ok tt)) × ((m : Option Month) → field_day m (day_field (text_of l) (place_of l)) ≡ Ok (m, d))
day-list l e =
    let p = of-normal l day_part e in
    let d = day-said l.bytes p.1 in
    let k = usual-list l p.0 (day-usual d) in
    (k.clean, λ m. rw k.text (day-beside d m (place_of l)))

-- ---- all three

-- the lists of month and day, as far as they are present
parts_read : (hm : Bool) (lm : Lent) (hd : Bool) (ld : Lent) {m : Option Month} {d : Option Day} → month_or (record { present = hm; list = lm }) ≡ Some m → day_or (record { present = hm; list = lm }) (record { present = hd; list = ld }) ≡ Some d → (pick hm (parts_checked lm (record { present = hd; list = ld })) (Ok tt) ≡ (Ok tt)) × (parts_of (record { present = hm; list = lm }) (record { present = hd; list = ld }) ≡ Ok (m, d))
unfolding month_or day_or parts_checked or_else parts_of month_and_day month_alone on_month pick
parts_read false lm hd ld {m} {d} e f = (refl, rw (sym (same_Some None m e), sym (same_Some None d f)))
parts_read true lm false ld {m} {d} e f =
    let k = month-list lm e in
    (rw k.plain.clean, rw (k.plain.text, month-alone k.says, sym (same_Some None d f)))
parts_read true lm true ld {m} {d} e f =
    let k = month-list lm e in
    let j = day-list ld f in
    (rw (k.plain.clean, j.0), rw (k.plain.text, k.says.reads) (j.1 m))

read-so : (t : Three) {y : ℤ} {m : Option Month} {d : Option Day} → on_normal t.year year_part ≡ Some y → month_or t.month ≡ Some m → day_or t.month t.day ≡ Some d → three_fields t ≡ Ok (from_datetime (datetime y m d None))
unfolding three_fields fields_checked or_else on_clean read_fields on_year dated
read-so t ey em ed =
    let a = year-list t.year ey in
    let b = parts_read t.month.present t.month.list t.day.present t.day.list em ed in
    rw (a.0, b.0, a.1, b.1)

-- the case that something is said
module _ (t : Three) {r : Result Date Refusal} {A : Type 0} (go : (x : Date) → three_fields t ≡ Ok x → Ok x ≡ r → A) where
  told : list_three t ≡ Some r → A
  unfolding list_three
  told =
      by-some P (on_normal t.year year_part) not_none λ y ey.
      by-some P (month_or t.month) not_none λ m em.
      by-some P (day_or t.month t.day) not_none λ d ed e.
      go (from_datetime (datetime y m d None)) (read-so t ey em ed) (same_Some _ r e)
    where
      P : Option (Result Date Refusal) → Type 0
      P o = o ≡ Some r → A

      not_none : None ≡ Some r → A
      not_none e = absurd (none-some r e)

-- what is said of three lists is what the reader says
pub three_said : (t : Three) {r : Result Date Refusal} → list_three t ≡ Some r → three_fields t ≡ r
three_said t = told t λ x e f. e ∙ f

-- ---- how large it is

-- a single date without a time and without a mark: a year of four digits, a stored month below 99, a stored day below 31
pub data ThreeSaid : Result Date Refusal → Type 0 where
  three : {y : ℤ} {m : Option Month} {d : Option Day} → nat_abs y < 10000 → MonthBelow 99 m → DayBelow 31 d → ThreeSaid (Ok (from_datetime (datetime y m d None)))

accepted-in : {r : Result Date Refusal} {x : Date} → FieldsIn r → Ok x ≡ r → ThreeSaid r
accepted-in (fields {y} {m} {d} h k l) e = three {y = y} {m = m} {d = d} h k l
accepted-in no_fields e = let z : ◌≡◌ {A = ℕ} 0 1 = cc in absurd (omega arith)

pub three-is : (t : Three) {r : Result Date Refusal} → list_three t ≡ Some r → ThreeSaid r
three-is t = told t λ x e f. accepted-in (subst FieldsIn (e ∙ f) (three-in t)) f

year_typed : (y : ℤ) → nat_abs y < 10000 → mag y < 2147483648
year_typed (pos n) h = omega arith
year_typed (negsuc n) h = omega arith

month-typed : (m : Option Month) → MonthBelow 99 m → month_number m < 256
month-typed None h = lit< tt
month-typed (Some m) h = omega arith

day-typed : (d : Option Day) → DayBelow 31 d → day_number d < 256
day-typed None h = lit< tt
day-typed (Some d) h = omega arith

said_typed : {r : Result Date Refusal} → ThreeSaid r → Typed r
said_typed (three {y} {m} {d} h k l) =
    record {
      year_typed = year_typed y h;
      bytes_typed = (month-typed m k, (day-typed d l, (lit< tt, (lit< tt, (lit< tt, (lit< tt, (lit< tt, tt)))))));
    }

-- its numbers are of their types
pub three-typed : (t : Three) {r : Result Date Refusal} → list_three t ≡ Some r → Typed r
three-typed t e = said_typed (three-is t e)
