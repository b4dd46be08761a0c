-- Three lists: the text of one that was formatted, and what a check of all of them says.
-- Assumes nothing.
use mathlib.Core.Path.{◌≡◌, refl, ◌∙◌}
use mathlib.Core.Bool.{true, false}
use mathlib.Core.List.{List}
use Prim.Native.Nat.{ℕ}
use Rattle.chars.specs.Pick.{pick}
use Rattle.std.specs.Prelude.{Ok}
use Rattle.chunks.specs.Check.{checked}
use Rattle.chunks.specs.Format.{formatted}
use Rattle.chunks.specs.Answer.{text_of}
use Rattle.chunks.proofs.Answers.{plain-as-is}
use Rattle.chunks.proofs.Proper.{else-clean}
use Rattle.chunks.specs.Lent.{Three, check_of}
use Rattle.reading_laws.specs.Fields.{parts_checked, fields_checked}
use Rattle.reader.specs.Readable.{Readable, AllReadable, Small, AllSmall}
use Rattle.chunks.proofs.Buffers.{large-room, small-room}

-- a text that was formatted as it is
pub as_is : (b table : List ℕ) {t : List ℕ} → t ≡ text_of false b table → t ≡ formatted b table
as_is b table e = e ∙ plain-as-is b table {u = false} refl

-- a clean list, read with the large array, or a short one with the small one
pub readable : (b table : List ℕ) → checked b table ≡ (Ok tt) → Readable b table 4224
readable b table e = record { clean = e; roomy = large-room b table }

pub small-readable : (b table : List ℕ) → checked b table ≡ (Ok tt) → Small b table → Readable b table 64
small-readable b table e h = record { clean = e; roomy = small-room b table h.few_bytes h.few_chunks }

-- what a check of three lists that finds nothing says of each
module _ (t : Three) (e : fields_checked t ≡ (Ok tt)) where
  pub year-checked : check_of t.year ≡ (Ok tt)
  unfolding fields_checked
  year-checked = (else-clean (check_of t.year) e).0

  parts-checked : t.month.present ≡ true → parts_checked t.month.list t.day ≡ (Ok tt)
  unfolding fields_checked pick
  parts-checked h = rw h at (else-clean (check_of t.year) e).1

  pub month-checked : t.month.present ≡ true → check_of t.month.list ≡ (Ok tt)
  unfolding parts_checked
  month-checked h = (else-clean (check_of t.month.list) (parts-checked h)).0

  pub day-checked : t.month.present ≡ true → t.day.present ≡ true → check_of t.day.list ≡ (Ok tt)
  unfolding parts_checked pick
  day-checked h k = rw k at (else-clean (check_of t.month.list) (parts-checked h)).1

  -- three clean lists, read with the large array, or short ones with the small one
  pub all-readable : AllReadable t 4224
  all-readable =
      record {
        year = readable t.year.bytes t.year.table year-checked;
        month = λ h. readable t.month.list.bytes t.month.list.table (month-checked h);
        day = λ h k. readable t.day.list.bytes t.day.list.table (day-checked h k);
      }

  pub all-small : AllSmall t → AllReadable t 64
  all-small s =
      record {
        year = small-readable t.year.bytes t.year.table year-checked s.year;
        month = λ h. small-readable t.month.list.bytes t.month.list.table (month-checked h) (s.month h);
        day = λ h k. small-readable t.day.list.bytes t.day.list.table (day-checked h k) (s.day k);
      }
