-- What is called unread is not read: whatever the text, the answer of the reader is the same. Assumes nothing.
use mathlib.Core.Path.{◌≡◌, refl, sym, ◌∙◌}
use mathlib.Core.List.{List, []}
use Prim.Native.Nat.{ℕ}
use lib.ListN.{length}
use Rattle.chars.specs.Pick.{pick}
use Rattle.reading_laws.specs.Fields.{fields_checked, parts_of, read_fields, three_fields}
use Rattle.verdicts.specs.Fields.{Cells, cells, fields_of, six_read}
use borrow.Author.Tests.{le-ltb}
use native.Mathlib.Omega.{arith}
use Rattle.sixfields.proofs.Back.{without_end}

-- A day without a month, of a start or of an end,
pub day-unread : (y d e : List ℕ) → three_fields (fields_of (cells y [] d)) ≡ three_fields (fields_of (cells y [] e))
unfolding three_fields fields_checked read_fields parts_of pick
day-unread y d e = refl

-- (without an end year six cells are three)
no_end : (start end : Cells) → length end.year ≡ 0 → six_read start end ≡ three_fields (fields_of start)
unfolding six_read
no_end start end h = rw (le-ltb 0 (length end.year) (omega arith)) (without_end _ _)

-- and all of an end without its year.
pub end-unread : (start end other : Cells) → length end.year ≡ 0 → length other.year ≡ 0 → six_read start end ≡ six_read start other
end-unread start end other h k = no_end start end h ∙ sym (no_end start other k)
