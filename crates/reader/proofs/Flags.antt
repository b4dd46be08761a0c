-- Lists that go with a flag: three fields look at none whose flag is clear. Assumes nothing.
use mathlib.Core.Path.{◌≡◌, refl}
use mathlib.Core.Bool.{Bool, true, false}
use Rattle.std.specs.Prelude.{Option}
use Rattle.std.specs.Bool.{then_some}
use Rattle.chars.specs.Pick.{pick}
use Rattle.chunks.specs.declared.ChunksRef.{ChunksRef}
use Rattle.chunks.specs.Lent.{Lent, optional, optional_of, three}
use Rattle.reading_laws.specs.Fields.{parts_checked, fields_checked, parts_of, read_fields, three_fields}

module _ (y : Lent) (m d : ChunksRef) where
  by-flags : (h k : Bool) → three_fields (three y (optional_of (then_some h m)) (optional_of (then_some k d))) ≡ three_fields (three y (optional h m.bytes.now m.table.now) (optional k d.bytes.now d.table.now))
  unfolding parts_checked fields_checked parts_of read_fields three_fields pick
  by-flags true true = refl
  by-flags true false = refl
  by-flags false true = refl
  by-flags false false = refl

  pub same-fields : (h k : Bool) {r s : Option ChunksRef} → r ≡ then_some h m → s ≡ then_some k d
      → three_fields (three y (optional_of r) (optional_of s)) ≡ three_fields (three y (optional h m.bytes.now m.table.now) (optional k d.bytes.now d.table.now))
  same-fields h k e f = rw (e, f) (by-flags h k)
