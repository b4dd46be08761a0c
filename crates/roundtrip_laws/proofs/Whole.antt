-- A Date of the calendar with years of four digits and no time: its written text, read by the ported reader, is that Date, its kind and its
-- marks included.
-- Assumes nothing.
use mathlib.Core.Path.{◌≡◌}
use mathlib.Core.List.{[], ◌∷◌, ◌++◌, append_assoc}
use lib.ListN.{length}
use Rattle.refusals.specs.declared.FileSpan.{FileSpan}
use Rattle.refusals.specs.declared.TextRefusal.{TextRefusal}
use Rattle.refusals.specs.Offset.{offset_second}
use Rattle.dates.specs.declared.Datetime.{Datetime}
use Rattle.dates.specs.declared.DateValue.{DateValue}
use Rattle.dates.specs.declared.DateValue.TheVariants.{At, After, Before, Between}
use Rattle.std.specs.Prelude.{Ok, Err}
use Rattle.points.specs.Point.{point}
use Rattle.dates.specs.Domain.{EndIn}
use Rattle.points.proofs.Back.{written, point-back}
use Rattle.datefield.specs.Value.{moved, on_half, value}
use Rattle.writer.specs.Texts.{value_text}
use Rattle.roundtrip_laws.specs.Domain.{InDomain}
use Rattle.roundtrip_laws.proofs.Bytes.{ValueText, alone-text, between-text, after_text, before_text}
use Rattle.roundtrip_laws.proofs.Values.{alone-value, between-value, after-value, before-value}
use Rattle.roundtrip_laws.proofs.Texts.{text_is, written-text}

module _ (span : FileSpan) where
  pub value-back : (v : DateValue) → InDomain v → value span (value_text v) ≡ Ok v
  unfolding value_text moved on_half
  value-back (At a) w = rw (text_is a w, alone-value span (written-text a), point-back a w)
  value-back (After a) w = rw (text_is a w, after-value span (written-text a), point-back a w)
  value-back (Before a) w = rw (text_is a w, before-value span (written-text a), point-back a w)
  value-back (Between a b) w =
      rw (text_is a w.0, text_is b w.1, append_assoc (written a) (47 ∷ []) (written b), between-value span (written-text a) (written-text b), point-back a w.0, point-back b w.1)

  -- the second half is refused
  pub second-refused : (a b : Datetime) {e : TextRefusal} → EndIn a → point (written b) ≡ Err e → value span (written a ++ 47 ∷ written b) ≡ Err (offset_second e span.0 (length (written a)))
  unfolding moved on_half
  second-refused a b w r = rw (between-value span (written-text a) (written-text b), point-back a w, r)

-- what is known of such a text
pub known : (v : DateValue) → InDomain v → ValueText (value_text v)
unfolding value_text
known (At a) e = rw (text_is a e) (alone-text (written-text a))
known (After a) e = rw (text_is a e) (after_text (written-text a))
known (Before a) e = rw (text_is a e) (before_text (written-text a))
known (Between a b) e =
    rw (text_is a e.0, text_is b e.1, append_assoc (written a) (47 ∷ []) (written b)) (between-text (written-text a) (written-text b))
