use mathlib.Core.Path.{refl, ◌∙◌}
use Rattle.reader.proofs.Flags.{same-fields}
use Rattle.sixfields.proofs.Flags.{same-six}
use Rattle.verdicts.specs.Fields.{is_given, six_read}
use borrow.Author.Rules.{rules}
use Rattle.verdicts.proofs.read_six.Goals as goal

pub returns : goal.returns
unfolding six_read
returns c =
    let a = c.args in
    let s = same-fields _ _ _ (is_given a.month.now) (is_given a.day.now) c.list_if.ensures c.list_if-2.ensures in
    let e = same-fields _ _ _ (is_given a.end_month.now) (is_given a.end_day.now) c.list_if-3.ensures c.list_if-4.ensures in
    rw (c.table_of-y.ensures, c.table_of-m.ensures, c.table_of-d.ensures, c.table_of-ey.ensures, c.table_of-em.ensures, c.table_of-ed.ensures)
    at (c.parse_six_fields.ensures ∙ same-six _ _ _ _ s refl e (is_given a.end_year.now) c.then_some.ensures)
