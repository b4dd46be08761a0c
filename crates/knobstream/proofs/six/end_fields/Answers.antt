use mathlib.Core.Path.{refl, sym, ◌∙◌}
use mathlib.Core.Bool.{true}
use Rattle.std.specs.Prelude.{Some}
use Rattle.sixfields.proofs.Flags.{same-six, six-alone}
use Rattle.knobstream.proofs.six.end_fields.Goals as goal

pub returns-then-is_set : goal.returns-then-is_set
returns-then-is_set c s s' p =
    let f = c.fields_of in
    rw (sym c.is_set.ensures ∙ c.if-is_set.true) (same-six f.result s s' _ p f.ensures.year_list f.ensures.lists true {r = Some f.result} refl)

pub returns : goal.returns
returns c s s' p = rw (sym c.is_set.ensures ∙ c.if-is_set.false) (six-alone s s' _ p)
