use mathlib.Core.Path.{◌∙◌}
use Rattle.sheets.proofs.Goings.{told-both}
use Rattle.sheets.proofs.OneDate.{own-told}
use Rattle.sheets.specs.Rows.{dates_counted, dates_said}
use native.Mathlib.Omega.{arith}
use Rattle.findings.specs.declared.Column.TheVariants.{Date, Eventdate, Origdate, Urldate}
use Rattle.sheets.proofs.dates.Goals as goal

pub date_own-d1-requires : goal.date_own-d1-requires
date_own-d1-requires c = (omega arith, rw c.cell_of.ensures c.requires.1.date)

pub date_own-d2-requires : goal.date_own-d2-requires
date_own-d2-requires c = (c.date_own-d1.ensures.text.within, rw c.cell_of-2.ensures c.requires.1.origdate)

pub date_own-d3-requires : goal.date_own-d3-requires
date_own-d3-requires c = (c.date_own-d2.ensures.text.within, rw c.cell_of-3.ensures c.requires.1.eventdate)

pub date_own-requires : goal.date_own-requires
date_own-requires c = (c.date_own-d3.ensures.text.within, rw c.cell_of-4.ensures c.requires.1.urldate)

pub shape_of-out : goal.shape_of-out
shape_of-out c =
    c.date_own.ensures.text.same
    ∙ c.date_own-d3.ensures.text.same
    ∙ c.date_own-d2.ensures.text.same
    ∙ c.date_own-d1.ensures.text.same

pub returns : goal.returns
unfolding dates_said dates_counted
returns c =
    let a = c.args in
    let l = a.line in
    let k = a.key.now in
    told-both
    (told-both
    (told-both (own-told l k Date c.cell_of.ensures c.date_own-d1.ensures) (own-told l k Origdate c.cell_of-2.ensures c.date_own-d2.ensures))
    (own-told l k Eventdate c.cell_of-3.ensures c.date_own-d3.ensures))
    (own-told l k Urldate c.cell_of-4.ensures c.date_own.ensures)
