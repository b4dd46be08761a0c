use Rattle.sheets.proofs.bad_row.Goals as goal

pub returns : goal.returns
returns c = record { text = c.put_bad-put.ensures; tally = c.one_bad.ensures }
