use Rattle.sheets.proofs.is_long.Goals as goal

pub returns : goal.returns
returns c = simp (← c.cell_of-own.ensures)
