use Rattle.findings.proofs.Runs.{ran-as}
use Rattle.findings.specs.Lines.{column_name}
use Rattle.findings.proofs.put_column.Goals as goal

pub returns-in-Date : goal.returns-in-Date
unfolding column_name
returns-in-Date c =
    ran-as c.put_piece.ensures (simp c.in-Date.is)

pub returns-in-Origdate : goal.returns-in-Origdate
unfolding column_name
returns-in-Origdate c =
    ran-as c.put_piece-in-Origdate.ensures (simp c.in-Origdate.is)

pub returns-in-Eventdate : goal.returns-in-Eventdate
unfolding column_name
returns-in-Eventdate c =
    ran-as c.put_piece-in-Eventdate.ensures (simp c.in-Eventdate.is)

pub returns-in-Urldate : goal.returns-in-Urldate
unfolding column_name
returns-in-Urldate c =
    ran-as c.put_piece-in-Urldate.ensures (simp c.in-Urldate.is)
