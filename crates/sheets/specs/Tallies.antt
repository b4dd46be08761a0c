-- What is counted: rows, and their dates by what is said of them. Numbers are of 32 bits, and stay at the largest.
use Rattle.std.specs.Prelude.{◌+◌}
use Rattle.verdicts.specs.declared.Verdict.{Verdict}
use Rattle.verdicts.specs.declared.Verdict.TheVariants.{NoDate, Full, NotStrict, ShortYear, Unread, Refused}
use Rattle.findings.specs.Words.{capped}
use Rattle.sheets.specs.declared.Tally.{Tally}

-- a strict date
unfoldable pub one_strict : Tally → Tally
one_strict t = record { rows = t.rows; strict = capped (t.strict + 1); otherwise = t.otherwise; refused = t.refused; bad = t.bad }

-- one that is read otherwise
unfoldable pub one_otherwise : Tally → Tally
one_otherwise t = record { rows = t.rows; strict = t.strict; otherwise = capped (t.otherwise + 1); refused = t.refused; bad = t.bad }

-- one that is refused
unfoldable pub one_refused : Tally → Tally
one_refused t = record { rows = t.rows; strict = t.strict; otherwise = t.otherwise; refused = capped (t.refused + 1); bad = t.bad }

-- a row
unfoldable pub one_row : Tally → Tally
one_row t = record { rows = capped (t.rows + 1); strict = t.strict; otherwise = t.otherwise; refused = t.refused; bad = t.bad }

-- a bad row
unfoldable pub one_bad : Tally → Tally
one_bad t = record { rows = capped (t.rows + 1); strict = t.strict; otherwise = t.otherwise; refused = t.refused; bad = capped (t.bad + 1) }

-- a date by its verdict
unfoldable pub one_date : Tally → Verdict → Tally
one_date t NoDate = t
one_date t Full = one_strict t
one_date t (NotStrict d) = one_otherwise t
one_date t (ShortYear d) = one_otherwise t
one_date t Unread = one_refused t
one_date t (Refused e) = one_refused t
