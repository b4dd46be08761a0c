-- What the calls on a chronology answer, as plain structs.
use Rattle.refusals.specs.Refusal.{number}
use Rattle.refusals.specs.declared.Refusal.{Refusal}
use Rattle.std.specs.Prelude.{Result, Ok, Err, Bool, ℕ}
use Rattle.knobstream.specs.declared.entries.PlainEntries.{PlainEntries}
use Rattle.knobstream.specs.declared.entries.PlainReply.{PlainReply}
use Rattle.codes.specs.Words.{flag}

-- what a call answers: how many entries with refusal 0, or 0 with the refusal's number
abbrev pub counted : Result ℕ Refusal → PlainEntries
counted (Ok n) = record { entries = n; refusal = 0 }
counted (Err e) = record { entries = 0; refusal = number e.kind }

-- what the question is answered: whether there is such an entry and how many were read, or zeros with the refusal's number
abbrev pub told : Result (Bool × ℕ) Refusal → PlainReply
told (Ok (found, read)) = record { read = read; found = flag found; refusal = 0 }
told (Err e) = record { read = 0; found = 0; refusal = number e.kind }
