-- What theorems say of answers: that digits stand for bytes, and which line an answer had before there were seasons.
use Rattle.std.specs.Prelude.{ℕ, ◌<◌, false, List, [], ◌∷◌, Result, Ok, Err}
use Rattle.chars.specs.Pick.{pick}
use Rattle.refusals.specs.declared.Kind.TheVariants.{RustPanics}
use Rattle.refusals.specs.Refusal.{nowhere}
use Rattle.dates.specs.declared.Date.{Date}
use Rattle.refusals.specs.declared.Refusal.{Refusal}
use Rattle.writer.specs.Texts.{date_text, panics}
use Rattle.answers.specs.Answer.{refused_line, accepted_line}

-- each number is a byte
abbrev pub AllBytes : List ℕ → Type 0
AllBytes [] = Unit {0}
AllBytes (b ∷ l) = (b < 256) × AllBytes l

-- the line of an answer before there were seasons
abbrev pub former_line : Result Date Refusal → List ℕ
former_line (Ok d) = pick (panics d) (refused_line (nowhere RustPanics)) (accepted_line false d (date_text d))
former_line (Err e) = refused_line e
