-- What reading page ranges answers, as words.
use Rattle.std.specs.Prelude.{ℕ, List, [], ◌∷◌, Result, Ok, Err}
use Rattle.refusals.specs.Refusal.{number}
use Rattle.refusals.specs.declared.Refusal.{Refusal}

-- four words: how many ranges, where the place starts and ends, and the refusal's number; what is not there is 0
abbrev pub page_words : Result ℕ Refusal → List ℕ
page_words (Ok n) = n ∷ 0 ∷ 0 ∷ 0 ∷ []
page_words (Err e) = 0 ∷ e.place.0 ∷ e.place.1 ∷ number e.kind ∷ []
