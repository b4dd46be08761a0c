-- Which chunk lists are answered at once by the ported reader, if the spaces at the end of a single chunk are passed over. That this is what that
-- reader says is proved in `code_laws`.
use Rattle.std.specs.Prelude.{ℕ, ◌&&◌, List, leb, length, Result, Option, None}
use Rattle.chars.specs.Pick.{pick}
use Rattle.dates.specs.declared.Date.{Date}
use Rattle.refusals.specs.declared.Refusal.{Refusal}
use Rattle.codes.specs.Texts.{written, unspaced}
use Rattle.codes.specs.Lists.{one_normal, list_written}

-- what the ported reader says of one Normal chunk within the limit, without the spaces at its end
unfoldable pub list_spaced : List ℕ → List ℕ → Option (Result Date Refusal)
list_spaced b table = pick (one_normal b table && leb (length b) 4096) (written (unspaced b)) None

-- what it says of either list, that of several chunks as it stands
unfoldable pub list_usual : List ℕ → List ℕ → Option (Result Date Refusal)
list_usual b table = pick (one_normal b table) (list_spaced b table) (list_written b table)
