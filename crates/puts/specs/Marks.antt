-- The marks behind a date.
use Rattle.std.specs.Prelude.{Bool, true, false, List, [], ℕ}
use Rattle.chars.specs.Ascii.{ascii}

-- the mark, by whether the date is uncertain and whether it is approximate
unfoldable pub mark_text : Bool → Bool → List ℕ
mark_text true true = ascii "%"
mark_text false true = ascii "~"
mark_text true false = ascii "?"
mark_text false false = []
