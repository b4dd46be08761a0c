use mathlib.Core.Path.{◌≡◌}
use mathlib.Core.Bool.{◌&&◌}
use lib.ListN.{drop}
use Rattle.codes.specs.Ported.{are_word_bytes}
use Rattle.codes.proofs.all_words.Given as goal

abbrev pub invariant-loop-b : goal.invariant-loop-b
invariant-loop-b l = (l.ok && are_word_bytes (drop l.b-index l.t)) ≡ are_word_bytes l.t
