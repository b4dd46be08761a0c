use Rattle.codes.specs.Ported.{is_word_byte}
use mathlib.Core.Path.{refl}
use Rattle.codes.proofs.is_word_byte.Goals as goal

pub returns : goal.returns
unfolding is_word_byte
returns c = refl
