use Rattle.frames.specs.Room.{read_by}
use borrow.Author.Rules.{rules}
use Rattle.frames.proofs.read_by.Goals as goal

pub returns-in-Ported : goal.returns-in-Ported
unfolding read_by
returns-in-Ported c = rw c.in-Ported.is (record { value = c.parse_words.ensures.value; typed = c.parse_words.ensures.typed })

pub returns-in-Strict : goal.returns-in-Strict
unfolding read_by
returns-in-Strict c = rw c.in-Strict.is (record { value = c.parse_strict_words.ensures.value; typed = c.parse_strict_words.ensures.typed })

pub returns-in-LevelOne : goal.returns-in-LevelOne
unfolding read_by
returns-in-LevelOne c = rw c.in-LevelOne.is (record { value = c.level_words.ensures.value; typed = c.level_words.ensures.typed })

pub returns-in-ThreeFields : goal.returns-in-ThreeFields
unfolding read_by
returns-in-ThreeFields c = rw c.in-ThreeFields.is (record { value = c.bad_frame.ensures.value; typed = c.bad_frame.ensures.typed })

pub returns-in-Unknown : goal.returns-in-Unknown
unfolding read_by
returns-in-Unknown c = rw c.in-Unknown.is (record { value = c.bad_frame-in-Unknown.ensures.value; typed = c.bad_frame-in-Unknown.ensures.typed })
