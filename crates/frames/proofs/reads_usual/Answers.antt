use Rattle.frames.specs.Room.{reads_usual}
use borrow.Author.Rules.{rules}
use Rattle.frames.proofs.reads_usual.Goals as goal

pub returns-in-Ported : goal.returns-in-Ported
unfolding reads_usual
returns-in-Ported c = simp c.in-Ported.is

pub returns-in-Strict : goal.returns-in-Strict
unfolding reads_usual
returns-in-Strict c = simp c.in-Strict.is

pub returns-in-LevelOne : goal.returns-in-LevelOne
unfolding reads_usual
returns-in-LevelOne c = simp c.in-LevelOne.is

pub returns-in-ThreeFields : goal.returns-in-ThreeFields
unfolding reads_usual
returns-in-ThreeFields c = simp c.in-ThreeFields.is

pub returns-in-Unknown : goal.returns-in-Unknown
unfolding reads_usual
returns-in-Unknown c = simp c.in-Unknown.is
