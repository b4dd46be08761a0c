use Rattle.frames.specs.Room.{by_level}
use borrow.Author.Rules.{rules}
use Rattle.frames.proofs.by_level.Goals as goal

pub returns-in-Ported : goal.returns-in-Ported
unfolding by_level
returns-in-Ported c = simp c.in-Ported.is

pub returns-in-Strict : goal.returns-in-Strict
unfolding by_level
returns-in-Strict c = simp c.in-Strict.is

pub returns-in-LevelOne : goal.returns-in-LevelOne
unfolding by_level
returns-in-LevelOne c = simp c.in-LevelOne.is

pub returns-in-ThreeFields : goal.returns-in-ThreeFields
unfolding by_level
returns-in-ThreeFields c = simp c.in-ThreeFields.is

pub returns-in-Unknown : goal.returns-in-Unknown
unfolding by_level
returns-in-Unknown c = simp c.in-Unknown.is
