use Rattle.writer.specs.Level.{behind_text}
use Rattle.writer.specs.Texts.{hyphen_part}
use Rattle.writer.proofs.Pieces.{hyphen-length, season-behind, parts-behind}
use lib.ListN.{length}
use native.Mathlib.Omega.{arith}
use mathlib.Core.Path.{◌≡◌, sym, ap, ◌∙◌}
use borrow.Author.Rules.{rules}
use Rattle.writer.proofs.behind_length.Goals as goal

pub returns-then-has_season : goal.returns-then-has_season
returns-then-has_season c =
    let n = c.season_number.result in
    let e : length (behind_text c.args.d) ≡ length (hyphen_part n) = ap length (season-behind c.args.d c.has_season.ensures c.if-has_season.true c.season_number.ensures) in
    (omega (arith, e, hyphen-length n, c.part_length.ensures.0), omega arith)

pub returns : goal.returns
returns c =
    (c.parts_length.ensures.0 ∙ sym (ap length (parts-behind c.args.d c.has_season.ensures c.if-has_season.false c.parts_of-p.ensures)), c.parts_length.ensures.1)
