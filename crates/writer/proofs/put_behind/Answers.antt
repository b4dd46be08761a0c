use Rattle.writer.proofs.Pieces.{season-behind, parts-behind}
use Rattle.puts.proofs.Puts.{as-text, fits-as}
use borrow.Author.Rules.{rules}
use Rattle.writer.proofs.put_behind.Goals as goal

pub put_hyphen_part-requires : goal.put_hyphen_part-requires
put_hyphen_part-requires c =
    fits-as c.args.out.now c.args.at (season-behind c.args.d c.has_season.ensures c.if-has_season.true c.season_number.ensures) c.requires

pub returns-then-has_season : goal.returns-then-has_season
returns-then-has_season c =
    as-text (season-behind c.args.d c.has_season.ensures c.if-has_season.true c.season_number.ensures) c.put_hyphen_part.ensures

pub put_parts-requires : goal.put_parts-requires
put_parts-requires c =
    fits-as c.args.out.now c.args.at (parts-behind c.args.d c.has_season.ensures c.if-has_season.false c.parts_of-p.ensures) c.requires

pub returns : goal.returns
returns c =
    as-text (parts-behind c.args.d c.has_season.ensures c.if-has_season.false c.parts_of-p.ensures) c.put_parts.ensures
