use Prim.Native.Nat.{◌%◌}
use Rattle.codes.specs.Back.{point_text}
use Rattle.codes.proofs.Writing.{plain-first, plain_second, shaped-at, shaped-after, shaped-before, shaped-between, point-fits}
use Rattle.puts.proofs.Puts.{as-text, both, room, first_fits, front-as}
use Rattle.chars.specs.Ascii.{ascii}
use mathlib.Core.List.{◌++◌}
use borrow.Author.Rules.{rules}
use Rattle.codes.proofs.put_shaped.Goals as goal

pub put_three-k-requires : goal.put_three-k-requires
put_three-k-requires c =
    first_fits (ascii "../") (point_text c.args.first) c.args.out.now 0 (front-as c.args.out.now (shaped-before (c.args.last % 256) c.args.first c.args.second c.if-shape-eq2.true) c.requires.1)

pub put_point-requires : goal.put_point-requires
put_point-requires c =
    (plain-first c.args.first c.args.second c.args.last c.requires.0, room c.put_three-k.ensures (point_text c.args.first) (front-as c.args.out.now (shaped-before (c.args.last % 256) c.args.first c.args.second c.if-shape-eq2.true) c.requires.1))

pub returns-then-shape-eq2 : goal.returns-then-shape-eq2
returns-then-shape-eq2 c =
    as-text (shaped-before (c.args.last % 256) c.args.first c.args.second c.if-shape-eq2.true) (both c.put_three-k.ensures c.put_point.ensures)

pub put_point-k-requires : goal.put_point-k-requires
put_point-k-requires c =
    (plain-first c.args.first c.args.second c.args.last c.requires.0, point-fits (c.args.last % 256) c.args.first c.args.second c.if-shape-eq2.false c.args.out.now c.requires.1)

pub returns-then-shape-eq0 : goal.returns-then-shape-eq0
returns-then-shape-eq0 c =
    as-text (shaped-at (c.args.last % 256) c.args.first c.args.second c.if-shape-eq0.true) c.put_point-k.ensures

pub put_three-requires : goal.put_three-requires
put_three-requires c =
    room c.put_point-k.ensures (ascii "/..") (front-as c.args.out.now (shaped-after (c.args.last % 256) c.args.first c.args.second c.if-shape-eq1.true) c.requires.1)

pub returns-then-shape-eq1 : goal.returns-then-shape-eq1
returns-then-shape-eq1 c =
    as-text (shaped-after (c.args.last % 256) c.args.first c.args.second c.if-shape-eq1.true) (both c.put_point-k.ensures c.put_three.ensures)

pub put_byte-j-requires : goal.put_byte-j-requires
put_byte-j-requires c =
    room c.put_point-k.ensures (ascii "/") (first_fits (point_text c.args.first ++ ascii "/") (point_text c.args.second) c.args.out.now 0 (front-as c.args.out.now (shaped-between (c.args.last % 256) c.args.first c.args.second c.if-shape-eq2.false c.if-shape-eq0.false c.if-shape-eq1.false) c.requires.1))

pub put_point-requires-2 : goal.put_point-requires-2
put_point-requires-2 c =
    (plain_second c.args.first c.args.second c.args.last c.requires.0 c.if-shape-eq2.false c.if-shape-eq0.false c.if-shape-eq1.false, room (both c.put_point-k.ensures c.put_byte-j.ensures) (point_text c.args.second) (front-as c.args.out.now (shaped-between (c.args.last % 256) c.args.first c.args.second c.if-shape-eq2.false c.if-shape-eq0.false c.if-shape-eq1.false) c.requires.1))

pub returns : goal.returns
returns c =
    as-text (shaped-between (c.args.last % 256) c.args.first c.args.second c.if-shape-eq2.false c.if-shape-eq0.false c.if-shape-eq1.false) (both (both c.put_point-k.ensures c.put_byte-j.ensures) c.put_point-2.ensures)
