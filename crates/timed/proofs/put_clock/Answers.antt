use Prim.Native.Char.{code}
use mathlib.Core.List.{◌++◌}
use Rattle.puts.proofs.Puts.{room, both, first_fits}
use Rattle.timed.specs.Texts.{field, zone_text, clock_text}
use borrow.Author.Rules.{rules}
use Rattle.timed.proofs.put_clock.Goals as goal

pub put_field-i-requires : goal.put_field-i-requires
unfolding clock_text field
put_field-i-requires c =
    first_fits (field (code "T") c.args.t.hour) (field (code ":") c.args.t.minute) c.args.out.now c.args.at (first_fits ((field (code "T") c.args.t.hour) ++ (field (code ":") c.args.t.minute)) (field (code ":") c.args.t.second) c.args.out.now c.args.at (first_fits ((field (code "T") c.args.t.hour) ++ (field (code ":") c.args.t.minute) ++ (field (code ":") c.args.t.second)) (zone_text c.args.t.offset) c.args.out.now c.args.at c.requires))

pub put_field-j-requires : goal.put_field-j-requires
unfolding clock_text field
put_field-j-requires c =
    room c.put_field-i.ensures (field (code ":") c.args.t.minute) (first_fits ((field (code "T") c.args.t.hour) ++ (field (code ":") c.args.t.minute)) (field (code ":") c.args.t.second) c.args.out.now c.args.at (first_fits ((field (code "T") c.args.t.hour) ++ (field (code ":") c.args.t.minute) ++ (field (code ":") c.args.t.second)) (zone_text c.args.t.offset) c.args.out.now c.args.at c.requires))

pub put_field-k-requires : goal.put_field-k-requires
unfolding clock_text field
put_field-k-requires c =
    room (both c.put_field-i.ensures c.put_field-j.ensures) (field (code ":") c.args.t.second) (first_fits ((field (code "T") c.args.t.hour) ++ (field (code ":") c.args.t.minute) ++ (field (code ":") c.args.t.second)) (zone_text c.args.t.offset) c.args.out.now c.args.at c.requires)

pub put_zone-requires : goal.put_zone-requires
unfolding clock_text field
put_zone-requires c =
    room (both (both c.put_field-i.ensures c.put_field-j.ensures) c.put_field-k.ensures) (zone_text c.args.t.offset) c.requires

pub returns : goal.returns
unfolding clock_text
returns c =
    both (both (both c.put_field-i.ensures c.put_field-j.ensures) c.put_field-k.ensures) c.put_zone.ensures
