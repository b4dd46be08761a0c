use Rattle.dates.specs.Value.{has_season, any_season}
use Rattle.writer.specs.Texts.{end_panics, value_panics}
use Rattle.chars.specs.Ascii.{ascii}
use mathlib.Core.List.{◌++◌}
use mathlib.Core.Path.{sym, ap, ◌∙◌}
use Rattle.writer.proofs.Pieces.{first-false, second-false}
use Rattle.puts.proofs.Puts.{room, front-as, first_fits, as-text, both}
use Rattle.timed.specs.Texts.{end_text, value_text}
use borrow.Author.Rules.{rules}
use Rattle.timed.proofs.put_timed_value.Goals as goal

pub enum_known-v : goal.enum_known-v
enum_known-v c = c.in-At.in-At-own.keys1

pub put_end-requires : goal.put_end-requires
unfolding value_text value_panics
put_end-requires c =
    (sym (ap any_season c.in-At.is) ∙ c.requires.0, (sym (ap value_panics c.in-At.is) ∙ c.requires.1), (front-as c.args.out.now (ap value_text c.in-At.is) c.requires.2))

pub enum_known-v-in-After-1 : goal.enum_known-v-in-After-1
enum_known-v-in-After-1 c = c.in-After.in-After-own.keys2

pub put_end-k-requires : goal.put_end-k-requires
unfolding value_text value_panics
put_end-k-requires c =
    (sym (ap any_season c.in-After.is) ∙ c.requires.0, (sym (ap value_panics c.in-After.is) ∙ c.requires.1), first_fits (end_text c.in-After.d) (ascii "/..") c.args.out.now 0 (front-as c.args.out.now (ap value_text c.in-After.is) c.requires.2))

pub enum_known-v-in-Before-1 : goal.enum_known-v-in-Before-1
enum_known-v-in-Before-1 c = c.in-Before.in-Before-own.keys3

pub put_end-requires-in-Before : goal.put_end-requires-in-Before
unfolding value_text value_panics
put_end-requires-in-Before c =
    let d = end_text c.in-Before.d in
    let h = front-as c.args.out.now (ap value_text c.in-Before.is) c.requires.2 in
    (sym (ap any_season c.in-Before.is) ∙ c.requires.0, (sym (ap value_panics c.in-Before.is) ∙ c.requires.1), room (c.put_bytes-k.ensures.put (first_fits (ascii "../") d c.args.out.now 0 h)) d h)

pub enum_known-v-in-Between-1 : goal.enum_known-v-in-Between-1
enum_known-v-in-Between-1 c = c.in-Between.in-Between-own.keys4

pub put_end-j-requires : goal.put_end-j-requires
unfolding value_text value_panics
put_end-j-requires c =
    (first-false (has_season c.in-Between.a) (has_season c.in-Between.b) (sym (ap any_season c.in-Between.is) ∙ c.requires.0), first-false (end_panics c.in-Between.a) (end_panics c.in-Between.b) (sym (ap value_panics c.in-Between.is) ∙ c.requires.1), first_fits (end_text c.in-Between.a) (ascii "/") c.args.out.now 0 (first_fits ((end_text c.in-Between.a) ++ (ascii "/")) (end_text c.in-Between.b) c.args.out.now 0 (front-as c.args.out.now (ap value_text c.in-Between.is) c.requires.2)))

pub put_byte-k-requires : goal.put_byte-k-requires
unfolding value_text
put_byte-k-requires c =
    room c.put_end-j.ensures (ascii "/") (first_fits ((end_text c.in-Between.a) ++ (ascii "/")) (end_text c.in-Between.b) c.args.out.now 0 (front-as c.args.out.now (ap value_text c.in-Between.is) c.requires.2))

pub put_end-requires-in-Between : goal.put_end-requires-in-Between
unfolding value_text value_panics
put_end-requires-in-Between c =
    (second-false (has_season c.in-Between.a) (has_season c.in-Between.b) (sym (ap any_season c.in-Between.is) ∙ c.requires.0), second-false (end_panics c.in-Between.a) (end_panics c.in-Between.b) (sym (ap value_panics c.in-Between.is) ∙ c.requires.1), room (both c.put_end-j.ensures c.put_byte-k.ensures) (end_text c.in-Between.b) (front-as c.args.out.now (ap value_text c.in-Between.is) c.requires.2))

pub returns-in-At : goal.returns-in-At
unfolding value_text
returns-in-At c =
    as-text (ap value_text c.in-At.is) c.put_end.ensures

pub returns-in-After : goal.returns-in-After
unfolding value_text
returns-in-After c =
    let e = ap value_text c.in-After.is in
    let p = c.put_end-k.ensures in
    as-text e (both p (c.put_bytes.ensures.put (room p (ascii "/..") (front-as c.args.out.now e c.requires.2))))

pub returns-in-Before : goal.returns-in-Before
unfolding value_text
returns-in-Before c =
    let e = ap value_text c.in-Before.is in
    let h = first_fits (ascii "../") (end_text c.in-Before.d) c.args.out.now 0 (front-as c.args.out.now e c.requires.2) in
    as-text e (both (c.put_bytes-k.ensures.put h) c.put_end-in-Before.ensures)

pub returns-in-Between : goal.returns-in-Between
unfolding value_text
returns-in-Between c =
    as-text (ap value_text c.in-Between.is) (both (both c.put_end-j.ensures c.put_byte-k.ensures) c.put_end-in-Between.ensures)
