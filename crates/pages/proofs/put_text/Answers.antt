use Rattle.pages.proofs.Written.{first-room, hyphen-room, second-room, joined}
use borrow.Author.Rules.{rules}
use Rattle.pages.proofs.put_text.Goals as goal

pub put_hyphen-m-requires : goal.put_hyphen-m-requires
put_hyphen-m-requires c =
    let a = c.args in
    let first = c.put_digits-k.ensures.put (first-room a.start a.end c.requires.0 c.requires.1 a.out.now c.requires.2) in
    hyphen-room a.start a.end c.requires.0 c.requires.1 a.out.now c.requires.2 first

pub returns : goal.returns
returns c =
    let a = c.args in
    let first = c.put_digits-k.ensures.put (first-room a.start a.end c.requires.0 c.requires.1 a.out.now c.requires.2) in
    let hyphen = c.put_hyphen-m.ensures in
    let room = second-room a.start a.end c.requires.0 c.requires.1 a.out.now c.requires.2 first hyphen in
    joined a.start a.end c.requires.0 c.requires.1 a.out.now first hyphen (c.put_digits.ensures.put room)
