use Rattle.chars.specs.Utf8.{encode}
use Rattle.chunks.proofs.Fill.{fill_end, Filling, fill_start, fill-put}
use Rattle.chunks.proofs.Cased.{two_out, one_out, two-below, one_below}
use mathlib.Core.List.{List, [], ◌++◌, append-nil}
use lib.ListN.{length, length-append}
use Prim.Native.Nat.{ℕ}
use native.Mathlib.Omega.{arith}
use mathlib.Core.Path.{sym, ap, ◌∙◌}
use borrow.Author.Rules.{rules}
use Rattle.chunks.proofs.put_upper.Goals as goal

pub enum_known-a : goal.enum_known-a
enum_known-a c = c.in-One.in-One-own.keys1

pub put_char-requires : goal.put_char-requires
put_char-requires c =
    let e = sym c.to_uppercase.ensures ∙ c.in-One.is in
    let a = c.args in
    (one_below a.code c.requires.0 e, omega (arith, ap length (one_out a.code e), c.requires.1))

pub enum_known-a-in-Two-1 : goal.enum_known-a-in-Two-1
enum_known-a-in-Two-1 c = c.in-Two.in-Two-own.keys2

pub put_char-m-requires : goal.put_char-m-requires
put_char-m-requires c =
    let a = c.args in
    let e = sym c.to_uppercase.ensures ∙ c.in-Two.is in
    ((two-below a.code c.requires.0 e).0, omega (arith, ap length (two_out a.code e), length-append (encode c.in-Two.a) (encode c.in-Two.b), c.requires.1))

pub put_char-requires-in-Two : goal.put_char-requires-in-Two
put_char-requires-in-Two c =
    let a = c.args in
    let e = sym c.to_uppercase.ensures ∙ c.in-Two.is in
    ((two-below a.code c.requires.0 e).1, omega (arith, ap length (two_out a.code e), length-append (encode c.in-Two.a) (encode c.in-Two.b), c.requires.1, c.put_char-m.ensures.0, c.put_char-m.auto.buf))

pub returns-in-One : goal.returns-in-One
returns-in-One c =
    let e = sym c.to_uppercase.ensures ∙ c.in-One.is in
    rw (one_out c.args.code e) c.put_char.ensures

pub returns-in-Two : goal.returns-in-Two
returns-in-Two c =
    let a = c.args in
    let x : ℕ = c.in-Two.a in
    let y : ℕ = c.in-Two.b in
    let e = sym c.to_uppercase.ensures ∙ c.in-Two.is in
    let e2 = c.put_char-m.ensures in
    let e3 = c.put_char-in-Two.ensures in
    let all : List ℕ = encode x ++ encode y in
    let f1 : Filling a.buf.now a.n all _ _ (encode y) = fill-put (encode x) (fill_start a.buf.now a.n all) e2.0 e2.1 in
    let f2 : Filling a.buf.now a.n all _ _ [] = fill-put (encode y) (rw (append-nil (encode y)) f1) e3.0 e3.1 in
    rw (two_out a.code e) (fill_end f2, f2.same)
