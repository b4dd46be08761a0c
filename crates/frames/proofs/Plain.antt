-- Plain words: the line that they are answered with. Assumes nothing.
use mathlib.Core.Path.{◌≡◌, refl, sym, ap, subst, ◌∙◌}
use mathlib.Core.Bool.{Bool, true, false}
use Prim.Native.Nat.{ℕ, ◌≤◌, ◌<◌}
use lib.Dec.{ltb}
use borrow.Author.Tests.{lt-ltb, le-ltb, ltb-true}
use Rattle.chars.specs.Pick.{pick}
use Rattle.chars.proofs.Cases.{and-true}
use Rattle.dates.specs.declared.DateValue.{DateValue}
use Rattle.dates.specs.declared.DateValue.TheVariants.{At, After, Before, Between}
use Rattle.dates.specs.declared.Date.{Date}
use Rattle.dates.specs.Ends.{EachEnd}
use Rattle.dates.specs.Value.{any_season}
use Rattle.refusals.specs.declared.Refusal.{Refusal}
use Rattle.std.specs.Prelude.{Result, Ok}
use Rattle.codes.specs.declared.Words.{Words}
use Rattle.codes.specs.Words.{flag, value_words, words_of}
use Rattle.codes.specs.Typed.{DatetimeTyped, Typed}
use Rattle.codes.specs.Back.{words_text, is_plain}
use Rattle.codes.proofs.Laws.{last-accepted}
use Rattle.code_laws.proofs.Back.{no-season, date-said}
use Rattle.answers.specs.Answer.{accepted_line, answer_line}
use Rattle.answers.specs.Coded.{words_line}
use Rattle.answers.proofs.Lines.{former-line}
use Rattle.answers.proofs.Coded.{accepted-coded}
use Rattle.frames.specs.declared.Operation.{Operation}
use Rattle.frames.specs.Frame.{line_by}
use Rattle.frames.specs.Room.{by_level, says_plain}
use Rattle.frames.proofs.Said.{other-line}

no-seasons : (v : DateValue) (u p : ℕ) → EachEnd DatetimeTyped v → (value_words v u p).first_time < 72057594037927936
    → (value_words v u p).second_time < 72057594037927936 → any_season v ≡ false
no-seasons (At d) u p t h k = no-season d t h
no-seasons (After d) u p t h k = no-season d t h
no-seasons (Before d) u p t h k = no-season d t h
no-seasons (Between c d) u p t h k = rw (no-season c t.0 h, no-season d t.1 k) refl

-- what the words are
pub record Plainly (w : Words) : Type 0 where
  pub first_season : w.first_time < 72057594037927936
  pub second_season : w.second_time < 72057594037927936
  pub plain : is_plain w.first w.second w.last ≡ true

pub plainly : (w : Words) → says_plain w ≡ true → Plainly w
unfolding says_plain
plainly w e =
    let p = and-true (ltb w.first_time 72057594037927936) _ e in
    let q = and-true (ltb w.second_time 72057594037927936) _ p.1 in
    record { first_season = ltb-true _ 72057594037927936 p.0; second_season = ltb-true _ 72057594037927936 q.0; plain = q.1 }

-- whether they are
module _ (w : Words) where
  pub plain-is : w.first_time < 72057594037927936 → w.second_time < 72057594037927936 → {r : Bool} → r ≡ is_plain w.first w.second w.last → r ≡ says_plain w
  unfolding says_plain
  plain-is h k e = rw (lt-ltb w.first_time 72057594037927936 h, lt-ltb w.second_time 72057594037927936 k) e

  pub first_season : 72057594037927936 ≤ w.first_time → false ≡ says_plain w
  unfolding says_plain
  first_season h = rw (le-ltb w.first_time 72057594037927936 h)

  pub second_season : w.first_time < 72057594037927936 → 72057594037927936 ≤ w.second_time → false ≡ says_plain w
  unfolding says_plain
  second_season h k = rw (lt-ltb w.first_time 72057594037927936 h, le-ltb w.second_time 72057594037927936 k)

date-line : (d : Date) → Typed (Ok d) → Plainly (words_of (Ok d))
    → accepted_line false d (words_text (words_of (Ok d)).first (words_of (Ok d)).second (words_of (Ok d)).last) ≡ answer_line (Ok d)
unfolding pick
date-line d t h =
    let s = date-said d t h.plain in
    let n = no-seasons d.value (flag d.uncertain) (flag d.approximate) t h.first_season h.second_season in
    ap (accepted_line false d) s.text ∙ sym (former-line d n ∙ rw s.written)

-- plain words are answered with their text
pub plain-line : (op : Operation) (w : Words) → by_level op ≡ false → says_plain w ≡ true → w.last < 4294967296 → (x : Result Date Refusal) → w ≡ words_of x → Typed x
    → words_line w (words_text w.first w.second w.last) ≡ line_by op x
plain-line op w o p h x e t =
    let a = last-accepted x (rw e at h) in
    let d = a.0 in
    let f : w ≡ words_of (Ok d) = e ∙ ap words_of a.1 in
    let u = subst Typed a.1 t in
    accepted-coded d (words_text w.first w.second w.last) f u
    ∙ ap (λ (v : Words). accepted_line false d (words_text v.first v.second v.last)) f
    ∙ date-line d u (subst Plainly f (plainly w p))
    ∙ ap answer_line (sym a.1)
    ∙ other-line op o x
