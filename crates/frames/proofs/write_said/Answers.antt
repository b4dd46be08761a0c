use mathlib.Core.Path.{◌≡◌, sym, ap, ◌∙◌}
use mathlib.Core.Bool.{false}
use mathlib.Core.List.{List}
use Prim.Native.Nat.{ℕ}
use lib.ListN.{length}
use Rattle.dates.specs.declared.Date.{Date}
use Rattle.refusals.specs.declared.Refusal.{Refusal}
use Rattle.std.specs.Prelude.{Result}
use Rattle.puts.specs.Answers.{answer, afterwards}
use Rattle.codes.specs.Words.{words_of}
use Rattle.codes.specs.Typed.{Typed}
use Rattle.codes.specs.Back.{words_text}
use Rattle.codes.specs.Unpacked.{read_in}
use Rattle.codes.proofs.Unpacking.{read_back}
use Rattle.answers.specs.Answer.{answer_line, level_line}
use Rattle.answers.specs.Coded.{words_line, refused_words}
use Rattle.frames.specs.Frame.{line_by}
use Rattle.frames.proofs.Said.{refusal-line, level-line, other-line}
use Rattle.frames.proofs.Plain.{plainly, plain-line}
use borrow.Author.Rules.{rules}
use Rattle.frames.proofs.write_said.Goals as goal

pub returns-then-w-ge4294967296 : goal.returns-then-w-ge4294967296
returns-then-w-ge4294967296 c =
    let a = c.args in
    let l : (x : Result Date Refusal) → a.w ≡ words_of x → Typed x → refused_words a.w ≡ line_by a.op x =
    λ x e t. refusal-line a.op c.if-w-ge4294967296.true x e in
    record { value = λ x e t. c.write_refused_words.ensures.value ∙ ap (λ (s : List ℕ). answer false s (length a.out.now)) (l x e t); out_after = λ x e t. c.write_refused_words.ensures.out_after ∙ ap (λ (s : List ℕ). afterwards false s a.out.now) (l x e t) }

pub returns-then-by_level : goal.returns-then-by_level
returns-then-by_level c =
    let a = c.args in
    let l : (x : Result Date Refusal) → a.w ≡ words_of x → Typed x → level_line c.unpack.result ≡ line_by a.op x =
    λ x e t. ap level_line (c.unpack.ensures ∙ ap read_in e ∙ read_back x t) ∙ level-line a.op (sym c.by_level.ensures ∙ c.if-by_level.true) x in
    record { value = λ x e t. c.write_level_answer.ensures.value ∙ ap (λ (s : List ℕ). answer false s (length a.out.now)) (l x e t); out_after = λ x e t. c.write_level_answer.ensures.out_after ∙ ap (λ (s : List ℕ). afterwards false s a.out.now) (l x e t) }

pub write_plain-requires : goal.write_plain-requires
write_plain-requires c = (plainly c.args.w (sym c.says_plain.ensures ∙ c.if-says_plain.true)).plain

pub returns-then-says_plain : goal.returns-then-says_plain
returns-then-says_plain c =
    let a = c.args in
    let l : (x : Result Date Refusal) → a.w ≡ words_of x → Typed x → words_line a.w (words_text a.w.first a.w.second a.w.last) ≡ line_by a.op x =
    λ x e t. plain-line a.op a.w (sym c.by_level.ensures ∙ c.if-by_level.false) (sym c.says_plain.ensures ∙ c.if-says_plain.true) c.if-w-ge4294967296.false x e t in
    record { value = λ x e t. c.write_plain.ensures.value ∙ ap (λ (s : List ℕ). answer false s (length a.out.now)) (l x e t); out_after = λ x e t. c.write_plain.ensures.out_after ∙ ap (λ (s : List ℕ). afterwards false s a.out.now) (l x e t) }

pub returns : goal.returns
returns c =
    let a = c.args in
    let l : (x : Result Date Refusal) → a.w ≡ words_of x → Typed x → answer_line c.unpack-2.result ≡ line_by a.op x =
    λ x e t. ap answer_line (c.unpack-2.ensures ∙ ap read_in e ∙ read_back x t) ∙ other-line a.op (sym c.by_level.ensures ∙ c.if-by_level.false) x in
    record { value = λ x e t. c.write_answer.ensures.value ∙ ap (λ (s : List ℕ). answer false s (length a.out.now)) (l x e t); out_after = λ x e t. c.write_answer.ensures.out_after ∙ ap (λ (s : List ℕ). afterwards false s a.out.now) (l x e t) }
