use Rattle.answers.specs.Coded.{words_line}
use Rattle.answers.proofs.Lengths.{tried-answer, words-some}
use borrow.Author.Rules.{rules}
use Rattle.answers.proofs.write_words.Goals as goal

pub returns : goal.returns
returns c =
    let a = c.args in
    let t = a.text.now in
    let both = tried-answer (words_line a.w t) a.out.now (words-some a.w t) c.put_words-n.ensures c.written.ensures in record { value = both.0; out_after = both.1 }
