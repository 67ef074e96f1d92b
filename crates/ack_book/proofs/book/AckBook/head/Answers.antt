use Rattle.std.proofs.Common.{sym, subst}
use Rattle.ack_book.specs.Book.{Book}
use Rattle.ack_book.specs.Keeps.{Keeps}
use Rattle.ack_book.specs.contracts.book.AckBook.{the_view}
use Rattle.ack_book.proofs.Histories.{rest_of_kept}
use Rattle.ack_book.proofs.HeadSteps.{head_two}
use Rattle.ack_book.proofs.book.AckBook.head.Goals as goal

pub returns-in-Two-clause-head : goal.returns-in-Two-clause-head
returns-in-Two-clause-head c = λ v past h.
    let P : Book → Type 0 = λ book. Keeps book v past in
    let inside : P (the_view c.self.inside) = subst P (sym c.self.view_is) h in
    head_two (the_view c.self.inside) v past _ c.word_count-count.result c.first_words.result inside c.in-Two.is
    c.saturating_sub.ensures c.word_count-count.ensures.count c.word_count-count.ensures.most
    c.first_words.ensures.len c.first_words.ensures.fits c.first_words.ensures.each

pub returns-in-Two-clause-whole : goal.returns-in-Two-clause-whole
returns-in-Two-clause-whole c = record {
  count = c.word_count-count.ensures.most;
  past = rest_of_kept c.first_words.result c.self.inside.history c.word_count-count.result c.first_words.ensures.len c.word_count-count.ensures.most c.first_words.ensures.each;
}
