use Rattle.bench_books.proofs.books.two_cards.Goals as goal

pub returns : goal.returns
returns c = record {
  first = c.in_ok-first.ensures.path;
  second = c.in_ok-second.ensures.path;
  first_new = c.in_ok-first.ensures.new;
  second_new = c.in_ok-second.ensures.new;
}
