use Rattle.std.proofs.Common.{◌≡◌, ◌++◌, List, ℕ, ap, ◌∙◌}
use Rattle.std.specs.Prelude.{codes}
use Rattle.pkt_line.specs.Spelling.{spelling}
use Rattle.filter_words.specs.Requests.{line}
use Rattle.rehearsal.specs.Paths.{name}
use Rattle.rehearsal.specs.Drivers.{pathname}
use Rattle.rehearsal.proofs.Spelled.{on_ok}
use Rattle.rehearsal.proofs.answers.push_pathname.Goals as goal

pub returns : goal.returns
returns c =
    let text_is : c.deref-2.result.now ≡ codes "pathname=" ++ name c.args.seed c.args.number =
    c.deref-2.ensures.value ∙ c.in_ok-extend_from_slice.ensures.items
    ∙ (λ i. c.in_ok-text.ensures.items i ++ (c.deref.ensures.value ∙ c.in_ok-name.ensures) i) in
    on_ok c.push_line.result
    (c.push_line.new.out.items ≡ c.args.out.now.items ++ spelling (line c.deref-2.result.now))
    (c.push_line.new.out.items ≡ c.args.out.now.items ++ spelling (pathname c.args.seed c.args.number))
    (λ k. k ∙ ap (λ (z : List ℕ). c.args.out.now.items ++ spelling (line z)) text_is) c.push_line.ensures.ok
