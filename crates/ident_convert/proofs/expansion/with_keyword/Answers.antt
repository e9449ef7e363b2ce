use Rattle.std.proofs.Common.{◌≡◌, List, ℕ, ◌++◌, false, take, drop, sym, ap, ◌∙◌, rules}
use Rattle.ident_convert.specs.Ident.{has_keyword}
use Rattle.ident_convert.proofs.Keywords.{expanded-none, expanded-one_more}
use Rattle.ident_convert.proofs.expansion.with_keyword.Goals as goal

pub returns-in_default : goal.returns-in_default
returns-in_default c =
    let content = c.args.content.now in
    let none : has_keyword (drop c.keywords.place content) ≡ false = rw c.split_at.ensures.back at c.in_default.ensures in
    let bytes : c.extend_from_slice.new.self.items ≡ c.keywords.text.items ++ drop c.keywords.place content = search rules in
    bytes ∙ sym (c.keywords.invariant.same ∙ ap (λ (xs : List ℕ). c.keywords.text.items ++ xs) (expanded-none c.args.keyword.now (drop c.keywords.place content) none))

pub keywords-preserved : goal.keywords-preserved
keywords-preserved c =
    let content = c.args.content.now in
    let first = rw c.split_at.ensures.back at c.in-Some.ensures in
    let more = expanded-one_more c.args.keyword.now content c.keywords.text.items c.keywords.place c.in-Some.found.start c.in-Some.found.len
    c.keywords.invariant.within first c.keywords.invariant.same in
    let bytes : c.extend_from_slice-in-keywords-2.new.self.items ≡ (c.keywords.text.items ++ take c.in-Some.found.start (drop c.keywords.place content)) ++ c.args.keyword.now =
    search rules in
    record { within = more.0; same = rw bytes more.1 }
