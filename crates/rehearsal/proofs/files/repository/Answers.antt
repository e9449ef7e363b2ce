use Rattle.std.proofs.Common.{◌≡◌, map, sym, ap, subst, ◌∙◌}
use Rattle.git_index.specs.Spelling.{plain_text}
use Rattle.edge_kit.specs.Told.{RepoTold}
use Rattle.rehearsal.specs.Repository.{files, IsRepository, entry_of, config}
use Rattle.rehearsal.proofs.Storing.{tells}
use Rattle.rehearsal.proofs.files.repository.Goals as goal

pub returns-clause-told : goal.returns-clause-told
unfolding config
returns-clause-told c =
    let text : c.in_ok-index.index.items ≡ plain_text (map entry_of (files c.args.seed c.args.numbers.now)) =
    c.in_ok-index.ensures.value ∙ ap plain_text (c.deref.ensures.value ∙ c.in_ok-stored.ensures.entries) in
    subst (λ (t : RepoTold). IsRepository (files c.args.seed c.args.numbers.now) t) (sym c.new.ensures.told)
    (tells c.in_ok-index.index c.in_ok-config.config c.in_ok-stored.stored.objects.items c.new-fails.result.items
    (files c.args.seed c.args.numbers.now) c.new-fails.ensures.items text c.in_ok-config.ensures.items
    c.in_ok-stored.ensures.objects)
