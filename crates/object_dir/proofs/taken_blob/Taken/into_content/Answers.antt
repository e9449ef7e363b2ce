use Rattle.std.proofs.Common.{ℕ, List, subst}
use Rattle.object_dir.specs.Object.{IsObject}
use Rattle.object_dir.proofs.Causes.{IsObject-taken, AfterRead-taken}
use Rattle.object_dir.proofs.taken_blob.Taken.into_content.Goals as goal

pub returns : goal.returns
returns c told name before after is = (
  subst (λ (x : List ℕ). IsObject told x c.object_in.result) is.named
      (IsObject-taken told c.args.self.name c.args.self.stored c.object_in.result is.takes c.object_in.ensures),
  AfterRead-taken c.args.self.name before after c.args.self.stored c.object_in.result is.faults c.object_in.ensures,
)
