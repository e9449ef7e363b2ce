use Rattle.std.proofs.Common.{◌≡◌, ℕ, List, Some, cond, subst}
use Rattle.std.specs.Str.{bytes_eq}
use Rattle.driver_host.specs.LateWorks.{kept_at}
use Rattle.driver_host.proofs.Late.{kept_after}
use Rattle.driver_host.proofs.late_work.LateWork.keep.Goals as goal

pub returns : goal.returns
returns c =
    subst (λ (z : List ℕ). (q : List ℕ) → kept_at c.insert.new.self q ≡ cond (bytes_eq z q) (Some c.args.content) (kept_at c.args.self.now.kept q))
    c.in_ok-path.ensures.items
    (kept_after c.in_ok-path.path.items c.args.self.now.kept c.insert.new.self (Some c.args.content) c.in_ok-insert.ensures.updates)
