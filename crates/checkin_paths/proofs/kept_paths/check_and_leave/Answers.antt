use Rattle.std.proofs.Common.{ℕ, List, length, replicate, None, refl, sym, ap, subst, ◌∙◌, arith}
use Rattle.std.specs.List.{AllByRecursion}
use Rattle.settings_view.specs.declared.view.Driver.{Driver}
use Rattle.checkin_paths.specs.declared.path.CheckinPath.{CheckinPath}
use Rattle.checkin_paths.specs.Looks.{IsOpen}
use Rattle.checkin_paths.proofs.Kept.{told_cleaning, no_lines_out, many_lines, leaves_none, checks_leave}
use Rattle.checkin_paths.proofs.kept_paths.check_and_leave.Goals as goal

pub returns-in_default-clause-checks : goal.returns-in_default-clause-checks
returns-in_default-clause-checks g c = leaves_none _ _ _ _ _ _ _ _ _

pub check_in_paths-checked-requires-clause-are_open : goal.check_in_paths-checked-requires-clause-are_open
check_in_paths-checked-requires-clause-are_open g c κs within =
    subst (λ (ps : List CheckinPath). AllByRecursion (IsOpen (length c.in-Ok.lines.lines)) ps) (sym c.deref.ensures.value)
    (subst (λ (n : ℕ). AllByRecursion (IsOpen n) c.args.read.now.paths.items) (sym (many_lines c.in-Ok.lines.lines c.args.read.now.drivers c.as_slice-drivers.result.now c.in-Ok.ensures.0 c.as_slice-drivers.ensures)) c.requires.are_open)

pub give_back-requires-clause-out : goal.give_back-requires-clause-out
give_back-requires-clause-out g c κs within = let none = no_lines_out c.in-Ok.lines.lines (length c.as_slice-drivers.result.now) c.in-Ok.ensures.0 in omega (arith, c.check_in_paths-checked.ensures.out, none)

pub returns-clause-checks : goal.returns-clause-checks
returns-clause-checks g c =
    checks_leave _ _ _ _ (told_cleaning _ _ _ _ _ _ c.as_slice-drivers.ensures refl refl) _ _ c.deref.ensures.value _ _ _ _ _ _ _ _ _ _ _ c.in-Ok.lines.lines c.check_in_paths-checked.new.lines.lines c.check_in_paths-checked.result
    (c.in-Ok.ensures.0 ∙ ap (λ (ds : List Driver). replicate (length ds) None) c.as_slice-drivers.ensures) c.check_in_paths-checked.ensures.checks c.give_back.ensures.back

pub returns-clause-out : goal.returns-clause-out
returns-clause-out g c = let none = no_lines_out c.in-Ok.lines.lines (length c.as_slice-drivers.result.now) c.in-Ok.ensures.0 in omega (arith, c.give_back.ensures.out, c.check_in_paths-checked.ensures.out, none)
