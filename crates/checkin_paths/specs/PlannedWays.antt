-- What is done with each path, by the plan of a checkout.
use Rattle.std.specs.Prelude.{List, map, None}
use Rattle.convert_plan.specs.declared.conversion.Conversion.{Conversion}
use Rattle.checkout_core.specs.declared.path.Start.{Start}
use Rattle.checkout_core.specs.declared.path.Start.TheVariants as start
use Rattle.checkout_core.specs.declared.verdict.FailCause.{FailCause}
use Rattle.checkout_core.specs.declared.verdict.FailCause.TheVariants as fail
use Rattle.checkout_core.specs.declared.verdict.Verdict.{Verdict}
use Rattle.checkout_core.specs.declared.verdict.Verdict.TheVariants as verdict
use Rattle.settings_view.specs.declared.view.Driver.{Driver}
use Rattle.checkout_plan.specs.declared.path_plan.PathPlan.{PathPlan}
use Rattle.checkout_plan.specs.Paths.{start_of}
use Rattle.checkin_paths.specs.declared.path.CheckinPath.{CheckinPath}
use Rattle.checkin_paths.specs.declared.path.Storing.{Storing}
use Rattle.checkin_paths.specs.declared.path.Way.{Way}
use Rattle.checkin_paths.specs.declared.path.Way.TheVariants.{Kept, UnknownEncoding as Unknown}
use Rattle.checkin_paths.specs.Paths.{way_by}

-- how a content is stored without a driver
abbrev pub storing_of : Conversion → Storing
storing_of c = record { driver = None; ident = c.ident; action = c.action; encoding = c.encoding }

-- A path that fails in a checkout stays if its name isn't text, and has an unknown encoding then and now. One that
-- fails for its driver has this way.
abbrev pub failed_way : FailCause → Way → Way
failed_way fail.NameNotText way = Kept
failed_way fail.UnknownEncoding way = Unknown
failed_way cause way = way

-- a path that a checkout skips stays
abbrev pub closed_way : Verdict → Way → Way
closed_way (verdict.Skipped cause) way = Kept
closed_way (verdict.Failed cause) way = failed_way cause way
closed_way v way = way

abbrev pub way_for : Start → Way → Way
way_for (start.Done v) way = closed_way v way
way_for start.Pool way = way
way_for (start.Desk place required) way = way

-- what is done with a path, by its plan and the drivers that clean
abbrev pub planned_way : List Driver → PathPlan → Way
planned_way drivers p = way_for p.start (way_by (start_of drivers p.driver) (storing_of p.conversion))

abbrev pub planned_path : List Driver → PathPlan → CheckinPath
planned_path drivers p = record { path = p.path; object = p.object; way = planned_way drivers p }

abbrev pub planned_paths : List Driver → List PathPlan → List CheckinPath
planned_paths drivers ps = map (planned_path drivers) ps
