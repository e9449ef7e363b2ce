use Rattle.checkin_engine.proofs.Kept.{ends_before, checked_names, all_kept, index_fails}
use Rattle.checkin_engine.proofs.kept_index.keep_all.Goals as goal

pub returns-in-Err-clause-keeps : goal.returns-in-Err-clause-keeps
returns-in-Err-clause-keeps g c = ends_before _ _ _ c.args.read.now.index _ _ _ _ _ _ _ _ _ _ _ c.in-Err.fault c.in-Err.ensures.checks

pub keep_index-requires-clause-names : goal.keep_index-requires-clause-names
keep_index-requires-clause-names g c =
    checked_names _ _ _ _ _ _ _ _ _ _ c.in-Ok.fates.items c.deref.result.now c.deref.ensures.value c.in-Ok.ensures.checks.checks

pub returns-in-Ok-keep_index-clause-keeps : goal.returns-in-Ok-keep_index-clause-keeps
returns-in-Ok-keep_index-clause-keeps g c =
    all_kept _ _ _ c.args.read.now.index c.entries.result.now c.entries.ensures _ _ _ _ _ _ _ _ _ _ _ c.in-Ok.fates c.deref.result.now c.deref.ensures.value c.in-Ok.ensures.checks
    (Unit {0}) _ c.in-Ok-keep_index.field-0 c.in-Ok-keep_index.ensures

pub returns-in-Err-keep_index-clause-keeps : goal.returns-in-Err-keep_index-clause-keeps
returns-in-Err-keep_index-clause-keeps g c =
    index_fails _ _ _ c.args.read.now.index c.entries.result.now c.entries.ensures _ _ _ _ _ _ _ _ _ _ _ c.in-Ok.fates c.deref.result.now c.deref.ensures.value c.in-Ok.ensures.checks
    (Unit {0}) _ c.in-Err-keep_index.fault c.in-Err-keep_index.ensures
