use Rattle.std.proofs.Common.{rules, ◌≡◌, ◌++◌, ◌∙◌, ap, List, ℕ, sym, subst}
use Rattle.git_index.specs.Spelling.{IsIndexText, spelled, written, stat_text}
use Rattle.git_index.specs.declared.version.Version.{Version as Release}
use Rattle.git_index.proofs.SpelledWhole.{stat_index, begun, entry_at, one_more, whole_spelled}
use Rattle.git_index.proofs.spelling.spell_stat_index.Goals as goal

pub loop-entry-init : goal.loop-entry-init
loop-entry-init c = begun c.args.wanted c.args.entries.now c.args.stats.now c.extend_from_slice-3.new.self.items c.as_slice-path.result.now (search rules) c.as_slice-path.ensures

pub push_entry-requires-clause-stage : goal.push_entry-requires-clause-stage
push_entry-requires-clause-stage c = (entry_at c.args.entries.now c.requires c.loop-entry.entry-index c.entry-item.result c.loop-entry-test.true c.entry-item.is).stage

pub push_entry-requires-clause-path : goal.push_entry-requires-clause-path
push_entry-requires-clause-path c = c.loop-entry.invariant.few

pub loop-entry-preserved : goal.loop-entry-preserved
loop-entry-preserved c =
    one_more c.args.wanted c.args.entries.now c.args.stats.now c.loop-entry.rest.now c.split_stats.result.1.now c.split_stats.result.0 c.loop-entry.entry-index c.entry-item.result c.loop-entry.text.items c.push_entry.new.text.items c.loop-entry.path.now c.as_slice-path-in-loop-entry.result.now c.requires c.loop-entry-test.true c.entry-item.is c.split_stats.ensures.first c.split_stats.ensures.others c.as_slice-path-in-loop-entry.ensures c.loop-entry.invariant (c.in_ok-push_entry.ensures ∙ ap (λ (v : Release). c.loop-entry.text.items ++ spelled v c.loop-entry.path.now (written c.loop-entry.path.now c.split_stats.result.0 c.entry-item.result)) c.version_for-version.ensures)

pub returns-clause-index : goal.returns-clause-index
returns-clause-index c =
    let same : c.extend_from_slice-4.new.self.items ≡ stat_text c.args.wanted c.args.entries.now c.args.stats.now = whole_spelled c.args.wanted c.args.entries.now c.args.stats.now c.loop-entry.rest.now c.loop-entry.entry-index c.loop-entry.text.items c.loop-entry.path.now c.deref.result.now c.digest-hash.result c.extend_from_slice-4.new.self.items c.loop-entry-test.false c.loop-entry.invariant c.deref.ensures.value c.digest-hash.ensures c.in_ok-extend_from_slice-4.ensures.items in
    subst (λ (text : List ℕ). IsIndexText text c.args.entries.now) (sym same) (stat_index c.args.wanted c.args.entries.now c.args.stats.now c.requires)

pub returns-clause-value : goal.returns-clause-value
returns-clause-value c =
    whole_spelled c.args.wanted c.args.entries.now c.args.stats.now c.loop-entry.rest.now c.loop-entry.entry-index c.loop-entry.text.items c.loop-entry.path.now c.deref.result.now c.digest-hash.result c.extend_from_slice-4.new.self.items c.loop-entry-test.false c.loop-entry.invariant c.deref.ensures.value c.digest-hash.ensures c.in_ok-extend_from_slice-4.ensures.items
