use Rattle.std.proofs.Common.{◌≡◌, false, Some, refl, sym, ap, subst, ◌∙◌}
use Rattle.filter_words.specs.Requests.{clean_text}
use Rattle.filter_words.specs.SmudgeReply.{reply_step, reply_start}
use Rattle.filter_proto.specs.Wires.{Wire, SessionSeen}
use Rattle.filter_proto.specs.Complete.{IsComplete}
use Rattle.filter_proto.specs.Cleans.{IsCleaning, cleaned_end, cleaned_of}
use Rattle.filter_proto.specs.declared.clean_session.Cleaned.{Cleaned}
use Rattle.filter_proto.proofs.Once.{exchange_plain}
use Rattle.filter_proto.proofs.Cleanings.{cleans, completes}
use Rattle.filter_proto.proofs.clean_session.CleanSession.ask.Goals as goal

pub returns-clause-exchange : goal.returns-clause-exchange
returns-clause-exchange g c =
    let text = clean_text c.args.path.now c.args.content.now in
    let wire : c.set_standing.new.self.wire ≡ c.request_clean-asked.new.self.wire = ap (λ (v : SessionSeen). v.wire) c.set_standing.ensures in
    rw (wire, c.cleaned_of-cleaned.ensures)
    (subst (λ (v : SessionSeen). IsCleaning text v.wire c.request_clean-asked.new.self.wire (cleaned_of c.request_clean-asked.result.reply c.request_clean-asked.result.put c.request_clean-asked.new.leaf.bytes.items)) c.self.view_is
    (cleans c.own_causes.ensures.delayed text c.self.inside.session.wire c.request_clean-asked.new.self.wire _ _ c.request_clean-asked.result.reply c.request_clean-asked.result.put c.request_clean-asked.new.leaf.bytes.items
    (ap Some c.new-kept.ensures.empty) refl c.request_clean-asked.ensures.exchange))

pub returns-clause-complete : goal.returns-clause-complete
returns-clause-complete g c =
    let text = clean_text c.args.path.now c.args.content.now in
    let wire : c.set_standing.new.self.wire ≡ c.request_clean-asked.new.self.wire = ap (λ (v : SessionSeen). v.wire) c.set_standing.ensures in
    rw (wire, c.cleaned_of-cleaned.ensures)
    (subst (λ (v : SessionSeen). IsComplete (reply_step false) reply_start v.wire c.request_clean-asked.new.self.wire (cleaned_end (cleaned_of c.request_clean-asked.result.reply c.request_clean-asked.result.put c.request_clean-asked.new.leaf.bytes.items))) c.self.view_is
    (completes c.own_causes.ensures.delayed text c.self.inside.session.wire c.request_clean-asked.new.self.wire _ _ c.request_clean-asked.result.reply c.request_clean-asked.result.put c.request_clean-asked.new.leaf.bytes.items
    c.request_clean-asked.ensures.exchange (c.complete.ensures.reply false text c.self.inside.session.wire c.request_clean-asked.new.self.wire _ (exchange_plain _ _ _ _ _ _ _ c.request_clean-asked.ensures.exchange))))
