-- Clean requests.
use Rattle.std.proofs.Common.{◌≡◌, inl, inr, ℕ, Bool, true, false, List, [], ◌++◌, Option, Some, Result, Ok, Err, refl, sym, ap, ◌∙◌}
use Rattle.std.specs.Prelude.{⊤}
use Rattle.pkt_line.specs.Packets.{Packet}
use Rattle.filter_words.specs.Outcomes.{outcome, limit}
use Rattle.filter_words.specs.SmudgeReply.{reply_step, reply_start, content_in}
use Rattle.filter_words.specs.declared.reply.Reply.{Reply}
use Rattle.filter_words.specs.declared.reply.Reply.TheVariants as reply
use Rattle.filter_words.specs.declared.smudge_reply.GoodReply.{GoodReply}
use Rattle.filter_words.specs.declared.smudge_reply.GoodReply.TheVariants as good
use Rattle.filter_words.specs.declared.answer_state.AnswerState.{AnswerState}
use Rattle.filter_words.specs.declared.answer_state.AnswerState.TheVariants.{Done}
use Rattle.edge_kit.specs.Seen.{LeafSeen}
use Rattle.edge_kit.specs.Files.{grown}
use Rattle.edge_kit.specs.declared.faults.SendFault.{SendFault}
use Rattle.filter_proto.specs.Wires.{Wire}
use Rattle.filter_proto.specs.Exchanges.{Ends, Good, Broke, OutOfMemory, IsExchange}
use Rattle.filter_proto.specs.Replies.{IsPut, EndPut, reply_end}
use Rattle.filter_proto.specs.Complete.{IsComplete}
use Rattle.filter_proto.specs.Cleans.{IsCleaning, TellsClean, cleaned_end, cleaned_of}
use Rattle.filter_proto.specs.Openings.{Announces, has_clean, BeginsHello}
use Rattle.filter_words.specs.Handshake.{handshake_step, handshake_start}
use Rattle.filter_words.specs.declared.reply.Caps.{Caps}
use Rattle.filter_proto.proofs.More.{heard_less}
use Rattle.filter_proto.proofs.Once.{SameLaw, is_done, heard_packets}

-- what was announced is what was told
pub tells : SameLaw _ _ handshake_step handshake_start → (clean : Bool) (old new : Wire) (caps : Caps) → Announces clean old new caps → TellsClean clean old
tells same clean old new caps a g b = ap has_clean (sym (heard_packets handshake_step handshake_start same old new caps g BeginsHello a.0.heard b)) ∙ a.1

-- less may be said of what was done
exchange_less : {P G : Type 0} (step : P → Packet → AnswerState P G) (start : AnswerState P G) (text : List ℕ) (old new : Wire) (end : Ends G) (extra less : List Packet → Type 0) → ((ps : List Packet) → extra ps → less ps)
    → IsExchange step start text old new end extra → IsExchange step start text old new end less
exchange_less step start text old new end extra less f (inl h) = inl (record { sent = h.sent; why = h.why; done = f [] h.done })
exchange_less step start text old new end extra less f (inr h) = inr (record { sent = h.sent; stage = h.stage; heard = heard_less step start old new end extra less h.heard f })

-- a reply is delayed only if that was allowed
abbrev pub DelayLaw : Type 0
DelayLaw = (d : Bool) (ps : List Packet) → outcome (reply_step d) limit reply_start ps ≡ Done good.Delayed → d ≡ true

never_delays : DelayLaw → (text : List ℕ) (old new : Wire) (extra : List Packet → Type 0) → IsExchange (reply_step false) reply_start text old new (Good good.Delayed) extra → ⊥
never_delays law text old new extra (inl h) = h.why
never_delays law text old new extra (inr h) =
    let is : false ≡ true = law false h.heard.packets (is_done (outcome (reply_step false) limit reply_start h.heard.packets) old new good.Delayed h.heard.stops) in cc is

-- what was put into an empty leaf is the content
put_whole : (before leaf : LeafSeen) (bytes content : List ℕ) → before.content ≡ Some [] → leaf.content ≡ Some bytes → IsPut before leaf (Ok tt) content → bytes ≡ content
put_whole before leaf bytes content e f h =
    let told : leaf.content ≡ grown before.content content = h.holds refl in
    let whole : Some bytes ≡ Some content = sym f ∙ (rw e at told) in
    cc whole

pub cleans : DelayLaw → (text : List ℕ) (old new : Wire) (before leaf : LeafSeen) (r : Reply) (put : Result ⊤ SendFault) (bytes : List ℕ) → before.content ≡ Some [] → leaf.content ≡ Some bytes
    → IsExchange (reply_step false) reply_start text old new (reply_end r) (EndPut false before leaf put (reply_end r)) → IsCleaning text old new (cleaned_of r put bytes)
cleans law text old new before leaf reply.Content (Ok x) bytes e f h =
    inl (exchange_less (reply_step false) reply_start text old new (Good good.Content) _ _ (λ ps p. put_whole before leaf bytes (content_in false reply_start ps) e f p) h)
cleans law text old new before leaf reply.Content (Err x) bytes e f h = inr (exchange_less (reply_step false) reply_start text old new (Good good.Content) _ _ (λ ps p. tt) h)
cleans law text old new before leaf reply.Error put bytes e f h = inl (exchange_less (reply_step false) reply_start text old new (Good good.Error) _ _ (λ ps p. tt) h)
cleans law text old new before leaf reply.ErrorAfter put bytes e f h = inl (exchange_less (reply_step false) reply_start text old new (Good good.ErrorAfter) _ _ (λ ps p. tt) h)
cleans law text old new before leaf reply.Abort put bytes e f h = inl (exchange_less (reply_step false) reply_start text old new (Good good.Abort) _ _ (λ ps p. tt) h)
cleans law text old new before leaf reply.Delayed put bytes e f h = absurd (never_delays law text old new _ h)
cleans law text old new before leaf (reply.Broken why) put bytes e f h = inl (exchange_less (reply_step false) reply_start text old new (Broke why) _ _ (λ ps p. tt) h)
cleans law text old new before leaf reply.NoMemory put bytes e f h = inl (exchange_less (reply_step false) reply_start text old new OutOfMemory _ _ (λ ps p. tt) h)

pub completes : DelayLaw → (text : List ℕ) (old new : Wire) (before leaf : LeafSeen) (r : Reply) (put : Result ⊤ SendFault) (bytes : List ℕ)
    → IsExchange (reply_step false) reply_start text old new (reply_end r) (EndPut false before leaf put (reply_end r)) → IsComplete (reply_step false) reply_start old new (reply_end r)
    → IsComplete (reply_step false) reply_start old new (cleaned_end (cleaned_of r put bytes))
completes law text old new before leaf reply.Content (Ok x) bytes h c = c
completes law text old new before leaf reply.Content (Err x) bytes h c = λ g b. tt
completes law text old new before leaf reply.Error put bytes h c = c
completes law text old new before leaf reply.ErrorAfter put bytes h c = c
completes law text old new before leaf reply.Abort put bytes h c = c
completes law text old new before leaf reply.Delayed put bytes h c = absurd (never_delays law text old new _ h)
completes law text old new before leaf (reply.Broken why) put bytes h c = c
completes law text old new before leaf reply.NoMemory put bytes h c = c
