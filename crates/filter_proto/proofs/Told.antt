-- What is told, and what a flush makes of a reply.
use Rattle.std.proofs.Common.{◌≡◌, inl, inr, ℕ, Bool, true, false, List, [], ◌++◌, Option, Some, None, Result, Ok, Err, refl, sym, ap, ◌∙◌, append_assoc}
use Rattle.std.proofs.lemmas.List.{append-nil}
use Rattle.pkt_line.specs.Packets.{Flush}
use Rattle.pkt_line.specs.Reader.{Peeks}
use Rattle.pkt_line.specs.Reading.{Reading}
use Rattle.pkt_line.specs.declared.reader.Next.{Next}
use Rattle.pkt_line.specs.declared.reader.PktFault.{PktFault}
use Rattle.pkt_line.specs.declared.reader.PktFault.TheVariants as fault
use Rattle.edge_kit.specs.Files.{grown}
use Rattle.edge_kit.specs.Links.{led, Left, LeftUntold, LeftBytes, LeftAnswers}
use Rattle.filter_words.specs.SmudgeReply.{reply_step}
use Rattle.filter_words.specs.declared.words.Status.TheVariants as status
use Rattle.filter_words.specs.declared.smudge_reply.ReplyPhase.{ReplyPhase}
use Rattle.filter_words.specs.declared.smudge_reply.ReplyPhase.TheVariants.{KeyList, Content, LastKeyList}
use Rattle.filter_words.specs.declared.answer_state.AnswerState.TheVariants.{Late}
use Rattle.edge_kit.specs.declared.faults.SendFault.{SendFault}
use Rattle.edge_kit.specs.declared.faults.SendFault.TheVariants as send
use Rattle.edge_kit.specs.Links.{LinkSeen, Sends}
use Rattle.filter_proto.specs.Sending.{SendsAll}
use Rattle.edge_kit.specs.Faults.{AfterSend}
use Rattle.filter_proto.specs.Wires.{Sees, SendsOn, SessionSeen, wire_of}

pub sees : (r : Result Next PktFault) (x : Reading) → Peeks r x → Sees r x.unread
sees (Ok n) x h = h
sees (Err (fault.BadDigits place)) x h = inl h.0
sees (Err (fault.BadLength place n)) x h = inr (n, h.0)

pub grown_nothing : (t : Option (List ℕ)) → grown t [] ≡ t
grown_nothing None = refl
grown_nothing (Some t) = ap Some (append-nil t)

pub grown_both : (t : Option (List ℕ)) (a b : List ℕ) → grown (grown t a) b ≡ grown t (a ++ b)
grown_both None a b = refl
grown_both (Some t) a b = ap Some (append_assoc t a b)

pub led_both : (t : Left) (a b : List ℕ) → led a (led b t) ≡ led (a ++ b) t
led_both LeftUntold a b = refl
led_both (LeftBytes t) a b = ap LeftBytes (sym (append_assoc a b t))
led_both (LeftAnswers r) a b = refl

pub led_nothing : (t : Left) → led [] t ≡ t
led_nothing LeftUntold = refl
led_nothing (LeftBytes t) = refl
led_nothing (LeftAnswers r) = refl

pub never_late : (d : Bool) (p : ReplyPhase) → reply_step d p Flush ≡ Late → ⊥
never_late d (KeyList None) e = cc
never_late d (KeyList (Some status.Success)) e = cc
never_late d (KeyList (Some status.Error)) e = cc
never_late d (KeyList (Some status.Abort)) e = cc
never_late true (KeyList (Some status.Delayed)) e = cc
never_late false (KeyList (Some status.Delayed)) e = cc
never_late d (KeyList (Some status.Other)) e = cc
never_late d Content e = cc
never_late d (LastKeyList None) e = cc
never_late d (LastKeyList (Some status.Success)) e = cc
never_late d (LastKeyList (Some status.Error)) e = cc
never_late d (LastKeyList (Some status.Abort)) e = cc
never_late d (LastKeyList (Some status.Delayed)) e = cc
never_late d (LastKeyList (Some status.Other)) e = cc

-- what a link sends, as its session has it
pub sends_on : {T : Type 0} (unread piece : List ℕ) (old new : LinkSeen) (r : Result T SendFault)
    → Sends piece old new r → AfterSend old.faults new.faults r → SendsOn piece (wire_of unread old) (wire_of unread new) r
sends_on unread piece old new (Ok x) h f = ap (wire_of unread) h
sends_on unread piece old new (Err send.Failed) h f =
    (record { part = h.part; stays = ap (wire_of unread) h.kept }, f)
sends_on unread piece old new (Err send.NoMemory) h f =
    (record { part = h.part; stays = ap (wire_of unread) h.kept }, f)

pub sends_all_on : {T : Type 0} (unread text : List ℕ) (old new : LinkSeen) (r : Result T SendFault)
    → SendsAll text old new r → SendsOn text (wire_of unread old) (wire_of unread new) r
sends_all_on unread text old new r h = sends_on unread text old new r h.sends h.counts

-- nothing but the wire changes, call by call
pub rest_on : (a b c : SessionSeen) → b ≡ record a { wire = b.wire } → c ≡ record b { wire = c.wire } → c ≡ record a { wire = c.wire }
rest_on a b c one two = two ∙ ap (λ (s : SessionSeen). record s { wire = c.wire }) one
