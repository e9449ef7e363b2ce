-- A handshake with a host doesn't break.
use Rattle.std.proofs.Common.{◌≡◌, inl, inr, ℕ, ◌≤◌, List, [], ◌∷◌, ◌++◌, Option, Some, None}
use Rattle.std.proofs.Common.{refl, sym, ap, ◌∙◌, subst, arith, append_assoc, append-nil}
use Rattle.std.specs.Prelude.{codes}
use Rattle.pkt_line.specs.Packets.{Packet, Payload, Flush, Spells, SpellAll, IsPartial, HasFault, HasNoPacket, total}
use Rattle.pkt_line.specs.Spelling.{spelling_all}
use Rattle.filter_words.specs.Outcomes.{outcome, limit}
use Rattle.filter_words.specs.Grammar.{block}
use Rattle.filter_words.specs.Requests.{line, hello_packets, caps_packets, hello_text, caps_text}
use Rattle.filter_words.specs.Handshake.{handshake_step, handshake_start, IsHello}
use Rattle.filter_words.specs.declared.handshake.HandshakePhase.{HandshakePhase}
use Rattle.filter_words.specs.declared.handshake.HandshakePhase.TheVariants.{Server, Version, EndOfHello}
use Rattle.filter_words.specs.declared.answer_state.AnswerState.{AnswerState}
use Rattle.filter_words.specs.declared.answer_state.AnswerState.TheVariants.{On, Done, Broken, Late}
use Rattle.filter_words.specs.declared.reply.Caps.{Caps}
use Rattle.filter_words.specs.declared.reply.BreakCause.{BreakCause}
use Rattle.filter_words.specs.declared.reply.BreakCause.TheVariants as cause
use Rattle.edge_kit.specs.Files.{grown}
use Rattle.edge_kit.specs.Told.{Tells}
use Rattle.edge_kit.specs.Starters.{SessionHad}
use Rattle.filter_proto.specs.Wires.{Wire}
use Rattle.filter_proto.specs.Exchanges.{Ends, Good, Broke, OutOfMemory, Stops, IsHeard, Unsent}
use Rattle.filter_proto.specs.Openings.{BeginsHello, LacksHello, IsOpening, IsRefusedHello, IsOpened}
use Rattle.driver_line.specs.Lines.{IsFresh}
use Rattle.driver_line.specs.Transcripts.{StopsAt, FitsCounts, IsFailedSession}
use Rattle.driver_host.specs.declared.work.Choice.{Choice}
use Rattle.driver_host.specs.Requests.{Request, Hello, Offer, Smudge, Listing, IsRequest, AreRequests}
use Rattle.driver_host.specs.Answers.{hello_answer}
use Rattle.driver_host.specs.HostText.{Stage, Fresh, HostEnd, AllAnswered}
use Rattle.host_laws.specs.HostTalks.{IsHostSession}
use Rattle.host_laws.specs.Awaiting.{Awaits}
use Rattle.host_laws.specs.Exchanges.{HandshakesAreGood}
use Rattle.host_laws.proofs.Blocks.{tails, heads}
use Rattle.host_laws.proofs.Small.{spelled}
use Rattle.host_laws.proofs.OneParse.{PacketLaws, spelled_front, taken}
use Rattle.host_laws.proofs.Ended.{IsQuiet, heard_of, calm}
use Rattle.host_laws.proofs.Opened.{SpellsLaw, host_awaits, hands_are}

-- more laws of packets
pub record StreamLaws : Type 0 where
  pub apart : (p : Packet) (head rest : List ℕ) → Spells p head → HasNoPacket (head ++ rest) → ⊥
  pub fault : (bytes more : List ℕ) → HasFault bytes → HasFault (bytes ++ more)

stops_at : {P G : Type 0} (s : AnswerState P G) (old new : Wire) (end : Ends G) → Stops s old new end
    → StopsAt s new.unread end
stops_at (On phase) old new (Good g) h = absurd h
stops_at (On phase) old new OutOfMemory h = absurd h
stops_at (On phase) old new (Broke cause.BadPacket) h = h.0
stops_at (On phase) old new (Broke cause.Ended) h = h.0
stops_at (On phase) old new (Broke cause.LinkFault) h = h.0
stops_at (On phase) old new (Broke cause.BadHandshake) h = absurd h
stops_at (On phase) old new (Broke cause.UnknownStatus) h = absurd h
stops_at (On phase) old new (Broke cause.StrangeDelay) h = absurd h
stops_at (On phase) old new (Broke cause.TooLong) h = absurd h
stops_at (On phase) old new (Broke cause.StrangePath) h = absurd h
stops_at (On phase) old new (Broke cause.ListRefused) h = absurd h
stops_at (Done good) old new end h = h.0
stops_at (Broken why) old new end h = h.0
stops_at Late old new end h = absurd h

some_is : (x y : List ℕ) → Some x ≡ Some y → x ≡ y
some_is x y e = ap (λ (o : Option (List ℕ)). elim o [ None ↦ x | Some v ↦ v ]) e

all_grown : (t : Option (List ℕ)) (came all : List ℕ) → Tells t [] → grown t came ≡ Some all → all ≡ came
all_grown None came all h e = absurd (cc e)
all_grown (Some t) came all h e = sym (some_is (t ++ came) all e) ∙ ap (λ (x : List ℕ). x ++ came) h

-- what was taken is the answer and what is unread
heard_parts : (start last : Wire) (end : Ends Caps) (extra : List Packet → Type 0) (all : List ℕ) → IsFresh start
    → last.taken ≡ Some all → (h : IsHeard handshake_step handshake_start start last end extra)
    → all ≡ h.used ++ last.unread
heard_parts start last end extra all fresh is h =
    all_grown start.taken h.took.came all fresh.taken (sym h.took.taken ∙ is)
    ∙ (sym (ap (λ (x : List ℕ). x ++ h.took.came) fresh.unread) ∙ h.took.unread)

unsent_never : (s t : Wire) (seen : SessionHad) (why : BreakCause) → seen.faults ≡ 0 → FitsCounts seen (Some why)
    → Unsent {G = Caps} s t (Broke why) → ⊥
unsent_never s t seen cause.LinkFault none fits h = let some = fits.0 in omega (arith, none, some)
unsent_never s t seen cause.BadPacket none fits h = h
unsent_never s t seen cause.Ended none fits h = h
unsent_never s t seen cause.BadHandshake none fits h = h
unsent_never s t seen cause.UnknownStatus none fits h = h
unsent_never s t seen cause.StrangeDelay none fits h = h
unsent_never s t seen cause.TooLong none fits h = h
unsent_never s t seen cause.StrangePath none fits h = h
unsent_never s t seen cause.ListRefused none fits h = h

-- a host that is sent nothing answers nothing

no_block : (ks : List (List ℕ)) (xs : List Packet) → [] ≡ block ks ++ xs → ⊥
no_block [] xs e = cc
no_block (k ∷ ks) xs e = cc

no_request : (q : Request) (ps : List Packet) → ps ≡ [] → IsRequest q ps → ⊥
no_request Hello ps e a = let no : [] ≡ Payload a.client ∷ block a.lines = sym e ∙ a.whole in cc
no_request (Offer caps) ps e a = no_block a.lines [] (sym e ∙ (a.whole ∙ sym (append-nil (block a.lines))))
no_request Listing ps e a = no_block a.keys [] (sym e ∙ (a.whole ∙ sym (append-nil (block a.keys))))
no_request (Smudge p d c) ps e a = no_block a.keys (block a.pieces) (sym e ∙ a.whole)

both_empty : (xs ys : List Packet) → [] ≡ xs ++ ys → xs ≡ []
both_empty [] ys e = refl
both_empty (x ∷ xs) ys e = absurd (cc e)

nothing_at : (own : Caps) (batch : ℕ) (s t : Stage) (requests : List Request) (packets : List Packet)
    (choices : List Choice) (answers : List Packet) → packets ≡ [] → AreRequests requests packets
    → AllAnswered own batch s requests choices answers t → answers ≡ []
nothing_at own batch s t [] packets choices answers none are all = all.1
nothing_at own batch s t (q ∷ rs) packets choices answers none are all =
    absurd (no_request q are.0 (both_empty are.0 are.1 (sym none ∙ are.2)) are.3)

nothing_sent : (own : Caps) (batch : ℕ) (s : Stage) (answers : List Packet) (end : HostEnd)
    → Awaits own batch s [] answers end → answers ≡ []
nothing_sent own batch s answers end w =
    nothing_at own batch s w.stage w.requests w.packets w.choices answers (both_empty w.packets w.more w.whole) w.are
    w.answered

-- a first part of the first answer

pub record IsOpenPart (ps more : List Packet) : Type 0 where
  pub phase : HandshakePhase
  pub goes : outcome handshake_step limit handshake_start ps ≡ On phase
  pub next : Packet
  pub rest : List Packet
  pub more_is : more ≡ next ∷ rest

open_part : (ps more : List Packet) → hello_answer ≡ ps ++ more → LacksHello ps → IsOpenPart ps more
open_part [] more e lacks = record {
  phase = Server;
  goes = refl;
  next = line (codes "git-filter-server");
  rest = line (codes "version=2") ∷ Flush ∷ [];
  more_is = sym e;
}
open_part (a ∷ []) more e lacks = record {
  phase = Version;
  goes = subst (λ (z : Packet). outcome handshake_step limit handshake_start (z ∷ []) ≡ On Version)
      (heads (line (codes "git-filter-server")) a (line (codes "version=2") ∷ Flush ∷ []) more e) refl;
  next = line (codes "version=2");
  rest = Flush ∷ [];
  more_is = sym (tails (line (codes "git-filter-server")) a (line (codes "version=2") ∷ Flush ∷ []) more e);
}
open_part (a ∷ b ∷ []) more e lacks =
    let f = tails (line (codes "git-filter-server")) a (line (codes "version=2") ∷ Flush ∷ []) (b ∷ more) e in
    record {
      phase = EndOfHello;
      goes = subst (λ (z : Packet). outcome handshake_step limit handshake_start (z ∷ b ∷ []) ≡ On EndOfHello)
          (heads (line (codes "git-filter-server")) a (line (codes "version=2") ∷ Flush ∷ []) (b ∷ more) e)
          (subst (λ (z : Packet). outcome handshake_step limit handshake_start (line (codes "git-filter-server") ∷ z ∷ []) ≡ On EndOfHello)
          (heads (line (codes "version=2")) b (Flush ∷ []) more f) refl);
      next = Flush;
      rest = [];
      more_is = sym (tails (line (codes "version=2")) b (Flush ∷ []) more f);
    }
open_part (a ∷ b ∷ c ∷ []) more e lacks =
    let f = tails (line (codes "git-filter-server")) a (line (codes "version=2") ∷ Flush ∷ []) (b ∷ c ∷ more) e in
    let g = tails (line (codes "version=2")) b (Flush ∷ []) (c ∷ more) f in
    let h = tails Flush c [] more g in
    absurd (lacks (a ∷ b ∷ c ∷ []) [] refl
    (subst (λ (z : List Packet). IsHello z)
    (e ∙ ap (λ (z : List Packet). a ∷ b ∷ c ∷ z) (sym h)) refl))
open_part (a ∷ b ∷ c ∷ x ∷ ps) more e lacks =
    let f = tails (line (codes "git-filter-server")) a (line (codes "version=2") ∷ Flush ∷ []) (b ∷ c ∷ x ∷ (ps ++ more)) e in
    let g = tails (line (codes "version=2")) b (Flush ∷ []) (c ∷ x ∷ (ps ++ more)) f in
    let h : [] ≡ x ∷ (ps ++ more) = tails Flush c [] (x ∷ (ps ++ more)) g in absurd cc

-- a packet is at the front, so an open answer doesn't end here
still_open : StreamLaws → (seen : SessionHad) (left : List ℕ) (old new : Wire) (why : BreakCause) (phase : HandshakePhase)
    (next : Packet) (rest : List Packet) → IsQuiet seen left → FitsCounts seen (Some why)
    → Stops {G = Caps} (On phase) old new (Broke why) → SpellAll (next ∷ rest) (new.unread ++ left) → ⊥
still_open laws seen left old new cause.BadPacket phase next rest quiet fits h s =
    laws.apart next s.0 s.1 s.2
    (inr (subst (λ (z : List ℕ). HasFault z) s.4 (laws.fault new.unread left h.0)))
still_open laws seen left old new cause.Ended phase next rest quiet fits h s =
    let all : new.unread ++ left ≡ new.unread =
    ap (λ (z : List ℕ). new.unread ++ z) (quiet.1 fits.0) ∙ append-nil new.unread in
    laws.apart next s.0 s.1 s.2 (inl (subst (λ (z : List ℕ). IsPartial z) (sym all ∙ s.4) h.0))
still_open laws seen left old new cause.LinkFault phase next rest quiet fits h s =
    let none = quiet.0 in let some = fits.0 in omega (arith, none, some)
still_open laws seen left old new cause.BadHandshake phase next rest quiet fits h s = h
still_open laws seen left old new cause.UnknownStatus phase next rest quiet fits h s = h
still_open laws seen left old new cause.StrangeDelay phase next rest quiet fits h s = h
still_open laws seen left old new cause.TooLong phase next rest quiet fits h s = h
still_open laws seen left old new cause.StrangePath phase next rest quiet fits h s = h
still_open laws seen left old new cause.ListRefused phase next rest quiet fits h s = h

hello_is : hello_text ≡ spelling_all hello_packets
unfolding hello_text
hello_is = refl

-- what a failed session sent and took
sent_all : (seen : SessionHad) (start last : Wire) (sent text : List ℕ) → IsFresh start → seen.sent ≡ last.sent
    → seen.sent ≡ Some sent → last.sent ≡ grown start.sent text → sent ≡ text
sent_all seen start last sent text fresh same is grew =
    all_grown start.sent text sent fresh.sent (sym grew ∙ (sym same ∙ is))

pub not_failed : PacketLaws → StreamLaws → SpellsLaw → HandshakesAreGood → IsRequest Hello hello_packets → (own : Caps)
    (batch : ℕ) (seen : SessionHad) (end : HostEnd) (why : BreakCause) → IsHostSession own batch seen end
    → IsFailedSession (Broke why) seen → ⊥
not_failed laws stream law handshakes hello own batch seen end why h f = by_kind f.opening
  where
    quiet : IsQuiet seen h.left
    quiet = (h.unfailed, h.whole)

    output : spelling_all h.text.answers ≡ h.taken ++ h.left
    output = sym h.text.text_is

    parts : (extra : List Packet → Type 0) (x : IsHeard handshake_step handshake_start f.start f.last (Broke why) extra)
        → h.taken ≡ x.used ++ f.last.unread
    parts extra x = heard_parts f.start f.last (Broke why) extra h.taken f.fresh (sym f.taken ∙ h.taken_is) x

    refused : IsRefusedHello f.start f.last (Broke why) → ⊥
    refused r =
        let sent : h.sent ≡ spelling_all (hello_packets ++ []) =
        sent_all seen f.start f.last h.sent hello_text f.fresh f.sent h.sent_is r.sent
        ∙ (hello_is ∙ ap (λ (z : List Packet). spelling_all z) (sym (append-nil hello_packets))) in
        let awaits = host_awaits laws own batch seen end (hello_packets ++ []) h
        (subst (λ (z : List ℕ). SpellAll (hello_packets ++ []) z) (sym sent)
        (spelled law (hello_packets ++ []) (omega arith, (omega arith, (omega arith, tt))))) in
        let few : total hello_packets ≤ limit = omega arith in
        let t = taken laws own batch Fresh Hello hello_packets [] h.text.answers end tt hello few awaits in
        let none = nothing_sent own batch t.mid t.later end t.next in
        let answers : h.text.answers ≡ hello_answer =
        t.whole
        ∙ (ap (λ (z : List Packet). z ++ t.later) t.is.1
        ∙ (ap (λ (z : List Packet). hello_answer ++ z) none ∙ append-nil hello_answer)) in
        let x = r.heard in
        let bytes : spelling_all hello_answer ≡ x.used ++ (f.last.unread ++ h.left) =
        ap (λ (z : List Packet). spelling_all z) (sym answers)
        ∙ (output
        ∙ (ap (λ (z : List ℕ). z ++ h.left) (parts LacksHello x) ∙ append_assoc x.used f.last.unread h.left)) in
        let front = spelled_front laws hello_answer x.packets (spelling_all hello_answer) x.used (f.last.unread ++ h.left)
        (spelled law hello_answer (omega arith, (omega arith, (omega arith, tt)))) x.spelled bytes in
        let o = open_part x.packets front.more front.whole x.done in
        still_open stream seen h.left f.start f.last why o.phase o.next o.rest quiet f.counts
        (subst (λ (s : AnswerState HandshakePhase Caps). Stops s f.start f.last (Broke why)) o.goes x.stops)
        (subst (λ (z : List Packet). SpellAll z (f.last.unread ++ h.left)) o.more_is front.spelled)

    both_sent : IsOpened f.start f.last (Broke why) → ⊥
    both_sent r =
        let all = (hello_packets ++ caps_packets) ++ [] in
        let sent : h.sent ≡ spelling_all all =
        sent_all seen f.start f.last h.sent (hello_text ++ caps_text) f.fresh f.sent h.sent_is r.sent
        ∙ (hands_are ∙ ap (λ (z : List Packet). spelling_all z) (sym (append-nil (hello_packets ++ caps_packets)))) in
        let awaits = host_awaits laws own batch seen end all h
        (subst (λ (z : List ℕ). SpellAll all z) (sym sent)
        (spelled law all (omega arith, (omega arith, (omega arith, (omega arith, (omega arith, (omega arith, (omega arith, tt))))))))) in
        let x = r.heard in
        let g = handshakes own batch [] h.text.answers end x.used f.last.unread (Broke why)
        (subst (λ (z : List Packet). Awaits own batch Fresh z h.text.answers end)
        (append_assoc hello_packets caps_packets []) awaits)
        (heard_of handshake_step handshake_start (spelling_all h.text.answers) h.taken x.used f.last.unread h.left
        (Broke why) BeginsHello seen output (parts BeginsHello x)
        (record {
          packets = x.packets;
          spelled = x.spelled;
          stops = stops_at (outcome handshake_step limit handshake_start x.packets) f.start f.last (Broke why) x.stops;
          done = x.done;
        })
        (calm seen h.left (Broke why) quiet f.counts refl)) in
        let no : Broke why ≡ Good _ = g.good in cc

    by_kind : IsOpening f.start f.last (Broke why) → ⊥
    by_kind (inl x) = unsent_never f.start f.last seen why h.unfailed f.counts x.why
    by_kind (inr (inl x)) = refused x
    by_kind (inr (inr (inl x))) = unsent_never x.mid f.last seen why h.unfailed f.counts x.unsent.why
    by_kind (inr (inr (inr x))) = both_sent x
