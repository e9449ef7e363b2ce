-- What a run of exchanges leaves in the bytes of a session.
use Rattle.std.proofs.Common.{◌≡◌, inl, inr, ℕ, List, [], ◌∷◌, ◌++◌, Option, refl, sym, ap, ◌∙◌, append_assoc}
use Rattle.std.proofs.lemmas.List.{append-nil}
use Rattle.pkt_line.specs.Packets.{Packet}
use Rattle.filter_words.specs.Outcomes.{outcome, limit}
use Rattle.filter_words.specs.declared.reply.Caps.{Caps}
use Rattle.filter_words.specs.declared.reply.BreakCause.TheVariants as cause
use Rattle.filter_words.specs.declared.answer_state.AnswerState.{AnswerState}
use Rattle.filter_words.specs.declared.answer_state.AnswerState.TheVariants.{On, Done, Broken, Late}
use Rattle.edge_kit.specs.Files.{grown}
use Rattle.edge_kit.specs.Starters.{SessionHad}
use Rattle.filter_proto.specs.Wires.{Wire}
use Rattle.filter_proto.specs.Exchanges.{Ends, Good, Broke, OutOfMemory, Stops, Unsent, IsExchange}
use Rattle.driver_line.proofs.Told.{grown_nothing, grown_both}
use Rattle.driver_line.specs.Conversations.{Exchange}
use Rattle.driver_line.specs.Lines.{Paths}
use Rattle.driver_line.specs.Transcripts.{StopsAt, IsPart, request_of, AnswerIs, MayCut, HasNothing, Spoken}

stops_on : {P G : Type 0} (p : P) (old new : Wire) (end : Ends G) → Stops {G = G} (On p) old new end → StopsAt {G = G} (On p) new.unread end
stops_on p old new (Good g) h = h
stops_on p old new OutOfMemory h = h
stops_on p old new (Broke cause.BadPacket) h = h.0
stops_on p old new (Broke cause.Ended) h = h.0
stops_on p old new (Broke cause.LinkFault) h = h.0
stops_on p old new (Broke cause.BadHandshake) h = h
stops_on p old new (Broke cause.UnknownStatus) h = h
stops_on p old new (Broke cause.StrangeDelay) h = h
stops_on p old new (Broke cause.TooLong) h = h
stops_on p old new (Broke cause.StrangePath) h = h
stops_on p old new (Broke cause.ListRefused) h = h

pub stops_at : {P G : Type 0} (t : AnswerState P G) (old new : Wire) (end : Ends G) → Stops t old new end → StopsAt t new.unread end
stops_at (On p) old new end h = stops_on p old new end h
stops_at (Done g) old new end h = h.0
stops_at (Broken c) old new end h = h.0
stops_at Late old new end h = h

-- a good answer doesn't look at what follows
pub stops_good : {P G : Type 0} (t : AnswerState P G) (old new : Wire) (g : G) (rest : List ℕ) → Stops t old new (Good g) → StopsAt t rest (Good g)
stops_good (On p) old new g rest h = h
stops_good (Done g2) old new g rest h = h.0
stops_good (Broken c) old new g rest h = h.0
stops_good Late old new g rest h = h

-- what a session's bytes are from here on
pub record SpokenFrom (paths : Paths) (caps : Caps) (wire : Wire) (es : List Exchange) (seen : SessionHad) : Type 0 where
  pub more : List ℕ
  pub came : List ℕ
  pub sent : seen.sent ≡ grown wire.sent more
  pub taken : seen.taken ≡ grown wire.taken came
  pub spoken : Spoken paths caps es more (wire.unread ++ came)

-- the last exchange
pub last_spoken : {P G : Type 0} (step : P → Packet → AnswerState P G) (start : AnswerState P G) (end : Ends G) (extra : List Packet → Type 0) (paths : Paths) (caps : Caps) (e : Exchange) (s t : Wire) (seen : SessionHad)
    → IsExchange step start (request_of paths caps e) s t end extra → ((used rest : List ℕ) → IsPart step start used rest end extra → AnswerIs paths caps e used rest) → (Unsent s t end → extra [] → MayCut e × HasNothing e)
    → seen.sent ≡ t.sent → seen.taken ≡ t.taken → SpokenFrom paths caps s (e ∷ []) seen
last_spoken step start end extra paths caps e s t seen (inl u) answers cuts se ta = record {
  more = u.sent.part.front;
  came = [];
  sent = se ∙ u.sent.part.told;
  taken = ta ∙ (ap (λ (w : Wire). w.taken) u.sent.stays ∙ sym (grown_nothing s.taken));
  spoken = inl (refl, record { after = u.sent.part.after; text = u.sent.part.cut; proper = u.sent.part.proper; may = (cuts u.why u.done).0; nothing = (cuts u.why u.done).1 });
}
last_spoken step start end extra paths caps e s t seen (inr a) answers cuts se ta = record {
  more = request_of paths caps e;
  came = a.heard.took.came;
  sent = se ∙ a.sent;
  taken = ta ∙ a.heard.took.taken;
  spoken = inr (
    [],
    a.heard.used,
    t.unread,
    sym (append-nil (request_of paths caps e)),
    a.heard.took.unread,
    answers a.heard.used t.unread (record { packets = a.heard.packets; spelled = a.heard.spelled; stops = stops_at (outcome step limit start a.heard.packets) s t end a.heard.stops; done = a.heard.done }),
    refl,
  );
}

-- a good exchange, and more after it
pub more_spoken : {P G : Type 0} (step : P → Packet → AnswerState P G) (start : AnswerState P G) (g : G) (extra : List Packet → Type 0) (paths : Paths) (caps : Caps) (e : Exchange) (es : List Exchange) (s t : Wire) (seen : SessionHad)
    → IsExchange step start (request_of paths caps e) s t (Good g) extra → ((used rest : List ℕ) → IsPart step start used rest (Good g) extra → AnswerIs paths caps e used rest)
    → SpokenFrom paths caps t es seen → SpokenFrom paths caps s (e ∷ es) seen
more_spoken step start g extra paths caps e es s t seen (inl u) answers h = absurd u.why
more_spoken step start g extra paths caps e es s t seen (inr a) answers h = record {
  more = request_of paths caps e ++ h.more;
  came = a.heard.took.came ++ h.came;
  sent = h.sent ∙ (ap (λ (x : Option (List ℕ)). grown x h.more) a.sent ∙ grown_both s.sent (request_of paths caps e) h.more);
  taken = h.taken ∙ (ap (λ (x : Option (List ℕ)). grown x h.came) a.heard.took.taken ∙ grown_both s.taken a.heard.took.came h.came);
  spoken = inr (
    h.more,
    a.heard.used,
    t.unread ++ h.came,
    refl,
    sym (append_assoc s.unread a.heard.took.came h.came) ∙ (ap (λ (x : List ℕ). x ++ h.came) a.heard.took.unread ∙ append_assoc a.heard.used t.unread h.came),
    answers a.heard.used (t.unread ++ h.came) (record { packets = a.heard.packets; spelled = a.heard.spelled; stops = stops_good (outcome step limit start a.heard.packets) s t g (t.unread ++ h.came) a.heard.stops; done = a.heard.done }),
    h.spoken,
  );
}
