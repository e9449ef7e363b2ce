-- One more packet of an answer, of whatever kind.
use Rattle.std.proofs.Common.{◌≡◌, inl, inr, ℕ, ◌+◌, ◌-◌, ◌<◌, ◌≤◌, false, ltb, List, [], ◌∷◌, ◌++◌, length, take, drop, Option, Err, refl, sym, ap, subst, ◌∙◌, append_assoc, arith}
use Rattle.std.specs.Prelude.{⊤}
use Rattle.std.proofs.lemmas.List.{length-take, take-append-drop, append-nil}
use Rattle.std.proofs.lemmas.Bool.{lt-ltb, le-ltb}
use Rattle.pkt_line.specs.Packets.{Packet, Payload, Spells, SpellAll, size, total, IsPartial, HasFault, Stands}
use Rattle.filter_words.specs.Outcomes.{outcome, limit}
use Rattle.filter_words.specs.declared.reply.BreakCause.{BreakCause}
use Rattle.filter_words.specs.declared.reply.BreakCause.TheVariants as cause
use Rattle.filter_words.specs.declared.answer_state.AnswerState.{AnswerState}
use Rattle.filter_words.specs.declared.answer_state.AnswerState.TheVariants.{On, Done, Broken, Late}
use Rattle.edge_kit.specs.Faults.{Rose}
use Rattle.edge_kit.specs.Files.{grown}
use Rattle.edge_kit.specs.Links.{led, Left}
use Rattle.edge_kit.specs.declared.faults.SendFault.TheVariants as send
use Rattle.filter_proto.specs.Wires.{Wire, Took, Filled, FillFails, IsSentPart, SendsOn}
use Rattle.filter_proto.specs.Exchanges.{Ends, Good, Broke, OutOfMemory, Still, Stops, IsHeard, IsReading, IsExchange}
use Rattle.filter_proto.proofs.Told.{grown_nothing, grown_both, led_both, led_nothing}

pub stands_long : (p : Packet) (bytes : List ℕ) → Stands p bytes → size p ≤ length bytes
stands_long p bytes s = let e = s.sized in omega (arith, length-take (size p) bytes)

pub payload_long : (line bytes : List ℕ) → Stands (Payload line) bytes → length line ≤ 65516
payload_long line bytes s = let e = s.limit in omega arith

-- lists of packets

pub spells_more : (ps : List Packet) (b : List ℕ) (p : Packet) (h : List ℕ) → SpellAll ps b → Spells p h → SpellAll (ps ++ p ∷ []) (b ++ h)
spells_more [] b p h all one = (h, [], one, refl, ap (λ (x : List ℕ). x ++ h) all ∙ sym (append-nil h))
spells_more (q ∷ ps) b p h all one =
    (all.0, all.1 ++ h, all.2, spells_more ps all.1 p h all.3 one, ap (λ (x : List ℕ). x ++ h) all.4 ∙ append_assoc all.0 all.1 h)

pub total_more : (ps : List Packet) (p : Packet) → total (ps ++ p ∷ []) ≡ total ps + size p
total_more [] p = omega arith
total_more (q ∷ ps) p = omega (arith, total_more ps p)

pub outcome_more : {P G : Type 0} (step : P → Packet → AnswerState P G) (room left : ℕ) (t : AnswerState P G) (ps : List Packet) (q : P) (x : Packet) → outcome step room t ps ≡ On q → left + total ps ≡ room → outcome step room t (ps ++ x ∷ []) ≡ outcome step left (On q) (x ∷ [])
outcome_more step room left t [] q x e fits =
    let same : room ≡ left = omega arith in
    rw (e, same) refl
outcome_more step room left (On p) (y ∷ ps) q x e fits =
    let no : ltb room (size y) ≡ false = le-ltb room (size y) (omega arith) in
    rw no (outcome_more step (room - size y) left (step p y) ps q x (rw no at e) (omega arith))
outcome_more step room left (Done g) (y ∷ ps) q x e fits = absurd (cc)
outcome_more step room left (Broken g) (y ∷ ps) q x e fits = absurd (cc)
outcome_more step room left Late (y ∷ ps) q x e fits = absurd (cc)

-- what came and what was used

pub took_skip : (s a b : Wire) (used : List ℕ) (n : ℕ) → Took s a used → b ≡ record a { unread = drop n a.unread } → Took s b (used ++ take n a.unread)
took_skip s a b used n t e = rw e (record {
  came = t.came;
  taken = t.taken;
  left = t.left;
  unread = t.unread ∙ (ap (λ (r : List ℕ). used ++ r) (sym (take-append-drop n a.unread)) ∙ sym (append_assoc used (take n a.unread) (drop n a.unread)));
})

pub took_both : (s a b : Wire) (used more : List ℕ) → Took s a used → Took a b more → Took s b (used ++ more)
took_both s a b used more t f = record {
  came = t.came ++ f.came;
  taken = f.taken ∙ (ap (λ (x : Option (List ℕ)). grown x f.came) t.taken ∙ grown_both s.taken t.came f.came);
  left = t.left ∙ (ap (λ (x : Left). led t.came x) f.left ∙ led_both b.left t.came f.came);
  unread = sym (append_assoc s.unread t.came f.came) ∙ (ap (λ (x : List ℕ). x ++ f.came) t.unread ∙ (append_assoc used a.unread f.came ∙ (ap (λ (x : List ℕ). used ++ x) f.unread ∙ sym (append_assoc used more b.unread))));
}

pub took_fill : (s a b : Wire) (used : List ℕ) → Took s a used → Took a b [] → Took s b used
took_fill s a b used t f = subst (λ (u : List ℕ). Took s b u) (append-nil used) (took_both s a b used [] t f)

pub took_nothing : (s : Wire) → Took s s []
took_nothing s = record {
  came = [];
  taken = sym (grown_nothing s.taken);
  left = sym (led_nothing s.left);
  unread = append-nil s.unread;
}

-- more bytes, and none

pub reading_fill : {P G : Type 0} (step : P → Packet → AnswerState P G) (start : AnswerState P G) (s a b : Wire) (room : ℕ) (p : P) (extra : List Packet → Type 0) → IsReading step start s a room p extra → Filled a b → IsReading step start s b room p extra
reading_fill step start s a b room p extra r f = record {
  packets = r.packets;
  used = r.used;
  spelled = r.spelled;
  gives = r.gives;
  fits = r.fits;
  done = r.done;
  took = took_fill s a b r.used r.took f.0;
  still = (f.1 ∙ r.still.0, f.2 ∙ r.still.1);
}

heard_open : {P G : Type 0} (step : P → Packet → AnswerState P G) (start : AnswerState P G) (s a b : Wire) (room : ℕ) (p : P) (end : Ends G) (extra : List Packet → Type 0) (r : IsReading step start s a room p extra) → Took s b r.used → Stops {G = G} (On p) s b end → IsHeard step start s b end extra
heard_open step start s a b room p end extra r took stops = record {
  packets = r.packets;
  used = r.used;
  spelled = r.spelled;
  took = took;
  done = r.done;
  stops = rw r.gives stops;
}

pub reading_bad : {P G : Type 0} (step : P → Packet → AnswerState P G) (start : AnswerState P G) (s a : Wire) (room : ℕ) (p : P) (extra : List Packet → Type 0) → IsReading step start s a room p extra → HasFault a.unread → IsHeard step start s a (Broke cause.BadPacket) extra
reading_bad step start s a room p extra r bad = heard_open step start s a a room p (Broke cause.BadPacket) extra r r.took (bad, r.still)

took_ends : (s a : Wire) (n : ℕ) (used : List ℕ) → Took s a used → Took s (record a { ends = n }) used
took_ends s a n used t = record { came = t.came; taken = t.taken; left = t.left; unread = t.unread }

took_faults : (s a : Wire) (n : ℕ) (used : List ℕ) → Took s a used → Took s (record a { faults = n }) used
took_faults s a n used t = record { came = t.came; taken = t.taken; left = t.left; unread = t.unread }

reading_ended : {P G : Type 0} (step : P → Packet → AnswerState P G) (start : AnswerState P G) (s a b : Wire) (room : ℕ) (p : P) (extra : List Packet → Type 0) → IsReading step start s a room p extra → IsPartial a.unread → FillFails a b (Err cause.Ended) → IsHeard step start s b (Broke cause.Ended) extra
reading_ended step start s a b room p extra r part f =
    heard_open step start s a b room p (Broke cause.Ended) extra r (rw f.0 (took_ends s a b.ends r.used r.took))
    (rw f.0 (part, rw r.still.1 at f.1, r.still.0, f.2))

reading_faulty : {P G : Type 0} (step : P → Packet → AnswerState P G) (start : AnswerState P G) (s a b : Wire) (room : ℕ) (p : P) (extra : List Packet → Type 0) → IsReading step start s a room p extra → IsPartial a.unread → FillFails a b (Err cause.LinkFault) → IsHeard step start s b (Broke cause.LinkFault) extra
reading_faulty step start s a b room p extra r part f =
    heard_open step start s a b room p (Broke cause.LinkFault) extra r (rw f.0 (took_faults s a b.faults r.used r.took))
    (rw f.0 (part, rw r.still.0 at f.1, r.still.1))

pub reading_stops : {P G : Type 0} (step : P → Packet → AnswerState P G) (start : AnswerState P G) (s a b : Wire) (room : ℕ) (p : P) (extra : List Packet → Type 0) (c : BreakCause) → IsReading step start s a room p extra → IsPartial a.unread → FillFails a b (Err c) → IsHeard step start s b (Broke c) extra
reading_stops step start s a b room p extra cause.Ended r part f = reading_ended step start s a b room p extra r part f
reading_stops step start s a b room p extra cause.LinkFault r part f = reading_faulty step start s a b room p extra r part f
reading_stops step start s a b room p extra cause.BadPacket r part f = absurd f
reading_stops step start s a b room p extra cause.BadHandshake r part f = absurd f
reading_stops step start s a b room p extra cause.UnknownStatus r part f = absurd f
reading_stops step start s a b room p extra cause.StrangeDelay r part f = absurd f
reading_stops step start s a b room p extra cause.TooLong r part f = absurd f
reading_stops step start s a b room p extra cause.StrangePath r part f = absurd f
reading_stops step start s a b room p extra cause.ListRefused r part f = absurd f

-- one more packet

-- the front packet leaves the unread bytes
abbrev pub Skips : Wire → Packet → Wire → Type 0
Skips a x b = Stands x a.unread × (b ≡ record a { unread = drop (size x) a.unread })

pub still_skip : (s a b : Wire) (x : Packet) → Skips a x b → Still s a → Still s b
still_skip s a b x k h = rw k.1 h

pub reading_on : {P G : Type 0} (step : P → Packet → AnswerState P G) (start : AnswerState P G) (s a b : Wire) (room left : ℕ) (p q : P) (before after : List Packet → Type 0) (x : Packet) → IsReading step start s a room p before → Skips a x b
    → left + size x ≡ room → step p x ≡ On q → ((ps : List Packet) → outcome step limit start ps ≡ On p → before ps → after (ps ++ x ∷ [])) → IsReading step start s b left q after
reading_on step start s a b room left p q before after x r k fits next more =
    let no : ltb room (size x) ≡ false = le-ltb room (size x) (omega arith) in
    record {
      packets = r.packets ++ x ∷ [];
      used = r.used ++ take (size x) a.unread;
      spelled = spells_more r.packets r.used x (take (size x) a.unread) r.spelled k.0;
      took = took_skip s a b r.used (size x) r.took k.1;
      gives = outcome_more step limit room start r.packets p x r.gives r.fits ∙ rw (no, next) refl;
      fits = let f = r.fits in omega (arith, total_more r.packets x);
      still = still_skip s a b x k r.still;
      done = more r.packets r.gives r.done;
    }

-- a packet ends the answer
pub heard_packet : {P G : Type 0} (step : P → Packet → AnswerState P G) (start t : AnswerState P G) (s a b : Wire) (room : ℕ) (p : P) (end : Ends G) (before after : List Packet → Type 0) (x : Packet) → IsReading step start s a room p before → Skips a x b
    → outcome step room (On p) (x ∷ []) ≡ t → Stops t s b end → ((ps : List Packet) → outcome step limit start ps ≡ On p → before ps → after (ps ++ x ∷ [])) → IsHeard step start s b end after
heard_packet step start t s a b room p end before after x r k gives stops more = record {
  packets = r.packets ++ x ∷ [];
  used = r.used ++ take (size x) a.unread;
  spelled = spells_more r.packets r.used x (take (size x) a.unread) r.spelled k.0;
  took = took_skip s a b r.used (size x) r.took k.1;
  stops = rw (outcome_more step limit room start r.packets p x r.gives r.fits, gives) stops;
  done = more r.packets r.gives r.done;
}

pub too_long : {P G : Type 0} (step : P → Packet → AnswerState P G) (room : ℕ) (p : P) (x : Packet) → room < size x → outcome step room (On p) (x ∷ []) ≡ Broken cause.TooLong
too_long step room p x lt = rw (lt-ltb room (size x) lt) refl

pub fitting : {P G : Type 0} (step : P → Packet → AnswerState P G) (room : ℕ) (p : P) (x : Packet) (t : AnswerState P G) → size x ≤ room → step p x ≡ t → outcome step room (On p) (x ∷ []) ≡ t
fitting step room p x t le e = rw (le-ltb room (size x) le, e) refl

pub reading_long : {P G : Type 0} (step : P → Packet → AnswerState P G) (start : AnswerState P G) (s a b : Wire) (room : ℕ) (p : P) (before after : List Packet → Type 0) (x : Packet) → IsReading step start s a room p before → Skips a x b
    → room < size x → ((ps : List Packet) → outcome step limit start ps ≡ On p → before ps → after (ps ++ x ∷ [])) → IsHeard step start s b (Broke cause.TooLong) after
reading_long step start s a b room p before after x r k lt more =
    heard_packet step start (Broken cause.TooLong) s a b room p (Broke cause.TooLong) before after x r k (too_long step room p x lt) (refl, still_skip s a b x k r.still) more

pub reading_done : {P G : Type 0} (step : P → Packet → AnswerState P G) (start : AnswerState P G) (s a b : Wire) (room : ℕ) (p : P) (g : G) (before after : List Packet → Type 0) (x : Packet) → IsReading step start s a room p before → Skips a x b
    → size x ≤ room → step p x ≡ Done g → ((ps : List Packet) → outcome step limit start ps ≡ On p → before ps → after (ps ++ x ∷ [])) → IsHeard step start s b (Good g) after
reading_done step start s a b room p g before after x r k le e more =
    heard_packet step start (Done g) s a b room p (Good g) before after x r k (fitting step room p x (Done g) le e) (refl, still_skip s a b x k r.still) more

pub reading_broken : {P G : Type 0} (step : P → Packet → AnswerState P G) (start : AnswerState P G) (s a b : Wire) (room : ℕ) (p : P) (c : BreakCause) (before after : List Packet → Type 0) (x : Packet) → IsReading step start s a room p before → Skips a x b
    → size x ≤ room → step p x ≡ Broken c → ((ps : List Packet) → outcome step limit start ps ≡ On p → before ps → after (ps ++ x ∷ [])) → IsHeard step start s b (Broke c) after
reading_broken step start s a b room p c before after x r k le e more =
    heard_packet step start (Broken c) s a b room p (Broke c) before after x r k (fitting step room p x (Broken c) le e) (refl, still_skip s a b x k r.still) more

-- nothing yet
pub reading_starts : {P G : Type 0} (step : P → Packet → AnswerState P G) (p : P) (s : Wire) (extra : List Packet → Type 0) → extra [] → IsReading step (On p) s s limit p extra
reading_starts step p s extra h = record {
  packets = [];
  used = [];
  spelled = refl;
  gives = refl;
  fits = omega arith;
  took = took_nothing s;
  still = (refl, refl);
  done = h;
}

-- less may be said of what was done
pub heard_less : {P G : Type 0} (step : P → Packet → AnswerState P G) (start : AnswerState P G) (old new : Wire) (end : Ends G) (extra less : List Packet → Type 0) → IsHeard step start old new end extra → ((ps : List Packet) → extra ps → less ps) → IsHeard step start old new end less
heard_less step start old new end extra less h f = record { packets = h.packets; used = h.used; spelled = h.spelled; took = h.took; stops = h.stops; done = f h.packets h.done }

-- the same, if what is said of the packets needs their outcome
pub reading_on_with : {P G : Type 0} (step : P → Packet → AnswerState P G) (start : AnswerState P G) (s a b : Wire) (room left : ℕ) (p q : P) (before after : List Packet → Type 0) (x : Packet) → IsReading step start s a room p before → Skips a x b
    → left + size x ≡ room → step p x ≡ On q → ((ps : List Packet) → outcome step limit start (ps ++ x ∷ []) ≡ On q → before ps → after (ps ++ x ∷ [])) → IsReading step start s b left q after
reading_on_with step start s a b room left p q before after x r k fits next more =
    let no : ltb room (size x) ≡ false = le-ltb room (size x) (omega arith) in
    let gives = outcome_more step limit room start r.packets p x r.gives r.fits ∙ rw (no, next) refl in
    record {
      packets = r.packets ++ x ∷ [];
      used = r.used ++ take (size x) a.unread;
      spelled = spells_more r.packets r.used x (take (size x) a.unread) r.spelled k.0;
      took = took_skip s a b r.used (size x) r.took k.1;
      gives = gives;
      fits = let f = r.fits in omega (arith, total_more r.packets x);
      still = still_skip s a b x k r.still;
      done = more r.packets gives r.done;
    }

pub heard_with : {P G : Type 0} (step : P → Packet → AnswerState P G) (start t : AnswerState P G) (s a b : Wire) (room : ℕ) (p : P) (end : Ends G) (before after : List Packet → Type 0) (x : Packet) → IsReading step start s a room p before → Skips a x b
    → outcome step room (On p) (x ∷ []) ≡ t → Stops t s b end → ((ps : List Packet) → outcome step limit start (ps ++ x ∷ []) ≡ t → before ps → after (ps ++ x ∷ [])) → IsHeard step start s b end after
heard_with step start t s a b room p end before after x r k gives stops more =
    let all = outcome_more step limit room start r.packets p x r.gives r.fits ∙ gives in
    record {
      packets = r.packets ++ x ∷ [];
      used = r.used ++ take (size x) a.unread;
      spelled = spells_more r.packets r.used x (take (size x) a.unread) r.spelled k.0;
      took = took_skip s a b r.used (size x) r.took k.1;
      stops = rw all stops;
      done = more r.packets all r.done;
    }

-- a request was sent, and nothing has come since
pub took_from : (old mid new : Wire) (used : List ℕ) (text : List ℕ) → mid ≡ record old { sent = grown old.sent text } → Took mid new used → Took old new used
took_from old mid new used text e t = record {
  came = t.came;
  taken = t.taken ∙ ap (λ (w : Wire). grown w.taken t.came) e;
  left = ap (λ (w : Wire). w.left) (sym e) ∙ t.left;
  unread = ap (λ (w : Wire). w.unread ++ t.came) (sym e) ∙ t.unread;
}

pub still_from : (old mid new : Wire) (text : List ℕ) → mid ≡ record old { sent = grown old.sent text } → Still mid new → Still old new
still_from old mid new text e h = (h.0 ∙ ap (λ (w : Wire). w.faults) e, h.1 ∙ ap (λ (w : Wire). w.ends) e)

open_from : {P G : Type 0} (p : P) (old mid new : Wire) (text : List ℕ) (end : Ends G) → mid ≡ record old { sent = grown old.sent text } → Stops {G = G} (On p) mid new end → Stops {G = G} (On p) old new end
open_from p old mid new text (Good g) e h = absurd h
open_from p old mid new text OutOfMemory e h = absurd h
open_from p old mid new text (Broke cause.BadPacket) e h = (h.0, still_from old mid new text e h.1)
open_from p old mid new text (Broke cause.Ended) e h = (h.0, subst (λ (w : Wire). Rose w.ends new.ends) e h.1, h.2 ∙ ap (λ (w : Wire). w.faults) e, h.3)
open_from p old mid new text (Broke cause.LinkFault) e h = (h.0, subst (λ (w : Wire). Rose w.faults new.faults) e h.1, h.2 ∙ ap (λ (w : Wire). w.ends) e)
open_from p old mid new text (Broke cause.BadHandshake) e h = absurd h
open_from p old mid new text (Broke cause.UnknownStatus) e h = absurd h
open_from p old mid new text (Broke cause.StrangeDelay) e h = absurd h
open_from p old mid new text (Broke cause.TooLong) e h = absurd h
open_from p old mid new text (Broke cause.StrangePath) e h = absurd h
open_from p old mid new text (Broke cause.ListRefused) e h = absurd h

pub stops_from : {P G : Type 0} (t : AnswerState P G) (old mid new : Wire) (text : List ℕ) (end : Ends G) → mid ≡ record old { sent = grown old.sent text } → Stops t mid new end → Stops t old new end
stops_from (On p) old mid new text end e h = open_from p old mid new text end e h
stops_from (Done g) old mid new text end e h = (h.0, still_from old mid new text e h.1)
stops_from (Broken c) old mid new text end e h = (h.0, still_from old mid new text e h.1)
stops_from Late old mid new text end e h = absurd h

pub heard_from : {P G : Type 0} (step : P → Packet → AnswerState P G) (start : AnswerState P G) (old mid new : Wire) (text : List ℕ) (end : Ends G) (extra : List Packet → Type 0) → mid ≡ record old { sent = grown old.sent text } → IsHeard step start mid new end extra → IsHeard step start old new end extra
heard_from step start old mid new text end extra e h = record {
  packets = h.packets;
  used = h.used;
  spelled = h.spelled;
  done = h.done;
  took = took_from old mid new h.used text e h.took;
  stops = stops_from (outcome step limit start h.packets) old mid new text end e h.stops;
}

-- a request was sent whole and its answer read, or not
pub answered : {P G : Type 0} (step : P → Packet → AnswerState P G) (start : AnswerState P G) (old mid new : Wire) (text : List ℕ) (end : Ends G) (extra : List Packet → Type 0) → mid ≡ record old { sent = grown old.sent text }
    → new.sent ≡ mid.sent → new.stage ≡ mid.stage → IsHeard step start mid new end extra → IsExchange step start text old new end extra
answered step start old mid new text end extra e se st h = inr (record {
  sent = se ∙ ap (λ (w : Wire). w.sent) e;
  stage = st ∙ ap (λ (w : Wire). w.stage) e;
  heard = heard_from step start old mid new text end extra e h;
})

pub unsent_fault : {P G : Type 0} (step : P → Packet → AnswerState P G) (start : AnswerState P G) (old new : Wire) (text : List ℕ) (extra : List Packet → Type 0) → SendsOn {T = ⊤} text old new (Err send.Failed) → extra []
    → IsExchange step start text old new (Broke cause.LinkFault) extra
unsent_fault step start old new text extra h none = inl (record { sent = h.0; why = h.1; done = none })

pub unsent_memory : {P G : Type 0} (step : P → Packet → AnswerState P G) (start : AnswerState P G) (old new : Wire) (text : List ℕ) (extra : List Packet → Type 0) → SendsOn {T = ⊤} text old new (Err send.NoMemory) → extra []
    → IsExchange step start text old new OutOfMemory extra
unsent_memory step start old new text extra h none = inl (record { sent = h.0; why = h.1; done = none })

-- nothing was sent
pub sent_nothing : (text : List ℕ) (w : Wire) → IsSentPart text w w
sent_nothing text w = record {
  part = record { front = []; after = text; cut = refl; told = sym (grown_nothing w.sent); proper = λ h. h };
  stays = refl;
}

pub unbegun : {P G : Type 0} (step : P → Packet → AnswerState P G) (start : AnswerState P G) (w : Wire) (text : List ℕ) (extra : List Packet → Type 0) → extra [] → IsExchange step start text w w OutOfMemory extra
unbegun step start w text extra none = inl (record { sent = sent_nothing text w; why = refl; done = none })
