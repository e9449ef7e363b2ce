-- One output has one answer at its front, whatever came of it.
use Rattle.std.proofs.Common.{◌≡◌, inl, inr, ℕ, List, [], ◌∷◌, ◌++◌, Option, Some, None, refl, sym, ap, subst, ◌∙◌, append_assoc}
use Rattle.std.proofs.lemmas.List.{append-nil}
use Rattle.pkt_line.specs.Packets.{Packet, SpellAll, IsPartial, HasFault, HasNoPacket}
use Rattle.pkt_line.specs.Reader.{IsFaultOf}
use Rattle.pkt_line.specs.Reading.{Reading, with_bytes}
use Rattle.pkt_line.specs.declared.reader.PktFault.{PktFault}
use Rattle.pkt_line.specs.declared.reader.PktFault.TheVariants as fault
use Rattle.filter_words.specs.Outcomes.{outcome, limit, IsEnd}
use Rattle.filter_words.specs.Answer.{IsAnswer, StopsWith}
use Rattle.filter_words.specs.Listing.{GoodList, Listed, Aborted}
use Rattle.filter_words.specs.Handshake.{handshake_step, handshake_start}
use Rattle.filter_words.specs.declared.reply.Caps.{Caps}
use Rattle.filter_words.specs.declared.reply.BreakCause.TheVariants as cause
use Rattle.filter_words.specs.declared.reply.ListReply.{ListReply}
use Rattle.filter_words.specs.declared.answer_state.AnswerState.{AnswerState}
use Rattle.filter_words.specs.declared.answer_state.AnswerState.TheVariants.{On, Done, Broken, Late}
use Rattle.edge_kit.specs.Faults.{Rose}
use Rattle.edge_kit.specs.Links.{led, Left, LeftUntold, LeftBytes, LeftAnswers, TellsLeft}
use Rattle.filter_proto.specs.Wires.{Wire}
use Rattle.filter_proto.specs.Exchanges.{Ends, Good, Broke, OutOfMemory, Stops, Unsent, IsHeard, IsExchange}
use Rattle.filter_proto.specs.Openings.{IsOpening}
use Rattle.filter_proto.specs.Lists.{list_reply_of}
use Rattle.filter_proto.proofs.More.{heard_less}
use Rattle.filter_proto.specs.Complete.{BeginsGood, Gives, GivesList, IsComplete, IsSettled, IsHeardOf, IsHeardOnce}

abbrev done_as : (P : Type 0) {G : Type 0} → G → AnswerState P G
done_as P g = Done g

abbrev on_as : {P : Type 0} (G : Type 0) → P → AnswerState P G
on_as G p = On p

-- the laws of packets and answers on which this rests

abbrev pub FaultLaw : Type 0
FaultLaw = (f : PktFault) (r : Reading) (more : List ℕ) → IsFaultOf f r → IsFaultOf f (with_bytes more r)

abbrev pub SameLaw : (P G : Type 0) → (P → Packet → AnswerState P G) → AnswerState P G → Type 0
SameLaw P G step start = (ps qs : List Packet) (a b x y : List ℕ) (u v : AnswerState P G) → SpellAll ps a → SpellAll qs b → a ++ x ≡ b ++ y
    → outcome step limit start ps ≡ u → outcome step limit start qs ≡ v → IsEnd u → IsEnd v → (ps ≡ qs) × (a ≡ b) × (u ≡ v)

abbrev pub LongerLaw : (P G : Type 0) → (P → Packet → AnswerState P G) → AnswerState P G → Type 0
LongerLaw P G step start = (ps qs : List Packet) (a b x y : List ℕ) (p : P) (v : AnswerState P G) → SpellAll ps a → SpellAll qs b → a ++ x ≡ b ++ y → HasNoPacket x
    → outcome step limit start ps ≡ On p → outcome step limit start qs ≡ v → IsEnd v → ⊥

abbrev pub HeardLaw : (P G : Type 0) → (P → Packet → AnswerState P G) → AnswerState P G → Type 0
HeardLaw P G step start = (a x c b y z : List ℕ) (u v : AnswerState P G) → IsAnswer step start a x c u → IsAnswer step start b y z v → a ++ (x ++ c) ≡ b ++ (y ++ z)
    → (u ≡ v) × ((g : G) → u ≡ Done g → a ≡ b)

fault_more : FaultLaw → (bytes more : List ℕ) → HasFault bytes → HasFault (bytes ++ more)
fault_more law bytes more (inl h) = let f = law (fault.BadDigits 0) (record { unread = bytes; place = 0 }) more (h, refl) in inl f.0
fault_more law bytes more (inr h) = let f = law (fault.BadLength 0 h.0) (record { unread = bytes; place = 0 }) more (h.1, refl) in inr (h.0, f.0)

-- whatever was done with the packets
pub heard_plain : {P G : Type 0} (step : P → Packet → AnswerState P G) (start : AnswerState P G) (old new : Wire) (end : Ends G) (extra : List Packet → Type 0) → IsHeard step start old new end extra → IsHeard step start old new end (λ _. Unit {0})
heard_plain step start old new end extra h = heard_less step start old new end extra _ h (λ ps e. tt)

pub exchange_plain : {P G : Type 0} (step : P → Packet → AnswerState P G) (start : AnswerState P G) (text : List ℕ) (old new : Wire) (end : Ends G) (extra : List Packet → Type 0) → IsExchange step start text old new end extra → IsExchange step start text old new end (λ _. Unit {0})
exchange_plain step start text old new end extra (inl h) = inl (record { sent = h.sent; why = h.why; done = tt })
exchange_plain step start text old new end extra (inr h) = inr (record { sent = h.sent; stage = h.stage; heard = heard_plain step start old new end extra h.heard })

-- completeness

-- what was ahead before, and what is now
pub record IsAhead (came left : List ℕ) (now : Left) : Type 0 where
  pub ahead : List ℕ
  pub told : now ≡ LeftBytes ahead
  pub whole : left ≡ came ++ ahead

ahead_of : (came left : List ℕ) (now : Left) → led came now ≡ LeftBytes left → IsAhead came left now
ahead_of came left LeftUntold e = absurd (cc e)
ahead_of came left (LeftAnswers r) e = absurd (cc e)
ahead_of came left (LeftBytes l) e = record { ahead = l; told = refl; whole = let w : came ++ l ≡ left = cc e in sym w }

-- the whole of what is left unread, by what an answer used
joins : (unread came ahead used rest : List ℕ) → unread ++ came ≡ used ++ rest → unread ++ (came ++ ahead) ≡ used ++ (rest ++ ahead)
joins unread came ahead used rest e = sym (append_assoc unread came ahead) ∙ (ap (λ (x : List ℕ). x ++ ahead) e ∙ append_assoc used rest ahead)

nothing_ahead : (ahead : List ℕ) (now : Left) → now ≡ LeftBytes ahead → TellsLeft now [] → ahead ≡ []
nothing_ahead ahead LeftUntold e t = absurd (cc e)
nothing_ahead ahead (LeftAnswers r) e t = absurd (cc e)
nothing_ahead ahead (LeftBytes l) e t = let w : l ≡ ahead = cc e in sym w ∙ t

module _ {P G : Type 0} (step : P → Packet → AnswerState P G) (start : AnswerState P G) (faults : FaultLaw) (same : SameLaw P G step start) (longer : LongerLaw P G step start) where
  open_gives : (p : P) (ps : List Packet) (used : List ℕ) (old new : Wire) (end : Ends G) (ahead : List ℕ) (g : G) (b : BeginsGood step start old g) → SpellAll ps used → outcome step limit start ps ≡ On p
      → new.left ≡ LeftBytes ahead → used ++ (new.unread ++ ahead) ≡ b.used ++ b.rest → Stops {G = G} (On p) old new end → Gives g old new end
  open_gives p ps used old new (Good x) ahead g b sp out told e h = absurd h
  open_gives p ps used old new OutOfMemory ahead g b sp out told e h = absurd h
  open_gives p ps used old new (Broke cause.BadPacket) ahead g b sp out told e h =
      absurd (longer ps b.packets used b.used (new.unread ++ ahead) b.rest p (Done g) sp b.spelled e (inr (fault_more faults new.unread ahead h.0)) out b.good tt)
  open_gives p ps used old new (Broke cause.Ended) ahead g b sp out told e h =
      let none : ahead ≡ [] = nothing_ahead ahead new.left told h.3 in
      let part : IsPartial (new.unread ++ ahead) = subst IsPartial (sym (ap (λ (x : List ℕ). new.unread ++ x) none ∙ append-nil new.unread)) h.0 in
      absurd (longer ps b.packets used b.used (new.unread ++ ahead) b.rest p (Done g) sp b.spelled e (inl part) out b.good tt)
  open_gives p ps used old new (Broke cause.LinkFault) ahead g b sp out told e h = (refl, h.1)
  open_gives p ps used old new (Broke cause.BadHandshake) ahead g b sp out told e h = absurd h
  open_gives p ps used old new (Broke cause.UnknownStatus) ahead g b sp out told e h = absurd h
  open_gives p ps used old new (Broke cause.StrangeDelay) ahead g b sp out told e h = absurd h
  open_gives p ps used old new (Broke cause.TooLong) ahead g b sp out told e h = absurd h
  open_gives p ps used old new (Broke cause.StrangePath) ahead g b sp out told e h = absurd h
  open_gives p ps used old new (Broke cause.ListRefused) ahead g b sp out told e h = absurd h

  done_gives : (x g : G) (old new : Wire) (end : Ends G) → done_as P x ≡ Done g → end ≡ Good x → Gives g old new end
  done_gives x g old new end e f = rw f (let w : x ≡ g = cc e in w)

  any_gives : (t : AnswerState P G) (ps : List Packet) (used : List ℕ) (old new : Wire) (end : Ends G) (ahead : List ℕ) (g : G) (b : BeginsGood step start old g) → SpellAll ps used → outcome step limit start ps ≡ t
      → new.left ≡ LeftBytes ahead → used ++ (new.unread ++ ahead) ≡ b.used ++ b.rest → Stops t old new end → Gives g old new end
  any_gives (On p) ps used old new end ahead g b sp out told e h = open_gives p ps used old new end ahead g b sp out told e h
  any_gives (Done x) ps used old new end ahead g b sp out told e h =
      done_gives x g old new end (same ps b.packets used b.used (new.unread ++ ahead) b.rest (Done x) (Done g) sp b.spelled e out b.good tt tt).2 h.0
  any_gives (Broken c) ps used old new end ahead g b sp out told e h =
      let w = (same ps b.packets used b.used (new.unread ++ ahead) b.rest (Broken c) (Done g) sp b.spelled e out b.good tt tt).2 in absurd (cc w)
  any_gives Late ps used old new end ahead g b sp out told e h = absurd h

  pub heard_gives : (old new : Wire) (end : Ends G) (extra : List Packet → Type 0) → IsHeard step start old new end extra → IsComplete step start old new end
  heard_gives old new end extra h g b =
      let a = ahead_of h.took.came b.left new.left (sym h.took.left ∙ b.told) in
      let e : h.used ++ (new.unread ++ a.ahead) ≡ b.used ++ b.rest =
      sym (joins old.unread h.took.came a.ahead h.used new.unread h.took.unread) ∙ (ap (λ (x : List ℕ). old.unread ++ x) (sym a.whole) ∙ b.whole) in
      any_gives (outcome step limit start h.packets) h.packets h.used old new end a.ahead g b h.spelled refl a.told e h.stops

  pub unsent_gives : (old new : Wire) (end : Ends G) → Unsent old new end → IsComplete step start old new end
  unsent_gives old new (Good x) h g b = absurd h
  unsent_gives old new OutOfMemory h g b = tt
  unsent_gives old new (Broke cause.LinkFault) h g b = (refl, h)
  unsent_gives old new (Broke cause.BadPacket) h g b = absurd h
  unsent_gives old new (Broke cause.Ended) h g b = absurd h
  unsent_gives old new (Broke cause.BadHandshake) h g b = absurd h
  unsent_gives old new (Broke cause.UnknownStatus) h g b = absurd h
  unsent_gives old new (Broke cause.StrangeDelay) h g b = absurd h
  unsent_gives old new (Broke cause.TooLong) h g b = absurd h
  unsent_gives old new (Broke cause.StrangePath) h g b = absurd h
  unsent_gives old new (Broke cause.ListRefused) h g b = absurd h

  pub exchange_gives : (text : List ℕ) (old new : Wire) (end : Ends G) (extra : List Packet → Type 0) → IsExchange step start text old new end extra → IsComplete step start old new end
  exchange_gives text old new end extra (inl h) = unsent_gives old new end h.why
  exchange_gives text old new end extra (inr h) = heard_gives old new end extra h.heard

-- by the reply to a list
pub list_gives : (old new : Wire) (end : Ends GoodList) (r : ListReply) (g : GoodList) → r ≡ list_reply_of end → Gives g old new end → GivesList g old new r
list_gives old new (Good (Listed [])) r g e h = rw e (rw (sym h) refl)
list_gives old new (Good (Listed (n ∷ ns))) r g e h = rw e (rw (sym h) refl)
list_gives old new (Good Aborted) r g e h = rw e (rw (sym h) refl)
list_gives old new (Broke why) r g e h = rw e h
list_gives old new OutOfMemory r g e h = rw e tt

-- of a handshake
pub opening_gives : FaultLaw → SameLaw _ _ handshake_step handshake_start → LongerLaw _ _ handshake_step handshake_start → (old new : Wire) (end : Ends Caps) → IsOpening old new end → IsComplete handshake_step handshake_start old new end
opening_gives f s l old new end (inl h) = unsent_gives handshake_step handshake_start f s l old new end h.why
opening_gives f s l old new end (inr (inl h)) = heard_gives handshake_step handshake_start f s l old new end _ h.heard
opening_gives f s l old new end (inr (inr (inl h))) = unsent_gives handshake_step handshake_start f s l old new end (as_before end h.mid.faults old.faults h.hello.still.0 h.unsent.why)
  where
    as_before : (e : Ends Caps) (m o : ℕ) → m ≡ o → Unsent (record h.mid { faults = m }) new e → Unsent (record old { faults = o }) new e
    as_before (Good x) m o same w = absurd w
    as_before OutOfMemory m o same w = w ∙ same
    as_before (Broke cause.LinkFault) m o same w = subst (λ (n : ℕ). Rose n new.faults) same w
    as_before (Broke cause.BadPacket) m o same w = absurd w
    as_before (Broke cause.Ended) m o same w = absurd w
    as_before (Broke cause.BadHandshake) m o same w = absurd w
    as_before (Broke cause.UnknownStatus) m o same w = absurd w
    as_before (Broke cause.StrangeDelay) m o same w = absurd w
    as_before (Broke cause.TooLong) m o same w = absurd w
    as_before (Broke cause.StrangePath) m o same w = absurd w
    as_before (Broke cause.ListRefused) m o same w = absurd w
opening_gives f s l old new end (inr (inr (inr h))) = heard_gives handshake_step handshake_start f s l old new end _ h.heard

-- two answers from one output

abbrev state_of : {P G : Type 0} → Ends G → AnswerState P G
state_of (Good g) = Done g
state_of (Broke why) = Broken why
state_of OutOfMemory = Late

open_stops : {P G : Type 0} (p : P) (old new : Wire) (end : Ends G) (ahead : List ℕ) → IsSettled end → (end ≡ Broke cause.Ended → ahead ≡ []) → Stops {G = G} (On p) old new end → StopsWith (on_as G p) new.unread ahead (state_of end)
open_stops p old new (Good x) ahead s f h = absurd h
open_stops p old new OutOfMemory ahead s f h = absurd h
open_stops p old new (Broke cause.BadPacket) ahead s f h = inl (refl, h.0)
open_stops p old new (Broke cause.Ended) ahead s f h = inr (refl, h.0, f refl)
open_stops p old new (Broke cause.LinkFault) ahead s f h = absurd s
open_stops p old new (Broke cause.BadHandshake) ahead s f h = absurd h
open_stops p old new (Broke cause.UnknownStatus) ahead s f h = absurd h
open_stops p old new (Broke cause.StrangeDelay) ahead s f h = absurd h
open_stops p old new (Broke cause.TooLong) ahead s f h = absurd h
open_stops p old new (Broke cause.StrangePath) ahead s f h = absurd h
open_stops p old new (Broke cause.ListRefused) ahead s f h = absurd h

any_stops : {P G : Type 0} (t : AnswerState P G) (old new : Wire) (end : Ends G) (ahead : List ℕ) → IsSettled end → (end ≡ Broke cause.Ended → ahead ≡ []) → Stops t old new end → StopsWith t new.unread ahead (state_of end)
any_stops (On p) old new end ahead s f h = open_stops p old new end ahead s f h
any_stops (Done x) old new end ahead s f h = ap state_of h.0
any_stops (Broken c) old new end ahead s f h = ap state_of h.0
any_stops Late old new end ahead s f h = absurd h

is_answer : {P G : Type 0} (step : P → Packet → AnswerState P G) (start : AnswerState P G) (output : List ℕ) (old new : Wire) (end : Ends G) (h : IsHeardOf step start output old new end) → IsAnswer step start h.heard.used new.unread h.ahead (state_of end)
is_answer step start output old new end h = record {
  packets = h.heard.packets;
  spelled = h.heard.spelled;
  stops = any_stops (outcome step limit start h.heard.packets) old new end h.ahead h.settled h.ended h.heard.stops;
}

same_end : {P G : Type 0} (x y : Ends G) → IsSettled x → state_of {P = P} x ≡ state_of y → x ≡ y
same_end (Good a) (Good b) s e = let w : a ≡ b = cc e in ap Good w
same_end (Good a) (Broke b) s e = absurd (cc e)
same_end (Good a) OutOfMemory s e = absurd (cc e)
same_end (Broke a) (Good b) s e = absurd (cc e)
same_end (Broke a) (Broke b) s e = let w : a ≡ b = cc e in ap Broke w
same_end (Broke a) OutOfMemory s e = absurd (cc e)
same_end OutOfMemory y s e = absurd s

pub is_done : {P G : Type 0} (t : AnswerState P G) (old new : Wire) (g : G) → Stops t old new (Good g) → t ≡ Done g
is_done (On p) old new g h = absurd h
is_done (Done x) old new g h = let e = h.0 in let w : g ≡ x = cc e in ap Done (sym w)
is_done (Broken c) old new g h = let e = h.0 in absurd (cc e)
is_done Late old new g h = absurd h

-- a good answer that was heard is the one with which what was left unread began
pub heard_packets : {P G : Type 0} (step : P → Packet → AnswerState P G) (start : AnswerState P G) → SameLaw P G step start → (old new : Wire) (x g : G) (extra : List Packet → Type 0) (h : IsHeard step start old new (Good x) extra) (b : BeginsGood step start old g)
    → h.packets ≡ b.packets
heard_packets step start same old new x g extra h b =
    let a = ahead_of h.took.came b.left new.left (sym h.took.left ∙ b.told) in
    let e : h.used ++ (new.unread ++ a.ahead) ≡ b.used ++ b.rest =
    sym (joins old.unread h.took.came a.ahead h.used new.unread h.took.unread) ∙ (ap (λ (u : List ℕ). old.unread ++ u) (sym a.whole) ∙ b.whole) in
    (same h.packets b.packets h.used b.used (new.unread ++ a.ahead) b.rest (Done x) (Done g) h.spelled b.spelled e (is_done (outcome step limit start h.packets) old new x h.stops) b.good tt tt).0

pub heard_once : (P G : Type 0) (step : P → Packet → AnswerState P G) (start : AnswerState P G) → SameLaw P G step start → HeardLaw P G step start → IsHeardOnce P G step start
heard_once P G step start same law output a b c d x y one two =
    (same_end {P = P} x y one.settled (law one.heard.used b.unread one.ahead two.heard.used d.unread two.ahead (state_of x) (state_of y) (is_answer step start output a b x one) (is_answer step start output c d y two) whole).0, packets)
  where
    whole : one.heard.used ++ (b.unread ++ one.ahead) ≡ two.heard.used ++ (d.unread ++ two.ahead)
    whole = sym (joins a.unread one.heard.took.came one.ahead one.heard.used b.unread one.heard.took.unread) ∙ (sym one.whole ∙ (two.whole ∙ joins c.unread two.heard.took.came two.ahead two.heard.used d.unread two.heard.took.unread))

    ends : x ≡ y
    ends = same_end {P = P} x y one.settled (law one.heard.used b.unread one.ahead two.heard.used d.unread two.ahead (state_of x) (state_of y) (is_answer step start output a b x one) (is_answer step start output c d y two) whole).0

    packets : (g : G) → x ≡ Good g → (one.heard.packets ≡ two.heard.packets) × (one.heard.used ≡ two.heard.used)
    packets g e =
        let first = is_done (outcome step limit start one.heard.packets) a b g (subst (λ (z : Ends G). Stops (outcome step limit start one.heard.packets) a b z) e one.heard.stops) in
        let second = is_done (outcome step limit start two.heard.packets) c d g (subst (λ (z : Ends G). Stops (outcome step limit start two.heard.packets) c d z) (sym ends ∙ e) two.heard.stops) in
        let r = same one.heard.packets two.heard.packets one.heard.used two.heard.used (b.unread ++ one.ahead) (d.unread ++ two.ahead) (Done g) (Done g) one.heard.spelled two.heard.spelled whole first second tt tt in
        (r.0, r.1)
