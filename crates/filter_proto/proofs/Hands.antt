-- One more packet of a handshake.
use Rattle.std.proofs.Common.{◌≡◌, ◌⊎◌, inl, inr, ℕ, Bool, true, false, List, [], ◌∷◌, ◌++◌, Ok, Err, refl, sym, ap, subst, ◌∙◌, append_assoc}
use Rattle.std.specs.Prelude.{if◌then◌else◌, codes, ◌||◌}
use Rattle.std.specs.Str.{bytes_eq}
use Rattle.std.proofs.lemmas.List.{append-nil}
use Rattle.pkt_line.specs.Packets.{Packet, Payload, Flush}
use Rattle.filter_words.specs.Outcomes.{outcome, limit}
use Rattle.filter_words.specs.Words.{without_lf}
use Rattle.filter_words.specs.Handshake.{handshake_step, handshake_start, no_caps, IsHello}
use Rattle.filter_words.specs.declared.reply.BreakCause.TheVariants as cause
use Rattle.filter_words.specs.declared.reply.Caps.{Caps}
use Rattle.filter_words.specs.declared.handshake.HandshakePhase.{HandshakePhase}
use Rattle.filter_words.specs.declared.handshake.HandshakePhase.TheVariants.{Server, Version, EndOfHello, Capabilities}
use Rattle.filter_words.specs.declared.answer_state.AnswerState.{AnswerState}
use Rattle.filter_words.specs.declared.answer_state.AnswerState.TheVariants.{On, Done, Broken, Late}
use Rattle.filter_proto.specs.Wires.{Wire}
use Rattle.filter_proto.specs.Exchanges.{Ends, Good, Broke, IsReading, IsHeard}
use Rattle.filter_proto.specs.Openings.{LacksHello, BeginsHello, HelloBy, HelloWith, is_clean, has_clean, is_early, HandIs, TakesState}
use Rattle.filter_proto.specs.declared.handshake.HandReading.{HandReading}
use Rattle.filter_proto.specs.declared.handshake.HandStep.{HandStep}
use Rattle.filter_proto.specs.declared.handshake.HandStep.TheVariants as hand
use Rattle.filter_proto.proofs.More.{Skips, reading_on_with, heard_with, too_long, fitting, still_skip}

snoc_split : (ps : List Packet) (x : Packet) (front rest : List Packet) → ps ++ x ∷ [] ≡ front ++ rest → (front ≡ ps ++ x ∷ []) ⊎ ((r : List Packet) × (ps ≡ front ++ r))
snoc_split ps x [] rest e = inr (ps, refl)
snoc_split [] x (f ∷ []) rest e = let same : x ≡ f = cc in inl (ap (λ (y : Packet). y ∷ []) (sym same))
snoc_split [] x (f ∷ g ∷ gs) rest e = absurd (cc e)
snoc_split (p ∷ ps) x (f ∷ fs) rest e =
    let head : p ≡ f = cc in
    let tail : ps ++ x ∷ [] ≡ fs ++ rest = cc in
    elim (snoc_split ps x fs rest tail) [
      | inl h ↦ inl (ap (λ (y : Packet). y ∷ fs) (sym head) ∙ ap (λ (ys : List Packet). p ∷ ys) h)
      | inr h ↦ inr (h.0, ap (λ (y : Packet). y ∷ ps) head ∙ ap (λ (ys : List Packet). f ∷ ys) h.1)
    ]

lacks_more : (ps : List Packet) (x : Packet) → LacksHello ps → (IsHello (ps ++ x ∷ []) → ⊥) → LacksHello (ps ++ x ∷ [])
lacks_more ps x lacks none front rest e hello = elim (snoc_split ps x front rest e) [
  | inl h ↦ none (subst IsHello h hello)
  | inr h ↦ lacks front h.0 h.1 hello
]

begins_more : (ps : List Packet) (x : Packet) → BeginsHello ps → BeginsHello (ps ++ x ∷ [])
begins_more ps x h = (h.0, h.1 ++ x ∷ [], ap (λ (y : List Packet). y ++ x ∷ []) h.2 ∙ append_assoc h.0 h.1 (x ∷ []), h.3)

-- a packet after which no right first answer ends
stays_by : (p : HandshakePhase) (ps : List Packet) (x : Packet) → (IsHello (ps ++ x ∷ []) → ⊥) → HelloBy (is_early p) ps → HelloBy (is_early p) (ps ++ x ∷ [])
stays_by Server ps x none h = lacks_more ps x h none
stays_by Version ps x none h = lacks_more ps x h none
stays_by EndOfHello ps x none h = lacks_more ps x h none
stays_by (Capabilities c) ps x none h = begins_more ps x h

abbrev on_phase : HandshakePhase → AnswerState HandshakePhase Caps
on_phase q = On q

wanted_next : (b : Bool) (next q : HandshakePhase) → (let t : AnswerState HandshakePhase Caps = if b then On next else Broken cause.BadHandshake in t) ≡ On q → q ≡ next
wanted_next true next q e = cc
wanted_next false next q e = absurd (cc e)

on_more : (p q : HandshakePhase) (x : Packet) (ps : List Packet) → handshake_step p x ≡ On q → outcome handshake_step limit handshake_start (ps ++ x ∷ []) ≡ On q → HelloBy (is_early p) ps → HelloBy (is_early q) (ps ++ x ∷ [])
on_more Server q (Payload l) ps e out h =
    let v = wanted_next (bytes_eq (without_lf l) (codes "git-filter-server")) Version q e in
    rw v (lacks_more ps (Payload l) h (λ hello. cc (sym hello ∙ (out ∙ ap (λ (y : HandshakePhase). on_phase y) v))))
on_more Server q Flush ps e out h = absurd (cc e)
on_more Version q (Payload l) ps e out h =
    let v = wanted_next (bytes_eq (without_lf l) (codes "version=2")) EndOfHello q e in
    rw v (lacks_more ps (Payload l) h (λ hello. cc (sym hello ∙ (out ∙ ap (λ (y : HandshakePhase). on_phase y) v))))
on_more Version q Flush ps e out h = absurd (cc e)
on_more EndOfHello q (Payload l) ps e out h = absurd (cc e)
on_more EndOfHello q Flush ps e out h =
    let v : Capabilities no_caps ≡ q = cc in
    rw (sym v) (ps ++ Flush ∷ [], [], sym (append-nil (ps ++ Flush ∷ [])), out ∙ sym e)
on_more (Capabilities c) q (Payload l) ps e out h =
    let v : Capabilities (Rattle.filter_words.specs.Handshake.with_capability c l) ≡ q = cc in
    rw (sym v) (begins_more ps (Payload l) h)
on_more (Capabilities c) q Flush ps e out h = absurd (cc e)

pub or_false : (b : Bool) → b || false ≡ b
or_false true = refl
or_false false = refl

or_assoc : (a b c : Bool) → (a || b) || c ≡ a || (b || c)
or_assoc true b c = refl
or_assoc false b c = refl

-- whether a line announces `clean`, with one more packet
any_more : (ps : List Packet) (x : Packet) → has_clean (ps ++ x ∷ []) ≡ has_clean ps || is_clean x
any_more [] x = or_false (is_clean x)
any_more (p ∷ ps) x = ap (λ (b : Bool). is_clean p || b) (any_more ps x) ∙ sym (or_assoc (is_clean p) (has_clean ps) (is_clean x))

clean_more : (ps : List Packet) (x : Packet) (old new : Bool) → new ≡ old || is_clean x → has_clean ps ≡ old → has_clean (ps ++ x ∷ []) ≡ new
clean_more ps x old new e h = any_more ps x ∙ (ap (λ (b : Bool). b || is_clean x) h ∙ sym e)

pub hand_turn : (s a b : Wire) (room : ℕ) (p : HandshakePhase) (clean : Bool) (next : HandReading) (x : Packet) (step : HandStep) → IsReading handshake_step handshake_start s a room p (HelloWith (is_early p) clean) → Skips a x b
    → TakesState room p x step next.room next.phase → next.clean ≡ clean || is_clean x → HandIs (is_early p) s b step next
hand_turn s a b room p clean next x hand.On r k t c =
    reading_on_with handshake_step handshake_start s a b room next.room p next.phase (HelloWith (is_early p) clean) (HelloWith (is_early next.phase) next.clean) x r k t.0 t.1
    (λ ps out h. (on_more p next.phase x ps t.1 out h.0, clean_more ps x clean next.clean c h.1))
hand_turn s a b room p clean next x (hand.End (Ok caps)) r k t c =
    heard_with handshake_step handshake_start (Done caps) s a b room p (Good caps) (HelloWith (is_early p) clean) (HelloWith (is_early p) next.clean) x r k (fitting handshake_step room p x (Done caps) t.0 t.1) (refl, still_skip s a b x k r.still)
    (λ ps out h. (stays_by p ps x (λ hello. cc (sym hello ∙ out)) h.0, clean_more ps x clean next.clean c h.1))
hand_turn s a b room p clean next x (hand.End (Err why)) r k (inl t) c =
    rw t.1 (heard_with handshake_step handshake_start (Broken cause.TooLong) s a b room p (Broke cause.TooLong) (HelloWith (is_early p) clean) (HelloWith (is_early p) next.clean) x r k (too_long handshake_step room p x t.0) (refl, still_skip s a b x k r.still)
    (λ ps out h. (stays_by p ps x (λ hello. cc (sym hello ∙ out)) h.0, clean_more ps x clean next.clean c h.1)))
hand_turn s a b room p clean next x (hand.End (Err why)) r k (inr t) c =
    heard_with handshake_step handshake_start (Broken why) s a b room p (Broke why) (HelloWith (is_early p) clean) (HelloWith (is_early p) next.clean) x r k (fitting handshake_step room p x (Broken why) t.0 t.1) (refl, still_skip s a b x k r.still)
    (λ ps out h. (stays_by p ps x (λ hello. cc (sym hello ∙ out)) h.0, clean_more ps x clean next.clean c h.1))

-- nothing yet
pub lacks_nothing : LacksHello []
lacks_nothing [] rest e hello = cc hello
lacks_nothing (f ∷ fs) rest e hello = cc e

-- the first answer doesn't end a handshake well
pub early_goes_on : (p : HandshakePhase) (x : Packet) (caps : Caps) → is_early p ≡ true → handshake_step p x ≡ Done caps → ⊥
early_goes_on Server (Payload l) caps e h = wanted_not (bytes_eq (without_lf l) (codes "git-filter-server")) Version caps h
  where
    wanted_not : (b : Bool) (next : HandshakePhase) (caps : Caps) → (let t : AnswerState HandshakePhase Caps = if b then On next else Broken cause.BadHandshake in t) ≡ Done caps → ⊥
    wanted_not true next caps h = cc
    wanted_not false next caps h = cc
early_goes_on Server Flush caps e h = cc h
early_goes_on Version (Payload l) caps e h = wanted_not (bytes_eq (without_lf l) (codes "version=2")) EndOfHello caps h
  where
    wanted_not : (b : Bool) (next : HandshakePhase) (caps : Caps) → (let t : AnswerState HandshakePhase Caps = if b then On next else Broken cause.BadHandshake in t) ≡ Done caps → ⊥
    wanted_not true next caps h = cc
    wanted_not false next caps h = cc
early_goes_on Version Flush caps e h = cc h
early_goes_on EndOfHello (Payload l) caps e h = cc h
early_goes_on EndOfHello Flush caps e h = cc h
early_goes_on (Capabilities c) x caps e h = cc e

pub late_stays : (room left : ℕ) (p q : HandshakePhase) (x : Packet) (step : HandStep) → TakesState room p x step left q → step ≡ hand.On → is_early p ≡ false → is_early q ≡ false
late_stays room left p q x (hand.End e) t is early = absurd (cc is)
late_stays room left Server q x hand.On t is early = absurd (cc early)
late_stays room left Version q x hand.On t is early = absurd (cc early)
late_stays room left EndOfHello q x hand.On t is early = absurd (cc early)
late_stays room left (Capabilities c) q (Payload l) hand.On t is early =
    let v : Capabilities (Rattle.filter_words.specs.Handshake.with_capability c l) ≡ q = cc (t.1) in
    ap is_early (sym v)
late_stays room left (Capabilities c) q Flush hand.On t is early = absurd (cc (t.1))

pub heard_as : (s a : Wire) (end : Ends Caps) (b c clean : Bool) → b ≡ c → IsHeard handshake_step handshake_start s a end (HelloWith b clean) → IsHeard handshake_step handshake_start s a end (HelloWith c clean)
heard_as s a end b c clean e h = subst (λ (x : Bool). IsHeard handshake_step handshake_start s a end (HelloWith x clean)) e h

-- no packet of a handshake comes late
pub hand_late : (p : HandshakePhase) (x : Packet) → handshake_step p x ≡ Late → ⊥
hand_late Server (Payload l) e = wanted_not (bytes_eq (without_lf l) (codes "git-filter-server")) Version e
  where
    wanted_not : (b : Bool) (next : HandshakePhase) → (let t : AnswerState HandshakePhase Caps = if b then On next else Broken cause.BadHandshake in t) ≡ Late → ⊥
    wanted_not true next h = cc
    wanted_not false next h = cc
hand_late Server Flush e = cc
hand_late Version (Payload l) e = wanted_not (bytes_eq (without_lf l) (codes "version=2")) EndOfHello e
  where
    wanted_not : (b : Bool) (next : HandshakePhase) → (let t : AnswerState HandshakePhase Caps = if b then On next else Broken cause.BadHandshake in t) ≡ Late → ⊥
    wanted_not true next h = cc
    wanted_not false next h = cc
hand_late Version Flush e = cc
hand_late EndOfHello (Payload l) e = cc
hand_late EndOfHello Flush e = cc
hand_late (Capabilities c) (Payload l) e = cc
hand_late (Capabilities c) Flush e = cc
