-- Payloads and flushes of a reply.
use Rattle.std.proofs.Common.{◌≡◌, inl, inr, ℕ, ◌-◌, ◌<◌, Bool, true, false, List, [], ◌∷◌, ◌++◌, take, drop, Option, Some, None, Result, Ok, Err, refl, sym, ap, subst, ◌∙◌, append_assoc}
use Rattle.std.specs.Prelude.{⊤, is_some}
use Rattle.std.proofs.lemmas.List.{append-nil, take-append-drop}
use Rattle.std.proofs.lemmas.Bool.{lt-ltb, le-ltb, cases_lt}
use Rattle.pkt_line.specs.Packets.{Packet, Payload, Flush, size}
use Rattle.filter_words.specs.Outcomes.{outcome, limit}
use Rattle.filter_words.specs.SmudgeReply.{reply_step, reply_start, piece_in, content_in, reply_of_good}
use Rattle.filter_words.specs.declared.reply.BreakCause.{BreakCause}
use Rattle.filter_words.specs.declared.reply.BreakCause.TheVariants as cause
use Rattle.filter_words.specs.declared.reply.Reply.TheVariants as reply
use Rattle.filter_words.specs.declared.words.Status.{Status}
use Rattle.filter_words.specs.declared.words.Status.TheVariants as status
use Rattle.filter_words.specs.declared.smudge_reply.GoodReply.{GoodReply}
use Rattle.filter_words.specs.declared.smudge_reply.GoodReply.TheVariants as good
use Rattle.filter_words.specs.declared.smudge_reply.ReplyPhase.{ReplyPhase}
use Rattle.filter_words.specs.declared.smudge_reply.ReplyPhase.TheVariants.{KeyList, Content, LastKeyList}
use Rattle.filter_words.specs.declared.answer_state.AnswerState.{AnswerState}
use Rattle.filter_words.specs.declared.answer_state.AnswerState.TheVariants.{On, Done, Broken, Late}
use Rattle.edge_kit.specs.Faults.{Rose}
use Rattle.edge_kit.specs.Seen.{LeafSeen, Puts}
use Rattle.edge_kit.specs.declared.faults.SendFault.{SendFault}
use Rattle.edge_kit.specs.declared.faults.SendFault.TheVariants as send
use Rattle.filter_proto.specs.Wires.{Wire, SendsOn}
use Rattle.filter_proto.specs.Exchanges.{Ends, Good, Broke, OutOfMemory, IsReading, IsHeard, IsExchange}
use Rattle.filter_proto.specs.Replies.{IsFrontPut, IsPut, IsKept, HasPut, HasPutPart, EndPut, NotBegun, IsUntouched, reply_end}
use Rattle.filter_proto.specs.Steps.{FlushEnds, FlushIs, StepIs, StepBegins}
use Rattle.filter_proto.specs.declared.asked.Reading.{Reading}
use Rattle.filter_proto.specs.declared.asked.Step.{Step}
use Rattle.filter_proto.specs.declared.asked.Step.TheVariants as steps
use Rattle.edge_kit.specs.Files.{IsOpenLeaf, grown}
use Rattle.filter_proto.proofs.Told.{grown_nothing, grown_both}
use Rattle.filter_proto.proofs.More.{Skips, reading_on, reading_long, reading_done, reading_broken, heard_less, unsent_fault, unsent_memory}

-- a first part of a content is one of a longer content too
pub front_more : (old new : LeafSeen) (a b : List ℕ) → IsFrontPut old new a → IsFrontPut old new (a ++ b)
front_more old new a b h = record {
  front = h.front;
  after = h.after ++ b;
  cut = ap (λ (x : List ℕ). x ++ b) h.cut ∙ append_assoc h.front h.after b;
  grew = h.grew;
}

grown_some : (told : Option (List ℕ)) (piece : List ℕ) → is_some (grown told piece) ≡ is_some told
grown_some None piece = refl
grown_some (Some t) piece = refl

-- one more piece
front_piece : {T : Type 0} (before old new : LeafSeen) (content piece : List ℕ) (r : Result T SendFault) → old.content ≡ grown before.content content → Puts piece old new r → IsFrontPut before new (content ++ piece)
front_piece before old new content piece (Ok x) e h = record {
  front = content ++ piece;
  after = [];
  cut = sym (append-nil (content ++ piece));
  grew = ap (λ (l : LeafSeen). l.content) h ∙ (ap (λ (o : Option (List ℕ)). grown o piece) e ∙ grown_both before.content content piece);
}
front_piece before old new content piece (Err send.Failed) e h = record {
  front = content ++ take h.taken piece;
  after = drop h.taken piece;
  cut = ap (λ (x : List ℕ). content ++ x) (sym (take-append-drop h.taken piece)) ∙ sym (append_assoc content (take h.taken piece) (drop h.taken piece));
  grew = ap (λ (l : LeafSeen). l.content) h.cut ∙ (ap (λ (o : Option (List ℕ)). grown o (take h.taken piece)) e ∙ grown_both before.content content (take h.taken piece));
}
front_piece before old new content piece (Err send.NoMemory) e h = record {
  front = content;
  after = piece;
  cut = refl;
  grew = ap (λ (l : LeafSeen). l.content) h ∙ e;
}

pub puts_piece : (before old new : LeafSeen) (content piece : List ℕ) (r : Result ⊤ SendFault) → IsPut before old (Ok tt) content → Puts piece old new r → IsPut before new r (content ++ piece)
puts_piece before old new content piece (Ok x) h p = record {
  path = ap (λ (l : LeafSeen). l.path) p ∙ h.path;
  told = ap (λ (l : LeafSeen). is_some l.content) p ∙ (grown_some old.content piece ∙ h.told);
  holds = λ e. ap (λ (l : LeafSeen). l.content) p ∙ (ap (λ (o : Option (List ℕ)). grown o piece) (h.holds refl) ∙ grown_both before.content content piece);
  part = front_piece {T = ⊤} before old new content piece (Ok x) (h.holds refl) p;
  usable = λ e. (inr (ap (λ (l : LeafSeen). l.state) p), ap (λ (l : LeafSeen). l.faults) p ∙ (h.usable (λ f. cc (f))).1);
  broken = λ e. absurd (cc (e));
}
puts_piece before old new content piece (Err send.Failed) h p = record {
  path = ap (λ (l : LeafSeen). l.path) p.cut ∙ h.path;
  told = ap (λ (l : LeafSeen). is_some l.content) p.cut ∙ (grown_some old.content (take p.taken piece) ∙ h.told);
  holds = λ e. absurd (cc (e));
  part = front_piece {T = ⊤} before old new content piece (Err send.Failed) (h.holds refl) p;
  usable = λ e. absurd (e refl);
  broken = λ e. (ap (λ (l : LeafSeen). l.state) p.cut, subst (λ (n : ℕ). Rose n new.faults) (h.usable (λ f. cc (f))).1 p.rose);
}
puts_piece before old new content piece (Err send.NoMemory) h p = record {
  path = ap (λ (l : LeafSeen). l.path) p ∙ h.path;
  told = ap (λ (l : LeafSeen). is_some l.content) p ∙ h.told;
  holds = λ e. absurd (cc (e));
  part = front_piece {T = ⊤} before old new content piece (Err send.NoMemory) (h.holds refl) p;
  usable = λ e. subst (λ (l : LeafSeen). IsOpenLeaf l.state × (l.faults ≡ before.faults)) (sym p) (h.usable (λ f. cc (f)));
  broken = λ e. absurd (cc (e));
}

-- in the content something may be put
pub begun_content : (line : List ℕ) (next : ReplyPhase) (before leaf : LeafSeen) (put : Result ⊤ SendFault) → reply_step true Content (Payload line) ≡ On next → NotBegun next before leaf put
begun_content line (KeyList s) before leaf put e = absurd (cc)
begun_content line Content before leaf put e = tt
begun_content line (LastKeyList s) before leaf put e = tt

-- in a key list nothing is put
pub begun_keys : (s : Option Status) (line : List ℕ) (next : ReplyPhase) (before leaf : LeafSeen) (put : Result ⊤ SendFault) → reply_step true (KeyList s) (Payload line) ≡ On next → NotBegun (KeyList s) before leaf put → NotBegun next before leaf put
begun_keys s line (KeyList t) before leaf put e h = h
begun_keys s line Content before leaf put e h = tt
begun_keys s line (LastKeyList t) before leaf put e h = tt

pub begun_last : (s : Option Status) (line : List ℕ) (next : ReplyPhase) (before leaf : LeafSeen) (put : Result ⊤ SendFault) → reply_step true (LastKeyList s) (Payload line) ≡ On next → NotBegun next before leaf put
begun_last s line (KeyList t) before leaf put e = absurd (cc)
begun_last s line Content before leaf put e = tt
begun_last s line (LastKeyList t) before leaf put e = tt

pub put_nothing : (before leaf : LeafSeen) (put : Result ⊤ SendFault) (content : List ℕ) → IsPut before leaf put content → IsPut before leaf put (content ++ [])
put_nothing before leaf put content h = subst (λ (c : List ℕ). IsPut before leaf put c) (sym (append-nil content)) h

pub ruleset line_begun = (begun_content, begun_keys, begun_last, put_nothing)

-- the content after one more packet
pub content_more : (d : Bool) (room : ℕ) (t : AnswerState ReplyPhase GoodReply) (ps : List Packet) (p : ReplyPhase) (x : Packet) → outcome (reply_step d) room t ps ≡ On p → content_in d t (ps ++ x ∷ []) ≡ content_in d t ps ++ piece_in (On p) x
content_more d room t [] p x e = rw e (append-nil (piece_in (On p) x))
content_more d room (On q) (y ∷ ps) p x e = elim (cases_lt room (size y)) [
  | inl less ↦ absurd (over ps (rw (lt-ltb room (size y) less) at e))
  | inr more ↦ ap (λ (r : List ℕ). piece_in (On q) y ++ r) (content_more d (room - size y) (reply_step d q y) ps p x (rw (le-ltb room (size y) more) at e)) ∙ sym (append_assoc (piece_in (On q) y) _ _)
]
  where
    over : (ps : List Packet) → outcome (reply_step d) room (Broken cause.TooLong) ps ≡ On p → ⊥
    over [] e = cc
    over (z ∷ zs) e = cc
content_more d room (Done g) (y ∷ ps) p x e = absurd (cc)
content_more d room (Broken g) (y ∷ ps) p x e = absurd (cc)
content_more d room Late (y ∷ ps) p x e = absurd (cc)

-- the puts after one more packet
pub put_more : (d : Bool) (p : ReplyPhase) (x : Packet) (before leaf after : LeafSeen) (put new : Result ⊤ SendFault)
    → ((content : List ℕ) → IsPut before leaf put content → IsPut before after new (content ++ piece_in (On p) x))
    → (ps : List Packet) → outcome (reply_step d) limit reply_start ps ≡ On p → HasPut d before leaf put ps → HasPut d before after new (ps ++ x ∷ [])
put_more d p x before leaf after put new puts ps e h =
    subst (λ (c : List ℕ). IsPut before after new c) (sym (content_more d limit reply_start ps p x e)) (puts (content_in d reply_start ps) h)

piece_flush : (p : ReplyPhase) → piece_in (On p) Flush ≡ []
piece_flush (KeyList s) = refl
piece_flush Content = refl
piece_flush (LastKeyList s) = refl

flush_puts : (p : ReplyPhase) (before leaf : LeafSeen) (put new : Result ⊤ SendFault) → new ≡ put → (content : List ℕ) → IsPut before leaf put content → IsPut before leaf new (content ++ piece_in (On p) Flush)
flush_puts p before leaf put new e content h =
    subst (λ (f : Result ⊤ SendFault). IsPut before leaf f (content ++ piece_in (On p) Flush)) (sym e)
    (subst (λ (c : List ℕ). IsPut before leaf put (content ++ c)) (sym (piece_flush p)) (put_nothing before leaf put content h))

pub kept_of : (old new : LeafSeen) (put : Result ⊤ SendFault) (content : List ℕ) → IsPut old new put content → IsKept old new put
kept_of old new put content h = record { path = h.path; told = h.told; usable = h.usable; broken = h.broken }

-- what was put, where one more packet ended the reply
part_more : (d : Bool) (p : ReplyPhase) (x : Packet) (before leaf : LeafSeen) (put new : Result ⊤ SendFault) → new ≡ put → (ps : List Packet) → outcome (reply_step d) limit reply_start ps ≡ On p
    → HasPut d before leaf put ps → HasPutPart d before leaf new (ps ++ x ∷ [])
part_more d p x before leaf put new e ps o h = (
  subst (λ (r : Result ⊤ SendFault). IsKept before leaf r) (sym e) (kept_of before leaf put _ h),
  subst (λ (c : List ℕ). IsFrontPut before leaf c) (sym (content_more d limit reply_start ps p x o)) (front_more before leaf (content_in d reply_start ps) (piece_in (On p) x) h.part),
)

-- a reading that stops without a packet
pub stopped : (d : Bool) (s b : Wire) (c : BreakCause) (before leaf : LeafSeen) (put : Result ⊤ SendFault) → IsHeard (reply_step d) reply_start s b (Broke c) (HasPut d before leaf put) → IsHeard (reply_step d) reply_start s b (Broke c) (EndPut d before leaf put (Broke c))
stopped d s b c before leaf put h = heard_less _ _ s b (Broke c) _ _ h (λ ps i. (kept_of before leaf put _ i, i.part))

-- a payload for which there is no room
pub line_long : (d : Bool) (s a b : Wire) (room : ℕ) (p : ReplyPhase) (before leaf after : LeafSeen) (put new : Result ⊤ SendFault) (x : Packet) → IsReading (reply_step d) reply_start s a room p (HasPut d before leaf put) → Skips a x b
    → room < size x → new ≡ put → after ≡ leaf → IsHeard (reply_step d) reply_start s b (Broke cause.TooLong) (EndPut d before after new (Broke cause.TooLong))
line_long d s a b room p before leaf after put new x r k lt e i =
    reading_long (reply_step d) reply_start s a b room p (HasPut d before leaf put) (HasPutPart d before after new) x r k lt
    (λ ps z h. subst (λ (l : LeafSeen). HasPutPart d before l new (ps ++ x ∷ [])) (sym i) (part_more d p x before leaf put new e ps z h))

flush_ends : (d : Bool) (s a b : Wire) (old new : Reading) (end : Ends GoodReply) (before leaf : LeafSeen) → IsReading (reply_step d) reply_start s a old.room old.phase (HasPut d before leaf old.put) → Skips a Flush b
    → FlushEnds d old end → new.put ≡ old.put → IsHeard (reply_step d) reply_start s b end (EndPut d before leaf new.put end)
flush_ends d s a b old new (Good g) before leaf r k f e =
    reading_done (reply_step d) reply_start s a b old.room old.phase g (HasPut d before leaf old.put) (HasPut d before leaf new.put) Flush r k f.0 f.1 (put_more d old.phase Flush before leaf leaf old.put new.put (flush_puts old.phase before leaf old.put new.put e))
flush_ends d s a b old new (Broke c) before leaf r k (inl w) e =
    rw w.1 (reading_long (reply_step d) reply_start s a b old.room old.phase (HasPut d before leaf old.put) (HasPutPart d before leaf new.put) Flush r k w.0 (part_more d old.phase Flush before leaf old.put new.put e))
flush_ends d s a b old new (Broke c) before leaf r k (inr w) e =
    reading_broken (reply_step d) reply_start s a b old.room old.phase c (HasPut d before leaf old.put) (HasPutPart d before leaf new.put) Flush r k w.0 w.1 (part_more d old.phase Flush before leaf old.put new.put e)
flush_ends d s a b old new OutOfMemory before leaf r k f e = absurd f

pub flush_steps : (d : Bool) (s a b : Wire) (old new : Reading) (step : Step) (before leaf : LeafSeen) → IsReading (reply_step d) reply_start s a old.room old.phase (HasPut d before leaf old.put) → Skips a Flush b
    → FlushIs d old step new → StepIs d s b step new before leaf
flush_steps d s a b old new steps.On before leaf r k f =
    reading_on (reply_step d) reply_start s a b old.room new.room old.phase new.phase (HasPut d before leaf old.put) (HasPut d before leaf new.put) Flush r k f.0 f.1 (put_more d old.phase Flush before leaf leaf old.put new.put (flush_puts old.phase before leaf old.put new.put f.2))
flush_steps d s a b old new (steps.End r) before leaf h k f = flush_ends d s a b old new (reply_end r) before leaf h k f.0 f.1

pub end_of_good : (g : GoodReply) → reply_end (reply_of_good g) ≡ Good g
end_of_good good.Content = refl
end_of_good good.Error = refl
end_of_good good.ErrorAfter = refl
end_of_good good.Abort = refl
end_of_good good.Delayed = refl

-- an error or a delay comes in the first key list
pub begins_flush : (d : Bool) (old new : Reading) (step : Step) (before leaf : LeafSeen) → FlushIs d old step new → NotBegun old.phase before leaf old.put → StepBegins step new before leaf
begins_flush d old new steps.On before leaf f h = on old.phase new.phase f.1 h
  where
    on : (p q : ReplyPhase) → reply_step d p Flush ≡ On q → NotBegun p before leaf old.put → NotBegun q before leaf new.put
    on p Content e h = tt
    on p (LastKeyList s) e h = tt
    on Content (KeyList t) e h = absurd (cc)
    on (LastKeyList None) (KeyList t) e h = absurd (cc)
    on (LastKeyList (Some status.Success)) (KeyList t) e h = absurd (cc)
    on (LastKeyList (Some status.Error)) (KeyList t) e h = absurd (cc)
    on (LastKeyList (Some status.Abort)) (KeyList t) e h = absurd (cc)
    on (LastKeyList (Some status.Delayed)) (KeyList t) e h = absurd (cc)
    on (LastKeyList (Some status.Other)) (KeyList t) e h = absurd (cc)
    on (KeyList None) (KeyList t) e h = absurd (cc)
    on (KeyList (Some status.Success)) (KeyList t) e h = absurd (cc)
    on (KeyList (Some status.Error)) (KeyList t) e h = absurd (cc)
    on (KeyList (Some status.Abort)) (KeyList t) e h = absurd (cc)
    on (KeyList (Some status.Delayed)) (KeyList t) e h = absurd (late d e)
      where
        late : (d : Bool) → reply_step d (KeyList (Some status.Delayed)) Flush ≡ On (KeyList t) → ⊥
        late true e = cc
        late false e = cc
    on (KeyList (Some status.Other)) (KeyList t) e h = absurd (cc)
begins_flush d old new (steps.End reply.Content) before leaf f h = tt
begins_flush d old new (steps.End reply.ErrorAfter) before leaf f h = tt
begins_flush d old new (steps.End reply.Abort) before leaf f h = tt
begins_flush d old new (steps.End (reply.Broken c)) before leaf f h = tt
begins_flush d old new (steps.End reply.NoMemory) before leaf f h = tt
begins_flush d old new (steps.End reply.Error) before leaf f h = subst (λ (r : Result ⊤ SendFault). IsUntouched before leaf r) (sym f.1) (error old.phase f.0.1 h)
  where
    error : (p : ReplyPhase) → reply_step d p Flush ≡ Done good.Error → NotBegun p before leaf old.put → IsUntouched before leaf old.put
    error (KeyList s) e h = h
    error Content e h = absurd (cc)
    error (LastKeyList None) e h = absurd (cc)
    error (LastKeyList (Some status.Success)) e h = absurd (cc)
    error (LastKeyList (Some status.Error)) e h = absurd (cc)
    error (LastKeyList (Some status.Abort)) e h = absurd (cc)
    error (LastKeyList (Some status.Delayed)) e h = absurd (cc)
    error (LastKeyList (Some status.Other)) e h = absurd (cc)
begins_flush d old new (steps.End reply.Delayed) before leaf f h = subst (λ (r : Result ⊤ SendFault). IsUntouched before leaf r) (sym f.1) (delayed old.phase f.0.1 h)
  where
    delayed : (p : ReplyPhase) → reply_step d p Flush ≡ Done good.Delayed → NotBegun p before leaf old.put → IsUntouched before leaf old.put
    delayed (KeyList s) e h = h
    delayed Content e h = absurd (cc)
    delayed (LastKeyList None) e h = absurd (cc)
    delayed (LastKeyList (Some status.Success)) e h = absurd (cc)
    delayed (LastKeyList (Some status.Error)) e h = absurd (cc)
    delayed (LastKeyList (Some status.Abort)) e h = absurd (cc)
    delayed (LastKeyList (Some status.Delayed)) e h = absurd (cc)
    delayed (LastKeyList (Some status.Other)) e h = absurd (cc)

pub put_starts : (leaf : LeafSeen) → IsOpenLeaf leaf.state → IsPut leaf leaf (Ok tt) []
put_starts leaf usable = record {
  path = refl;
  told = refl;
  holds = λ e. sym (grown_nothing leaf.content);
  part = record { front = []; after = []; cut = refl; grew = sym (grown_nothing leaf.content) };
  usable = λ e. (usable, refl);
  broken = λ e. absurd (cc);
}

-- a request that was not sent whole puts nothing
kept_all : (d : Bool) (leaf : LeafSeen) → IsOpenLeaf leaf.state → HasPutPart d leaf leaf (Ok tt) []
kept_all d leaf usable = let h = put_starts leaf usable in (kept_of leaf leaf (Ok tt) [] h, h.part)

pub reply_fault : (d : Bool) (old new : Wire) (text : List ℕ) (leaf : LeafSeen) → IsOpenLeaf leaf.state → SendsOn {T = ⊤} text old new (Err send.Failed)
    → IsExchange (reply_step d) reply_start text old new (reply_end (reply.Broken cause.LinkFault)) (EndPut d leaf leaf (Ok tt) (reply_end (reply.Broken cause.LinkFault)))
reply_fault d old new text leaf usable h = unsent_fault (reply_step d) reply_start old new text _ h (kept_all d leaf usable)

pub reply_memory : (d : Bool) (old new : Wire) (text : List ℕ) (leaf : LeafSeen) → IsOpenLeaf leaf.state → SendsOn {T = ⊤} text old new (Err send.NoMemory)
    → IsExchange (reply_step d) reply_start text old new (reply_end reply.NoMemory) (EndPut d leaf leaf (Ok tt) (reply_end reply.NoMemory))
reply_memory d old new text leaf usable h = unsent_memory (reply_step d) reply_start old new text _ h (kept_all d leaf usable)

pub ruleset request_unsent = (reply_fault, reply_memory)
