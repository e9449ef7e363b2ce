-- What a driver sends holds one answer at its front, however much of it was taken.
use Rattle.std.proofs.Common.{◌≡◌, ◌⊎◌, inl, inr, ℕ, List, [], ◌++◌, refl, sym, ap, subst, ◌∙◌}
use Rattle.std.proofs.lemmas.List.{append-nil}
use Rattle.pkt_line.specs.Packets.{Packet, SpellAll, IsPartial, HasFault, HasNoPacket}
use Rattle.filter_words.specs.Outcomes.{outcome, limit}
use Rattle.filter_words.specs.Answer.{StopsWith, IsAnswer}
use Rattle.filter_words.specs.declared.reply.BreakCause.TheVariants as cause
use Rattle.filter_words.specs.declared.answer_state.AnswerState.{AnswerState}
use Rattle.filter_words.specs.declared.answer_state.AnswerState.TheVariants.{On, Done, Broken, Late}
use Rattle.filter_words.proofs.Same.{PacketLaws, same, longer}

-- what follows an open answer
abbrev Behind : {P G : Type 0} → List ℕ → List ℕ → AnswerState P G → Type 0
Behind rest ahead result = ((result ≡ Broken cause.BadPacket) × HasFault rest)
    ⊎ ((result ≡ Broken cause.Ended) × IsPartial rest × (ahead ≡ []))

ends_here : (rest ahead : List ℕ) → ahead ≡ [] → rest ++ ahead ≡ rest
ends_here rest ahead e = ap (λ (z : List ℕ). rest ++ z) e ∙ append-nil rest

partial_here : (rest ahead : List ℕ) → ahead ≡ [] → IsPartial rest → IsPartial (rest ++ ahead)
partial_here rest ahead e p = subst IsPartial (sym (ends_here rest ahead e)) p

none_behind : PacketLaws → {P G : Type 0} (rest ahead : List ℕ) (result : AnswerState P G) → Behind rest ahead result
    → HasNoPacket (rest ++ ahead)
none_behind laws rest ahead result (inl h) = inr (laws.fault rest ahead h.1)
none_behind laws rest ahead result (inr h) = inl (partial_here rest ahead h.2 h.1)

one_cause : PacketLaws → {P G : Type 0} (r a s b : List ℕ) (u v : AnswerState P G) → r ++ a ≡ s ++ b → Behind r a u
    → Behind s b v → u ≡ v
one_cause laws r a s b u v e (inl h) (inl k) = h.0 ∙ sym k.0
one_cause laws r a s b u v e (inr h) (inr k) = h.0 ∙ sym k.0
one_cause laws r a s b u v e (inl h) (inr k) =
    absurd (laws.part (r ++ a) (subst IsPartial (sym e) (partial_here s b k.2 k.1)) (laws.fault r a h.1))
one_cause laws r a s b u v e (inr h) (inl k) =
    absurd (laws.part (s ++ b) (subst IsPartial e (partial_here r a h.2 h.1)) (laws.fault s b k.1))

-- two readings of the same output, by where their packets lead
stops_same : PacketLaws → {P G : Type 0} (step : P → Packet → AnswerState P G) (start : AnswerState P G)
    (ps qs : List Packet) (a x b y : List ℕ) (c d : List ℕ) (s t u v : AnswerState P G)
    → SpellAll ps a → SpellAll qs b → a ++ (x ++ c) ≡ b ++ (y ++ d) → outcome step limit start ps ≡ s
    → outcome step limit start qs ≡ t
    → StopsWith s x c u → StopsWith t y d v → (u ≡ v) × ((g : G) → u ≡ Done g → a ≡ b)
stops_same laws step start ps qs a x b y c d (On p) (On q) u v sa sb e f g hu hv =
    let r = laws.reading ps qs a b (x ++ c) (y ++ d) sa sb e (none_behind laws x c u hu) (none_behind laws y d v hv) in
    (one_cause laws x c y d u v r.2 hu hv, λ g e. r.1)
stops_same laws step start ps qs a x b y c d (On p) (Done h) u v sa sb e f g hu hv =
    absurd (longer laws step limit start ps qs a b (x ++ c) (y ++ d) p (Done h) sa sb e (none_behind laws x c u hu) f g
    tt)
stops_same laws step start ps qs a x b y c d (On p) (Broken h) u v sa sb e f g hu hv =
    absurd (longer laws step limit start ps qs a b (x ++ c) (y ++ d) p (Broken h) sa sb e (none_behind laws x c u hu) f
    g tt)
stops_same laws step start ps qs a x b y c d (Done h) (On q) u v sa sb e f g hu hv =
    absurd (longer laws step limit start qs ps b a (y ++ d) (x ++ c) q (Done h) sb sa (sym e)
    (none_behind laws y d v hv) g f tt)
stops_same laws step start ps qs a x b y c d (Broken h) (On q) u v sa sb e f g hu hv =
    absurd (longer laws step limit start qs ps b a (y ++ d) (x ++ c) q (Broken h) sb sa (sym e)
    (none_behind laws y d v hv) g f tt)
stops_same laws step start ps qs a x b y c d (Done h) (Done k) u v sa sb e f g hu hv =
    let r = same laws step limit start ps qs a b (x ++ c) (y ++ d) (Done h) (Done k) sa sb e f g tt tt in
    (hu ∙ (r.2 ∙ sym hv), λ g e. r.1)
stops_same laws step start ps qs a x b y c d (Done h) (Broken k) u v sa sb e f g hu hv =
    let r = same laws step limit start ps qs a b (x ++ c) (y ++ d) (Done h) (Broken k) sa sb e f g tt tt in
    (hu ∙ (r.2 ∙ sym hv), λ g e. r.1)
stops_same laws step start ps qs a x b y c d (Broken h) (Done k) u v sa sb e f g hu hv =
    let r = same laws step limit start ps qs a b (x ++ c) (y ++ d) (Broken h) (Done k) sa sb e f g tt tt in
    (hu ∙ (r.2 ∙ sym hv), λ g e. r.1)
stops_same laws step start ps qs a x b y c d (Broken h) (Broken k) u v sa sb e f g hu hv =
    let r = same laws step limit start ps qs a b (x ++ c) (y ++ d) (Broken h) (Broken k) sa sb e f g tt tt in
    (hu ∙ (r.2 ∙ sym hv), λ g e. r.1)
stops_same laws step start ps qs a x b y c d Late t u v sa sb e f g hu hv = absurd hu
stops_same laws step start ps qs a x b y c d (On p) Late u v sa sb e f g hu hv = absurd hv
stops_same laws step start ps qs a x b y c d (Done h) Late u v sa sb e f g hu hv = absurd hv
stops_same laws step start ps qs a x b y c d (Broken h) Late u v sa sb e f g hu hv = absurd hv

pub one_answer : PacketLaws → {P G : Type 0} (step : P → Packet → AnswerState P G) (start : AnswerState P G)
    (a x c b y d : List ℕ) (u v : AnswerState P G)
    → IsAnswer step start a x c u → IsAnswer step start b y d v → a ++ (x ++ c) ≡ b ++ (y ++ d) → (u ≡ v)
    × ((g : G) → u ≡ Done g → a ≡ b)
one_answer laws step start a x c b y d u v one two same =
    stops_same laws step start one.packets two.packets a x b y c d _ _ u v one.spelled two.spelled same refl refl
    one.stops two.stops

-- more bytes after an answer that has ended
stops_more : PacketLaws → {P G : Type 0} (s u : AnswerState P G) (rest ahead more later : List ℕ)
    → (u ≡ Broken cause.Ended → ⊥) → StopsWith s rest ahead u → StopsWith s (rest ++ more) later u
stops_more laws (On p) u rest ahead more later whole (inl h) = inl (h.0, laws.fault rest more h.1)
stops_more laws (On p) u rest ahead more later whole (inr h) = absurd (whole h.0)
stops_more laws (Done g) u rest ahead more later whole h = h
stops_more laws (Broken why) u rest ahead more later whole h = h
stops_more laws Late u rest ahead more later whole h = h

pub answer_more : PacketLaws → {P G : Type 0} (step : P → Packet → AnswerState P G) (start : AnswerState P G)
    (used rest ahead more later : List ℕ) (u : AnswerState P G)
    → IsAnswer step start used rest ahead u → (u ≡ Broken cause.Ended → ⊥)
    → IsAnswer step start used (rest ++ more) later u
answer_more laws step start used rest ahead more later u one whole = record {
  packets = one.packets;
  spelled = one.spelled;
  stops = stops_more laws (outcome step limit start one.packets) u rest ahead more later whole one.stops;
}
