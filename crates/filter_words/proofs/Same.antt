-- Answers at the front of the same bytes.
use Rattle.std.proofs.Common.{◌≡◌, inl, inr, ℕ, ◌-◌, cond, ltb, List, [], ◌∷◌, ◌++◌, refl, sym, ap, subst, ◌∙◌}
use Rattle.std.proofs.Common.{append_assoc}
use Rattle.std.proofs.lemmas.Bool.{lt-ltb, le-ltb, cases_lt}
use Rattle.pkt_line.specs.Packets.{Packet, Spells, SpellAll, IsPartial, HasFault, HasNoPacket, size}
use Rattle.filter_words.specs.Outcomes.{outcome, IsEnd}
use Rattle.filter_words.specs.declared.reply.BreakCause.TheVariants as cause
use Rattle.filter_words.specs.declared.answer_state.AnswerState.{AnswerState}
use Rattle.filter_words.specs.declared.answer_state.AnswerState.TheVariants.{On, Done, Broken, Late}

-- the laws of packets that stand below
pub record PacketLaws : Type 0 where
  pub free : (p q : Packet) (a b x y : List ℕ) → Spells p a → Spells q b → a ++ x ≡ b ++ y → (p ≡ q) × (a ≡ b) × (x ≡ y)
  pub reading : (ps qs : List Packet) (a b x y : List ℕ) → SpellAll ps a → SpellAll qs b → a ++ x ≡ b ++ y
      → HasNoPacket x → HasNoPacket y → (ps ≡ qs) × (a ≡ b) × (x ≡ y)
  pub apart : (p : Packet) (head rest : List ℕ) → Spells p head → HasNoPacket (head ++ rest) → ⊥
  pub fault : (bytes more : List ℕ) → HasFault bytes → HasFault (bytes ++ more)
  pub part : (bytes : List ℕ) → IsPartial bytes → HasFault bytes → ⊥

pub packet_laws : ((p q : Packet) (a b x y : List ℕ) → Spells p a → Spells q b → a ++ x ≡ b ++ y → (p ≡ q) × (a ≡ b)
    × (x ≡ y))
    → ((ps qs : List Packet) (a b x y : List ℕ) → SpellAll ps a → SpellAll qs b → a ++ x ≡ b ++ y
    → HasNoPacket x → HasNoPacket y → (ps ≡ qs) × (a ≡ b) × (x ≡ y))
    → ((p : Packet) (head rest : List ℕ) → Spells p head → HasNoPacket (head ++ rest) → ⊥)
    → ((bytes more : List ℕ) → HasFault bytes → HasFault (bytes ++ more))
    → ((bytes : List ℕ) → IsPartial bytes → HasFault bytes → ⊥) → PacketLaws
packet_laws free reading apart fault part =
    record { free = free; reading = reading; apart = apart; fault = fault; part = part }

-- what follows a packet at the front
spelled_behind : (a h r x : List ℕ) → a ≡ h ++ r → a ++ x ≡ h ++ (r ++ x)
spelled_behind a h r x e = ap (λ (z : List ℕ). z ++ x) e ∙ append_assoc h r x

same_fronts : PacketLaws → (p q : Packet) (a b x y h r k s : List ℕ) → Spells p h → Spells q k → a ≡ h ++ r → b ≡ k ++ s
    → a ++ x ≡ b ++ y → (p ≡ q) × (h ≡ k) × (r ++ x ≡ s ++ y)
same_fronts laws p q a b x y h r k s sp sq ea eb e =
    laws.free p q h k (r ++ x) (s ++ y) sp sq (sym (spelled_behind a h r x ea) ∙ (e ∙ spelled_behind b k s y eb))

none_then_some : PacketLaws → (q : Packet) (b x y k s : List ℕ) → Spells q k → b ≡ k ++ s → x ≡ b ++ y → HasNoPacket x
    → ⊥
none_then_some laws q b x y k s sq eb e none =
    laws.apart q k (s ++ y) sq (subst HasNoPacket (e ∙ spelled_behind b k s y eb) none)

not_late : {P G : Type 0} (v : AnswerState P G) → IsEnd v → Late ≡ v → ⊥
not_late (Done g) h e = cc
not_late (Broken c) h e = cc
not_late (On q) h e = absurd h
not_late Late h e = absurd h

not_on : {P G : Type 0} (p : P) (v : AnswerState P G) → IsEnd v → On p ≡ v → ⊥
not_on p (Done g) h e = cc
not_on p (Broken c) h e = cc
not_on p (On q) h e = absurd h
not_on p Late h e = absurd h

-- the room and the state after a packet
abbrev room_after : ℕ → Packet → ℕ
room_after room p = cond (ltb room (size p)) room (room - size p)

abbrev state_after : {P G : Type 0} → (P → Packet → AnswerState P G) → ℕ → P → Packet → AnswerState P G
state_after step room q p = cond (ltb room (size p)) (Broken cause.TooLong) (step q p)

one_step : {P G : Type 0} (step : P → Packet → AnswerState P G) (room : ℕ) (q : P) (p : Packet) (ps : List Packet)
    → outcome step room (On q) (p ∷ ps) ≡ outcome step (room_after room p) (state_after step room q p) ps
one_step step room q p ps =
    elim (cases_lt room (size p)) [
      | inl less ↦ rw (lt-ltb room (size p) less) refl
      | inr more ↦ rw (le-ltb room (size p) more) refl
    ]

pub same : PacketLaws → {P G : Type 0} (step : P → Packet → AnswerState P G) (room : ℕ) (t : AnswerState P G)
    (ps qs : List Packet) (a b x y : List ℕ) (u v : AnswerState P G)
    → SpellAll ps a → SpellAll qs b → a ++ x ≡ b ++ y
    → outcome step room t ps ≡ u → outcome step room t qs ≡ v → IsEnd u → IsEnd v → (ps ≡ qs) × (a ≡ b) × (u ≡ v)
same laws step room t [] [] a b x y u v sa sb e f g hu hv = (refl, sa ∙ sym sb, sym f ∙ g)
same laws step room (On p) [] (q ∷ qs) a b x y u v sa sb e f g hu hv = absurd (not_on p u hu f)
same laws step room (Done z) [] (q ∷ qs) a b x y u v sa sb e f g hu hv = absurd (not_late v hv g)
same laws step room (Broken z) [] (q ∷ qs) a b x y u v sa sb e f g hu hv = absurd (not_late v hv g)
same laws step room Late [] (q ∷ qs) a b x y u v sa sb e f g hu hv = absurd (not_late v hv g)
same laws step room (On p) (q ∷ ps) [] a b x y u v sa sb e f g hu hv = absurd (not_on p v hv g)
same laws step room (Done z) (q ∷ ps) qs a b x y u v sa sb e f g hu hv = absurd (not_late u hu f)
same laws step room (Broken z) (q ∷ ps) qs a b x y u v sa sb e f g hu hv = absurd (not_late u hu f)
same laws step room Late (q ∷ ps) qs a b x y u v sa sb e f g hu hv = absurd (not_late u hu f)
same laws step room (On r) (p ∷ ps) (q ∷ qs) a b x y u v sa sb e f g hu hv =
    let s = same_fronts laws p q a b x y sa.0 sa.1 sb.0 sb.1 sa.2 sb.2 sa.4 sb.4 e in
    let g2 : outcome step (room_after room p) (state_after step room r p) qs ≡ v =
    sym (one_step step room r p qs) ∙ (ap (λ (z : Packet). outcome step room (On r) (z ∷ qs)) s.0 ∙ g) in
    let rest = same laws step (room_after room p) (state_after step room r p) ps qs sa.1 sb.1 x y u v sa.3 sb.3 s.2
    (sym (one_step step room r p ps) ∙ f) g2 hu hv in (
      ap (λ (z : Packet). z ∷ ps) s.0 ∙ ap (λ (z : List Packet). q ∷ z) rest.0,
      sa.4 ∙ (ap (λ (z : List ℕ). z ++ sa.1) s.1 ∙ (ap (λ (z : List ℕ). sb.0 ++ z) rest.1 ∙ sym sb.4)),
      rest.2,
    )

pub longer : PacketLaws → {P G : Type 0} (step : P → Packet → AnswerState P G) (room : ℕ) (t : AnswerState P G)
    (ps qs : List Packet) (a b x y : List ℕ) (o : P) (v : AnswerState P G)
    → SpellAll ps a → SpellAll qs b → a ++ x ≡ b ++ y → HasNoPacket x
    → outcome step room t ps ≡ On o → outcome step room t qs ≡ v → IsEnd v → ⊥
longer laws step room t [] [] a b x y o v sa sb e none f g hv = not_on o v hv (sym f ∙ g)
longer laws step room t [] (q ∷ qs) a b x y o v sa sb e none f g hv =
    none_then_some laws q b x y sb.0 sb.1 sb.2 sb.4 (sym (ap (λ (z : List ℕ). z ++ x) sa) ∙ e) none
longer laws step room (On p) (q ∷ ps) [] a b x y o v sa sb e none f g hv = not_on p v hv g
longer laws step room (Done z) (q ∷ ps) qs a b x y o v sa sb e none f g hv = cc
longer laws step room (Broken z) (q ∷ ps) qs a b x y o v sa sb e none f g hv = cc
longer laws step room Late (q ∷ ps) qs a b x y o v sa sb e none f g hv = cc
longer laws step room (On r) (p ∷ ps) (q ∷ qs) a b x y o v sa sb e none f g hv =
    let s = same_fronts laws p q a b x y sa.0 sa.1 sb.0 sb.1 sa.2 sb.2 sa.4 sb.4 e in
    let g2 : outcome step (room_after room p) (state_after step room r p) qs ≡ v =
    sym (one_step step room r p qs) ∙ (ap (λ (z : Packet). outcome step room (On r) (z ∷ qs)) s.0 ∙ g) in
    longer laws step (room_after room p) (state_after step room r p) ps qs sa.1 sb.1 x y o v sa.3 sb.3 s.2 none
    (sym (one_step step room r p ps) ∙ f) g2 hv
