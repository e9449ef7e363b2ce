-- An answer at the front of an output, and that there is one.
use Rattle.std.proofs.Common.{◌≡◌, ◌⊎◌, inl, inr, ℕ, List, [], ◌++◌, refl, sym, ap, subst, ◌∙◌, append_assoc}
use Rattle.std.proofs.lemmas.List.{append-nil}
use Rattle.pkt_line.specs.Packets.{Packet, SpellAll, IsPartial, HasFault, HasNoPacket}
use Rattle.filter_words.specs.Outcomes.{outcome, limit, IsEnd}
use Rattle.filter_words.specs.declared.answer_state.AnswerState.{AnswerState}
use Rattle.filter_words.specs.declared.answer_state.AnswerState.TheVariants.{On, Done, Broken, Late}
use Rattle.filter_words.specs.declared.reply.BreakCause.TheVariants as cause
use Rattle.filter_proto.specs.Complete.{IsSettled}
use Rattle.filter_proto.specs.Exchanges.{Ends, Good, Broke, OutOfMemory}
use Rattle.driver_line.specs.Parts.{IsOnePart}
use Rattle.driver_line.specs.Transcripts.{StopsAt}

-- the laws of packets and answers on which this rests

abbrev pub SameLaw : (P G : Type 0) → (P → Packet → AnswerState P G) → AnswerState P G → Type 0
SameLaw P G step start = (ps qs : List Packet) (a b x y : List ℕ) (u v : AnswerState P G) → SpellAll ps a → SpellAll qs b → a ++ x ≡ b ++ y
    → outcome step limit start ps ≡ u → outcome step limit start qs ≡ v → IsEnd u → IsEnd v → (ps ≡ qs) × (a ≡ b) × (u ≡ v)

abbrev pub LongerLaw : (P G : Type 0) → (P → Packet → AnswerState P G) → AnswerState P G → Type 0
LongerLaw P G step start = (ps qs : List Packet) (a b x y : List ℕ) (p : P) (v : AnswerState P G) → SpellAll ps a → SpellAll qs b → a ++ x ≡ b ++ y → HasNoPacket x
    → outcome step limit start ps ≡ On p → outcome step limit start qs ≡ v → IsEnd v → ⊥

pub record PacketLaws : Type 0 where
  pub reading : (ps qs : List Packet) (a b x y : List ℕ) → SpellAll ps a → SpellAll qs b → a ++ x ≡ b ++ y → HasNoPacket x → HasNoPacket y
      → (ps ≡ qs) × (a ≡ b) × (x ≡ y)
  pub fault : (bytes more : List ℕ) → HasFault bytes → HasFault (bytes ++ more)
  pub part : (bytes : List ℕ) → IsPartial bytes → HasFault bytes → ⊥

-- an open answer, with no packet after it
abbrev OpenAt : {G : Type 0} → List ℕ → Ends G → Type 0
OpenAt bytes end = ((end ≡ Broke cause.BadPacket) × HasFault bytes) ⊎ ((end ≡ Broke cause.Ended) × IsPartial bytes)

end_of : {P G : Type 0} → AnswerState P G → Ends G
end_of (On p) = OutOfMemory
end_of (Done g) = Good g
end_of (Broken why) = Broke why
end_of Late = OutOfMemory

no_packet_at : {G : Type 0} (bytes : List ℕ) (end : Ends G) → OpenAt bytes end → HasNoPacket bytes
no_packet_at bytes end (inl h) = inr h.1
no_packet_at bytes end (inr h) = inl h.1

open_at : {P G : Type 0} (laws : PacketLaws) (p : P) (rest ahead : List ℕ) (end : Ends G) → IsSettled end → (end ≡ Broke cause.Ended → ahead ≡ [])
    → StopsAt {G = G} (On p) rest end → OpenAt (rest ++ ahead) end
open_at laws p rest ahead (Good g) s f h = absurd h
open_at laws p rest ahead OutOfMemory s f h = absurd h
open_at laws p rest ahead (Broke cause.BadPacket) s f h = inl (refl, laws.fault rest ahead h)
open_at laws p rest ahead (Broke cause.Ended) s f h =
    inr (refl, subst IsPartial (sym (ap (λ (x : List ℕ). rest ++ x) (f refl) ∙ append-nil rest)) h)
open_at laws p rest ahead (Broke cause.LinkFault) s f h = absurd s
open_at laws p rest ahead (Broke cause.BadHandshake) s f h = absurd h
open_at laws p rest ahead (Broke cause.UnknownStatus) s f h = absurd h
open_at laws p rest ahead (Broke cause.StrangeDelay) s f h = absurd h
open_at laws p rest ahead (Broke cause.TooLong) s f h = absurd h
open_at laws p rest ahead (Broke cause.StrangePath) s f h = absurd h
open_at laws p rest ahead (Broke cause.ListRefused) s f h = absurd h

open_ends : {G : Type 0} (laws : PacketLaws) (bytes : List ℕ) (x y : Ends G) → OpenAt bytes x → OpenAt bytes y → x ≡ y
open_ends laws bytes x y (inl a) (inl b) = a.0 ∙ sym b.0
open_ends laws bytes x y (inl a) (inr b) = absurd (laws.part bytes b.1 a.1)
open_ends laws bytes x y (inr a) (inl b) = absurd (laws.part bytes a.1 b.1)
open_ends laws bytes x y (inr a) (inr b) = a.0 ∙ sym b.0

module _ {P G : Type 0} (laws : PacketLaws) (step : P → Packet → AnswerState P G) (start : AnswerState P G) (same : SameLaw P G step start) (longer : LongerLaw P G step start) where
  abbrev Alike : List Packet → List Packet → List ℕ → List ℕ → Ends G → Ends G → Type 0
  Alike ps qs a b x y = (x ≡ y) × (ps ≡ qs) × (a ≡ b)

  both_open : (ps qs : List Packet) (a b r s : List ℕ) (x y : Ends G) → SpellAll ps a → SpellAll qs b → a ++ r ≡ b ++ s → OpenAt r x → OpenAt s y → Alike ps qs a b x y
  both_open ps qs a b r s x y sp sq e i j =
      let k = laws.reading ps qs a b r s sp sq e (no_packet_at r x i) (no_packet_at s y j) in
      (open_ends laws s x y (subst (λ (z : List ℕ). OpenAt z x) k.2 i) j, k.0, k.1)

  both_ended : (t u : AnswerState P G) (ps qs : List Packet) (a b r s : List ℕ) (x y : Ends G) → SpellAll ps a → SpellAll qs b → a ++ r ≡ b ++ s
      → outcome step limit start ps ≡ t → outcome step limit start qs ≡ u → IsEnd t → IsEnd u → x ≡ end_of t → y ≡ end_of u → Alike ps qs a b x y
  both_ended t u ps qs a b r s x y sp sq e i j m n f g =
      let k = same ps qs a b r s t u sp sq e i j m n in
      (f ∙ (ap end_of k.2 ∙ sym g), k.0, k.1)

  pairs : (t u : AnswerState P G) (ps qs : List Packet) (a b r s c d : List ℕ) (x y : Ends G) → SpellAll ps a → SpellAll qs b → a ++ (r ++ c) ≡ b ++ (s ++ d)
      → outcome step limit start ps ≡ t → outcome step limit start qs ≡ u → IsSettled x → IsSettled y → (x ≡ Broke cause.Ended → c ≡ []) → (y ≡ Broke cause.Ended → d ≡ [])
      → StopsAt t r x → StopsAt u s y → Alike ps qs a b x y
  unfolding end_of
  pairs (On p) (On q) ps qs a b r s c d x y sp sq e i j m n f g h k =
      both_open ps qs a b (r ++ c) (s ++ d) x y sp sq e (open_at laws p r c x m f h) (open_at laws q s d y n g k)
  pairs (On p) (Done z) ps qs a b r s c d x y sp sq e i j m n f g h k =
      absurd (longer ps qs a b (r ++ c) (s ++ d) p (Done z) sp sq e (no_packet_at (r ++ c) x (open_at laws p r c x m f h)) i j tt)
  pairs (On p) (Broken z) ps qs a b r s c d x y sp sq e i j m n f g h k =
      absurd (longer ps qs a b (r ++ c) (s ++ d) p (Broken z) sp sq e (no_packet_at (r ++ c) x (open_at laws p r c x m f h)) i j tt)
  pairs (Done z) (On q) ps qs a b r s c d x y sp sq e i j m n f g h k =
      absurd (longer qs ps b a (s ++ d) (r ++ c) q (Done z) sq sp (sym e) (no_packet_at (s ++ d) y (open_at laws q s d y n g k)) j i tt)
  pairs (Broken z) (On q) ps qs a b r s c d x y sp sq e i j m n f g h k =
      absurd (longer qs ps b a (s ++ d) (r ++ c) q (Broken z) sq sp (sym e) (no_packet_at (s ++ d) y (open_at laws q s d y n g k)) j i tt)
  pairs (Done z) (Done w) ps qs a b r s c d x y sp sq e i j m n f g h k =
      both_ended (Done z) (Done w) ps qs a b (r ++ c) (s ++ d) x y sp sq e i j tt tt h k
  pairs (Done z) (Broken w) ps qs a b r s c d x y sp sq e i j m n f g h k =
      both_ended (Done z) (Broken w) ps qs a b (r ++ c) (s ++ d) x y sp sq e i j tt tt h k
  pairs (Broken z) (Done w) ps qs a b r s c d x y sp sq e i j m n f g h k =
      both_ended (Broken z) (Done w) ps qs a b (r ++ c) (s ++ d) x y sp sq e i j tt tt h k
  pairs (Broken z) (Broken w) ps qs a b r s c d x y sp sq e i j m n f g h k =
      both_ended (Broken z) (Broken w) ps qs a b (r ++ c) (s ++ d) x y sp sq e i j tt tt h k
  pairs Late u ps qs a b r s c d x y sp sq e i j m n f g h k = absurd h
  pairs (On p) Late ps qs a b r s c d x y sp sq e i j m n f g h k = absurd k
  pairs (Done z) Late ps qs a b r s c d x y sp sq e i j m n f g h k = absurd k
  pairs (Broken z) Late ps qs a b r s c d x y sp sq e i j m n f g h k = absurd k

  pub one_part : IsOnePart P G step start
  one_part output u1 r1 u2 r2 x y one two =
      let e : u1 ++ (r1 ++ one.ahead) ≡ u2 ++ (r2 ++ two.ahead) =
      sym (append_assoc u1 r1 one.ahead) ∙ (sym one.whole ∙ (two.whole ∙ append_assoc u2 r2 two.ahead)) in
      pairs (outcome step limit start one.part.packets) (outcome step limit start two.part.packets) one.part.packets two.part.packets u1 u2 r1 r2 one.ahead two.ahead x y
      one.part.spelled two.part.spelled e refl refl one.settled two.settled one.ended two.ended one.part.stops two.part.stops
