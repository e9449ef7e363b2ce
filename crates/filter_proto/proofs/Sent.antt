-- A request that is sent in parts.
use Rattle.std.proofs.Common.{◌≡◌, ℕ, suc, ◌-◌, ◌<◌, ◌≤◌, List, [], ◌∷◌, ◌++◌, length, length-append, take, drop, Option, Result, Ok, Err, refl, sym, ap, subst, ◌∙◌, arith, append_assoc}
use Rattle.std.specs.Prelude.{⊤, OnOk}
use Rattle.std.proofs.lemmas.List.{append-nil, length-drop, take_all}
use Rattle.pkt_line.specs.Packets.{Packet, Payload, Flush}
use Rattle.pkt_line.specs.Spelling.{spelling, spelling_all, content_packets, piece_count}
use Rattle.filter_words.specs.Requests.{content_text}
use Rattle.edge_kit.specs.Faults.{Rose}
use Rattle.edge_kit.specs.Files.{grown}
use Rattle.edge_kit.specs.declared.faults.SendFault.{SendFault}
use Rattle.edge_kit.specs.declared.faults.SendFault.TheVariants as send
use Rattle.edge_kit.specs.Links.{LinkSeen, SendsPart, IsSendCut}
use Rattle.filter_proto.specs.Sending.{SendsAll}
use Rattle.filter_proto.proofs.Told.{grown_nothing, grown_both}

-- nothing was sent, since memory ran out
pub sent_none : (text : List ℕ) (s : LinkSeen) → SendsAll {T = ⊤} text s s (Err send.NoMemory)
sent_none text s = record {
  sends = record {
    part = record { front = []; after = text; cut = refl; told = sym (grown_nothing s.sent); proper = λ h. h };
    kept = refl;
  };
  counts = refl;
}

pub sent_as : {T : Type 0} (text same : List ℕ) (old new : LinkSeen) (r : Result T SendFault) → same ≡ text → SendsAll text old new r → SendsAll same old new r
sent_as text same old new r e h = rw e h

-- a text was sent, and then a part of another one
part_behind : (a b : List ℕ) (old new : Option (List ℕ)) → 0 < length b → SendsPart (grown old a) b new → SendsPart old (a ++ b) new
part_behind a b old new some p = record {
  front = a ++ p.front;
  after = p.after;
  cut = ap (λ (x : List ℕ). a ++ x) p.cut ∙ sym (append_assoc a p.front p.after);
  told = p.told ∙ grown_both old a p.front;
  proper = λ more. p.proper some;
}

cut_behind : (a b : List ℕ) (old mid new : LinkSeen) → 0 < length b → mid ≡ record old { sent = grown old.sent a } → IsSendCut b mid new → IsSendCut (a ++ b) old new
cut_behind a b old mid new some e h = record {
  part = part_behind a b old.sent new.sent some (subst (λ (x : Option (List ℕ)). SendsPart x b new.sent) (ap (λ (m : LinkSeen). m.sent) e) h.part);
  kept = h.kept ∙ ap (λ (m : LinkSeen). record m { sent = new.sent; faults = new.faults }) e;
}

-- a text was sent, and then another one, or a part of it
pub sent_behind : {T : Type 0} (a b : List ℕ) (old mid new : LinkSeen) (r : Result T SendFault) → 0 < length b → mid ≡ record old { sent = grown old.sent a } → SendsAll b mid new r → SendsAll (a ++ b) old new r
sent_behind a b old mid new (Ok x) some e h = record {
  sends = h.sends ∙ (ap (λ (m : LinkSeen). record m { sent = grown m.sent b }) e ∙ ap (λ (s : Option (List ℕ)). record old { sent = s }) (grown_both old.sent a b));
  counts = h.counts ∙ ap (λ (m : LinkSeen). m.faults) e;
}
sent_behind a b old mid new (Err send.Failed) some e h = record {
  sends = cut_behind a b old mid new some e h.sends;
  counts = subst (λ (n : ℕ). Rose n new.faults) (ap (λ (m : LinkSeen). m.faults) e) h.counts;
}
sent_behind a b old mid new (Err send.NoMemory) some e h = record {
  sends = cut_behind a b old mid new some e h.sends;
  counts = h.counts ∙ ap (λ (m : LinkSeen). m.faults) e;
}

-- a part of a text is a part of a longer one
part_of_more : (a b : List ℕ) (old new : Option (List ℕ)) → SendsPart old a new → SendsPart old (a ++ b) new
part_of_more a b old new p = record {
  front = p.front;
  after = p.after ++ b;
  cut = ap (λ (x : List ℕ). x ++ b) p.cut ∙ append_assoc p.front p.after b;
  told = p.told;
  proper = proper_more a b p.after p.proper;
}
  where
    proper_more : (a b after : List ℕ) → (0 < length a → 0 < length after) → 0 < length (a ++ b) → 0 < length (after ++ b)
    proper_more [] b after proper some = omega (arith, length-append after b)
    proper_more (x ∷ xs) b after proper some = let more = proper (omega arith) in omega (arith, length-append after b, more)

pub stopped_before : {T : Type 0} (a b : List ℕ) (old new : LinkSeen) (e : SendFault) → SendsAll {T = T} a old new (Err e) → SendsAll {T = T} (a ++ b) old new (Err e)
stopped_before a b old new send.Failed h = record {
  sends = record { part = part_of_more a b old.sent new.sent h.sends.part; kept = h.sends.kept };
  counts = h.counts;
}
stopped_before a b old new send.NoMemory h = record {
  sends = record { part = part_of_more a b old.sent new.sent h.sends.part; kept = h.sends.kept };
  counts = h.counts;
}

-- contents as packets

piece_count-drop : (n : ℕ) → 1 ≤ n → piece_count n ≡ suc (piece_count (n - 65516))
piece_count-drop n some = omega arith

content_packets-cut : (rest : List ℕ) → 1 ≤ length rest → content_packets rest ≡ Payload (take 65516 rest) ∷ content_packets (drop 65516 rest)
content_packets-cut rest some =
    let e : piece_count (length rest) ≡ suc (piece_count (length (drop 65516 rest))) =
    piece_count-drop (length rest) some ∙ ap (λ (n : ℕ). suc (piece_count n)) (sym (length-drop 65516 rest)) in
    rw e refl

pub content_cut : (rest : List ℕ) → 1 ≤ length rest → content_text rest ≡ spelling (Payload (take 65516 rest)) ++ content_text (drop 65516 rest)
unfolding content_text
content_cut rest some = ap (λ (ps : List Packet). spelling_all (ps ++ Flush ∷ [])) (content_packets-cut rest some)

pub content_none : content_text [] ≡ spelling Flush
unfolding content_text
content_none = append-nil (spelling Flush)

empty_is : (xs : List ℕ) → length xs ≡ 0 → xs ≡ []
empty_is [] e = refl
empty_is (x ∷ xs) e = absurd (omega arith)

pub content_one : (piece : List ℕ) → 1 ≤ length piece → length piece ≤ 65516 → content_text piece ≡ spelling (Payload piece) ++ spelling Flush
content_one piece some few =
    let all : take 65516 piece ≡ piece = take_all 65516 piece few in
    let none : drop 65516 piece ≡ [] = empty_is (drop 65516 piece) (omega (arith, length-drop 65516 piece)) in
    content_cut piece some ∙ (ap (λ (x : List ℕ). spelling (Payload x) ++ content_text (drop 65516 piece)) all ∙ (ap (λ (x : List ℕ). spelling (Payload piece) ++ content_text x) none ∙ ap (λ (x : List ℕ). spelling (Payload piece) ++ x) content_none))

ends_so : length (spelling Flush) ≡ 4 → (ps : List Packet) → 0 < length (spelling_all (ps ++ Flush ∷ []))
ends_so four [] = omega (arith, length-append (spelling Flush) [], four)
ends_so four (p ∷ ps) = let more = ends_so four ps in omega (arith, length-append (spelling p) (spelling_all (ps ++ Flush ∷ [])), more)

-- a flush packet comes after each content
pub content_some : length (spelling Flush) ≡ 4 → (content : List ℕ) → 0 < length (content_text content)
unfolding content_text
content_some four content = ends_so four (content_packets content)

-- what is held and the content after it are the rest of a text whose front was sent
pub record IsUnderway (old now : LinkSeen) (whole held rest : List ℕ) : Type 0 where
  pub before : List ℕ
  pub sent : now ≡ record old { sent = grown old.sent before }
  pub text : whole ≡ before ++ (held ++ content_text rest)

pub underway_first : (old : LinkSeen) (held rest : List ℕ) → IsUnderway old old (held ++ content_text rest) held rest
underway_first old held rest = record {
  before = [];
  sent = ap (λ (s : Option (List ℕ)). record old { sent = s }) (sym (grown_nothing old.sent));
  text = refl;
}

behind_piece : (whole before held piece rest after : List ℕ) → whole ≡ before ++ (held ++ content_text rest) → content_text rest ≡ spelling (Payload piece) ++ content_text after
    → whole ≡ before ++ ((held ++ spelling (Payload piece)) ++ content_text after)
behind_piece whole before held piece rest after e c =
    e ∙ ap (λ (x : List ℕ). before ++ x) (ap (λ (x : List ℕ). held ++ x) c ∙ sym (append_assoc held (spelling (Payload piece)) (content_text after)))

pub underway_next : (old now new : LinkSeen) (whole held piece rest after none : List ℕ) → IsUnderway old now whole held rest → 65516 < length rest → piece ≡ take 65516 rest → after ≡ drop 65516 rest
    → SendsAll {T = ⊤} (held ++ spelling (Payload piece)) now new (Ok tt) → none ≡ [] → IsUnderway old new whole none after
underway_next old now new whole held piece rest after none u more p a h e =
    let c : content_text rest ≡ spelling (Payload piece) ++ content_text after = rw (p, a) (content_cut rest (omega arith)) in
    let one = held ++ spelling (Payload piece) in
    record {
      before = u.before ++ one;
      sent = h.sends ∙ (ap (λ (m : LinkSeen). record m { sent = grown m.sent one }) u.sent ∙ ap (λ (s : Option (List ℕ)). record old { sent = s }) (grown_both old.sent u.before one));
      text = rw e (behind_piece whole u.before held piece rest after u.text c ∙ sym (append_assoc u.before one (content_text after)));
    }

pub underway_stops : length (spelling Flush) ≡ 4 → (old now new : LinkSeen) (whole held piece rest after : List ℕ) (f : SendFault) → IsUnderway old now whole held rest → 65516 < length rest → piece ≡ take 65516 rest → after ≡ drop 65516 rest
    → SendsAll {T = ⊤} (held ++ spelling (Payload piece)) now new (Err f) → SendsAll {T = ⊤} whole old new (Err f)
underway_stops four old now new whole held piece rest after f u more p a h =
    let c : content_text rest ≡ spelling (Payload piece) ++ content_text after = rw (p, a) (content_cut rest (omega arith)) in
    let one = held ++ spelling (Payload piece) in
    let some : 0 < length (one ++ content_text after) = let s = content_some four after in omega (arith, length-append one (content_text after), s) in
    sent_as _ whole old new (Err f) (behind_piece whole u.before held piece rest after u.text c)
    (sent_behind u.before (one ++ content_text after) old now new (Err f) some u.sent (stopped_before one (content_text after) now new f h))

pub underway_last : length (spelling Flush) ≡ 4 → (old now new : LinkSeen) (whole held rest : List ℕ) (r : Result ⊤ SendFault) → IsUnderway old now whole held rest → SendsAll (held ++ content_text rest) now new r → SendsAll whole old new r
underway_last four old now new whole held rest r u h =
    let some : 0 < length (held ++ content_text rest) = let s = content_some four rest in omega (arith, length-append held (content_text rest), s) in
    sent_as _ whole old new r u.text (sent_behind u.before (held ++ content_text rest) old now new r some u.sent h)

-- the text that is held, with the last packet and the flush packet after it
on_ok : {A E : Type 0} (r : Result A E) (P Q : Type 0) → (P → Q) → OnOk r P → OnOk r Q
on_ok (Ok a) P Q f p = f p
on_ok (Err e) P Q f p = p

pub last_none : {A E : Type 0} (r : Result A E) (old new piece : List ℕ) → length piece ≡ 0 → OnOk r (new ≡ old ++ spelling Flush) → OnOk r (new ≡ old ++ content_text piece)
last_none r old new piece e h = on_ok r _ _ (λ (k : new ≡ old ++ spelling Flush). k ∙ ap (λ (x : List ℕ). old ++ x) (sym (ap content_text (empty_is piece e) ∙ content_none))) h

pub last_one : {A E : Type 0} (r : Result A E) (old mid new piece : List ℕ) → 0 < length piece → length piece ≤ 65516 → mid ≡ old ++ spelling (Payload piece) → OnOk r (new ≡ mid ++ spelling Flush) → OnOk r (new ≡ old ++ content_text piece)
last_one r old mid new piece some few m h = on_ok r _ _ (λ (k : new ≡ mid ++ spelling Flush).
    k ∙ (ap (λ (x : List ℕ). x ++ spelling Flush) m ∙ (append_assoc old (spelling (Payload piece)) (spelling Flush) ∙ ap (λ (x : List ℕ). old ++ x) (sym (content_one piece (omega (arith, some)) few))))) h
