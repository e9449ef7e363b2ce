-- The text of a host, by its packets.
use Rattle.std.proofs.Common.{◌≡◌, ℕ, ◌+◌, ◌≤◌, ◌<◌, ◌⊎◌, inl, inr, Bool, true, false, List, [], ◌∷◌, ◌++◌, take, drop}
use Rattle.std.proofs.Common.{Option, Some, None, refl, sym, ap, ◌∙◌, subst, append_assoc, arith, take-append-drop}
use Rattle.std.specs.Prelude.{codes, if◌then◌else◌}
use Rattle.std.specs.Str.{bytes_eq}
use Rattle.std.proofs.lemmas.List.{append-nil}
use Rattle.pkt_line.specs.Packets.{Packet, Payload, Flush, SpellAll, Stands, IsPartial, HasFault, size, total}
use Rattle.filter_words.specs.Outcomes.{limit}
use Rattle.filter_words.specs.Words.{without_lf}
use Rattle.filter_words.specs.declared.reply.Caps.{Caps}
use Rattle.driver_host.specs.declared.work.Choice.{Choice}
use Rattle.driver_host.specs.declared.keys.Keys.{Keys}
use Rattle.driver_host.specs.declared.host.HostFault.{HostFault}
use Rattle.driver_host.specs.declared.host.HostFault.TheVariants as fault
use Rattle.driver_host.specs.declared.talk.Part.{Part}
use Rattle.driver_host.specs.declared.talk.Part.TheVariants as part
use Rattle.driver_host.specs.HostText.{Stage, Fresh, Greeted, Serving, Over, Owed, HostEnd, Waits, Stopped, Refused, EndsSo}
use Rattle.driver_host.specs.Works.{WorkTold}
use Rattle.driver_host.specs.Chosen.{Contents, IsChosenText}
use Rattle.driver_host.specs.HostText.{IsUnfinished, IsBad, HasPart, HasRefused, may_name}
use Rattle.driver_host.specs.Talks.{Reading, TalkSeen, HoldsPart, Holds, after_line, reading_after, Fits, FitsPart}
use Rattle.driver_host.specs.Talks.{AreBadKeys}
use Rattle.driver_host.specs.Hosts.{IsHeld, IsOfFront, RefusedBy, IsStuck, RefusesPacket}
use Rattle.driver_host.proofs.History.{total_snoc}
use Rattle.driver_host.proofs.Ends.{flush_total}

-- packets and the bytes that spell them

record Split (ps qs : List Packet) (bytes : List ℕ) : Type 0 where
  pub front : List ℕ
  pub back : List ℕ
  pub first : SpellAll ps front
  pub second : SpellAll qs back
  pub whole : bytes ≡ front ++ back

split : (ps qs : List Packet) (bytes : List ℕ) → SpellAll (ps ++ qs) bytes → Split ps qs bytes
split [] qs bytes s = record { front = []; back = bytes; first = refl; second = s; whole = refl }
split (p ∷ ps) qs bytes s =
    let r = split ps qs s.1 s.3 in
    record {
      front = s.0 ++ r.front;
      back = r.back;
      first = (s.0, r.front, s.2, r.first, refl);
      second = r.second;
      whole = s.4 ∙ (ap (λ (z : List ℕ). s.0 ++ z) r.whole ∙ sym (append_assoc s.0 r.front r.back));
    }

pub spell_snoc : (ps : List Packet) (p : Packet) (read unread : List ℕ) → SpellAll ps read → Stands p unread
    → SpellAll (ps ++ p ∷ []) (read ++ take (size p) unread)
spell_snoc [] p read unread s stands = (
  take (size p) unread,
  [],
  stands,
  refl,
  ap (λ (z : List ℕ). z ++ take (size p) unread) s ∙ sym (append-nil (take (size p) unread)),
)
spell_snoc (q ∷ ps) p read unread s stands = (
  s.0,
  s.1 ++ take (size p) unread,
  s.2,
  spell_snoc ps p s.1 unread s.3 stands,
  ap (λ (z : List ℕ). z ++ take (size p) unread) s.4 ∙ append_assoc s.0 s.1 (take (size p) unread),
)

pub front_off : (n : ℕ) (read unread : List ℕ) → read ++ unread ≡ (read ++ take n unread) ++ drop n unread
front_off n read unread =
    ap (λ (z : List ℕ). read ++ z) (sym (take-append-drop n unread))
    ∙ sym (append_assoc read (take n unread) (drop n unread))

-- what is held of the request that is read

pub held_part : (s : Stage) (r : Reading) (ps : List Packet) → FitsPart s r.part r.keys → Holds s r ps
    → HoldsPart s r.part r ps
held_part Fresh r ps f h = h
held_part Greeted r ps f h = h
held_part (Serving agreed owed) r ps f h = h
held_part Over r ps f h = absurd f

unfinished : (s : Stage) (p : Part) (r : Reading) (ps : List Packet) → HoldsPart s p r ps → IsUnfinished s ps
unfinished Fresh part.Client r ps h = inl h
unfinished Fresh (part.Version found) r ps h = inr (h.0, h.1, h.2, h.3)
unfinished Fresh (part.Offer caps) r ps h = absurd h
unfinished Fresh part.KeyList r ps h = absurd h
unfinished Fresh part.Content r ps h = absurd h
unfinished Greeted part.Client r ps h = absurd h
unfinished Greeted (part.Version found) r ps h = absurd h
unfinished Greeted (part.Offer caps) r ps h = (h.0, h.1)
unfinished Greeted part.KeyList r ps h = absurd h
unfinished Greeted part.Content r ps h = absurd h
unfinished (Serving agreed owed) part.Client r ps h = absurd h
unfinished (Serving agreed owed) (part.Version found) r ps h = absurd h
unfinished (Serving agreed owed) (part.Offer caps) r ps h = absurd h
unfinished (Serving agreed owed) part.KeyList r ps h = inl (h.0, h.1)
unfinished (Serving agreed owed) part.Content r ps h = inr (record {
  keys = h.0;
  pieces = h.1;
  whole = h.2;
  command = sym (ap (λ (k : Keys). k.smudge) h.3) ∙ h.5;
  announced = h.6;
  may = subst (λ (o : Option (List ℕ)). may_name owed o ≡ true) (ap (λ (k : Keys). k.path) h.3) h.7;
})
unfinished Over p r ps h = absurd h

not_begun : (s : Stage) (p : Part) (k : Keys) → FitsPart s p k → IsUnfinished s []
not_begun Fresh p k f = inl refl
not_begun Greeted p k f = ([], refl)
not_begun (Serving agreed owed) p k f = inl ([], refl)
not_begun Over p k f = absurd f

part_of : {W : Type 0} (t : TalkSeen W) (ps : List Packet) → Fits t → Holds t.stage t.reading ps → IsUnfinished t.stage ps
part_of t ps f h = unfinished t.stage t.reading.part t.reading ps (held_part t.stage t.reading ps f h)

-- the text, by how what was read of the next request ends

text_at : {W : Type 0} (told : W → WorkTold) (latest : W → Contents) (bytes : List ℕ) (cs : List Choice) (text unread : List ℕ) (t : TalkSeen W)
    → (h : IsHeld told latest bytes cs text unread t) → (end : HostEnd)
    → ((read : List ℕ) → SpellAll h.talk.current read → EndsSo t.stage (read ++ unread) end)
    → IsChosenText (told t.work) t.own t.batch bytes cs text end
text_at told latest bytes cs text unread t h end ends =
    let a = h.talk in
    let s = split a.past a.current h.read (subst (λ (ps : List Packet). SpellAll ps h.read) a.whole h.spelled) in
    record {
      is = record {
        batch_some = a.batch_some;
        requests = a.requests;
        packets = a.past;
        read = s.front;
        rest = s.back ++ unread;
        answers = a.answers;
        stage = t.stage;
        spelled = s.first;
        whole = h.whole ∙ (ap (λ (z : List ℕ). z ++ unread) s.whole ∙ append_assoc s.front s.back unread);
        are = a.are;
        answered = a.answered;
        text_is = a.text_is;
        ends = ends s.back s.second;
      };
      contents = a.contents;
      chosen = a.chosen;
    }

part_then : {W : Type 0} (t : TalkSeen W) (ps : List Packet) (read unread : List ℕ) (after : List ℕ → Type 0) → Fits t
    → Holds t.stage t.reading ps → t.reading.room + total ps ≡ limit → SpellAll ps read → after unread
    → HasPart t.stage (read ++ unread) after
part_then t ps read unread after f h fits s x = record {
  packets = ps;
  read = read;
  rest = unread;
  spelled = s;
  whole = refl;
  unfinished = part_of t ps f h;
  fits = omega (arith, fits);
  ends = x;
}

pub waits : {W : Type 0} (told : W → WorkTold) (latest : W → Contents) (bytes : List ℕ) (cs : List Choice) (text unread : List ℕ) (t : TalkSeen W) → IsHeld told latest bytes cs text unread t
    → Fits t → IsPartial unread → IsChosenText (told t.work) t.own t.batch bytes cs text Waits
waits told latest bytes cs text unread t h f part =
    text_at told latest bytes cs text unread t h Waits
    (λ read s. part_then t h.talk.current read unread IsPartial f h.talk.holds h.talk.fits s part)

pub stops : {W : Type 0} (told : W → WorkTold) (latest : W → Contents) (bytes : List ℕ) (cs : List Choice) (text unread : List ℕ) (t : TalkSeen W) → IsHeld told latest bytes cs text unread t
    → t.stage ≡ Over → IsChosenText (told t.work) t.own t.batch bytes cs text Stopped
stops told latest bytes cs text unread t h over = text_at told latest bytes cs text unread t h Stopped (λ read s. over)

front : {W : Type 0} (told : W → WorkTold) (latest : W → Contents) (bytes : List ℕ) (cs : List Choice) (text unread : List ℕ) (t : TalkSeen W) → IsHeld told latest bytes cs text unread t
    → Fits t → IsOfFront (told t.work) t.own t.batch bytes cs text
front told latest bytes cs text unread t h f =
    let a = h.talk in
    let s = split a.past a.current h.read (subst (λ (ps : List Packet). SpellAll ps h.read) a.whole h.spelled) in
    record {
      front = s.front;
      after = s.back ++ unread;
      cut = h.whole ∙ (ap (λ (z : List ℕ). z ++ unread) s.whole ∙ append_assoc s.front s.back unread);
      text_is = record {
        is = record {
          batch_some = a.batch_some;
          requests = a.requests;
          packets = a.past;
          read = s.front;
          rest = [];
          answers = a.answers;
          stage = t.stage;
          spelled = s.first;
          whole = sym (append-nil s.front);
          are = a.are;
          answered = a.answered;
          text_is = a.text_is;
          ends = record {
            packets = [];
            read = [];
            rest = [];
            spelled = refl;
            whole = refl;
            unfinished = not_begun t.stage t.reading.part t.reading.keys f;
            fits = omega arith;
            ends = inl (omega arith);
          };
        };
        contents = a.contents;
        chosen = a.chosen;
      };
    }

-- why a packet is refused

abbrev pub IsCause : Stage → HostFault → List Packet → Type 0
IsCause s why ps = ((why ≡ fault.TooLong) × (limit < total ps)) ⊎ ((total ps ≤ limit) × IsBad s why ps)

refused_with : {W : Type 0} (why : HostFault) (t : TalkSeen W) (ps : List Packet) (read unread : List ℕ) (p : Packet) → Fits t
    → Holds t.stage t.reading ps → t.reading.room + total ps ≡ limit → SpellAll ps read → Stands p unread
    → IsCause t.stage why (ps ++ p ∷ []) → HasRefused t.stage (read ++ unread) why
refused_with why t ps read unread p f h fits s stands cause = record {
  packets = ps ++ p ∷ [];
  read = read ++ take (size p) unread;
  rest = drop (size p) unread;
  spelled = spell_snoc ps p read unread s stands;
  whole = front_off (size p) read unread;
  refused = record {
    before = ps;
    last = p;
    whole = refl;
    unfinished = part_of t ps f h;
    fitted = omega (arith, fits);
    cause_is = cause;
  };
}

no_client_at : (is : Bool) (r : Reading) (line : List ℕ)
    → bytes_eq (without_lf line) (codes "git-filter-client") ≡ is
    → (if is then Some (reading_after r (part.Version false) r.keys r.content line) else None) ≡ None → is ≡ false
no_client_at true r line same e = absurd cc
no_client_at false r line same e = refl

no_client : (r : Reading) (line : List ℕ) → after_line part.Client r line ≡ None
    → bytes_eq (without_lf line) (codes "git-filter-client") ≡ false
no_client r line e = no_client_at _ r line refl e

bad_line : (s : Stage) (p : Part) (r : Reading) (line : List ℕ) (ps : List Packet) → HoldsPart s p r ps
    → after_line p r line ≡ None → IsBad s fault.BadHello (ps ++ Payload line ∷ [])
bad_line Fresh part.Client r line ps h e =
    subst (λ (z : List Packet). IsBad Fresh fault.BadHello (z ++ Payload line ∷ [])) (sym h) (inl (no_client r line e))
bad_line Greeted part.Client r line ps h e = absurd h
bad_line (Serving agreed owed) part.Client r line ps h e = absurd h
bad_line Over part.Client r line ps h e = absurd h
bad_line s (part.Version found) r line ps h e = absurd cc
bad_line s (part.Offer caps) r line ps h e = absurd cc
bad_line s part.KeyList r line ps h e = absurd cc
bad_line s part.Content r line ps h e = absurd cc

no_client_ends : (s : Stage) (r : Reading) (ps : List Packet) → HoldsPart s part.Client r ps
    → IsBad s fault.BadHello (ps ++ Flush ∷ [])
no_client_ends Fresh r ps h = subst (λ (z : List Packet). IsBad Fresh fault.BadHello (z ++ Flush ∷ [])) (sym h) (inl tt)
no_client_ends Greeted r ps h = absurd h
no_client_ends (Serving agreed owed) r ps h = absurd h
no_client_ends Over r ps h = absurd h

no_version_ends : (s : Stage) (r : Reading) (ps : List Packet) → HoldsPart s (part.Version false) r ps
    → IsBad s fault.BadHello (ps ++ Flush ∷ [])
no_version_ends Fresh r ps h = inr (record {
  client = h.0;
  lines = h.1;
  whole = ap (λ (z : List Packet). z ++ Flush ∷ []) h.2;
  client_is = h.3;
  no_version = sym h.4;
})
no_version_ends Greeted r ps h = absurd h
no_version_ends (Serving agreed owed) r ps h = absurd h
no_version_ends Over r ps h = absurd h

hello_ends : (s : Stage) (r : Reading) (ps : List Packet) → HoldsPart s r.part r ps
    → (r.part ≡ part.Client) ⊎ (r.part ≡ part.Version false) → IsBad s fault.BadHello (ps ++ Flush ∷ [])
hello_ends s r ps h (inl e) = no_client_ends s r ps (subst (λ (p : Part). HoldsPart s p r ps) e h)
hello_ends s r ps h (inr e) = no_version_ends s r ps (subst (λ (p : Part). HoldsPart s p r ps) e h)

keys_end : (agreed : Caps) (owed : Owed) (r : Reading) (ps : List Packet) → HoldsPart (Serving agreed owed) part.KeyList r ps
    → AreBadKeys agreed owed r.keys → IsBad (Serving agreed owed) fault.BadRequest (ps ++ Flush ∷ [])
keys_end agreed owed r ps h bad =
    (h.0, ap (λ (z : List Packet). z ++ Flush ∷ []) h.1, subst (λ (k : Keys). AreBadKeys agreed owed k) h.2 bad)

list_ends : (s : Stage) (r : Reading) (ps : List Packet) → HoldsPart s r.part r ps → r.part ≡ part.KeyList
    → (agreed : Caps) (owed : Owed) → s ≡ Serving agreed owed → AreBadKeys agreed owed r.keys
    → IsBad s fault.BadRequest (ps ++ Flush ∷ [])
list_ends s r ps h list agreed owed stage bad =
    subst (λ (z : Stage). IsBad z fault.BadRequest (ps ++ Flush ∷ [])) (sym stage)
    (keys_end agreed owed r ps (subst (λ (z : Stage). HoldsPart z part.KeyList r ps) stage
    (subst (λ (p : Part). HoldsPart s p r ps) list h)) bad)

refuses : {W : Type 0} (told : W → WorkTold) (latest : W → Contents) (bytes : List ℕ) (cs : List Choice) (text unread : List ℕ) (t : TalkSeen W) → (h : IsHeld told latest bytes cs text unread t)
    → Fits t → (p : Packet) → Stands p unread → (why : HostFault) → RefusesPacket p t why
    → RefusedBy why (told t.work) t.own t.batch bytes cs text
refuses told latest bytes cs text unread t h f p stands fault.NoMemory x = front told latest bytes cs text unread t h f
refuses told latest bytes cs text unread t h f (Payload line) stands fault.BadPacket x = absurd x.1
refuses told latest bytes cs text unread t h f Flush stands fault.BadPacket x = absurd x
refuses told latest bytes cs text unread t h f (Payload line) stands fault.BadRequest x = absurd x.1
refuses told latest bytes cs text unread t h f (Payload line) stands fault.TooLong x =
    let ps = h.talk.current in
    let fits = h.talk.fits in
    let longer = total_snoc ps line in
    let over = x.1 in
    text_at told latest bytes cs text unread t h (Refused fault.TooLong)
    (λ read s. refused_with fault.TooLong t ps read unread (Payload line) f h.talk.holds fits s stands
    (inl (refl, omega (arith, fits, longer, over))))
refuses told latest bytes cs text unread t h f Flush stands fault.TooLong x =
    let ps = h.talk.current in
    let fits = h.talk.fits in
    let longer = flush_total ps in
    text_at told latest bytes cs text unread t h (Refused fault.TooLong)
    (λ read s. refused_with fault.TooLong t ps read unread Flush f h.talk.holds fits s stands
    (inl (refl, omega (arith, fits, longer, x))))
refuses told latest bytes cs text unread t h f (Payload line) stands fault.BadHello x =
    let ps = h.talk.current in
    let fits = h.talk.fits in
    let longer = total_snoc ps line in
    let room = x.1.0 in
    text_at told latest bytes cs text unread t h (Refused fault.BadHello)
    (λ read s. refused_with fault.BadHello t ps read unread (Payload line) f h.talk.holds fits s stands
    (inr (
      omega (arith, fits, longer, room),
      bad_line t.stage t.reading.part t.reading line ps (held_part t.stage t.reading ps f h.talk.holds) x.1.1,
    )))
refuses told latest bytes cs text unread t h f Flush stands fault.BadHello x =
    let ps = h.talk.current in
    let fits = h.talk.fits in
    let longer = flush_total ps in
    let room = x.0 in
    text_at told latest bytes cs text unread t h (Refused fault.BadHello)
    (λ read s. refused_with fault.BadHello t ps read unread Flush f h.talk.holds fits s stands
    (inr (
      omega (arith, fits, longer, room),
      hello_ends t.stage t.reading ps (held_part t.stage t.reading ps f h.talk.holds) x.1,
    )))
refuses told latest bytes cs text unread t h f Flush stands fault.BadRequest x =
    let ps = h.talk.current in
    let fits = h.talk.fits in
    let longer = flush_total ps in
    let room = x.0 in
    let k = x.2 in
    text_at told latest bytes cs text unread t h (Refused fault.BadRequest)
    (λ read s. refused_with fault.BadRequest t ps read unread Flush f h.talk.holds fits s stands
    (inr (
      omega (arith, fits, longer, room),
      list_ends t.stage t.reading ps (held_part t.stage t.reading ps f h.talk.holds) x.1 k.0 k.1 k.2 k.3,
    )))

pub stuck : {W : Type 0} (told : W → WorkTold) (latest : W → Contents) (bytes : List ℕ) (cs : List Choice) (text unread : List ℕ) (t : TalkSeen W) → IsHeld told latest bytes cs text unread t
    → Fits t → (why : HostFault) → IsStuck why unread t → RefusedBy why (told t.work) t.own t.batch bytes cs text
stuck told latest bytes cs text unread t h f why (inl x) =
    subst (λ (w : HostFault). RefusedBy w (told t.work) t.own t.batch bytes cs text) (sym x.0)
    (text_at told latest bytes cs text unread t h (Refused fault.BadPacket)
    (λ read s. part_then t h.talk.current read unread HasFault f h.talk.holds h.talk.fits s x.1))
stuck told latest bytes cs text unread t h f why (inr x) = refuses told latest bytes cs text unread t h f x.0 x.1 why x.2
