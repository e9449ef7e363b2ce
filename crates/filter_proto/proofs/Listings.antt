-- One more packet of a list.
use Rattle.std.proofs.Common.{◌≡◌, ℕ, ◌+◌, ◌<◌, ◌≤◌, true, false, not, List, [], ◌∷◌, ◌++◌, length, length-append, map, Option, Some, None, Err, refl, sym, ap, subst, ◌∙◌, append_assoc, arith}
use Rattle.std.specs.Prelude.{⊤, codes, ◌&&◌}
use Rattle.std.proofs.lemmas.List.{append-nil}
use Rattle.pkt_line.specs.Packets.{Packet, Payload, Flush, IsPartial, HasFault, size}
use Rattle.filter_words.specs.Outcomes.{limit}
use Rattle.filter_words.specs.Words.{value_of, status_after}
use Rattle.filter_words.specs.Requests.{list_text}
use Rattle.filter_words.specs.Listing.{GoodList, ListPhase, Names, name_in, after_name, after_value, list_step, list_start, list_status, reply_of_good}
use Rattle.filter_words.specs.ListGrammar.{names_of, with_name}
use Rattle.filter_words.specs.ListStates.{list_phase, list_state, good_list}
use Rattle.filter_words.specs.declared.reply.BreakCause.{BreakCause}
use Rattle.filter_words.specs.declared.reply.BreakCause.TheVariants as cause
use Rattle.filter_words.specs.declared.reply.ListReply.{ListReply}
use Rattle.filter_words.specs.declared.reply.ListReply.TheVariants as reply
use Rattle.filter_words.specs.declared.words.Status.{Status}
use Rattle.filter_words.specs.declared.words.Status.TheVariants as status
use Rattle.filter_words.specs.declared.listing.ListPart.{ListPart}
use Rattle.filter_words.specs.declared.listing.ListPart.TheVariants as part
use Rattle.filter_words.specs.declared.listing.ListEnd.{ListEnd}
use Rattle.filter_words.specs.declared.listing.ListEnd.TheVariants as ends
use Rattle.filter_words.specs.declared.answer_state.AnswerState.{AnswerState}
use Rattle.filter_words.specs.declared.answer_state.AnswerState.TheVariants.{On, Done, Broken, Late}
use Rattle.edge_kit.specs.Files.{grown}
use Rattle.edge_kit.specs.declared.faults.SendFault.TheVariants as send
use Rattle.delay_table.specs.Table.{Table, IsDelayed}
use Rattle.filter_proto.specs.Wires.{Wire, SendsOn, Filled, FillFails}
use Rattle.filter_proto.specs.Exchanges.{Ends, Good, Broke, OutOfMemory, Still, Stops}
use Rattle.filter_proto.specs.Lists.{Lists, HasListed, BreaksLists, EndLists, IsBehindNames, delayed_in, listed_at, IsListExchange}
use Rattle.filter_proto.specs.ListSteps.{ComesBehind, IsNamed, HasNames, IsListing, IsReadList, ListStepIs, EndsSo, TakesName, TakesList}
use Rattle.filter_proto.specs.declared.list_request.Listing.{Listing}
use Rattle.filter_proto.specs.declared.list_request.ListStep.{ListStep}
use Rattle.filter_proto.specs.declared.list_request.ListStep.TheVariants as step
use Rattle.filter_proto.proofs.More.{Skips, reading_on, reading_fill, reading_stops, reading_bad, reading_starts, heard_packet, heard_less, still_skip, too_long, fitting, answered, unsent_fault, unsent_memory}
use Rattle.filter_proto.proofs.Tables.{Differ, lists_more, expected, strange}

-- lines

map_more : (lines : List (List ℕ)) (line : List ℕ) → map Payload (lines ++ line ∷ []) ≡ map Payload lines ++ Payload line ∷ []
map_more [] line = refl
map_more (l ∷ lines) line = ap (λ (ps : List Packet). Payload l ∷ ps) (map_more lines line)

with_name_more : (name : Option (List ℕ)) (a b : List (List ℕ)) → with_name name (a ++ b) ≡ with_name name a ++ b
with_name_more None a b = refl
with_name_more (Some n) a b = refl

names_of_more : (lines : List (List ℕ)) (line : List ℕ) → names_of (lines ++ line ∷ []) ≡ names_of lines ++ names_of (line ∷ [])
names_of_more [] line = refl
names_of_more (l ∷ lines) line =
    ap (with_name (value_of (codes "pathname") l)) (names_of_more lines line) ∙ with_name_more (value_of (codes "pathname") l) (names_of lines) (names_of (line ∷ []))

-- a line of the names
named_line : (names : List (List ℕ)) (line : List ℕ) (ps : List Packet) → IsNamed part.Names names ps → IsNamed part.Names (names ++ names_of (line ∷ [])) (ps ++ Payload line ∷ [])
named_line names line ps h = record {
  lines = h.lines ++ line ∷ [];
  rest = [];
  whole = ap (λ (x : List Packet). x ++ Payload line ∷ []) (h.whole ∙ (ap (λ (x : List Packet). map Payload h.lines ++ x) h.behind ∙ append-nil (map Payload h.lines))) ∙ (sym (map_more h.lines line) ∙ sym (append-nil (map Payload (h.lines ++ line ∷ []))));
  are = ap (λ (x : List (List ℕ)). x ++ names_of (line ∷ [])) h.are ∙ sym (names_of_more h.lines line);
  behind = refl;
}

-- the names end at the first flush packet
is_behind : (p : ListPart) (rest : List Packet) → ComesBehind p rest → IsBehindNames rest
is_behind part.Names rest h = rw h tt
is_behind (part.KeyList s) rest h = rw h.1 tt

flush_behind : (p : ListPart) (rest : List Packet) → ComesBehind p rest → (more : List Packet) × (rest ++ Flush ∷ [] ≡ Flush ∷ more)
flush_behind part.Names rest h = ([], ap (λ (x : List Packet). x ++ Flush ∷ []) h)
flush_behind (part.KeyList s) rest h = (h.0 ++ Flush ∷ [], ap (λ (x : List Packet). x ++ Flush ∷ []) h.1)

-- a packet after the names
named_behind : (p : ListPart) (t : Option Status) (names : List (List ℕ)) (x : Packet) (ps : List Packet) → ((rest : List Packet) → ComesBehind p rest → (more : List Packet) × (rest ++ x ∷ [] ≡ Flush ∷ more)) → IsNamed p names ps
    → IsNamed (part.KeyList t) (names ++ []) (ps ++ x ∷ [])
named_behind p t names x ps goes h = record {
  lines = h.lines;
  rest = h.rest ++ x ∷ [];
  whole = ap (λ (y : List Packet). y ++ x ∷ []) h.whole ∙ append_assoc (map Payload h.lines) h.rest (x ∷ []);
  are = append-nil names ∙ h.are;
  behind = goes h.rest h.behind;
}

-- an answer that ends otherwise than with a list
listed_flush : (p : ListPart) (names : List (List ℕ)) (before now : Table) (ps : List Packet) → Lists names before now → IsNamed p names ps → HasListed before now (ps ++ Flush ∷ [])
listed_flush p names before now ps l h = record {
  lines = h.lines;
  rest = h.rest ++ Flush ∷ [];
  whole = ap (λ (y : List Packet). y ++ Flush ∷ []) h.whole ∙ append_assoc (map Payload h.lines) h.rest (Flush ∷ []);
  behind = let next = flush_behind p h.rest h.behind in subst IsBehindNames (sym next.1) tt;
  listed = subst (λ (n : List (List ℕ)). Lists n before now) h.are l;
}

listed_here : (p : ListPart) (names : List (List ℕ)) (before now : Table) (ps : List Packet) → Lists names before now → IsNamed p names ps → HasListed before now ps
listed_here p names before now ps l h = record {
  lines = h.lines;
  rest = h.rest;
  whole = h.whole;
  behind = is_behind p h.rest h.behind;
  listed = subst (λ (n : List (List ℕ)). Lists n before now) h.are l;
}

-- a flush packet that breaks the answer, for whatever cause
breaks_flush : (why : BreakCause) (p : ListPart) (names : List (List ℕ)) (before now : Table) (ps : List Packet) → Lists names before now → IsNamed p names ps → BreaksLists why before now (ps ++ Flush ∷ [])
breaks_flush cause.StrangePath p names before now ps l h = (ps, Flush, refl, listed_here p names before now ps l h)
breaks_flush cause.TooLong p names before now ps l h = (ps, Flush, refl, listed_here p names before now ps l h)
breaks_flush cause.Ended p names before now ps l h = listed_flush p names before now ps l h
breaks_flush cause.LinkFault p names before now ps l h = listed_flush p names before now ps l h
breaks_flush cause.BadPacket p names before now ps l h = listed_flush p names before now ps l h
breaks_flush cause.BadHandshake p names before now ps l h = listed_flush p names before now ps l h
breaks_flush cause.UnknownStatus p names before now ps l h = listed_flush p names before now ps l h
breaks_flush cause.StrangeDelay p names before now ps l h = listed_flush p names before now ps l h
breaks_flush cause.ListRefused p names before now ps l h = listed_flush p names before now ps l h

-- the names after a line

named_none : (line : List ℕ) → value_of (codes "pathname") line ≡ None → names_of (line ∷ []) ≡ []
named_none line e = ap (λ (v : Option (List ℕ)). with_name v []) e

named_some : (line name : List ℕ) → value_of (codes "pathname") line ≡ Some name → names_of (line ∷ []) ≡ name ∷ []
named_some line name e = ap (λ (v : Option (List ℕ)). with_name v []) e

abbrev on_names : List (List ℕ) → AnswerState ListPhase GoodList
on_names names = On (Names names)

value_leads : (before : Table) (names : List (List ℕ)) (line : List ℕ) (v : Option (List ℕ)) → value_of (codes "pathname") line ≡ v
    → list_step (delayed_in before) (Names names) (Payload line) ≡ after_value (delayed_in before) names v
value_leads before names line v e = ap (after_value (delayed_in before) names) e

pub take_none : (line : List ℕ) (count : ℕ) (told : Table) → value_of (codes "pathname") line ≡ None → TakesName line count told true count told
take_none line count told e before names h =
    let same : names ++ names_of (line ∷ []) ≡ names = ap (λ (x : List (List ℕ)). names ++ x) (named_none line e) ∙ append-nil names in
    (subst (λ (n : List (List ℕ)). HasNames before told n count) (sym same) h, value_leads before names line None e ∙ ap on_names (sym same))

next_listed : (before : Table) (names : List (List ℕ)) (name : List ℕ) → (name_in (delayed_in before) name && not (name_in names name)) ≡ true
    → after_name (delayed_in before) names name ≡ On (Names (names ++ name ∷ []))
next_listed before names name e = rw e refl

next_strange : (before : Table) (names : List (List ℕ)) (name : List ℕ) → (name_in (delayed_in before) name && not (name_in names name)) ≡ false
    → after_name (delayed_in before) names name ≡ Broken cause.StrangePath
next_strange before names name e = rw e refl

pub take_listed : (line name : List ℕ) (count : ℕ) (told : Table) (p : ℕ) → value_of (codes "pathname") line ≡ Some name → Differ told → IsDelayed name told p → TakesName line count told true (count + 1) (listed_at p told)
take_listed line name count told p e d at before names h =
    let all : names ++ names_of (line ∷ []) ≡ names ++ name ∷ [] = ap (λ (x : List (List ℕ)). names ++ x) (named_some line name e) in
    let counted = h.counted in
    let has : HasNames before (listed_at p told) (names ++ name ∷ []) (count + 1) = record {
      listed = lists_more names before told name p h.listed at;
      counted = omega (arith, length-append names (name ∷ []), counted);
    } in (
      subst (λ (n : List (List ℕ)). HasNames before (listed_at p told) n (count + 1)) (sym all) has,
      value_leads before names line (Some name) e ∙ (next_listed before names name (expected names before told name p d h.listed at) ∙ ap on_names (sym all)),
    )

pub take_strange : (line name : List ℕ) (count more : ℕ) (told now : Table) → value_of (codes "pathname") line ≡ Some name → ((p : ℕ) → IsDelayed name told p → ⊥) → now ≡ told → TakesName line count told false more now
take_strange line name count more told now e none same =
    (same, λ before names h. value_leads before names line (Some name) e ∙ next_strange before names name (strange names before told name h.listed none))

-- packets

pub line_too_long : (old new : Listing) (x : Packet) (told : Table) → old.room < size x → TakesList old x (step.End (reply.Broken cause.TooLong)) new told told
line_too_long old new x told lt before names h = record {
  end = Broke cause.TooLong;
  ends = rw (too_long (list_step (delayed_in before)) old.room (list_phase old.part names) x lt) refl;
  reply = refl;
  done = λ ps n. (ps, x, refl, listed_here old.part names before told ps h.listed n);
}

pub line_names : (old new : Listing) (line : List ℕ) (told now : Table) → old.part ≡ part.Names → new.part ≡ part.Names → new.room + size (Payload line) ≡ old.room → TakesName line old.count told true new.count now
    → TakesList old (Payload line) step.On new told now
line_names old new line told now o n fits t before names h =
    let next = t before names h in
    record {
      more = names_of (line ∷ []);
      has = next.0;
      fits = fits;
      leads = rw (o, n) next.1;
      named = λ ps i. rw n (named_line names line ps (rw o at i));
    }

pub line_strange : (old new : Listing) (line : List ℕ) (count : ℕ) (told now : Table) → old.part ≡ part.Names → size (Payload line) ≤ old.room → TakesName line old.count told false count now
    → TakesList old (Payload line) (step.End (reply.Broken cause.StrangePath)) new told now
line_strange old new line count told now o fits t before names h = record {
  end = Broke cause.StrangePath;
  ends = rw (fitting (list_step (delayed_in before)) old.room (list_phase old.part names) (Payload line) (Broken cause.StrangePath) fits (rw o (t.1 before names h))) refl;
  reply = refl;
  done = λ ps n. rw (t.0) (ps, Payload line, refl, listed_here old.part names before told ps h.listed n);
}

same_names : (before told : Table) (names : List (List ℕ)) (count more : ℕ) → more ≡ count → HasNames before told names count → HasNames before told (names ++ []) more
same_names before told names count more e h = record {
  listed = subst (λ (n : List (List ℕ)). Lists n before told) (sym (append-nil names)) h.listed;
  counted = e ∙ (h.counted ∙ ap length (sym (append-nil names)));
}

pub line_keys : (old new : Listing) (line : List ℕ) (told : Table) (s t : Option Status) → old.part ≡ part.KeyList s → new.part ≡ part.KeyList t → t ≡ status_after s line → new.room + size (Payload line) ≡ old.room → new.count ≡ old.count
    → TakesList old (Payload line) step.On new told told
line_keys old new line told s t o n e fits count before names h = record {
  more = [];
  has = same_names before told names old.count new.count count h;
  fits = fits;
  leads = rw (o, n, e, append-nil names) refl;
  named = λ ps i. rw n (named_behind (part.KeyList s) t names (Payload line) ps (λ rest r. (r.0 ++ Payload line ∷ [], ap (λ (x : List Packet). x ++ Payload line ∷ []) r.1)) (rw o at i));
}

-- a flush

pub flush_on : (old new : Listing) (told : Table) → ((delayed names : List (List ℕ)) → list_state (On new.part) names ≡ list_step delayed (list_phase old.part names) Flush) → new.room + 4 ≡ old.room → new.count ≡ old.count
    → TakesList old Flush step.On new told told
flush_on old new told leads fits count before names h = record {
  more = [];
  has = same_names before told names old.count new.count count h;
  fits = fits;
  leads = sym (leads (delayed_in before) names) ∙ ap (λ (n : List (List ℕ)). On (list_phase new.part n)) (sym (append-nil names));
  named = λ ps i. goes new.part (not_names old.part new.part (leads [] [])) ps i;
}
  where
    goes : (q : ListPart) → (q ≡ part.Names → ⊥) → (ps : List Packet) → IsNamed old.part names ps → IsNamed q (names ++ []) (ps ++ Flush ∷ [])
    goes part.Names other ps i = absurd (other refl)
    goes (part.KeyList t) other ps i = named_behind old.part t names Flush ps (flush_behind old.part) i

    not_names : (p q : ListPart) → list_state (On q) [] ≡ list_step [] (list_phase p []) Flush → q ≡ part.Names → ⊥
    not_names part.Names part.Names e w = cc e
    not_names (part.KeyList s) part.Names e w = no_state s e
      where
        no_state : (s : Option Status) → On (Names []) ≡ list_status [] s → ⊥
        no_state None e = cc e
        no_state (Some status.Success) e = cc e
        no_state (Some status.Abort) e = cc e
        no_state (Some status.Error) e = cc e
        no_state (Some status.Delayed) e = cc e
        no_state (Some status.Other) e = cc e
    not_names p (part.KeyList s) e w = cc w

pub flush_done : (old new : Listing) (told : Table) (end : ListEnd) (r : ListReply) → ((delayed names : List (List ℕ)) → list_state (Done end) names ≡ list_step delayed (list_phase old.part names) Flush) → 4 ≤ old.room
    → ((names : List (List ℕ)) → old.count ≡ length names → r ≡ reply_of_good (good_list end names)) → TakesList old Flush (step.End r) new told told
flush_done old new told end r leads fits replies before names h = record {
  end = Good (good_list end names);
  ends = rw (fitting (list_step (delayed_in before)) old.room (list_phase old.part names) Flush (Done (good_list end names)) fits (sym (leads (delayed_in before) names))) refl;
  reply = replies names h.counted;
  done = λ ps i. well end ps i;
}
  where
    well : (e : ListEnd) (ps : List Packet) → IsNamed old.part names ps → EndLists before told (Good (good_list e names)) (ps ++ Flush ∷ [])
    well ends.Success ps i = h.listed
    well ends.Abort ps i = listed_flush old.part names before told ps h.listed i

pub flush_broken : (old new : Listing) (told : Table) (why : BreakCause) → ((delayed names : List (List ℕ)) → list_state (Broken why) names ≡ list_step delayed (list_phase old.part names) Flush) → 4 ≤ old.room
    → TakesList old Flush (step.End (reply.Broken why)) new told told
flush_broken old new told why leads fits before names h = record {
  end = Broke why;
  ends = rw (fitting (list_step (delayed_in before)) old.room (list_phase old.part names) Flush (Broken why) fits (sym (leads (delayed_in before) names))) refl;
  reply = refl;
  done = λ ps i. breaks_flush why old.part names before told ps h.listed i;
}

pub never_late_list : (p : ListPart) → ((delayed names : List (List ℕ)) → list_state Late names ≡ list_step delayed (list_phase p names) Flush) → ⊥
never_late_list part.Names e = let w = e [] [] in cc w
never_late_list (part.KeyList s) e = none s (e [] [])
  where
    none : (s : Option Status) → Late ≡ list_status [] s → ⊥
    none None e = cc e
    none (Some status.Success) e = cc e
    none (Some status.Abort) e = cc e
    none (Some status.Error) e = cc e
    none (Some status.Delayed) e = cc e
    none (Some status.Other) e = cc e

pub ruleset flush_taken = (line_too_long, flush_on, flush_done, flush_broken, never_late_list)

-- a reading, packet by packet

stops_so : (u : AnswerState ListPhase GoodList) (s b : Wire) (end : Ends GoodList) → EndsSo u end → Still s b → Stops u s b end
stops_so (Done g) s b end e h = (e, h)
stops_so (Broken why) s b end e h = (e, h)
stops_so (On p) s b end e h = absurd e
stops_so Late s b end e h = absurd e

pub list_packet : (s a b : Wire) (old new : Listing) (x : Packet) (st : ListStep) (before told now : Table) → IsListing s a old before told → Skips a x b → TakesList old x st new told now → ListStepIs s b st new before now
list_packet s a b old new x step.On before told now r k t =
    let g = t before r.names r.has in
    record {
      names = r.names ++ g.more;
      has = g.has;
      reading = reading_on (list_step (delayed_in before)) list_start s a b old.room new.room _ _ (IsNamed old.part r.names) (IsNamed new.part (r.names ++ g.more)) x r.reading k g.fits g.leads (λ ps e h. g.named ps h);
    }
list_packet s a b old new x (step.End e) before told now r k t =
    let g = t before r.names r.has in
    record {
      end = g.end;
      heard = heard_packet (list_step (delayed_in before)) list_start _ s a b old.room _ g.end (IsNamed old.part r.names) (EndLists before now g.end) x r.reading k refl
          (stops_so _ s b g.end g.ends (still_skip s a b x k r.reading.still)) (λ ps q h. g.done ps h);
      reply = g.reply;
    }

pub list_fill : (s a b : Wire) (l : Listing) (before told : Table) → IsListing s a l before told → Filled a b → ListStepIs s b step.On l before told
list_fill s a b l before told r f = record { names = r.names; has = r.has; reading = reading_fill _ _ s a b l.room _ _ r.reading f }

pub list_stops : (s a b : Wire) (l : Listing) (before told : Table) (c : BreakCause) → IsListing s a l before told → IsPartial a.unread → FillFails a b (Err c) → ListStepIs s b (step.End (reply.Broken c)) l before told
list_stops s a b l before told c r part f = record {
  end = Broke c;
  heard = heard_less _ _ s b (Broke c) _ _ (reading_stops _ _ s a b l.room _ _ c r.reading part f) (λ ps h. stop c f ps (listed_here l.part r.names before told ps r.has.listed h));
  reply = refl;
}
  where
    stop : (c : BreakCause) → FillFails a b (Err c) → (ps : List Packet) → HasListed before told ps → BreaksLists c before told ps
    stop cause.Ended f ps h = h
    stop cause.LinkFault f ps h = h
    stop cause.BadPacket f ps h = absurd f
    stop cause.BadHandshake f ps h = absurd f
    stop cause.UnknownStatus f ps h = absurd f
    stop cause.StrangeDelay f ps h = absurd f
    stop cause.TooLong f ps h = absurd f
    stop cause.StrangePath f ps h = absurd f
    stop cause.ListRefused f ps h = absurd f

pub list_bad : (s a : Wire) (l : Listing) (before told : Table) → IsListing s a l before told → HasFault a.unread → ListStepIs s a (step.End (reply.Broken cause.BadPacket)) l before told
list_bad s a l before told r bad = record {
  end = Broke cause.BadPacket;
  heard = heard_less _ _ s a (Broke cause.BadPacket) _ _ (reading_bad _ _ s a l.room _ _ r.reading bad) (λ ps h. listed_here l.part r.names before told ps r.has.listed h);
  reply = refl;
}

pub list_starts : (s : Wire) (l : Listing) (t : Table) → l ≡ record { room = limit; part = part.Names; count = 0 } → IsListing s s l t t
list_starts s l t e = rw e (record {
  names = [];
  has = record { listed = refl; counted = refl };
  reading = reading_starts _ _ s _ (record { lines = []; rest = []; whole = refl; are = refl; behind = refl });
})

-- the whole exchange

pub listed : (old mid new : Wire) (before now : Table) (r : ListReply) → mid ≡ record old { sent = grown old.sent list_text } → new.sent ≡ mid.sent → new.stage ≡ mid.stage → IsReadList mid new before now r → IsListExchange old new before now r
listed old mid new before now r e se st h = record { end = h.end; exchange = answered _ _ old mid new list_text h.end _ e se st h.heard; reply = h.reply }

none_listed : (t : Table) → HasListed t t []
none_listed t = record { lines = []; rest = []; whole = refl; behind = tt; listed = refl }

pub list_fault : (old new : Wire) (t : Table) → SendsOn {T = ⊤} list_text old new (Err send.Failed) → IsListExchange old new t t (reply.Broken cause.LinkFault)
list_fault old new t h = record { end = Broke cause.LinkFault; exchange = unsent_fault _ _ old new list_text _ h (none_listed t); reply = refl }

pub list_memory : (old new : Wire) (t : Table) → SendsOn {T = ⊤} list_text old new (Err send.NoMemory) → IsListExchange old new t t reply.NoMemory
list_memory old new t h = record { end = OutOfMemory; exchange = unsent_memory _ _ old new list_text _ h refl; reply = refl }

pub ruleset list_asked = (listed, list_fault, list_memory)
