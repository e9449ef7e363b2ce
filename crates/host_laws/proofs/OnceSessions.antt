-- A session of single runs, exchange by exchange.
use Rattle.std.proofs.Common.{◌≡◌, ◌==◌, ◌⊎◌, inl, inr, ℕ, zero, suc, ◌<◌, ◌≤◌, Bool, true, false, cond, ◌&&◌, if◌then◌else◌}
use Rattle.std.proofs.Common.{List, [], ◌∷◌, ◌++◌, length, length-append, map, Option, Some, None, refl, sym, ap, ◌∙◌, subst, arith}
use Rattle.std.specs.Prelude.{nat_le}
use Rattle.std.proofs.lemmas.Bool.{eqb-true}
use Rattle.pkt_line.specs.Packets.{Packet, Flush, SpellAll, HasFault, total}
use Rattle.pkt_line.specs.Spelling.{spelling, spelling_all}
use Rattle.filter_words.specs.Outcomes.{limit, outcome}
use Rattle.filter_words.specs.Requests.{smudge_packets}
use Rattle.filter_words.specs.SmudgeReply.{reply_step, reply_start, content_in}
use Rattle.filter_words.specs.declared.smudge_reply.GoodReply.{GoodReply}
use Rattle.filter_words.specs.declared.smudge_reply.ReplyPhase.{ReplyPhase}
use Rattle.filter_words.specs.declared.reply.BreakCause.TheVariants as cause
use Rattle.filter_words.specs.declared.reply.Reply.{Reply}
use Rattle.filter_words.specs.declared.reply.Reply.TheVariants as reply
use Rattle.filter_words.specs.declared.reply.ListReply.{ListReply}
use Rattle.filter_words.specs.declared.reply.ListReply.TheVariants as list
use Rattle.edge_kit.specs.Told.{Tells}
use Rattle.edge_kit.specs.Starters.{SessionHad}
use Rattle.delay_table.specs.Table.{contains}
use Rattle.filter_proto.specs.Exchanges.{Good, Broke, OutOfMemory}
use Rattle.filter_proto.specs.Replies.{reply_end}
use Rattle.checkout_core.specs.declared.event.Event.{Event}
use Rattle.checkout_core.specs.declared.event.Event.TheVariants as ev
use Rattle.checkout_core.specs.declared.event.OpenCause.TheVariants as opening
use Rattle.checkout_core.specs.declared.path.Heard.{Heard}
use Rattle.checkout_core.specs.declared.path.Heard.TheVariants as heard
use Rattle.checkout_core.specs.declared.verdict.FilterCause.TheVariants as refusal
use Rattle.checkout_core.specs.Fates.{Fate, Untold, Known, fate_of, fate_here, fate_there}
use Rattle.checkout_core.specs.Talks.{Talk, Between, InRound, Ended, IsOver, is_empty, answered, talk_next, talk_run}
use Rattle.driver_line.specs.Conversations.{Exchange, NoStart, NoRoom, Opening, First, Listing, Second, Shutting}
use Rattle.driver_line.specs.Conversations.{notes_in, list_notes, LeadsTo}
use Rattle.driver_line.specs.Lines.{Paths, HasContent}
use Rattle.driver_line.specs.Parts.{IsOnePart}
use Rattle.driver_line.specs.Transcripts.{Spoken, AllFit, IsPart, StopsAt, FitsCounts, MayCut, break_of}
use Rattle.driver_line.specs.SameHeard.{NoneWanting, content_of, is_wanting}
use Rattle.driver_host.specs.declared.work.Choice.{Choice}
use Rattle.driver_host.specs.declared.work.Choice.TheVariants as choice
use Rattle.driver_host.specs.Requests.{Smudge, IsRequest}
use Rattle.driver_host.specs.Answers.{choice_answer, reply_to, given}
use Rattle.driver_host.specs.HostText.{HostEnd, after_choice, none_owed}
use Rattle.one_shot.specs.Onces.{OnceTold, Ended, Failing, Untold, RunsTold}
use Rattle.one_shot.specs.Replies.{smudge_alone}
use Rattle.one_shot.specs.Works.{choice_told, work_told, most_output}
use Rattle.host_laws.specs.OnceTalks.{run_of, AreTold, once_request, HearsChoice, IsHeardOf}
use Rattle.host_laws.proofs.Counts.{some_contains, some_here}
use Rattle.host_laws.proofs.Good.{host_part, later_waits}
use Rattle.host_laws.proofs.Ended.{IsQuiet, first_calm, not_cut, heard_of, back, reply_is}
use Rattle.host_laws.proofs.Rounds.{IsAsked, run_cons, asked, again, listed, empty_list, any_list, talk_is, one_step, empty_is}
use Rattle.host_laws.proofs.Served.{IsOutside, sent_packets, text_left}
use Rattle.host_laws.proofs.OneParse.{PacketLaws, size_some}
use Rattle.host_laws.proofs.Failed.{StreamLaws}
use Rattle.host_laws.proofs.Opened.{SpellsLaw, AskForPaths, first_round, small_smudge, total_is, request_is}
use Rattle.host_laws.proofs.OnceSteps.{serving, Chooses, no_answer, choose}

-- the laws on which this rests
pub record OnceLaws : Type 0 where
  pub packets : PacketLaws
  pub stream : StreamLaws
  pub spells : SpellsLaw
  pub reply : (d : Bool) (c : Choice) (rest : List ℕ) → (c ≡ choice.Later → d ≡ true) → total (choice_answer c) ≤ limit
      → IsPart (reply_step d) reply_start (spelling_all (choice_answer c)) rest (Good (reply_to c)) (HasContent d (given c))
  pub one : (d : Bool) → IsOnePart ReplyPhase GoodReply (reply_step d) reply_start
  pub request : (path name content : List ℕ) (d : Bool)
      → IsRequest (Smudge path d content) (smudge_packets path name d content)

-- numbers

compared : (n m : ℕ) → (n ≤ m) ⊎ (m < n)
compared zero m = inl (omega arith)
compared (suc n) zero = inr (omega arith)
compared (suc n) (suc m) = more (compared n m)
  where
    more : (n ≤ m) ⊎ (m < n) → (suc n ≤ suc m) ⊎ (suc m < suc n)
    more (inl h) = inl (omega (arith, h))
    more (inr h) = inr (omega (arith, h))

-- a told choice gives or refuses

abbrev IsPlain : Option Choice → Type 0
IsPlain (Some (choice.Give bytes)) = Unit {0}
IsPlain (Some choice.Refuse) = Unit {0}
IsPlain o = ⊥

plain_if : (b : Bool) (output : List ℕ) → IsPlain (Some (if b then choice.Give output else choice.Refuse))
plain_if true output = tt
plain_if false output = tt

plain : (t : OnceTold) → (t ≡ Untold → ⊥) → IsPlain (choice_told t)
plain (Ended output well) some = plain_if (well && nat_le (length output) most_output) output
plain Failing some = tt
plain Untold some = absurd (some refl)

told_choice : (o : Option Choice) (c : Choice) → IsPlain o → Tells o c → o ≡ Some c
told_choice None c p h = absurd p
told_choice (Some x) c p h = ap (λ (z : Choice). Some z) h

-- what is known of a path stays

pub known_stays : (p : ℕ) (h : Heard) (es : List Event) → fate_of p (Known h) es ≡ Known h
known_stays p h [] = refl
known_stays p h (e ∷ es) = known_stays p h es

no_true : {b : Bool} → b ≡ false → b ≡ true → ⊥
no_true e f = let no : true ≡ false = sym f ∙ e in cc

-- an answer of no bytes is an end of input

no_packets : (ps : List Packet) (bytes : List ℕ) → bytes ≡ [] → SpellAll ps bytes → ps ≡ []
no_packets [] bytes none s = refl
no_packets (p ∷ ps) bytes none s =
    let sized = s.2.sized in
    let some = size_some p in
    let e : length bytes ≡ length (s.0 ++ s.1) = ap (λ (z : List ℕ). length z) s.4 in
    let zero_long : length bytes ≡ 0 = ap (λ (z : List ℕ). length z) none in
    let both = length-append s.0 s.1 in
    absurd (omega (arith, sized, some, e, zero_long, both))

no_fault : OnceLaws → HasFault [] → ⊥
no_fault laws h =
    let flush = laws.spells Flush (omega arith) in
    laws.stream.apart Flush (spelling Flush) [] flush (inr (laws.stream.fault [] (spelling Flush ++ []) h))

none_of_two : (xs ys : List ℕ) → [] ≡ xs ++ ys → (xs ≡ []) × (ys ≡ [])
none_of_two [] ys e = (refl, sym e)
none_of_two (x ∷ xs) ys e = absurd (cc e)

link_never : (seen : SessionHad) → seen.faults ≡ 0 → 0 < seen.faults → ⊥
link_never seen zero_faults some = omega (arith, zero_faults, some)

-- the answer to a request that a host never answers
abbrev IsEnded : Reply → Type 0
IsEnded y = y ≡ reply.Broken cause.Ended

ended_by : OnceLaws → (seen : SessionHad) (p : ℕ) (y : Reply) (content : List ℕ) → seen.faults ≡ 0
    → FitsCounts seen (break_of (First p y content)) → is_wanting (First p y content) ≡ false
    → StopsAt reply_start [] (reply_end y) → IsEnded y
ended_by laws seen p reply.Content content quiet fits none h = absurd h
ended_by laws seen p reply.Error content quiet fits none h = absurd h
ended_by laws seen p reply.ErrorAfter content quiet fits none h = absurd h
ended_by laws seen p reply.Abort content quiet fits none h = absurd h
ended_by laws seen p reply.Delayed content quiet fits none h = absurd h
ended_by laws seen p reply.NoMemory content quiet fits none h = absurd (cc none)
ended_by laws seen p (reply.Broken cause.Ended) content quiet fits none h = refl
ended_by laws seen p (reply.Broken cause.BadPacket) content quiet fits none h = absurd (no_fault laws h)
ended_by laws seen p (reply.Broken cause.LinkFault) content quiet fits none h = absurd (link_never seen quiet fits.0)
ended_by laws seen p (reply.Broken cause.BadHandshake) content quiet fits none h = absurd h
ended_by laws seen p (reply.Broken cause.UnknownStatus) content quiet fits none h = absurd h
ended_by laws seen p (reply.Broken cause.StrangeDelay) content quiet fits none h = absurd h
ended_by laws seen p (reply.Broken cause.TooLong) content quiet fits none h = absurd h
ended_by laws seen p (reply.Broken cause.StrangePath) content quiet fits none h = absurd h
ended_by laws seen p (reply.Broken cause.ListRefused) content quiet fits none h = absurd h

ended_part : OnceLaws → (seen : SessionHad) (p : ℕ) (y : Reply) (content used later : List ℕ) (d : Bool)
    (extra : List Packet → Type 0) → seen.faults ≡ 0 → FitsCounts seen (break_of (First p y content))
    → is_wanting (First p y content) ≡ false → used ≡ [] → later ≡ []
    → IsPart (reply_step d) reply_start used later (reply_end y) extra → IsEnded y
ended_part laws seen p y content used later d extra quiet fits none no_used no_later part =
    let nothing = no_packets part.packets used no_used part.spelled in
    ended_by laws seen p y content quiet fits none
    (subst (λ (z : List ℕ). StopsAt reply_start z (reply_end y)) no_later
    (subst (λ (z : List Packet). StopsAt (outcome (reply_step d) limit reply_start z) later (reply_end y)) nothing part.stops))

-- no exchange of a session stands between sessions

pub not_answered : (rest : List ℕ) (p : ℕ) (y : Reply) (u : Talk) → talk_next (Between rest) (ev.Answered p y) ≡ Some u → ⊥
not_answered [] p y u h = cc h
not_answered (q ∷ rest) p y u h = cc h

pub not_redone : (rest : List ℕ) (p : ℕ) (y : Reply) (u : Talk) → talk_next (Between rest) (ev.Redone p y) ≡ Some u → ⊥
not_redone [] p y u h = cc h
not_redone (q ∷ rest) p y u h = cc h

not_named : (rest : List ℕ) (p : ℕ) (u : Talk) → talk_next (Between rest) (ev.Named p) ≡ Some u → ⊥
not_named [] p u h = cc h
not_named (q ∷ rest) p u h = cc h

not_listed : (rest : List ℕ) (d : ℕ) (y : ListReply) (u : Talk) → talk_next (Between rest) (ev.Listed d y) ≡ Some u → ⊥
not_listed [] d y u h = cc h
not_listed (q ∷ rest) d y u h = cc h

pub not_shut : (rest : List ℕ) (d : ℕ) (u : Talk) → talk_next (Between rest) (ev.Shut d) ≡ Some u → ⊥
not_shut [] d u h = cc h
not_shut (q ∷ rest) d u h = cc h

pub not_listing : (d : ℕ) (rest : List ℕ) (names : List ℕ) (y : ListReply) (u : Talk)
    → talk_run d (Between rest) (list_notes d names y) ≡ Some u → ⊥
not_listing d rest [] (list.Names n) u h = not_listed rest d (list.Names n) u (one_step d (Between rest) (ev.Listed d (list.Names n)) u h)
not_listing d rest (q ∷ names) (list.Names n) u h =
    let s = run_cons d (Between rest) (ev.Named q) (map ev.Named names ++ ev.Listed d (list.Names n) ∷ []) u h in
    not_named rest q s.mid s.step
not_listing d rest names list.Empty u h = not_listed rest d list.Empty u (one_step d (Between rest) (ev.Listed d list.Empty) u h)
not_listing d rest names list.Abort u h = not_listed rest d list.Abort u (one_step d (Between rest) (ev.Listed d list.Abort) u h)
not_listing d rest names (list.Broken why) u h = not_listed rest d (list.Broken why) u (one_step d (Between rest) (ev.Listed d (list.Broken why)) u h)
not_listing d rest names list.NoMemory u h = not_listed rest d list.NoMemory u (one_step d (Between rest) (ev.Listed d list.NoMemory) u h)

nothing_between : (paths : Paths) (d : ℕ) (more : List Exchange) (u : Talk) (rest : List ℕ) (es : List Exchange)
    (sent taken : List ℕ) → Spoken paths smudge_alone es sent taken → LeadsTo d (Between rest) (es ++ more) u → es ≡ []
nothing_between paths d more u rest [] sent taken spoken leads = refl
nothing_between paths d more u rest (First p y c ∷ es) sent taken spoken leads =
    absurd (not_answered rest p y leads.0 (one_step d (Between rest) (ev.Answered p y) leads.0 leads.2))
nothing_between paths d more u rest (Second p y c ∷ es) sent taken spoken leads =
    absurd (not_redone rest p y leads.0 (one_step d (Between rest) (ev.Redone p y) leads.0 leads.2))
nothing_between paths d more u rest (Listing late names y ∷ es) sent taken spoken leads =
    absurd (not_listing d rest names y leads.0 leads.2)
nothing_between paths d more u rest (Shutting ∷ es) sent taken spoken leads =
    absurd (not_shut rest d leads.0 (one_step d (Between rest) (ev.Shut d) leads.0 leads.2))
nothing_between paths d more u rest (NoStart p ∷ es) sent taken (inl (none, cut)) leads = absurd (no_cut cut.may)
  where
    no_cut : MayCut (NoStart p) → ⊥
    no_cut (inl e) = cc e
    no_cut (inr e) = cc e
nothing_between paths d more u rest (NoStart p ∷ es) sent taken (inr s) leads = absurd s.5
nothing_between paths d more u rest (NoRoom p ∷ es) sent taken (inl (none, cut)) leads = absurd (no_cut cut.may)
  where
    no_cut : MayCut (NoRoom p) → ⊥
    no_cut (inl e) = cc e
    no_cut (inr e) = cc e
nothing_between paths d more u rest (NoRoom p ∷ es) sent taken (inr s) leads = absurd s.5
nothing_between paths d more u rest (Opening p end ∷ es) sent taken (inl (none, cut)) leads = absurd (no_cut cut.may)
  where
    no_cut : MayCut (Opening p end) → ⊥
    no_cut (inl e) = cc e
    no_cut (inr e) = cc e
nothing_between paths d more u rest (Opening p end ∷ es) sent taken (inr s) leads = absurd s.5

-- nothing is delayed, so nothing is listed or asked for again

pub no_list : (d : ℕ) (rest names : List ℕ) (y : ListReply) (mid : Talk)
    → talk_run d (InRound (first_round smudge_alone rest)) (list_notes d names y) ≡ Some mid → ⊥
no_list d rest names (list.Names n) mid h =
    let a = listed d n (first_round smudge_alone rest) names mid refl h in let no = a.0.any in cc no
no_list d rest names list.Empty mid h = let a = empty_list d (first_round smudge_alone rest) mid h in let no = a.0.any in cc no
no_list d rest names list.Abort mid h = let a = any_list d (first_round smudge_alone rest) list.Abort mid refl h in let no = a.any in cc no
no_list d rest names (list.Broken why) mid h = let a = any_list d (first_round smudge_alone rest) (list.Broken why) mid refl h in let no = a.any in cc no
no_list d rest names list.NoMemory mid h = let a = any_list d (first_round smudge_alone rest) list.NoMemory mid refl h in let no = a.any in cc no

pub no_second : (d : ℕ) (rest : List ℕ) (p : ℕ) (y : Reply) (mid : Talk)
    → talk_run d (InRound (first_round smudge_alone rest)) (ev.Redone p y ∷ []) ≡ Some mid → ⊥
no_second d rest p y mid h = let a = again d (first_round smudge_alone rest) p y mid h in let no = a.turns_is in cc no

module _ (laws : OnceLaws) (tells : RunsTold) (command : List ℕ) (paths : Paths) (asked_paths : List ℕ) (told : AreTold tells command paths asked_paths) (d : ℕ) where
  -- each of these paths hears what it should
  abbrev pub HearWell : List ℕ → List Exchange → Type 0
  HearWell rest es = (p : ℕ) → contains p rest ≡ true
      → IsHeardOf (run_of tells command paths p) (once_request paths p) (fate_of p Untold (notes_in d es)) (content_of p es)

  abbrev pub AreAsked : List ℕ → Type 0
  AreAsked rest = (p : ℕ) → contains p rest ≡ true → contains p asked_paths ≡ true

  asked_head : (p : ℕ) (rest : List ℕ) → AreAsked (p ∷ rest) → contains p asked_paths ≡ true
  asked_head p rest are = are p (some_contains p (p ∷ rest) (some_here p rest))

  same_number : (p : ℕ) → (p == p) ≡ true
  same_number p = by_one (p == p) (some_contains p (p ∷ []) (some_here p []))
    where
      by_one : (b : Bool) → cond b true false ≡ true → b ≡ true
      by_one true e = refl
      by_one false e = absurd (cc e)

  asked_tail : (p : ℕ) (rest : List ℕ) → AreAsked (p ∷ rest) → AreAsked rest
  asked_tail p rest are q here = are q (by_head (q == p))
    where
      by_head : (b : Bool) → cond b true (contains q rest) ≡ true
      by_head true = refl
      by_head false = here

  -- the first path is answered, and then the others are
  first_heard : (p : ℕ) (y : Reply) (content : List ℕ) (h : Heard) (rest : List ℕ) (es : List Exchange)
      → fate_here y ≡ Known h → fate_there y Untold ≡ Untold
      → ((q : ℕ) → (q == p) ≡ false → content_of q (First p y content ∷ es) ≡ content_of q es)
      → IsHeardOf (run_of tells command paths p) (once_request paths p) (Known h) (content_of p (First p y content ∷ es))
      → HearWell rest es → HearWell (p ∷ rest) (First p y content ∷ es)
  first_heard p y content h rest es here there skips is others q among = by_head (q == p) refl
    where
      by_head : (b : Bool) → (q == p) ≡ b
          → IsHeardOf (run_of tells command paths q) (once_request paths q)
          (fate_of q (cond (q == p) (fate_here y) (fate_there y Untold)) (notes_in d es))
          (content_of q (First p y content ∷ es))
      by_head true e =
          let same : q ≡ p = eqb-true q p e in
          subst (λ (b : Bool). IsHeardOf (run_of tells command paths q) (once_request paths q) (fate_of q (cond b (fate_here y) (fate_there y Untold)) (notes_in d es)) (content_of q (First p y content ∷ es)))
          (sym e)
          (subst (λ (f : Fate). IsHeardOf (run_of tells command paths q) (once_request paths q) f (content_of q (First p y content ∷ es)))
          (sym (ap (λ (f : Fate). fate_of q f (notes_in d es)) here ∙ known_stays q h (notes_in d es)))
          (subst (λ (z : ℕ). IsHeardOf (run_of tells command paths z) (once_request paths z) (Known h) (content_of z (First p y content ∷ es)))
          (sym same) is))
      by_head false e =
          let more : contains q rest ≡ true =
          subst (λ (b : Bool). cond b true (contains q rest) ≡ true) e among in
          subst (λ (b : Bool). IsHeardOf (run_of tells command paths q) (once_request paths q) (fate_of q (cond b (fate_here y) (fate_there y Untold)) (notes_in d es)) (content_of q (First p y content ∷ es)))
          (sym e)
          (subst (λ (f : Fate). IsHeardOf (run_of tells command paths q) (once_request paths q) (fate_of q f (notes_in d es)) (content_of q (First p y content ∷ es)))
          (sym there)
          (subst (λ (o : Option (List ℕ)). IsHeardOf (run_of tells command paths q) (once_request paths q) (fate_of q Untold (notes_in d es)) o)
          (sym (skips q e)) (others q more)))

  module _ (seen : SessionHad) (left : List ℕ) (quiet : IsQuiet seen left) (end : HostEnd) (more : List Exchange) (outside : IsOutside more) (u : Talk) (over : IsOver u) where
    -- what holds of exchanges that follow in a session, if it holds of what comes after the session
    abbrev Walks : List Exchange → Type 0
    Walks es = (rest : List ℕ) (answers : List Packet) (sent taken : List ℕ) → AreAsked rest → AskForPaths paths es
        → Chooses (work_told tells command) serving (sent_packets paths smudge_alone es) answers end
        → spelling_all answers ≡ taken ++ left → Spoken paths smudge_alone es sent taken → AllFit seen es → NoneWanting es
        → LeadsTo d (InRound (first_round smudge_alone rest)) (es ++ more) u
        → ((after : List ℕ) → AreAsked after → LeadsTo d (Between after) more u → HearWell after more)
        → HearWell rest (es ++ more)

    -- the length of a request, in packets
    request_length : (p : ℕ) → contains p asked_paths ≡ true → AskForPaths paths (First p reply.Error [] ∷ [])
        → length (once_request paths p) ≡ total (smudge_packets (paths.text p) (paths.name p) false (paths.content p))
    request_length p is asks =
        ap (λ (z : List ℕ). length z) (request_is paths smudge_alone (First p reply.Error []))
        ∙ total_is laws.spells (smudge_packets (paths.text p) (paths.name p) false (paths.content p))
        (small_smudge (paths.text p) (paths.name p) false (paths.content p) asks.0)

    -- the content or the refusal that a choice comes to
    on_choice : (p : ℕ) (c : Choice) (content : List ℕ) (es : List Exchange) → Walks es
        → choice_told (run_of tells command paths p) ≡ Some c → IsPlain (Some c) → content ≡ given c
        → length (once_request paths p) ≤ limit → (rest rest2 : List ℕ) (mid : Talk)
        → AreAsked rest → rest ≡ p ∷ rest2
        → mid ≡ answered (first_round smudge_alone rest) p rest2 (back (reply_to c))
        → (later : List Packet) (sent taken : List ℕ) → AskForPaths paths es
        → Chooses (work_told tells command) (after_choice smudge_alone none_owed (paths.text p) c) (sent_packets paths smudge_alone es) later end
        → spelling_all later ≡ taken ++ left → Spoken paths smudge_alone es sent taken → AllFit seen es → NoneWanting es
        → LeadsTo d mid (es ++ more) u
        → ((after : List ℕ) → AreAsked after → LeadsTo d (Between after) more u → HearWell after more)
        → HearWell rest (First p (back (reply_to c)) content ∷ (es ++ more))
    on_choice p (choice.Give b) content es go is plain_is got fits rest rest2 mid are rest_is mid_is later sent taken asks waits output spoken fit wants leads onward =
        let are2 : AreAsked (p ∷ rest2) = subst AreAsked rest_is are in
        subst (λ (z : List ℕ). HearWell z (First p reply.Content content ∷ (es ++ more))) (sym rest_is)
        (first_heard p reply.Content content heard.Got rest2 (es ++ more) refl refl
        (λ q e. ap (λ (x : Bool). cond x (Some content) (content_of q (es ++ more))) e)
        (record {
          fits = λ le. subst (λ (o : Option Choice). HearsChoice o (Known heard.Got) (content_of p (First p reply.Content content ∷ (es ++ more))))
              (sym is)
              (refl, ap (λ (x : Bool). cond x (Some content) (content_of p (es ++ more))) (same_number p) ∙ ap (λ (z : List ℕ). Some z) got);
          over = λ long. absurd (omega (arith, fits, long));
        })
        (go rest2 later sent taken (asked_tail p rest2 are2) asks waits output spoken fit wants
        (subst (λ (t : Talk). LeadsTo d t (es ++ more) u) mid_is leads) onward))
    on_choice p choice.Refuse content es go is plain_is got fits rest rest2 mid are rest_is mid_is later sent taken asks waits output spoken fit wants leads onward =
        let are2 : AreAsked (p ∷ rest2) = subst AreAsked rest_is are in
        subst (λ (z : List ℕ). HearWell z (First p reply.Error content ∷ (es ++ more))) (sym rest_is)
        (first_heard p reply.Error content (heard.Refused refusal.Error) rest2 (es ++ more) refl refl
        (λ q e. refl)
        (record {
          fits = λ le. subst (λ (o : Option Choice). HearsChoice o (Known (heard.Refused refusal.Error)) (content_of p (First p reply.Error content ∷ (es ++ more))))
              (sym is) refl;
          over = λ long. absurd (omega (arith, fits, long));
        })
        (go rest2 later sent taken (asked_tail p rest2 are2) asks waits output spoken fit wants
        (subst (λ (t : Talk). LeadsTo d t (es ++ more) u) mid_is leads) onward))
    on_choice p choice.Later content es go is plain_is got fits rest rest2 mid are rest_is mid_is later sent taken asks waits output spoken fit wants leads onward = absurd plain_is
    on_choice p choice.Stop content es go is plain_is got fits rest rest2 mid are rest_is mid_is later sent taken asks waits output spoken fit wants leads onward = absurd plain_is

    -- the request is within the limit
    on_short : (p : ℕ) (y : Reply) (content : List ℕ) (es : List Exchange) → Walks es
        → length (once_request paths p) ≤ limit → (rest : List ℕ) (answers : List Packet) (taken sent2 used later : List ℕ)
        → AreAsked rest → AskForPaths paths (First p y content ∷ es)
        → Chooses (work_told tells command) serving (sent_packets paths smudge_alone (First p y content ∷ es)) answers end
        → spelling_all answers ≡ taken ++ left → taken ≡ used ++ later
        → IsPart (reply_step false) reply_start used later (reply_end y) (HasContent false content)
        → Spoken paths smudge_alone es sent2 later → AllFit seen (First p y content ∷ es) → NoneWanting (First p y content ∷ es)
        → (mid : Talk) → IsAsked (first_round smudge_alone rest) p y mid → LeadsTo d mid (es ++ more) u
        → ((after : List ℕ) → AreAsked after → LeadsTo d (Between after) more u → HearWell after more)
        → HearWell rest (First p y content ∷ (es ++ more))
    on_short p y content es go le rest answers taken sent2 used later are asks waits output parts part spoken fit wants mid a leads onward =
        let request = smudge_packets (paths.text p) (paths.name p) false (paths.content p) in
        let is = asked_head p a.rest (subst AreAsked a.rest_is are) in
        let size = request_length p is (asks.0, tt) in
        let short : total request ≤ limit = omega (arith, le, size) in
        let x = choose laws.packets (work_told tells command) (paths.text p) (paths.content p) request
        (sent_packets paths smudge_alone es) answers end
        (laws.request (paths.text p) (paths.name p) (paths.content p) false) short waits in
        let heard_it = heard_of (reply_step false) reply_start (spelling_all answers) taken used later left (reply_end y)
        (HasContent false content) seen output parts part (first_calm seen left p y content quiet fit.0 wants.0) in
        let host = laws.reply false x.choice (spelling_all x.later) (later_waits none_owed (paths.text p) false x.choice x.may) x.fit in
        let same = laws.one false (spelling_all answers) used later (spelling_all (choice_answer x.choice)) (spelling_all x.later)
        (reply_end y) (Good (reply_to x.choice)) heard_it
        (host_part (reply_step false) reply_start answers (choice_answer x.choice) x.later (reply_to x.choice)
        (HasContent false (given x.choice)) x.whole host) in
        let shape : y ≡ back (reply_to x.choice) = reply_is y (reply_to x.choice) same.0 in
        let got : content ≡ given x.choice =
        part.done ∙ (ap (λ (ps : List Packet). content_in false reply_start ps) same.1 ∙ sym host.done) in
        let known = plain (run_of tells command paths p) (told p is) in
        let chosen = told_choice (choice_told (run_of tells command paths p)) x.choice known x.is in
        subst (λ (z : Reply). HearWell rest (First p z content ∷ (es ++ more))) (sym shape)
        (on_choice p x.choice content es go chosen (subst IsPlain chosen known) got le rest a.rest mid are a.rest_is
        (a.next ∙ ap (λ (z : Reply). answered (first_round smudge_alone rest) p a.rest z) shape)
        x.later sent2 later asks.1 x.next
        (text_left answers (choice_answer x.choice) x.later taken used later left x.whole output parts same.2)
        spoken fit.1 wants.1 leads onward)

    -- or over it
    on_long : (p : ℕ) (y : Reply) (content : List ℕ) (es : List Exchange)
        → limit < length (once_request paths p) → (rest : List ℕ) (answers : List Packet) (taken sent2 used later : List ℕ)
        → AreAsked rest → AskForPaths paths (First p y content ∷ es)
        → Chooses (work_told tells command) serving (sent_packets paths smudge_alone (First p y content ∷ es)) answers end
        → spelling_all answers ≡ taken ++ left → taken ≡ used ++ later
        → IsPart (reply_step false) reply_start used later (reply_end y) (HasContent false content)
        → Spoken paths smudge_alone es sent2 later → AllFit seen (First p y content ∷ es) → NoneWanting (First p y content ∷ es)
        → (mid : Talk) → IsAsked (first_round smudge_alone rest) p y mid → LeadsTo d mid (es ++ more) u
        → ((after : List ℕ) → AreAsked after → LeadsTo d (Between after) more u → HearWell after more)
        → HearWell rest (First p y content ∷ (es ++ more))
    on_long p y content es long rest answers taken sent2 used later are asks waits output parts part spoken fit wants mid a leads onward =
        let request = smudge_packets (paths.text p) (paths.name p) false (paths.content p) in
        let are2 : AreAsked (p ∷ a.rest) = subst AreAsked a.rest_is are in
        let size = request_length p (asked_head p a.rest are2) (asks.0, tt) in
        let over_limit : limit < total request = omega (arith, long, size) in
        let none = no_answer laws.packets (work_told tells command) serving
        (Smudge (paths.text p) false (paths.content p)) request (sent_packets paths smudge_alone es) answers end
        (refl, refl) (laws.request (paths.text p) (paths.name p) (paths.content p) false) over_limit waits in
        let all : [] ≡ taken ++ left = ap (λ (z : List Packet). spelling_all z) (sym none) ∙ output in
        let nothing = none_of_two used later (sym (none_of_two taken left all).0 ∙ parts) in
        let shape = ended_part laws seen p y content used later false (HasContent false content) quiet.0 fit.0 wants.0
        nothing.0 nothing.1 part in
        let over_now : mid ≡ Between a.rest =
        a.next ∙ ap (λ (z : Reply). answered (first_round smudge_alone rest) p a.rest z) shape in
        let after = subst (λ (t : Talk). LeadsTo d t (es ++ more) u) over_now leads in
        let no_more = nothing_between paths d more u a.rest es sent2 later spoken after in
        subst (λ (z : Reply). HearWell rest (First p z content ∷ (es ++ more))) (sym shape)
        (subst (λ (z : List ℕ). HearWell z (First p (reply.Broken cause.Ended) content ∷ (es ++ more))) (sym a.rest_is)
        (first_heard p (reply.Broken cause.Ended) content (heard.Refused (refusal.Broken cause.Ended)) a.rest (es ++ more) refl refl
        (λ q e. refl)
        (record { fits = λ le. absurd (omega (arith, le, long)); over = λ l. refl })
        (subst (λ (z : List Exchange). HearWell a.rest (z ++ more)) (sym no_more)
        (onward a.rest (asked_tail p a.rest are2)
        (subst (λ (z : List Exchange). LeadsTo d (Between a.rest) (z ++ more) u) no_more after)))))

    on_first : (p : ℕ) (y : Reply) (content : List ℕ) (es : List Exchange) → Walks es → Walks (First p y content ∷ es)
    on_first p y content es go rest answers sent taken are asks waits output (inl cut) fit wants leads onward =
        absurd (not_cut seen left (First p y content) quiet fit.0 wants.0 cut.1.may)
    on_first p y content es go rest answers sent taken are asks waits output (inr s) fit wants leads onward =
        by_length (compared (length (once_request paths p)) limit)
      where
        by_length : (length (once_request paths p) ≤ limit) ⊎ (limit < length (once_request paths p))
            → HearWell rest (First p y content ∷ (es ++ more))
        by_length (inl le) =
            on_short p y content es go le rest answers taken s.0 s.1 s.2 are asks waits output s.4 s.5 s.6 fit wants leads.0
            (asked d (first_round smudge_alone rest) p y leads.0 leads.2) leads.3 onward
        by_length (inr long) =
            on_long p y content es long rest answers taken s.0 s.1 s.2 are asks waits output s.4 s.5 s.6 fit wants leads.0
            (asked d (first_round smudge_alone rest) p y leads.0 leads.2) leads.3 onward

    on_shut : (es : List Exchange) → Walks (Shutting ∷ es)
    on_shut es rest answers sent taken are asks waits output spoken fit wants leads onward p among =
        let a = talk_is (true && is_empty rest) Ended leads.0
        (one_step d (InRound (first_round smudge_alone rest)) (ev.Shut d) leads.0 leads.2) in
        let no : contains p [] ≡ true = subst (λ (z : List ℕ). contains p z ≡ true) (empty_is rest a.0) among in
        absurd (cc no)

    at_end : Walks []
    at_end rest answers sent taken are asks waits output spoken fit wants leads onward = by_more more outside leads
      where
        by_more : (next : List Exchange) → IsOutside next → LeadsTo d (InRound (first_round smudge_alone rest)) next u
            → HearWell rest more
        by_more [] o h = absurd (subst (λ (t : Talk). IsOver t) (sym h) over)
        by_more (NoStart p ∷ next) o h = absurd (cc (one_step d (InRound (first_round smudge_alone rest)) (ev.OpenFailed p opening.NotStarted) h.0 h.2))
        by_more (NoRoom p ∷ next) o h = absurd (cc (one_step d (InRound (first_round smudge_alone rest)) (ev.OpenFailed p opening.NoMemory) h.0 h.2))
        by_more (Opening p (Good caps) ∷ next) o h = absurd (cc (one_step d (InRound (first_round smudge_alone rest)) (ev.Opened d caps) h.0 h.2))
        by_more (Opening p (Broke why) ∷ next) o h = absurd (cc (one_step d (InRound (first_round smudge_alone rest)) (ev.OpenFailed p (opening.Broken why)) h.0 h.2))
        by_more (Opening p OutOfMemory ∷ next) o h = absurd (cc (one_step d (InRound (first_round smudge_alone rest)) (ev.OpenFailed p opening.NoMemory) h.0 h.2))
        by_more (First p y c ∷ next) o h = absurd o
        by_more (Listing late names y ∷ next) o h = absurd o
        by_more (Second p y c ∷ next) o h = absurd o
        by_more (Shutting ∷ next) o h = absurd o

    pub walk : (es : List Exchange) → Walks es
    walk [] = at_end
    walk (First p y content ∷ es) = on_first p y content es (walk es)
    walk (Shutting ∷ es) = on_shut es
    walk (Listing late names y ∷ es) = λ rest answers sent taken are asks waits output spoken fit wants leads onward.
        absurd (no_list d rest names y leads.0 leads.2)
    walk (Second p y content ∷ es) = λ rest answers sent taken are asks waits output spoken fit wants leads onward.
        absurd (no_second d rest p y leads.0 leads.2)
    walk (NoStart p ∷ es) = λ rest answers sent taken are asks waits output spoken fit wants leads onward.
        absurd (cc (one_step d (InRound (first_round smudge_alone rest)) (ev.OpenFailed p opening.NotStarted) leads.0 leads.2))
    walk (NoRoom p ∷ es) = λ rest answers sent taken are asks waits output spoken fit wants leads onward.
        absurd (cc (one_step d (InRound (first_round smudge_alone rest)) (ev.OpenFailed p opening.NoMemory) leads.0 leads.2))
    walk (Opening p (Good caps) ∷ es) = λ rest answers sent taken are asks waits output spoken fit wants leads onward.
        absurd (cc (one_step d (InRound (first_round smudge_alone rest)) (ev.Opened d caps) leads.0 leads.2))
    walk (Opening p (Broke why) ∷ es) = λ rest answers sent taken are asks waits output spoken fit wants leads onward.
        absurd (cc (one_step d (InRound (first_round smudge_alone rest)) (ev.OpenFailed p (opening.Broken why)) leads.0 leads.2))
    walk (Opening p OutOfMemory ∷ es) = λ rest answers sent taken are asks waits output spoken fit wants leads onward.
        absurd (cc (one_step d (InRound (first_round smudge_alone rest)) (ev.OpenFailed p opening.NoMemory) leads.0 leads.2))
