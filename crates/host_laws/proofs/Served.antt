-- A session with a host, exchange by exchange.
use Rattle.std.proofs.Common.{◌≡◌, ◌==◌, inl, inr, ℕ, zero, suc, ◌+◌, ◌≤◌, Bool, true, false, cond, List, [], ◌∷◌, ◌++◌}
use Rattle.std.proofs.Common.{None, map, take, drop, refl, sym, ap, ◌∙◌, subst, arith, append_assoc, take-append-drop}
use Rattle.pkt_line.specs.Packets.{Packet, total}
use Rattle.pkt_line.specs.Spelling.{spelling_all}
use Rattle.filter_words.specs.Outcomes.{limit}
use Rattle.filter_words.specs.Requests.{smudge_packets, list_packets}
use Rattle.filter_words.specs.SmudgeReply.{reply_step, reply_start}
use Rattle.filter_words.specs.Listing.{GoodList, Listed, Aborted, list_step, list_start, name_in}
use Rattle.filter_words.specs.ListGrammar.{AreExpected}
use Rattle.filter_words.specs.declared.reply.Caps.{Caps}
use Rattle.filter_words.specs.declared.reply.Reply.{Reply}
use Rattle.filter_words.specs.declared.reply.Reply.TheVariants as reply
use Rattle.filter_words.specs.declared.reply.ListReply.{ListReply}
use Rattle.filter_words.specs.declared.reply.ListReply.TheVariants as list
use Rattle.edge_kit.specs.Starters.{SessionHad}
use Rattle.delay_table.specs.Table.{contains}
use Rattle.filter_proto.specs.Exchanges.{Ends, Good, Broke, OutOfMemory}
use Rattle.filter_proto.specs.Replies.{reply_end}
use Rattle.checkout_core.specs.declared.event.Event.{Event}
use Rattle.checkout_core.specs.declared.event.Event.TheVariants as ev
use Rattle.checkout_core.specs.declared.event.OpenCause.TheVariants as opening
use Rattle.checkout_core.specs.declared.path.Heard.{Heard}
use Rattle.checkout_core.specs.declared.path.Heard.TheVariants as heard
use Rattle.checkout_core.specs.declared.verdict.FilterCause.TheVariants as refusal
use Rattle.checkout_core.specs.Fates.{Fate, Untold, Later, Known, fate_of, fate_after}
use Rattle.checkout_core.specs.Talks.{Talk, InRound, Ended, Round, IsOver}
use Rattle.driver_line.specs.Conversations.{Exchange, NoStart, NoRoom, Opening, First, Listing, Second, Shutting}
use Rattle.driver_line.specs.Conversations.{notes_in, LeadsTo}
use Rattle.driver_line.specs.Lines.{Paths, HasContent, ListIs}
use Rattle.driver_line.specs.Transcripts.{Spoken, AllFit, IsPart}
use Rattle.driver_line.specs.SameHeard.{NoneWanting, HaveTexts}
use Rattle.driver_host.specs.declared.work.Choice.{Choice}
use Rattle.driver_host.specs.declared.work.Choice.TheVariants as choice
use Rattle.driver_host.specs.Requests.{Request}
use Rattle.driver_host.specs.Answers.{AreListable, reply_to}
use Rattle.driver_host.specs.declared.host.HostFault.TheVariants as fault
use Rattle.driver_host.specs.HostText.{AllAnswered, EndsSo}
use Rattle.driver_host.specs.HostText.{Stage, Serving, Over, Owed, HostEnd, Waits, Stopped, Refused, MayChoose, after_choice, after_list, less}
use Rattle.host_laws.specs.HostTalks.{ArePaths, NoneBroken, cause_of, times_in, times_delayed, times_listed}
use Rattle.host_laws.specs.HostTalks.{times_redone, count_if}
use Rattle.host_laws.specs.Awaiting.{Awaits}
use Rattle.host_laws.specs.Exchanges.{RepliesAreGood, ListsAreGood, HasNames}
use Rattle.host_laws.proofs.Counts.{count_suc, count_both, count_here, some_here, some_there, named}
use Rattle.host_laws.proofs.Counts.{not_named, less_none, less_head, same_paths, map_take, map_drop, map_both, AreAmong, among_tail}
use Rattle.host_laws.proofs.Rounds.{IsAsked, asked, IsAskedAgain, again, IsAtList, empty_list, AreNamed, listed, shut}
use Rattle.host_laws.proofs.Rounds.{nothing_more, one_step, listed_round, any_list}
use Rattle.host_laws.proofs.Good.{spelled_both}
use Rattle.host_laws.proofs.Ended.{IsQuiet, first_calm, second_calm, list_calm, not_cut, heard_of, back, reply_is}

-- the packets of a request
abbrev pub request_packets : Paths → Caps → Exchange → List Packet
request_packets paths caps (First p y c) = smudge_packets (paths.text p) (paths.name p) caps.delay (paths.content p)
request_packets paths caps (Listing late names y) = list_packets
request_packets paths caps (Second p y c) = smudge_packets (paths.text p) (paths.name p) false []
request_packets paths caps e = []

abbrev pub sent_packets : Paths → Caps → List Exchange → List Packet
sent_packets paths caps [] = []
sent_packets paths caps (e ∷ es) = request_packets paths caps e ++ sent_packets paths caps es

-- no request is over the limit, packet by packet
abbrev pub AllShort : Paths → Caps → List Exchange → Type 0
AllShort paths caps [] = Unit {0}
AllShort paths caps (e ∷ es) = (total (request_packets paths caps e) ≤ limit) × AllShort paths caps es

-- The round of a client and what its host owes: the host's delayed paths in their order. No path stands twice.
pub record Agrees (paths : Paths) (asked : List ℕ) (agreed : Caps) (owed : Owed) (r : Round) : Type 0 where
  pub late : List ℕ
  pub delayed : owed.delayed ≡ map paths.text late
  pub listed : owed.listed ≡ map paths.text r.turns
  pub alike : (p : ℕ) → times_in p late ≡ times_in p r.late
  pub once : (p : ℕ) → times_in p late + (times_in p r.turns + times_in p r.rest) ≤ 1
  pub among : (p : ℕ) → 1 ≤ times_in p late + (times_in p r.turns + times_in p r.rest) → contains p asked ≡ true
  pub waits : r.any_delayed ≡ true → agreed.delay ≡ true
  pub none : r.any_delayed ≡ false → (late ≡ []) × (r.turns ≡ [])
  pub quiet : r.noting_list ≡ false

-- what the exchanges that follow are for a path: each delayed path is listed and then asked for again
pub record IsServedOn (d p : ℕ) (es : List Exchange) (late turns rest : ℕ) : Type 0 where
  pub listed : times_listed p es ≡ late + times_delayed p es
  pub redone : times_redone p es ≡ turns + times_listed p es
  pub once : times_delayed p es ≤ rest
  pub told : (f : Fate) → (f ≡ Known heard.Lost → ⊥) → (f ≡ Later → 1 ≤ late + turns)
      → fate_of p f (notes_in d es) ≡ Known heard.Lost → ⊥

-- nothing comes after a session, none of its exchanges broke it, and its host served each path unless it stopped
pub record IsWell (d : ℕ) (end : HostEnd) (es more : List Exchange) (late : List ℕ) (r : Round) : Type 0 where
  pub unbroken : NoneBroken es
  pub over : more ≡ []
  pub served : (end ≡ Stopped → ⊥) → (p : ℕ)
      → IsServedOn d p es (times_in p late) (times_in p r.turns) (times_in p r.rest)

-- a start comes next, or nothing
abbrev pub IsOutside : List Exchange → Type 0
IsOutside [] = Unit {0}
IsOutside (NoStart p ∷ es) = Unit {0}
IsOutside (NoRoom p ∷ es) = Unit {0}
IsOutside (Opening p end ∷ es) = Unit {0}
IsOutside (First p y c ∷ es) = ⊥
IsOutside (Listing late names y ∷ es) = ⊥
IsOutside (Second p y c ∷ es) = ⊥
IsOutside (Shutting ∷ es) = ⊥

abbrev bytes_tail : List ℕ → List ℕ
bytes_tail [] = []
bytes_tail (b ∷ bs) = bs

cancel : (xs ys zs : List ℕ) → xs ++ ys ≡ xs ++ zs → ys ≡ zs
cancel [] ys zs e = e
cancel (x ∷ xs) ys zs e = cancel xs ys zs (ap (λ (z : List ℕ). bytes_tail z) e)

-- what is left of a host's text
pub text_left : (answers first later : List Packet) (taken used rest left : List ℕ) → answers ≡ first ++ later
    → spelling_all answers ≡ taken ++ left → taken ≡ used ++ rest → used ≡ spelling_all first
    → spelling_all later ≡ rest ++ left
text_left answers first later taken used rest left whole output parts is =
    cancel (spelling_all first) (spelling_all later) (rest ++ left)
    (sym (spelled_both first later)
    ∙ (ap (λ (z : List Packet). spelling_all z) (sym whole)
    ∙ (output
    ∙ (ap (λ (z : List ℕ). z ++ left) (parts ∙ ap (λ (z : List ℕ). z ++ rest) is)
    ∙ append_assoc (spelling_all first) rest left))))

-- what a note tells of a path

abbrev NotLost : Fate → Type 0
NotLost f = f ≡ Known heard.Lost → ⊥

known_here : (h : Heard) (b : Bool) (f : Fate) (P : Type 0) → (h ≡ heard.Lost → ⊥) → NotLost f
    → (b ≡ false → f ≡ Later → P)
    → NotLost (elim f [ Untold ↦ cond b (Known h) Untold | Later ↦ cond b (Known h) Later | Known g ↦ Known g ])
    × (elim f [ Untold ↦ cond b (Known h) Untold | Later ↦ cond b (Known h) Later | Known g ↦ Known g ] ≡ Later → P)
known_here h true Untold P fine lost later =
    (λ e. fine (ap (λ (x : Fate). elim x [ Untold ↦ h | Later ↦ h | Known g ↦ g ]) e), λ e. absurd (cc e))
known_here h true Later P fine lost later =
    (λ e. fine (ap (λ (x : Fate). elim x [ Untold ↦ h | Later ↦ h | Known g ↦ g ]) e), λ e. absurd (cc e))
known_here h false Untold P fine lost later = (lost, later refl)
known_here h false Later P fine lost later = (lost, later refl)
known_here h b (Known g) P fine lost later = (lost, λ e. absurd (cc e))

-- lists of paths

count_one : (q p : ℕ) (xs : List ℕ) → times_in q (p ∷ xs) ≡ times_in q xs + times_in q (p ∷ [])
count_one q p xs = sums (q == p) (times_in q xs)
  where
    sums : (b : Bool) (n : ℕ) → count_if b n ≡ n + count_if b 0
    sums true n = omega arith
    sums false n = omega arith

pub count_more : (q p : ℕ) (n : ℕ) → count_if (q == p) n ≡ n + times_in q (p ∷ [])
count_more q p n = sums (q == p) n
  where
    sums : (b : Bool) (n : ℕ) → count_if b n ≡ n + count_if b 0
    sums true n = omega arith
    sums false n = omega arith

of_one : (q p : ℕ) (xs ys : List ℕ) → xs ≡ p ∷ ys → times_in q xs ≡ times_in q ys + times_in q (p ∷ [])
of_one q p xs ys e = ap (λ (z : List ℕ). times_in q z) e ∙ count_one q p ys

count_cut : (q n : ℕ) (xs : List ℕ) → times_in q (take n xs) + times_in q (drop n xs) ≡ times_in q xs
count_cut q n xs =
    sym (count_both q (take n xs) (drop n xs)) ∙ ap (λ (z : List ℕ). times_in q z) (take-append-drop n xs)

pub both_none : (xs ys : List Exchange) → xs ++ ys ≡ [] → (xs ≡ []) × (ys ≡ [])
both_none [] ys e = (refl, e)
both_none (x ∷ xs) ys e = absurd (cc e)

none_names : (text : ℕ → List ℕ) (xs : List ℕ) → map text xs ≡ [] → xs ≡ []
none_names text [] e = refl
none_names text (x ∷ xs) e = absurd (cc e)

none_taken : (n : ℕ) (xs : List (List ℕ)) → 1 ≤ n → take n xs ≡ [] → xs ≡ []
none_taken zero xs some e = absurd (omega (arith, some))
none_taken (suc n) [] some e = refl
none_taken (suc n) (x ∷ xs) some e = absurd (cc e)

abbrev names_in_good : Ends GoodList → List (List ℕ)
names_in_good (Good (Listed names)) = names
names_in_good (Good Aborted) = []
names_in_good (Broke why) = []
names_in_good OutOfMemory = []

same_names : (ms ns : List (List ℕ)) → Good (Listed ms) ≡ Good (Listed ns) → ms ≡ ns
same_names ms ns e = ap (λ (z : Ends GoodList). names_in_good z) e

-- a host that is over has stopped
over_at : (own : Caps) (batch : ℕ) (t : Stage) (requests : List Request) (choices : List Choice) (answers : List Packet)
    (rest : List ℕ) (end : HostEnd) → AllAnswered own batch Over requests choices answers t → EndsSo t rest end
    → end ≡ Stopped
over_at own batch t (q ∷ rs) choices answers rest end all ends = absurd all.7
over_at own batch t [] choices answers rest end all ends =
    by_end end (subst (λ (z : Stage). EndsSo z rest end) (sym all.2) ends)
  where
    by_end : (e : HostEnd) → EndsSo Over rest e → e ≡ Stopped
    by_end Waits h = absurd h.unfinished
    by_end Stopped h = refl
    by_end (Refused fault.BadPacket) h = absurd h.unfinished
    by_end (Refused fault.NoMemory) h = absurd h
    by_end (Refused fault.TooLong) h = absurd h.refused.unfinished
    by_end (Refused fault.BadHello) h = absurd h.refused.unfinished
    by_end (Refused fault.BadRequest) h = absurd h.refused.unfinished

over_stops : (own : Caps) (batch : ℕ) (sent answers : List Packet) (end : HostEnd) → Awaits own batch Over sent answers end
    → end ≡ Stopped
over_stops own batch sent answers end w = over_at own batch w.stage w.requests w.choices answers w.rest end w.answered w.ends

-- names tell nothing of a path, nor does a list with names
fate_named : (q x : ℕ) (f : Fate) → fate_after q f (ev.Named x) ≡ f
fate_named q x Untold = refl
fate_named q x Later = refl
fate_named q x (Known h) = refl

fate_listed_some : (q d n : ℕ) (f : Fate) → fate_after q f (ev.Listed d (list.Names n)) ≡ f
fate_listed_some q d n Untold = refl
fate_listed_some q d n Later = refl
fate_listed_some q d n (Known h) = refl

fate_names : (q d n : ℕ) (names : List ℕ) (f : Fate) (es : List Event)
    → fate_of q f ((map ev.Named names ++ ev.Listed d (list.Names n) ∷ []) ++ es) ≡ fate_of q f es
fate_names q d n [] f es = ap (λ (z : Fate). fate_of q z es) (fate_listed_some q d n f)
fate_names q d n (x ∷ names) f es =
    ap (λ (z : Fate). fate_of q z ((map ev.Named names ++ ev.Listed d (list.Names n) ∷ []) ++ es)) (fate_named q x f)
    ∙ fate_names q d n names f es

fate_empty : (q d : ℕ) (f : Fate) → NotLost f → (f ≡ Later → ⊥) → NotLost (fate_after q f (ev.Listed d list.Empty))
fate_empty q d Untold lost none = lost
fate_empty q d Later lost none = absurd (none refl)
fate_empty q d (Known h) lost none = lost

pub fate_shut : (q d : ℕ) (f : Fate) → fate_after q f (ev.Shut d) ≡ f
fate_shut q d Untold = refl
fate_shut q d Later = refl
fate_shut q d (Known h) = refl

later_here : (b : Bool) (f : Fate) (P Q : Type 0) → NotLost f → (f ≡ Later → P) → (b ≡ true → Q) → (P → Q)
    → NotLost (elim f [ Untold ↦ cond b Later Untold | Later ↦ cond b Later Later | Known g ↦ Known g ])
    × (elim f [ Untold ↦ cond b Later Untold | Later ↦ cond b Later Later | Known g ↦ Known g ] ≡ Later → Q)
later_here true Untold P Q lost later here on = (λ e. cc e, λ e. here refl)
later_here true Later P Q lost later here on = (λ e. cc e, λ e. here refl)
later_here false Untold P Q lost later here on = (lost, λ e. on (later e))
later_here false Later P Q lost later here on = (lost, λ e. on (later e))
later_here b (Known g) P Q lost later here on = (lost, λ e. on (later e))

fate_delayed : (q p : ℕ) (f : Fate) → fate_after q f (ev.Answered p reply.Delayed)
    ≡ elim f [ Untold ↦ cond (q == p) Later Untold | Later ↦ cond (q == p) Later Later | Known g ↦ Known g ]
fate_delayed q p Untold = refl
fate_delayed q p Later = refl
fate_delayed q p (Known g) = refl

fate_content : (q p : ℕ) (f : Fate) → fate_after q f (ev.Answered p reply.Content)
    ≡ elim f [ Untold ↦ cond (q == p) (Known heard.Got) Untold | Later ↦ cond (q == p) (Known heard.Got) Later | Known g ↦ Known g ]
fate_content q p Untold = refl
fate_content q p Later = refl
fate_content q p (Known g) = refl

fate_error : (q p : ℕ) (f : Fate) → fate_after q f (ev.Answered p reply.Error)
    ≡ elim f [ Untold ↦ cond (q == p) (Known (heard.Refused refusal.Error)) Untold | Later ↦ cond (q == p) (Known (heard.Refused refusal.Error)) Later | Known g ↦ Known g ]
fate_error q p Untold = refl
fate_error q p Later = refl
fate_error q p (Known g) = refl

fate_content_again : (q p : ℕ) (f : Fate) → fate_after q f (ev.Redone p reply.Content)
    ≡ elim f [ Untold ↦ cond (q == p) (Known heard.Got) Untold | Later ↦ cond (q == p) (Known heard.Got) Later | Known g ↦ Known g ]
fate_content_again q p Untold = refl
fate_content_again q p Later = refl
fate_content_again q p (Known g) = refl

fate_error_again : (q p : ℕ) (f : Fate) → fate_after q f (ev.Redone p reply.Error)
    ≡ elim f [ Untold ↦ cond (q == p) (Known (heard.Refused refusal.Error)) Untold | Later ↦ cond (q == p) (Known (heard.Refused refusal.Error)) Later | Known g ↦ Known g ]
fate_error_again q p Untold = refl
fate_error_again q p Later = refl
fate_error_again q p (Known g) = refl

module _ (replies : RepliesAreGood) (lists : ListsAreGood) (own : Caps) (batch : ℕ) (some_batch : 1 ≤ batch) (agreed : Caps) (smudge : agreed.smudge ≡ true) (paths : Paths) (asked_paths : List ℕ) (texts : HaveTexts paths asked_paths) (fine : ArePaths paths asked_paths) (d : ℕ) (seen : SessionHad) (left : List ℕ) (calm : IsQuiet seen left) (end : HostEnd) (more : List Exchange) (outside : IsOutside more) (u : Talk) (over : IsOver u) where
  -- what holds of exchanges that follow a state
  abbrev GoesWell : List Exchange → Type 0
  GoesWell es = (r : Round) (owed : Owed) (answers : List Packet) (sent taken : List ℕ)
      (ag : Agrees paths asked_paths agreed owed r)
      → Awaits own batch (Serving agreed owed) (sent_packets paths agreed es) answers end
      → spelling_all answers ≡ taken ++ left → Spoken paths agreed es sent taken → AllFit seen es → NoneWanting es
      → AllShort paths agreed es → LeadsTo d (InRound r) (es ++ more) u → IsWell d end es more ag.late r

  -- a path of the rest, or of the turns
  rest_some : (r : Round) (p : ℕ) (rest : List ℕ) → r.rest ≡ p ∷ rest → 1 ≤ times_in p r.rest
  rest_some r p rest e = subst (λ (z : List ℕ). 1 ≤ times_in p z) (sym e) (some_here p rest)

  among_late : (owed : Owed) (r : Round) (ag : Agrees paths asked_paths agreed owed r) → AreAmong asked_paths ag.late
  among_late owed r ag p some = ag.among p (omega (arith, some))

  among_turns : (owed : Owed) (r : Round) (ag : Agrees paths asked_paths agreed owed r) → AreAmong asked_paths r.turns
  among_turns owed r ag p some = ag.among p (omega (arith, some))

  free : (owed : Owed) (r : Round) (ag : Agrees paths asked_paths agreed owed r) (p : ℕ) → contains p asked_paths ≡ true
      → times_in p ag.late ≡ 0 → name_in owed.delayed (paths.text p) ≡ false
  free owed r ag p is none =
      subst (λ (z : List (List ℕ)). name_in z (paths.text p) ≡ false) (sym ag.delayed)
      (not_named paths.text asked_paths texts p ag.late is (among_late owed r ag) none)

  unlisted : (owed : Owed) (r : Round) (ag : Agrees paths asked_paths agreed owed r) (p : ℕ) → contains p asked_paths ≡ true
      → times_in p r.turns ≡ 0 → less owed.listed (paths.text p) ≡ map paths.text r.turns
  unlisted owed r ag p is none =
      ap (λ (z : List (List ℕ)). less z (paths.text p)) ag.listed
      ∙ less_none paths.text asked_paths texts p r.turns is (among_turns owed r ag) none

  -- a path is answered at once
  on_plain : (p : ℕ) (y : Reply) (content : List ℕ) (h : Heard) (es : List Exchange) → GoesWell es → (h ≡ heard.Lost → ⊥)
      → cause_of (First p y content) ≡ None
      → ((q : ℕ) → times_delayed q (First p y content ∷ es) ≡ times_delayed q es)
      → ((q : ℕ) (f : Fate) → fate_after q f (ev.Answered p y) ≡ elim f [ Untold ↦ cond (q == p) (Known h) Untold | Later ↦ cond (q == p) (Known h) Later | Known g ↦ Known g ])
      → (r : Round) (owed : Owed) (ag : Agrees paths asked_paths agreed owed r) (mid : Talk) (a : IsAsked r p y mid)
      → mid ≡ InRound (record { delay = r.delay; any_delayed = r.any_delayed; noting_list = r.noting_list; rest = a.rest; late = r.late; turns = r.turns })
      → contains p asked_paths ≡ true → times_in p r.turns ≡ 0 → (later : List Packet) (sent taken : List ℕ)
      → Awaits own batch (Serving agreed (record owed { listed = less owed.listed (paths.text p) })) (sent_packets paths agreed es) later end
      → spelling_all later ≡ taken ++ left → Spoken paths agreed es sent taken → AllFit seen es → NoneWanting es
      → AllShort paths agreed es → LeadsTo d mid (es ++ more) u → IsWell d end (First p y content ∷ es) more ag.late r
  on_plain p y content h es go fine_h cause count fate r owed ag mid a mid_is is none later sent taken awaits output spoken fit wants short leads =
      let r2 : Round = record { delay = r.delay; any_delayed = r.any_delayed; noting_list = r.noting_list; rest = a.rest; late = r.late; turns = r.turns } in
      let fewer : (q : ℕ) → times_in q a.rest ≤ times_in q r.rest =
      λ q. subst (λ (z : List ℕ). times_in q a.rest ≤ times_in q z) (sym a.rest_is) (count_suc (q == p) (times_in q a.rest)) in
      let ag2 : Agrees paths asked_paths agreed (record owed { listed = less owed.listed (paths.text p) }) r2 = record {
        late = ag.late;
        delayed = ag.delayed;
        listed = unlisted owed r ag p is none;
        alike = ag.alike;
        once = λ q. (let o = ag.once q in let f = fewer q in omega (arith, o, f));
        among = λ q some. ag.among q (let f = fewer q in omega (arith, some, f));
        waits = ag.waits;
        none = ag.none;
        quiet = ag.quiet;
      } in
      let w = go r2 (record owed { listed = less owed.listed (paths.text p) }) later sent taken ag2 awaits output spoken fit wants short
      (subst (λ (t : Talk). LeadsTo d t (es ++ more) u) mid_is leads) in
      record {
        unbroken = (cause, w.unbroken);
        over = w.over;
        served = λ going q.
            let v = w.served going q in
            let same = count q in
            let list = v.listed in
            let on = v.once in
            let f = fewer q in
            record {
              listed = list ∙ ap (λ (n : ℕ). times_in q ag.late + n) (sym same);
              redone = v.redone;
              once = omega (arith, same, on, f);
              told = λ x lost waiting.
                  let k = known_here h (q == p) x (1 ≤ times_in q ag.late + times_in q r.turns) fine_h lost (λ b. waiting) in
                  v.told (fate_after q x (ev.Answered p y))
                  (subst NotLost (sym (fate q x)) k.0)
                  (λ e. k.1 (sym (fate q x) ∙ e));
            };
      }

  -- a path is delayed
  on_later : (p : ℕ) (content : List ℕ) (es : List Exchange) → GoesWell es → (r : Round) (owed : Owed)
      (ag : Agrees paths asked_paths agreed owed r) (mid : Talk) (a : IsAsked r p reply.Delayed mid)
      → agreed.delay ≡ true → contains p asked_paths ≡ true → (later : List Packet) (sent taken : List ℕ)
      → Awaits own batch (Serving agreed (record owed { delayed = owed.delayed ++ paths.text p ∷ [] })) (sent_packets paths agreed es) later end
      → spelling_all later ≡ taken ++ left → Spoken paths agreed es sent taken → AllFit seen es → NoneWanting es
      → AllShort paths agreed es → LeadsTo d mid (es ++ more) u
      → IsWell d end (First p reply.Delayed content ∷ es) more ag.late r
  on_later p content es go r owed ag mid a delay is later sent taken awaits output spoken fit wants short leads =
      let r2 : Round = record { delay = r.delay; any_delayed = true; noting_list = r.noting_list; rest = a.rest; late = p ∷ r.late; turns = r.turns } in
      let late2 = ag.late ++ p ∷ [] in
      let longer : (q : ℕ) → times_in q late2 ≡ times_in q ag.late + times_in q (p ∷ []) =
      λ q. count_both q ag.late (p ∷ []) in
      let fewer : (q : ℕ) → times_in q r.rest ≡ times_in q a.rest + times_in q (p ∷ []) =
      λ q. of_one q p r.rest a.rest a.rest_is in
      let ag2 : Agrees paths asked_paths agreed (record owed { delayed = owed.delayed ++ paths.text p ∷ [] }) r2 = record {
        late = late2;
        delayed = ap (λ (z : List (List ℕ)). z ++ paths.text p ∷ []) ag.delayed
            ∙ sym (map_both paths.text asked_paths texts ag.late (p ∷ []));
        listed = ag.listed;
        alike = λ q. (let l = longer q in let e = ag.alike q in let k = count_one q p r.late in omega (arith, l, e, k));
        once = λ q. (let o = ag.once q in let l = longer q in let f = fewer q in omega (arith, o, l, f));
        among = λ q some. ag.among q (let l = longer q in let f = fewer q in omega (arith, some, l, f));
        waits = λ e. delay;
        none = λ e. absurd (cc e);
        quiet = ag.quiet;
      } in
      let w = go r2 (record owed { delayed = owed.delayed ++ paths.text p ∷ [] }) later sent taken ag2 awaits output spoken fit wants short
      (subst (λ (t : Talk). LeadsTo d t (es ++ more) u) a.next leads) in
      record {
        unbroken = (refl, w.unbroken);
        over = w.over;
        served = λ going q.
            let v = w.served going q in
            let list = v.listed in
            let on = v.once in
            let l = longer q in
            let f = fewer q in
            let k = count_more q p (times_delayed q es) in
            record {
              listed = omega (arith, list, l, k);
              redone = v.redone;
              once = omega (arith, on, f, k);
              told = λ x lost waiting.
                  let z = later_here (q == p) x (1 ≤ times_in q ag.late + times_in q r.turns)
                  (1 ≤ times_in q late2 + times_in q r.turns) lost waiting
                  (λ e. (let one : times_in q (p ∷ []) ≡ 1 = ap (λ (b : Bool). count_if b 0) e in omega (arith, l, one)))
                  (λ some. omega (arith, some, l)) in
                  v.told (fate_after q x (ev.Answered p reply.Delayed))
                  (subst NotLost (sym (fate_delayed q p x)) z.0)
                  (λ e. z.1 (sym (fate_delayed q p x) ∙ e));
            };
      }

  -- the host stops
  on_stop : (p : ℕ) (content : List ℕ) (es : List Exchange) (r : Round) (late : List ℕ) (mid : Talk) → mid ≡ Ended
      → (answers : List Packet) → Awaits own batch Over (sent_packets paths agreed es) answers end
      → LeadsTo d mid (es ++ more) u → IsWell d end (First p reply.Abort content ∷ es) more late r
  on_stop p content es r late mid is answers awaits leads =
      let none = both_none es more (nothing_more d (es ++ more) mid u is leads) in
      record {
        unbroken = (refl, subst NoneBroken (sym none.0) tt);
        over = none.1;
        served = λ going q. absurd (going (over_stops own batch (sent_packets paths agreed es) answers end awaits));
      }

  first_then : (p : ℕ) (content : List ℕ) (es : List Exchange) → GoesWell es → (c : Choice) (r : Round) (owed : Owed)
      (ag : Agrees paths asked_paths agreed owed r) (mid : Talk) (a : IsAsked r p (back (reply_to c)) mid)
      → MayChoose owed (paths.text p) agreed.delay c → contains p asked_paths ≡ true → times_in p r.turns ≡ 0
      → (later : List Packet) (sent taken : List ℕ)
      → Awaits own batch (after_choice agreed owed (paths.text p) c) (sent_packets paths agreed es) later end
      → spelling_all later ≡ taken ++ left → Spoken paths agreed es sent taken → AllFit seen es → NoneWanting es
      → AllShort paths agreed es → LeadsTo d mid (es ++ more) u
      → IsWell d end (First p (back (reply_to c)) content ∷ es) more ag.late r
  first_then p content es go (choice.Give bytes) r owed ag mid a may is none later sent taken awaits output spoken fit wants short leads =
      on_plain p reply.Content content heard.Got es go (λ e. cc e) refl (λ q. refl) (λ q f. fate_content q p f) r owed ag mid a a.next is none later sent taken awaits output spoken fit wants short leads
  first_then p content es go choice.Refuse r owed ag mid a may is none later sent taken awaits output spoken fit wants short leads =
      on_plain p reply.Error content (heard.Refused refusal.Error) es go (λ e. cc e) refl (λ q. refl) (λ q f. fate_error q p f) r owed ag mid a a.next is none later sent taken awaits output spoken fit wants short leads
  first_then p content es go choice.Later r owed ag mid a may is none later sent taken awaits output spoken fit wants short leads =
      on_later p content es go r owed ag mid a may.0 is later sent taken awaits output spoken fit wants short leads
  first_then p content es go choice.Stop r owed ag mid a may is none later sent taken awaits output spoken fit wants short leads =
      on_stop p content es r ag.late mid a.next later awaits leads

  on_first : (p : ℕ) (y : Reply) (content : List ℕ) (es : List Exchange) → GoesWell es → GoesWell (First p y content ∷ es)
  on_first p y content es go r owed answers sent taken ag awaits output (inl cut) fit wants short leads =
      absurd (not_cut seen left (First p y content) calm fit.0 wants.0 cut.1.may)
  on_first p y content es go r owed answers sent taken ag awaits output (inr s) fit wants short leads =
      let a = asked d r p y leads.0 leads.2 in
      let here = rest_some r p a.rest a.rest_is in
      let once = ag.once p in
      let none_late : times_in p ag.late ≡ 0 = omega (arith, once, here) in
      let none_turns : times_in p r.turns ≡ 0 = omega (arith, once, here) in
      let is : contains p asked_paths ≡ true = ag.among p (omega (arith, here)) in
      let x = replies own batch agreed owed (paths.text p) (paths.name p) agreed.delay (paths.content p)
      (sent_packets paths agreed es) answers end s.1 s.2 (reply_end y) (smudge, free owed r ag p is none_late) short.0
      awaits
      (heard_of (reply_step agreed.delay) reply_start (spelling_all answers) taken s.1 s.2 left (reply_end y)
      (HasContent agreed.delay content) seen output s.4 s.5 (first_calm seen left p y content calm fit.0 wants.0)) in
      let shape : y ≡ back (reply_to x.choice) = reply_is y (reply_to x.choice) x.good in
      subst (λ (z : Reply). IsWell d end (First p z content ∷ es) more ag.late r) (sym shape)
      (first_then p content es go x.choice r owed ag leads.0 (subst (λ (z : Reply). IsAsked r p z leads.0) shape a) x.may
      is none_turns x.later s.0 s.2 x.next
      (text_left answers _ x.later taken s.1 s.2 left x.whole output s.4 x.used_is) s.6 fit.1 wants.1 short.1 leads.3)

  -- a path is asked for again

  again_plain : (p : ℕ) (y : Reply) (content : List ℕ) (h : Heard) (es : List Exchange) → GoesWell es → (h ≡ heard.Lost → ⊥)
      → cause_of (Second p y content) ≡ None
      → ((q : ℕ) (f : Fate) → fate_after q f (ev.Redone p y) ≡ elim f [ Untold ↦ cond (q == p) (Known h) Untold | Later ↦ cond (q == p) (Known h) Later | Known g ↦ Known g ])
      → (r : Round) (owed : Owed) (ag : Agrees paths asked_paths agreed owed r) (mid : Talk) (a : IsAskedAgain r p y mid)
      → mid ≡ InRound (record { delay = r.delay; any_delayed = r.any_delayed; noting_list = r.noting_list; rest = r.rest; late = r.late; turns = a.turns })
      → contains p asked_paths ≡ true → (later : List Packet) (sent taken : List ℕ)
      → Awaits own batch (Serving agreed (record owed { listed = less owed.listed (paths.text p) })) (sent_packets paths agreed es) later end
      → spelling_all later ≡ taken ++ left → Spoken paths agreed es sent taken → AllFit seen es → NoneWanting es
      → AllShort paths agreed es → LeadsTo d mid (es ++ more) u → IsWell d end (Second p y content ∷ es) more ag.late r
  again_plain p y content h es go fine_h cause fate r owed ag mid a mid_is is later sent taken awaits output spoken fit wants short leads =
      let r2 : Round = record { delay = r.delay; any_delayed = r.any_delayed; noting_list = r.noting_list; rest = r.rest; late = r.late; turns = a.turns } in
      let fewer : (q : ℕ) → times_in q r.turns ≡ times_in q a.turns + times_in q (p ∷ []) =
      λ q. of_one q p r.turns a.turns a.turns_is in
      let gone : times_in p a.turns ≡ 0 =
      (let o = ag.once p in let f = fewer p in let one = count_here p [] in omega (arith, o, f, one)) in
      let among : AreAmong asked_paths a.turns =
      λ q some. ag.among q (let f = fewer q in omega (arith, some, f)) in
      let ag2 : Agrees paths asked_paths agreed (record owed { listed = less owed.listed (paths.text p) }) r2 = record {
        late = ag.late;
        delayed = ag.delayed;
        listed = ap (λ (z : List (List ℕ)). less z (paths.text p))
            (ag.listed ∙ ap (λ (z : List ℕ). map paths.text z) a.turns_is)
            ∙ less_head paths.text asked_paths texts p a.turns is among gone;
        alike = ag.alike;
        once = λ q. (let o = ag.once q in let f = fewer q in omega (arith, o, f));
        among = λ q some. ag.among q (let f = fewer q in omega (arith, some, f));
        waits = ag.waits;
        none = λ e. (let none : p ∷ a.turns ≡ [] = sym a.turns_is ∙ (ag.none e).1 in absurd cc);
        quiet = ag.quiet;
      } in
      let w = go r2 (record owed { listed = less owed.listed (paths.text p) }) later sent taken ag2 awaits output spoken fit wants short
      (subst (λ (t : Talk). LeadsTo d t (es ++ more) u) mid_is leads) in
      record {
        unbroken = (cause, w.unbroken);
        over = w.over;
        served = λ going q.
            let v = w.served going q in
            let redo = v.redone in
            let f = fewer q in
            let k = count_more q p (times_redone q es) in
            record {
              listed = v.listed;
              redone = omega (arith, redo, f, k);
              once = v.once;
              told = λ x lost waiting.
                  let z = known_here h (q == p) x (1 ≤ times_in q ag.late + times_in q a.turns) fine_h lost
                  (λ b e. (let zero : times_in q (p ∷ []) ≡ 0 = ap (λ (c : Bool). count_if c 0) b in let some = waiting e in omega (arith, f, zero, some))) in
                  v.told (fate_after q x (ev.Redone p y))
                  (subst NotLost (sym (fate q x)) z.0)
                  (λ e. z.1 (sym (fate q x) ∙ e));
            };
      }

  again_stop : (p : ℕ) (content : List ℕ) (es : List Exchange) (r : Round) (late : List ℕ) (mid : Talk) → mid ≡ Ended
      → (answers : List Packet) → Awaits own batch Over (sent_packets paths agreed es) answers end
      → LeadsTo d mid (es ++ more) u → IsWell d end (Second p reply.Abort content ∷ es) more late r
  again_stop p content es r late mid is answers awaits leads =
      let none = both_none es more (nothing_more d (es ++ more) mid u is leads) in
      record {
        unbroken = (refl, subst NoneBroken (sym none.0) tt);
        over = none.1;
        served = λ going q. absurd (going (over_stops own batch (sent_packets paths agreed es) answers end awaits));
      }

  second_then : (p : ℕ) (content : List ℕ) (es : List Exchange) → GoesWell es → (c : Choice) (r : Round) (owed : Owed)
      (ag : Agrees paths asked_paths agreed owed r) (mid : Talk) (a : IsAskedAgain r p (back (reply_to c)) mid)
      → MayChoose owed (paths.text p) false c → contains p asked_paths ≡ true
      → (later : List Packet) (sent taken : List ℕ)
      → Awaits own batch (after_choice agreed owed (paths.text p) c) (sent_packets paths agreed es) later end
      → spelling_all later ≡ taken ++ left → Spoken paths agreed es sent taken → AllFit seen es → NoneWanting es
      → AllShort paths agreed es → LeadsTo d mid (es ++ more) u
      → IsWell d end (Second p (back (reply_to c)) content ∷ es) more ag.late r
  second_then p content es go (choice.Give bytes) r owed ag mid a may is later sent taken awaits output spoken fit wants short leads =
      again_plain p reply.Content content heard.Got es go (λ e. cc e) refl (λ q f. fate_content_again q p f) r owed ag mid a a.next is later sent taken awaits output spoken fit wants short leads
  second_then p content es go choice.Refuse r owed ag mid a may is later sent taken awaits output spoken fit wants short leads =
      again_plain p reply.Error content (heard.Refused refusal.Error) es go (λ e. cc e) refl (λ q f. fate_error_again q p f) r owed ag mid a a.next is later sent taken awaits output spoken fit wants short leads
  second_then p content es go choice.Later r owed ag mid a may is later sent taken awaits output spoken fit wants short leads =
      let no : false ≡ true = may.0 in absurd cc
  second_then p content es go choice.Stop r owed ag mid a may is later sent taken awaits output spoken fit wants short leads =
      again_stop p content es r ag.late mid a.next later awaits leads

  on_second : (p : ℕ) (y : Reply) (content : List ℕ) (es : List Exchange) → GoesWell es → GoesWell (Second p y content ∷ es)
  on_second p y content es go r owed answers sent taken ag awaits output (inl cut) fit wants short leads =
      absurd (not_cut seen left (Second p y content) calm fit.0 wants.0 cut.1.may)
  on_second p y content es go r owed answers sent taken ag awaits output (inr s) fit wants short leads =
      let a = again d r p y leads.0 leads.2 in
      let here : 1 ≤ times_in p r.turns = subst (λ (z : List ℕ). 1 ≤ times_in p z) (sym a.turns_is) (some_here p a.turns) in
      let once = ag.once p in
      let none_late : times_in p ag.late ≡ 0 = omega (arith, once, here) in
      let is : contains p asked_paths ≡ true = ag.among p (omega (arith, here)) in
      let x = replies own batch agreed owed (paths.text p) (paths.name p) false [] (sent_packets paths agreed es) answers end
      s.1 s.2 (reply_end y) (smudge, free owed r ag p is none_late) short.0 awaits
      (heard_of (reply_step false) reply_start (spelling_all answers) taken s.1 s.2 left (reply_end y)
      (HasContent false content) seen output s.4 s.5 (second_calm seen left p y content calm fit.0 wants.0)) in
      let shape : y ≡ back (reply_to x.choice) = reply_is y (reply_to x.choice) x.good in
      subst (λ (z : Reply). IsWell d end (Second p z content ∷ es) more ag.late r) (sym shape)
      (second_then p content es go x.choice r owed ag leads.0 (subst (λ (z : Reply). IsAskedAgain r p z leads.0) shape a)
      x.may is x.later s.0 s.2 x.next
      (text_left answers _ x.later taken s.1 s.2 left x.whole output s.4 x.used_is) s.6 fit.1 wants.1 short.1 leads.3)

  -- the session is shut
  on_shut : (es : List Exchange) → GoesWell (Shutting ∷ es)
  on_shut es r owed answers sent taken ag awaits output spoken fit wants short leads =
      let a = shut d r leads.0 leads.2 in
      let none = both_none es more (nothing_more d (es ++ more) leads.0 u a.1 leads.3) in
      let empty = ag.none a.0 in
      let no_late : (q : ℕ) → times_in q ag.late ≡ 0 = λ q. ap (λ (z : List ℕ). times_in q z) empty.0 in
      let no_turns : (q : ℕ) → times_in q r.turns ≡ 0 = λ q. ap (λ (z : List ℕ). times_in q z) empty.1 in
      subst (λ (z : List Exchange). IsWell d end (Shutting ∷ z) more ag.late r) (sym none.0) (record {
        unbroken = (refl, tt);
        over = none.1;
        served = λ going q. (let l = no_late q in let t = no_turns q in record {
          listed = omega (arith, l);
          redone = omega (arith, t);
          once = omega arith;
          told = λ f lost waiting e. lost (sym (fate_shut q d f) ∙ e);
        });
      })

  -- a list

  listable_names : (xs : List ℕ) → AreAmong asked_paths xs → AreListable (map paths.text xs)
  listable_names [] among = tt
  listable_names (x ∷ xs) among =
      let f = (fine x (among x (some_here x xs))).long in
      (inl (omega (arith, f)), listable_names xs (among_tail asked_paths x xs among))

  expected_names : (late before xs : List ℕ) → ((q : ℕ) → times_in q before + times_in q xs ≤ 1)
      → AreAmong asked_paths before → AreAmong asked_paths xs
      → ((q : ℕ) → 1 ≤ times_in q xs → 1 ≤ times_in q late)
      → AreExpected (map paths.text late) (map paths.text before) (map paths.text xs)
  expected_names late before [] once among_before among known = tt
  expected_names late before (x ∷ xs) once among_before among known =
      let here = some_here x xs in
      let one = once x in
      let none : times_in x before ≡ 0 = omega (arith, one, here) in
      let is = among x here in (
        named paths.text asked_paths texts x late (known x here),
        not_named paths.text asked_paths texts x before is among_before none,
        subst (λ (z : List (List ℕ)). AreExpected (map paths.text late) z (map paths.text xs))
            (map_both paths.text asked_paths texts before (x ∷ []))
            (expected_names late (before ++ x ∷ []) xs
            (λ q. (let o = once q in let k = count_one q x xs in let b = count_both q before (x ∷ []) in omega (arith, o, k, b)))
            (λ q some. one_more q some)
            (among_tail asked_paths x xs among)
            (λ q some. known q (some_there q x xs some))),
      )
    where
      one_more : (q : ℕ) → 1 ≤ times_in q (before ++ x ∷ []) → contains q asked_paths ≡ true
      one_more q some = by_count (times_in q before) refl
        where
          by_count : (n : ℕ) → times_in q before ≡ n → contains q asked_paths ≡ true
          by_count (suc n) e = among_before q (omega (arith, e))
          by_count zero e =
              among q (let b = count_both q before (x ∷ []) in let k = count_one q x xs in omega (arith, some, b, k, e))

  list_of : (late names : List ℕ) (y : ListReply) (es : List Exchange) (r : Round) (owed : Owed) (answers : List Packet)
      (taken used later : List ℕ) (ag : Agrees paths asked_paths agreed owed r) → late ≡ r.late → IsAtList r
      → Awaits own batch (Serving agreed owed) (list_packets ++ sent_packets paths agreed es) answers end
      → spelling_all answers ≡ taken ++ left → taken ≡ used ++ later
      → (came : Ends GoodList) → ListIs paths names y came
      → IsPart (list_step (map paths.text late)) list_start used later came (λ _. Unit {0})
      → AllFit seen (Listing late names y ∷ []) → NoneWanting (Listing late names y ∷ [])
      → HasNames own batch agreed owed (sent_packets paths agreed es) answers end used came
  list_of late names y es r owed answers taken used later ag late_is at awaits output parts came is part fit wants =
      lists own batch agreed owed (map paths.text late) (sent_packets paths agreed es) answers end used later came
      (ag.waits at.any)
      (subst (λ (z : List (List ℕ)). AreListable z) (sym ag.delayed) (listable_names ag.late (among_late owed r ag)))
      (subst (λ (z : List (List ℕ)). AreExpected (map paths.text late) [] z) (sym ag.delayed)
      (expected_names late [] ag.late
      (λ q. (let o = ag.once q in omega (arith, o)))
      (λ q some. absurd (omega (arith, some)))
      (among_late owed r ag)
      (λ q some. (let e = ag.alike q in let f = ap (λ (z : List ℕ). times_in q z) late_is in omega (arith, some, e, f)))))
      awaits
      (heard_of (list_step (map paths.text late)) list_start (spelling_all answers) taken used later left came
      (λ _. Unit {0}) seen output parts part (list_calm seen left paths late names y came calm fit.0 wants.0 is))

  on_names : (late names : List ℕ) (n : ℕ) (es : List Exchange) → GoesWell es → (r : Round) (owed : Owed)
      (ag : Agrees paths asked_paths agreed owed r) (mid : Talk) (at : IsAtList r) (l : AreNamed r names mid)
      → map paths.text names ≡ take batch owed.delayed → (later : List Packet) (sent taken : List ℕ)
      → Awaits own batch (Serving agreed (after_list batch owed)) (sent_packets paths agreed es) later end
      → spelling_all later ≡ taken ++ left → Spoken paths agreed es sent taken → AllFit seen es → NoneWanting es
      → AllShort paths agreed es → LeadsTo d mid (es ++ more) u
      → IsWell d end (Listing late names (list.Names n) ∷ es) more ag.late r
  on_names late names n es go r owed ag mid at l same later sent taken awaits output spoken fit wants short leads =
      let r2 : Round = listed_round r l.late (r.turns ++ names) in
      let counts = l.counts (λ q. (let o = ag.once q in let e = ag.alike q in omega (arith, o, e))) in
      let among : AreAmong asked_paths names =
      λ q some. ag.among q (let k = counts q in let e = ag.alike q in omega (arith, some, k, e)) in
      let among_taken : AreAmong asked_paths (take batch ag.late) =
      λ q some. ag.among q (let k = count_cut q batch ag.late in omega (arith, some, k)) in
      let are : names ≡ take batch ag.late =
      same_paths paths.text asked_paths texts names (take batch ag.late) among among_taken
      (same ∙ (ap (λ (z : List (List ℕ)). take batch z) ag.delayed ∙ map_take paths.text asked_paths texts batch ag.late)) in
      let left_over : (q : ℕ) → times_in q (drop batch ag.late) + times_in q names ≡ times_in q ag.late =
      λ q. (let k = count_cut q batch ag.late in let e = ap (λ (z : List ℕ). times_in q z) are in omega (arith, k, e)) in
      let longer : (q : ℕ) → times_in q (r.turns ++ names) ≡ times_in q r.turns + times_in q names =
      λ q. count_both q r.turns names in
      let ag2 : Agrees paths asked_paths agreed (after_list batch owed) r2 = record {
        late = drop batch ag.late;
        delayed = ap (λ (z : List (List ℕ)). drop batch z) ag.delayed ∙ map_drop paths.text asked_paths texts batch ag.late;
        listed = ap (λ (z : List (List ℕ)). z ++ take batch owed.delayed) ag.listed
            ∙ (ap (λ (z : List (List ℕ)). map paths.text r.turns ++ z) (sym same)
            ∙ sym (map_both paths.text asked_paths texts r.turns names));
        alike = λ q. (let k = left_over q in let c = counts q in let e = ag.alike q in omega (arith, k, c, e));
        once = λ q. (let o = ag.once q in let k = left_over q in let t = longer q in omega (arith, o, k, t));
        among = λ q some. ag.among q (let k = left_over q in let t = longer q in omega (arith, some, k, t));
        waits = ag.waits;
        none = λ e. (let no : true ≡ false = sym at.any ∙ e in absurd cc);
        quiet = refl;
      } in
      let w = go r2 (after_list batch owed) later sent taken ag2 awaits output spoken fit wants short
      (subst (λ (t : Talk). LeadsTo d t (es ++ more) u) l.next leads) in
      record {
        unbroken = (refl, w.unbroken);
        over = w.over;
        served = λ going q.
            let v = w.served going q in
            let list_is = v.listed in
            let redo = v.redone in
            let k = left_over q in
            let t = longer q in
            record {
              listed = omega (arith, list_is, k);
              redone = omega (arith, redo, t);
              once = v.once;
              told = λ f lost waiting e.
                  v.told f lost (λ is. (let some = waiting is in omega (arith, some, k, t)))
                  (sym (fate_names q d n names f (notes_in d es)) ∙ e);
            };
      }

  on_empty : (late names : List ℕ) (es : List Exchange) (r : Round) (owed : Owed)
      (ag : Agrees paths asked_paths agreed owed r) (mid : Talk) → IsAtList r → mid ≡ Ended → names ≡ []
      → take batch owed.delayed ≡ [] → LeadsTo d mid (es ++ more) u
      → IsWell d end (Listing late names list.Empty ∷ es) more ag.late r
  on_empty late names es r owed ag mid at is no_names nothing leads =
      let none = both_none es more (nothing_more d (es ++ more) mid u is leads) in
      let late_none : ag.late ≡ [] =
      none_names paths.text ag.late (sym ag.delayed ∙ none_taken batch owed.delayed some_batch nothing) in
      let no_late : (q : ℕ) → times_in q ag.late ≡ 0 = λ q. ap (λ (z : List ℕ). times_in q z) late_none in
      let no_turns : (q : ℕ) → times_in q r.turns ≡ 0 = λ q. ap (λ (z : List ℕ). times_in q z) at.turns in
      let no_name : (q : ℕ) → times_in q names ≡ 0 = λ q. ap (λ (z : List ℕ). times_in q z) no_names in
      subst (λ (z : List Exchange). IsWell d end (Listing late names list.Empty ∷ z) more ag.late r) (sym none.0) (record {
        unbroken = (refl, tt);
        over = none.1;
        served = λ going q. (let l = no_late q in let t = no_turns q in let m = no_name q in record {
          listed = omega (arith, l, m);
          redone = omega (arith, t, m);
          once = omega arith;
          told = λ f lost waiting. fate_empty q d f lost (λ e. (let some = waiting e in omega (arith, some, l, t)));
        });
      })

  on_listing : (late names : List ℕ) (y : ListReply) (es : List Exchange) → GoesWell es → GoesWell (Listing late names y ∷ es)
  on_listing late names y es go r owed answers sent taken ag awaits output (inl cut) fit wants short leads =
      absurd (not_cut seen left (Listing late names y) calm fit.0 wants.0 cut.1.may)
  on_listing late names (list.Names n) es go r owed answers sent taken ag awaits output (inr s) fit wants short leads =
      let a = listed d n r names leads.0 ag.quiet leads.2 in
      let x = list_of late names (list.Names n) es r owed answers taken s.1 s.2 ag leads.1 a.0 awaits output s.4 s.5.0 s.5.1
      s.5.2 (fit.0, tt) (wants.0, tt) in
      on_names late names n es go r owed ag leads.0 a.0 a.1
      (same_names (map paths.text names) (take batch owed.delayed) (sym s.5.1 ∙ x.good)) x.later s.0 s.2 x.next
      (text_left answers _ x.later taken s.1 s.2 left x.whole output s.4 x.used_is) s.6 fit.1 wants.1 short.1 leads.3
  on_listing late names list.Empty es go r owed answers sent taken ag awaits output (inr s) fit wants short leads =
      let a = empty_list d r leads.0 leads.2 in
      let x = list_of late names list.Empty es r owed answers taken s.1 s.2 ag leads.1 a.0 awaits output s.4 s.5.0 s.5.1 s.5.2
      (fit.0, tt) (wants.0, tt) in
      on_empty late names es r owed ag leads.0 a.0 a.1 s.5.1.1
      (sym (same_names [] (take batch owed.delayed) (sym s.5.1.0 ∙ x.good))) leads.3
  on_listing late names list.Abort es go r owed answers sent taken ag awaits output (inr s) fit wants short leads =
      let a = any_list d r list.Abort leads.0 refl leads.2 in
      let x = list_of late names list.Abort es r owed answers taken s.1 s.2 ag leads.1 a awaits output s.4 s.5.0 s.5.1 s.5.2
      (fit.0, tt) (wants.0, tt) in
      let no : Good Aborted ≡ Good (Listed (take batch owed.delayed)) = sym s.5.1.0 ∙ x.good in absurd cc
  on_listing late names (list.Broken why) es go r owed answers sent taken ag awaits output (inr s) fit wants short leads =
      let a = any_list d r (list.Broken why) leads.0 refl leads.2 in
      let x = list_of late names (list.Broken why) es r owed answers taken s.1 s.2 ag leads.1 a awaits output s.4 s.5.0 s.5.1
      s.5.2 (fit.0, tt) (wants.0, tt) in
      let no : Broke why ≡ Good (Listed (take batch owed.delayed)) = sym s.5.1.0 ∙ x.good in absurd cc
  on_listing late names list.NoMemory es go r owed answers sent taken ag awaits output (inr s) fit wants short leads =
      let no : true ≡ false = wants.0 in absurd cc

  -- a session doesn't end within a round, and no start comes there

  at_end : GoesWell []
  at_end r owed answers sent taken ag awaits output spoken fit wants short leads = by_more more outside leads
    where
      by_more : (next : List Exchange) → IsOutside next → LeadsTo d (InRound r) next u → IsWell d end [] more ag.late r
      by_more [] o h = absurd (subst (λ (t : Talk). IsOver t) (sym h) over)
      by_more (NoStart p ∷ next) o h = absurd (cc (one_step d (InRound r) (ev.OpenFailed p opening.NotStarted) h.0 h.2))
      by_more (NoRoom p ∷ next) o h = absurd (cc (one_step d (InRound r) (ev.OpenFailed p opening.NoMemory) h.0 h.2))
      by_more (Opening p (Good caps) ∷ next) o h = absurd (cc (one_step d (InRound r) (ev.Opened d caps) h.0 h.2))
      by_more (Opening p (Broke why) ∷ next) o h = absurd (cc (one_step d (InRound r) (ev.OpenFailed p (opening.Broken why)) h.0 h.2))
      by_more (Opening p OutOfMemory ∷ next) o h = absurd (cc (one_step d (InRound r) (ev.OpenFailed p opening.NoMemory) h.0 h.2))
      by_more (First p y c ∷ next) o h = absurd o
      by_more (Listing late names y ∷ next) o h = absurd o
      by_more (Second p y c ∷ next) o h = absurd o
      by_more (Shutting ∷ next) o h = absurd o

  pub session : (es : List Exchange) → GoesWell es
  session [] = at_end
  session (First p y content ∷ es) = on_first p y content es (session es)
  session (Listing late names y ∷ es) = on_listing late names y es (session es)
  session (Second p y content ∷ es) = on_second p y content es (session es)
  session (Shutting ∷ es) = on_shut es
  session (NoStart p ∷ es) = λ r owed answers sent taken ag awaits output spoken fit wants short leads.
      absurd (cc (one_step d (InRound r) (ev.OpenFailed p opening.NotStarted) leads.0 leads.2))
  session (NoRoom p ∷ es) = λ r owed answers sent taken ag awaits output spoken fit wants short leads.
      absurd (cc (one_step d (InRound r) (ev.OpenFailed p opening.NoMemory) leads.0 leads.2))
  session (Opening p (Good caps) ∷ es) = λ r owed answers sent taken ag awaits output spoken fit wants short leads.
      absurd (cc (one_step d (InRound r) (ev.Opened d caps) leads.0 leads.2))
  session (Opening p (Broke why) ∷ es) = λ r owed answers sent taken ag awaits output spoken fit wants short leads.
      absurd (cc (one_step d (InRound r) (ev.OpenFailed p (opening.Broken why)) leads.0 leads.2))
  session (Opening p OutOfMemory ∷ es) = λ r owed answers sent taken ag awaits output spoken fit wants short leads.
      absurd (cc (one_step d (InRound r) (ev.OpenFailed p opening.NoMemory) leads.0 leads.2))
