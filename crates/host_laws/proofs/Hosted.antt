-- A talk with hosts, item by item.
use Rattle.std.proofs.Common.{◌≡◌, ◌==◌, ◌&&◌, ℕ, ◌≤◌, Bool, true, false, cond, List, [], ◌∷◌, ◌++◌}
use Rattle.std.proofs.Common.{Some, refl, sym, ap, ◌∙◌, subst, arith, append-nil}
use Rattle.filter_words.specs.declared.reply.Caps.{Caps}
use Rattle.filter_words.specs.declared.reply.BreakCause.{BreakCause}
use Rattle.edge_kit.specs.Starters.{Had, Session, StartFailed, StartOutOfMemory, SessionHad}
use Rattle.delay_table.specs.Table.{contains}
use Rattle.filter_proto.specs.Exchanges.{Ends, Good, Broke, OutOfMemory}
use Rattle.checkout_core.specs.declared.event.Event.TheVariants as ev
use Rattle.checkout_core.specs.declared.event.OpenCause.TheVariants as opening
use Rattle.checkout_core.specs.declared.path.Heard.TheVariants as heard
use Rattle.checkout_core.specs.Conditions.{is_good_opening, heard_opening}
use Rattle.checkout_core.specs.Fates.{Fate, Untold, Later, Known, fate_of, fate_after}
use Rattle.checkout_core.specs.Talks.{Talk, Between, IsOver, opened, talk_run}
use Rattle.driver_line.specs.Conversations.{Exchange, NoStart, NoRoom, Opening, First, Listing, Second, Shutting}
use Rattle.driver_line.specs.Conversations.{notes_in, LeadsTo}
use Rattle.driver_line.specs.Lines.{Paths}
use Rattle.driver_line.specs.Transcripts.{IsSession, IsFailedSession, IsOpenedSession, Matches}
use Rattle.driver_line.specs.SameHeard.{NoneWanting, HaveTexts}
use Rattle.driver_host.specs.HostText.{HostEnd}
use Rattle.host_laws.specs.HostTalks.{RequestsFit, ArePaths, IsHostSession, AreHosts, NoneBroken, NoneStopped}
use Rattle.host_laws.specs.HostTalks.{times_in, times_delayed, times_listed, times_redone}
use Rattle.host_laws.specs.Exchanges.{RepliesAreGood, ListsAreGood, HandshakesAreGood}
use Rattle.host_laws.proofs.Counts.{count_suc}
use Rattle.host_laws.proofs.OneParse.{PacketLaws}
use Rattle.host_laws.proofs.Rounds.{talk_is, one_step}
use Rattle.host_laws.proofs.Served.{IsOutside}
use Rattle.host_laws.proofs.Opened.{AskForPaths, SpellsLaw, opened_well}

-- what follows an item is a start, or nothing
pub outside_of : (paths : Paths) (hs : List Had) (es : List Exchange) → Matches paths es hs → IsOutside es
outside_of paths [] es h = subst IsOutside (sym h) tt
outside_of paths (StartFailed ∷ hs) es h = subst IsOutside (sym h.2) tt
outside_of paths (StartOutOfMemory ∷ hs) es h = subst IsOutside (sym h.2) tt
outside_of paths (Session seen ∷ hs) es h = subst IsOutside (sym h.4) tt

-- the first of two parts
pub wants_front : (es fs : List Exchange) → NoneWanting (es ++ fs) → NoneWanting es
wants_front [] fs h = tt
wants_front (e ∷ es) fs h = (h.0, wants_front es fs h.1)

pub asks_front : (paths : Paths) (es fs : List Exchange) → AskForPaths paths (es ++ fs) → AskForPaths paths es
asks_front paths [] fs h = tt
asks_front paths (First p y c ∷ es) fs h = (h.0, asks_front paths es fs h.1)
asks_front paths (Second p y c ∷ es) fs h = (h.0, asks_front paths es fs h.1)
asks_front paths (Listing late names y ∷ es) fs h = asks_front paths es fs h
asks_front paths (NoStart p ∷ es) fs h = asks_front paths es fs h
asks_front paths (NoRoom p ∷ es) fs h = asks_front paths es fs h
asks_front paths (Opening p end ∷ es) fs h = asks_front paths es fs h
asks_front paths (Shutting ∷ es) fs h = asks_front paths es fs h

fit_front : (paths : Paths) (caps : Caps) (es fs : List Exchange) → RequestsFit paths caps (es ++ fs)
    → RequestsFit paths caps es
fit_front paths caps [] fs h = tt
fit_front paths caps (First p y c ∷ es) fs h = (h.0, fit_front paths caps es fs h.1)
fit_front paths caps (Second p y c ∷ es) fs h = (h.0, fit_front paths caps es fs h.1)
fit_front paths caps (Listing late names y ∷ es) fs h = (h.0, fit_front paths caps es fs h.1)
fit_front paths caps (NoStart p ∷ es) fs h = (h.0, fit_front paths caps es fs h.1)
fit_front paths caps (NoRoom p ∷ es) fs h = (h.0, fit_front paths caps es fs h.1)
fit_front paths caps (Opening p (Good agreed) ∷ es) fs h = fit_front paths agreed es fs h
fit_front paths caps (Opening p (Broke why) ∷ es) fs h = (h.0, fit_front paths caps es fs h.1)
fit_front paths caps (Opening p OutOfMemory ∷ es) fs h = (h.0, fit_front paths caps es fs h.1)
fit_front paths caps (Shutting ∷ es) fs h = (h.0, fit_front paths caps es fs h.1)

-- what the exchanges are for a path of which nothing was delayed before
pub record IsServedIn (d p : ℕ) (es : List Exchange) (rest : ℕ) : Type 0 where
  pub listed : times_listed p es ≡ times_delayed p es
  pub redone : times_redone p es ≡ times_delayed p es
  pub once : times_delayed p es ≤ rest
  pub told : (f : Fate) → (f ≡ Known heard.Lost → ⊥) → (f ≡ Later → ⊥) → fate_of p f (notes_in d es) ≡ Known heard.Lost
      → ⊥

pub record IsFine (d : ℕ) (es : List Exchange) (ends : List HostEnd) (rest : List ℕ) : Type 0 where
  pub unbroken : NoneBroken es
  pub served : NoneStopped ends → (p : ℕ) → IsServedIn d p es (times_in p rest)

-- a start that failed
failed_start : (d p : ℕ) (rest : List ℕ) (mid : Talk)
    → talk_run d (Between rest) (ev.OpenFailed p opening.NotStarted ∷ []) ≡ Some mid
    → (q : ℕ) × (left : List ℕ) × (rest ≡ q ∷ left) × (mid ≡ Between left)
failed_start d p [] mid h = absurd (cc (one_step d (Between []) (ev.OpenFailed p opening.NotStarted) mid h))
failed_start d p (q ∷ rest) mid h =
    let a = talk_is (p == q && is_good_opening opening.NotStarted) (Between rest) mid
    (one_step d (Between (q ∷ rest)) (ev.OpenFailed p opening.NotStarted) mid h) in
    (q, rest, refl, sym a.1)

pub opened_start : (d : ℕ) (caps : Caps) (rest : List ℕ) (mid : Talk)
    → talk_run d (Between rest) (ev.Opened d caps ∷ []) ≡ Some mid → mid ≡ opened caps rest
opened_start d caps [] mid h = absurd (cc (one_step d (Between []) (ev.Opened d caps) mid h))
opened_start d caps (q ∷ rest) mid h = sym (cc (one_step d (Between (q ∷ rest)) (ev.Opened d caps) mid h))

fate_start : (d p q : ℕ) (f : Fate) → (f ≡ Known heard.Lost → ⊥) → (f ≡ Later → ⊥)
    → (fate_after p f (ev.OpenFailed q opening.NotStarted) ≡ Known heard.Lost → ⊥)
    × (fate_after p f (ev.OpenFailed q opening.NotStarted) ≡ Later → ⊥)
fate_start d p q Later lost later = absurd (later refl)
fate_start d p q (Known h) lost later = (lost, later)
fate_start d p q Untold lost later = one (p == q)
  where
    one : (b : Bool) → (cond b (Known (heard_opening opening.NotStarted)) Untold ≡ Known heard.Lost → ⊥)
        × (cond b (Known (heard_opening opening.NotStarted)) Untold ≡ Later → ⊥)
    one true = (λ e. cc e, λ e. cc e)
    one false = (λ e. cc e, λ e. cc e)

fate_opens : (d p : ℕ) (caps : Caps) (f : Fate) → (f ≡ Known heard.Lost → ⊥) → (f ≡ Later → ⊥)
    → (fate_after p f (ev.Opened d caps) ≡ Known heard.Lost → ⊥) × (fate_after p f (ev.Opened d caps) ≡ Later → ⊥)
fate_opens d p caps Later lost later = absurd (later refl)
fate_opens d p caps (Known h) lost later = (lost, later)
fate_opens d p caps Untold lost later = one caps.smudge refl
  where
    one : (b : Bool) → caps.smudge ≡ b → (fate_after p Untold (ev.Opened d caps) ≡ Known heard.Lost → ⊥)
        × (fate_after p Untold (ev.Opened d caps) ≡ Later → ⊥)
    one true e = rw e (λ x. cc x, λ x. cc x)
    one false e = rw e (λ x. cc x, λ x. cc x)

module _ (laws : PacketLaws) (law : SpellsLaw) (handshakes : HandshakesAreGood) (replies : RepliesAreGood) (lists : ListsAreGood) (own : Caps) (batch d : ℕ) (paths : Paths) (asked : List ℕ) (texts : HaveTexts paths asked) (fine : ArePaths paths asked) (u : Talk) (over : IsOver u) (never_fails : (seen : SessionHad) (end : HostEnd) (why : BreakCause) → IsHostSession own batch seen end → IsFailedSession (Broke why) seen → ⊥) where
  opened_item : (p : ℕ) (caps : Caps) (es more : List Exchange) (seen : SessionHad) (end : HostEnd) (ends : List HostEnd)
      (rest : List ℕ) → ((p : ℕ) → times_in p rest ≤ 1) → ((p : ℕ) → 1 ≤ times_in p rest → contains p asked ≡ true)
      → IsHostSession own batch seen end → IsOpenedSession paths caps es seen → IsOutside more
      → NoneWanting (es ++ more) → AskForPaths paths (es ++ more) → RequestsFit paths caps (es ++ more) → (mid : Talk)
      → mid ≡ opened caps rest → LeadsTo d mid (es ++ more) u
      → IsFine d (Opening p (Good caps) ∷ (es ++ more)) (end ∷ ends) rest
  opened_item p caps es more seen end ends rest once among h o outside wants asks fit mid mid_is leads =
      let w = opened_well laws law handshakes replies lists own batch d paths asked caps rest es more seen end u texts fine
      once among h o (wants_front es more wants) (asks_front paths es more asks) (fit_front paths caps es more fit) outside
      over (subst (λ (t : Talk). LeadsTo d t (es ++ more) u) mid_is leads) in
      let all : es ++ more ≡ es = ap (λ (z : List Exchange). es ++ z) w.over ∙ append-nil es in
      subst (λ (z : List Exchange). IsFine d (Opening p (Good caps) ∷ z) (end ∷ ends) rest) (sym all) (record {
        unbroken = (refl, w.unbroken);
        served = λ none q.
            let v = w.served none.0 q in
            let list_is = v.listed in
            let redo = v.redone in
            record {
              listed = omega (arith, list_is);
              redone = omega (arith, list_is, redo);
              once = v.once;
              told = λ f lost later.
                  let k = fate_opens d q caps f lost later in
                  v.told (fate_after q f (ev.Opened d caps)) k.0 (λ e. absurd (k.1 e));
            };
      })

  pub hosted : (caps : Caps) (items : List Had) (es : List Exchange) (ends : List HostEnd) (rest : List ℕ)
      → ((p : ℕ) → times_in p rest ≤ 1) → ((p : ℕ) → 1 ≤ times_in p rest → contains p asked ≡ true)
      → Matches paths es items → AreHosts own batch items ends → LeadsTo d (Between rest) es u → NoneWanting es
      → AskForPaths paths es → RequestsFit paths caps es → IsFine d es ends rest
  hosted caps [] es ends rest once among matches hosts leads wants asks fit =
      subst (λ (z : List Exchange). IsFine d z ends rest) (sym matches) (record {
        unbroken = tt;
        served = λ none p. record { listed = refl; redone = refl; once = omega arith; told = λ f lost later. lost };
      })
  hosted caps (StartOutOfMemory ∷ hs) es ends rest once among matches hosts leads wants asks fit =
      let w = subst (λ (z : List Exchange). NoneWanting z) matches.2 wants in
      let no : true ≡ false = w.0 in absurd cc
  hosted caps (StartFailed ∷ hs) es ends rest once among matches hosts leads wants asks fit =
      let p = matches.0 in
      let more = matches.1 in
      let l = subst (λ (z : List Exchange). LeadsTo d (Between rest) z u) matches.2 leads in
      let a = failed_start d p rest l.0 l.2 in
      let fewer : (q : ℕ) → times_in q a.1 ≤ times_in q rest =
      λ q. subst (λ (z : List ℕ). times_in q a.1 ≤ times_in q z) (sym a.2) (count_suc (q == a.0) (times_in q a.1)) in
      let w = hosted caps hs more ends a.1
      (λ q. (let o = once q in let f = fewer q in omega (arith, o, f)))
      (λ q some. among q (let f = fewer q in omega (arith, some, f)))
      matches.3 hosts
      (subst (λ (t : Talk). LeadsTo d t more u) a.3 l.3)
      (subst (λ (z : List Exchange). NoneWanting z) matches.2 wants).1
      (subst (λ (z : List Exchange). AskForPaths paths z) matches.2 asks)
      (subst (λ (z : List Exchange). RequestsFit paths caps z) matches.2 fit).1 in
      subst (λ (z : List Exchange). IsFine d z ends rest) (sym matches.2) (record {
        unbroken = (refl, w.unbroken);
        served = λ none q.
            let v = w.served none q in
            let on = v.once in
            let f = fewer q in
            record {
              listed = v.listed;
              redone = v.redone;
              once = omega (arith, on, f);
              told = λ x lost later.
                  let k = fate_start d q p x lost later in
                  v.told (fate_after q x (ev.OpenFailed p opening.NotStarted)) k.0 k.1;
            };
      })
  hosted caps (Session seen ∷ hs) es ends rest once among matches hosts leads wants asks fit =
      subst (λ (z : List HostEnd). IsFine d es z rest) (sym hosts.2)
      (subst (λ (z : List Exchange). IsFine d z (hosts.0 ∷ hosts.1) rest) (sym matches.4)
      (by_end matches.1 matches.5
      (subst (λ (z : List Exchange). LeadsTo d (Between rest) z u) matches.4 leads)
      (subst (λ (z : List Exchange). NoneWanting z) matches.4 wants)
      (subst (λ (z : List Exchange). AskForPaths paths z) matches.4 asks)
      (subst (λ (z : List Exchange). RequestsFit paths caps z) matches.4 fit)))
    where
      by_end : (end : Ends Caps) → IsSession paths end matches.2 seen
          → LeadsTo d (Between rest) (Opening matches.0 end ∷ (matches.2 ++ matches.3)) u
          → NoneWanting (Opening matches.0 end ∷ (matches.2 ++ matches.3))
          → AskForPaths paths (Opening matches.0 end ∷ (matches.2 ++ matches.3))
          → RequestsFit paths caps (Opening matches.0 end ∷ (matches.2 ++ matches.3))
          → IsFine d (Opening matches.0 end ∷ (matches.2 ++ matches.3)) (hosts.0 ∷ hosts.1) rest
      by_end (Good agreed) session l w a f =
          opened_item matches.0 agreed matches.2 matches.3 seen hosts.0 hosts.1 rest once among hosts.3 session
          (outside_of paths hs matches.3 matches.6) w.1 a f l.0 (opened_start d agreed rest l.0 l.2) l.3
      by_end (Broke why) session l w a f = absurd (never_fails seen hosts.0 why hosts.3 session.1)
      by_end OutOfMemory session l w a f = let no : true ≡ false = w.0 in absurd cc
