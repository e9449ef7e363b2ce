-- Memory never ran out in a talk with hosts of single runs if no path heard that it did.
use Rattle.std.proofs.Common.{◌≡◌, ◌==◌, ◌&&◌, ℕ, Bool, true, false, not, cond, List, [], ◌∷◌, Some, refl, sym, ap, ◌∙◌, subst}
use Rattle.std.proofs.lemmas.Bool.{and_parts, eqb-true, eq-eqb}
use Rattle.std.proofs.lemmas.Option.{same_Some}
use Rattle.filter_words.specs.declared.reply.Caps.{Caps}
use Rattle.filter_words.specs.declared.reply.Reply.{Reply}
use Rattle.filter_words.specs.declared.reply.Reply.TheVariants as reply
use Rattle.delay_table.specs.Table.{contains, AreApart}
use Rattle.filter_proto.specs.Exchanges.{Good, Broke, OutOfMemory}
use Rattle.checkout_core.specs.declared.event.Event.{Event}
use Rattle.checkout_core.specs.declared.event.Event.TheVariants as ev
use Rattle.checkout_core.specs.declared.event.OpenCause.{OpenCause}
use Rattle.checkout_core.specs.declared.event.OpenCause.TheVariants as opening
use Rattle.checkout_core.specs.declared.path.Heard.TheVariants as heard
use Rattle.checkout_core.specs.Conditions.{is_delay, is_good_reply, is_good_opening, heard_opening}
use Rattle.checkout_core.specs.Fates.{Fate, Untold, Known, fate_of, fate_after, fate_here, fate_there, fate_opened}
use Rattle.checkout_core.specs.Talks.{Talk, Between, Refusing, InRound, Ended, opened, answered, talk_next, talk_run}
use Rattle.driver_line.specs.Conversations.{Exchange, NoStart, NoRoom, Opening, First, Listing, Second, Shutting}
use Rattle.driver_line.specs.Conversations.{notes_of, notes_in, LeadsTo}
use Rattle.driver_line.specs.SameHeard.{NoneWanting}
use Rattle.one_shot.specs.Replies.{smudge_alone}
use Rattle.host_laws.proofs.Opened.{first_round, refusing_is}
use Rattle.host_laws.proofs.OnceSessions.{known_stays, not_answered, not_redone, not_listing, not_shut, no_list, no_second}
use Rattle.host_laws.proofs.PlainCaps.{AllPlain}
use Rattle.host_laws.proofs.Rounds.{talk_is, one_step, asked, shut, nothing_more}

-- a path that differs from the first one
differs : (p q : ℕ) (rest : List ℕ) → contains p rest ≡ false → contains q rest ≡ true → (q == p) ≡ false
differs p q rest out among = by (q == p) refl
  where
    by : (b : Bool) → (q == p) ≡ b → (q == p) ≡ false
    by true e =
        let no : true ≡ false = sym among ∙ (ap (λ (z : ℕ). contains z rest) (eqb-true q p e) ∙ out) in absurd (cc no)
    by false e = e

-- where a talk stands that fails to open a session
opens_none : (rest : List ℕ) (p : ℕ) (o : OpenCause) (mid : Talk) → talk_next (Between rest) (ev.OpenFailed p o) ≡ Some mid
    → (more : List ℕ) × (rest ≡ p ∷ more) × (mid ≡ Between more)
opens_none [] p o mid h = absurd (cc h)
opens_none (q ∷ more) p o mid h =
    let a = talk_is (p == q && is_good_opening o) (Between more) mid h in
    let b = and_parts (p == q) (is_good_opening o) a.0 in
    (more, ap (λ (z : ℕ). z ∷ more) (sym (eqb-true p q b.0)), sym a.1)

-- and one that opens it
opens_one : (rest : List ℕ) (d : ℕ) (caps : Caps) (mid : Talk) → talk_next (Between rest) (ev.Opened d caps) ≡ Some mid
    → mid ≡ opened caps rest
opens_one [] d caps mid h = absurd (cc h)
opens_one (q ∷ rest) d caps mid h = sym (same_Some (opened caps (q ∷ rest)) mid h)

opened_plain : (caps : Caps) (rest : List ℕ) → caps.delay ≡ false → caps.smudge ≡ true
    → opened caps rest ≡ InRound (first_round smudge_alone rest)
opened_plain caps rest plain smudges =
    ap (λ (b : Bool). cond b (InRound (first_round caps rest)) Refusing) smudges
    ∙ ap (λ (b : Bool). InRound (record {
      delay = b;
      any_delayed = false;
      noting_list = false;
      rest = rest;
      late = [];
      turns = [];
    })) plain

opened_refusing : (caps : Caps) (rest : List ℕ) → caps.smudge ≡ false → opened caps rest ≡ Refusing
opened_refusing caps rest refuses = ap (λ (b : Bool). cond b (InRound (first_round caps rest)) Refusing) refuses

-- no answer waits in a session without `delay`
never_waits : (d : ℕ) (rest : List ℕ) (p : ℕ) (mid : Talk)
    → talk_next (InRound (first_round smudge_alone rest)) (ev.Answered p reply.Delayed) ≡ Some mid → ⊥
never_waits d [] p mid h = cc h
never_waits d (q ∷ rest) p mid h =
    let a = talk_is (p == q && (is_good_reply reply.Delayed && not (is_delay reply.Delayed && not false)))
    (answered (first_round smudge_alone (q ∷ rest)) q rest reply.Delayed) mid h in
    let b = and_parts (p == q) (is_good_reply reply.Delayed && not (is_delay reply.Delayed && not false)) a.0 in
    let no : false ≡ true = b.1 in cc no

-- nothing wants memory at the end of a talk, or under a driver that refuses

none_at_end : (d : ℕ) (t u : Talk) (es : List Exchange) → t ≡ Ended → LeadsTo d t es u → NoneWanting es
none_at_end d t u es ended leads = subst (λ (z : List Exchange). NoneWanting z) (sym (nothing_more d es t u ended leads)) tt

none_refusing : (d : ℕ) (t u : Talk) (es : List Exchange) → t ≡ Refusing → LeadsTo d t es u → NoneWanting es
none_refusing d t u [] refuses leads = tt
none_refusing d t u (e ∷ es) refuses leads =
    let a = refusing_is d e leads.0 (subst (λ (z : Talk). talk_run d z (notes_of d e) ≡ Some leads.0) refuses leads.2) in
    subst (λ (z : Exchange). NoneWanting (z ∷ es)) (sym a.0) (refl, none_at_end d leads.0 u es a.1 leads.3)

-- nothing is told yet of the paths that are left, which differ
pub record IsLeft (paths : List ℕ) (told : ℕ → Fate) (rest : List ℕ) : Type 0 where
  pub apart : AreApart rest
  pub among : (p : ℕ) → contains p rest ≡ true → contains p paths ≡ true
  pub fresh : (p : ℕ) → contains p rest ≡ true → told p ≡ Untold

module _ (d : ℕ) (paths : List ℕ) (u : Talk) where
  abbrev pub IsFresh : (ℕ → Fate) → List ℕ → Type 0
  IsFresh told rest = IsLeft paths told rest

  -- no path hears that memory ran out
  abbrev pub Remembers : (ℕ → Fate) → List Exchange → Type 0
  Remembers told es = (p : ℕ) → contains p paths ≡ true
      → fate_of p (told p) (notes_in d es) ≡ Known heard.OutOfMemory → ⊥

  -- what is told after a note
  abbrev pub after : (ℕ → Fate) → Event → ℕ → Fate
  after told e p = fate_after p (told p) e

  here : (p : ℕ) (rest : List ℕ) → contains p (p ∷ rest) ≡ true
  here p rest = ap (λ (b : Bool). cond b true (contains p rest)) (eq-eqb p p refl)

  behind : (p q : ℕ) (rest : List ℕ) → contains q rest ≡ true → contains q (p ∷ rest) ≡ true
  behind p q rest is = by (q == p)
    where
      by : (b : Bool) → cond b true (contains q rest) ≡ true
      by true = refl
      by false = is

  -- a first path that hears that memory ran out
  forgets : (told : ℕ → Fate) (p : ℕ) (rest : List ℕ) (e : Event) (es : List Exchange) → IsFresh told (p ∷ rest)
      → fate_after p Untold e ≡ Known heard.OutOfMemory
      → ((q : ℕ) → contains q paths ≡ true → fate_of q (after told e q) (notes_in d es) ≡ Known heard.OutOfMemory → ⊥) → ⊥
  forgets told p rest e es is hears kept =
      kept p (is.among p (here p rest))
      (ap (λ (f : Fate). fate_of p f (notes_in d es)) (ap (λ (f : Fate). fate_after p f e) (is.fresh p (here p rest)) ∙ hears)
      ∙ known_stays p heard.OutOfMemory (notes_in d es))

  -- the others, after a note of the first one
  others : (told : ℕ → Fate) (p : ℕ) (rest : List ℕ) (e : Event) → IsFresh told (p ∷ rest)
      → ((q : ℕ) → (q == p) ≡ false → fate_after q Untold e ≡ Untold) → IsFresh (after told e) rest
  others told p rest e is stays = record {
    apart = is.apart.1;
    among = λ q in_rest. is.among q (behind p q rest in_rest);
    fresh = λ q in_rest. ap (λ (f : Fate). fate_after q f e) (is.fresh q (behind p q rest in_rest))
        ∙ stays q (differs p q rest is.apart.0 in_rest);
  }

  -- so it goes from a place of a talk on
  abbrev pub Onward : Talk → (ℕ → Fate) → List Exchange → Type 0
  Onward t told es = AllPlain es → LeadsTo d t es u → Remembers told es → NoneWanting es

  at_first : (told : ℕ → Fate) (rest : List ℕ) (p : ℕ) (y : Reply) (c : List ℕ) (es : List Exchange)
      → ((f : ℕ → Fate) (xs : List ℕ) → IsFresh f xs → Onward (Between xs) f es)
      → ((f : ℕ → Fate) (xs : List ℕ) → IsFresh f xs → Onward (InRound (first_round smudge_alone xs)) f es)
      → IsFresh told rest → Onward (InRound (first_round smudge_alone rest)) told (First p y c ∷ es)
  at_first told rest p y c es between asking is plain leads kept =
      by y leads.0 leads.2 leads.3 kept
    where
      stays : (y : Reply) → fate_there y Untold ≡ Untold → (q : ℕ) → (q == p) ≡ false
          → fate_after q Untold (ev.Answered p y) ≡ Untold
      stays y plain_there q e = ap (λ (b : Bool). cond b (fate_here y) (fate_there y Untold)) e ∙ plain_there

      by : (y : Reply) (mid : Talk) → talk_run d (InRound (first_round smudge_alone rest)) (ev.Answered p y ∷ []) ≡ Some mid
          → LeadsTo d mid es u → Remembers told (First p y c ∷ es) → NoneWanting (First p y c ∷ es)
      by reply.Content mid run more kept =
          let a = asked d (first_round smudge_alone rest) p reply.Content mid run in (
            refl,
            asking (after told (ev.Answered p reply.Content)) a.rest
                (others told p a.rest (ev.Answered p reply.Content) (subst (λ (z : List ℕ). IsFresh told z) a.rest_is is) (stays reply.Content refl))
                plain (subst (λ (t : Talk). LeadsTo d t es u) a.next more) kept,
          )
      by reply.Error mid run more kept =
          let a = asked d (first_round smudge_alone rest) p reply.Error mid run in (
            refl,
            asking (after told (ev.Answered p reply.Error)) a.rest
                (others told p a.rest (ev.Answered p reply.Error) (subst (λ (z : List ℕ). IsFresh told z) a.rest_is is) (stays reply.Error refl))
                plain (subst (λ (t : Talk). LeadsTo d t es u) a.next more) kept,
          )
      by reply.ErrorAfter mid run more kept =
          let a = asked d (first_round smudge_alone rest) p reply.ErrorAfter mid run in (
            refl,
            asking (after told (ev.Answered p reply.ErrorAfter)) a.rest
                (others told p a.rest (ev.Answered p reply.ErrorAfter) (subst (λ (z : List ℕ). IsFresh told z) a.rest_is is) (stays reply.ErrorAfter refl))
                plain (subst (λ (t : Talk). LeadsTo d t es u) a.next more) kept,
          )
      by (reply.Broken why) mid run more kept =
          let a = asked d (first_round smudge_alone rest) p (reply.Broken why) mid run in (
            refl,
            between (after told (ev.Answered p (reply.Broken why))) a.rest
                (others told p a.rest (ev.Answered p (reply.Broken why)) (subst (λ (z : List ℕ). IsFresh told z) a.rest_is is) (stays (reply.Broken why) refl))
                plain (subst (λ (t : Talk). LeadsTo d t es u) a.next more) kept,
          )
      by reply.Abort mid run more kept =
          let a = asked d (first_round smudge_alone rest) p reply.Abort mid run in
          (refl, none_at_end d mid u es a.next more)
      by reply.Delayed mid run more kept =
          absurd (never_waits d rest p mid (one_step d (InRound (first_round smudge_alone rest)) (ev.Answered p reply.Delayed) mid run))
      by reply.NoMemory mid run more kept =
          let a = asked d (first_round smudge_alone rest) p reply.NoMemory mid run in
          absurd (forgets told p a.rest (ev.Answered p reply.NoMemory) es (subst (λ (z : List ℕ). IsFresh told z) a.rest_is is)
          (ap (λ (b : Bool). cond b (Known heard.OutOfMemory) Untold) (eq-eqb p p refl)) kept)

  at_failed : (told : ℕ → Fate) (rest : List ℕ) (p : ℕ) (o : OpenCause) (mid : Talk)
      → talk_run d (Between rest) (ev.OpenFailed p o ∷ []) ≡ Some mid → IsFresh told rest
      → (more : List ℕ) × IsFresh told (p ∷ more) × IsFresh (after told (ev.OpenFailed p o)) more × (mid ≡ Between more)
  at_failed told rest p o mid run is =
      let a = opens_none rest p o mid (one_step d (Between rest) (ev.OpenFailed p o) mid run) in
      let first : IsFresh told (p ∷ a.0) = subst (λ (z : List ℕ). IsFresh told z) a.1 is in
      (a.0, first, others told p a.0 (ev.OpenFailed p o) first (λ q e. ap (λ (b : Bool). cond b (Known (heard_opening o)) Untold) e), a.2)

  at_opened : (told : ℕ → Fate) (rest : List ℕ) (p : ℕ) (caps : Caps) (es : List Exchange)
      → ((f : ℕ → Fate) (xs : List ℕ) → IsFresh f xs → Onward (InRound (first_round smudge_alone xs)) f es)
      → IsFresh told rest → Onward (Between rest) told (Opening p (Good caps) ∷ es)
  at_opened told rest p caps es asking is plain leads kept = (refl, by caps.smudge refl)
    where
      mid_is : leads.0 ≡ opened caps rest
      mid_is = opens_one rest d caps leads.0 (one_step d (Between rest) (ev.Opened d caps) leads.0 leads.2)

      by : (b : Bool) → caps.smudge ≡ b → NoneWanting es
      by false e = none_refusing d leads.0 u es (mid_is ∙ opened_refusing caps rest e) leads.3
      by true e =
          asking (after told (ev.Opened d caps)) rest (record {
            apart = is.apart;
            among = is.among;
            fresh = λ q in_rest. ap (λ (f : Fate). fate_after q f (ev.Opened d caps)) (is.fresh q in_rest)
                ∙ ap (λ (x : Bool). fate_opened x Untold) e;
          }) plain.1 (subst (λ (t : Talk). LeadsTo d t es u) (mid_is ∙ opened_plain caps rest plain.0 e) leads.3) kept

  -- between sessions, and in one

  abbrev pub place : Bool → List ℕ → Talk
  place false rest = Between rest
  place true rest = InRound (first_round smudge_alone rest)

  pub goes : (es : List Exchange) (in_session : Bool) (told : ℕ → Fate) (rest : List ℕ) → IsFresh told rest
      → Onward (place in_session rest) told es
  goes [] b told rest is plain leads kept = tt
  goes (First p y c ∷ es) true told rest is plain leads kept =
      at_first told rest p y c es (goes es false) (goes es true) is plain leads kept
  goes (First p y c ∷ es) false told rest is plain leads kept =
      absurd (not_answered rest p y leads.0 (one_step d (Between rest) (ev.Answered p y) leads.0 leads.2))
  goes (Second p y c ∷ es) true told rest is plain leads kept = absurd (no_second d rest p y leads.0 leads.2)
  goes (Second p y c ∷ es) false told rest is plain leads kept =
      absurd (not_redone rest p y leads.0 (one_step d (Between rest) (ev.Redone p y) leads.0 leads.2))
  goes (Listing late names y ∷ es) true told rest is plain leads kept = absurd (no_list d rest names y leads.0 leads.2)
  goes (Listing late names y ∷ es) false told rest is plain leads kept =
      absurd (not_listing d rest names y leads.0 leads.2)
  goes (Shutting ∷ es) true told rest is plain leads kept =
      (refl, none_at_end d leads.0 u es (shut d (first_round smudge_alone rest) leads.0 leads.2).1 leads.3)
  goes (Shutting ∷ es) false told rest is plain leads kept =
      absurd (not_shut rest d leads.0 (one_step d (Between rest) (ev.Shut d) leads.0 leads.2))
  goes (NoStart p ∷ es) true told rest is plain leads kept =
      absurd (cc (one_step d (InRound (first_round smudge_alone rest)) (ev.OpenFailed p opening.NotStarted) leads.0 leads.2))
  goes (NoStart p ∷ es) false told rest is plain leads kept =
      let a = at_failed told rest p opening.NotStarted leads.0 leads.2 is in (
        refl,
        goes es false (after told (ev.OpenFailed p opening.NotStarted)) a.0 a.2 plain
            (subst (λ (t : Talk). LeadsTo d t es u) a.3 leads.3) kept,
      )
  goes (NoRoom p ∷ es) true told rest is plain leads kept =
      absurd (cc (one_step d (InRound (first_round smudge_alone rest)) (ev.OpenFailed p opening.NoMemory) leads.0 leads.2))
  goes (NoRoom p ∷ es) false told rest is plain leads kept =
      let a = at_failed told rest p opening.NoMemory leads.0 leads.2 is in
      absurd (forgets told p a.0 (ev.OpenFailed p opening.NoMemory) es a.1
      (ap (λ (b : Bool). cond b (Known heard.OutOfMemory) Untold) (eq-eqb p p refl)) kept)
  goes (Opening p (Good caps) ∷ es) true told rest is plain leads kept =
      absurd (cc (one_step d (InRound (first_round smudge_alone rest)) (ev.Opened d caps) leads.0 leads.2))
  goes (Opening p (Good caps) ∷ es) false told rest is plain leads kept =
      at_opened told rest p caps es (goes es true) is plain leads kept
  goes (Opening p (Broke why) ∷ es) true told rest is plain leads kept =
      absurd (cc (one_step d (InRound (first_round smudge_alone rest)) (ev.OpenFailed p (opening.Broken why)) leads.0 leads.2))
  goes (Opening p (Broke why) ∷ es) false told rest is plain leads kept =
      let a = at_failed told rest p (opening.Broken why) leads.0 leads.2 is in (
        refl,
        goes es false (after told (ev.OpenFailed p (opening.Broken why))) a.0 a.2 plain
            (subst (λ (t : Talk). LeadsTo d t es u) a.3 leads.3) kept,
      )
  goes (Opening p OutOfMemory ∷ es) true told rest is plain leads kept =
      absurd (cc (one_step d (InRound (first_round smudge_alone rest)) (ev.OpenFailed p opening.NoMemory) leads.0 leads.2))
  goes (Opening p OutOfMemory ∷ es) false told rest is plain leads kept =
      let a = at_failed told rest p opening.NoMemory leads.0 leads.2 is in
      absurd (forgets told p a.0 (ev.OpenFailed p opening.NoMemory) es a.1
      (ap (λ (b : Bool). cond b (Known heard.OutOfMemory) Untold) (eq-eqb p p refl)) kept)
