-- Where two talks stand that were the same so far, and what they have in common from there on.
use Rattle.std.proofs.Common.{◌≡◌, ◌==◌, ◌⊎◌, inl, inr, ℕ, suc, ◌+◌, Bool, true, false, cond}
use Rattle.std.proofs.Common.{List, [], ◌∷◌, ◌++◌, Option, Some, refl, sym, ap, subst, ◌∙◌, arith}
use Rattle.std.proofs.lemmas.Bool.{eq-eqb}
use Rattle.filter_words.specs.declared.reply.Reply.TheVariants as reply
use Rattle.filter_words.specs.declared.reply.ListReply.{ListReply}
use Rattle.filter_words.specs.declared.reply.ListReply.TheVariants as list
use Rattle.delay_table.specs.Table.{contains}
use Rattle.filter_proto.specs.Exchanges.{OutOfMemory}
use Rattle.checkout_core.specs.declared.event.Event.{Event}
use Rattle.checkout_core.specs.declared.event.Event.TheVariants as ev
use Rattle.checkout_core.specs.declared.event.OpenCause.TheVariants as opening
use Rattle.checkout_core.specs.declared.path.Heard.{Heard}
use Rattle.checkout_core.specs.declared.path.Heard.TheVariants as heard
use Rattle.checkout_core.specs.Fates.{Fate, Untold, Later, Known, fate_of, fate_after}
use Rattle.checkout_core.specs.Talks.{Talk, Between, Refusing, InRound, Ended, talk_run}
use Rattle.driver_line.specs.Conversations.{Exchange, NoStart, NoRoom, Opening, First, Listing, Second, Shutting}
use Rattle.driver_line.specs.Conversations.{notes_of, notes_in, LeadsTo, late_of}
use Rattle.driver_line.specs.Transcripts.{wants}
use Rattle.driver_line.specs.SameHeard.{content_of, is_wanting, NoneWanting}
use Rattle.driver_line.proofs.TalkFates.{count, first_due, second_due, Fits, contains_counts, run_fits}
use Rattle.driver_line.proofs.TalkDue.{Start, Ask, AskAgain, Lists, due_of, due_in, due_at, due_is}
use Rattle.driver_line.proofs.TalkDue.{NotesNone, HasTurns, run_turns}
use Rattle.driver_line.proofs.TalkLists.{none_after, nothing_more, last_list, lists_at}

-- what is told of the paths so far fits the talk, and nothing more is told of a path that isn't asked
pub record Stands (asked : List ℕ) (t : Talk) (fate : ℕ → Fate) : Type 0 where
  pub none : NotesNone t
  pub turns : HasTurns t
  pub fits : (p : ℕ) → Fits t p (fate p)
  pub within : (p : ℕ) → (contains p asked ≡ true) ⊎ ((h : Heard) × (fate p ≡ Known h))

-- memory runs out for no path
abbrev pub Spared : ℕ → (ℕ → Fate) → List Exchange → Type 0
Spared d fate es = (p : ℕ) → fate_of p (fate p) (notes_in d es) ≡ Known heard.OutOfMemory → ⊥

abbrev pub after : ℕ → Exchange → (ℕ → Fate) → ℕ → Fate
after d e fate p = fate_of p (fate p) (notes_of d e)

-- what the two talks have in common
pub record Alike (d : ℕ) (fate : ℕ → Fate) (es fs : List Exchange) : Type 0 where
  pub fates : (p : ℕ) → fate_of p (fate p) (notes_in d es) ≡ fate_of p (fate p) (notes_in d fs)
  pub contents : (p : ℕ) → content_of p es ≡ content_of p fs
  pub same : NoneWanting es → NoneWanting fs → es ≡ fs

pub known_stays : (p : ℕ) (h : Heard) (es : List Event) → fate_of p (Known h) es ≡ Known h
known_stays p h [] = refl
known_stays p h (e ∷ es) = known_stays p h es

fate_more : (p : ℕ) (f : Fate) (xs ys : List Event) → fate_of p f (xs ++ ys) ≡ fate_of p (fate_of p f xs) ys
fate_more p f [] ys = refl
fate_more p f (x ∷ xs) ys = fate_more p (fate_after p f x) xs ys

pub stands_after : (asked : List ℕ) (d : ℕ) (t : Talk) (fate : ℕ → Fate) (e : Exchange) (u : Talk) → talk_run d t (notes_of d e) ≡ Some u → Stands asked t fate → Stands asked u (after d e fate)
stands_after asked d t fate e u run s = record {
  none = none_after d t e u run s.none;
  turns = run_turns d t (notes_of d e) u run s.turns;
  fits = λ p. run_fits d t (notes_of d e) u p (fate p) run (s.fits p);
  within = λ p. elim (s.within p) [
    | inl here ↦ inl here
    | inr k ↦ inr (k.0, ap (λ (f : Fate). fate_of p f (notes_of d e)) k.1 ∙ known_stays p k.0 (notes_of d e))
  ];
}

pub spared_after : (d : ℕ) (fate : ℕ → Fate) (e : Exchange) (es : List Exchange) → Spared d fate (e ∷ es) → Spared d (after d e fate) es
spared_after d fate e es h p k = h p (fate_more p (fate p) (notes_of d e) (notes_in d es) ∙ k)

content_more : (p : ℕ) (e : Exchange) (es fs : List Exchange) → content_of p es ≡ content_of p fs → content_of p (e ∷ es) ≡ content_of p (e ∷ fs)
content_more p (NoStart q) es fs h = h
content_more p (NoRoom q) es fs h = h
content_more p (Opening q end) es fs h = h
content_more p (First q reply.Content c) es fs h = ap (λ (x : Option (List ℕ)). cond (p == q) (Some c) x) h
content_more p (First q reply.Error c) es fs h = h
content_more p (First q reply.ErrorAfter c) es fs h = h
content_more p (First q reply.Delayed c) es fs h = h
content_more p (First q reply.Abort c) es fs h = h
content_more p (First q (reply.Broken why) c) es fs h = h
content_more p (First q reply.NoMemory c) es fs h = h
content_more p (Listing late names r) es fs h = h
content_more p (Second q reply.Content c) es fs h = ap (λ (x : Option (List ℕ)). cond (p == q) (Some c) x) h
content_more p (Second q reply.Error c) es fs h = h
content_more p (Second q reply.ErrorAfter c) es fs h = h
content_more p (Second q reply.Delayed c) es fs h = h
content_more p (Second q reply.Abort c) es fs h = h
content_more p (Second q (reply.Broken why) c) es fs h = h
content_more p (Second q reply.NoMemory c) es fs h = h
content_more p Shutting es fs h = h

pub alike_none : (d : ℕ) (fate : ℕ → Fate) → Alike d fate [] []
alike_none d fate = record { fates = λ p. refl; contents = λ p. refl; same = λ a b. refl }

pub alike_more : (d : ℕ) (fate : ℕ → Fate) (e : Exchange) (es fs : List Exchange) → Alike d (after d e fate) es fs → Alike d fate (e ∷ es) (e ∷ fs)
alike_more d fate e es fs h = record {
  fates = λ p. fate_more p (fate p) (notes_of d e) (notes_in d es) ∙ (h.fates p ∙ sym (fate_more p (fate p) (notes_of d e) (notes_in d fs)));
  contents = λ p. content_more p e es fs (h.contents p);
  same = λ a b. ap (λ (x : List Exchange). e ∷ x) (h.same a.1 b.1);
}

-- what is told of the path that comes next

count_here : (p q : ℕ) (qs : List ℕ) → p ≡ q → (n : ℕ) × (count p (q ∷ qs) ≡ suc n)
count_here p q qs e = (count p qs, let one : ◌≡◌ {A = ℕ} (cond (p == q) 1 0) 1 = ap (λ (b : Bool). cond b 1 0) (eq-eqb p q e) in omega (arith, one))

untold_by : (n : ℕ) (f : Fate) → suc n ≡ first_due f → f ≡ Untold
untold_by n Untold e = refl
untold_by n Later e = absurd (omega (arith, e))
untold_by n (Known h) e = absurd (omega (arith, e))

later_by : (n : ℕ) (f : Fate) → suc n ≡ second_due f → f ≡ Later
later_by n Untold e = absurd (omega (arith, e))
later_by n Later e = refl
later_by n (Known h) e = absurd (omega (arith, e))

start_untold : (t : Talk) (p : ℕ) (f : Fate) → Start p ≡ due_at t → Fits t p f → f ≡ Untold
start_untold (Between []) p f e h = absurd (cc e)
start_untold (Between (q ∷ rest)) p f e h =
    let same : p ≡ q = cc e in
    let k = count_here p q rest same in
    untold_by k.0 f (sym k.1 ∙ h.0)
start_untold Refusing p f e h = absurd (cc e)
start_untold (InRound r) p f e h = absurd (go r.any_delayed r.rest r.turns e)
  where
    go : (any : Bool) (rest turns : List ℕ) → Start p ≡ due_in any rest turns → ⊥
    go any (q ∷ rest) turns i = absurd (cc i)
    go any [] (q ∷ turns) i = absurd (cc i)
    go true [] [] i = absurd (cc i)
    go false [] [] i = absurd (cc i)
start_untold Ended p f e h = absurd (cc e)

pub ask_untold : (t : Talk) (p : ℕ) (f : Fate) → Ask p ≡ due_at t → Fits t p f → f ≡ Untold
ask_untold (Between []) p f e h = absurd (cc e)
ask_untold (Between (q ∷ rest)) p f e h = absurd (cc e)
ask_untold Refusing p f e h = absurd (cc e)
ask_untold (InRound r) p f e h = go r.any_delayed r.rest r.turns e h.0
  where
    go : (any : Bool) (rest turns : List ℕ) → Ask p ≡ due_in any rest turns → count p rest ≡ first_due f → f ≡ Untold
    go any (q ∷ rest) turns i k =
        let same : p ≡ q = cc i in
        let n = count_here p q rest same in
        untold_by n.0 f (sym n.1 ∙ k)
    go any [] (q ∷ turns) i k = absurd (cc i)
    go true [] [] i k = absurd (cc i)
    go false [] [] i k = absurd (cc i)
ask_untold Ended p f e h = absurd (cc e)

pub again_later : (t : Talk) (p : ℕ) (f : Fate) → AskAgain p ≡ due_at t → Fits t p f → f ≡ Later
again_later (Between []) p f e h = absurd (cc e)
again_later (Between (q ∷ rest)) p f e h = absurd (cc e)
again_later Refusing p f e h = absurd (cc e)
again_later (InRound r) p f e h = go r.any_delayed r.rest r.turns e h.1
  where
    go : (any : Bool) (rest turns : List ℕ) → AskAgain p ≡ due_in any rest turns → count p r.late + count p turns ≡ second_due f → f ≡ Later
    go any (q ∷ rest) turns i k = absurd (cc i)
    go any [] (q ∷ turns) i k =
        let same : p ≡ q = cc i in
        let n = count_here p q turns same in
        let m = n.1 in
        later_by (count p r.late + n.0) f (omega (arith, k, m))
    go true [] [] i k = absurd (cc i)
    go false [] [] i k = absurd (cc i)
again_later Ended p f e h = absurd (cc e)

-- a late path is told of later
pub late_later : (t : Talk) (p : ℕ) (f : Fate) → contains p (late_of t) ≡ true → Fits t p f → f ≡ Later
late_later (Between rest) p f e h = absurd (cc e)
late_later Refusing p f e h = absurd (cc e)
late_later (InRound r) p f e h =
    let n = contains_counts p r.late e in
    let m = n.1 in
    let k = h.1 in
    later_by (n.0 + count p r.turns) f (omega (arith, k, m))
late_later Ended p f e h = absurd (cc e)

-- memory runs out

lost_here : (d p : ℕ) (fate : ℕ → Fate) (e : Exchange) (es : List Exchange) → fate_of p (fate p) (notes_of d e) ≡ Known heard.OutOfMemory → Spared d fate (e ∷ es) → ⊥
lost_here d p fate e es lost h =
    h p (fate_more p (fate p) (notes_of d e) (notes_in d es) ∙ (ap (λ (f : Fate). fate_of p f (notes_in d es)) lost ∙ known_stays p heard.OutOfMemory (notes_in d es)))

lost_start : (p : ℕ) (f : Fate) → f ≡ Untold → fate_of p f (ev.OpenFailed p opening.NoMemory ∷ []) ≡ Known heard.OutOfMemory
lost_start p f e = ap (λ (g : Fate). fate_of p g (ev.OpenFailed p opening.NoMemory ∷ [])) e ∙ ap (λ (b : Bool). cond b (Known heard.OutOfMemory) Untold) (eq-eqb p p refl)

-- no start is out of memory
pub no_room : (asked : List ℕ) (d : ℕ) (t : Talk) (fate : ℕ → Fate) (p : ℕ) (es : List Exchange) (u : Talk) → Stands asked t fate → Spared d fate (NoRoom p ∷ es) → LeadsTo d t (NoRoom p ∷ es) u → ⊥
no_room asked d t fate p es u s h l =
    let due = due_is d t (NoRoom p) l.0 l.1 l.2 s.none s.turns in
    lost_here d p fate (NoRoom p) es (lost_start p (fate p) (start_untold t p (fate p) due (s.fits p))) h

pub no_opening : (asked : List ℕ) (d : ℕ) (t : Talk) (fate : ℕ → Fate) (p : ℕ) (es : List Exchange) (u : Talk) → Stands asked t fate → Spared d fate (Opening p OutOfMemory ∷ es)
    → LeadsTo d t (Opening p OutOfMemory ∷ es) u → ⊥
no_opening asked d t fate p es u s h l =
    let due = due_is d t (Opening p OutOfMemory) l.0 l.1 l.2 s.none s.turns in
    lost_here d p fate (Opening p OutOfMemory) es (lost_start p (fate p) (start_untold t p (fate p) due (s.fits p))) h

-- a list is due, and no path is late
pub record IsBare (t : Talk) : Type 0 where
  pub due : due_at t ≡ Lists
  pub late : late_of t ≡ []

list_wanted : (asked : List ℕ) (d : ℕ) (t : Talk) (fate : ℕ → Fate) (late names : List ℕ) (es : List Exchange) (ps : List ℕ) → Stands asked t fate → Spared d fate (Listing late names list.NoMemory ∷ es)
    → Lists ≡ due_at t → late_of t ≡ ps → IsBare t
list_wanted asked d t fate late names es [] s h due e = record { due = sym due; late = e }
list_wanted asked d t fate late names es (p ∷ ps) s h due e =
    let here : contains p (late_of t) ≡ true = subst (λ (xs : List ℕ). contains p xs ≡ true) (sym e) (ap (λ (b : Bool). cond b true (contains p ps)) (eq-eqb p p refl)) in
    let later : fate p ≡ Later = late_later t p (fate p) here (s.fits p) in
    absurd (lost_here d p fate (Listing late names list.NoMemory) es (ap (λ (f : Fate). fate_of p f (ev.Listed d list.NoMemory ∷ [])) later) h)

-- an exchange that wants memory is a list while no path is late
pub wanted : (asked : List ℕ) (d : ℕ) (t : Talk) (fate : ℕ → Fate) (e : Exchange) (es : List Exchange) (u : Talk) → wants e ≡ true → Stands asked t fate → Spared d fate (e ∷ es)
    → LeadsTo d t (e ∷ es) u → IsBare t
wanted asked d t fate (First p reply.NoMemory c) es u w s h l =
    let due = due_is d t (First p reply.NoMemory c) l.0 l.1 l.2 s.none s.turns in
    let untold : fate p ≡ Untold = ask_untold t p (fate p) due (s.fits p) in
    absurd (lost_here d p fate (First p reply.NoMemory c) es
    (ap (λ (f : Fate). fate_of p f (ev.Answered p reply.NoMemory ∷ [])) untold ∙ ap (λ (b : Bool). cond b (Known heard.OutOfMemory) Untold) (eq-eqb p p refl)) h)
wanted asked d t fate (Second p reply.NoMemory c) es u w s h l =
    let due = due_is d t (Second p reply.NoMemory c) l.0 l.1 l.2 s.none s.turns in
    let later : fate p ≡ Later = again_later t p (fate p) due (s.fits p) in
    absurd (lost_here d p fate (Second p reply.NoMemory c) es
    (ap (λ (f : Fate). fate_of p f (ev.Redone p reply.NoMemory ∷ [])) later ∙ ap (λ (b : Bool). cond b (Known heard.OutOfMemory) (Known heard.OutOfMemory)) (eq-eqb p p refl)) h)
wanted asked d t fate (Listing late names list.NoMemory) es u w s h l =
    list_wanted asked d t fate late names es (late_of t) s h (due_is d t (Listing late names list.NoMemory) l.0 l.1 l.2 s.none s.turns) refl
wanted asked d t fate (NoStart p) es u w s h l = absurd (cc w)
wanted asked d t fate (NoRoom p) es u w s h l = absurd (cc w)
wanted asked d t fate (Opening p end) es u w s h l = absurd (cc w)
wanted asked d t fate (First p r c) es u w s h l = absurd (cc w)
wanted asked d t fate (Listing late names r) es u w s h l = absurd (cc w)
wanted asked d t fate (Second p r c) es u w s h l = absurd (cc w)
wanted asked d t fate Shutting es u w s h l = absurd (cc w)

-- such a list is the last exchange of its talk

pub record IsLone (e : Exchange) (es : List Exchange) : Type 0 where
  pub late : List ℕ
  pub names : List ℕ
  pub reply : ListReply
  pub is : e ≡ Listing late names reply
  pub last : es ≡ []

lone : (asked : List ℕ) (d : ℕ) (t : Talk) (fate : ℕ → Fate) (e : Exchange) (es : List Exchange) (u : Talk) → Stands asked t fate → IsBare t → LeadsTo d t (e ∷ es) u → IsLone e es
lone asked d t fate e es u s b l = go e l (due_is d t e l.0 l.1 l.2 s.none s.turns ∙ b.due)
  where
    go : (e : Exchange) → LeadsTo d t (e ∷ es) u → due_of e ≡ Lists → IsLone e es
    go (Listing late names r) l due = record {
      late = late;
      names = names;
      reply = r;
      is = refl;
      last = nothing_more d l.0 es u (last_list d t late names r l.0 s.none b.due b.late l.2) l.3;
    }
    go (NoStart p) l due = absurd (cc due)
    go (NoRoom p) l due = absurd (cc due)
    go (Opening p end) l due = absurd (cc due)
    go (First p r c) l due = absurd (cc due)
    go (Second p r c) l due = absurd (cc due)
    go Shutting l due = absurd (cc due)

-- and everything is told before
known_by : (f : Fate) → first_due f ≡ 0 → second_due f ≡ 0 → (h : Heard) × (f ≡ Known h)
known_by Untold e i = absurd (omega (arith, e))
known_by Later e i = absurd (omega (arith, i))
known_by (Known h) e i = (h, refl)

bare_known : (asked : List ℕ) (t : Talk) (fate : ℕ → Fate) → Stands asked t fate → IsBare t → (p : ℕ) → (h : Heard) × (fate p ≡ Known h)
bare_known asked t fate s b p =
    let k = lists_at t b.due in
    let fit : Fits (InRound k.round) p (fate p) = subst (λ (z : Talk). Fits z p (fate p)) k.here (s.fits p) in
    let none : k.round.late ≡ [] = subst (λ (z : Talk). late_of z ≡ []) k.here b.late in
    let early : count p k.round.rest ≡ 0 = ap (count p) k.rest in
    let late : count p k.round.late ≡ 0 = ap (count p) none in
    let turns : count p k.round.turns ≡ 0 = ap (count p) k.turns in
    let one = fit.0 in
    let two = fit.1 in
    known_by (fate p) (omega (arith, one, early)) (omega (arith, two, late, turns))

list_wants : (late names : List ℕ) (r : ListReply) → is_wanting (Listing late names r) ≡ wants (Listing late names r)
list_wants late names (list.Names n) = refl
list_wants late names list.Empty = refl
list_wants late names list.Abort = refl
list_wants late names (list.Broken why) = refl
list_wants late names list.NoMemory = refl

two_lists : (d : ℕ) (fate : ℕ → Fate) (a b x y : List ℕ) (r q : ListReply) → ((p : ℕ) → (h : Heard) × (fate p ≡ Known h)) → (wants (Listing a b r) ≡ true) ⊎ (wants (Listing x y q) ≡ true)
    → Alike d fate (Listing a b r ∷ []) (Listing x y q ∷ [])
two_lists d fate a b x y r q known w = record {
  fates = λ p.
      let k = known p in
      ap (λ (f : Fate). fate_of p f (notes_in d (Listing a b r ∷ []))) k.1 ∙ (known_stays p k.0 (notes_in d (Listing a b r ∷ []))
      ∙ (sym (known_stays p k.0 (notes_in d (Listing x y q ∷ []))) ∙ sym (ap (λ (f : Fate). fate_of p f (notes_in d (Listing x y q ∷ []))) k.1)));
  contents = λ p. refl;
  same = λ m n. elim w [
    | inl v ↦ (let one = m.0 in let two = list_wants a b r in absurd (cc (sym one ∙ (two ∙ v))))
    | inr v ↦ (let one = n.0 in let two = list_wants x y q in absurd (cc (sym one ∙ (two ∙ v))))
  ];
}

one_only : (e f : Exchange) (es : List Exchange) → e ≡ f → es ≡ [] → e ∷ es ≡ f ∷ []
one_only e f es p q = cc

pub to_alike : (d : ℕ) (fate : ℕ → Fate) (es fs xs ys : List Exchange) → es ≡ xs → fs ≡ ys → Alike d fate xs ys → Alike d fate es fs
to_alike d fate es fs xs ys p q h = subst (λ (z : List Exchange). Alike d fate z fs) (sym p) (subst (λ (z : List Exchange). Alike d fate xs z) (sym q) h)

pub bare_ends : (asked : List ℕ) (d : ℕ) (t : Talk) (fate : ℕ → Fate) (e f : Exchange) (es fs : List Exchange) (u v : Talk) → Stands asked t fate → IsBare t
    → LeadsTo d t (e ∷ es) u → LeadsTo d t (f ∷ fs) v → (wants e ≡ true) ⊎ (wants f ≡ true) → Alike d fate (e ∷ es) (f ∷ fs)
bare_ends asked d t fate e f es fs u v s b l m w =
    let x = lone asked d t fate e es u s b l in
    let y = lone asked d t fate f fs v s b m in
    let w2 : (wants (Listing x.late x.names x.reply) ≡ true) ⊎ (wants (Listing y.late y.names y.reply) ≡ true) = elim w [
      | inl k ↦ inl (subst (λ (z : Exchange). wants z ≡ true) x.is k)
      | inr k ↦ inr (subst (λ (z : Exchange). wants z ≡ true) y.is k)
    ] in
    let k = two_lists d fate x.late x.names y.late y.names x.reply y.reply (bare_known asked t fate s b) w2 in
    to_alike d fate (e ∷ es) (f ∷ fs) (Listing x.late x.names x.reply ∷ []) (Listing y.late y.names y.reply ∷ []) (one_only e (Listing x.late x.names x.reply) es x.is x.last)
    (one_only f (Listing y.late y.names y.reply) fs y.is y.last) k

-- what is left of a talk, in which memory runs out for no path
abbrev pub Runs : ℕ → Talk → (ℕ → Fate) → List Exchange → Talk → Type 0
Runs d t fate es u = LeadsTo d t es u × Spared d fate es

-- both go on with the same exchange
pub both_more : (asked : List ℕ) (d : ℕ) (t : Talk) (fate : ℕ → Fate) (e f : Exchange) (es fs : List Exchange) (u v : Talk) → e ≡ f → Stands asked t fate → Runs d t fate (e ∷ es) u → Runs d t fate (f ∷ fs) v
    → ((mid : Talk) → talk_run d t (notes_of d e) ≡ Some mid → Stands asked mid (after d e fate) → Runs d mid (after d e fate) es u → Runs d mid (after d e fate) fs v → Alike d (after d e fate) es fs)
    → Alike d fate (e ∷ es) (f ∷ fs)
both_more asked d t fate e f es fs u v same s g h left =
    let l = g.0 in
    let k = h.0 in
    let first = l.2 in
    let run : talk_run d t (notes_of d e) ≡ Some k.0 = subst (λ (x : Exchange). talk_run d t (notes_of d x) ≡ Some k.0) (sym same) k.2 in
    let mid : k.0 ≡ l.0 = cc (sym run ∙ first) in
    let goes : LeadsTo d l.0 fs v = subst (λ (z : Talk). LeadsTo d z fs v) mid k.3 in
    let spared : Spared d (after d e fate) fs = subst (λ (x : Exchange). Spared d (after d x fate) fs) (sym same) (spared_after d fate f fs h.1) in
    let more = left l.0 first (stands_after asked d t fate e l.0 first s) (l.3, spared_after d fate e es g.1) (goes, spared) in
    subst (λ (x : Exchange). Alike d fate (e ∷ es) (x ∷ fs)) same (alike_more d fate e es fs more)
