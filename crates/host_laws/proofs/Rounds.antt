-- Where a talk stands after an exchange of a session.
use Rattle.std.proofs.Common.{◌≡◌, ◌==◌, ◌&&◌, ◌||◌, ℕ, ◌+◌, ◌≤◌, Bool, true, false, not, cond}
use Rattle.std.proofs.Common.{List, [], ◌∷◌, ◌++◌, length, map, Option, Some, None, refl, sym, ap, subst, ◌∙◌, arith}
use Rattle.std.proofs.Common.{append_assoc, append-nil}
use Rattle.std.proofs.lemmas.Bool.{and_parts, eqb-true}
use Rattle.filter_words.specs.declared.reply.Reply.{Reply}
use Rattle.filter_words.specs.declared.reply.ListReply.{ListReply}
use Rattle.filter_words.specs.declared.reply.ListReply.TheVariants as list
use Rattle.delay_table.specs.Table.{contains, without}
use Rattle.filter_proto.specs.Exchanges.{Good, Broke, OutOfMemory}
use Rattle.checkout_core.specs.declared.event.Event.{Event}
use Rattle.checkout_core.specs.declared.event.Event.TheVariants as ev
use Rattle.checkout_core.specs.declared.event.OpenCause.TheVariants as opening
use Rattle.checkout_core.specs.Conditions.{is_delay, is_good_reply}
use Rattle.checkout_core.specs.Talks.{Talk, InRound, Ended, Round, is_empty}
use Rattle.checkout_core.specs.Talks.{answered, ask, name, list_end, list_may, redone, ask_again}
use Rattle.checkout_core.specs.Talks.{talk_next, is_with, talk_step, talk_run}
use Rattle.driver_line.specs.Conversations.{Exchange, NoStart, NoRoom, Opening, First, Listing, Second, Shutting}
use Rattle.driver_line.specs.Conversations.{notes_of, LeadsTo}
use Rattle.host_laws.specs.HostTalks.{times_in}
use Rattle.host_laws.proofs.Counts.{count_both, count_without}

pub talk_is : (b : Bool) (t u : Talk) → cond b (Some t) None ≡ Some u → (b ≡ true) × (t ≡ u)
talk_is true t u e = (refl, cc)
talk_is false t u e = absurd (cc e)

pub record StepsTo (d : ℕ) (t : Talk) (e : Event) (es : List Event) (u : Talk) : Type 0 where
  pub mid : Talk
  pub step : talk_next t e ≡ Some mid
  pub run : talk_run d mid es ≡ Some u

pub run_cons : (d : ℕ) (t : Talk) (e : Event) (es : List Event) (u : Talk) → talk_run d t (e ∷ es) ≡ Some u
    → StepsTo d t e es u
run_cons d t e es u h = go (talk_step d t e) refl h
  where
    plain : (b : Bool) (m : Talk) → cond b (talk_next t e) None ≡ Some m → talk_next t e ≡ Some m
    plain true m i = i
    plain false m i = absurd (cc i)

    go : (o : Option Talk) → talk_step d t e ≡ o → elim o [ None ↦ None | Some m ↦ talk_run d m es ] ≡ Some u
        → StepsTo d t e es u
    go None same i = absurd (cc i)
    go (Some m) same i = record { mid = m; step = plain (is_with d e) m same; run = i }

pub one_step : (d : ℕ) (t : Talk) (e : Event) (u : Talk) → talk_run d t (e ∷ []) ≡ Some u → talk_next t e ≡ Some u
one_step d t e u h = let s = run_cons d t e [] u h in s.step ∙ s.run

pub empty_is : (ps : List ℕ) → is_empty ps ≡ true → ps ≡ []
empty_is [] h = refl
empty_is (p ∷ ps) h = absurd (cc h)

pub record IsAsked (r : Round) (p : ℕ) (y : Reply) (u : Talk) : Type 0 where
  pub rest : List ℕ
  pub rest_is : r.rest ≡ p ∷ rest
  pub next : u ≡ answered r p rest y

pub ask_is : (r : Round) (ps : List ℕ) (p : ℕ) (y : Reply) (u : Talk) → ask r ps p y ≡ Some u
    → (rest : List ℕ) × (ps ≡ p ∷ rest) × (u ≡ answered r p rest y)
ask_is r [] p y u h = absurd (cc h)
ask_is r (q ∷ rest) p y u h =
    let a = talk_is (p == q && (is_good_reply y && not (is_delay y && not r.delay))) (answered r q rest y) u h in
    let b = and_parts (p == q) (is_good_reply y && not (is_delay y && not r.delay)) a.0 in
    let same : p ≡ q = eqb-true p q b.0 in (
      rest,
      ap (λ (z : ℕ). z ∷ rest) (sym same),
      sym a.1 ∙ ap (λ (z : ℕ). answered r z rest y) (sym same),
    )

pub asked : (d : ℕ) (r : Round) (p : ℕ) (y : Reply) (u : Talk)
    → talk_run d (InRound r) (ev.Answered p y ∷ []) ≡ Some u → IsAsked r p y u
asked d r p y u h =
    let a = ask_is r r.rest p y u (one_step d (InRound r) (ev.Answered p y) u h) in
    record { rest = a.0; rest_is = a.1; next = a.2 }

pub record IsAskedAgain (r : Round) (p : ℕ) (y : Reply) (u : Talk) : Type 0 where
  pub turns : List ℕ
  pub turns_is : r.turns ≡ p ∷ turns
  pub next : u ≡ redone r turns y

pub again_is : (r : Round) (ps : List ℕ) (p : ℕ) (y : Reply) (u : Talk) → ask_again r ps p y ≡ Some u
    → (turns : List ℕ) × (ps ≡ p ∷ turns) × (u ≡ redone r turns y)
again_is r [] p y u h = absurd (cc h)
again_is r (q ∷ turns) p y u h =
    let a = talk_is (not r.noting_list && (p == q && (not (is_delay y) && is_good_reply y))) (redone r turns y) u h in
    let b = and_parts (not r.noting_list) (p == q && (not (is_delay y) && is_good_reply y)) a.0 in
    let w = and_parts (p == q) (not (is_delay y) && is_good_reply y) b.1 in
    (turns, ap (λ (z : ℕ). z ∷ turns) (sym (eqb-true p q w.0)), sym a.1)

pub again : (d : ℕ) (r : Round) (p : ℕ) (y : Reply) (u : Talk)
    → talk_run d (InRound r) (ev.Redone p y ∷ []) ≡ Some u → IsAskedAgain r p y u
again d r p y u h =
    let a = again_is r r.turns p y u (one_step d (InRound r) (ev.Redone p y) u h) in
    record { turns = a.0; turns_is = a.1; next = a.2 }

-- what is so before a list
pub record IsAtList (r : Round) : Type 0 where
  pub any : r.any_delayed ≡ true
  pub rest : r.rest ≡ []
  pub turns : r.turns ≡ []

pub at_list : (r : Round) → (r.any_delayed && (not r.noting_list && (is_empty r.rest && is_empty r.turns))) ≡ true
    → IsAtList r
at_list r e =
    let a = and_parts r.any_delayed (not r.noting_list && (is_empty r.rest && is_empty r.turns)) e in
    let b = and_parts (not r.noting_list) (is_empty r.rest && is_empty r.turns) a.1 in
    let w = and_parts (is_empty r.rest) (is_empty r.turns) b.1 in
    record { any = a.0; rest = empty_is r.rest w.0; turns = empty_is r.turns w.1 }

pub empty_list : (d : ℕ) (r : Round) (u : Talk) → talk_run d (InRound r) (ev.Listed d list.Empty ∷ []) ≡ Some u
    → IsAtList r × (u ≡ Ended)
empty_list d r u h =
    let a = talk_is (list_may r list.Empty) Ended u (one_step d (InRound r) (ev.Listed d list.Empty) u h) in
    (at_list r a.0, sym a.1)

abbrev pub named_round : Round → ℕ → Round
named_round r q = record {
  delay = r.delay;
  any_delayed = r.any_delayed;
  noting_list = true;
  rest = r.rest;
  late = without q r.late;
  turns = r.turns ++ (q ∷ []);
}

abbrev pub listed_round : Round → List ℕ → List ℕ → Round
listed_round r late turns = record {
  delay = r.delay;
  any_delayed = r.any_delayed;
  noting_list = false;
  rest = r.rest;
  late = late;
  turns = turns;
}

pub record AreNamed (r : Round) (names : List ℕ) (u : Talk) : Type 0 where
  pub late : List ℕ
  pub next : u ≡ InRound (listed_round r late (r.turns ++ names))
  pub counts : ((p : ℕ) → times_in p r.late ≤ 1) → (p : ℕ)
      → times_in p late + times_in p names ≡ times_in p r.late

pub record MayName (r : Round) (q : ℕ) : Type 0 where
  pub any : r.any_delayed ≡ true
  pub rest : r.rest ≡ []
  pub late : contains q r.late ≡ true
  pub turns : (r.noting_list || is_empty r.turns) ≡ true

pub name_is : (r : Round) (q : ℕ) (u : Talk) → name r q ≡ Some u
    → MayName r q × (u ≡ InRound (named_round r q))
name_is r q u h =
    let a = talk_is (r.any_delayed && (is_empty r.rest && (contains q r.late && (r.noting_list || is_empty r.turns))))
    (InRound (named_round r q)) u h in
    let b = and_parts r.any_delayed (is_empty r.rest && (contains q r.late && (r.noting_list || is_empty r.turns))) a.0 in
    let w = and_parts (is_empty r.rest) (contains q r.late && (r.noting_list || is_empty r.turns)) b.1 in
    let x = and_parts (contains q r.late) (r.noting_list || is_empty r.turns) w.1 in
    (record { any = b.0; rest = empty_is r.rest w.0; late = x.0; turns = x.1 }, sym a.1)

names_run : (d n : ℕ) (r : Round) (names : List ℕ) (u : Talk)
    → talk_run d (InRound r) (map ev.Named names ++ ev.Listed d (list.Names n) ∷ []) ≡ Some u → AreNamed r names u
names_run d n r [] u h =
    let a = talk_is (list_may r (list.Names n)) (list_end r (list.Names n)) u
    (one_step d (InRound r) (ev.Listed d (list.Names n)) u h) in
    record {
      late = r.late;
      next = sym a.1 ∙ ap (λ (z : List ℕ). InRound (listed_round r r.late z)) (sym (append-nil r.turns));
      counts = λ once p. omega arith;
    }
names_run d n r (q ∷ names) u h =
    let s = run_cons d (InRound r) (ev.Named q) (map ev.Named names ++ ev.Listed d (list.Names n) ∷ []) u h in
    let a = name_is r q s.mid s.step in
    let k = names_run d n (named_round r q) names u
    (subst (λ (t : Talk). talk_run d t (map ev.Named names ++ ev.Listed d (list.Names n) ∷ []) ≡ Some u) a.1 s.run) in
    record {
      late = k.late;
      next = k.next ∙ ap (λ (z : List ℕ). InRound (listed_round r k.late z)) (append_assoc r.turns (q ∷ []) names);
      counts = λ once p.
          let gone = λ (x : ℕ). count_without x q r.late (once q) a.0.late in
          let less : (x : ℕ) → times_in x (without q r.late) ≤ 1 =
          λ x. (let e = gone x in let f = once x in omega (arith, e, f)) in
          let more = k.counts less p in
          let here = gone p in
          let both = count_both p (q ∷ []) names in
          omega (arith, more, here, both);
    }

pub listed : (d n : ℕ) (r : Round) (names : List ℕ) (u : Talk) → r.noting_list ≡ false
    → talk_run d (InRound r) (map ev.Named names ++ ev.Listed d (list.Names n) ∷ []) ≡ Some u
    → IsAtList r × AreNamed r names u
listed d n r [] u quiet h =
    let a = talk_is (list_may r (list.Names n)) (list_end r (list.Names n)) u
    (one_step d (InRound r) (ev.Listed d (list.Names n)) u h) in
    let b = and_parts r.noting_list (n == length r.turns) a.0 in
    let no : true ≡ false = sym b.0 ∙ quiet in absurd cc
listed d n r (q ∷ names) u quiet h =
    let s = run_cons d (InRound r) (ev.Named q) (map ev.Named names ++ ev.Listed d (list.Names n) ∷ []) u h in
    let a = name_is r q s.mid s.step in (
      record {
        any = a.0.any;
        rest = a.0.rest;
        turns = empty_is r.turns (ap (λ (b : Bool). b || is_empty r.turns) (sym quiet) ∙ a.0.turns);
      },
      names_run d n r (q ∷ names) u h,
    )

pub shut : (d : ℕ) (r : Round) (u : Talk) → talk_run d (InRound r) (ev.Shut d ∷ []) ≡ Some u
    → (r.any_delayed ≡ false) × (u ≡ Ended)
shut d r u h =
    let a = talk_is (not r.any_delayed && is_empty r.rest) Ended u (one_step d (InRound r) (ev.Shut d) u h) in
    let b = and_parts (not r.any_delayed) (is_empty r.rest) a.0 in
    (turned r.any_delayed b.0, sym a.1)
  where
    turned : (b : Bool) → not b ≡ true → b ≡ false
    turned true e = absurd cc
    turned false e = refl

-- nothing comes after the end

no_run : (d : ℕ) (e : Event) (es : List Event) (u : Talk) → talk_run d Ended (e ∷ es) ≡ Some u → ⊥
no_run d e es u h = let s = run_cons d Ended e es u h in let no : None ≡ Some s.mid = s.step in cc

no_names : (d n : ℕ) (names : List ℕ) (u : Talk)
    → talk_run d Ended (map ev.Named names ++ ev.Listed d (list.Names n) ∷ []) ≡ Some u → ⊥
no_names d n [] u h = no_run d (ev.Listed d (list.Names n)) [] u h
no_names d n (q ∷ names) u h = no_run d (ev.Named q) (map ev.Named names ++ ev.Listed d (list.Names n) ∷ []) u h

no_notes : (d : ℕ) (e : Exchange) (u : Talk) → talk_run d Ended (notes_of d e) ≡ Some u → ⊥
no_notes d (NoStart p) u h = no_run d (ev.OpenFailed p opening.NotStarted) [] u h
no_notes d (NoRoom p) u h = no_run d (ev.OpenFailed p opening.NoMemory) [] u h
no_notes d (Opening p (Good caps)) u h = no_run d (ev.Opened d caps) [] u h
no_notes d (Opening p (Broke why)) u h = no_run d (ev.OpenFailed p (opening.Broken why)) [] u h
no_notes d (Opening p OutOfMemory) u h = no_run d (ev.OpenFailed p opening.NoMemory) [] u h
no_notes d (First p r content) u h = no_run d (ev.Answered p r) [] u h
no_notes d (Listing late names (list.Names n)) u h = no_names d n names u h
no_notes d (Listing late names list.Empty) u h = no_run d (ev.Listed d list.Empty) [] u h
no_notes d (Listing late names list.Abort) u h = no_run d (ev.Listed d list.Abort) [] u h
no_notes d (Listing late names (list.Broken why)) u h = no_run d (ev.Listed d (list.Broken why)) [] u h
no_notes d (Listing late names list.NoMemory) u h = no_run d (ev.Listed d list.NoMemory) [] u h
no_notes d (Second p r content) u h = no_run d (ev.Redone p r) [] u h
no_notes d Shutting u h = no_run d (ev.Shut d) [] u h

pub nothing_more : (d : ℕ) (es : List Exchange) (t u : Talk) → t ≡ Ended → LeadsTo d t es u → es ≡ []
nothing_more d [] t u e h = refl
nothing_more d (x ∷ es) t u e h =
    absurd (no_notes d x h.0 (subst (λ (z : Talk). talk_run d z (notes_of d x) ≡ Some h.0) e h.2))

-- a list that names nothing and isn't empty
pub any_list : (d : ℕ) (r : Round) (y : ListReply) (u : Talk)
    → list_may r y ≡ (r.any_delayed && (not r.noting_list && (is_empty r.rest && is_empty r.turns)))
    → talk_run d (InRound r) (ev.Listed d y ∷ []) ≡ Some u → IsAtList r
any_list d r y u may h =
    let a = talk_is (list_may r y) (list_end r y) u (one_step d (InRound r) (ev.Listed d y) u h) in
    at_list r (sym may ∙ a.0)
