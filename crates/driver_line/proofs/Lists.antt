-- A list, by the paths of the places that it names.
use Rattle.std.proofs.Common.{◌≡◌, ◌==◌, ◌⊎◌, inl, inr, ℕ, zero, suc, ◌-◌, Bool, true, false, cond, List, [], ◌∷◌, ◌++◌, length, map, Option, Some, None, refl, sym, ap, subst, ◌∙◌, append_assoc, arith}
use Rattle.std.specs.Prelude.{slice_get, slice_set}
use Rattle.std.proofs.lemmas.Bool.{eqb-true, eq-eqb, lt-ltb, le-ltb, cases_lt}
use Rattle.std.proofs.lemmas.List.{append-nil}
use Rattle.pkt_line.specs.Packets.{Packet, Payload, Flush, size}
use Rattle.std.specs.Prelude.{◌||◌, codes}
use Rattle.std.specs.Str.{bytes_eq}
use Rattle.filter_words.specs.Requests.{list_text}
use Rattle.filter_words.specs.Listing.{ListPhase, Names, KeyList, GoodList, Listed, Aborted, list_step, list_start, after_value, name_in}
use Rattle.filter_words.specs.Words.{value_of}
use Rattle.filter_words.specs.Outcomes.{outcome, limit}
use Rattle.filter_words.specs.declared.reply.BreakCause.{BreakCause}
use Rattle.filter_words.specs.declared.reply.BreakCause.TheVariants as cause
use Rattle.filter_words.specs.declared.answer_state.AnswerState.TheVariants.{On, Done, Broken, Late}
use Rattle.filter_words.specs.ListGrammar.{names_of}
use Rattle.filter_words.specs.declared.reply.ListReply.{ListReply}
use Rattle.filter_words.specs.declared.reply.ListReply.TheVariants as list
use Rattle.filter_words.specs.declared.answer_state.AnswerState.{AnswerState}
use Rattle.edge_kit.specs.Starters.{StarterSeen}
use Rattle.delay_table.specs.Table.{Table, is_pending, contains}
use Rattle.delay_table.specs.declared.place.Place.{Place}
use Rattle.delay_table.specs.declared.place.Place.TheVariants as place
use Rattle.filter_proto.specs.Wires.{Wire, SessionSeen}
use Rattle.filter_proto.specs.Exchanges.{Ends, Good, Broke, OutOfMemory, Stops, IsExchange}
use Rattle.filter_proto.specs.Lists.{Lists, HasListed, BreaksLists, EndLists, IsListExchange, delayed_of, delayed_in, listed_at, list_reply_of, standing_after_list}
use Rattle.filter_proto.specs.declared.session.Standing.{Standing}
use Rattle.filter_proto.specs.declared.session.Standing.TheVariants as standing
use Rattle.driver_line.specs.Conversations.{Listing}
use Rattle.driver_line.specs.Lines.{LineView, Paths, Says, After, IsEnded, ListIs, list_standing, late_in, number_at, names_in, AreDelayed, IsListedTable, AreKnown, NamesAre}

-- the delayed names are the texts of the late paths

delayed_texts : (text : ℕ → List ℕ) (numbers : List ℕ) (places : List Place) → delayed_of (map text numbers) places ≡ map text (late_in numbers places)
delayed_texts text [] places = refl
delayed_texts text (n ∷ ns) [] = refl
delayed_texts text (n ∷ ns) (place.Delayed ∷ ps) = ap (λ (x : List (List ℕ)). text n ∷ x) (delayed_texts text ns ps)
delayed_texts text (n ∷ ns) (place.Idle ∷ ps) = delayed_texts text ns ps
delayed_texts text (n ∷ ns) (place.Listed ∷ ps) = delayed_texts text ns ps
delayed_texts text (n ∷ ns) (place.Done ∷ ps) = delayed_texts text ns ps

-- the name of a place is the text of its path

text_at : (text : ℕ → List ℕ) (numbers : List ℕ) (p : ℕ) (name : List ℕ) → slice_get (map text numbers) p ≡ Some name → text (number_at numbers p) ≡ name
text_at text [] p name e = absurd (cc)
text_at text (n ∷ ns) zero name e = cc
text_at text (n ∷ ns) (suc p) name e = text_at text ns p name e

-- the places that were listed are those of the names

pub record HasTurns (ns : List (List ℕ)) (old new : Table) : Type 0 where
  pub turns : List ℕ
  pub grown : new.turns ≡ old.turns ++ turns
  pub texts : (text : ℕ → List ℕ) (numbers : List ℕ) → old.names ≡ map text numbers → map text (map (number_at numbers) turns) ≡ ns
  pub many : length turns ≡ length ns
  pub delayed : (p : ℕ) → contains p turns ≡ true → slice_get old.places p ≡ Some place.Delayed
  pub known : (paths numbers : List ℕ) → AreDelayed paths numbers old → AreKnown paths (map (number_at numbers) turns)
  pub table : IsListedTable old new

get_here : (ps : List Place) (p : ℕ) (x y : Place) → slice_get ps p ≡ Some y → slice_get (slice_set ps p x) p ≡ Some x
get_here [] p x y e = absurd (cc)
get_here (q ∷ qs) zero x y e = refl
get_here (q ∷ qs) (suc p) x y e = get_here qs p x y e

get_there : (ps : List Place) (p q : ℕ) (x : Place) → (q ≡ p → ⊥) → slice_get (slice_set ps p x) q ≡ slice_get ps q
get_there [] p q x apart = refl
get_there (y ∷ ys) zero zero x apart = absurd (apart refl)
get_there (y ∷ ys) zero (suc q) x apart = refl
get_there (y ∷ ys) (suc p) zero x apart = refl
get_there (y ∷ ys) (suc p) (suc q) x apart = get_there ys p q x (λ e. apart (ap (λ (n : ℕ). suc n) e))

set_length : (ps : List Place) (p : ℕ) (x : Place) → length (slice_set ps p x) ≡ length ps
set_length [] p x = refl
set_length (y ∷ ys) zero x = refl
set_length (y ∷ ys) (suc p) x = ap (λ (n : ℕ). suc n) (set_length ys p x)

bool_or : (b : Bool) → (b ≡ true) ⊎ (b ≡ false)
bool_or true = inl refl
bool_or false = inr refl

same_or : (p q : ℕ) → (q ≡ p) ⊎ (q ≡ p → ⊥)
same_or p q = elim (bool_or (q == p)) [
  | inl e ↦ inl (eqb-true q p e)
  | inr e ↦ inr (λ same. cc (sym (eq-eqb q p same) ∙ e))
]

listed_pending : (old : Table) (p : ℕ) → slice_get old.places p ≡ Some place.Delayed → (q : ℕ) → is_pending (slice_get (listed_at p old).places q) ≡ is_pending (slice_get old.places q)
listed_pending old p at q = elim (same_or p q) [
  | inl e ↦ ap (λ (n : ℕ). is_pending (slice_get (slice_set old.places p place.Listed) n)) e ∙ (ap is_pending (get_here old.places p place.Listed place.Delayed at) ∙ sym (ap (λ (n : ℕ). is_pending (slice_get old.places n)) e ∙ ap is_pending at))
  | inr n ↦ ap is_pending (get_there old.places p q place.Listed n)
]

-- a place that is delayed after another was listed was so before, and is another
still_delayed : (old : Table) (p q : ℕ) → slice_get old.places p ≡ Some place.Delayed → slice_get (listed_at p old).places q ≡ Some place.Delayed → (slice_get old.places q ≡ Some place.Delayed) × (q ≡ p → ⊥)
still_delayed old p q at e = elim (same_or p q) [
  | inl same ↦ absurd (let k : Some place.Listed ≡ Some place.Delayed = sym (get_here old.places p place.Listed place.Delayed at) ∙ (ap (λ (n : ℕ). slice_get (slice_set old.places p place.Listed) n) (sym same) ∙ e) in cc (k))
  | inr other ↦ (sym (get_there old.places p q place.Listed other) ∙ e, other)
]

less_delayed : (paths numbers : List ℕ) (old : Table) (p : ℕ) → slice_get old.places p ≡ Some place.Delayed → AreDelayed paths numbers old → AreDelayed paths numbers (listed_at p old)
less_delayed paths numbers old p at a = record {
  known = λ q e. a.known q (still_delayed old p q at e).0;
  apart = λ q r e f same. a.apart q r (still_delayed old p q at e).0 (still_delayed old p r at f).0 same;
}

-- a number that stands among those of places is one place's
number_among : (numbers : List ℕ) (n : ℕ) (turns : List ℕ) → contains n (map (number_at numbers) turns) ≡ true → (q : ℕ) × (contains q turns ≡ true) × (n ≡ number_at numbers q)
number_among numbers n [] e = absurd (cc e)
number_among numbers n (q ∷ qs) e = elim (bool_or (n == number_at numbers q)) [
  | inl same ↦ (q, ap (λ (b : Bool). cond b true (contains q qs)) (eq-eqb q q refl), eqb-true n (number_at numbers q) same)
  | inr other ↦ more (number_among numbers n qs (sym (ap (λ (b : Bool). cond b true (contains n (map (number_at numbers) qs))) other) ∙ e))
]
  where
    more : (q0 : ℕ) × (contains q0 qs ≡ true) × (n ≡ number_at numbers q0) → (q1 : ℕ) × (contains q1 (q ∷ qs) ≡ true) × (n ≡ number_at numbers q1)
    more h = (
      h.0,
      elim (bool_or (h.0 == q)) [
        | inl same ↦ ap (λ (b : Bool). cond b true (contains h.0 qs)) same
        | inr other ↦ ap (λ (b : Bool). cond b true (contains h.0 qs)) other ∙ h.1
      ],
      h.2,
    )

pub turns_of : (ns : List (List ℕ)) (old new : Table) → Lists ns old new → HasTurns ns old new
turns_of [] old new h = record {
  turns = [];
  grown = ap (λ (t : Table). t.turns) h ∙ sym (append-nil old.turns);
  texts = λ text numbers e. refl;
  many = refl;
  delayed = λ p e. absurd (cc e);
  known = λ paths numbers a. tt;
  table = record { names = ap (λ (t : Table). t.names) h; size = ap (λ (t : Table). length t.places) h; pending = λ p. ap (λ (t : Table). is_pending (slice_get t.places p)) h };
}
turns_of (name ∷ ns) old new h =
    let at = h.1.1 in
    let more = turns_of ns (listed_at h.0 old) new h.2 in
    record {
      turns = h.0 ∷ more.turns;
      grown = more.grown ∙ append_assoc old.turns (h.0 ∷ []) more.turns;
      texts = λ text numbers e. two (text_at text numbers h.0 name (sym (ap (λ (x : List (List ℕ)). slice_get x h.0) e) ∙ h.1.0)) (more.texts text numbers e);
      many = ap (λ (n : ℕ). suc n) more.many;
      delayed = λ p e. elim (bool_or (p == h.0)) [
        | inl same ↦ ap (λ (n : ℕ). slice_get old.places n) (eqb-true p h.0 same) ∙ at
        | inr other ↦ (still_delayed old h.0 p at (more.delayed p (sym (ap (λ (b : Bool). cond b true (contains p more.turns)) other) ∙ e))).0
      ];
      known = λ paths numbers a. (a.known h.0 at, absent paths numbers at more a, more.known paths numbers (less_delayed paths numbers old h.0 at a));
      table = record {
        names = more.table.names;
        size = more.table.size ∙ set_length old.places h.0 place.Listed;
        pending = λ p. more.table.pending p ∙ listed_pending old h.0 at p;
      };
    }
  where
    two : {x y : List ℕ} {xs ys : List (List ℕ)} → x ≡ y → xs ≡ ys → x ∷ xs ≡ y ∷ ys
    two {x} {y} {xs} {ys} e f = cc

    absent : (paths numbers : List ℕ) → slice_get old.places h.0 ≡ Some place.Delayed → (more : HasTurns ns (listed_at h.0 old) new) → AreDelayed paths numbers old → contains (number_at numbers h.0) (map (number_at numbers) more.turns) ≡ false
    absent paths numbers at more a = elim (bool_or (contains (number_at numbers h.0) (map (number_at numbers) more.turns))) [
      | inr none ↦ none
      | inl here ↦ absurd (let k = number_among numbers (number_at numbers h.0) more.turns here in
          let d = still_delayed old h.0 k.0 at (more.delayed k.0 k.1) in
          d.1 (a.apart k.0 h.0 d.0 at (sym k.2)))
    ]

-- lists of the same paths read an answer the same

or_true : (a b : Bool) → b ≡ true → (a || b) ≡ true
or_true true b h = refl
or_true false b h = h

name_of : (text : ℕ → List ℕ) (late : List ℕ) (name : List ℕ) (q : ℕ) → contains q late ≡ true → bytes_eq (text q) name ≡ true → name_in (map text late) name ≡ true
name_of text [] name q has same = absurd (cc has)
name_of text (p ∷ ps) name q has same = elim (bool_or (q == p)) [
  | inl e ↦ ap (λ (b : Bool). b || name_in (map text ps) name) (ap (λ (x : ℕ). bytes_eq (text x) name) (sym (eqb-true q p e)) ∙ same)
  | inr n ↦ or_true (bytes_eq (text p) name) (name_in (map text ps) name) (name_of text ps name q (sym (ap (λ (b : Bool). cond b true (contains q ps)) n) ∙ has) same)
]

of_name : (text : ℕ → List ℕ) (late : List ℕ) (name : List ℕ) → name_in (map text late) name ≡ true → (q : ℕ) × (contains q late ≡ true) × (bytes_eq (text q) name ≡ true)
of_name text [] name h = absurd (cc h)
of_name text (p ∷ ps) name h = elim (bool_or (bytes_eq (text p) name)) [
  | inl e ↦ (p, ap (λ (b : Bool). cond b true (contains p ps)) (eq-eqb p p refl), e)
  | inr n ↦ more (of_name text ps name (sym (ap (λ (b : Bool). b || name_in (map text ps) name) n) ∙ h))
]
  where
    more : (q : ℕ) × (contains q ps ≡ true) × (bytes_eq (text q) name ≡ true) → (q : ℕ) × (contains q (p ∷ ps) ≡ true) × (bytes_eq (text q) name ≡ true)
    more k = (
      k.0,
      elim (bool_or (k.0 == p)) [
        | inl s ↦ ap (λ (b : Bool). cond b true (contains k.0 ps)) s
        | inr n ↦ ap (λ (b : Bool). cond b true (contains k.0 ps)) n ∙ k.1
      ],
      k.2,
    )

same_bool : (a b : Bool) → (a ≡ true → b ≡ true) → (b ≡ true → a ≡ true) → a ≡ b
same_bool true b f g = sym (f refl)
same_bool false true f g = g refl
same_bool false false f g = refl

names_same : (text : ℕ → List ℕ) (a b : List ℕ) → ((q : ℕ) → contains q a ≡ contains q b) → (name : List ℕ) → name_in (map text a) name ≡ name_in (map text b) name
names_same text a b same name = same_bool (name_in (map text a) name) (name_in (map text b) name)
    (λ h. let k = of_name text a name h in name_of text b name k.0 (sym (same k.0) ∙ k.1) k.2)
    (λ h. let k = of_name text b name h in name_of text a name k.0 (same k.0 ∙ k.1) k.2)

value_same : (a b : List (List ℕ)) → ((name : List ℕ) → name_in a name ≡ name_in b name) → (listed : List (List ℕ)) (o : Option (List ℕ)) → after_value a listed o ≡ after_value b listed o
value_same a b h listed None = refl
value_same a b h listed (Some name) = rw (h name) refl

step_same : (a b : List (List ℕ)) → ((name : List ℕ) → name_in a name ≡ name_in b name) → (p : ListPhase) (x : Packet) → list_step a p x ≡ list_step b p x
step_same a b h (Names listed) (Payload line) = value_same a b h listed (value_of (codes "pathname") line)
step_same a b h (Names listed) Flush = refl
step_same a b h (KeyList listed s) (Payload line) = refl
step_same a b h (KeyList listed s) Flush = refl

outcome_same : {P G : Type 0} (f g : P → Packet → AnswerState P G) → ((p : P) (x : Packet) → f p x ≡ g p x) → (room : ℕ) (t : AnswerState P G) (ps : List Packet) → outcome f room t ps ≡ outcome g room t ps
outcome_same f g h room t [] = refl
outcome_same f g h room (On p) (x ∷ ps) = elim (cases_lt room (size x)) [
  | inl less ↦ rw (lt-ltb room (size x) less) (outcome_same f g h room (Broken cause.TooLong) ps)
  | inr more ↦ rw (le-ltb room (size x) more) (ap (λ (s : AnswerState _ _). outcome f (room - size x) s ps) (h p x) ∙ outcome_same f g h (room - size x) (g p x) ps)
]
outcome_same f g h room (Done k) (x ∷ ps) = refl
outcome_same f g h room (Broken c) (x ∷ ps) = refl
outcome_same f g h room Late (x ∷ ps) = refl

exchange_same : (a b : List (List ℕ)) → ((name : List ℕ) → name_in a name ≡ name_in b name) → (text : List ℕ) (s t : Wire) (end : Ends GoodList) (extra : List Packet → Type 0) → IsExchange (list_step a) list_start text s t end extra → IsExchange (list_step b) list_start text s t end extra
exchange_same a b h text s t end extra (inl u) = inl u
exchange_same a b h text s t end extra (inr x) = inr (record {
  sent = x.sent;
  stage = x.stage;
  heard = record {
    packets = x.heard.packets;
    used = x.heard.used;
    spelled = x.heard.spelled;
    took = x.heard.took;
    stops = subst (λ (o : AnswerState ListPhase GoodList). Stops o s t end) (outcome_same (list_step a) (list_step b) (step_same a b h) limit list_start x.heard.packets) x.heard.stops;
    done = x.heard.done;
  };
})

-- what a list is, by its places

pub plain : {P G : Type 0} (step : P → Packet → AnswerState P G) (start : AnswerState P G) (text : List ℕ) (old new : Wire) (end : Ends G) (extra : List Packet → Type 0) → IsExchange step start text old new end extra → IsExchange step start text old new end (λ _. Unit {0})
plain step start text old new end extra (inl u) = inl (record { sent = u.sent; why = u.why; done = tt })
plain step start text old new end extra (inr a) = inr (record { sent = a.sent; stage = a.stage; heard = record { packets = a.heard.packets; used = a.heard.used; spelled = a.heard.spelled; took = a.heard.took; stops = a.heard.stops; done = tt } })

all_turns : (ns : List (List ℕ)) (old new : Table) → old.turns ≡ [] → (h : HasTurns ns old new) → new.turns ≡ h.turns
all_turns ns old new none h = h.grown ∙ ap (λ (t : List ℕ). t ++ h.turns) none

list_is : (paths : Paths) (numbers : List ℕ) (delayed : List (List ℕ)) (s t : Wire) (old new : Table) (end : Ends GoodList) → IsExchange (list_step delayed) list_start list_text s t end (EndLists old new end) → old.turns ≡ [] → old.names ≡ map paths.text numbers
    → ListIs paths (names_in numbers new.turns (list_reply_of end)) (list_reply_of end) end
list_is paths numbers delayed s t old new (Good g) (inl u) none names = absurd u.why
list_is paths numbers delayed s t old new (Good (Listed [])) (inr a) none names = (refl, refl)
list_is paths numbers delayed s t old new (Good (Listed (n ∷ ns))) (inr a) none names =
    let h = turns_of (n ∷ ns) old new a.heard.done in
    ap (λ (x : List (List ℕ)). Good (Listed x)) (sym (ap (λ (x : List ℕ). map paths.text (map (number_at numbers) x)) (all_turns (n ∷ ns) old new none h) ∙ h.texts paths.text numbers names))
list_is paths numbers delayed s t old new (Good Aborted) (inr a) none names = (refl, refl)
list_is paths numbers delayed s t old new (Broke why) x none names = (refl, refl)
list_is paths numbers delayed s t old new OutOfMemory x none names = (refl, refl)

pub list_says : (paths : Paths) (numbers slate : List ℕ) (v w : LineView) (s u : SessionSeen) (old new : Table) (r : ListReply) → v.session ≡ Some s → s.standing ≡ standing.Live → old.turns ≡ [] → old.names ≡ map paths.text numbers
    → ((q : ℕ) → contains q slate ≡ contains q (late_in numbers old.places)) → IsListExchange s.wire u.wire old new r → After v s u.wire (list_standing r) w → Says paths v (Listing slate (names_in numbers new.turns r) r) w
list_says paths numbers slate v w s u old new r is live none names same x after =
    let late : delayed_in old ≡ map paths.text (late_in numbers old.places) = ap (λ (n : List (List ℕ)). delayed_of n old.places) names ∙ delayed_texts paths.text numbers old.places in (
      s,
      is,
      record {
        wire = u.wire;
        end = x.end;
        live = live;
        after = after;
        exchange = exchange_same (map paths.text (late_in numbers old.places)) (map paths.text slate) (names_same paths.text (late_in numbers old.places) slate (λ q. sym (same q))) list_text s.wire u.wire x.end (λ _. Unit {0})
            (subst (λ (d : List (List ℕ)). IsExchange (list_step d) list_start list_text s.wire u.wire x.end (λ _. Unit {0})) late (plain _ _ _ _ _ _ _ x.exchange));
        is = subst (λ (y : ListReply). ListIs paths (names_in numbers new.turns y) y x.end) (sym x.reply) (list_is paths numbers (delayed_in old) s.wire u.wire old new x.end x.exchange none names);
      },
    )

map_many : (f : ℕ → ℕ) (xs : List ℕ) → length (map f xs) ≡ length xs
map_many f [] = refl
map_many f (x ∷ xs) = ap (λ (n : ℕ). suc n) (map_many f xs)

names_known : (known numbers : List ℕ) (delayed : List (List ℕ)) (s t : Wire) (old new : Table) (end : Ends GoodList) → IsExchange (list_step delayed) list_start list_text s t end (EndLists old new end) → old.turns ≡ [] → AreDelayed known numbers old
    → NamesAre known (names_in numbers new.turns (list_reply_of end)) (list_reply_of end)
names_known known numbers delayed s t old new (Good g) (inl u) none a = absurd u.why
names_known known numbers delayed s t old new (Good (Listed [])) (inr x) none a = tt
names_known known numbers delayed s t old new (Good (Listed (n ∷ ns))) (inr x) none a =
    let h = turns_of (n ∷ ns) old new x.heard.done in
    let same = all_turns (n ∷ ns) old new none h in
    (sym (map_many (number_at numbers) new.turns ∙ (ap (λ (x : List ℕ). length x) same ∙ h.many)), omega arith, subst (λ (ts : List ℕ). AreKnown known (map (number_at numbers) ts)) (sym same) (h.known known numbers a))
names_known known numbers delayed s t old new (Good Aborted) (inr x) none a = tt
names_known known numbers delayed s t old new (Broke why) x none a = tt
names_known known numbers delayed s t old new OutOfMemory x none a = tt

pub list_names : (known numbers : List ℕ) (s t : Wire) (old new : Table) (r : ListReply) → IsListExchange s t old new r → old.turns ≡ [] → AreDelayed known numbers old → NamesAre known (names_in numbers new.turns r) r
list_names known numbers s t old new r x none a = subst (λ (y : ListReply). NamesAre known (names_in numbers new.turns y) y) (sym x.reply) (names_known known numbers (delayed_in old) s t old new x.end x.exchange none a)

listed_table : (old new : Table) (ps : List Packet) → HasListed old new ps → IsListedTable old new
listed_table old new ps h = (turns_of (names_of h.lines) old new h.listed).table

breaks_table : (why : BreakCause) (old new : Table) (ps : List Packet) → BreaksLists why old new ps → IsListedTable old new
breaks_table cause.StrangePath old new ps h = listed_table old new h.0 h.3
breaks_table cause.TooLong old new ps h = listed_table old new h.0 h.3
breaks_table cause.Ended old new ps h = listed_table old new ps h
breaks_table cause.LinkFault old new ps h = listed_table old new ps h
breaks_table cause.BadPacket old new ps h = listed_table old new ps h
breaks_table cause.BadHandshake old new ps h = listed_table old new ps h
breaks_table cause.UnknownStatus old new ps h = listed_table old new ps h
breaks_table cause.StrangeDelay old new ps h = listed_table old new ps h
breaks_table cause.ListRefused old new ps h = listed_table old new ps h

ends_table : (old new : Table) (end : Ends GoodList) (ps : List Packet) → EndLists old new end ps → IsListedTable old new
ends_table old new (Good (Listed ns)) ps h = (turns_of ns old new h).table
ends_table old new (Good Aborted) ps h = listed_table old new ps h
ends_table old new (Broke why) ps h = breaks_table why old new ps h
ends_table old new OutOfMemory ps h = (turns_of [] old new h).table

pub list_table : (s t : Wire) (old new : Table) (r : ListReply) → IsListExchange s t old new r → IsListedTable old new
list_table s t old new r x = elim (x.exchange) [
  | inl u ↦ ends_table old new x.end [] u.done
  | inr a ↦ ends_table old new x.end a.heard.packets a.heard.done
]

-- a line after a list

over_as : (z : Standing) (v w : LineView) (wire : Wire) → z ≡ standing.Live → IsEnded v.starter wire z w → IsEnded v.starter wire standing.Aborted w
over_as z v w wire e h = let k = subst (λ (y : Standing). IsEnded v.starter wire y w) e h in
    record { seen = k.seen; none = k.none; kept = k.kept; out = k.out; sent = k.sent; taken = k.taken; ends = k.ends; replies = k.replies; input = k.input; end = k.end; faults = k.faults; shut = k.shut }

pub list_over : (r : ListReply) (v w : LineView) (s u : SessionSeen) → (list_standing r ≡ standing.Live → ⊥) → u ≡ record s { wire = u.wire; standing = standing_after_list r } → IsEnded v.starter u.wire u.standing w → After v s u.wire (list_standing r) w
list_over (list.Names n) v w s u live is h = absurd (live refl)
list_over list.Empty v w s u live is h = over_as u.standing v w u.wire (ap (λ (x : SessionSeen). x.standing) is) h
list_over list.Abort v w s u live is h = subst (λ (y : Standing). IsEnded v.starter u.wire y w) (ap (λ (x : SessionSeen). x.standing) is) h
list_over (list.Broken c) v w s u live is h = subst (λ (y : Standing). IsEnded v.starter u.wire y w) (ap (λ (x : SessionSeen). x.standing) is) h
list_over list.NoMemory v w s u live is h = subst (λ (y : Standing). IsEnded v.starter u.wire y w) (ap (λ (x : SessionSeen). x.standing) is) h

pub list_on : (r : ListReply) (v : LineView) (s u : SessionSeen) (from : StarterSeen) → list_standing r ≡ standing.Live → u ≡ record s { wire = u.wire; standing = standing_after_list r } → from ≡ v.starter → After v s u.wire (list_standing r) (record { starter = from; session = Some u })
list_on (list.Names n) v s u from live is same = (ap Some is, same)
list_on list.Empty v s u from live is same = absurd (cc)
list_on list.Abort v s u from live is same = absurd (cc)
list_on (list.Broken c) v s u from live is same = absurd (cc)
list_on list.NoMemory v s u from live is same = absurd (cc)
