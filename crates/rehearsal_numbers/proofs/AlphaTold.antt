-- The whole talk of a rehearsal with `alpha` is what its script tells.
use Rattle.std.proofs.Common.{◌≡◌, ℕ, ◌<◌, ◌≤◌, inl, inr, ⊎_elim, Bool, true, false, cond, ◌||◌, List, [], ◌∷◌, ◌++◌, map, length, append_assoc, Some, None, refl, sym, ap, ◌∙◌, subst, arith, eq-eqb, ne_eqb}
use Rattle.std.specs.Prelude.{codes, ◌==◌, if◌then◌else◌, Option}
use Rattle.std.specs.List.{AllByRecursion, flat_map}
use Rattle.std.specs.Str.{bytes_eq}
use Rattle.std.proofs.lemmas.List.{append-nil}
use Rattle.std.proofs.lemmas.Bool.{true≢false}
use Rattle.std.proofs.lemmas.Slice.Eq.{bytes_eq-Decides}
use Rattle.pkt_line.specs.Spelling.{spelling_all}
use Rattle.edge_kit.specs.Links.{LeftBytes}
use Rattle.edge_kit.specs.Starters.{Session, SessionHad, Gives, StartsListed}
use Rattle.filter_words.specs.Requests.{hello_text, caps_text}
use Rattle.filter_words.specs.Listing.{name_in}
use Rattle.filter_words.specs.declared.reply.Reply.TheVariants as reply
use Rattle.filter_words.specs.declared.reply.ListReply.TheVariants as list
use Rattle.delay_table.specs.Table.{contains}
use Rattle.filter_proto.specs.Exchanges.{Good}
use Rattle.checkout_core.specs.declared.event.Event.{Event}
use Rattle.checkout_core.specs.declared.event.Event.TheVariants as event
use Rattle.checkout_core.specs.declared.path.Heard.TheVariants as heard
use Rattle.checkout_core.specs.Fates.{Fate, Untold, Later, Known, fate_of}
use Rattle.checkout_core.specs.Talks.{Ended}
use Rattle.driver_line.specs.Conversations.{Exchange, Opening, First, Second, notes_in}
use Rattle.driver_line.specs.Lines.{Paths}
use Rattle.driver_line.specs.SameHeard.{IsToldTalk, HaveTexts, fate_in, content_of}
use Rattle.driver_line.specs.Transcripts.{Spoken, IsTalk, IsOpenedSession, AllFit, all_fine}
use Rattle.rehearsal.specs.Paths.{kind, name}
use Rattle.rehearsal.specs.Drivers.{is_given, alpha_first, alpha_lists}
use Rattle.rehearsal_numbers.proofs.Apart.{is_equal}
use Rattle.rehearsal_numbers.proofs.Marked.{Mark, places, numbers, Among, Rises, all_at, all_from, holds, found, other_place}
use Rattle.rehearsal_numbers.proofs.Replies.{SpellingSpells, alpha_caps, alpha_hello, alpha_opens}
use Rattle.rehearsal_numbers.proofs.Lists.{Differ}
use Rattle.rehearsal_numbers.proofs.Beta.{answer, stays}
use Rattle.rehearsal_numbers.proofs.Alpha.{asks, firsts, seconds, last_list, listed, tail_of, requests, withouts, late_of, any_of, any_after, given_marks, said, AreAlphas, HaveNames, AreGiven, all_spoken, text_is}
use Rattle.rehearsal_numbers.proofs.AlphaTalk.{leads_all}
use Rattle.rehearsal_numbers.proofs.Given.{Falls, given_among, among_given, given_falls, given_few, given_listable, late_has, delayed_kind}

-- the given paths, by their names
late_name : (paths : Paths) (late : List ℕ) (p : ℕ) → contains p late ≡ true
    → name_in (map paths.text late) (paths.text p) ≡ true
late_name paths [] p h = absurd (true≢false (sym h))
late_name paths (q ∷ qs) p h = by (p == q) refl h (late_name paths qs p)
  where
    or_true : (t : Bool) → (t || true) ≡ true
    or_true true = refl
    or_true false = refl

    by : (t : Bool) → (p == q) ≡ t → cond t true (contains p qs) ≡ true
        → (contains p qs ≡ true → name_in (map paths.text qs) (paths.text p) ≡ true)
        → (bytes_eq (paths.text q) (paths.text p) || name_in (map paths.text qs) (paths.text p)) ≡ true
    by true e h more =
        let same : bytes_eq (paths.text q) (paths.text p) ≡ true =
        (bytes_eq-Decides (paths.text q) (paths.text p)).1 (ap paths.text (sym (is_equal p q e))) in
        ap (λ (t : Bool). t || name_in (map paths.text qs) (paths.text p)) same
    by false e h more =
        ap (λ (t : Bool). bytes_eq (paths.text q) (paths.text p) || t) (more h) ∙ or_true (bytes_eq (paths.text q) (paths.text p))

-- two paths with different places have different names
other_names : (paths : Paths) (seed : ℕ) (ms : List Mark) → HaveNames paths seed ms → HaveTexts paths (places ms)
    → (x y : Mark) → Among x ms → Among y ms → y.place < x.place → bytes_eq (name seed x.number) (name seed y.number) ≡ false
other_names paths seed ms named texts x y a b lt = go (bytes_eq (name seed x.number) (name seed y.number)) refl
  where
    go : (t : Bool) → bytes_eq (name seed x.number) (name seed y.number) ≡ t → bytes_eq (name seed x.number) (name seed y.number) ≡ false
    go false e = e
    go true e =
        let same : name seed x.number ≡ name seed y.number = (bytes_eq-Decides (name seed x.number) (name seed y.number)).0 e in
        let one : paths.text x.place ≡ name seed x.number = all_at (λ m. paths.text m.place ≡ name seed m.number) ms named x a in
        let two : paths.text y.place ≡ name seed y.number = all_at (λ m. paths.text m.place ≡ name seed m.number) ms named y b in
        let place : x.place ≡ y.place = texts x.place y.place (holds x ms a) (holds y ms b) (one ∙ same ∙ sym two) in
        absurd (omega (arith, place, lt))

differ : (paths : Paths) (seed : ℕ) (ms : List Mark) → HaveNames paths seed ms → HaveTexts paths (places ms) → (gs : List Mark)
    → Falls gs → ((m : Mark) → Among m gs → Among m ms) → Differ seed (numbers gs)
differ paths seed ms named texts [] f is = tt
differ paths seed ms named texts (x ∷ xs) f is =
    (each xs f.0 (λ m k. is m (inr k)), differ paths seed ms named texts xs f.1 (λ m k. is m (inr k)))
  where
    each : (ys : List Mark) → AllByRecursion (λ y. y.place < x.place) ys → ((m : Mark) → Among m ys → Among m ms)
        → AllByRecursion (λ j. bytes_eq (name seed x.number) (name seed j) ≡ false) (numbers ys)
    each [] h k = tt
    each (y ∷ ys) h k = (other_names paths seed ms named texts x y (is x (inl refl)) (k y (inl refl)) h.0, each ys h.1 (λ m l. k m (inr l)))

are_late : (paths : Paths) (seed : ℕ) (late : List ℕ) (gs : List Mark) → HaveNames paths seed gs
    → ((m : Mark) → Among m gs → contains m.place late ≡ true)
    → AllByRecursion (λ i. name_in (map paths.text late) (name seed i) ≡ true) (numbers gs)
are_late paths seed late [] h f = tt
are_late paths seed late (x ∷ xs) h f = (
  subst (λ (n : List ℕ). name_in (map paths.text late) n ≡ true) h.0 (late_name paths late x.place (f x (inl refl))),
  are_late paths seed late xs h.1 (λ m k. f m (inr k)),
)

are_given : (paths : Paths) (seed : ℕ) (ms : List Mark) → HaveNames paths seed ms → HaveTexts paths (places ms) → Rises ms
    → length ms ≤ 99999 → AreGiven paths seed (late_of seed ms) (given_marks seed ms)
are_given paths seed ms named texts r few =
    let gs = given_marks seed ms in
    let own : HaveNames paths seed gs =
    all_from (λ m. paths.text m.place ≡ name seed m.number) gs
    (λ m k. all_at (λ x. paths.text x.place ≡ name seed x.number) ms named m (given_among seed ms m k).0) in
    record {
      named = own;
      late_ones = are_late paths seed (late_of seed ms) gs own
          (λ m k. let g = given_among seed ms m k in late_has seed [] ms m g.0 (delayed_kind seed m.number g.1));
      differ = differ paths seed ms named texts gs (given_falls seed ms r) (λ m k. (given_among seed ms m k).0);
      few = omega (arith, given_few seed ms, few);
    }

-- nothing breaks the session
module _ (s : SessionHad) (seed : ℕ) where
  firsts_fit : (ms : List Mark) (tail : List Exchange) → AllFit s tail → AllFit s (firsts seed ms tail)
  firsts_fit [] tail h = h
  firsts_fit (m ∷ ms) tail h = by (kind seed m.number == 4) (firsts_fit ms tail h)
    where
      by : (a : Bool) → AllFit s (firsts seed ms tail)
          → AllFit s ((if a then First m.place reply.Content (answer (codes "alpha") seed m.number) else First m.place reply.Delayed []) ∷ firsts seed ms tail)
      by true h = (tt, h)
      by false h = (tt, h)

  seconds_fit : (ms : List Mark) (tail : List Exchange) → AllFit s tail → AllFit s (seconds seed ms tail)
  seconds_fit [] tail h = h
  seconds_fit (m ∷ ms) tail h = (tt, seconds_fit ms tail h)

  tail_fits : (any : Bool) (late : List ℕ) (gs : List Mark) → AllFit s (tail_of seed any late gs)
  tail_fits false late gs = (tt, tt)
  tail_fits true late [] = (tt, tt)
  tail_fits true late (m ∷ ms) = (tt, seconds_fit (m ∷ ms) (last_list (withouts late (places (m ∷ ms)))) (tt, tt))

firsts_fine : (seed : ℕ) (ms : List Mark) (tail : List Exchange) → all_fine tail ≡ true → all_fine (firsts seed ms tail) ≡ true
firsts_fine seed [] tail h = h
firsts_fine seed (m ∷ ms) tail h = by (kind seed m.number == 4) (firsts_fine seed ms tail h)
  where
    by : (a : Bool) → all_fine (firsts seed ms tail) ≡ true
        → all_fine ((if a then First m.place reply.Content (answer (codes "alpha") seed m.number) else First m.place reply.Delayed []) ∷ firsts seed ms tail) ≡ true
    by true h = h
    by false h = h

seconds_fine : (seed : ℕ) (ms : List Mark) (tail : List Exchange) → all_fine tail ≡ true → all_fine (seconds seed ms tail) ≡ true
seconds_fine seed [] tail h = h
seconds_fine seed (m ∷ ms) tail h = seconds_fine seed ms tail h

tail_fine : (seed : ℕ) (any : Bool) (late : List ℕ) (gs : List Mark) → all_fine (tail_of seed any late gs) ≡ true
tail_fine seed false late gs = refl
tail_fine seed true late [] = refl
tail_fine seed true late (m ∷ ms) = seconds_fine seed (m ∷ ms) (last_list (withouts late (places (m ∷ ms)))) refl

abbrev pub exchanges : ℕ → Mark → List Mark → List Exchange
exchanges seed m ms = Opening m.place (Good alpha_caps) ∷ said seed (m ∷ ms)

-- what `alpha` writes
abbrev pub output : ℕ → List Mark → List ℕ
output seed ms = spelling_all alpha_hello ++ flat_map (alpha_first seed) (numbers ms) ++ alpha_lists seed (numbers ms)

abbrev pub seen : Paths → ℕ → List Mark → SessionHad
seen paths seed ms = record {
  sent = Some ((hello_text ++ caps_text) ++ requests paths (said seed ms));
  taken = Some (output seed ms);
  replies = None;
  faults = 0;
  ends = 0;
  shut = true;
}

session : SpellingSpells → (paths : Paths) (seed : ℕ) (ms : List Mark) → AreAlphas seed ms
    → AreGiven paths seed (late_of seed ms) (given_marks seed ms)
    → IsOpenedSession paths alpha_caps (said seed ms) (seen paths seed ms)
session law paths seed ms h g =
    let later = flat_map (alpha_first seed) (numbers ms) ++ alpha_lists seed (numbers ms) in
    record {
      sent = (hello_text ++ caps_text) ++ requests paths (said seed ms);
      taken = output seed ms;
      sent_is = refl;
      taken_is = refl;
      more = requests paths (said seed ms);
      used = spelling_all alpha_hello;
      later = later;
      texts = refl;
      parts = append_assoc (spelling_all alpha_hello) (flat_map (alpha_first seed) (numbers ms)) (alpha_lists seed (numbers ms));
      opened = alpha_opens law later;
      spoken = subst (λ (t : List ℕ). Spoken paths alpha_caps (said seed ms) (requests paths (said seed ms)) (flat_map (alpha_first seed) (numbers ms) ++ t))
          (text_is seed ms h) (all_spoken law paths seed ms h g);
      counts = firsts_fit (seen paths seed ms) seed ms _ (tail_fits (seen paths seed ms) seed (any_of seed ms) (late_of seed ms) (given_marks seed ms));
      one = inl refl;
      causes = record { ended = λ lt. absurd (omega (arith, lt)); failed = λ lt. absurd (omega (arith, lt)) };
      shut = sym (firsts_fine seed ms _ (tail_fine seed (any_of seed ms) (late_of seed ms) (given_marks seed ms)));
    }

is_talk : SpellingSpells → (d : ℕ) (paths : Paths) (seed : ℕ) (m : Mark) (ms : List Mark) → AreAlphas seed (m ∷ ms)
    → Rises (m ∷ ms) → AreGiven paths seed (late_of seed (m ∷ ms)) (given_marks seed (m ∷ ms))
    → IsTalk d paths (places (m ∷ ms)) (Session (seen paths seed (m ∷ ms)) ∷ []) (exchanges seed m ms)
is_talk law d paths seed m ms h r g = record {
  spells = (
    m.place,
    Good alpha_caps,
    said seed (m ∷ ms),
    [],
    ap (λ (es : List Exchange). Opening m.place (Good alpha_caps) ∷ es) (sym (append-nil (said seed (m ∷ ms)))),
    session law paths seed (m ∷ ms) h g,
    refl,
  );
  end = Ended;
  goes = leads_all d seed m ms (given_listable seed (m ∷ ms) r);
  over = tt;
}

-- what each path hears
abbrev asked_as : ℕ → Mark → Bool → Exchange
asked_as seed x a = if a then First x.place reply.Content (answer (codes "alpha") seed x.number) else First x.place reply.Delayed []

module _ (d seed p : ℕ) where
  passes : (f : Bool) (x : Mark) (es : List Exchange) → (p == x.place) ≡ false
      → fate_of p (if f then Untold else Later) (notes_in d (asks seed x ∷ es)) ≡ fate_of p (if f then Untold else Later) (notes_in d es)
  passes f x es other = by f (kind seed x.number == 4)
    where
      by : (f a : Bool) → fate_of p (if f then Untold else Later) (notes_in d (asked_as seed x a ∷ es)) ≡ fate_of p (if f then Untold else Later) (notes_in d es)
      by true true = ap (λ (t : Bool). fate_of p (cond t (Known heard.Got) Untold) (notes_in d es)) other
      by true false = ap (λ (t : Bool). fate_of p (cond t Later Untold) (notes_in d es)) other
      by false true = ap (λ (t : Bool). fate_of p (cond t (Known heard.Got) Later) (notes_in d es)) other
      by false false = ap (λ (t : Bool). fate_of p (cond t Later Later) (notes_in d es)) other

  all_pass : (f : Bool) (xs : List Mark) (tail : List Exchange) → AllByRecursion (λ x. (p == x.place) ≡ false) xs
      → fate_of p (if f then Untold else Later) (notes_in d (firsts seed xs tail)) ≡ fate_of p (if f then Untold else Later) (notes_in d tail)
  all_pass f [] tail h = refl
  all_pass f (x ∷ xs) tail h = passes f x (firsts seed xs tail) h.0 ∙ all_pass f xs tail h.1

  hears : (x : Mark) (es : List Exchange) → (p == x.place) ≡ true
      → fate_of p Untold (notes_in d (asks seed x ∷ es)) ≡ (if kind seed x.number == 4 then Known heard.Got else fate_of p Later (notes_in d es))
  hears x es same = by (kind seed x.number == 4)
    where
      by : (a : Bool) → fate_of p Untold (notes_in d (asked_as seed x a ∷ es)) ≡ (if a then Known heard.Got else fate_of p Later (notes_in d es))
      by true = ap (λ (t : Bool). fate_of p (cond t (Known heard.Got) Untold) (notes_in d es)) same ∙ stays p heard.Got (notes_in d es)
      by false = ap (λ (t : Bool). fate_of p (cond t Later Untold) (notes_in d es)) same

  -- names tell nothing
  names_pass : (qs : List ℕ) (n : ℕ) (es : List Event)
      → fate_of p Later ((map event.Named qs ++ event.Listed d (list.Names n) ∷ []) ++ es) ≡ fate_of p Later es
  names_pass [] n es = refl
  names_pass (q ∷ qs) n es = names_pass qs n es

  second_other : (x : Mark) (es : List Exchange) → (p == x.place) ≡ false
      → fate_of p Later (notes_in d (Second x.place reply.Content (answer (codes "alpha") seed x.number) ∷ es)) ≡ fate_of p Later (notes_in d es)
  second_other x es other = ap (λ (t : Bool). fate_of p (cond t (Known heard.Got) Later) (notes_in d es)) other

  second_here : (x : Mark) (es : List Exchange) → (p == x.place) ≡ true
      → fate_of p Later (notes_in d (Second x.place reply.Content (answer (codes "alpha") seed x.number) ∷ es)) ≡ Known heard.Got
  second_here x es same = ap (λ (t : Bool). fate_of p (cond t (Known heard.Got) Later) (notes_in d es)) same ∙ stays p heard.Got (notes_in d es)

  seconds_lose : (gs : List Mark) (tail : List Exchange) → AllByRecursion (λ x. (p == x.place) ≡ false) gs
      → fate_of p Later (notes_in d (seconds seed gs tail)) ≡ fate_of p Later (notes_in d tail)
  seconds_lose [] tail h = refl
  seconds_lose (x ∷ xs) tail h = second_other x (seconds seed xs tail) h.0 ∙ seconds_lose xs tail h.1

  listed_loses : (late : List ℕ) (gs : List Mark) → AllByRecursion (λ x. (p == x.place) ≡ false) gs
      → fate_of p Later (notes_in d (listed seed late gs)) ≡ Known heard.Lost
  listed_loses late [] h = refl
  listed_loses late (x ∷ xs) h =
      let ps = places (x ∷ xs) in
      names_pass ps (length ps) (notes_in d (seconds seed (x ∷ xs) (last_list (withouts late ps))))
      ∙ seconds_lose (x ∷ xs) (last_list (withouts late ps)) h

seconds_give : (d seed : ℕ) (gs : List Mark) (tail : List Exchange) → Falls gs → (m : Mark) → Among m gs
    → fate_of m.place Later (notes_in d (seconds seed gs tail)) ≡ Known heard.Got
seconds_give d seed [] tail f m is = absurd is
seconds_give d seed (x ∷ xs) tail f m is = ⊎_elim
    (λ (e : m ≡ x). second_here d seed m.place x (seconds seed xs tail) (eq-eqb m.place x.place (ap (λ (y : Mark). y.place) e)))
    (λ (k : Among m xs). second_other d seed m.place x (seconds seed xs tail)
    (ne_eqb m.place x.place (λ e. omega (arith, e, all_at (λ (y : Mark). y.place < x.place) xs f.0 m k)))
    ∙ seconds_give d seed xs tail f.1 m k)
    is

listed_gives : (d seed : ℕ) (late : List ℕ) (gs : List Mark) → Falls gs → (m : Mark) → Among m gs
    → fate_of m.place Later (notes_in d (listed seed late gs)) ≡ Known heard.Got
listed_gives d seed late [] f m is = absurd is
listed_gives d seed late (x ∷ xs) f m is =
    let ps = places (x ∷ xs) in
    names_pass d seed m.place ps (length ps) (notes_in d (seconds seed (x ∷ xs) (last_list (withouts late ps))))
    ∙ seconds_give d seed (x ∷ xs) (last_list (withouts late ps)) f m is

firsts_hear : (d seed : ℕ) (ms : List Mark) (tail : List Exchange) → Rises ms → (m : Mark) → Among m ms
    → fate_of m.place Untold (notes_in d (firsts seed ms tail))
    ≡ (if kind seed m.number == 4 then Known heard.Got else fate_of m.place Later (notes_in d tail))
firsts_hear d seed [] tail r m is = absurd is
firsts_hear d seed (x ∷ xs) tail r m is = ⊎_elim
    (λ (e : m ≡ x). hears d seed m.place x (firsts seed xs tail) (eq-eqb m.place x.place (ap (λ (y : Mark). y.place) e))
    ∙ ap (λ (y : Mark). if kind seed y.number == 4 then Known heard.Got else fate_of m.place Later (notes_in d (firsts seed xs tail))) (sym e)
    ∙ ap (λ (f : Fate). if kind seed m.number == 4 then Known heard.Got else f) (all_pass d seed m.place false xs tail (apart e)))
    (λ (k : Among m xs). passes d seed m.place true x (firsts seed xs tail)
    (other_place x.place m.place (all_at (λ (y : Mark). x.place < y.place) xs r.0 m k)) ∙ firsts_hear d seed xs tail r.1 m k)
    is
  where
    apart : m ≡ x → AllByRecursion (λ y. (m.place == y.place) ≡ false) xs
    apart e = all_from (λ y. (m.place == y.place) ≡ false) xs
        (λ y k. ne_eqb m.place y.place (λ h. omega (arith, h, ap (λ (z : Mark). z.place) e, all_at (λ (z : Mark). x.place < z.place) xs r.0 y k)))

-- some path is late if one is
any_keeps : (seed : ℕ) (ms : List Mark) → any_after seed true ms ≡ true
any_keeps seed [] = refl
any_keeps seed (m ∷ ms) = by (kind seed m.number == 4) (any_keeps seed ms)
  where
    by : (a : Bool) → any_after seed true ms ≡ true → any_after seed (if a then true else true) ms ≡ true
    by true h = h
    by false h = h

any_has : (seed : ℕ) (b : Bool) (ms : List Mark) (m : Mark) → Among m ms → (kind seed m.number == 4) ≡ false
    → any_after seed b ms ≡ true
any_has seed b [] m is e = absurd is
any_has seed b (x ∷ xs) m is e = ⊎_elim
    (λ (k : m ≡ x). here (kind seed x.number == 4) (ap (λ (y : Mark). kind seed y.number == 4) (sym k) ∙ e))
    (λ (k : Among m xs). any_has seed (if kind seed x.number == 4 then b else true) xs m k e)
    is
  where
    here : (a : Bool) → a ≡ false → any_after seed (if a then b else true) xs ≡ true
    here true h = absurd (true≢false h)
    here false h = any_keeps seed xs

-- kind 4 and what is given later is got, and the rest is lost
abbrev pub fate_at : ℕ → ℕ → Fate
fate_at seed i =
    if kind seed i == 4 then Known heard.Got else if is_given seed i then Known heard.Got else Known heard.Lost

same_mark : (ms : List Mark) → Rises ms → (x y : Mark) → Among x ms → Among y ms → x.place ≡ y.place → x ≡ y
same_mark [] r x y a b e = absurd a
same_mark (z ∷ zs) r x y a b e = ⊎_elim
    (λ (h : x ≡ z). ⊎_elim
    (λ (k : y ≡ z). h ∙ sym k)
    (λ (k : Among y zs). absurd (omega (arith, e, ap (λ (m : Mark). m.place) h, all_at (λ (m : Mark). z.place < m.place) zs r.0 y k)))
    b)
    (λ (h : Among x zs). ⊎_elim
    (λ (k : y ≡ z). absurd (omega (arith, e, ap (λ (m : Mark). m.place) k, all_at (λ (m : Mark). z.place < m.place) zs r.0 x h)))
    (λ (k : Among y zs). same_mark zs r.1 x y h k e)
    b)
    a

not_given : (seed : ℕ) (ms : List Mark) → Rises ms → (m : Mark) → Among m ms → is_given seed m.number ≡ false
    → AllByRecursion (λ y. (m.place == y.place) ≡ false) (given_marks seed ms)
not_given seed ms r m is other = all_from (λ y. (m.place == y.place) ≡ false) (given_marks seed ms)
    (λ y k. let g = given_among seed ms y k in
    ne_eqb m.place y.place (λ e. absurd (true≢false (sym g.1
    ∙ ap (λ (z : Mark). is_given seed z.number) (sym (same_mark ms r m y is g.0 e)) ∙ other))))

said_fates : (d seed : ℕ) (ms : List Mark) → Rises ms → (m : Mark) → Among m ms
    → fate_of m.place Untold (notes_in d (said seed ms)) ≡ fate_at seed m.number
said_fates d seed ms r m is =
    firsts_hear d seed ms (tail_of seed (any_of seed ms) (late_of seed ms) (given_marks seed ms)) r m is
    ∙ by (kind seed m.number == 4) (is_given seed m.number) refl refl
  where
    gs : List Mark
    gs = given_marks seed ms

    tail : (kind seed m.number == 4) ≡ false
        → fate_of m.place Later (notes_in d (tail_of seed (any_of seed ms) (late_of seed ms) (given_marks seed ms)))
        ≡ fate_of m.place Later (notes_in d (listed seed (late_of seed ms) (given_marks seed ms)))
    tail e = ap (λ (t : Bool). fate_of m.place Later (notes_in d (tail_of seed t (late_of seed ms) (given_marks seed ms)))) (any_has seed false ms m is e)

    by : (a b : Bool) → (kind seed m.number == 4) ≡ a → is_given seed m.number ≡ b
        → (if a then Known heard.Got else fate_of m.place Later (notes_in d (tail_of seed (any_of seed ms) (late_of seed ms) (given_marks seed ms))))
        ≡ (if a then Known heard.Got else if b then Known heard.Got else Known heard.Lost)
    by true b e f = refl
    by false true e f = tail e ∙ listed_gives d seed (late_of seed ms) (given_marks seed ms) (given_falls seed ms r) m (among_given seed ms m is f)
    by false false e f = tail e ∙ listed_loses d seed m.place (late_of seed ms) (given_marks seed ms) (not_given seed ms r m is f)

-- and what it gets
module _ (seed p : ℕ) where
  skips : (x : Mark) (es : List Exchange) → (p == x.place) ≡ false → content_of p (asks seed x ∷ es) ≡ content_of p es
  skips x es other = by (kind seed x.number == 4)
    where
      by : (a : Bool) → content_of p (asked_as seed x a ∷ es) ≡ content_of p es
      by true = ap (λ (t : Bool). cond t (Some (answer (codes "alpha") seed x.number)) (content_of p es)) other
      by false = refl

  all_skip : (xs : List Mark) (tail : List Exchange) → AllByRecursion (λ x. (p == x.place) ≡ false) xs
      → content_of p (firsts seed xs tail) ≡ content_of p tail
  all_skip [] tail h = refl
  all_skip (x ∷ xs) tail h = skips x (firsts seed xs tail) h.0 ∙ all_skip xs tail h.1

  gets : (x : Mark) (es : List Exchange) → (p == x.place) ≡ true
      → content_of p (asks seed x ∷ es) ≡ (if kind seed x.number == 4 then Some (answer (codes "alpha") seed x.number) else content_of p es)
  gets x es same = by (kind seed x.number == 4)
    where
      by : (a : Bool) → content_of p (asked_as seed x a ∷ es) ≡ (if a then Some (answer (codes "alpha") seed x.number) else content_of p es)
      by true = ap (λ (t : Bool). cond t (Some (answer (codes "alpha") seed x.number)) (content_of p es)) same
      by false = refl

firsts_get : (seed : ℕ) (ms : List Mark) (tail : List Exchange) → Rises ms → (m : Mark) → Among m ms
    → content_of m.place (firsts seed ms tail)
    ≡ (if kind seed m.number == 4 then Some (answer (codes "alpha") seed m.number) else content_of m.place tail)
firsts_get seed [] tail r m is = absurd is
firsts_get seed (x ∷ xs) tail r m is = ⊎_elim
    (λ (e : m ≡ x). gets seed m.place x (firsts seed xs tail) (eq-eqb m.place x.place (ap (λ (y : Mark). y.place) e))
    ∙ ap (λ (y : Mark). if kind seed y.number == 4 then Some (answer (codes "alpha") seed y.number) else content_of m.place (firsts seed xs tail)) (sym e)
    ∙ ap (λ (c : Option (List ℕ)). if kind seed m.number == 4 then Some (answer (codes "alpha") seed m.number) else c) (all_skip seed m.place xs tail (apart e)))
    (λ (k : Among m xs). skips seed m.place x (firsts seed xs tail)
    (other_place x.place m.place (all_at (λ (y : Mark). x.place < y.place) xs r.0 m k)) ∙ firsts_get seed xs tail r.1 m k)
    is
  where
    apart : m ≡ x → AllByRecursion (λ y. (m.place == y.place) ≡ false) xs
    apart e = all_from (λ y. (m.place == y.place) ≡ false) xs
        (λ y k. ne_eqb m.place y.place (λ h. omega (arith, h, ap (λ (z : Mark). z.place) e, all_at (λ (z : Mark). x.place < z.place) xs r.0 y k)))

seconds_get : (seed : ℕ) (gs : List Mark) (tail : List Exchange) → Falls gs → (m : Mark) → Among m gs
    → content_of m.place (seconds seed gs tail) ≡ Some (answer (codes "alpha") seed m.number)
seconds_get seed [] tail f m is = absurd is
seconds_get seed (x ∷ xs) tail f m is = ⊎_elim
    (λ (e : m ≡ x). ap (λ (t : Bool). cond t (Some (answer (codes "alpha") seed x.number)) (content_of m.place (seconds seed xs tail)))
    (eq-eqb m.place x.place (ap (λ (y : Mark). y.place) e)) ∙ ap (λ (y : Mark). Some (answer (codes "alpha") seed y.number)) (sym e))
    (λ (k : Among m xs). ap (λ (t : Bool). cond t (Some (answer (codes "alpha") seed x.number)) (content_of m.place (seconds seed xs tail)))
    (ne_eqb m.place x.place (λ e. omega (arith, e, all_at (λ (y : Mark). y.place < x.place) xs f.0 m k))) ∙ seconds_get seed xs tail f.1 m k)
    is

listed_get : (seed : ℕ) (late : List ℕ) (gs : List Mark) → Falls gs → (m : Mark) → Among m gs
    → content_of m.place (listed seed late gs) ≡ Some (answer (codes "alpha") seed m.number)
listed_get seed late [] f m is = absurd is
listed_get seed late (x ∷ xs) f m is = seconds_get seed (x ∷ xs) (last_list (withouts late (places (x ∷ xs)))) f m is

said_contents : (seed : ℕ) (ms : List Mark) → Rises ms → (m : Mark) → Among m ms → fate_at seed m.number ≡ Known heard.Got
    → content_of m.place (said seed ms) ≡ Some (answer (codes "alpha") seed m.number)
said_contents seed ms r m is got =
    firsts_get seed ms (tail_of seed (any_of seed ms) (late_of seed ms) (given_marks seed ms)) r m is
    ∙ by (kind seed m.number == 4) (is_given seed m.number) refl refl got
  where
    by : (a b : Bool) → (kind seed m.number == 4) ≡ a → is_given seed m.number ≡ b
        → (if a then Known heard.Got else if b then Known heard.Got else Known heard.Lost) ≡ Known heard.Got
        → (if a then Some (answer (codes "alpha") seed m.number) else content_of m.place (tail_of seed (any_of seed ms) (late_of seed ms) (given_marks seed ms)))
        ≡ Some (answer (codes "alpha") seed m.number)
    by true b e f h = refl
    by false true e f h =
        ap (λ (t : Bool). content_of m.place (tail_of seed t (late_of seed ms) (given_marks seed ms))) (any_has seed false ms m is e)
        ∙ listed_get seed (late_of seed ms) (given_marks seed ms) (given_falls seed ms r) m (among_given seed ms m is f)
    by false false e f h = absurd (cc (h))

not_memory : (seed i : ℕ) → fate_at seed i ≡ Known heard.OutOfMemory → ⊥
not_memory seed i = by (kind seed i == 4) (is_given seed i)
  where
    by : (a b : Bool) → (if a then Known heard.Got else if b then Known heard.Got else Known heard.Lost) ≡ Known heard.OutOfMemory → ⊥
    by true b h = cc (h)
    by false true h = cc (h)
    by false false h = cc (h)

pub alpha_fates : (d seed : ℕ) (m : Mark) (ms : List Mark) → Rises (m ∷ ms) → (x : Mark) → Among x (m ∷ ms)
    → (fate_in d x.place (exchanges seed m ms) ≡ fate_at seed x.number)
    × (fate_at seed x.number ≡ Known heard.Got → content_of x.place (exchanges seed m ms) ≡ Some (answer (codes "alpha") seed x.number))
alpha_fates d seed m ms r x is = (said_fates d seed (m ∷ ms) r x is, said_contents seed (m ∷ ms) r x is)

pub alpha_talk : SpellingSpells → (d : ℕ) (paths : Paths) (seed : ℕ) (m : Mark) (ms : List Mark) → AreAlphas seed (m ∷ ms)
    → HaveNames paths seed (m ∷ ms) → HaveTexts paths (places (m ∷ ms)) → Rises (m ∷ ms) → length (m ∷ ms) ≤ 99999
    → IsToldTalk d paths (places (m ∷ ms)) (Gives (output seed (m ∷ ms)) ∷ [])
    (Session (seen paths seed (m ∷ ms)) ∷ []) (exchanges seed m ms)
alpha_talk law d paths seed m ms h named texts r few =
    let g = are_given paths seed (m ∷ ms) named texts r few in
    record {
      full = Session (seen paths seed (m ∷ ms)) ∷ [];
      fills = (record { sent = (hello_text ++ caps_text) ++ requests paths (said seed (m ∷ ms)); taken = output seed (m ∷ ms); sent_is = refl; taken_is = refl; full_is = refl }, tt);
      talk = is_talk law d paths seed m ms h r g;
      left = StartsListed [];
      goes = (
        LeftBytes (output seed (m ∷ ms)),
        refl,
        record { came = output seed (m ∷ ms); left = LeftBytes []; part = ap LeftBytes (sym (append-nil (output seed (m ∷ ms)))); taken = refl; whole = λ lt. refl; replies = refl },
        refl,
      );
      fine = (refl, tt);
      memory = λ p here bad.
          let f = found p (m ∷ ms) here in
          not_memory seed (f.0).number (sym (alpha_fates d seed m ms r f.0 f.1).0 ∙ ap (λ (q : ℕ). fate_in d q (exchanges seed m ms)) (sym f.2) ∙ bad);
    }
