-- The talk of a rehearsal with its driver `alpha`: what it is asked for, and what that spells.
use Rattle.std.proofs.Common.{◌≡◌, ℕ, ◌≤◌, inr, Bool, true, false, ◌||◌, List, [], ◌∷◌, ◌++◌, map, length, append_assoc, refl, sym, ap, ◌∙◌, subst, arith}
use Rattle.std.specs.Prelude.{codes, ◌==◌, if◌then◌else◌}
use Rattle.std.specs.List.{AllByRecursion, flat_map, list_any}
use Rattle.std.proofs.lemmas.List.{append-nil, map-append}
use Rattle.std.proofs.lemmas.Bool.{true≢false}
use Rattle.pkt_line.specs.Packets.{Flush, pkt_len}
use Rattle.pkt_line.specs.Spelling.{spelling_all}
use Rattle.filter_words.specs.Outcomes.{limit}
use Rattle.filter_words.specs.Listing.{Listed, list_step, list_start, name_in}
use Rattle.filter_words.specs.declared.reply.Reply.TheVariants as reply
use Rattle.filter_words.specs.declared.reply.ListReply.TheVariants as list
use Rattle.delay_table.specs.Table.{without}
use Rattle.filter_proto.specs.Exchanges.{Good}
use Rattle.driver_line.specs.Conversations.{Exchange, First, Second, Listing, Shutting}
use Rattle.driver_line.specs.Lines.{Paths}
use Rattle.driver_line.specs.Transcripts.{Spoken, AnswerIs, IsPart, StopsAt, request_of}
use Rattle.rehearsal.specs.Paths.{kind, name}
use Rattle.rehearsal.specs.Drivers.{status, filtered, is_delayed, is_given, given, alpha_first, pathname, list_text, given_text, alpha_lists}
use Rattle.rehearsal_numbers.specs.Plans.{is_alpha}
use Rattle.rehearsal_numbers.proofs.Apart.{is_equal}
use Rattle.rehearsal_numbers.proofs.Marked.{Mark, places, numbers}
use Rattle.rehearsal_numbers.proofs.Replies.{SpellingSpells, spelled, good_part, delayed_part, alpha_caps}
use Rattle.rehearsal_numbers.proofs.Beta.{answer, short_answer}
use Rattle.rehearsal_numbers.proofs.Lists.{lists, Differ}

-- kind 4 is given at once, and kind 5 delayed
abbrev pub asks : ℕ → Mark → Exchange
asks seed m =
    if kind seed m.number == 4 then First m.place reply.Content (answer (codes "alpha") seed m.number)
    else First m.place reply.Delayed []

abbrev pub firsts : ℕ → List Mark → List Exchange → List Exchange
firsts seed [] tail = tail
firsts seed (m ∷ ms) tail = asks seed m ∷ firsts seed ms tail

-- the paths that are given later, the last first
abbrev pub given_marks : ℕ → List Mark → List Mark
given_marks seed [] = []
given_marks seed (m ∷ ms) = given_marks seed ms ++ (if is_given seed m.number then m ∷ [] else [])

-- those that are late after the first requests, and whether any is
abbrev pub late_after : ℕ → List ℕ → List Mark → List ℕ
late_after seed late [] = late
late_after seed late (m ∷ ms) = late_after seed (if kind seed m.number == 4 then late else m.place ∷ late) ms

abbrev pub any_after : ℕ → Bool → List Mark → Bool
any_after seed any [] = any
any_after seed any (m ∷ ms) = any_after seed (if kind seed m.number == 4 then any else true) ms

abbrev pub withouts : List ℕ → List ℕ → List ℕ
withouts late [] = late
withouts late (q ∷ qs) = withouts (without q late) qs

abbrev pub seconds : ℕ → List Mark → List Exchange → List Exchange
seconds seed [] tail = tail
seconds seed (m ∷ ms) tail = Second m.place reply.Content (answer (codes "alpha") seed m.number) ∷ seconds seed ms tail

abbrev pub last_list : List ℕ → List Exchange
last_list late = Listing late [] list.Empty ∷ []

-- a list of what is given, each of it, and an empty list
abbrev pub listed : ℕ → List ℕ → List Mark → List Exchange
listed seed late [] = last_list late
listed seed late (m ∷ ms) =
    Listing late (places (m ∷ ms)) (list.Names (length (places (m ∷ ms))))
    ∷ seconds seed (m ∷ ms) (last_list (withouts late (places (m ∷ ms))))

abbrev pub tail_of : ℕ → Bool → List ℕ → List Mark → List Exchange
tail_of seed true late gs = listed seed late gs
tail_of seed false late gs = Shutting ∷ []

-- what it writes for that
abbrev pub seconds_text : ℕ → List Mark → List ℕ → List ℕ
seconds_text seed [] more = more
seconds_text seed (m ∷ ms) more = filtered (codes "alpha") seed m.number ++ seconds_text seed ms more

abbrev pub listed_text : ℕ → List Mark → List ℕ
listed_text seed [] = list_text seed []
listed_text seed (m ∷ ms) = list_text seed (numbers (m ∷ ms)) ++ seconds_text seed (m ∷ ms) (list_text seed [])

abbrev pub tail_text : ℕ → Bool → List Mark → List ℕ
tail_text seed true gs = listed_text seed gs
tail_text seed false gs = []

-- and what it is sent
abbrev pub requests : Paths → List Exchange → List ℕ
requests paths [] = []
requests paths (e ∷ es) = request_of paths alpha_caps e ++ requests paths es

abbrev pub AreAlphas : ℕ → List Mark → Type 0
AreAlphas seed ms = AllByRecursion (λ m. is_alpha (kind seed m.number) ≡ true) ms

-- the texts of paths
abbrev pub HaveNames : Paths → ℕ → List Mark → Type 0
HaveNames paths seed ms = AllByRecursion (λ m. paths.text m.place ≡ name seed m.number) ms

-- the given paths are known, and differ
pub record AreGiven (paths : Paths) (seed : ℕ) (late : List ℕ) (gs : List Mark) : Type 0 where
  pub named : HaveNames paths seed gs
  pub late_ones : AllByRecursion (λ i. name_in (map paths.text late) (name seed i) ≡ true) (numbers gs)
  pub differ : Differ seed (numbers gs)
  pub few : length (numbers gs) ≤ 99999

module _ (law : SpellingSpells) (paths : Paths) (seed : ℕ) where
  first_answer : (m : Mark) (rest : List ℕ) → is_alpha (kind seed m.number) ≡ true
      → AnswerIs paths alpha_caps (asks seed m) (alpha_first seed m.number) rest
  first_answer m rest h = by (kind seed m.number == 4) (kind seed m.number == 5) h
    where
      by : (a b : Bool) → (a || b) ≡ true
          → AnswerIs paths alpha_caps
          (if a then First m.place reply.Content (answer (codes "alpha") seed m.number) else First m.place reply.Delayed [])
          (if a then filtered (codes "alpha") seed m.number else if b then spelling_all (status (codes "delayed")) else []) rest
      by true b h =
          let size = short_answer (codes "alpha") seed m.number (omega arith) in
          good_part law true (answer (codes "alpha") seed m.number) rest size.0 size.1
      by false true h = delayed_part law rest
      by false false h = absurd (true≢false (sym h))

  firsts_spoken : (ms : List Mark) (tail : List Exchange) (taken : List ℕ) → AreAlphas seed ms
      → Spoken paths alpha_caps tail (requests paths tail) taken
      → Spoken paths alpha_caps (firsts seed ms tail) (requests paths (firsts seed ms tail)) (flat_map (alpha_first seed) (numbers ms) ++ taken)
  firsts_spoken [] tail taken h s = s
  firsts_spoken (m ∷ ms) tail taken h s =
      let more = flat_map (alpha_first seed) (numbers ms) ++ taken in
      inr (
        requests paths (firsts seed ms tail),
        alpha_first seed m.number,
        more,
        refl,
        append_assoc (alpha_first seed m.number) (flat_map (alpha_first seed) (numbers ms)) taken,
        first_answer m more h.0,
        firsts_spoken ms tail taken h.1 s,
      )

  seconds_spoken : (ms : List Mark) (tail : List Exchange) (taken : List ℕ)
      → Spoken paths alpha_caps tail (requests paths tail) taken
      → Spoken paths alpha_caps (seconds seed ms tail) (requests paths (seconds seed ms tail)) (seconds_text seed ms taken)
  seconds_spoken [] tail taken s = s
  seconds_spoken (m ∷ ms) tail taken s =
      let size = short_answer (codes "alpha") seed m.number (omega arith) in
      let more = seconds_text seed ms taken in
      inr (
        requests paths (seconds seed ms tail),
        filtered (codes "alpha") seed m.number,
        more,
        refl,
        refl,
        good_part law false (answer (codes "alpha") seed m.number) more size.0 size.1,
        seconds_spoken ms tail taken s,
      )

  -- a list names paths that are late, each once
  small_names : (is : List ℕ) → AllByRecursion (λ p. pkt_len p ≤ 65520) (map (pathname seed) is ++ Flush ∷ status (codes "success"))
  small_names [] = (omega arith, (omega arith, (omega arith, tt)))
  small_names (i ∷ is) = (omega arith, small_names is)

  names_are : (gs : List Mark) → HaveNames paths seed gs → map (name seed) (numbers gs) ≡ map paths.text (places gs)
  names_are [] h = refl
  names_are (m ∷ ms) h = λ j. sym h.0 j ∷ names_are ms h.1 j

  none_listed : (is : List ℕ) → AllByRecursion (λ i. name_in [] (name seed i) ≡ false) is
  none_listed [] = tt
  none_listed (i ∷ is) = (refl, none_listed is)

  list_part : (late : List ℕ) (is : List ℕ) (rest : List ℕ)
      → AllByRecursion (λ i. name_in (map paths.text late) (name seed i) ≡ true) is → Differ seed is → length is ≤ 99999
      → IsPart (list_step (map paths.text late)) list_start (list_text seed is) rest (Good (Listed (map (name seed) is))) (λ _. Unit {0})
  list_part late is rest a d few =
      let ends = lists seed (map paths.text late) [] limit is a (none_listed is) d (omega (arith, few)) in
      record {
        packets = map (pathname seed) is ++ Flush ∷ status (codes "success");
        spelled = spelled law (map (pathname seed) is ++ Flush ∷ status (codes "success")) (small_names is);
        stops = subst (λ s. StopsAt s rest (Good (Listed (map (name seed) is)))) (sym ends) refl;
        done = tt;
      }

  last_spoken : (late : List ℕ) → Spoken paths alpha_caps (last_list late) (requests paths (last_list late)) (list_text seed [])
  last_spoken late =
      inr (
        [],
        list_text seed [],
        [],
        refl,
        sym (append-nil (list_text seed [])),
        (Good (Listed []), (refl, refl), list_part late [] [] tt tt (omega arith)),
        refl,
      )

  listed_spoken : (late : List ℕ) (gs : List Mark) → AreGiven paths seed late gs
      → Spoken paths alpha_caps (listed seed late gs) (requests paths (listed seed late gs)) (listed_text seed gs)
  listed_spoken late [] h = last_spoken late
  listed_spoken late (m ∷ ms) h =
      let gs = m ∷ ms in
      let rest = seconds seed gs (last_list (withouts late (places gs))) in
      let more = seconds_text seed gs (list_text seed []) in
      inr (
        requests paths rest,
        list_text seed (numbers gs),
        more,
        refl,
        refl,
        (
          Good (Listed (map (name seed) (numbers gs))),
          ap (λ (l : List (List ℕ)). Good (Listed l)) (names_are gs h.named),
          list_part late (numbers gs) more h.late_ones h.differ h.few,
        ),
        seconds_spoken gs (last_list (withouts late (places gs))) (list_text seed []) (last_spoken (withouts late (places gs))),
      )

  tail_spoken : (any : Bool) (late : List ℕ) (gs : List Mark) → AreGiven paths seed late gs
      → Spoken paths alpha_caps (tail_of seed any late gs) (requests paths (tail_of seed any late gs)) (tail_text seed any gs)
  tail_spoken true late gs h = listed_spoken late gs h
  tail_spoken false late gs h = inr ([], [], [], refl, refl, refl, refl)

abbrev pub late_of : ℕ → List Mark → List ℕ
late_of seed ms = late_after seed [] ms

abbrev pub any_of : ℕ → List Mark → Bool
any_of seed ms = any_after seed false ms

abbrev pub said : ℕ → List Mark → List Exchange
said seed ms = firsts seed ms (tail_of seed (any_of seed ms) (late_of seed ms) (given_marks seed ms))

pub all_spoken : SpellingSpells → (paths : Paths) (seed : ℕ) (ms : List Mark) → AreAlphas seed ms
    → AreGiven paths seed (late_of seed ms) (given_marks seed ms)
    → Spoken paths alpha_caps (said seed ms) (requests paths (said seed ms))
    (flat_map (alpha_first seed) (numbers ms) ++ tail_text seed (any_of seed ms) (given_marks seed ms))
all_spoken law paths seed ms h g =
    firsts_spoken law paths seed ms _ _ h (tail_spoken law paths seed (any_of seed ms) (late_of seed ms) (given_marks seed ms) g)

-- the text that is told is that
given_numbers : (seed : ℕ) (ms : List Mark) → numbers (given_marks seed ms) ≡ given seed (numbers ms)
given_numbers seed [] = refl
given_numbers seed (m ∷ ms) =
    map-append (λ (x : Mark). x.number) (given_marks seed ms) (if is_given seed m.number then m ∷ [] else [])
    ∙ (λ j. given_numbers seed ms j ++ one (is_given seed m.number) j)
  where
    one : (b : Bool) → numbers (if b then m ∷ [] else []) ≡ (if b then m.number ∷ [] else [])
    one true = refl
    one false = refl

any_is : (seed : ℕ) (ms : List Mark) → AreAlphas seed ms → (b : Bool)
    → any_after seed b ms ≡ (b || list_any (is_delayed seed) (numbers ms))
any_is seed [] h b = by b
  where
    by : (b : Bool) → b ≡ (b || false)
    by true = refl
    by false = refl
any_is seed (m ∷ ms) h b =
    by (kind seed m.number == 4) (kind seed m.number == 5) h.0
    (λ e. ap (λ (k : ℕ). k == 5) (is_equal (kind seed m.number) 4 e)) (any_is seed ms h.1) b
  where
    by : (f g : Bool) → (f || g) ≡ true → (f ≡ true → g ≡ false) → ((b : Bool) → any_after seed b ms ≡ (b || list_any (is_delayed seed) (numbers ms)))
        → (b : Bool) → any_after seed (if f then b else true) ms ≡ (b || (g || list_any (is_delayed seed) (numbers ms)))
    by true true k not_both more b = absurd (true≢false (not_both refl))
    by true false k not_both more b = more b
    by false true k not_both more true = more true
    by false true k not_both more false = more true
    by false false k not_both more b = absurd (true≢false (sym k))

seconds_text_is : (seed : ℕ) (ms : List Mark) (more : List ℕ)
    → seconds_text seed ms more ≡ flat_map (filtered (codes "alpha") seed) (numbers ms) ++ more
seconds_text_is seed [] more = refl
seconds_text_is seed (m ∷ ms) more =
    ap (λ (x : List ℕ). filtered (codes "alpha") seed m.number ++ x) (seconds_text_is seed ms more)
    ∙ sym (append_assoc (filtered (codes "alpha") seed m.number) (flat_map (filtered (codes "alpha") seed) (numbers ms)) more)

listed_text_is : (seed : ℕ) (gs : List Mark) → listed_text seed gs ≡ given_text seed (numbers gs) ++ list_text seed []
listed_text_is seed [] = refl
listed_text_is seed (m ∷ ms) =
    let gs = m ∷ ms in
    ap (λ (x : List ℕ). list_text seed (numbers gs) ++ x) (seconds_text_is seed gs (list_text seed []))
    ∙ sym (append_assoc (list_text seed (numbers gs)) (flat_map (filtered (codes "alpha") seed) (numbers gs)) (list_text seed []))

tail_text_is : (seed : ℕ) (any : Bool) (gs : List Mark) → tail_text seed any gs
    ≡ (if any then given_text seed (numbers gs) ++ list_text seed [] else [])
tail_text_is seed true gs = listed_text_is seed gs
tail_text_is seed false gs = refl

pub text_is : (seed : ℕ) (ms : List Mark) → AreAlphas seed ms
    → tail_text seed (any_of seed ms) (given_marks seed ms) ≡ alpha_lists seed (numbers ms)
text_is seed ms h =
    tail_text_is seed (any_of seed ms) (given_marks seed ms)
    ∙ (λ j. if any_is seed ms h false j then given_text seed (given_numbers seed ms j) ++ list_text seed [] else [])
