-- The talk of a rehearsal with its driver `alpha` leads to its end.
use Rattle.std.proofs.Common.{◌≡◌, ℕ, Bool, true, false, List, [], ◌∷◌, ◌++◌, map, length, append_assoc, Some, refl, sym, ap, ◌∙◌}
use Rattle.std.specs.Prelude.{codes, ◌==◌, if◌then◌else◌}
use Rattle.std.proofs.lemmas.List.{append-nil}
use Rattle.filter_words.specs.declared.reply.Reply.TheVariants as reply
use Rattle.filter_words.specs.declared.reply.ListReply.TheVariants as list
use Rattle.delay_table.specs.Table.{contains, without}
use Rattle.filter_proto.specs.Exchanges.{Good}
use Rattle.checkout_core.specs.declared.event.Event.{Event}
use Rattle.checkout_core.specs.declared.event.Event.TheVariants as event
use Rattle.checkout_core.specs.Talks.{Talk, Between, InRound, Ended, talk_run}
use Rattle.driver_line.specs.Conversations.{Exchange, Opening, First, Second, Listing, Shutting, notes_of, FitsTalk, LeadsTo}
use Rattle.rehearsal.specs.Paths.{kind}
use Rattle.rehearsal_numbers.proofs.Marked.{Mark, places, self}
use Rattle.rehearsal_numbers.proofs.Replies.{alpha_caps}
use Rattle.rehearsal_numbers.proofs.Beta.{answer}
use Rattle.rehearsal_numbers.proofs.Alpha.{asks, firsts, seconds, last_list, listed, tail_of, withouts, late_after, any_after, late_of, any_of, given_marks, said}

abbrev round : Bool → Bool → List ℕ → List ℕ → List ℕ → Talk
round any noting rest late turns =
    InRound (record { delay = true; any_delayed = any; noting_list = noting; rest = rest; late = late; turns = turns })

-- each of these can be listed, one after another
abbrev pub Listable : List ℕ → List ℕ → Type 0
Listable late [] = Unit {0}
Listable late (q ∷ qs) = (contains q late ≡ true) × Listable (without q late) qs

module _ (d seed : ℕ) where
  -- the first requests
  fits : (t : Talk) (m : Mark) → FitsTalk t (asks seed m)
  fits t m = by (kind seed m.number == 4)
    where
      by : (a : Bool) → FitsTalk t (if a then First m.place reply.Content (answer (codes "alpha") seed m.number) else First m.place reply.Delayed [])
      by true = tt
      by false = tt

  goes_on : (any : Bool) (m : Mark) (rest late : List ℕ)
      → talk_run d (round any false (m.place ∷ rest) late []) (notes_of d (asks seed m))
      ≡ Some (round (if kind seed m.number == 4 then any else true) false rest (if kind seed m.number == 4 then late else m.place ∷ late) [])
  goes_on any m rest late = by (kind seed m.number == 4)
    where
      by : (a : Bool) → talk_run d (round any false (m.place ∷ rest) late [])
          (notes_of d (if a then First m.place reply.Content (answer (codes "alpha") seed m.number) else First m.place reply.Delayed []))
          ≡ Some (round (if a then any else true) false rest (if a then late else m.place ∷ late) [])
      by true = rw (self m.place, talk_run) refl
      by false = rw (self m.place, talk_run) refl

  firsts_lead : (any : Bool) (late : List ℕ) (ms : List Mark) (tail : List Exchange)
      → LeadsTo d (round (any_after seed any ms) false [] (late_after seed late ms) []) tail Ended
      → LeadsTo d (round any false (places ms) late []) (firsts seed ms tail) Ended
  firsts_lead any late [] tail h = h
  firsts_lead any late (m ∷ ms) tail h = (
    round (if kind seed m.number == 4 then any else true) false (places ms) (if kind seed m.number == 4 then late else m.place ∷ late) [],
    fits (round any false (places (m ∷ ms)) late []) m,
    goes_on any m (places ms) late,
    firsts_lead (if kind seed m.number == 4 then any else true) (if kind seed m.number == 4 then late else m.place ∷ late) ms tail h,
  )

  -- the second requests
  redoes : (m : Mark) (late turns : List ℕ)
      → talk_run d (round true false [] late (m.place ∷ turns)) (notes_of d (Second m.place reply.Content (answer (codes "alpha") seed m.number)))
      ≡ Some (round true false [] late turns)
  redoes m late turns = rw (self m.place, talk_run) refl

  seconds_lead : (late : List ℕ) (ms : List Mark) (tail : List Exchange)
      → LeadsTo d (round true false [] late []) tail Ended
      → LeadsTo d (round true false [] late (places ms)) (seconds seed ms tail) Ended
  seconds_lead late [] tail h = h
  seconds_lead late (m ∷ ms) tail h =
      (round true false [] late (places ms), tt, redoes m late (places ms), seconds_lead late ms tail h)

  -- the empty list
  empties : (late : List ℕ) → talk_run d (round true false [] late []) (notes_of d (Listing late [] list.Empty)) ≡ Some Ended
  empties late = rw (self d, talk_run) refl

  last_leads : (late : List ℕ) → LeadsTo d (round true false [] late []) (last_list late) Ended
  last_leads late = (Ended, refl, empties late, refl)

  shuts : (late : List ℕ) → talk_run d (round false false [] late []) (notes_of d Shutting) ≡ Some Ended
  shuts late = rw (self d, talk_run) refl

  -- a list of names
  first_name : (q : ℕ) (late : List ℕ) (es : List Event) → contains q late ≡ true
      → talk_run d (round true false [] late []) (event.Named q ∷ es) ≡ talk_run d (round true true [] (without q late) (q ∷ [])) es
  first_name q late es h = rw (h, talk_run) refl

  next_name : (q : ℕ) (late turns : List ℕ) (es : List Event) → contains q late ≡ true
      → talk_run d (round true true [] late turns) (event.Named q ∷ es) ≡ talk_run d (round true true [] (without q late) (turns ++ q ∷ [])) es
  next_name q late turns es h = rw (h, talk_run) refl

  names_lead : (late turns qs : List ℕ) (es : List Event) → Listable late qs
      → talk_run d (round true true [] late turns) (map event.Named qs ++ es) ≡ talk_run d (round true true [] (withouts late qs) (turns ++ qs)) es
  names_lead late turns [] es h =
      ap (λ (l : List ℕ). talk_run d (round true true [] late l) es) (sym (append-nil turns))
  names_lead late turns (q ∷ qs) es h =
      next_name q late turns (map event.Named qs ++ es) h.0
      ∙ names_lead (without q late) (turns ++ q ∷ []) qs es h.1
      ∙ ap (λ (l : List ℕ). talk_run d (round true true [] (withouts (without q late) qs) l) es) (append_assoc turns (q ∷ []) qs)

  names_end : (late turns : List ℕ)
      → talk_run d (round true true [] late turns) (event.Listed d (list.Names (length turns)) ∷ []) ≡ Some (round true false [] late turns)
  names_end late turns = rw (self d, self (length turns), talk_run) refl

  list_leads : (late : List ℕ) (m : Mark) (ms : List Mark) → Listable late (places (m ∷ ms))
      → talk_run d (round true false [] late []) (notes_of d (Listing late (places (m ∷ ms)) (list.Names (length (places (m ∷ ms))))))
      ≡ Some (round true false [] (withouts late (places (m ∷ ms))) (places (m ∷ ms)))
  list_leads late m ms h =
      let ps = places (m ∷ ms) in
      let es : List Event = event.Listed d (list.Names (length ps)) ∷ [] in
      first_name m.place late (map event.Named (places ms) ++ es) h.0
      ∙ names_lead (without m.place late) (m.place ∷ []) (places ms) es h.1
      ∙ names_end (withouts late ps) ps

  listed_lead : (late : List ℕ) (gs : List Mark) → Listable late (places gs)
      → LeadsTo d (round true false [] late []) (listed seed late gs) Ended
  listed_lead late [] h = last_leads late
  listed_lead late (m ∷ ms) h = (
    round true false [] (withouts late (places (m ∷ ms))) (places (m ∷ ms)),
    refl,
    list_leads late m ms h,
    seconds_lead (withouts late (places (m ∷ ms))) (m ∷ ms) (last_list (withouts late (places (m ∷ ms))))
        (last_leads (withouts late (places (m ∷ ms)))),
  )

  tail_leads : (any : Bool) (late : List ℕ) (gs : List Mark) → Listable late (places gs)
      → LeadsTo d (round any false [] late []) (tail_of seed any late gs) Ended
  tail_leads true late gs h = listed_lead late gs h
  tail_leads false late gs h = (Ended, tt, shuts late, refl)

  opens : (m : Mark) (ms : List Mark)
      → talk_run d (Between (places (m ∷ ms))) (notes_of d (Opening m.place (Good alpha_caps))) ≡ Some (round false false (places (m ∷ ms)) [] [])
  opens m ms = rw (self d, talk_run) refl

  pub leads_all : (m : Mark) (ms : List Mark) → Listable (late_of seed (m ∷ ms)) (places (given_marks seed (m ∷ ms)))
      → LeadsTo d (Between (places (m ∷ ms))) (Opening m.place (Good alpha_caps) ∷ said seed (m ∷ ms)) Ended
  leads_all m ms h = (
    round false false (places (m ∷ ms)) [] [],
    refl,
    opens m ms,
    firsts_lead false [] (m ∷ ms) _ (tail_leads (any_of seed (m ∷ ms)) (late_of seed (m ∷ ms)) (given_marks seed (m ∷ ms)) h),
  )
