-- The requests of two talks over the same paths.
use Rattle.std.proofs.Common.{◌≡◌, ◌⊎◌, inl, inr, ℕ, Bool, true, List, [], ◌∷◌, Some, refl, sym, ap, ◌∙◌, map}
use Rattle.filter_words.specs.Requests.{list_text, first_text, second_text}
use Rattle.filter_words.specs.declared.reply.Caps.{Caps}
use Rattle.delay_table.specs.Table.{contains}
use Rattle.checkout_core.specs.declared.path.Heard.{Heard}
use Rattle.checkout_core.specs.Fates.{Fate, Untold, Later, Known}
use Rattle.checkout_core.specs.Talks.{Talk, talk_run}
use Rattle.driver_line.specs.Conversations.{Exchange, NoStart, NoRoom, Opening, First, Listing, Second, Shutting, LeadsTo, notes_of}
use Rattle.driver_line.specs.Lines.{Paths}
use Rattle.driver_line.specs.SameHeard.{HaveSamePaths}
use Rattle.driver_line.specs.Transcripts.{request_of}
use Rattle.driver_line.proofs.Calm.{Goes}
use Rattle.driver_line.proofs.TalkDue.{Due, Start, Ask, AskAgain, Lists, Shuts, Nothing, due_of, due_at, due_is}
use Rattle.driver_line.proofs.SameStates.{Stands, after, stands_after, ask_untold, again_later}

-- the request of what comes next

abbrev request_at : Paths → Caps → Due → List ℕ
request_at paths caps (Ask p) = first_text (paths.text p) (paths.name p) caps.delay (paths.content p)
request_at paths caps (AskAgain p) = second_text (paths.text p) (paths.name p)
request_at paths caps Lists = list_text
request_at paths caps (Start p) = []
request_at paths caps Shuts = []
request_at paths caps Nothing = []

request_due : (paths : Paths) (caps : Caps) (e : Exchange) → request_of paths caps e ≡ request_at paths caps (due_of e)
request_due paths caps (First p r c) = refl
request_due paths caps (Second p r c) = refl
request_due paths caps (Listing late names r) = refl
request_due paths caps Shutting = refl
request_due paths caps (NoStart p) = refl
request_due paths caps (NoRoom p) = refl
request_due paths caps (Opening p end) = refl

module _ (a b : Paths) (asked : List ℕ) (agree : HaveSamePaths a b asked) (caps : Caps) (d : ℕ) where
  asked_path : (t : Talk) (fate : ℕ → Fate) (p : ℕ) → Stands asked t fate → ((h : Heard) → fate p ≡ Known h → ⊥) → contains p asked ≡ true
  asked_path t fate p s open_ = elim (s.within p) [ inl k ↦ k | inr k ↦ absurd (open_ k.0 k.1) ]

  requests_at : (t : Talk) (fate : ℕ → Fate) (x : Due) → Stands asked t fate → x ≡ due_at t → request_at a caps x ≡ request_at b caps x
  requests_at t fate (Ask p) s due =
      let untold : fate p ≡ Untold = ask_untold t p (fate p) due (s.fits p) in
      let same = agree p (asked_path t fate p s (λ h k. let bad : Untold ≡ Known h = sym untold ∙ k in absurd (cc bad))) in
      ap (λ (x : List ℕ). first_text x (a.name p) caps.delay (a.content p)) same.0
      ∙ (ap (λ (x : List ℕ). first_text (b.text p) x caps.delay (a.content p)) same.1
      ∙ ap (λ (x : List ℕ). first_text (b.text p) (b.name p) caps.delay x) same.2)
  requests_at t fate (AskAgain p) s due =
      let later : fate p ≡ Later = again_later t p (fate p) due (s.fits p) in
      let same = agree p (asked_path t fate p s (λ h k. let bad : Later ≡ Known h = sym later ∙ k in absurd (cc bad))) in
      ap (λ (x : List ℕ). second_text x (a.name p)) same.0 ∙ ap (λ (x : List ℕ). second_text (b.text p) x) same.1
  requests_at t fate Lists s due = refl
  requests_at t fate (Start p) s due = refl
  requests_at t fate Shuts s due = refl
  requests_at t fate Nothing s due = refl

  pub same_due : (t : Talk) (fate : ℕ → Fate) (e f : Exchange) (u v : Talk) → Stands asked t fate → Goes d t e u → Goes d t f v → due_of e ≡ due_of f
  same_due t fate e f u v s g h = due_is d t e u g.0 g.1 s.none s.turns ∙ sym (due_is d t f v h.0 h.1 s.none s.turns)

  pub same_request : (t : Talk) (fate : ℕ → Fate) (e f : Exchange) (u v : Talk) → Stands asked t fate → Goes d t e u → Goes d t f v → request_of a caps e ≡ request_of b caps f
  same_request t fate e f u v s g h =
      request_due a caps e ∙ (requests_at t fate (due_of e) s (due_is d t e u g.0 g.1 s.none s.turns)
      ∙ (ap (request_at b caps) (same_due t fate e f u v s g h) ∙ sym (request_due b caps f)))

  -- of the same exchanges they are the same
  pub same_requests : (t : Talk) (fate : ℕ → Fate) (es : List Exchange) (u : Talk) → Stands asked t fate → LeadsTo d t es u → map (request_of a caps) es ≡ map (request_of b caps) es
  same_requests t fate [] u s l = refl
  same_requests t fate (e ∷ es) u s l =
      both (same_request t fate e e l.0 l.0 s (l.1, l.2) (l.1, l.2)) (same_requests l.0 (after d e fate) es u (stands_after asked d t fate e l.0 l.2 s) l.3)
    where
      both : {x y : List ℕ} {xs ys : List (List ℕ)} → x ≡ y → xs ≡ ys → x ∷ xs ≡ y ∷ ys
      both p q = cc (p, q)
