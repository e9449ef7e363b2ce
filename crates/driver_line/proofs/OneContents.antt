-- A path gets one content in a talk.
use Rattle.std.proofs.Common.{◌≡◌, ◌==◌, inl, inr, ℕ, Bool, true, false, cond}
use Rattle.std.proofs.Common.{List, [], ◌∷◌, Option, Some, refl, sym, ap, subst, ◌∙◌}
use Rattle.std.proofs.lemmas.Bool.{eqb-true, eq-eqb}
use Rattle.filter_words.specs.declared.reply.Reply.TheVariants as reply
use Rattle.checkout_core.specs.declared.event.Event.TheVariants as ev
use Rattle.checkout_core.specs.declared.path.Heard.{Heard}
use Rattle.checkout_core.specs.declared.path.Heard.TheVariants as heard
use Rattle.checkout_core.specs.Fates.{Fate, Untold, Later, Known, fate_of}
use Rattle.checkout_core.specs.Talks.{Talk, Between}
use Rattle.driver_line.specs.Conversations.{Exchange, NoStart, NoRoom, Opening, First, Listing, Second, Shutting, notes_of, LeadsTo}
use Rattle.driver_line.specs.SameHeard.{content_of}
use Rattle.driver_line.specs.OneContent.{Gives, HasGiven, OneContent}
use Rattle.driver_line.proofs.TalkDue.{due_is}
use Rattle.driver_line.proofs.SameStates.{Stands, after, stands_after, known_stays, ask_untold, again_later}
use Rattle.driver_line.proofs.SameTalks.{first_fate, begins}

module _ (asked : List ℕ) (d p : ℕ) (content : List ℕ) where
  -- what is told of a path before an exchange that gives its content
  open_before : (t : Talk) (fate : ℕ → Fate) (e : Exchange) (es : List Exchange) (u : Talk) (h : Heard) → Stands asked t fate → LeadsTo d t (e ∷ es) u → Gives e p content → fate p ≡ Known h → ⊥
  open_before t fate (First q reply.Content c) es u h s l g k =
      let untold : fate q ≡ Untold = ask_untold t q (fate q) (due_is d t (First q reply.Content c) l.0 l.1 l.2 s.none s.turns) (s.fits q) in
      let here : fate q ≡ Known h = subst (λ (x : ℕ). fate x ≡ Known h) (sym g.0) k in
      absurd (cc (sym untold ∙ here))
  open_before t fate (Second q reply.Content c) es u h s l g k =
      let later : fate q ≡ Later = again_later t q (fate q) (due_is d t (Second q reply.Content c) l.0 l.1 l.2 s.none s.turns) (s.fits q) in
      let here : fate q ≡ Known h = subst (λ (x : ℕ). fate x ≡ Known h) (sym g.0) k in
      absurd (cc (sym later ∙ here))
  open_before t fate (First q reply.Error c) es u h s l g k = g
  open_before t fate (First q reply.ErrorAfter c) es u h s l g k = g
  open_before t fate (First q reply.Delayed c) es u h s l g k = g
  open_before t fate (First q reply.Abort c) es u h s l g k = g
  open_before t fate (First q (reply.Broken why) c) es u h s l g k = g
  open_before t fate (First q reply.NoMemory c) es u h s l g k = g
  open_before t fate (Second q reply.Error c) es u h s l g k = g
  open_before t fate (Second q reply.ErrorAfter c) es u h s l g k = g
  open_before t fate (Second q reply.Delayed c) es u h s l g k = g
  open_before t fate (Second q reply.Abort c) es u h s l g k = g
  open_before t fate (Second q (reply.Broken why) c) es u h s l g k = g
  open_before t fate (Second q reply.NoMemory c) es u h s l g k = g
  open_before t fate (NoStart q) es u h s l g k = g
  open_before t fate (NoRoom q) es u h s l g k = g
  open_before t fate (Opening q end) es u h s l g k = g
  open_before t fate (Listing late names r) es u h s l g k = g
  open_before t fate Shutting es u h s l g k = g

  -- no content follows what is known
  none_follows : (es : List Exchange) (t : Talk) (fate : ℕ → Fate) (u : Talk) (h : Heard) → Stands asked t fate → LeadsTo d t es u → HasGiven es p content → fate p ≡ Known h → ⊥
  none_follows [] t fate u h s l g k = g
  none_follows (e ∷ es) t fate u h s l (inl g) k = open_before t fate e es u h s l g k
  none_follows (e ∷ es) t fate u h s l (inr g) k =
      none_follows es l.0 (after d e fate) u h (stands_after asked d t fate e l.0 l.2 s) l.3 g (ap (λ (f : Fate). fate_of p f (notes_of d e)) k ∙ known_stays p h (notes_of d e))

  given_here : (e : Exchange) (es : List Exchange) → Gives e p content → content_of p (e ∷ es) ≡ Some content
  given_here (First q reply.Content c) es g = let same : p ≡ q = sym g.0 in ap (λ (b : Bool). cond b (Some c) (content_of p es)) (eq-eqb p q same) ∙ ap Some (sym g.1)
  given_here (Second q reply.Content c) es g = let same : p ≡ q = sym g.0 in ap (λ (b : Bool). cond b (Some c) (content_of p es)) (eq-eqb p q same) ∙ ap Some (sym g.1)
  given_here (First q reply.Error c) es g = absurd g
  given_here (First q reply.ErrorAfter c) es g = absurd g
  given_here (First q reply.Delayed c) es g = absurd g
  given_here (First q reply.Abort c) es g = absurd g
  given_here (First q (reply.Broken why) c) es g = absurd g
  given_here (First q reply.NoMemory c) es g = absurd g
  given_here (Second q reply.Error c) es g = absurd g
  given_here (Second q reply.ErrorAfter c) es g = absurd g
  given_here (Second q reply.Delayed c) es g = absurd g
  given_here (Second q reply.Abort c) es g = absurd g
  given_here (Second q (reply.Broken why) c) es g = absurd g
  given_here (Second q reply.NoMemory c) es g = absurd g
  given_here (NoStart q) es g = absurd g
  given_here (NoRoom q) es g = absurd g
  given_here (Opening q end) es g = absurd g
  given_here (Listing late names r) es g = absurd g
  given_here Shutting es g = absurd g

  -- a content that was given before would be told of the path
  told_got : (t : Talk) (fate : ℕ → Fate) (r : Exchange) (es : List Exchange) (u : Talk) → LeadsTo d t (r ∷ es) u → Stands asked t fate → after d r fate p ≡ Known heard.Got → HasGiven es p content → ⊥
  told_got t fate r es u l s k g = none_follows es l.0 (after d r fate) u heard.Got (stands_after asked d t fate r l.0 l.2 s) l.3 g k

  first_got : (f : Fate) (q : ℕ) → f ≡ Untold → p ≡ q → fate_of p f (ev.Answered q reply.Content ∷ []) ≡ Known heard.Got
  first_got f q e same = ap (λ (x : Fate). fate_of p x (ev.Answered q reply.Content ∷ [])) e ∙ ap (λ (b : Bool). cond b (Known heard.Got) Untold) (eq-eqb p q same)

  second_got : (f : Fate) (q : ℕ) → f ≡ Later → p ≡ q → fate_of p f (ev.Redone q reply.Content ∷ []) ≡ Known heard.Got
  second_got f q e same = ap (λ (x : Fate). fate_of p x (ev.Redone q reply.Content ∷ [])) e ∙ ap (λ (b : Bool). cond b (Known heard.Got) Later) (eq-eqb p q same)

  -- the first content of the path is the one that follows
  behind : (c : List ℕ) (q : ℕ) (more : Option (List ℕ)) → (p ≡ q → ⊥) → more ≡ Some content → cond (p == q) (Some c) more ≡ Some content
  behind c q more other e = go (p == q) refl
    where
      go : (b : Bool) → (p == q) ≡ b → cond b (Some c) more ≡ Some content
      go true i = absurd (other (eqb-true p q i))
      go false i = e

  given_later : (t : Talk) (fate : ℕ → Fate) (e : Exchange) (es : List Exchange) (u : Talk) → Stands asked t fate → LeadsTo d t (e ∷ es) u → HasGiven es p content → content_of p es ≡ Some content
      → content_of p (e ∷ es) ≡ Some content
  given_later t fate (First q reply.Content c) es u s l g k =
      behind c q (content_of p es) (λ same.
      let untold : fate p ≡ Untold = subst (λ (x : ℕ). fate x ≡ Untold) (sym same) (ask_untold t q (fate q) (due_is d t (First q reply.Content c) l.0 l.1 l.2 s.none s.turns) (s.fits q)) in
      told_got t fate (First q reply.Content c) es u l s (first_got (fate p) q untold same) g) k
  given_later t fate (Second q reply.Content c) es u s l g k =
      behind c q (content_of p es) (λ same.
      let later : fate p ≡ Later = subst (λ (x : ℕ). fate x ≡ Later) (sym same) (again_later t q (fate q) (due_is d t (Second q reply.Content c) l.0 l.1 l.2 s.none s.turns) (s.fits q)) in
      told_got t fate (Second q reply.Content c) es u l s (second_got (fate p) q later same) g) k
  given_later t fate (First q reply.Error c) es u s l g k = k
  given_later t fate (First q reply.ErrorAfter c) es u s l g k = k
  given_later t fate (First q reply.Delayed c) es u s l g k = k
  given_later t fate (First q reply.Abort c) es u s l g k = k
  given_later t fate (First q (reply.Broken why) c) es u s l g k = k
  given_later t fate (First q reply.NoMemory c) es u s l g k = k
  given_later t fate (Second q reply.Error c) es u s l g k = k
  given_later t fate (Second q reply.ErrorAfter c) es u s l g k = k
  given_later t fate (Second q reply.Delayed c) es u s l g k = k
  given_later t fate (Second q reply.Abort c) es u s l g k = k
  given_later t fate (Second q (reply.Broken why) c) es u s l g k = k
  given_later t fate (Second q reply.NoMemory c) es u s l g k = k
  given_later t fate (NoStart q) es u s l g k = k
  given_later t fate (NoRoom q) es u s l g k = k
  given_later t fate (Opening q end) es u s l g k = k
  given_later t fate (Listing late names r) es u s l g k = k
  given_later t fate Shutting es u s l g k = k

  given : (es : List Exchange) (t : Talk) (fate : ℕ → Fate) (u : Talk) → Stands asked t fate → LeadsTo d t es u → HasGiven es p content → content_of p es ≡ Some content
  given [] t fate u s l g = absurd g
  given (e ∷ es) t fate u s l (inl g) = given_here e es g
  given (e ∷ es) t fate u s l (inr g) =
      given_later t fate e es u s l g (given es l.0 (after d e fate) u (stands_after asked d t fate e l.0 l.2 s) l.3 g)

pub one_content : OneContent
one_content d paths asked items es apart talk p content g = given asked d p content es (Between asked) (first_fate asked) talk.end (begins asked apart) talk.goes g
