-- The cards of a plan, one after another.
use Rattle.std.proofs.Common.{append-nil, ◌≡◌, ℕ, zero, suc, ◌+◌, ◌<◌, ◌≤◌, Bool, true, false, cond, List, [], ◌∷◌, ◌++◌, length, length-append, get_or, take, Option, Some, None, refl, sym, ap, ◌∙◌, subst, ⊎_elim, arith}
use Rattle.std.specs.Prelude.{slice_get, map}
use Rattle.std.specs.List.{filter}
use Rattle.std.specs.Option.{option_map}
use Rattle.std.proofs.lemmas.List.{take_more, length-take, map-append, length-map}
use Rattle.std.proofs.lemmas.List.Elements.{filter-append}
use Rattle.std.proofs.lemmas.Option.{same_Some, slice_get_within, slice_get-map}
use Rattle.edge_kit.specs.Told.{Told}
use Rattle.convert_plan.specs.declared.card.Card.{Card}
use Rattle.convert_plan.specs.Card.{CardSeen, IsNewCard}
use Rattle.checkout_core.specs.declared.path.Start.{Start}
use Rattle.checkout_core.specs.declared.path.Start.TheVariants as start
use Rattle.checkout_core.specs.Desks.{paths_of}
use Rattle.checkout_core.specs.States.{is_at}
use Rattle.checkout_book.specs.Sights.{Sight, seen}
use Rattle.checkout_book.specs.Reserving.{ArePool, AreNew}
use Rattle.checkout_plan.specs.declared.path_plan.PathPlan.{PathPlan}
use Rattle.checkout_paths.proofs.Places.{get_front, get_last, get_pushed, get_middle, get_behind}
use Rattle.checkout_paths.specs.Cards.{IsCardFor, AreCards, IsText, IsTextIn, AreTexts, is_of}
use Rattle.checkout_paths.specs.Workers.{is_pool, starts_of}

pool_only : (s : Start) → is_pool s ≡ true → s ≡ start.Pool
pool_only start.Pool e = refl
pool_only (start.Desk d r) e = absurd cc
pool_only (start.Done v) e = absurd cc

-- whether a path is the owner's
abbrev pub mine : Option ℕ → PathPlan → Bool
mine owner p = is_of owner p.start

neither_way : {X : Type 0} → false ≡ true → X
neither_way e = absurd cc

abbrev pub one_if : Bool → ℕ
one_if b = cond b 1 0

-- one path more, the owner's or not
pub count_more : (owner : Option ℕ) (ps : List PathPlan) (p : PathPlan) → length (filter (mine owner) (ps ++ p ∷ [])) ≡ length (filter (mine owner) ps) + one_if (mine owner p)
count_more owner ps p =
    ap length (filter-append (mine owner) ps (p ∷ [])) ∙ length-append (filter (mine owner) ps) (filter (mine owner) (p ∷ []))
    ∙ ap (λ (n : ℕ). length (filter (mine owner) ps) + n) (one (mine owner p) refl)
  where
    one : (b : Bool) → mine owner p ≡ b → length (filter (mine owner) (p ∷ [])) ≡ one_if (mine owner p)
    one true e = rw e refl
    one false e = rw e refl

-- the path at a place is text, if it starts in the pool
pub text_at : (ps : List PathPlan) (n : ℕ) (p : PathPlan) → AreTexts ps → slice_get ps n ≡ Some p → IsTextIn p.start p.path
text_at [] n p all at = absurd cc
text_at (q ∷ ps) zero p all at = subst (λ (x : PathPlan). IsTextIn x.start x.path) (same_Some q p at) all.0
text_at (q ∷ ps) (suc n) p all at = text_at ps n p all.1 at

-- a card as it is made is new
new_card : (object : List ℕ → Told) (n : ℕ) (p : PathPlan) (c : CardSeen) → IsCardFor object n p c → IsText p.path → IsNewCard c
new_card object n p c one text = subst IsNewCard (sym one.same) (record { some = text.some; within = text.within; new_leaf = one.new_leaf; new_blob = refl; unready = refl })

-- the paths of a driver, with one path more
paths_of-more : (d : ℕ) (ss : List Start) (s : Start) → paths_of d (ss ++ s ∷ []) ≡ paths_of d ss ++ cond (is_at d s) (length ss ∷ []) []
paths_of-more d [] s = refl
paths_of-more d (x ∷ ss) s =
    let rest : map (λ i. suc i) (paths_of d (ss ++ s ∷ [])) ≡ map (λ i. suc i) (paths_of d ss) ++ cond (is_at d s) (suc (length ss) ∷ []) [] =
    ap (map (λ i. suc i)) (paths_of-more d ss s) ∙ map-append (λ i. suc i) (paths_of d ss) (cond (is_at d s) (length ss ∷ []) [])
    ∙ ap (λ (l : List ℕ). map (λ i. suc i) (paths_of d ss) ++ l) (moved (is_at d s)) in
    first (is_at d x) _ _ _ rest
  where
    moved : (b : Bool) → map (λ i. suc i) (cond b (length ss ∷ []) []) ≡ cond b (suc (length ss) ∷ []) []
    moved true = refl
    moved false = refl

    first : (b : Bool) (more old last : List ℕ) → more ≡ old ++ last → cond b (zero ∷ more) more ≡ cond b (zero ∷ old) old ++ last
    first true more old last e = ap (λ (l : List ℕ). zero ∷ l) e
    first false more old last e = e

-- a path of an owner is text
text_of : (owner : Option ℕ) (s : Start) (path : List ℕ) → is_of owner s ≡ true → IsTextIn s path → IsText path
text_of owner start.Pool path is text = text
text_of owner (start.Desk d r) path is text = text
text_of None (start.Done v) path is text = absurd cc
text_of (Some d) (start.Done v) path is text = absurd cc

-- a first part has its length
take_length : {X : Type 0} (xs : List X) (n : ℕ) → n < length xs → length (take n xs) ≡ n
take_length xs n lt = omega (arith, length-take n xs, lt)

module _ {B L : Type 0} (owner : Option ℕ) (see : Sight B L) (object : List ℕ → Told) where
  pub no_cards : (cards : List (Card B L)) → cards ≡ [] → AreCards owner see object [] cards
  no_cards cards none = subst (λ (cs : List (Card B L)). AreCards owner see object [] cs) (sym none) (record {
    there = λ k c at. absurd (let e : None ≡ Some c = at in cc e);
    all = λ n p at pool. absurd (let e : None ≡ Some p = at in cc e);
    rises = λ i j a b lt at later. absurd (let e : None ≡ Some a = at in cc e);
    count = refl;
    numbers = λ d is. refl;
  })

  -- one more path that isn't the owner's
  pub other_more : (ps : List PathPlan) (p : PathPlan) (cards : List (Card B L)) → AreCards owner see object ps cards → mine owner p ≡ false → AreCards owner see object (ps ++ p ∷ []) cards
  other_more ps p cards are other = record {
    there = λ k c at. let one = are.there k c at in (one.0, get_front ps (p ∷ []) c.path one.0 one.1, one.2, one.3);
    all = λ n q at pool. ⊎_elim
        (λ (h : slice_get ps n ≡ Some q). are.all n q h pool)
        (λ (h : (n ≡ length ps) × (p ≡ q)). absurd (neither_way (sym other ∙ (ap (mine owner) h.1 ∙ pool))))
        (get_pushed ps p q n at);
    rises = are.rises;
    count = omega (arith, are.count, count_more owner ps p, ap one_if other);
    numbers = λ d is. are.numbers d is ∙ sym (ap (paths_of d) (map-append (λ (x : PathPlan). x.start) ps (p ∷ [])) ∙ (paths_of-more d (starts_of ps) p.start
        ∙ (ap (λ (b : Bool). paths_of d (starts_of ps) ++ cond b (length (starts_of ps) ∷ []) []) (subst (λ (o : Option ℕ). is_of o p.start ≡ false) is other)
        ∙ append-nil (paths_of d (starts_of ps)))));
  }

  -- one more path that is the owner's, with its card
  pub pool_more : (ps : List PathPlan) (p : PathPlan) (cards more : List (Card B L)) (c : Card B L) → AreCards owner see object ps cards → mine owner p ≡ true → c.path ≡ length ps
      → IsCardFor object (length ps) p (seen see c) → more ≡ cards ++ c ∷ [] → AreCards owner see object (ps ++ p ∷ []) more
  pool_more ps p cards more c are pool path one is = subst (λ (cs : List (Card B L)). AreCards owner see object (ps ++ p ∷ []) cs) (sym is) (record {
    there = there;
    all = all;
    rises = rises;
    count = omega (arith, length-append cards (c ∷ []), are.count, count_more owner ps p, ap one_if pool);
    numbers = λ d is. map-append (λ (x : Card B L). x.path) cards (c ∷ []) ∙ (ap (λ (l : List ℕ). l ++ c.path ∷ []) (are.numbers d is)
        ∙ (ap (λ (n : ℕ). paths_of d (starts_of ps) ++ n ∷ []) (path ∙ sym (length-map ps (λ (x : PathPlan). x.start)))
        ∙ sym (ap (paths_of d) (map-append (λ (x : PathPlan). x.start) ps (p ∷ [])) ∙ (paths_of-more d (starts_of ps) p.start
        ∙ ap (λ (b : Bool). paths_of d (starts_of ps) ++ cond b (length (starts_of ps) ∷ []) []) (subst (λ (o : Option ℕ). is_of o p.start ≡ true) is pool)))));
  })
    where
      there : (k : ℕ) (x : Card B L) → slice_get (cards ++ c ∷ []) k ≡ Some x
          → (q : PathPlan) × (slice_get (ps ++ p ∷ []) x.path ≡ Some q) × (mine owner q ≡ true) × IsCardFor object x.path q (seen see x)
      there k x at = ⊎_elim
          (λ (h : slice_get cards k ≡ Some x). let old = are.there k x h in (old.0, get_front ps (p ∷ []) x.path old.0 old.1, old.2, old.3))
          (λ (h : (k ≡ length cards) × (c ≡ x)). subst
          (λ (y : Card B L). (q : PathPlan) × (slice_get (ps ++ p ∷ []) y.path ≡ Some q) × (mine owner q ≡ true) × IsCardFor object y.path q (seen see y)) h.1
          (p, ap (slice_get (ps ++ p ∷ [])) path ∙ get_last ps p, pool, subst (λ (n : ℕ). IsCardFor object n p (seen see c)) (sym path) one))
          (get_pushed cards c x k at)

      all : (n : ℕ) (q : PathPlan) → slice_get (ps ++ p ∷ []) n ≡ Some q → mine owner q ≡ true → (k : ℕ) × (x : Card B L) × (slice_get (cards ++ c ∷ []) k ≡ Some x) × (x.path ≡ n)
      all n q at begins = ⊎_elim
          (λ (h : slice_get ps n ≡ Some q). let old = are.all n q h begins in (old.0, old.1, get_front cards (c ∷ []) old.0 old.1 old.2, old.3))
          (λ (h : (n ≡ length ps) × (p ≡ q)). (length cards, c, get_last cards c, path ∙ sym h.0))
          (get_pushed ps p q n at)

      below : (i : ℕ) (a : Card B L) → slice_get cards i ≡ Some a → a.path < length ps
      below i a at = let old = are.there i a at in slice_get_within ps a.path old.0 old.1

      rises : (i j : ℕ) (a b : Card B L) → i < j → slice_get (cards ++ c ∷ []) i ≡ Some a → slice_get (cards ++ c ∷ []) j ≡ Some b → a.path < b.path
      rises i j a b lt at later = ⊎_elim
          (λ (h : slice_get cards i ≡ Some a). ⊎_elim
          (λ (k : slice_get cards j ≡ Some b). are.rises i j a b lt h k)
          (λ (k : (j ≡ length cards) × (c ≡ b)). let last : b.path ≡ length ps = ap (λ (x : Card B L). x.path) (sym k.1) ∙ path in omega (arith, last, below i a h))
          (get_pushed cards c b j later))
          (λ (h : (i ≡ length cards) × (c ≡ a)). ⊎_elim
          (λ (k : slice_get cards j ≡ Some b). absurd (omega (arith, lt, h.0, slice_get_within cards j b k)))
          (λ (k : (j ≡ length cards) × (c ≡ b)). absurd (omega (arith, lt, h.0, k.0)))
          (get_pushed cards c b j later))
          (get_pushed cards c a i at)

  -- they are new
  pub cards_new : (ps : List PathPlan) (cards : List (Card B L)) → AreTexts ps → AreCards owner see object ps cards → AreNew see cards
  cards_new ps cards texts are k c at =
      let one = are.there k c at in
      new_card object c.path one.0 (seen see c) one.3 (text_of owner (one.0).start (one.0).path one.2 (text_at ps c.path one.0 texts one.1))

  -- the same for the paths up to a place
  pub step_pool : (ps : List PathPlan) (n : ℕ) (p : PathPlan) (cards more : List (Card B L)) (c : Card B L) → n < length ps → p ≡ get_or ps n p → AreCards owner see object (take n ps) cards → mine owner p ≡ true
      → c.path ≡ n → IsCardFor object n p (seen see c) → more ≡ cards ++ c ∷ [] → AreCards owner see object (take (n + 1) ps) more
  step_pool ps n p cards more c lt at are pool path one is =
      let count : length (take n ps) ≡ n = take_length ps n lt in
      subst (λ (l : List PathPlan). AreCards owner see object l more) (sym (take_more ps n p lt ∙ ap (λ (x : PathPlan). take n ps ++ x ∷ []) (sym at)))
      (pool_more (take n ps) p cards more c are pool (path ∙ sym count) (subst (λ (k : ℕ). IsCardFor object k p (seen see c)) (sym count) one) is)

  pub step_other : (ps : List PathPlan) (n : ℕ) (p : PathPlan) (cards : List (Card B L)) → n < length ps → p ≡ get_or ps n p → AreCards owner see object (take n ps) cards → mine owner p ≡ false
      → AreCards owner see object (take (n + 1) ps) cards
  step_other ps n p cards lt at are other =
      subst (λ (l : List PathPlan). AreCards owner see object l cards) (sym (take_more ps n p lt ∙ ap (λ (x : PathPlan). take n ps ++ x ∷ []) (sym at)))
      (other_more (take n ps) p cards are other)

module _ {B L : Type 0} (see : Sight B L) (object : List ℕ → Told) where
  -- the cards are those of the pool
  pub cards_pool : (ps : List PathPlan) (starts : List Start) (cards : List (Card B L)) → starts ≡ starts_of ps → AreCards None see object ps cards → ArePool starts cards
  cards_pool ps starts cards is are = subst (λ (ss : List Start). ArePool ss cards) (sym is) (record {
    there = λ k c at. let one = are.there k c at in
        slice_get-map (λ (p : PathPlan). p.start) ps c.path ∙ ap (option_map (λ (p : PathPlan). p.start)) one.1 ∙ ap Some (pool_only (one.0).start one.2);
    all = λ n at. found n (slice_get ps n) refl (sym (slice_get-map (λ (p : PathPlan). p.start) ps n) ∙ at);
    rises = are.rises;
  })
    where
      found : (n : ℕ) (o : Option PathPlan) → slice_get ps n ≡ o → option_map (λ (p : PathPlan). p.start) (slice_get ps n) ≡ Some start.Pool
          → (k : ℕ) × (c : Card B L) × (slice_get cards k ≡ Some c) × (c.path ≡ n)
      found n None at begins = absurd (let e : None ≡ Some start.Pool = rw at at begins in cc e)
      found n (Some p) at begins = are.all n p at (ap is_pool (same_Some p.start start.Pool (ap (option_map (λ (x : PathPlan). x.start)) (sym at) ∙ begins)))

-- new cards between others
module _ {B L : Type 0} (see : Sight B L) where
  pub new_here : (ys xs cards : List (Card B L)) (x : Card B L) → ys ++ x ∷ xs ≡ cards → AreNew see cards → IsNewCard (seen see x)
  new_here ys xs cards x is new = new (length ys) x (subst (λ (l : List (Card B L)). slice_get l (length ys) ≡ Some x) is (get_middle ys x xs))

  pub new_between : (xs ys zs : List (Card B L)) → AreNew see (xs ++ (ys ++ zs)) → AreNew see ys
  new_between xs ys zs new k c at = new (length xs + k) c (get_behind xs (ys ++ zs) k ∙ get_front ys zs k c at)

-- texts of a first part
pub texts_take : (ps : List PathPlan) (n : ℕ) → AreTexts ps → AreTexts (take n ps)
texts_take [] zero all = tt
texts_take [] (suc n) all = tt
texts_take (p ∷ ps) zero all = tt
texts_take (p ∷ ps) (suc n) all = (all.0, texts_take ps n all.1)

-- a first part has no more paths of an owner
take_few : (owner : Option ℕ) (ps : List PathPlan) (n : ℕ) → length (filter (mine owner) (take n ps)) ≤ length (filter (mine owner) ps)
take_few owner [] zero = omega arith
take_few owner [] (suc n) = omega arith
take_few owner (p ∷ ps) zero = omega arith
take_few owner (p ∷ ps) (suc n) = by (mine owner p) (take_few owner ps n)
  where
    by : (b : Bool) → length (filter (mine owner) (take n ps)) ≤ length (filter (mine owner) ps)
        → length (cond b (p ∷ filter (mine owner) (take n ps)) (filter (mine owner) (take n ps))) ≤ length (cond b (p ∷ filter (mine owner) ps) (filter (mine owner) ps))
    by true rest = omega (arith, rest)
    by false rest = rest

-- there is room for the card of one more path
pub room_left : (owner : Option ℕ) (ps : List PathPlan) (n : ℕ) (p : PathPlan) → n < length ps → p ≡ get_or ps n p → mine owner p ≡ true
    → length (filter (mine owner) (take n ps)) < length (filter (mine owner) ps)
room_left owner ps n p lt at is =
    let next : take (n + 1) ps ≡ take n ps ++ p ∷ [] = take_more ps n p lt ∙ ap (λ (x : PathPlan). take n ps ++ x ∷ []) (sym at) in
    let more : length (filter (mine owner) (take (n + 1) ps)) ≡ length (filter (mine owner) (take n ps)) + 1 =
    ap (λ (l : List PathPlan). length (filter (mine owner) l)) next ∙ (count_more owner (take n ps) p ∙ ap (λ (k : ℕ). length (filter (mine owner) (take n ps)) + k) (ap one_if is)) in
    omega (arith, more, take_few owner ps (n + 1))
