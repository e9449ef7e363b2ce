-- A try and a pass keep the rule.
use Rattle.std.proofs.Common.{◌≡◌, ◌≢◌, ◌==◌, ℕ, ◌<◌, Bool, List, [], ◌∷◌, length, get_or, set, Option, Some, refl, sym, ap, ◌∙◌, subst, ⊎_elim, arith, length-set, get_or-set_same, eq-eqb, ne_eqb}
use Rattle.std.specs.Prelude.{slice_index, MatchBool}
use mathlib.Core.Logic.{dite}
use mathlib.Core.Option.{some, none}
use native.Mathlib.Decide.{ℕ_discrete}
use lib.ListN.{get_elem?}
use lib.Seq.{set-get_or}
use prog.Atomic.{either}
use Rattle.atomic_table.specs.Table.{State, Me, step, keeps, takes, gives, stepped, Allows}
use Rattle.atomic_table.proofs.Lists.{set_again, set_here}
use Rattle.turn_lock.specs.declared.view.SeatPlace.{SeatPlace}
use Rattle.turn_lock.specs.declared.view.SeatPlace.TheVariants.{Out, Inside}
use Rattle.turn_lock.specs.declared.view.Old.{Old}
use Rattle.turn_lock.specs.declared.view.View.{View}
use Rattle.turn_lock.specs.declared.view.Knows.{Knows}
use Rattle.turn_lock.specs.declared.view.Knows.TheVariants.{Seated}
use Rattle.turn_lock.specs.History.{own, Begins, Follows}
use Rattle.turn_lock.specs.Rule.{IsOld, Fits, InPlace, Live, entering, leaving, Ruled, Enters, tried_by, tried, passed}
use Rattle.turn_lock.proofs.Histories.{begins_self, follows_begins, follows_own}
use Rattle.turn_lock.proofs.Seating.{live_set, live_one, Was, was, live_here, live_else, held_on}

out_when_free : {E : Type 0} (word : ℕ) (log : List (ℕ × E)) (p : SeatPlace E) → word ≡ 0 → InPlace word log p → p ≡ Out
out_when_free word log Out e h = refl
out_when_free word log (Inside f) e h = let a = h.0 in absurd (omega arith)

in_place_out : {E : Type 0} (word : ℕ) (log : List (ℕ × E)) (p : SeatPlace E) → p ≡ Out → InPlace word log p
in_place_out word log Out e = tt
in_place_out word log (Inside f) e = absurd (cc (e))

module _ {T E D : Type 0} (hist : T → List (ℕ × E)) (fits : T → D → Type 0) (told : D) where
  abbrev St : Type 0
  St = State (Option T) (Knows E D)

  abbrev R : St → Type 0
  R = Ruled hist fits told

  abbrev M : Type 0
  M = Me (Option T) (Knows E D)

  abbrev Told : View E D → M → Bool → Type 0
  Told v m b = MatchBool b (Enters hist fits v m) (let n : M = (Seated v, []) in m ≡ n)

  -- the seat that gives numbers still does, if nothing that bears on it changes in this seat's view
  gives_on : (s : St) (r : R s) (id : ℕ) (v w : View E D) → Live s.views id v → v.made ≡ w.made
      → (i : ℕ) × (u : View E D) × Live (set s.views id (Seated w)) i u × (0 < u.made)
  gives_on s r id v w at same =
      let t = r.giver in
      dite (ℕ_discrete t.0 id)
      (λ here. (
        id,
        w,
        live_here s.views id (Seated v) w at,
        subst (λ (n : ℕ). 0 < n)
            (sym (ap (λ (x : View E D). x.made)
            (live_one s.views id v t.1 at (subst (λ (k : ℕ). Live s.views k t.1) here t.2))) ∙ same)
            t.3,
      ))
      (λ else. (t.0, t.1, live_else s.views id t.0 w t.1 else t.2, t.3))

  entered : (s : St) (r : R s) (id : ℕ) (v : View E D) (value : T) → Live s.views id v → slice_index s.words 0 ≡ 0 → hist value ≡ r.log
      → R record { words = set s.words 0 1; homes = set s.homes 0 none; views = set s.views id (Seated (entering (hist value) v)) }
  entered s r id v value at free same =
      let w : View E D = entering (hist value) v in
      let wide : length s.words ≡ 1 = r.one_word in
      let one : get_or (set s.words 0 1) 0 0 ≡ 1 = get_or-set_same s.words 0 1 0 (omega arith) in
      let fit = r.each id v at in
      let out : (j : ℕ) (u : View E D) → Live s.views j u → u.place ≡ Out = λ j u e. out_when_free (slice_index s.words 0) r.log u.place free (r.placed j u e) in
      let back : (j : ℕ) (u : View E D) → Live (set s.views id (Seated w)) j u → Was s.views j u = was s.views id v w at refl refl refl in
      let inside : (j : ℕ) (u : View E D) (f : List (ℕ × E)) → Live (set s.views id (Seated w)) j u → u.place ≡ Inside f → j ≡ id =
      λ j u f e p. ⊎_elim (λ (t : (j ≡ id) × (w ≡ u)). t.0) (λ (t : (j ≢ id) × Live s.views j u). absurd (let o = out j u t.1 in cc (o, p))) (live_set s.views id j w u e) in
      record {
        log = r.log;
        given = r.given;
        one_word = length-set s.words 0 1 ∙ wide;
        each = λ j u e. ⊎_elim
            (λ (t : (j ≡ id) × (w ≡ u)). subst (Fits told r.log r.given) t.1 record { told_is = fit.told_is; begins = fit.begins; receipts = fit.receipts; mine_is = fit.mine_is; below = fit.below; maker = fit.maker; old = fit.old })
            (λ (t : (j ≢ id) × Live s.views j u). r.each j u t.1)
            (live_set s.views id j w u e);
        placed = λ j u e. ⊎_elim
            (λ (t : (j ≡ id) × (w ≡ u)). subst (λ (x : View E D). InPlace (get_or (set s.words 0 1) 0 0) r.log x.place) t.1 (one, same))
            (λ (t : (j ≢ id) × Live s.views j u). in_place_out (get_or (set s.words 0 1) 0 0) r.log u.place (out j u t.1))
            (live_set s.views id j w u e);
        alone = λ i j a b f g ea eb pa pb. inside i a f ea pa ∙ sym (inside j b g eb pb);
        taken = λ _. (id, w, hist value, live_here s.views id (Seated v) w at, refl);
        home = λ e. absurd (omega arith);
        top = dite (ℕ_discrete r.top.0 id)
            (λ here. (id, w, live_here s.views id (Seated v) w at, ap (λ (x : View E D). x.seen) (live_one s.views id v r.top.1 at (subst (λ (k : ℕ). Live s.views k r.top.1) here r.top.2)) ∙ r.top.3))
            (λ else. (r.top.0, r.top.1, live_else s.views id r.top.0 w r.top.1 else r.top.2, r.top.3));
        apart = λ i j a b ea eb n. let x = back i a ea in let y = back j b eb in r.apart i j x.before y.before x.live y.live (x.number ∙ (n ∙ sym y.number));
        makers = λ i j a b ea eb p q. let x = back i a ea in let y = back j b eb in r.makers i j x.before y.before x.live y.live (subst (λ (n : ℕ). 0 < n) (sym x.made) p) (subst (λ (n : ℕ). 0 < n) (sym y.made) q);
        giver = gives_on s r id v w at refl;
        fresh = r.fresh;
        held = λ k lt. held_on s.views id v w at refl refl k (r.held k lt);
        gone = λ i j a b o ea eb h n. let x = back i a ea in let y = back j b eb in r.gone i j x.before y.before o x.live y.live (subst (IsOld o) (sym x.olds) h) (y.number ∙ n);
      }

  same_state : (s : St) (r : R s) (id : ℕ) (k : Knows E D) → get_elem? s.views id ≡ some k → R (stepped s 0 (slice_index s.words 0) id [] k keeps)
  same_state s r id k at = subst (λ (ws : List ℕ). R record { words = ws; homes = s.homes; views = set s.views id k }) (sym (set-get_or s.words 0 0))
      (subst (λ (vs : List (Knows E D)). R record { words = s.words; homes = s.homes; views = vs }) (sym (set_again s.views id k at)) r)

  tries_at : (slots id : ℕ) (v : View E D) → Allows R slots id (Seated v, []) 0 (λ n. either (n == 0) 1 n) (tried hist fits (step slots 0 0 1 none) (Seated v, []))
  tries_at slots id v s r len at small = dite (ℕ_discrete (slice_index s.words 0) 0)
      (λ free. let h = r.home free in let fit = r.each id v at in let hit = eq-eqb (slice_index s.words 0) 0 free in let w = entering (hist h.0) v in (
        Seated w,
        takes 0 (Some h.0),
        h.1,
        subst (λ (b : Bool). R (stepped s 0 (either b 1 (slice_index s.words 0)) id [] (Seated w) (takes 0 (Some h.0)))) (sym hit) (entered s r id v h.0 at free h.2),
        subst (λ (b : Bool). Told v (Seated w, (0, Some h.0) ∷ []) b) (sym hit)
            (h.0, refl, subst (fits h.0) (sym fit.told_is) h.3, subst (Begins v.seen) (sym h.2) fit.begins, fit.receipts ∙ ap (own v.number) (sym h.2), fit.mine_is ∙ ap (own v.number) (sym h.2)),
      ))
      (λ held. let miss = ne_eqb (slice_index s.words 0) 0 held in (
        Seated v,
        keeps,
        tt,
        subst (λ (b : Bool). R (stepped s 0 (either b 1 (slice_index s.words 0)) id [] (Seated v) keeps)) (sym miss) (same_state s r id (Seated v) at),
        subst (λ (b : Bool). Told v (Seated v, []) b) (sym miss) refl,
      ))

  pub tries : (slots id : ℕ) (m : Me (Option T) (Knows E D)) (v : View E D) → m ≡ (Seated v, []) → Allows R slots id m 0 (λ n. either (n == 0) 1 n) (tried hist fits (step slots 0 0 1 none) m)
  tries slots id m v is = subst (λ (x : Me (Option T) (Knows E D)). Allows R slots id x 0 (λ n. either (n == 0) 1 n) (tried hist fits (step slots 0 0 1 none) x)) (sym is) (tries_at slots id v)

  others_out : (p : SeatPlace E) → ((f : List (ℕ × E)) → p ≡ Inside f → ⊥) → p ≡ Out
  others_out Out never = refl
  others_out (Inside f) never = absurd (never f refl)

  -- what the rule says of another view still holds, if an entry of the seat number n may have come
  still_fits : (n given : ℕ) (log new : List (ℕ × E)) (u : View E D) → Follows n log new → n ≢ u.number → ((o : Old E) → IsOld o u.olds → n ≢ o.number) → Fits told log given u → Fits told new given u
  still_fits n given log new u more other gone fit = record {
    told_is = fit.told_is;
    begins = follows_begins n u.seen log new more fit.begins;
    receipts = fit.receipts ∙ sym (follows_own u.number n log new more other);
    mine_is = fit.mine_is ∙ sym (follows_own u.number n log new more other);
    below = fit.below;
    maker = fit.maker;
    old = λ o h. let f = fit.old o h in (f.0, follows_begins n o.seen log new more f.1, f.2 ∙ sym (follows_own o.number n log new more (gone o h)));
  }

  left : (s : St) (r : R s) (id : ℕ) (v : View E D) (value : T) (found : List (ℕ × E)) → Live s.views id v → v.place ≡ Inside found → length s.homes ≡ 1
      → fits value v.told → Follows v.number found (hist value)
      → R record { words = set s.words 0 0; homes = set s.homes 0 (some (Some value)); views = set s.views id (Seated (leaving (hist value) v)) }
  left s r id v value found at is_in len ok follows =
      let w : View E D = leaving (hist value) v in
      let wide : length s.words ≡ 1 = r.one_word in
      let none : get_or (set s.words 0 0) 0 0 ≡ 0 = get_or-set_same s.words 0 0 0 (omega arith) in
      let fit = r.each id v at in
      let here = subst (InPlace (slice_index s.words 0) r.log) is_in (r.placed id v at) in
      let more : Follows v.number r.log (hist value) = subst (λ l. Follows v.number l (hist value)) here.1 follows in
      let back : (j : ℕ) (u : View E D) → Live (set s.views id (Seated w)) j u → Was s.views j u = was s.views id v w at refl refl refl in
      let out : (j : ℕ) (u : View E D) → Live (set s.views id (Seated w)) j u → u.place ≡ Out = λ j u e. ⊎_elim
      (λ (t : (j ≡ id) × (w ≡ u)). sym (ap (λ (x : View E D). x.place) t.1))
      (λ (t : (j ≢ id) × Live s.views j u). others_out u.place (λ f p. t.0 (r.alone j id u v f found t.1 at p is_in)))
      (live_set s.views id j w u e) in
      record {
        log = hist value;
        given = r.given;
        one_word = length-set s.words 0 0 ∙ wide;
        each = λ j u e. ⊎_elim
            (λ (t : (j ≡ id) × (w ≡ u)). subst (Fits told (hist value) r.given) t.1 record {
              told_is = fit.told_is;
              begins = begins_self (hist value);
              receipts = refl;
              mine_is = refl;
              below = fit.below;
              maker = fit.maker;
              old = λ o h. let f = fit.old o h in (f.0, follows_begins v.number o.seen r.log (hist value) more f.1, f.2 ∙ sym (follows_own o.number v.number r.log (hist value) more (r.gone id id v v o at at h)));
            })
            (λ (t : (j ≢ id) × Live s.views j u). still_fits v.number r.given r.log (hist value) u more (λ n. t.0 (r.apart j id u v t.1 at (sym n))) (λ o h. r.gone j id u v o t.1 at h) (r.each j u t.1))
            (live_set s.views id j w u e);
        placed = λ j u e. in_place_out (get_or (set s.words 0 0) 0 0) (hist value) u.place (out j u e);
        alone = λ i j a b f g ea eb pa pb. absurd (let o = out i a ea in cc (o, pa));
        taken = λ ne. absurd (ne none);
        home = λ _. (value, set_here s.homes 0 (some (Some value)) (omega arith), refl, subst (fits value) fit.told_is ok);
        top = (id, w, live_here s.views id (Seated v) w at, refl);
        apart = λ i j a b ea eb n. let x = back i a ea in let y = back j b eb in r.apart i j x.before y.before x.live y.live (x.number ∙ (n ∙ sym y.number));
        makers = λ i j a b ea eb p q. let x = back i a ea in let y = back j b eb in r.makers i j x.before y.before x.live y.live (subst (λ (n : ℕ). 0 < n) (sym x.made) p) (subst (λ (n : ℕ). 0 < n) (sym y.made) q);
        giver = gives_on s r id v w at refl;
        fresh = λ k le. follows_own k v.number r.log (hist value) more (λ n. let b : v.number < r.given = fit.below in absurd (omega arith)) ∙ r.fresh k le;
        held = λ k lt. held_on s.views id v w at refl refl k (r.held k lt);
        gone = λ i j a b o ea eb h n. let x = back i a ea in let y = back j b eb in r.gone i j x.before y.before o x.live y.live (subst (IsOld o) (sym x.olds) h) (y.number ∙ n);
      }

  pub passes : (id : ℕ) (m : M) (v : View E D) (value : T) (found : List (ℕ × E)) → m ≡ (Seated v, (0, Some value) ∷ []) → v.place ≡ Inside found → fits value v.told → Follows v.number found (hist value)
      → Allows R 1 id m 0 (λ _. 0) (λ _. passed hist (step 1 0 0 0 none) m 0)
  passes id m v value found is is_in ok follows = subst (λ (x : M). Allows R 1 id x 0 (λ _. 0) (λ _. passed hist (step 1 0 0 0 none) x 0)) (sym is)
      (λ s r len at small. (Seated (leaving (hist value) v), gives, tt, left s r id v value found at is_in len ok follows, refl))

  -- what a try told, at a seat that was out with the view v
  pub tried_true : (m n : M) (v : View E D) (found : ℕ) → m ≡ (Seated v, []) → found ≡ 0 → tried_by hist fits m.0 found n → Enters hist fits v n
  tried_true m n v found is free tells = subst (λ (b : Bool). Told v n b) (eq-eqb found 0 free) (subst (λ (x : M). tried_by hist fits x.0 found n) is tells)

  pub tried_false : (m n : M) (v : View E D) (found : ℕ) → m ≡ (Seated v, []) → found ≢ 0 → tried_by hist fits m.0 found n → n ≡ m
  tried_false m n v found is held tells = subst (λ (b : Bool). Told v n b) (ne_eqb found 0 held) (subst (λ (x : M). tried_by hist fits x.0 found n) is tells) ∙ sym is
