-- The paths of a driver in the plan of a rehearsal.
use Rattle.std.proofs.Common.{◌≡◌, ℕ, zero, suc, ◌+◌, ◌≤◌, inl, inr, ⊎_elim, Bool, true, false, not, ◌&&◌, ◌||◌, List, [], ◌∷◌, ◌++◌, length, Some, refl, sym, ap, ◌∙◌, subst, arith}
use Rattle.std.specs.Prelude.{codes, ◌==◌, ◌%◌, if◌then◌else◌, slice_get}
use Rattle.std.specs.List.{AllByRecursion, flat_map, list_any}
use Rattle.std.proofs.lemmas.List.{append-nil}
use Rattle.std.proofs.lemmas.Bool.{true≢false}
use Rattle.rehearsal.specs.Paths.{kind}
use Rattle.pkt_line.specs.Spelling.{spelling_all}
use Rattle.rehearsal.specs.Drivers.{status, filtered, is_delayed, is_given, given, given_text, list_text, alpha_first, alpha_lists, beta_first}
use Rattle.rehearsal_numbers.specs.Plans.{is_alpha, is_beta}
use Rattle.rehearsal_numbers.proofs.Marked.{Mark, numbers, Among, Rises}
use Rattle.rehearsal_numbers.proofs.Objects.{In}

-- the paths of these kinds, from a place on
abbrev pub marks_from : (ℕ → Bool) → ℕ → ℕ → List ℕ → List Mark
marks_from test n seed [] = []
marks_from test n seed (i ∷ is) =
    if test (kind seed i) then record { place = n; number = i } ∷ marks_from test (suc n) seed is
    else marks_from test (suc n) seed is

module _ (test : ℕ → Bool) (seed : ℕ) where
  from_place : (n : ℕ) (is : List ℕ) → AllByRecursion (λ m. n ≤ m.place) (marks_from test n seed is)
  from_place n [] = tt
  from_place n (i ∷ is) = by (test (kind seed i)) (weaker (marks_from test (suc n) seed is) (from_place (suc n) is))
    where
      weaker : (ms : List Mark) → AllByRecursion (λ m. suc n ≤ m.place) ms → AllByRecursion (λ m. n ≤ m.place) ms
      weaker [] h = tt
      weaker (m ∷ ms) h = (omega (arith, h.0), weaker ms h.1)

      by : (t : Bool) → AllByRecursion (λ m. n ≤ m.place) (marks_from test (suc n) seed is)
          → AllByRecursion (λ m. n ≤ m.place) (if t then record { place = n; number = i } ∷ marks_from test (suc n) seed is else marks_from test (suc n) seed is)
      by true h = (omega arith, h)
      by false h = h

  pub marks_rise : (n : ℕ) (is : List ℕ) → Rises (marks_from test n seed is)
  marks_rise n [] = tt
  marks_rise n (i ∷ is) = by (test (kind seed i)) (from_place (suc n) is) (marks_rise (suc n) is)
    where
      by : (t : Bool) → AllByRecursion (λ m. suc n ≤ m.place) (marks_from test (suc n) seed is) → Rises (marks_from test (suc n) seed is)
          → Rises (if t then record { place = n; number = i } ∷ marks_from test (suc n) seed is else marks_from test (suc n) seed is)
      by true a h = (a, h)
      by false a h = h

  pub marks_pass : (n : ℕ) (is : List ℕ) → AllByRecursion (λ m. test (kind seed m.number) ≡ true) (marks_from test n seed is)
  marks_pass n [] = tt
  marks_pass n (i ∷ is) = by (test (kind seed i)) refl (marks_pass (suc n) is)
    where
      by : (t : Bool) → test (kind seed i) ≡ t → AllByRecursion (λ m. test (kind seed m.number) ≡ true) (marks_from test (suc n) seed is)
          → AllByRecursion (λ m. test (kind seed m.number) ≡ true)
          (if t then record { place = n; number = i } ∷ marks_from test (suc n) seed is else marks_from test (suc n) seed is)
      by true e h = (e, h)
      by false e h = h

  pub marks_few : (n : ℕ) (is : List ℕ) → length (marks_from test n seed is) ≤ length is
  marks_few n [] = omega arith
  marks_few n (i ∷ is) = by (test (kind seed i)) (marks_few (suc n) is)
    where
      by : (t : Bool) → length (marks_from test (suc n) seed is) ≤ length is
          → length (if t then record { place = n; number = i } ∷ marks_from test (suc n) seed is else marks_from test (suc n) seed is) ≤ length (i ∷ is)
      by true h = omega (arith, h)
      by false h = omega (arith, h)

  -- texts that nothing but these kinds adds to
  pub marks_text : (text : ℕ → List ℕ) → ((i : ℕ) → test (kind seed i) ≡ false → text i ≡ []) → (n : ℕ) (is : List ℕ)
      → flat_map text (numbers (marks_from test n seed is)) ≡ flat_map text is
  marks_text text none n [] = refl
  marks_text text none n (i ∷ is) = by (test (kind seed i)) refl (marks_text text none (suc n) is)
    where
      by : (t : Bool) → test (kind seed i) ≡ t → flat_map text (numbers (marks_from test (suc n) seed is)) ≡ flat_map text is
          → flat_map text (numbers (if t then record { place = n; number = i } ∷ marks_from test (suc n) seed is else marks_from test (suc n) seed is))
          ≡ flat_map text (i ∷ is)
      by true e h = ap (λ (x : List ℕ). text i ++ x) h
      by false e h = h ∙ ap (λ (x : List ℕ). x ++ flat_map text is) (sym (none i e))

  -- a path of the plan that is of these kinds is at its place
  pub place_is : (n k i : ℕ) (is : List ℕ) → slice_get is k ≡ Some i → test (kind seed i) ≡ true
      → Among (record { place = n + k; number = i }) (marks_from test n seed is)
  place_is n k i [] h e = absurd (cc (h))
  place_is n zero i (j ∷ js) h e =
      let same : j ≡ i = cc (h) in
      by (test (kind seed j)) (ap (λ (x : ℕ). test (kind seed x)) same ∙ e) same
    where
      by : (t : Bool) → t ≡ true → j ≡ i
          → Among (record { place = n + zero; number = i }) (if t then record { place = n; number = j } ∷ marks_from test (suc n) seed js else marks_from test (suc n) seed js)
      by true f same =
          let place : ◌≡◌ {A = ℕ} (n + zero) n = omega arith in
          inl (λ x. record { place = place x; number = sym same x })
      by false f same = absurd (true≢false (sym f))
  place_is n (suc k) i (j ∷ js) h e =
      let place : ◌≡◌ {A = ℕ} (suc n + k) (n + suc k) = omega arith in
      by (test (kind seed j)) (subst (λ (p : ℕ). Among (record { place = p; number = i }) (marks_from test (suc n) seed js)) place (place_is (suc n) k i js h e))
    where
      by : (t : Bool) → Among (record { place = n + suc k; number = i }) (marks_from test (suc n) seed js)
          → Among (record { place = n + suc k; number = i }) (if t then record { place = n; number = j } ∷ marks_from test (suc n) seed js else marks_from test (suc n) seed js)
      by true g = inr g
      by false g = g

  -- and each mark is of such a path
  pub mark_is : (n : ℕ) (is : List ℕ) (m : Mark) → Among m (marks_from test n seed is)
      → (k : ℕ) × (m.place ≡ n + k) × (slice_get is k ≡ Some m.number)
  mark_is n [] m h = absurd h
  mark_is n (i ∷ is) m h = by (test (kind seed i)) (mark_is (suc n) is m) h
    where
      further : (k : ℕ) × (m.place ≡ suc n + k) × (slice_get is k ≡ Some m.number)
          → (k : ℕ) × (m.place ≡ n + k) × (slice_get (i ∷ is) k ≡ Some m.number)
      further r = (suc r.0, omega (arith, r.1), r.2)

      by : (t : Bool) → (Among m (marks_from test (suc n) seed is) → (k : ℕ) × (m.place ≡ suc n + k) × (slice_get is k ≡ Some m.number))
          → Among m (if t then record { place = n; number = i } ∷ marks_from test (suc n) seed is else marks_from test (suc n) seed is)
          → (k : ℕ) × (m.place ≡ n + k) × (slice_get (i ∷ is) k ≡ Some m.number)
      by true f g = ⊎_elim
          (λ (e : m ≡ record { place = n; number = i }). (zero, omega (arith, ap (λ (x : Mark). x.place) e), ap (λ (x : Mark). Some x.number) (sym e)))
          (λ (k : Among m (marks_from test (suc n) seed is)). further (f k))
          g
      by false f g = further (f g)

pub in_at : (k i : ℕ) (is : List ℕ) → slice_get is k ≡ Some i → In i is
in_at k i [] h = absurd (cc (h))
in_at zero i (j ∷ js) h = inl (cc (h))
in_at (suc k) i (j ∷ js) h = inr (in_at k i js h)

-- the texts of the two drivers
no_alpha_text : (seed i : ℕ) → is_alpha (kind seed i) ≡ false → alpha_first seed i ≡ []
no_alpha_text seed i h = by (kind seed i == 4) (kind seed i == 5) h
  where
    by : (a b : Bool) → (a || b) ≡ false → (if a then filtered (codes "alpha") seed i else if b then spelling_all (status (codes "delayed")) else []) ≡ []
    by true b h = absurd (true≢false h)
    by false true h = absurd (true≢false h)
    by false false h = refl

no_beta_text : (seed i : ℕ) → is_beta (kind seed i) ≡ false → beta_first seed i ≡ []
no_beta_text seed i h = by (kind seed i == 6) (kind seed i == 7) h
  where
    by : (a b : Bool) → (a || b) ≡ false → (if a then filtered (codes "beta") seed i else if b then spelling_all (status (codes "error")) else []) ≡ []
    by true b h = absurd (true≢false h)
    by false true h = absurd (true≢false h)
    by false false h = refl

pub alpha_firsts : (seed n : ℕ) (is : List ℕ) → flat_map (alpha_first seed) (numbers (marks_from is_alpha n seed is)) ≡ flat_map (alpha_first seed) is
alpha_firsts seed n is = marks_text is_alpha seed (alpha_first seed) (no_alpha_text seed) n is

pub beta_firsts : (seed n : ℕ) (is : List ℕ) → flat_map (beta_first seed) (numbers (marks_from is_beta n seed is)) ≡ flat_map (beta_first seed) is
beta_firsts seed n is = marks_text is_beta seed (beta_first seed) (no_beta_text seed) n is

-- what isn't of alpha's kinds isn't delayed
not_delayed : (seed i : ℕ) → is_alpha (kind seed i) ≡ false → is_delayed seed i ≡ false
not_delayed seed i h = by (kind seed i == 4) (kind seed i == 5) h
  where
    by : (a b : Bool) → (a || b) ≡ false → b ≡ false
    by true b h = absurd (true≢false h)
    by false b h = h

any_delayed : (seed n : ℕ) (is : List ℕ) → list_any (is_delayed seed) (numbers (marks_from is_alpha n seed is)) ≡ list_any (is_delayed seed) is
any_delayed seed n [] = refl
any_delayed seed n (i ∷ is) = by (is_alpha (kind seed i)) refl (any_delayed seed (suc n) is)
  where
    by : (t : Bool) → is_alpha (kind seed i) ≡ t → list_any (is_delayed seed) (numbers (marks_from is_alpha (suc n) seed is)) ≡ list_any (is_delayed seed) is
        → list_any (is_delayed seed) (numbers (if t then record { place = n; number = i } ∷ marks_from is_alpha (suc n) seed is else marks_from is_alpha (suc n) seed is))
        ≡ (is_delayed seed i || list_any (is_delayed seed) is)
    by true e h = ap (λ (t : Bool). is_delayed seed i || t) h
    by false e h = h ∙ ap (λ (t : Bool). t || list_any (is_delayed seed) is) (sym (not_delayed seed i e))

all_given : (seed n : ℕ) (is : List ℕ) → given seed (numbers (marks_from is_alpha n seed is)) ≡ given seed is
all_given seed n [] = refl
all_given seed n (i ∷ is) = by (is_alpha (kind seed i)) refl (all_given seed (suc n) is)
  where
    by : (t : Bool) → is_alpha (kind seed i) ≡ t → given seed (numbers (marks_from is_alpha (suc n) seed is)) ≡ given seed is
        → given seed (numbers (if t then record { place = n; number = i } ∷ marks_from is_alpha (suc n) seed is else marks_from is_alpha (suc n) seed is))
        ≡ given seed is ++ (if is_given seed i then i ∷ [] else [])
    by true e h = ap (λ (x : List ℕ). x ++ (if is_given seed i then i ∷ [] else [])) h
    by false e h =
        h ∙ sym (append-nil (given seed is))
        ∙ ap (λ (t : Bool). given seed is ++ (if t && not (i % 5 == 0) then i ∷ [] else [])) (sym (not_delayed seed i e))

pub alpha_lists_are : (seed n : ℕ) (is : List ℕ) → alpha_lists seed (numbers (marks_from is_alpha n seed is)) ≡ alpha_lists seed is
alpha_lists_are seed n is =
    λ j. if any_delayed seed n is j then given_text seed (all_given seed n is j) ++ list_text seed [] else []
