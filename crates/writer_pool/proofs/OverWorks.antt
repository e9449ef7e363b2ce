-- Which works a talk asks for, and the contents that they fit.
use Rattle.std.proofs.Common.{◌≡◌, ◌==◌, ℕ, zero, suc, ◌<◌, ⊎_elim, Bool, true, false, cond, List, [], ◌∷◌, ◌++◌, map, Some, Result, Ok, Err, refl, sym, ap, ◌∙◌, subst, arith}
use Rattle.std.specs.Prelude.{slice_get}
use Rattle.delay_table.specs.Table.{contains}
use Rattle.checkout_core.specs.declared.path.Start.{Start}
use Rattle.checkout_core.specs.declared.verdict.Own.{Own}
use Rattle.checkout_core.specs.Desks.{paths_of}
use Rattle.checkout_core.specs.States.{is_at}
use Rattle.driver_line.specs.Lines.{Paths}
use Rattle.driver_desk.specs.Works.{WorkSeen, FitsContent, FitsWork, FitAll, asked_of, asked_in, label_of}
use Rattle.writer_pool.specs.Tying.{has_content, content_or_none, content_in}
use Rattle.writer_pool.proofs.Places.{some_is, same_or, eqb_self, get_map_back}
use Rattle.writer_pool.proofs.Dealt.{same_place}

behind_rise : (ps : List ℕ) → ((i j p q : ℕ) → i < j → slice_get ps i ≡ Some p → slice_get ps j ≡ Some q → p < q)
    → (i j p q : ℕ) → i < j → slice_get (map (λ (n : ℕ). suc n) ps) i ≡ Some p
    → slice_get (map (λ (n : ℕ). suc n) ps) j ≡ Some q → p < q
behind_rise ps more i j p q lt a b =
    let x = get_map_back (λ (n : ℕ). suc n) ps i p a in
    let y = get_map_back (λ (n : ℕ). suc n) ps j q b in
    let less = more i j x.0 y.0 lt x.1 y.1 in
    let first = x.2 in
    let second = y.2 in
    omega (arith, less, first, second)

first_rise : (b : Bool) (ps : List ℕ)
    → ((i j p q : ℕ) → i < j → slice_get ps i ≡ Some p → slice_get ps j ≡ Some q → p < q)
    → (i j p q : ℕ) → i < j
    → slice_get (cond b (zero ∷ map (λ (n : ℕ). suc n) ps) (map (λ (n : ℕ). suc n) ps)) i ≡ Some p
    → slice_get (cond b (zero ∷ map (λ (n : ℕ). suc n) ps) (map (λ (n : ℕ). suc n) ps)) j ≡ Some q → p < q
first_rise false ps more i j p q lt a b = behind_rise ps more i j p q lt a b
first_rise true ps more i zero p q lt a b = absurd (omega (arith, lt))
first_rise true ps more zero (suc j) p q lt a b =
    let y = get_map_back (λ (n : ℕ). suc n) ps j q b in
    let first : zero ≡ p = some_is zero p a in
    let second = y.2 in
    omega (arith, first, second)
first_rise true ps more (suc i) (suc j) p q lt a b = behind_rise ps more i j p q (omega (arith, lt)) a b

-- the paths of a driver rise
paths_rise : (d : ℕ) (starts : List Start) (i j p q : ℕ) → i < j → slice_get (paths_of d starts) i ≡ Some p
    → slice_get (paths_of d starts) j ≡ Some q → p < q
paths_rise d [] i j p q lt a b = absurd (cc (a))
paths_rise d (s ∷ ss) i j p q lt a b =
    first_rise (is_at d s) (paths_of d ss) (λ k l m n. paths_rise d ss k l m n) i j p q lt a b

-- the works have these paths
abbrev HavePaths : List ℕ → List WorkSeen → Type 0
HavePaths ps works = (k : ℕ) (w : WorkSeen) → slice_get works k ≡ Some w → slice_get ps k ≡ Some w.card.path

-- each work has a path of its own
abbrev AreApart : List WorkSeen → Type 0
AreApart works = (i j : ℕ) (x y : WorkSeen) → slice_get works i ≡ Some x → slice_get works j ≡ Some y
    → x.card.path ≡ y.card.path → i ≡ j

abbrev AreRising : List WorkSeen → Type 0
AreRising works = (i j : ℕ) (x y : WorkSeen) → i < j → slice_get works i ≡ Some x → slice_get works j ≡ Some y
    → x.card.path < y.card.path

apart_by : (d : ℕ) (starts : List Start) (works : List WorkSeen) → HavePaths (paths_of d starts) works
    → AreApart works
apart_by d starts works have i j x y a b same =
    same_place d starts i j x.card.path (have i x a) (have j y b ∙ ap (λ (p : ℕ). Some p) (sym same))

rising_by : (d : ℕ) (starts : List Start) (works : List WorkSeen) → HavePaths (paths_of d starts) works
    → AreRising works
rising_by d starts works have i j x y lt a b =
    paths_rise d starts i j x.card.path y.card.path lt (have i x a) (have j y b)

asked_other : (p q : ℕ) (c : Result (List ℕ) Own) (rest : List ℕ) → (p ≡ q → ⊥)
    → contains p (asked_of q c ++ rest) ≡ contains p rest
asked_other p q (Ok content) rest other = ⊎_elim
    (λ (h : (p ≡ q) × ((p == q) ≡ true)). absurd (other h.0))
    (λ (h : ((p ≡ q) → ⊥) × ((p == q) ≡ false)). ap (λ (b : Bool). cond b true (contains p rest)) h.1)
    (same_or p q)
asked_other p q (Err own) rest other = refl

asked_none : (ws : List WorkSeen) (p : ℕ)
    → ((k : ℕ) (w : WorkSeen) → slice_get ws k ≡ Some w → p ≡ w.card.path → ⊥) → contains p (asked_in ws) ≡ false
asked_none [] p none = refl
asked_none (x ∷ ws) p none = asked_other p x.card.path x.content (asked_in ws) (λ e. none zero x refl e)
    ∙ asked_none ws p (λ k w at e. none (suc k) w at e)

asked_here : (p : ℕ) (c : Result (List ℕ) Own) (rest : List ℕ) → contains p rest ≡ false
    → contains p (asked_of p c ++ rest) ≡ has_content c
asked_here p (Ok content) rest none = ap (λ (b : Bool). cond b true (contains p rest)) (eqb_self p)
asked_here p (Err own) rest none = none

tail_apart : (x : WorkSeen) (ws : List WorkSeen) → AreApart (x ∷ ws) → AreApart ws
tail_apart x ws apart i j y z a b same =
    let e : suc i ≡ suc j = apart (suc i) (suc j) y z a b same in
    omega (arith, e)

-- a work is asked for just where its object gave a content
asked_is : (ws : List WorkSeen) → AreApart ws → (k : ℕ) (w : WorkSeen) → slice_get ws k ≡ Some w
    → contains w.card.path (asked_in ws) ≡ has_content w.content
asked_is [] apart k w at = absurd (cc (at))
asked_is (x ∷ ws) apart zero w at =
    subst (λ (y : WorkSeen). contains y.card.path (asked_in (x ∷ ws)) ≡ has_content y.content) (some_is x w at)
    (asked_here x.card.path x.content (asked_in ws) (asked_none ws x.card.path (λ k y there same.
    let e : zero ≡ suc k = apart zero (suc k) x y refl there same in
    absurd (omega (arith, e)))))
asked_is (x ∷ ws) apart (suc k) w at =
    asked_other w.card.path x.card.path x.content (asked_in ws) (λ same.
    let e : suc k ≡ zero = apart (suc k) zero w x at refl same in
    absurd (omega (arith, e)))
    ∙ asked_is ws (tail_apart x ws apart) k w at

-- each path that is asked for is that of a work with a content
abbrev IsAskedIn : List WorkSeen → ℕ → Type 0
IsAskedIn works p = (k : ℕ) × (w : WorkSeen) × (slice_get works k ≡ Some w) × (w.card.path ≡ p)
    × (has_content w.content ≡ true)

asked_later : (x : WorkSeen) (ws : List WorkSeen) (p : ℕ) → IsAskedIn ws p → IsAskedIn (x ∷ ws) p
asked_later x ws p r = (suc r.0, r.1, r.2, r.3, r.4)

pub asked_each : (ws : List WorkSeen) (p : ℕ) → contains p (asked_in ws) ≡ true → IsAskedIn ws p
asked_each [] p h = absurd (cc (h))
asked_each (x ∷ ws) p h = go x.content refl h (asked_each ws p)
  where
    go : (c : Result (List ℕ) Own) → x.content ≡ c → contains p (asked_of x.card.path c ++ asked_in ws) ≡ true
        → (contains p (asked_in ws) ≡ true → IsAskedIn ws p) → IsAskedIn (x ∷ ws) p
    go (Err own) is h more = asked_later x ws p (more h)
    go (Ok content) is h more = ⊎_elim
        (λ (same : (p ≡ x.card.path) × ((p == x.card.path) ≡ true)).
        (zero, x, refl, sym same.0, ap has_content is))
        (λ (other : ((p ≡ x.card.path) → ⊥) × ((p == x.card.path) ≡ false)).
        asked_later x ws p (more (sym (asked_other p x.card.path (Ok content) (asked_in ws) other.0) ∙ h)))
        (same_or p x.card.path)

asked_at : (ws : List WorkSeen) (i p : ℕ) → slice_get (asked_in ws) i ≡ Some p
    → (k : ℕ) × (w : WorkSeen) × (slice_get ws k ≡ Some w) × (w.card.path ≡ p)
asked_at [] i p at = absurd (cc (at))
asked_at (x ∷ ws) i p at = go x.content i at (λ j there. let r = asked_at ws j p there in (suc r.0, r.1, r.2, r.3))
  where
    go : (c : Result (List ℕ) Own) (i : ℕ) → slice_get (asked_of x.card.path c ++ asked_in ws) i ≡ Some p
        → ((j : ℕ) → slice_get (asked_in ws) j ≡ Some p
        → (k : ℕ) × (w : WorkSeen) × (slice_get (x ∷ ws) k ≡ Some w) × (w.card.path ≡ p))
        → (k : ℕ) × (w : WorkSeen) × (slice_get (x ∷ ws) k ≡ Some w) × (w.card.path ≡ p)
    go (Err own) i at more = more i at
    go (Ok content) zero at more = (zero, x, refl, some_is x.card.path p at)
    go (Ok content) (suc i) at more = more i at

-- they are asked for in path order
asked_rises : (ws : List WorkSeen) → AreRising ws → (i j p q : ℕ) → i < j → slice_get (asked_in ws) i ≡ Some p
    → slice_get (asked_in ws) j ≡ Some q → p < q
asked_rises [] rising i j p q lt a b = absurd (cc (a))
asked_rises (x ∷ ws) rising i j p q lt a b = go x.content i j lt a b
    (λ k l less c d. asked_rises ws (λ m n y z before e f. rising (suc m) (suc n) y z (omega (arith, before)) e f)
    k l p q less c d)
  where
    go : (c : Result (List ℕ) Own) (i j : ℕ) → i < j
        → slice_get (asked_of x.card.path c ++ asked_in ws) i ≡ Some p
        → slice_get (asked_of x.card.path c ++ asked_in ws) j ≡ Some q
        → ((k l : ℕ) → k < l → slice_get (asked_in ws) k ≡ Some p → slice_get (asked_in ws) l ≡ Some q → p < q)
        → p < q
    go (Err own) i j lt a b more = more i j lt a b
    go (Ok content) i zero lt a b more = absurd (omega (arith, lt))
    go (Ok content) zero (suc j) lt a b more =
        let r = asked_at ws j q b in
        let first : x.card.path ≡ p = some_is x.card.path p a in
        let less : x.card.path < r.1.card.path = rising zero (suc r.0) x r.1 (omega arith) refl r.2 in
        let second = r.3 in
        omega (arith, less, first, second)
    go (Ok content) (suc i) (suc j) lt a b more = more i j (omega (arith, lt)) a b

content_found : (ws : List WorkSeen) → AreApart ws → (k : ℕ) (w : WorkSeen) → slice_get ws k ≡ Some w
    → content_in ws w.card.path ≡ content_or_none w.content
content_found [] apart k w at = absurd (cc (at))
content_found (x ∷ ws) apart zero w at =
    subst (λ (y : WorkSeen). content_in (x ∷ ws) y.card.path ≡ content_or_none y.content) (some_is x w at)
    (ap (λ (b : Bool). cond b (content_or_none x.content) (content_in ws x.card.path)) (eqb_self x.card.path))
content_found (x ∷ ws) apart (suc k) w at = ⊎_elim
    (λ (h : (x.card.path ≡ w.card.path) × ((x.card.path == w.card.path) ≡ true)). absurd (
    let e : zero ≡ suc k = apart zero (suc k) x w refl at h.0 in
    omega (arith, e)))
    (λ (h : ((x.card.path ≡ w.card.path) → ⊥) × ((x.card.path == w.card.path) ≡ false)).
    ap (λ (b : Bool). cond b (content_or_none x.content) (content_in ws w.card.path)) h.1
    ∙ content_found ws (tail_apart x ws apart) k w at)
    (same_or x.card.path w.card.path)

fits_content : (paths : Paths) (p : ℕ) (c : Result (List ℕ) Own) → paths.content p ≡ content_or_none c
    → FitsContent paths p c
fits_content paths p (Ok content) is = is
fits_content paths p (Err own) is = tt

fit_each : (paths : Paths) (ws : List WorkSeen)
    → ((k : ℕ) (w : WorkSeen) → slice_get ws k ≡ Some w → FitsWork paths w) → FitAll paths ws
fit_each paths [] each = tt
fit_each paths (w ∷ ws) each = (each zero w refl, fit_each paths ws (λ k x at. each (suc k) x at))

module _ (d : ℕ) (starts : List Start) (works : List WorkSeen) (have : HavePaths (paths_of d starts) works) where
  pub asked_read : (k : ℕ) (w : WorkSeen) → slice_get works k ≡ Some w
      → contains w.card.path (asked_in works) ≡ has_content w.content
  asked_read k w at = asked_is works (apart_by d starts works have) k w at

  pub asked_in_order : (i j p q : ℕ) → i < j → slice_get (asked_in works) i ≡ Some p
      → slice_get (asked_in works) j ≡ Some q → p < q
  asked_in_order i j p q lt a b = asked_rises works (rising_by d starts works have) i j p q lt a b

  pub works_fit : (text name : ℕ → List ℕ)
      → ((k : ℕ) (w : WorkSeen) → slice_get works k ≡ Some w → label_of w.card ≡ (text w.card.path, name w.card.path))
      → FitAll (record { text = text; name = name; content = content_in works }) works
  works_fit text name labels = fit_each (record { text = text; name = name; content = content_in works }) works (λ k w at. (
    sym (labels k w at),
    fits_content (record { text = text; name = name; content = content_in works }) w.card.path w.content
        (content_found works (apart_by d starts works have) k w at),
  ))
