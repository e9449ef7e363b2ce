-- How many paths of a driver pass a test, and which is the lowest.
use Rattle.std.proofs.Common.{◌≡◌, ◌==◌, ℕ, zero, suc, ◌+◌, ◌<◌, ◌≤◌, ◌⊎◌, inl, inr, Bool, true, false, cond, List, []}
use Rattle.std.proofs.Common.{◌∷◌, length, set, Option, Some, None, refl, sym, ap, ◌∙◌, subst, eq-eqb, ne_eqb, arith}
use Rattle.std.specs.Prelude.{slice_get, ◌&&◌, not, take, nat_lt, is_none}
use Rattle.std.proofs.lemmas.Bool.{and_parts, and_from, lt-ltb, ltb-true, not-true}
use Rattle.checkout_core.specs.declared.path.PathState.{PathState}
use Rattle.checkout_core.specs.declared.path.PathState.TheVariants as path
use Rattle.checkout_core.specs.declared.path.PathState.TheVariants.{Waiting, Held, Unasked, Closed}
use Rattle.checkout_core.specs.declared.path.Path.{Path}
use Rattle.checkout_core.specs.States.{is_at, is_unasked, is_named, is_named_below, is_closed, none_of, path_count}
use Rattle.checkout_core.specs.States.{unclosed_count, lowest_unasked, add_one}
use Rattle.checkout_core.specs.Cursors.{asks, is_named_at}
use Rattle.checkout_core.proofs.Basics.{none_is_some, some_is}

module _ {A : Type 0} where
  pub get_set_same : (xs : List A) (i : ℕ) (x v : A) → slice_get xs i ≡ Some x → slice_get (set xs i v) i ≡ Some v
  get_set_same [] i x v e = none_is_some e
  get_set_same (y ∷ ys) zero x v e = refl
  get_set_same (y ∷ ys) (suc i) x v e = get_set_same ys i x v e

  pub get_set_other : (xs : List A) (i j : ℕ) (v : A) → (j ≡ i → ⊥) → slice_get (set xs i v) j ≡ slice_get xs j
  get_set_other [] i j v n = refl
  get_set_other (y ∷ ys) zero zero v n = absurd (n refl)
  get_set_other (y ∷ ys) zero (suc j) v n = refl
  get_set_other (y ∷ ys) (suc i) zero v n = refl
  get_set_other (y ∷ ys) (suc i) (suc j) v n = get_set_other ys i j v (λ e. n (ap suc e))

-- a place of a list after one is set: the new item there, or the old one elsewhere
module _ {A : Type 0} where
  pub set_cases : (xs : List A) (i j : ℕ) (x v w : A) → slice_get xs i ≡ Some x → slice_get (set xs i v) j ≡ Some w
      → ((j ≡ i) × (v ≡ w)) ⊎ ((j ≡ i → ⊥) × (slice_get xs j ≡ Some w))
  set_cases xs i j x v w there e = go (j == i) refl
    where
      go : (b : Bool) → (j == i) ≡ b → ((j ≡ i) × (v ≡ w)) ⊎ ((j ≡ i → ⊥) × (slice_get xs j ≡ Some w))
      go true is = let one : j ≡ i = grind (arith, is) in inl
          (one, some_is v w (sym (get_set_same xs i x v there) ∙ (ap (λ k. slice_get (set xs i v) k) (sym one) ∙ e)))
      go false is = let n : (j ≡ i → ⊥) = (λ k. let z = eq-eqb j i k in cc (z, is)) in
          inr (n, sym (get_set_other xs i j v n) ∙ e)

abbrev pub num : Bool → ℕ
num b = cond b 1 0

-- the count after one path is set
pub count_set : (d : ℕ) (f : PathState → Bool) (rs : List Path) (p : ℕ) (r v : Path) → slice_get rs p ≡ Some r
    → path_count d f (set rs p v) + num (is_at d r.start && f r.state) ≡ path_count d f rs + num
    (is_at d v.start && f v.state)
count_set d f [] p r v e = none_is_some e
count_set d f (x ∷ xs) zero r v e =
    let one : x ≡ r = some_is x r e in
    subst (λ (y : Path). (num (is_at d v.start && f v.state) + path_count d f xs) + num
    (is_at d y.start && f y.state) ≡ (num (is_at d x.start && f x.state) + path_count d f xs) + num
    (is_at d v.start && f v.state)) one
    (swap (num (is_at d v.start && f v.state)) (path_count d f xs) (num (is_at d x.start && f x.state)))
  where
    swap : (a b c : ℕ) → (a + b) + c ≡ (c + b) + a
    swap a b c = omega arith
count_set d f (x ∷ xs) (suc p) r v e =
    step (num (is_at d x.start && f x.state)) (path_count d f (set xs p v)) (num (is_at d r.start && f r.state))
    (path_count d f xs) (num (is_at d v.start && f v.state)) (count_set d f xs p r v e)
  where
    step : (a b c g h : ℕ) → b + c ≡ g + h → (a + b) + c ≡ (a + g) + h
    step a b c g h i = omega arith

pub unclosed_set : (rs : List Path) (p : ℕ) (r v : Path) → slice_get rs p ≡ Some r
    → unclosed_count (set rs p v) + cond (is_closed r.state) 0 1 ≡ unclosed_count rs + cond (is_closed v.state) 0 1
unclosed_set [] p r v e = none_is_some e
unclosed_set (x ∷ xs) zero r v e =
    let one : x ≡ r = some_is x r e in
    subst (λ (y : Path). (cond (is_closed v.state) 0 1 + unclosed_count xs) + cond (is_closed y.state) 0 1 ≡
    (cond (is_closed x.state) 0 1 + unclosed_count xs) + cond (is_closed v.state) 0 1) one
    (swap (cond (is_closed v.state) 0 1) (unclosed_count xs) (cond (is_closed x.state) 0 1))
  where
    swap : (a b c : ℕ) → (a + b) + c ≡ (c + b) + a
    swap a b c = omega arith
unclosed_set (x ∷ xs) (suc p) r v e =
    step (cond (is_closed x.state) 0 1) (unclosed_count (set xs p v)) (cond (is_closed r.state) 0 1)
    (unclosed_count xs) (cond (is_closed v.state) 0 1) (unclosed_set xs p r v e)
  where
    step : (a b c g h : ℕ) → b + c ≡ g + h → (a + b) + c ≡ (a + g) + h
    step a b c g h i = omega arith

-- a path that passes is counted
pub count_some : (d : ℕ) (f : PathState → Bool) (rs : List Path) (p : ℕ) (r : Path) → slice_get rs p ≡ Some r
    → is_at d r.start ≡ true → f r.state ≡ true → 1 ≤ path_count d f rs
count_some d f [] p r e at h = none_is_some e
count_some d f (x ∷ xs) zero r e at h =
    let one : x ≡ r = some_is x r e in
    let yes : num (is_at d x.start && f x.state) ≡ 1 = ap (λ (y : Path). num (is_at d y.start && f y.state)) one
    ∙ ap num (and_from _ _ at h) in
    more (num (is_at d x.start && f x.state)) (path_count d f xs) yes
  where
    more : (a b : ℕ) → a ≡ 1 → 1 ≤ a + b
    more a b i = omega arith
count_some d f (x ∷ xs) (suc p) r e at h =
    more (num (is_at d x.start && f x.state)) (path_count d f xs) (count_some d f xs p r e at h)
  where
    more : (a b : ℕ) → 1 ≤ b → 1 ≤ a + b
    more a b i = omega arith

pub count_none : (d : ℕ) (f : PathState → Bool) (rs : List Path)
    → ((p : ℕ) (r : Path) → slice_get rs p ≡ Some r → is_at d r.start ≡ true → f r.state ≡ false)
    → path_count d f rs ≡ 0
count_none d f [] none = refl
count_none d f (x ∷ xs) none =
    both (num (is_at d x.start && f x.state)) (path_count d f xs) (go (is_at d x.start) refl)
    (count_none d f xs (λ p r e at. none (suc p) r e at))
  where
    go : (b : Bool) → is_at d x.start ≡ b → num (is_at d x.start && f x.state) ≡ 0
    go true i = ap (λ b. num (b && f x.state)) i ∙ ap num (none zero x refl i)
    go false i = ap (λ b. num (b && f x.state)) i

    both : (a b : ℕ) → a ≡ 0 → b ≡ 0 → a + b ≡ 0
    both a b i j = omega arith

pub count_length : (d : ℕ) (f : PathState → Bool) (rs : List Path) (p : ℕ) (r : Path) → slice_get rs p ≡ Some r
    → f r.state ≡ false → path_count d f rs < length rs
count_length d f [] p r e n = none_is_some e
count_length d f (x ∷ xs) zero r e n =
    let one : x ≡ r = some_is x r e in
    less (num (is_at d x.start && f x.state)) (path_count d f xs) (length xs)
    (go (is_at d x.start) (f x.state) (ap (λ (y : Path). f y.state) one ∙ n)) (count_most xs)
  where
    go : (a b : Bool) → b ≡ false → num (a && b) ≡ 0
    go true b i = ap num i
    go false b i = refl

    small : (b : Bool) → num b ≤ 1
    small true = omega arith
    small false = omega arith

    count_most : (ys : List Path) → path_count d f ys ≤ length ys
    count_most [] = omega arith
    count_most (y ∷ ys) = let s = small (is_at d y.start && f y.state) in let t = count_most ys in omega (arith, s, t)

    less : (a b c : ℕ) → a ≡ 0 → b ≤ c → a + b < suc c
    less a b c i j = omega arith
count_length d f (x ∷ xs) (suc p) r e n =
    more (num (is_at d x.start && f x.state)) (path_count d f xs) (length xs) (small (is_at d x.start && f x.state))
    (count_length d f xs p r e n)
  where
    small : (b : Bool) → num b ≤ 1
    small true = omega arith
    small false = omega arith

    more : (a b c : ℕ) → a ≤ 1 → b < c → a + b < suc c
    more a b c i j = omega arith

-- the lowest path that still has to be asked for
pub lowest_some : (d : ℕ) (rs : List Path) (i : ℕ) (r : Path) → slice_get rs i ≡ Some r → asks d r ≡ true
    → ((p : ℕ) (w : Path) → p < i → slice_get rs p ≡ Some w → asks d w ≡ false) → lowest_unasked d rs ≡ Some i
lowest_some d [] i r e asked none = none_is_some e
lowest_some d (x ∷ xs) zero r e asked none =
    ap (λ b. cond b (Some zero) (add_one (lowest_unasked d xs))) (ap (asks d) (some_is x r e) ∙ asked)
lowest_some d (x ∷ xs) (suc i) r e asked none =
    ap (λ b. cond b (Some zero) (add_one (lowest_unasked d xs))) (none zero x (omega arith) refl)
    ∙ ap add_one (lowest_some d xs i r e asked (λ p w l g. none (suc p) w (omega arith) g))

pub lowest_none : (d : ℕ) (rs : List Path) → ((p : ℕ) (w : Path) → slice_get rs p ≡ Some w → asks d w ≡ false)
    → lowest_unasked d rs ≡ None
lowest_none d [] none = refl
lowest_none d (x ∷ xs) none =
    ap (λ b. cond b (Some zero) (add_one (lowest_unasked d xs))) (none zero x refl)
    ∙ ap add_one (lowest_none d xs (λ p w g. none (suc p) w g))

none_add : (o : Option ℕ) → is_none (add_one o) ≡ is_none o
none_add None = refl
none_add (Some n) = refl

pub none_lowest : (d : ℕ) (rs : List Path) → is_none (lowest_unasked d rs) ≡ none_of d is_unasked rs
none_lowest d [] = refl
none_lowest d (x ∷ xs) = go (asks d x) (none_lowest d xs)
  where
    go : (b : Bool) → is_none (lowest_unasked d xs) ≡ none_of d is_unasked xs
        → is_none (cond b (Some zero) (add_one (lowest_unasked d xs))) ≡ (not b && none_of d is_unasked xs)
    go true ih = refl
    go false ih = none_add (lowest_unasked d xs) ∙ ih

abbrev pub holds_number : ℕ → Option ℕ → Bool
holds_number p None = false
holds_number p (Some n) = n == p

number_add : (p : ℕ) (o : Option ℕ) → holds_number (suc p) (add_one o) ≡ holds_number p o
number_add p None = refl
number_add p (Some n) = go (n == p) refl
  where
    go : (b : Bool) → (n == p) ≡ b → (suc n == suc p) ≡ (n == p)
    go true i = let e : n ≡ p = grind (arith, i) in eq-eqb (suc n) (suc p) (ap suc e) ∙ sym i
    go false i = ne_eqb (suc n) (suc p) (λ e. let k : n ≡ p = omega arith in let z = eq-eqb n p k in cc (z, i)) ∙ sym i

pub next_lowest : (d : ℕ) (rs : List Path) (p : ℕ) (r : Path) → slice_get rs p ≡ Some r → is_at d r.start ≡ true
    → holds_number p (lowest_unasked d rs) ≡ (is_unasked r.state && none_of d is_unasked (take p rs))
next_lowest d [] p r e at = none_is_some e
next_lowest d (x ∷ xs) zero r e at =
    let one : x ≡ r = some_is x r e in
    subst (λ (y : Path). holds_number zero (cond (is_at d x.start && is_unasked x.state) (Some zero)
    (add_one (lowest_unasked d xs))) ≡ (is_unasked y.state && true)) one
    (go (is_at d x.start) (is_unasked x.state) (lowest_unasked d xs) (ap (λ (y : Path). is_at d y.start) one ∙ at))
  where
    go : (a b : Bool) (o : Option ℕ) → a ≡ true → holds_number zero (cond (a && b) (Some zero) (add_one o)) ≡
        (b && true)
    go true true o i = refl
    go true false None i = refl
    go true false (Some n) i = ne_eqb (suc n) zero (λ e. absurd (omega arith))
    go false b o i = absurd (cc (i))
next_lowest d (x ∷ xs) (suc p) r e at = go (asks d x) (lowest_unasked d xs) (next_lowest d xs p r e at)
  where
    go : (b : Bool) (o : Option ℕ) → holds_number p o ≡ (is_unasked r.state && none_of d is_unasked (take p xs))
        → holds_number (suc p) (cond b (Some zero) (add_one o)) ≡
        (is_unasked r.state && (not b && none_of d is_unasked (take p xs)))
    go true o ih = ne_eqb zero (suc p) (λ e. absurd (omega arith)) ∙ sym (gone (is_unasked r.state))
      where
        gone : (a : Bool) → (a && false) ≡ false
        gone true = refl
        gone false = refl
    go false o ih = number_add p o ∙ ih

-- the lowest turn
pub none_count : (d t u : ℕ) (rs : List Path) → u < t → none_of d (is_named_below t) rs ≡ true
    → path_count d (is_named_at u) rs ≡ 0
none_count d t u [] less none = refl
none_count d t u (x ∷ xs) less none =
    let parts = and_parts _ _ none in
    both (num (is_at d x.start && is_named_at u x.state)) (path_count d (is_named_at u) xs)
    (go (is_at d x.start) x.state (not-true _ parts.0)) (none_count d t u xs less parts.1)
  where
    both : (a b : ℕ) → a ≡ 0 → b ≡ 0 → a + b ≡ 0
    both a b i j = omega arith

    at : (v : ℕ) → (b : Bool) → (u == v) ≡ b → nat_lt v t ≡ false → num b ≡ 0
    at v true e n = let k : u ≡ v = grind (arith, e) in let z = lt-ltb v t (subst (λ (y : ℕ). y < t) k less) in
        absurd (cc (z, n))
    at v false e n = refl

    go : (a : Bool) (s : PathState) → (a && is_named_below t s) ≡ false → num (a && is_named_at u s) ≡ 0
    go false s n = refl
    go true (path.Named v) n = at v (u == v) refl n
    go true path.Delayed n = refl
    go true Unasked n = refl
    go true (path.Heard h) n = refl
    go true (Waiting raw) n = refl
    go true (Held a raw) n = refl
    go true (Closed v) n = refl

pub none_false : (d t : ℕ) (rs : List Path) → none_of d (is_named_below t) rs ≡ false → (u : ℕ) × (u < t)
    × (1 ≤ path_count d (is_named_at u) rs)
none_false d t [] none = absurd (cc (none))
none_false d t (x ∷ xs) none = go (λ n. rest (none_false d t xs n)) (is_at d x.start) x.state refl refl none
  where
    more : (a b : ℕ) → 1 ≤ b → 1 ≤ a + b
    more a b i = omega arith

    one : (a b : ℕ) → a ≡ 1 → 1 ≤ a + b
    one a b i = omega arith

    rest : (u : ℕ) × (u < t) × (1 ≤ path_count d (is_named_at u) xs) → (u : ℕ) × (u < t)
        × (1 ≤ path_count d (is_named_at u) (x ∷ xs))
    rest k = (k.0, k.1, more (num (is_at d x.start && is_named_at k.0 x.state)) (path_count d (is_named_at k.0) xs) k.2)

    at : (none_of d (is_named_below t) xs ≡ false → (u : ℕ) × (u < t) × (1 ≤ path_count d (is_named_at u) (x ∷ xs)))
        → (v : ℕ) (b : Bool) → nat_lt v t ≡ b → is_at d x.start ≡ true → x.state ≡ path.Named v
        → (not b && none_of d (is_named_below t) xs) ≡ false → (u : ℕ) × (u < t)
        × (1 ≤ path_count d (is_named_at u) (x ∷ xs))
    at f v true l i s n = (
      v,
      ltb-true v t l,
      one (num (is_at d x.start && is_named_at v x.state))
          (path_count d (is_named_at v) xs) (ap (λ b. num (b && is_named_at v x.state)) i
          ∙ (ap (λ z. num (is_named_at v z)) s ∙ ap num (eq-eqb v v refl))),
    )
    at f v false l i s n = f n

    go : (none_of d (is_named_below t) xs ≡ false → (u : ℕ) × (u < t) × (1 ≤ path_count d (is_named_at u) (x ∷ xs)))
        → (a : Bool) (s : PathState) → is_at d x.start ≡ a → x.state ≡ s
        → (not (a && is_named_below t s) && none_of d (is_named_below t) xs) ≡ false → (u : ℕ) × (u < t)
        × (1 ≤ path_count d (is_named_at u) (x ∷ xs))
    go f false s i e n = f n
    go f true (path.Named v) i e n = at f v (nat_lt v t) refl i e n
    go f true path.Delayed i e n = f n
    go f true Unasked i e n = f n
    go f true (path.Heard h) i e n = f n
    go f true (Waiting raw) i e n = f n
    go f true (Held a raw) i e n = f n
    go f true (Closed v) i e n = f n

-- none is named if none is counted as named
pub none_named : (d : ℕ) (rs : List Path) → (path_count d is_named rs == 0) ≡ none_of d is_named rs
none_named d [] = refl
none_named d (x ∷ xs) = go (is_at d x.start && is_named x.state) (none_named d xs)
  where
    go : (b : Bool) → (path_count d is_named xs == 0) ≡ none_of d is_named xs
        → ((num b + path_count d is_named xs) == 0) ≡ (not b && none_of d is_named xs)
    go true ih = ne_eqb (1 + path_count d is_named xs) 0 (λ e. absurd (omega arith))
    go false ih = ap (λ k. k == 0) (zero_add (path_count d is_named xs)) ∙ ih
      where
        zero_add : (n : ℕ) → 0 + n ≡ n
        zero_add n = omega arith
