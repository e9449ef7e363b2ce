-- Which names of a table are delayed, while some are listed.
use Rattle.std.proofs.Common.{◌≡◌, ◌⊎◌, inl, inr, ℕ, zero, suc, Bool, true, false, not, List, [], ◌∷◌, ◌++◌, Some, refl, sym, ap, subst, ◌∙◌}
use Rattle.std.specs.Prelude.{slice_get, slice_set, ◌||◌, ◌&&◌}
use Rattle.std.specs.Str.{bytes_eq}
use Rattle.std.proofs.lemmas.Slice.Eq.{bytes_eq-Decides}
use Rattle.filter_words.specs.Listing.{name_in}
use Rattle.delay_table.specs.Table.{Table, IsDelayed}
use Rattle.delay_table.specs.declared.place.Place.{Place}
use Rattle.delay_table.specs.declared.place.Place.TheVariants as place
use Rattle.filter_proto.specs.Lists.{delayed_of, delayed_in, listed_at, Lists}

-- no name has two places
abbrev pub Differ : Table → Type 0
Differ t = (name : List ℕ) (p q : ℕ) → slice_get t.names p ≡ Some name → slice_get t.names q ≡ Some name → q ≡ p

same_name : (m n : List ℕ) → bytes_eq m n ≡ true → m ≡ n
same_name m n e = let d = bytes_eq-Decides m n in d.0 e

name_same : (m n : List ℕ) → m ≡ n → bytes_eq m n ≡ true
name_same m n e = let d = bytes_eq-Decides m n in d.1 e

in_front : (m : List ℕ) (ms : List (List ℕ)) (n : List ℕ) → name_in (m ∷ ms) n ≡ true → (m ≡ n) ⊎ (name_in ms n ≡ true)
in_front m ms n e = by_test (bytes_eq m n) refl
  where
    by_test : (b : Bool) → bytes_eq m n ≡ b → (m ≡ n) ⊎ (name_in ms n ≡ true)
    by_test true same = inl (same_name m n same)
    by_test false other = inr (ap (λ (b : Bool). b || name_in ms n) (sym other) ∙ e)

front_in : (m : List ℕ) (ms : List (List ℕ)) (n : List ℕ) → m ≡ n → name_in (m ∷ ms) n ≡ true
front_in m ms n e = ap (λ (b : Bool). b || name_in ms n) (name_same m n e)

behind_in : (m : List ℕ) (ms : List (List ℕ)) (n : List ℕ) → name_in ms n ≡ true → name_in (m ∷ ms) n ≡ true
behind_in m ms n e = by_test (bytes_eq m n)
  where
    by_test : (b : Bool) → (b || name_in ms n) ≡ true
    by_test true = refl
    by_test false = e

-- a name is delayed at a place of two lists
abbrev Stands : List (List ℕ) → List Place → List ℕ → ℕ → Type 0
Stands names places n p = (slice_get names p ≡ Some n) × (slice_get places p ≡ Some place.Delayed)

stands_next : (m : List ℕ) (q : Place) (names : List (List ℕ)) (places : List Place) (n : List ℕ) → (p : ℕ) × Stands names places n p → (p : ℕ) × Stands (m ∷ names) (q ∷ places) n p
stands_next m q names places n h = (suc h.0, h.1)

there_of : (names : List (List ℕ)) (places : List Place) (n : List ℕ) → name_in (delayed_of names places) n ≡ true → (p : ℕ) × Stands names places n p
there_of [] places n e = absurd (let w : true ≡ false = sym e in cc w)
there_of (m ∷ names) [] n e = absurd (let w : true ≡ false = sym e in cc w)
there_of (m ∷ names) (place.Delayed ∷ places) n e = elim (in_front m (delayed_of names places) n e) [
  | inl same ↦ (zero, (ap (λ (x : List ℕ). Some x) same, refl))
  | inr more ↦ stands_next m place.Delayed names places n (there_of names places n more)
]
there_of (m ∷ names) (place.Idle ∷ places) n e = stands_next m place.Idle names places n (there_of names places n e)
there_of (m ∷ names) (place.Listed ∷ places) n e = stands_next m place.Listed names places n (there_of names places n e)
there_of (m ∷ names) (place.Done ∷ places) n e = stands_next m place.Done names places n (there_of names places n e)

of_there : (names : List (List ℕ)) (places : List Place) (n : List ℕ) (p : ℕ) → Stands names places n p → name_in (delayed_of names places) n ≡ true
of_there [] places n p h = absurd (cc (h.0))
of_there (m ∷ names) [] n p h = absurd (cc (h.1))
of_there (m ∷ names) (place.Delayed ∷ places) n zero h = front_in m (delayed_of names places) n (let e : m ≡ n = cc (h.0) in e)
of_there (m ∷ names) (place.Delayed ∷ places) n (suc p) h = behind_in m (delayed_of names places) n (of_there names places n p (h.0, h.1))
of_there (m ∷ names) (place.Idle ∷ places) n zero h = absurd (cc (h.1))
of_there (m ∷ names) (place.Idle ∷ places) n (suc p) h = of_there names places n p (h.0, h.1)
of_there (m ∷ names) (place.Listed ∷ places) n zero h = absurd (cc (h.1))
of_there (m ∷ names) (place.Listed ∷ places) n (suc p) h = of_there names places n p (h.0, h.1)
of_there (m ∷ names) (place.Done ∷ places) n zero h = absurd (cc (h.1))
of_there (m ∷ names) (place.Done ∷ places) n (suc p) h = of_there names places n p (h.0, h.1)

get_same : (ps : List Place) (p : ℕ) (x y : Place) → slice_get ps p ≡ Some y → slice_get (slice_set ps p x) p ≡ Some x
get_same [] p x y at = absurd (cc (at))
get_same (z ∷ ps) zero x y at = refl
get_same (z ∷ ps) (suc p) x y at = get_same ps p x y at

get_other : (ps : List Place) (p q : ℕ) (x : Place) → (q ≡ p → ⊥) → slice_get (slice_set ps p x) q ≡ slice_get ps q
get_other [] p q x apart = refl
get_other (y ∷ ps) zero zero x apart = absurd (apart refl)
get_other (y ∷ ps) zero (suc q) x apart = refl
get_other (y ∷ ps) (suc p) zero x apart = refl
get_other (y ∷ ps) (suc p) (suc q) x apart = get_other ps p q x (λ same. apart (ap (λ n. suc n) same))

-- a name that was listed isn't delayed any more, and every other name is as before
still_delayed : (t : Table) (n m : List ℕ) (p q : ℕ) → IsDelayed n t p → IsDelayed m t q → (m ≡ n → ⊥) → IsDelayed m (listed_at p t) q
still_delayed t n m p q at there other = (there.0, get_other t.places p q place.Listed (λ same. other (clash same)) ∙ there.1)
  where
    clash : q ≡ p → m ≡ n
    clash same = let e : Some m ≡ Some n = sym there.0 ∙ (ap (λ (k : ℕ). slice_get t.names k) same ∙ at.0) in cc (e)

was_delayed : (t : Table) (n m : List ℕ) (p q : ℕ) → IsDelayed n t p → IsDelayed m (listed_at p t) q → IsDelayed m t q × (q ≡ p → ⊥)
was_delayed t n m p q at there = let apart : q ≡ p → ⊥ = gone in ((there.0, sym (get_other t.places p q place.Listed apart) ∙ there.1), apart)
  where
    gone : q ≡ p → ⊥
    gone same =
        let here : slice_get (slice_set t.places p place.Listed) p ≡ Some place.Delayed = subst (λ (k : ℕ). slice_get (slice_set t.places p place.Listed) k ≡ Some place.Delayed) same there.1 in
        let e : Some place.Listed ≡ Some place.Delayed = sym (get_same t.places p place.Listed place.Delayed at.1) ∙ here in
        cc (e)

differ_stays : (t : Table) (p : ℕ) → Differ t → Differ (listed_at p t)
differ_stays t p d = d

-- the names that were listed are not delayed any more
not_again : (names : List (List ℕ)) (old now : Table) (m : List ℕ) (q : ℕ) → Differ old → Lists names old now → IsDelayed m now q → IsDelayed m old q × (name_in names m ≡ false)
not_again [] old now m q d h there = (subst (λ (t : Table). IsDelayed m t q) h there, refl)
not_again (n ∷ names) old now m q d h there =
    let later = not_again names (listed_at h.0 old) now m q d h.2 there in
    let was = was_delayed old n m h.0 q h.1 later.0 in
    (was.0, none (bytes_eq n m) refl later.1 was)
  where
    none : (b : Bool) → bytes_eq n m ≡ b → name_in names m ≡ false → IsDelayed m old q × (q ≡ h.0 → ⊥) → name_in (n ∷ names) m ≡ false
    none true same rest was = absurd (was.1 (d n h.0 q h.1.0 (was.0.0 ∙ ap (λ (x : List ℕ). Some x) (sym (same_name n m same)))))
    none false other rest was = ap (λ (b : Bool). b || name_in names m) other ∙ rest

still_there : (names : List (List ℕ)) (old now : Table) (m : List ℕ) (q : ℕ) → Lists names old now → IsDelayed m old q → name_in names m ≡ false → IsDelayed m now q
still_there [] old now m q h there none = subst (λ (t : Table). IsDelayed m t q) (sym h) there
still_there (n ∷ names) old now m q h there none =
    still_there names (listed_at h.0 old) now m q h.2 (still_delayed old n m h.0 q h.1 there other) (rest (bytes_eq n m) none)
  where
    other : m ≡ n → ⊥
    other same = let w : true ≡ false = sym (front_in n names m (sym same)) ∙ none in cc w

    rest : (b : Bool) → (b || name_in names m) ≡ false → name_in names m ≡ false
    rest true e = absurd (let w : true ≡ false = e in cc w)
    rest false e = e

names_stay : (names : List (List ℕ)) (old now : Table) → Lists names old now → now.names ≡ old.names
names_stay [] old now h = ap (λ (t : Table). t.names) h
names_stay (n ∷ names) old now h = names_stay names (listed_at h.0 old) now h.2

-- one more name
pub lists_more : (names : List (List ℕ)) (old now : Table) (n : List ℕ) (p : ℕ) → Lists names old now → IsDelayed n now p → Lists (names ++ n ∷ []) old (listed_at p now)
lists_more [] old now n p h at = (p, subst (λ (t : Table). IsDelayed n t p) h at, ap (listed_at p) h)
lists_more (m ∷ names) old now n p h at = (h.0, h.1, lists_more names (listed_at h.0 old) now n p h.2 at)

differ_before : (names : List (List ℕ)) (old now : Table) → Lists names old now → Differ now → Differ old
differ_before names old now h d = let e = names_stay names old now h in
    λ name p q a b. d name p q (ap (λ (x : List (List ℕ)). slice_get x p) e ∙ a) (ap (λ (x : List (List ℕ)). slice_get x q) e ∙ b)

both : (a b : Bool) → a ≡ true → b ≡ false → (a && not b) ≡ true
both a b e f = rw (e, f) refl

-- a name may come next exactly if it is delayed now
pub expected : (names : List (List ℕ)) (old now : Table) (m : List ℕ) (q : ℕ) → Differ now → Lists names old now → IsDelayed m now q → (name_in (delayed_in old) m && not (name_in names m)) ≡ true
expected names old now m q d h there =
    let was = not_again names old now m q (differ_before names old now h d) h there in
    both (name_in (delayed_in old) m) (name_in names m) (of_there old.names old.places m q was.0) was.1

pub strange : (names : List (List ℕ)) (old now : Table) (m : List ℕ) → Lists names old now → ((q : ℕ) → IsDelayed m now q → ⊥) → (name_in (delayed_in old) m && not (name_in names m)) ≡ false
strange names old now m h none = by_tests (name_in (delayed_in old) m) (name_in names m) refl refl
  where
    by_tests : (a b : Bool) → name_in (delayed_in old) m ≡ a → name_in names m ≡ b → (a && not b) ≡ false
    by_tests false b e f = refl
    by_tests true true e f = refl
    by_tests true false e f = let there = there_of old.names old.places m e in absurd (none there.0 (still_there names old now m there.0 h there.1 f))
