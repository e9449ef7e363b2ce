-- Entries whose checks passed one by one are in order as a whole, and the other way round.
use Rattle.std.proofs.Common.{◌≡◌, ℕ, zero, suc, ◌-◌, Bool, true, false, not, ◌&&◌, ◌||◌, List, [], ◌∷◌, ◌++◌, length, Option, Some, None, Result, Ok, refl, sym, ap, subst, ◌∙◌, append_assoc, arith}
use Rattle.std.specs.Prelude.{slice_get}
use Rattle.std.specs.List.{list_all, list_any}
use Rattle.std.specs.Ordering.{is_lt}
use Rattle.std.specs.declared.cmp.Ordering.{Ordering}
use Rattle.std.specs.declared.cmp.Ordering.TheVariants.{Less, Equal, Greater}
use Rattle.std.proofs.lemmas.Bool.{and_parts, and_from, not-true, not_from_false}
use Rattle.std.proofs.lemmas.Cmp.{nat_list_cmp_total}
use Rattle.std.proofs.lemmas.List.Folds.{list_all-append}
use Rattle.std.proofs.lemmas.Option.{slice_get-get_or}
use Rattle.git_trees.specs.declared.entry.TreeEntry.{TreeEntry}
use Rattle.git_trees.specs.declared.fault.TreeFault.{TreeFault}
use Rattle.git_trees.specs.declared.fault.TreeFault.TheVariants.{Order, Twice}
use Rattle.git_trees.specs.Format.{pairwise, key, is_before, is_below, is_same, is_other}
use Rattle.git_trees.specs.Reading.{want, last_of, is_none_or, placed_at}

less_from : (o : Ordering) → is_lt o ≡ true → o ≡ Less
less_from Less e = refl
less_from Equal e = absurd cc
less_from Greater e = absurd cc

pub is_before-trans : (a b c : List ℕ) → is_before a b ≡ true → is_before b c ≡ true → is_before a c ≡ true
is_before-trans a b c p q = ap is_lt (nat_list_cmp_total.trans a b c (less_from _ p) (less_from _ q))

regroup : (a b c d : Bool) → ((a && b) && (c && d)) ≡ ((a && c) && (b && d))
regroup true true c d = refl
regroup true false true d = refl
regroup true false false d = refl
regroup false b c d = refl

one : {X : Type 0} (test : X → Bool) (x : X) → list_all test (x ∷ []) ≡ test x
one test x = elim (test x) as (λ b. (b && true) ≡ b) [ true ↦ refl | false ↦ refl ]

pub list_all-push : {X : Type 0} (test : X → Bool) (xs : List X) (x : X) → list_all test (xs ++ x ∷ []) ≡ (list_all test xs && test x)
list_all-push test xs x = list_all-append test xs (x ∷ []) ∙ ap (λ (b : Bool). list_all test xs && b) (one test x)

pub pairwise-push : {X : Type 0} (test : X → X → Bool) (xs : List X) (x : X) → pairwise test (xs ++ x ∷ []) ≡ (pairwise test xs && list_all (λ y. test y x) xs)
pairwise-push test [] x = refl
pairwise-push test (y ∷ ys) x =
    rw (list_all-push (test y) ys x, pairwise-push test ys x) (regroup (list_all (test y) ys) (test y x) (pairwise test ys) (list_all (λ z. test z x) ys))

pub pairwise-front : {X : Type 0} (test : X → X → Bool) (xs ys : List X) → pairwise test (xs ++ ys) ≡ true → pairwise test xs ≡ true
pairwise-front test [] ys h = refl
pairwise-front test (x ∷ xs) ys h =
    let p = and_parts (list_all (test x) (xs ++ ys)) (pairwise test (xs ++ ys)) h in
    let q = and_parts (list_all (test x) xs) (list_all (test x) ys) (sym (list_all-append (test x) xs ys) ∙ p.0) in
    and_from _ _ q.0 (pairwise-front test xs ys p.1)

-- what each element's test gives, all elements' gives
pub list_all-each : {X : Type 0} (p q : X → Bool) (xs : List X) → ((x : X) → p x ≡ true → q x ≡ true) → list_all p xs ≡ true → list_all q xs ≡ true
list_all-each p q [] h all = refl
list_all-each p q (x ∷ xs) h all =
    let a = and_parts (p x) (list_all p xs) all in and_from (q x) (list_all q xs) (h x a.0) (list_all-each p q xs h a.1)

last_at : {X : Type 0} (xs : List X) (t : X) (n : ℕ) → length xs ≡ suc n → slice_get xs n ≡ Some t → (ts : List X) × (xs ≡ ts ++ t ∷ [])
last_at [] t n e g = absurd (omega arith)
last_at {X = X} (x ∷ []) t zero e g = let same : x ≡ t = cc in ([], ap (λ (y : X). y ∷ []) same)
last_at (x ∷ []) t (suc n) e g = absurd (omega arith)
last_at (x ∷ (y ∷ ys)) t zero e g = absurd (omega arith)
last_at {X = X} (x ∷ (y ∷ ys)) t (suc n) e g = let r = last_at (y ∷ ys) t n (omega arith) g in (x ∷ r.0, ap (λ (zs : List X). x ∷ zs) r.1)

pub last-splits : {X : Type 0} (xs : List X) (t : X) → slice_get xs (length xs - 1) ≡ Some t → (ts : List X) × (xs ≡ ts ++ t ∷ [])
last-splits [] t g = absurd cc
last-splits (x ∷ xs) t g = last_at (x ∷ xs) t (length (x ∷ xs) - 1) (omega arith) g

pub last-none : {X : Type 0} (xs : List X) → slice_get xs (length xs - 1) ≡ None → xs ≡ []
last-none [] g = refl
last-none (x ∷ xs) g = let some = slice_get-get_or (x ∷ xs) (length (x ∷ xs) - 1) x (omega arith) in absurd cc

-- entries in order, of which no two have one name
pub record IsOrdered (es : List TreeEntry) : Type 0 where
  pub rising : pairwise is_below es ≡ true
  pub apart : pairwise is_other es ≡ true

pub IsOrdered-nil : IsOrdered []
IsOrdered-nil = record { rising = refl; apart = refl }

-- a test that has passed
pub want_ok : {A : Type 0} (b : Bool) (f : TreeFault) (r : Result A TreeFault) (y : A) → want b f r ≡ Ok y → (b ≡ true) × (r ≡ Ok y)
want_ok true f r y e = (refl, e)
want_ok false f r y e = absurd cc

abbrev done : {A : Type 0} → A → Result A TreeFault
done x = Ok x

pub ok_is : {A : Type 0} (x y : A) → done x ≡ done y → x ≡ y
ok_is x y e = cc

none_all : {X : Type 0} (test : X → Bool) (xs : List X) → list_any test xs ≡ false → list_all (λ x. not (test x)) xs ≡ true
none_all test [] h = refl
none_all test (x ∷ xs) h = elim (test x) as (λ b. (b || list_any test xs) ≡ false → (not b && list_all (λ y. not (test y)) xs) ≡ true) [
  | true ↦ λ e. absurd cc
  | false ↦ λ e. none_all test xs e
] h

all_none : {X : Type 0} (test : X → Bool) (xs : List X) → list_all (λ x. not (test x)) xs ≡ true → list_any test xs ≡ false
all_none test [] h = refl
all_none test (x ∷ xs) h = elim (test x) as (λ b. (not b && list_all (λ y. not (test y)) xs) ≡ true → (b || list_any test xs) ≡ false) [
  | true ↦ λ e. absurd cc
  | false ↦ λ e. all_none test xs e
] h

pub or_left : (a b : Bool) → a ≡ true → (a || b) ≡ true
or_left true b e = refl
or_left false b e = absurd cc

pub or_not : (a b : Bool) → (a || b) ≡ true → not b ≡ true → a ≡ true
or_not true b e n = refl
or_not false true e n = absurd cc
or_not false false e n = absurd cc

above_by : (earlier : List TreeEntry) (e : TreeEntry) (o : Option TreeEntry) → slice_get earlier (length earlier - 1) ≡ o → pairwise is_below earlier ≡ true → is_none_or (λ b. is_below b e || is_same b e) o ≡ true → list_all (λ b. is_other b e) earlier ≡ true → list_all (λ b. is_below b e) earlier ≡ true
above_by earlier e None g rising behind apart = ap (list_all (λ b. is_below b e)) (last-none earlier g)
above_by earlier e (Some t) g rising behind apart =
    let s = last-splits earlier t g in
    let other = and_parts (list_all (λ b. is_other b e) s.0) (is_other t e) (sym (list_all-push (λ b. is_other b e) s.0 t) ∙ ap (list_all (λ b. is_other b e)) (sym s.1) ∙ apart) in
    let above : is_below t e ≡ true = or_not (is_below t e) (is_same t e) behind other.1 in
    let p = and_parts (pairwise is_below s.0) (list_all (λ b. is_below b t) s.0) (sym (pairwise-push is_below s.0 t) ∙ ap (pairwise is_below) (sym s.1) ∙ rising) in
    let front : list_all (λ b. is_below b e) s.0 ≡ true = list_all-each (λ b. is_below b t) (λ b. is_below b e) s.0 (λ b h. is_before-trans (key b) (key t) (key e) h above) p.1 in
    ap (list_all (λ b. is_below b e)) s.1 ∙ list_all-push (λ b. is_below b e) s.0 t ∙ and_from _ _ front above

pub ordered_more : (earlier : List TreeEntry) (e made : TreeEntry) → IsOrdered earlier → placed_at earlier e ≡ Ok made → IsOrdered (earlier ++ made ∷ [])
unfolding placed_at
ordered_more earlier e made ordered is =
    let k : ℕ = length earlier in
    let r1 : Result TreeEntry TreeFault = want (not (list_any (λ b. is_same b e) earlier)) (Twice k) (Ok e) in
    let a = want_ok (is_none_or (λ b. is_below b e || is_same b e) (last_of earlier)) (Order k) r1 made is in
    let b = want_ok (not (list_any (λ b. is_same b e) earlier)) (Twice k) (Ok e) made a.1 in
    let apart : list_all (λ b. is_other b e) earlier ≡ true = none_all (λ b. is_same b e) earlier (not-true _ b.0) in
    let above = above_by earlier e (last_of earlier) refl ordered.rising a.0 apart in
    subst (λ (x : TreeEntry). IsOrdered (earlier ++ x ∷ [])) (ok_is e made b.1) (record {
      rising = pairwise-push is_below earlier e ∙ and_from _ _ ordered.rising above;
      apart = pairwise-push is_other earlier e ∙ and_from _ _ ordered.apart apart;
    })

pub rising_more : (earlier : List TreeEntry) (e : TreeEntry) → pairwise is_below earlier ≡ true → placed_at earlier e ≡ Ok e → pairwise is_below (earlier ++ e ∷ []) ≡ true
unfolding placed_at
rising_more earlier e rising is =
    let k : ℕ = length earlier in
    let r1 : Result TreeEntry TreeFault = want (not (list_any (λ b. is_same b e) earlier)) (Twice k) (Ok e) in
    let a = want_ok (is_none_or (λ b. is_below b e || is_same b e) (last_of earlier)) (Order k) r1 e is in
    let b = want_ok (not (list_any (λ b. is_same b e) earlier)) (Twice k) (Ok e) e a.1 in
    let apart : list_all (λ b. is_other b e) earlier ≡ true = none_all (λ b. is_same b e) earlier (not-true _ b.0) in
    pairwise-push is_below earlier e ∙ and_from _ _ rising (above_by earlier e (last_of earlier) refl rising a.0 apart)

pub placed_is : (earlier : List TreeEntry) (e made : TreeEntry) → placed_at earlier e ≡ Ok made → e ≡ made
unfolding placed_at
placed_is earlier e made is =
    let k : ℕ = length earlier in
    let r1 : Result TreeEntry TreeFault = want (not (list_any (λ b. is_same b e) earlier)) (Twice k) (Ok e) in
    let a = want_ok (is_none_or (λ b. is_below b e || is_same b e) (last_of earlier)) (Order k) r1 made is in
    ok_is e made (want_ok (not (list_any (λ b. is_same b e) earlier)) (Twice k) (Ok e) made a.1).1

-- what a test of each two entries says of one entry and those before it
of_earlier : (test : TreeEntry → TreeEntry → Bool) (earlier : List TreeEntry) (e : TreeEntry) (es : List TreeEntry) → pairwise test (earlier ++ e ∷ es) ≡ true → list_all (λ b. test b e) earlier ≡ true
of_earlier test earlier e es h =
    let whole : pairwise test ((earlier ++ e ∷ []) ++ es) ≡ true = ap (pairwise test) (append_assoc earlier (e ∷ []) es) ∙ h in
    (and_parts (pairwise test earlier) (list_all (λ b. test b e) earlier) (sym (pairwise-push test earlier e) ∙ pairwise-front test (earlier ++ e ∷ []) es whole)).1

of_last : (test : TreeEntry → Bool) (earlier : List TreeEntry) (o : Option TreeEntry) → slice_get earlier (length earlier - 1) ≡ o → list_all test earlier ≡ true → is_none_or test o ≡ true
of_last test earlier None g all = refl
of_last test earlier (Some t) g all =
    let s = last-splits earlier t g in (and_parts (list_all test s.0) (test t) (sym (list_all-push test s.0 t) ∙ ap (list_all test) (sym s.1) ∙ all)).1

pub placed_again : (earlier : List TreeEntry) (e : TreeEntry) (es : List TreeEntry) → IsOrdered (earlier ++ e ∷ es) → placed_at earlier e ≡ Ok e
unfolding placed_at
placed_again earlier e es ordered =
    let below = of_earlier is_below earlier e es ordered.rising in
    let either : list_all (λ b. is_below b e || is_same b e) earlier ≡ true = list_all-each (λ b. is_below b e) (λ b. is_below b e || is_same b e) earlier (λ b h. or_left (is_below b e) (is_same b e) h) below in
    let behind = of_last (λ b. is_below b e || is_same b e) earlier (last_of earlier) refl either in
    let apart : not (list_any (λ b. is_same b e) earlier) ≡ true = not_from_false _ (all_none (λ b. is_same b e) earlier (of_earlier is_other earlier e es ordered.apart)) in
    rw (behind, apart) refl
