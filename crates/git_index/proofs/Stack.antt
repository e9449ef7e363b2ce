-- The stack of open paths tells whether a folder of the next path is an earlier one.
use Rattle.std.proofs.Common.{◌≡◌, ℕ, zero, suc, ◌-◌, ◌<◌, ◌≤◌, Bool, true, false, not, ◌&&◌, ◌||◌, eqb, ltb, List, [], ◌∷◌, ◌++◌, length, get_or, Option, Some, None, refl, sym, ap, subst, ◌∙◌, arith, append_assoc}
use Rattle.std.specs.Prelude.{nat_eq, MatchOption, slice_get}
use Rattle.std.specs.List.{list_all, list_any, starts_with}
use Rattle.std.proofs.lemmas.Bool.{and_parts, and_from, and_left, and_right, ltb-true, lt-ltb, eqb-true, not-true, not_from_true, not_from_false, false_from_ne_true}
use Rattle.std.proofs.lemmas.List.Folds.{list_all-append, list_any-append}
use Rattle.std.proofs.lemmas.Option.{slice_get-get_or}
use Rattle.git_index.specs.declared.entry.Entry.{Entry}
use Rattle.git_index.specs.Spelling.{pairwise, is_before, is_below, is_in_folder, is_folder_of, is_clash}
use Rattle.git_index.specs.Folders.{is_after, is_under, AreOpen, Closes, OpensAt, Opens}
use Rattle.git_index.proofs.PathOrder.{starts_with-between, starts_with-trans, starts_with-length, starts_with-get, starts_with-shorter, is_below-at_zero}

regroup : (a b c d : Bool) → ((a && b) && (c && d)) ≡ ((a && c) && (b && d))
regroup true true c d = refl
regroup true false true d = refl
regroup true false false d = refl
regroup false b c d = refl

one : {X : Type 0} (test : X → Bool) (x : X) → list_all test (x ∷ []) ≡ test x
one test x = elim (test x) as (λ b. (b && true) ≡ b) [ true ↦ refl | false ↦ refl ]

some_one : {X : Type 0} (test : X → Bool) (x : X) → list_any test (x ∷ []) ≡ test x
some_one test x = elim (test x) as (λ b. (b || false) ≡ b) [ true ↦ refl | false ↦ refl ]

pub list_all-push : {X : Type 0} (test : X → Bool) (xs : List X) (x : X) → list_all test (xs ++ x ∷ []) ≡ (list_all test xs && test x)
list_all-push test xs x = list_all-append test xs (x ∷ []) ∙ ap (λ (b : Bool). list_all test xs && b) (one test x)

pub list_any-push : {X : Type 0} (test : X → Bool) (xs : List X) (x : X) → list_any test (xs ++ x ∷ []) ≡ (list_any test xs || test x)
list_any-push test xs x = list_any-append test xs (x ∷ []) ∙ ap (λ (b : Bool). list_any test xs || b) (some_one test x)

pub pairwise-push : {X : Type 0} (test : X → X → Bool) (xs : List X) (x : X) → pairwise test (xs ++ x ∷ []) ≡ (pairwise test xs && list_all (λ y. test y x) xs)
pairwise-push test [] x = refl
pairwise-push test (y ∷ ys) x =
    rw (list_all-push (test y) ys x, pairwise-push test ys x) (regroup (list_all (test y) ys) (test y x) (pairwise test ys) (list_all (λ z. test z x) ys))

pub pairwise-front : {X : Type 0} (test : X → X → Bool) (xs ys : List X) → pairwise test (xs ++ ys) ≡ true → pairwise test xs ≡ true
pairwise-front test [] ys h = refl
pairwise-front test (x ∷ xs) ys h =
    let p = and_parts (list_all (test x) (xs ++ ys)) (pairwise test (xs ++ ys)) h in
    let q = and_parts (list_all (test x) xs) (list_all (test x) ys) (sym (list_all-append (test x) xs ys) ∙ p.0) in
    and_from _ _ q.0 (pairwise-front test xs ys p.1)

list_all-front : {X : Type 0} (test : X → Bool) (xs ys zs : List X) → zs ≡ xs ++ ys → list_all test zs ≡ true → list_all test xs ≡ true
list_all-front test xs ys zs parts all = (and_parts (list_all test xs) (list_all test ys) (sym (list_all-append test xs ys) ∙ sym (ap (list_all test) parts) ∙ all)).0

-- what each element's test gives, all elements' gives
pub list_all-each : {X : Type 0} (p q : X → Bool) (xs : List X) → ((x : X) → p x ≡ true → q x ≡ true) → list_all p xs ≡ true → list_all q xs ≡ true
list_all-each p q [] h all = refl
list_all-each p q (x ∷ xs) h all =
    let a = and_parts (p x) (list_all p xs) all in and_from (q x) (list_all q xs) (h x a.0) (list_all-each p q xs h a.1)

pub list_all-both : {X : Type 0} (p q r : X → Bool) (xs : List X) → ((x : X) → p x ≡ true → q x ≡ true → r x ≡ true) → list_all p xs ≡ true → list_all q xs ≡ true → list_all r xs ≡ true
list_all-both p q r [] h all also = refl
list_all-both p q r (x ∷ xs) h all also =
    let a = and_parts (p x) (list_all p xs) all in
    let b = and_parts (q x) (list_all q xs) also in
    and_from (r x) (list_all r xs) (h x a.0 b.0) (list_all-both p q r xs h a.1 b.1)

pub list_any-not : {X : Type 0} (p q : X → Bool) (xs : List X) → ((x : X) → p x ≡ true → q x ≡ false) → list_all p xs ≡ true → list_any q xs ≡ false
list_any-not p q [] h all = refl
list_any-not p q (x ∷ xs) h all =
    let a = and_parts (p x) (list_all p xs) all in rw (h x a.0) (list_any-not p q xs h a.1)

pub list_any-not_both : {X : Type 0} (p r q : X → Bool) (xs : List X) → ((x : X) → p x ≡ true → r x ≡ true → q x ≡ false) → list_all p xs ≡ true → list_all r xs ≡ true → list_any q xs ≡ false
list_any-not_both p r q [] h all also = refl
list_any-not_both p r q (x ∷ xs) h all also =
    let a = and_parts (p x) (list_all p xs) all in
    let b = and_parts (r x) (list_all r xs) also in
    rw (h x a.0 b.0) (list_any-not_both p r q xs h a.1 b.1)

list_any-and : {X : Type 0} (c : Bool) (p : X → Bool) (xs : List X) → list_any (λ x. c && p x) xs ≡ (c && list_any p xs)
list_any-and true p [] = refl
list_any-and true p (x ∷ xs) = ap (λ (b : Bool). p x || b) (list_any-and true p xs)
list_any-and false p [] = refl
list_any-and false p (x ∷ xs) = list_any-and false p xs

-- what the path does not begin with is no folder of it, nor of a later path
no_folder : (d e : List ℕ) → not (starts_with nat_eq e d) ≡ true → is_in_folder d e ≡ false
no_folder d e h = and_left _ _ (and_left _ _ (not-true _ h))

no_later_folder : (e q d : List ℕ) → is_before e q ≡ true → not (starts_with nat_eq e d) ≡ true → is_before d e ≡ true → is_in_folder d q ≡ false
no_later_folder e q d b h a =
    false_from_ne_true _ (λ yes.
    let p = and_parts (starts_with nat_eq q d && ltb (length d) (length q)) (eqb (get_or q (length d) 0) 47) yes in
    let begins : starts_with nat_eq e d ≡ true = starts_with-between d e q (and_parts (starts_with nat_eq q d) (ltb (length d) (length q)) p.0).0 a b in
    let no : false ≡ true = sym (not_from_true _ begins) ∙ h in absurd cc)

-- a path is under each later one, up to the top and beyond
record Under (d t : List ℕ) : Type 0 where
  pub begins : starts_with nat_eq t d ≡ true
  pub shorter : length d < length t
  pub apart : eqb (get_or t (length d) 0) 47 ≡ false

under_parts : (d t : List ℕ) → is_under d t ≡ true → Under d t
under_parts d t h =
    let p = and_parts (starts_with nat_eq t d && ltb (length d) (length t)) (not (eqb (get_or t (length d) 0) 47)) h in
    let q = and_parts (starts_with nat_eq t d) (ltb (length d) (length t)) p.0 in
    record { begins = q.0; shorter = ltb-true _ _ q.1; apart = not-true _ p.1 }

under_from : (d t : List ℕ) → Under d t → is_under d t ≡ true
under_from d t u = and_from _ _ (and_from _ _ u.begins (lt-ltb _ _ u.shorter)) (not_from_false _ u.apart)

pub under-folder : (d e : List ℕ) → is_under d e ≡ true → is_in_folder d e ≡ false
under-folder d e h = and_right _ _ (under_parts d e h).apart

pub under-beyond : (d t e : List ℕ) → starts_with nat_eq e t ≡ true → is_under d t ≡ true → is_under d e ≡ true
under-beyond d t e s h =
    let u = under_parts d t h in
    let long : length t ≤ length e = starts_with-length t e s in
    under_from d e (record {
      begins = starts_with-trans d t e u.begins s;
      shorter = omega (arith, u.shorter);
      apart = ap (λ (b : ℕ). eqb b 47) (starts_with-get t e (length d) s u.shorter) ∙ u.apart;
    })

-- the last path, which is no folder of this one
pub under-top : (t e : List ℕ) → starts_with nat_eq e t ≡ true → is_before t e ≡ true → is_in_folder t e ≡ false → is_under t e ≡ true
under-top t e s b apart =
    let shorter : length t < length e = starts_with-shorter t e s b in
    under_from t e (record {
      begins = s;
      shorter = shorter;
      apart = false_from_ne_true _ (λ yes. let both : is_in_folder t e ≡ true = and_from _ _ (and_from _ _ s (lt-ltb _ _ shorter)) yes in let odd : true ≡ false = sym both ∙ apart in absurd cc);
    })

last_at : {X : Type 0} (xs : List X) (t : X) (n : ℕ) → length xs ≡ suc n → slice_get xs n ≡ Some t → (ts : List X) × (xs ≡ ts ++ t ∷ [])
last_at [] t n e g = absurd (omega arith)
last_at {X = X} (x ∷ []) t zero e g = let same : x ≡ t = cc in ([], ap (λ (y : X). y ∷ []) same)
last_at (x ∷ []) t (suc n) e g = absurd (omega arith)
last_at (x ∷ (y ∷ ys)) t zero e g = absurd (omega arith)
last_at {X = X} (x ∷ (y ∷ ys)) t (suc n) e g = let r = last_at (y ∷ ys) t n (omega arith) g in (x ∷ r.0, ap (λ (zs : List X). x ∷ zs) r.1)

pub last-splits : {X : Type 0} (xs : List X) (t : X) → slice_get xs (length xs - 1) ≡ Some t → (ts : List X) × (xs ≡ ts ++ t ∷ [])
last-splits [] t g = absurd cc
last-splits (x ∷ xs) t g = last_at (x ∷ xs) t (length (x ∷ xs) - 1) (omega arith) g

pub last-none : {X : Type 0} (xs : List X) → slice_get xs (length xs - 1) ≡ None → xs ≡ []
last-none [] g = refl
last-none (x ∷ xs) g = let some = slice_get-get_or (x ∷ xs) (length (x ∷ xs) - 1) x (omega arith) in absurd cc

-- what is left of the stack of a path
record Kept (e : List ℕ) (kept : List (List ℕ)) (clash : Bool) : Type 0 where
  pub told : list_any (λ d. is_in_folder d e) kept ≡ clash
  pub under : clash ≡ false → list_all (λ d. is_under d e) kept ≡ true

kept_under : (e t : List ℕ) (ts : List (List ℕ)) → pairwise is_under (ts ++ t ∷ []) ≡ true → is_before t e ≡ true → starts_with nat_eq e t ≡ true → Kept e (ts ++ t ∷ []) (is_in_folder t e)
kept_under e t ts chain before begins =
    let p = and_parts (pairwise is_under ts) (list_all (λ d. is_under d t) ts) (sym (pairwise-push is_under ts t) ∙ chain) in
    let below : list_all (λ d. is_under d e) ts ≡ true = list_all-each (λ d. is_under d t) (λ d. is_under d e) ts (λ d h. under-beyond d t e begins h) p.1 in
    let none : list_any (λ d. is_in_folder d e) ts ≡ false = list_any-not (λ d. is_under d e) (λ d. is_in_folder d e) ts (λ d h. under-folder d e h) below in
    record {
      told = list_any-push (λ d. is_in_folder d e) ts t ∙ ap (λ (b : Bool). b || is_in_folder t e) none;
      under = λ apart. list_all-push (λ d. is_under d e) ts t ∙ and_from _ _ below (under-top t e begins before apart);
    }

kept_by : (e : List ℕ) (kept : List (List ℕ)) (clash : Bool) (o : Option (List ℕ)) → slice_get kept (length kept - 1) ≡ o
    → MatchOption o (clash ≡ false) (λ t. (starts_with nat_eq e t ≡ true) × (clash ≡ is_in_folder t e))
    → pairwise is_under kept ≡ true → list_all (λ d. is_before d e) kept ≡ true → Kept e kept clash
kept_by e kept clash None g top chain before =
    subst (λ (ks : List (List ℕ)). Kept e ks clash) (sym (last-none kept g)) (record { told = sym top; under = λ apart. refl })
kept_by e kept clash (Some t) g top chain before =
    let s = last-splits kept t g in
    let chain' : pairwise is_under (s.0 ++ t ∷ []) ≡ true = subst (λ (ks : List (List ℕ)). pairwise is_under ks ≡ true) s.1 chain in
    let before' : list_all (λ d. is_before d e) (s.0 ++ t ∷ []) ≡ true = subst (λ (ks : List (List ℕ)). list_all (λ d. is_before d e) ks ≡ true) s.1 before in
    let last : is_before t e ≡ true = (and_parts _ _ (sym (list_all-push (λ d. is_before d e) s.0 t) ∙ before')).1 in
    subst (λ (b : Bool). Kept e kept b) (sym top.1) (subst (λ (ks : List (List ℕ)). Kept e ks (is_in_folder t e)) (sym s.1) (kept_under e t s.0 chain' last top.0))

or_false : (b c : Bool) → c ≡ false → (b || c) ≡ b
or_false true c h = refl
or_false false c h = h

-- what was closed has no part in the answer, here or later
closed_here : (e : List ℕ) (old kept dropped : List (List ℕ)) → old ≡ kept ++ dropped → list_all (λ d. not (starts_with nat_eq e d)) dropped ≡ true
    → list_any (λ d. is_in_folder d e) old ≡ list_any (λ d. is_in_folder d e) kept
closed_here e old kept dropped parts gone =
    let none : list_any (λ d. is_in_folder d e) dropped ≡ false = list_any-not (λ d. not (starts_with nat_eq e d)) (λ d. is_in_folder d e) dropped (λ d h. no_folder d e h) gone in
    ap (list_any (λ d. is_in_folder d e)) parts ∙ list_any-append (λ d. is_in_folder d e) kept dropped ∙ or_false _ _ none

closed_later : (e q : List ℕ) (old kept dropped : List (List ℕ)) → old ≡ kept ++ dropped → list_all (λ d. not (starts_with nat_eq e d)) dropped ≡ true → list_all (λ d. is_before d e) old ≡ true → is_before e q ≡ true
    → list_any (λ d. is_in_folder d q) old ≡ list_any (λ d. is_in_folder d q) kept
closed_later e q old kept dropped parts gone before later =
    let all : list_all (λ d. is_before d e) (kept ++ dropped) ≡ true = subst (λ (ks : List (List ℕ)). list_all (λ d. is_before d e) ks ≡ true) parts before in
    let some : list_all (λ d. is_before d e) dropped ≡ true = (and_parts _ _ (sym (list_all-append (λ d. is_before d e) kept dropped) ∙ all)).1 in
    let none : list_any (λ d. is_in_folder d q) dropped ≡ false = list_any-not_both (λ d. not (starts_with nat_eq e d)) (λ d. is_before d e) (λ d. is_in_folder d q) dropped (λ d h a. no_later_folder e q d later h a) gone some in
    ap (list_any (λ d. is_in_folder d q)) parts ∙ list_any-append (λ d. is_in_folder d q) kept dropped ∙ or_false _ _ none

rising_next : (earlier : List Entry) (e : Entry) → pairwise is_below earlier ≡ true → list_all (λ b. is_below b e) earlier ≡ true → pairwise is_below (earlier ++ e ∷ []) ≡ true
rising_next earlier e rising above = pairwise-push is_below earlier e ∙ and_from _ _ rising above

after_parts : (earlier : List Entry) (e : Entry) (q : List ℕ) → is_after (earlier ++ e ∷ []) q ≡ true → (is_after earlier q ≡ true) × (is_before e.path q ≡ true)
after_parts earlier e q h = and_parts _ _ (sym (list_all-push (λ b. is_before b.path q) earlier e) ∙ h)

other_stage : (earlier : List Entry) (old : List (List ℕ)) (e : Entry) → AreOpen earlier old → list_all (λ b. is_below b e) earlier ≡ true → eqb e.stage 0 ≡ false → AreOpen (earlier ++ e ∷ []) old
other_stage earlier old e known above stage = record {
  rising = rising_next earlier e known.rising above;
  chain = known.chain;
  within = λ q h. known.within q (after_parts earlier e q h).0;
  same = λ q h. list_any-push (λ b. is_folder_of b q) earlier e ∙ or_false _ _ (and_left _ _ stage) ∙ known.same q (after_parts earlier e q h).0;
}

stage_zero : (earlier : List Entry) (old kept : List (List ℕ)) (e : Entry) → AreOpen earlier old → list_all (λ b. is_below b e) earlier ≡ true → eqb e.stage 0 ≡ true → list_all (λ d. is_before d e.path) old ≡ true
    → Closes e.path old kept false → list_all (λ d. is_under d e.path) kept ≡ true → AreOpen (earlier ++ e ∷ []) (kept ++ e.path ∷ [])
stage_zero earlier old kept e known above stage before closed under =
    record {
      rising = rising_next earlier e known.rising above;
      chain = pairwise-push is_under kept e.path ∙ and_from _ _ (pairwise-front is_under kept closed.dropped (subst (λ (ks : List (List ℕ)). pairwise is_under ks ≡ true) closed.parts known.chain)) under;
      within = λ q h.
          let p = after_parts earlier e q h in
          list_all-push (λ d. is_before d q) kept e.path ∙ and_from _ _ (list_all-front (λ d. is_before d q) kept closed.dropped old closed.parts (known.within q p.0)) p.1;
      same = λ q h.
          let p = after_parts earlier e q h in
          let old_same : list_any (λ b. is_folder_of b q) earlier ≡ list_any (λ d. is_in_folder d q) kept = known.same q p.0 ∙ closed_later e.path q old kept closed.dropped closed.parts closed.gone before p.1 in
          let here : is_folder_of e q ≡ is_in_folder e.path q = ap (λ (b : Bool). b && is_in_folder e.path q) stage in
          list_any-push (λ b. is_folder_of b q) earlier e ∙ ap (λ (b : Bool). b || is_folder_of e q) old_same ∙ ap (λ (b : Bool). list_any (λ d. is_in_folder d q) kept || b) here ∙ sym (list_any-push (λ d. is_in_folder d q) kept e.path);
    }

-- What happened to the stack decides the clash. If there is none, the stack is right for the entries with this one.
pub record Told (earlier : List Entry) (new : List (List ℕ)) (e : Entry) (clash : Bool) : Type 0 where
  pub told : list_any (λ b. is_clash b e) earlier ≡ clash
  pub still : clash ≡ false → AreOpen (earlier ++ e ∷ []) new

told_by : (stage : Bool) (earlier : List Entry) (old new : List (List ℕ)) (e : Entry) (clash : Bool) → eqb e.stage 0 ≡ stage → AreOpen earlier old → list_all (λ b. is_below b e) earlier ≡ true → OpensAt stage e old new clash → Told earlier new e clash
told_by false earlier old new e clash stage known above step = record {
  told = list_any-and (eqb e.stage 0) (λ b. is_folder_of b e.path) earlier ∙ and_left _ _ stage ∙ sym step.0;
  still = λ apart. subst (AreOpen (earlier ++ e ∷ [])) (sym step.1) (other_stage earlier old e known above stage);
}
told_by true earlier old new e clash stage known above step =
    let zero_stage : e.stage ≡ 0 = eqb-true e.stage 0 stage in
    let after : is_after earlier e.path ≡ true = list_all-each (λ b. is_below b e) (λ b. is_before b.path e.path) earlier (λ b h. is_below-at_zero b e zero_stage h) above in
    let before : list_all (λ d. is_before d e.path) old ≡ true = known.within e.path after in
    let closed = step.1 in
    let chain : pairwise is_under step.0 ≡ true = pairwise-front is_under step.0 closed.dropped (subst (λ (ks : List (List ℕ)). pairwise is_under ks ≡ true) closed.parts known.chain) in
    let front : list_all (λ d. is_before d e.path) step.0 ≡ true = list_all-front (λ d. is_before d e.path) step.0 closed.dropped old closed.parts before in
    let kept = kept_by e.path step.0 clash (slice_get step.0 (length step.0 - 1)) refl closed.top chain front in
    record {
      told = list_any-and (eqb e.stage 0) (λ b. is_folder_of b e.path) earlier ∙ ap (λ (b : Bool). b && list_any (λ b. is_folder_of b e.path) earlier) stage ∙ known.same e.path after ∙ closed_here e.path old step.0 closed.dropped closed.parts closed.gone ∙ kept.told;
      still = λ apart. subst (AreOpen (earlier ++ e ∷ [])) (sym (step.2 apart)) (stage_zero earlier old step.0 e known above stage before (subst (Closes e.path old step.0) apart closed) (kept.under apart));
    }

pub told : (earlier : List Entry) (old new : List (List ℕ)) (e : Entry) (clash : Bool) → AreOpen earlier old → list_all (λ b. is_below b e) earlier ≡ true → Opens e old new clash → Told earlier new e clash
told earlier old new e clash known above step = told_by (eqb e.stage 0) earlier old new e clash refl known above step

-- what a loop has closed
pub record ClosedSoFar (path : List ℕ) (old new : List (List ℕ)) : Type 0 where
  pub dropped : List (List ℕ)
  pub parts : old ≡ new ++ dropped
  pub gone : list_all (λ d. not (starts_with nat_eq path d)) dropped ≡ true

pub ClosedSoFar-more : (path d : List ℕ) (old new newer : List (List ℕ)) → ClosedSoFar path old new → new ≡ newer ++ d ∷ [] → starts_with nat_eq path d ≡ false → ClosedSoFar path old newer
ClosedSoFar-more path d old new newer c parts no_beginning = record {
  dropped = d ∷ c.dropped;
  parts = c.parts ∙ ap (λ (xs : List (List ℕ)). xs ++ c.dropped) parts ∙ append_assoc newer (d ∷ []) c.dropped;
  gone = and_from _ _ (not_from_false _ no_beginning) c.gone;
}
