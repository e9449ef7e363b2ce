-- Turns, and places that are taken out of them.
use Rattle.std.proofs.Common.{◌≡◌, ℕ, zero, suc, ◌+◌, ◌<◌, ◌≤◌, Bool, true, false, cond, List, [], ◌∷◌, ◌++◌, length}
use Rattle.std.proofs.Common.{get_or, take, drop, Some, refl, sym, ap, ◌∙◌, subst, arith, eq-eqb, ne_eqb}
use Rattle.std.specs.Prelude.{slice_get, remove, nat_lt}
use Rattle.std.proofs.lemmas.Option.{slice_get-get_or}
use Rattle.std.proofs.lemmas.Bool.Decides.{nat_tests}
use mathlib.Core.Logic.{dite}
use native.Mathlib.Decide.{ℕ_discrete}
use Rattle.delay_table.specs.Table.{contains, without, AreApart}

-- a place that isn't the first is further on, or nowhere
pub contains_else : (p q : ℕ) (qs : List ℕ) → (p ≡ q → ⊥) → contains p (q ∷ qs) ≡ contains p qs
contains_else p q qs apart = ap (λ (b : Bool). cond b true (contains p qs)) (ne_eqb p q apart)

pub contains_here : (p : ℕ) (qs : List ℕ) → contains p (p ∷ qs) ≡ true
contains_here p qs = ap (λ (b : Bool). cond b true (contains p qs)) (eq-eqb p p refl)

pub without_else : (p q : ℕ) (qs : List ℕ) → (p ≡ q → ⊥) → without p (q ∷ qs) ≡ q ∷ without p qs
without_else p q qs apart = ap (λ (b : Bool). cond b (without p qs) (q ∷ without p qs)) (ne_eqb p q apart)

pub without_here : (p : ℕ) (qs : List ℕ) → without p (p ∷ qs) ≡ without p qs
without_here p qs = ap (λ (b : Bool). cond b (without p qs) (p ∷ without p qs)) (eq-eqb p p refl)

-- what isn't there stays out of it
pub without_none : (p : ℕ) (qs : List ℕ) → contains p qs ≡ false → without p qs ≡ qs
without_none p [] none = refl
without_none p (q ∷ qs) none = dite (ℕ_discrete p q)
    (λ same. absurd (let h : true ≡ false =
    sym (subst (λ (x : ℕ). contains p (x ∷ qs) ≡ true) same (contains_here p qs)) ∙ none in cc (h)))
    (λ apart. without_else p q qs apart ∙ ap (λ l. q ∷ l) (without_none p qs (sym (contains_else p q qs apart) ∙ none)))

-- the first of a list of turns is nowhere else in it
pub struck : (p i : ℕ) (qs : List ℕ) → AreApart qs → contains p (take i qs) ≡ false → slice_get qs i ≡ Some p
    → remove qs i ≡ without p qs
struck p i [] apart before at = absurd (cc (at))
struck p zero (q ∷ qs) apart before at =
    let same : q ≡ p = cc (at) in
    subst (λ (x : ℕ). remove (q ∷ qs) 0 ≡ without x (q ∷ qs)) same
    (sym (without_none q qs apart.0) ∙ sym (without_here q qs))
struck p (suc i) (q ∷ qs) apart before at = dite (ℕ_discrete p q)
    (λ same. absurd (let h : true ≡ false =
    sym (subst (λ (x : ℕ). contains p (x ∷ take i qs) ≡ true) same (contains_here p (take i qs))) ∙ before in
    cc (h)))
    (λ other. ap (λ l. q ∷ l) (struck p i qs apart.1 (sym (contains_else p q (take i qs) other) ∙ before) at)
    ∙ sym (without_else p q qs other))

pub whole : (p i : ℕ) (qs : List ℕ) → length qs ≤ i → contains p (take i qs) ≡ false → without p qs ≡ qs
whole p i qs long none = without_none p qs (subst (λ l. contains p l ≡ false) (all i qs long) none)
  where
    all : (i : ℕ) (qs : List ℕ) → length qs ≤ i → take i qs ≡ qs
    all zero [] long = refl
    all (suc i) [] long = refl
    all zero (q ∷ qs) long = absurd (omega arith)
    all (suc i) (q ∷ qs) long = ap (λ l. q ∷ l) (all i qs (omega arith))

-- what is removed after the first n is removed from the rest
pub remove_behind : (n i : ℕ) (qs : List ℕ) → n ≤ length qs → drop n (remove qs (n + i)) ≡ remove (drop n qs) i
remove_behind zero i qs le = ap (λ (k : ℕ). remove qs k) (let e : 0 + i ≡ i = omega arith in e)
remove_behind (suc n) i [] le = absurd (omega arith)
remove_behind (suc n) i (q ∷ qs) le =
    let e : suc n + i ≡ suc (n + i) = omega arith in
    ap (λ (k : ℕ). drop (suc n) (remove (q ∷ qs) k)) e ∙ remove_behind n i qs (omega arith)

-- one more turn, which isn't the place
pub contains_next : (p i : ℕ) (qs : List ℕ) (d : ℕ) → contains p (take i qs) ≡ false → slice_get qs i ≡ Some d
    → (d ≡ p → ⊥) → contains p (take (suc i) qs) ≡ false
contains_next p i [] d before at other = absurd (cc (at))
contains_next p zero (q ∷ qs) d before at other =
    let same : q ≡ d = cc (at) in contains_else p q [] (λ is. other (sym same ∙ sym is))
contains_next p (suc i) (q ∷ qs) d before at other = dite (ℕ_discrete p q)
    (λ same. absurd (let h : true ≡ false =
    sym (subst (λ (x : ℕ). contains p (x ∷ take i qs) ≡ true) same (contains_here p (take i qs))) ∙ before in
    cc (h)))
    (λ apart. contains_else p q (take (suc i) qs) apart
    ∙ contains_next p i qs d (sym (contains_else p q (take i qs) apart) ∙ before) at other)

-- ---- one turn more, and one less

pub contains_last : (p : ℕ) (qs : List ℕ) → contains p (qs ++ p ∷ []) ≡ true
contains_last p [] = contains_here p []
contains_last p (q ∷ qs) = dite (ℕ_discrete p q)
    (λ same. subst (λ (x : ℕ). contains p (x ∷ (qs ++ p ∷ [])) ≡ true) same (contains_here p (qs ++ p ∷ [])))
    (λ apart. contains_else p q (qs ++ p ∷ []) apart ∙ contains_last p qs)

pub contains_before : (p q : ℕ) (qs : List ℕ) → (p ≡ q → ⊥) → contains p (qs ++ q ∷ []) ≡ contains p qs
contains_before p q [] apart = contains_else p q [] apart
contains_before p q (x ∷ qs) apart = dite (ℕ_discrete p x)
    (λ same. subst (λ (y : ℕ). contains p (y ∷ (qs ++ q ∷ [])) ≡ contains p (y ∷ qs)) same
    (contains_here p (qs ++ q ∷ []) ∙ sym (contains_here p qs)))
    (λ other. contains_else p x (qs ++ q ∷ []) other
    ∙ (contains_before p q qs apart ∙ sym (contains_else p x qs other)))

pub apart_last : (p : ℕ) (qs : List ℕ) → contains p qs ≡ false → AreApart qs → AreApart (qs ++ p ∷ [])
apart_last p [] none apart = (refl, tt)
apart_last p (q ∷ qs) none apart =
    let other : q ≡ p → ⊥ =
    λ same. (let h : true ≡ false =
    sym (subst (λ (x : ℕ). contains p (x ∷ qs) ≡ true) (sym same) (contains_here p qs)) ∙ none in cc (h)) in
    let back : p ≡ q → ⊥ = λ same. other (sym same) in
    (contains_before q p qs other ∙ apart.0, apart_last p qs (sym (contains_else p q qs back) ∙ none) apart.1)

pub without_it : (p : ℕ) (qs : List ℕ) → contains p (without p qs) ≡ false
without_it p [] = refl
without_it p (q ∷ qs) = dite (ℕ_discrete p q)
    (λ same. subst (λ (x : ℕ). contains p (without p (x ∷ qs)) ≡ false) same (ap (contains p) (without_here p qs)
    ∙ without_it p qs))
    (λ apart. ap (contains p) (without_else p q qs apart) ∙ (contains_else p q (without p qs) apart ∙ without_it p qs))

pub without_others : (p q : ℕ) (qs : List ℕ) → (q ≡ p → ⊥) → contains q (without p qs) ≡ contains q qs
without_others p q [] apart = refl
without_others p q (x ∷ qs) apart = dite (ℕ_discrete p x)
    (λ same. subst (λ (y : ℕ). contains q (without p (y ∷ qs)) ≡ contains q (y ∷ qs)) same
    (ap (contains q) (without_here p qs) ∙ (without_others p q qs apart ∙ sym (contains_else q p qs apart))))
    (λ other. ap (contains q) (without_else p x qs other) ∙ dite (ℕ_discrete q x)
    (λ same. subst (λ (y : ℕ). contains q (y ∷ without p qs) ≡ contains q (y ∷ qs)) same (contains_here q (without p qs)
    ∙ sym (contains_here q qs)))
    (λ far. contains_else q x (without p qs) far ∙ (without_others p q qs apart ∙ sym (contains_else q x qs far))))

pub without_apart : (p : ℕ) (qs : List ℕ) → AreApart qs → AreApart (without p qs)
without_apart p [] apart = tt
without_apart p (q ∷ qs) apart = dite (ℕ_discrete p q)
    (λ same. subst AreApart (sym (subst (λ (x : ℕ). without p (x ∷ qs) ≡ without p qs) same (without_here p qs)))
    (without_apart p qs apart.1))
    (λ other. subst AreApart (sym (without_else p q qs other)) (
      without_others p q qs (λ same. other (sym same))
          ∙ apart.0,
      without_apart p qs apart.1,
    ))

pub drop_more : (n : ℕ) (qs more : List ℕ) → n ≤ length qs → drop n (qs ++ more) ≡ drop n qs ++ more
drop_more zero qs more le = refl
drop_more (suc n) [] more le = absurd (omega arith)
drop_more (suc n) (q ∷ qs) more le = drop_more n qs more (omega arith)

pub drop_next : (n : ℕ) (qs : List ℕ) (p : ℕ) (rest : List ℕ) → drop n qs ≡ p ∷ rest → drop (suc n) qs ≡ rest
drop_next zero [] p rest e = absurd (cc (e))
drop_next zero (q ∷ qs) p rest e = cc (e)
drop_next (suc n) [] p rest e = absurd (cc (e))
drop_next (suc n) (q ∷ qs) p rest e = drop_next n qs p rest e

-- the turn at a place is the first after it
pub drop_at : (n : ℕ) (qs : List ℕ) (p : ℕ) → slice_get qs n ≡ Some p → (rest : List ℕ) × (drop n qs ≡ p ∷ rest)
drop_at n [] p at = absurd (cc (at))
drop_at zero (q ∷ qs) p at = (qs, let same : q ≡ p = cc (at) in ap (λ x. x ∷ qs) same)
drop_at (suc n) (q ∷ qs) p at = drop_at n qs p at

-- a turn that was read is there
pub there_is : (qs : List ℕ) (n p : ℕ) → true ≡ nat_lt n (length qs) → p ≡ get_or qs n p → slice_get qs n ≡ Some p
there_is qs n p lt is = let within : n < length qs = grind (arith, nat_tests, lt) in slice_get-get_or qs n p within
    ∙ ap (λ x. Some x) (sym is)
