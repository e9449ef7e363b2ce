-- The starters that were given back, one after another.
use Rattle.std.proofs.Common.{◌≡◌, ◌<◌, ◌+◌, ℕ, length, take, get_or, arith, List, [], ◌∷◌, ◌++◌, map, reverse, Option, Some, None, ap, sym, subst, ◌∙◌, append-nil, append_assoc}
use Rattle.std.specs.Option.{option_map}
use Rattle.std.proofs.lemmas.List.{reverse-append, map-append, take_more, take_all}
use Rattle.edge_kit.specs.Links.{LinkSeen}
use Rattle.edge_kit.specs.Starters.{StarterSeen, SpawnerSeen, Had, starter_back}
use Rattle.one_shot.specs.declared.kept.KeptLinks.{KeptLinks}
use Rattle.one_shot.specs.declared.starter.Source.{Source}
use Rattle.one_shot.specs.declared.starter.Source.TheVariants as source
use Rattle.one_shot.specs.Onces.{RunsTold}
use Rattle.one_shot.specs.Starters.{kept_had, starter_seen}
use Rattle.one_shot.specs.Replies.{AreServed}
use Rattle.one_shot.specs.Spawners.{woven, all_back, AllServed}
use Rattle.one_shot.proofs.Sessions.{served_both}

-- one more that was given back is the first of those in reverse
pushed : {A B : Type 0} (f : A → B) (xs : List A) (x : A) → reverse (map f (xs ++ x ∷ [])) ≡ f x ∷ reverse (map f xs)
pushed f xs x = ap reverse (map-append f xs (x ∷ [])) ∙ reverse-append (map f xs) (f x ∷ [])

-- one went back to the spawner below
one_below : {S : Type 0} (tells : S → List ℕ × List Had) (back : List (Option S)) (old new : List (List ℕ × List Had)) (x : List ℕ × List Had)
    → new ≡ old ++ x ∷ [] → all_back tells (back ++ None ∷ []) new ≡ all_back tells back old ++ x ∷ []
one_below tells back old new x is =
    let kept : reverse (map (option_map tells) (back ++ None ∷ [])) ≡ None ∷ reverse (map (option_map tells) back) = pushed (option_map tells) back None in
    let below : reverse new ≡ x ∷ reverse old = ap reverse is ∙ reverse-append old (x ∷ []) in
    rw (kept, below) (reverse-append (x ∷ []) (woven (reverse (map (option_map tells) back)) (reverse old)))

-- one is kept
one_here : {S : Type 0} (tells : S → List ℕ × List Had) (back : List (Option S)) (below : List (List ℕ × List Had)) (s : S)
    → all_back tells (back ++ Some s ∷ []) below ≡ all_back tells back below ++ tells s ∷ []
one_here tells back below s =
    let kept : reverse (map (option_map tells) (back ++ Some s ∷ [])) ≡ Some (tells s) ∷ reverse (map (option_map tells) back) = pushed (option_map tells) back (Some s) in
    rw kept (reverse-append (tells s ∷ []) (woven (reverse (map (option_map tells) back)) (reverse below)))

spawner_as : ℕ → List (List ℕ × List Had) → SpawnerSeen
spawner_as out returned = record { returned = returned; out = out }

pub goes_below : {S : Type 0} (tells : S → List ℕ × List Had) (back items : List (Option S)) (old new : List (List ℕ × List Had)) (x y : List ℕ × List Had) (out : ℕ)
    → items ≡ back ++ None ∷ [] → new ≡ old ++ x ∷ [] → y ≡ x
    → ◌≡◌ {A = SpawnerSeen} (record { returned = all_back tells items new; out = out }) (record { returned = all_back tells back old ++ y ∷ []; out = out })
unfolding spawner_as
goes_below tells back items old new x y out is more same =
    ap (spawner_as out) (ap (λ i. all_back tells i new) is ∙ one_below tells back old new x more ∙ ap (λ z. all_back tells back old ++ z ∷ []) (sym same))

pub stays_here : {S : Type 0} (tells : S → List ℕ × List Had) (back items : List (Option S)) (below : List (List ℕ × List Had)) (s : S) (y : List ℕ × List Had) (out : ℕ)
    → items ≡ back ++ Some s ∷ [] → y ≡ tells s
    → ◌≡◌ {A = SpawnerSeen} (record { returned = all_back tells items below; out = out }) (record { returned = all_back tells back below ++ y ∷ []; out = out })
unfolding spawner_as
stays_here tells back items below s y out is same =
    ap (spawner_as out) (ap (λ i. all_back tells i below) is ∙ one_here tells back below s ∙ ap (λ z. all_back tells back below ++ z ∷ []) (sym same))

-- all that came of a starter's starts is what the one below has
pub whole_back : {S M K : Type 0} (starter : S → StarterSeen) (tells : M → RunsTold) (link : K → LinkSeen) (from : Source S M) (s : S) (kept : KeptLinks K) (out : ℕ)
    → from ≡ source.Inner s → kept_had link kept ≡ [] → starter_back (starter_seen starter tells link from kept out) ≡ starter_back (starter s)
whole_back starter tells link from s kept out is none =
    rw (is, none) (ap (λ (hs : List Had). ((starter s).command, hs)) (append-nil ((starter s).had)))

-- equal sources tell the same
pub same_back : {S M K : Type 0} (starter : S → StarterSeen) (tells : M → RunsTold) (link : K → LinkSeen) (from to : Source S M) (kept : KeptLinks K) (out : ℕ)
    → from ≡ to → starter_back (starter_seen starter tells link from kept out) ≡ starter_back (starter_seen starter tells link to kept out)
same_back starter tells link from to kept out is = ap (λ s. starter_back (starter_seen starter tells link s kept out)) is

-- sessions that are served, in the starters that were given back

served_reverse : (xs ys : List (List ℕ × List Had)) → AllServed xs → AllServed ys → AllServed (reverse xs ++ ys)
served_reverse [] ys a b = b
served_reverse (x ∷ xs) ys a b =
    subst AllServed (sym (ap (λ z. z ++ ys) (reverse-append (x ∷ []) xs) ∙ append_assoc (reverse xs) (x ∷ []) ys))
    (served_reverse xs (x ∷ ys) a.1 (a.0, b))

served_back : (xs : List (List ℕ × List Had)) → AllServed xs → AllServed (reverse xs)
served_back xs a = subst AllServed (append-nil (reverse xs)) (served_reverse xs [] a tt)

abbrev AllKept : List (Option (List ℕ × List Had)) → Type 0
AllKept [] = Unit {0}
AllKept (Some x ∷ xs) = AreServed x.1 × AllKept xs
AllKept (None ∷ xs) = AllKept xs

served_woven : (kept : List (Option (List ℕ × List Had))) (below : List (List ℕ × List Had)) → AllKept kept → AllServed below → AllServed (woven kept below)
served_woven [] below a b = b
served_woven (Some x ∷ kept) below a b = (a.0, served_woven kept below a.1 b)
served_woven (None ∷ kept) [] a b = served_woven kept [] a b
served_woven (None ∷ kept) (x ∷ below) a b = (b.0, served_woven kept below a b.1)

kept_both : (xs ys : List (Option (List ℕ × List Had))) → AllKept xs → AllKept ys → AllKept (xs ++ ys)
kept_both [] ys a b = b
kept_both (Some x ∷ xs) ys a b = (a.0, kept_both xs ys a.1 b)
kept_both (None ∷ xs) ys a b = kept_both xs ys a b

-- each starter that is kept here
abbrev pub AllHeld : {S : Type 0} → (S → Type 0) → List (Option S) → Type 0
AllHeld P [] = Unit {0}
AllHeld P (Some s ∷ xs) = P s × AllHeld P xs
AllHeld P (None ∷ xs) = AllHeld P xs

held_more : {S : Type 0} (P : S → Type 0) (xs ys : List (Option S)) → AllHeld P xs → AllHeld P ys → AllHeld P (xs ++ ys)
held_more P [] ys a b = b
held_more P (Some s ∷ xs) ys a b = (a.0, held_more P xs ys a.1 b)
held_more P (None ∷ xs) ys a b = held_more P xs ys a b

-- the next of them, if it is kept
pub held_next : {S : Type 0} (P : S → Type 0) (xs : List (Option S)) (i : ℕ) (x : Option S) → i < length xs → x ≡ get_or xs i x
    → AllHeld P (take i xs) → AllHeld P (x ∷ []) → AllHeld P (take (i + 1) xs)
held_next P xs i x lt is a b =
    subst (AllHeld P) (sym (take_more xs i x lt ∙ ap (λ y. take i xs ++ y ∷ []) (sym is))) (held_more P (take i xs) (x ∷ []) a b)

pub held_some : {S : Type 0} (P : S → Type 0) (x : Option S) (s : S) → x ≡ Some s → P s → AllHeld P (x ∷ [])
held_some P x s e h = subst (λ y. AllHeld P (y ∷ [])) (sym e) (h, tt)

pub held_none : {S : Type 0} (P : S → Type 0) (x : Option S) → x ≡ None → AllHeld P (x ∷ [])
held_none P x e = subst (λ y. AllHeld P (y ∷ [])) (sym e) tt

pub held_all : {S : Type 0} (P : S → Type 0) (xs ys : List (Option S)) (i : ℕ) → xs ≡ ys → i ≡ length xs → AllHeld P (take i xs) → AllHeld P ys
held_all P xs ys i is end a = subst (AllHeld P) (take_all i xs (omega (arith, end)) ∙ is) a

held_map : {S : Type 0} (P Q : S → Type 0) → ((s : S) → P s → Q s) → (xs : List (Option S)) → AllHeld P xs → AllHeld Q xs
held_map P Q f [] a = tt
held_map P Q f (Some s ∷ xs) a = (f s a.0, held_map P Q f xs a.1)
held_map P Q f (None ∷ xs) a = held_map P Q f xs a

kept_map : {S : Type 0} (tells : S → List ℕ × List Had) (back : List (Option S)) → AllHeld (λ s. AreServed (tells s).1) back
    → AllKept (reverse (map (option_map tells) back))
kept_map tells [] all = tt
kept_map tells (Some s ∷ back) all =
    subst AllKept (sym (reverse-append (Some (tells s) ∷ []) (map (option_map tells) back)))
    (kept_both (reverse (map (option_map tells) back)) (Some (tells s) ∷ []) (kept_map tells back all.1) (all.0, tt))
kept_map tells (None ∷ back) all =
    subst AllKept (sym (reverse-append (None ∷ []) (map (option_map tells) back)))
    (kept_both (reverse (map (option_map tells) back)) (None ∷ []) (kept_map tells back all) tt)

all_back_served : {S : Type 0} (tells : S → List ℕ × List Had) (back : List (Option S)) (below : List (List ℕ × List Had))
    → AllHeld (λ s. AreServed (tells s).1) back → AllServed below → AllServed (all_back tells back below)
all_back_served tells back below all a =
    served_back _ (served_woven (reverse (map (option_map tells) back)) (reverse below) (kept_map tells back all) (served_back below a))

-- what one starter has
starter_served : {S M K : Type 0} (starter : S → StarterSeen) (tells : M → RunsTold) (link : K → LinkSeen) (from : Source S M) (kept : KeptLinks K) (out : ℕ)
    → ((s : S) → AreServed (starter s).had) → AreServed (kept_had link kept) → AreServed (starter_back (starter_seen starter tells link from kept out)).1
starter_served starter tells link (source.Inner s) kept out below here = served_both (starter s).had (kept_had link kept) (below s) here
starter_served starter tells link (source.Single run) kept out below here = here

-- so it is with starters that have these parts
pub starters_served : {T S M K : Type 0} (starter : S → StarterSeen) (tells : M → RunsTold) (link : K → LinkSeen)
    (source : T → Source S M) (kept : T → KeptLinks K) (out : T → ℕ) → ((s : S) → AreServed (starter s).had)
    → (back : List (Option T)) (below : List (List ℕ × List Had)) → AllHeld (λ (t : T). AreServed (kept_had link (kept t))) back → AllServed below
    → AllServed (all_back (λ (t : T). starter_back (starter_seen starter tells link (source t) (kept t) (out t))) back below)
starters_served {T} starter tells link source kept out here back below held a =
    all_back_served (λ (t : T). starter_back (starter_seen starter tells link (source t) (kept t) (out t))) back below
    (held_map (λ (t : T). AreServed (kept_had link (kept t))) (λ (t : T). AreServed (starter_back (starter_seen starter tells link (source t) (kept t) (out t))).1)
    (λ (t : T) served. starter_served starter tells link (source t) (kept t) (out t) here served) back held) a
