-- What a work tells of its choices, from one request to the next.
use Rattle.std.proofs.Common.{◌≡◌, ℕ, zero, suc, ◌⊎◌, inl, inr, Bool, true, false, List, [], ◌∷◌, ◌++◌, Option, Some, None}
use Rattle.std.proofs.Common.{refl, sym, ap, ◌∙◌, subst, take, drop}
use Rattle.std.specs.Prelude.{◌≢◌, ◌||◌, not, if◌then◌else◌}
use Rattle.std.specs.Str.{bytes_eq}
use Rattle.std.proofs.lemmas.Slice.Eq.{bytes_eq-Decides}
use Rattle.edge_kit.specs.Told.{Tells}
use Rattle.pkt_line.specs.Packets.{Packet}
use Rattle.filter_words.specs.Listing.{name_in}
use Rattle.filter_words.specs.declared.reply.Caps.{Caps}
use Rattle.driver_host.specs.declared.work.Choice.{Choice}
use Rattle.driver_host.specs.declared.work.Choice.TheVariants.{Give, Refuse, Later, Stop}
use Rattle.driver_host.specs.declared.work.LateChoice.{LateChoice}
use Rattle.driver_host.specs.Requests.{Request, Hello, Offer, Smudge, Listing}
use Rattle.driver_host.specs.HostText.{Stage, Fresh, Greeted, Serving, Over, Owed, Answers, MayChoose, less, after_list}
use Rattle.driver_host.specs.HostText.{after_choice}
use Rattle.driver_host.specs.Works.{WorkTold, TellsSecond}
use Rattle.driver_host.specs.Chosen.{Contents, AreChosen, IsChosen, IsSecond, contents_after, asked_with, choice_of}
use Rattle.driver_host.specs.Talks.{TalkSeen, Recalls, RecallsOwed, is_listed, Chose, ChoseFirst, IsAsked}
use Rattle.driver_host.proofs.History.{bytes_eq-true}
use Rattle.driver_host.proofs.Flushes.{never}

-- one more request

pub chosen_snoc : (told : WorkTold) (own : Caps) (batch : ℕ) (s t u : Stage) (a b c : Contents) (rs : List Request)
    (q : Request) (cs ds : List Choice) → AreChosen told own batch s a rs cs t b
    → AreChosen told own batch t b (q ∷ []) ds u c → AreChosen told own batch s a (rs ++ q ∷ []) (cs ++ ds) u c
chosen_snoc told own batch s t u a b c [] q cs ds x y =
    subst (λ (z : List Choice). AreChosen told own batch s a (q ∷ []) (z ++ ds) u c) (sym x.0)
    (subst (λ (z : Stage). AreChosen told own batch z a (q ∷ []) ds u c) (sym x.1)
    (subst (λ (z : Contents). AreChosen told own batch t z (q ∷ []) ds u c) x.2 y))
chosen_snoc told own batch Fresh t u a b c (Hello ∷ rs) q cs ds x y =
    chosen_snoc told own batch Greeted t u a b c rs q cs ds x y
chosen_snoc told own batch Greeted t u a b c (Offer offered ∷ rs) q cs ds x y =
    chosen_snoc told own batch _ t u a b c rs q cs ds x y
chosen_snoc told own batch (Serving agreed owed) t u a b c (Listing ∷ rs) q cs ds x y =
    chosen_snoc told own batch _ t u a b c rs q cs ds x y
chosen_snoc told own batch (Serving agreed owed) t u a b c (Smudge path d content ∷ rs) q cs ds x y = (
  x.0,
  x.1 ++ ds,
  ap (λ (z : List Choice). z ++ ds) x.2,
  x.3,
  chosen_snoc told own batch _ t u _ b c rs q x.1 ds x.4 y,
)
chosen_snoc told own batch Fresh t u a b c (Offer offered ∷ rs) q cs ds x y = absurd x
chosen_snoc told own batch Fresh t u a b c (Smudge path d content ∷ rs) q cs ds x y = absurd x
chosen_snoc told own batch Fresh t u a b c (Listing ∷ rs) q cs ds x y = absurd x
chosen_snoc told own batch Greeted t u a b c (Hello ∷ rs) q cs ds x y = absurd x
chosen_snoc told own batch Greeted t u a b c (Smudge path d content ∷ rs) q cs ds x y = absurd x
chosen_snoc told own batch Greeted t u a b c (Listing ∷ rs) q cs ds x y = absurd x
chosen_snoc told own batch (Serving agreed owed) t u a b c (Hello ∷ rs) q cs ds x y = absurd x
chosen_snoc told own batch (Serving agreed owed) t u a b c (Offer offered ∷ rs) q cs ds x y = absurd x
chosen_snoc told own batch Over t u a b c (r ∷ rs) q cs ds x y = absurd x

-- the choice for a path is the told one

second_of : (told : WorkTold) (path : List ℕ) (asked known : Option (List ℕ)) (c : Choice) (l : LateChoice)
    → c ≡ choice_of l → Recalls told path asked known → TellsSecond told path known l → IsSecond told path asked c
second_of told path None known c l is r x = absurd r
second_of told path (Some content) known c l is (inl none) x =
    (l, is, subst (λ (z : Option LateChoice). Tells z l) (sym none) tt)
second_of told path (Some content) known c l is (inr kept) x =
    (l, is, subst (λ (z : Option (List ℕ)). TellsSecond told path z l) kept x)

chosen_by : (told : WorkTold) (contents old new : Contents) (b : Bool) (path : List ℕ) (d : Bool) (content : List ℕ)
    (c : Choice) → (b ≡ true → Recalls told path (contents path) (old path))
    → Chose told old b path d content c new → IsChosen told contents b path d content c
chosen_by told contents old new true path d content c r x =
    second_of told path (contents path) (old path) c x.late x.is (r refl) x.told_is
chosen_by told contents old new false path d content c r x = x.told_is

-- the contents after a request
abbrev pub contents_next : Stage → Contents → Request → Contents
contents_next s contents (Smudge path d content) = contents_after contents (is_listed s path) path content
contents_next s contents q = contents

abbrev pub first_or : Choice → List Choice → Choice
first_or other [] = other
first_or other (c ∷ cs) = c

same_choice : (c d : Choice) (cs : List Choice) → cs ≡ c ∷ [] → cs ≡ d ∷ [] → c ≡ d
same_choice c d cs e f = ap (λ (z : List Choice). first_or c z) (sym e ∙ f)

pub same_told : {W : Type 0} (told : W → WorkTold) (latest : W → Contents) (t : TalkSeen W) (q : Request)
    (ds : List Choice) (work : W) → IsAsked told latest t q ds work → told work ≡ told t.work
same_told told latest t Hello ds work x = ap (λ (w : _). told w) x
same_told told latest t (Offer offered) ds work x = ap (λ (w : _). told w) x
same_told told latest t Listing ds work x = ap (λ (w : _). told w) x
same_told told latest t (Smudge path d content) ds work x = x.3

pub one_chosen : {W : Type 0} (told : W → WorkTold) (latest : W → Contents) (t : TalkSeen W) (s u : Stage) (contents : Contents) (work : W) (q : Request) (ds : List Choice)
    (answers : List Packet) → t.stage ≡ s → RecallsOwed (told t.work) s contents (latest t.work)
    → Answers t.own t.batch s q ds answers u → IsAsked told latest t q ds work
    → AreChosen (told t.work) t.own t.batch s contents (q ∷ []) ds u (contents_next s contents q)
one_chosen told latest t Fresh u contents work Hello ds answers stage r a x = (a.0, sym a.2, refl)
one_chosen told latest t Greeted u contents work (Offer offered) ds answers stage r a x = (a.0, sym a.2, refl)
one_chosen told latest t (Serving agreed owed) u contents work Listing ds answers stage r a x = (a.1, sym a.3, refl)
one_chosen told latest t (Serving agreed owed) u contents work (Smudge path d content) ds answers stage r a x =
    let y = a.2 in
    let same = same_choice y.0 x.0 ds y.1 x.1 in (
      x.0,
      [],
      x.1,
      chosen_by (told t.work) contents (latest t.work) (latest work) (name_in owed.listed path) path d content x.0
          (λ listed. r path (inr listed))
          (subst (λ (z : Stage). Chose (told t.work) (latest t.work) (is_listed z path) path d content x.0 (latest work)) stage x.2),
      (refl, ap (λ (c : Choice). after_choice agreed owed path c) (sym same) ∙ sym y.4, refl),
    )
one_chosen told latest t Fresh u contents work (Offer offered) ds answers stage r a x = absurd a
one_chosen told latest t Fresh u contents work (Smudge path d content) ds answers stage r a x = absurd a
one_chosen told latest t Fresh u contents work Listing ds answers stage r a x = absurd a
one_chosen told latest t Greeted u contents work Hello ds answers stage r a x = absurd a
one_chosen told latest t Greeted u contents work (Smudge path d content) ds answers stage r a x = absurd a
one_chosen told latest t Greeted u contents work Listing ds answers stage r a x = absurd a
one_chosen told latest t (Serving agreed owed) u contents work Hello ds answers stage r a x = absurd a
one_chosen told latest t (Serving agreed owed) u contents work (Offer offered) ds answers stage r a x = absurd a
one_chosen told latest t Over u contents work q ds answers stage r a x = absurd a

-- names in lists

same_name : (n : List ℕ) → bytes_eq n n ≡ true
same_name n = (bytes_eq-Decides n n).1 refl

in_drop : (n : ℕ) (names : List (List ℕ)) (p : List ℕ) → name_in (drop n names) p ≡ true → name_in names p ≡ true
in_drop zero names p e = e
in_drop (suc n) [] p e = e
in_drop (suc n) (x ∷ xs) p e = later (bytes_eq x p) (in_drop n xs p e)
  where
    later : (b : Bool) → name_in xs p ≡ true → (b || name_in xs p) ≡ true
    later true f = refl
    later false f = f

in_both : (ms ns : List (List ℕ)) (p : List ℕ) → name_in (ms ++ ns) p ≡ true
    → (name_in ms p ≡ true) ⊎ (name_in ns p ≡ true)
in_both [] ns p e = inr e
in_both (x ∷ xs) ns p e = one (bytes_eq x p) e (in_both xs ns p)
  where
    one : (b : Bool) → (b || name_in (xs ++ ns) p) ≡ true
        → (name_in (xs ++ ns) p ≡ true → (name_in xs p ≡ true) ⊎ (name_in ns p ≡ true))
        → ((b || name_in xs p) ≡ true) ⊎ (name_in ns p ≡ true)
    one true f more = inl refl
    one false f more = more f

in_take : (n : ℕ) (names : List (List ℕ)) (p : List ℕ) → name_in (take n names) p ≡ true → name_in names p ≡ true
in_take zero names p e = absurd cc
in_take (suc n) [] p e = e
in_take (suc n) (x ∷ xs) p e = one (bytes_eq x p) e (in_take n xs p)
  where
    one : (b : Bool) → (b || name_in (take n xs) p) ≡ true
        → (name_in (take n xs) p ≡ true → name_in xs p ≡ true) → (b || name_in xs p) ≡ true
    one true f more = refl
    one false f more = more f

in_one : (path p : List ℕ) → name_in (path ∷ []) p ≡ true → path ≡ p
in_one path p e = one (bytes_eq path p) refl e
  where
    one : (b : Bool) → bytes_eq path p ≡ b → (b || false) ≡ true → path ≡ p
    one true same f = bytes_eq-true path p same
    one false same f = absurd cc

in_less : (names : List (List ℕ)) (path p : List ℕ) → name_in (less names path) p ≡ true
    → (name_in names p ≡ true) × (p ≢ path)
in_less [] path p e = absurd cc
in_less (x ∷ xs) path p e = one (bytes_eq x path) (bytes_eq x p) refl refl e (in_less xs path p)
  where
    rest : (c : Bool) → (name_in xs p ≡ true) × (p ≢ path) → ((c || name_in xs p) ≡ true) × (p ≢ path)
    rest true r = (refl, r.1)
    rest false r = r

    one : (b c : Bool) → bytes_eq x path ≡ b → bytes_eq x p ≡ c
        → name_in (if not b then x ∷ less xs path else less xs path) p ≡ true
        → (name_in (less xs path) p ≡ true → (name_in xs p ≡ true) × (p ≢ path))
        → ((c || name_in xs p) ≡ true) × (p ≢ path)
    one true c same is f more = rest c (more f)
    one false true same is f more =
        (refl, λ e2. never same (subst (λ (z : List ℕ). bytes_eq x z ≡ true) e2 is))
    one false false same is f more =
        more (subst (λ (z : Bool). (z || name_in (less xs path) p) ≡ true) is f)

-- what is remembered of the paths that are owed

others_asked : (b : Bool) (contents : Contents) (path content p : List ℕ) → p ≢ path
    → contents_after contents b path content p ≡ contents p
others_asked true contents path content p differ = refl
others_asked false contents path content p differ = one (bytes_eq p path) refl
  where
    one : (b : Bool) → bytes_eq p path ≡ b → (if b then Some content else contents p) ≡ contents p
    one true same = absurd (differ (bytes_eq-true p path same))
    one false same = refl

path_asked : (contents : Contents) (path content : List ℕ) → asked_with contents path content path ≡ Some content
path_asked contents path content =
    ap (λ (b : Bool). if b then Some content else contents path) (same_name path)

others_chosen : (told : WorkTold) (old new : Contents) (b : Bool) (path : List ℕ) (d : Bool) (content : List ℕ)
    (c : Choice) → Chose told old b path d content c new → (p : List ℕ) → p ≢ path → new p ≡ old p
others_chosen told old new true path d content c x = x.others
others_chosen told old new false path d content c x = x.others

still : (told : WorkTold) (p : List ℕ) (a b k l : Option (List ℕ)) → b ≡ a → l ≡ k → Recalls told p a k → Recalls told p b l
still told p a b k l e f r =
    subst (λ (z : Option (List ℕ)). Recalls told p z l) (sym e)
    (subst (λ (z : Option (List ℕ)). Recalls told p a z) (sym f) r)

abbrev pub OwedRecalled : WorkTold → Owed → Contents → Contents → Type 0
OwedRecalled told owed contents latest = (path : List ℕ)
    → (name_in owed.delayed path ≡ true) ⊎ (name_in owed.listed path ≡ true)
    → Recalls told path (contents path) (latest path)

answered_recalls : (told : WorkTold) (owed : Owed) (contents old new : Contents) (b : Bool) (path : List ℕ) (d : Bool)
    (content : List ℕ) (c : Choice) → OwedRecalled told owed contents old → name_in owed.delayed path ≡ false
    → Chose told old b path d content c new
    → OwedRecalled told (record owed { listed = less owed.listed path }) (contents_after contents b path content) new
answered_recalls told owed contents old new b path d content c r free x p (inl delayed) =
    let differ : p ≢ path = λ e. never free (subst (λ (z : List ℕ). name_in owed.delayed z ≡ true) e delayed) in
    still told p (contents p) _ (old p) _ (others_asked b contents path content p differ)
    (others_chosen told old new b path d content c x p differ) (r p (inl delayed))
answered_recalls told owed contents old new b path d content c r free x p (inr listed) =
    let both = in_less owed.listed path p listed in
    still told p (contents p) _ (old p) _ (others_asked b contents path content p both.1)
    (others_chosen told old new b path d content c x p both.1) (r p (inr both.0))

later_recalls : (told : WorkTold) (owed : Owed) (contents old new : Contents) (path : List ℕ) (d : Bool)
    (content : List ℕ) → OwedRecalled told owed contents old → ChoseFirst told old path content d Later new
    → OwedRecalled told (record owed { delayed = owed.delayed ++ path ∷ [] }) (asked_with contents path content) new
later_recalls told owed contents old new path d content r x p owes = one (bytes_eq p path) refl
  where
    before : p ≢ path → (name_in owed.delayed p ≡ true) ⊎ (name_in (path ∷ []) p ≡ true)
        → (name_in owed.delayed p ≡ true) ⊎ (name_in owed.listed p ≡ true)
    before differ (inl e) = inl e
    before differ (inr e) = absurd (differ (sym (in_one path p e)))

    earlier : p ≢ path → (name_in (owed.delayed ++ path ∷ []) p ≡ true) ⊎ (name_in owed.listed p ≡ true)
        → (name_in owed.delayed p ≡ true) ⊎ (name_in owed.listed p ≡ true)
    earlier differ (inl e) = before differ (in_both owed.delayed (path ∷ []) p e)
    earlier differ (inr e) = inr e

    one : (b : Bool) → bytes_eq p path ≡ b → Recalls told p (asked_with contents path content p) (new p)
    one true same =
        let is = bytes_eq-true p path same in
        subst (λ (z : List ℕ). Recalls told z (asked_with contents path content z) (new z)) (sym is)
        (still told path (Some content) _ (new path) _ (path_asked contents path content) refl (x.recalls refl))
    one false same =
        let differ : p ≢ path = λ e. never same (subst (λ (z : List ℕ). bytes_eq p z ≡ true) e (same_name p)) in
        still told p (contents p) _ (old p) _ (others_asked false contents path content p differ)
        (x.others p differ) (r p (earlier differ owes))

listed_recalls : (told : WorkTold) (batch : ℕ) (owed : Owed) (contents old : Contents)
    → OwedRecalled told owed contents old → OwedRecalled told (after_list batch owed) contents old
listed_recalls told batch owed contents old r p (inl delayed) = r p (inl (in_drop batch owed.delayed p delayed))
listed_recalls told batch owed contents old r p (inr listed) =
    r p (one (in_both owed.listed (take batch owed.delayed) p listed))
  where
    one : (name_in owed.listed p ≡ true) ⊎ (name_in (take batch owed.delayed) p ≡ true)
        → (name_in owed.delayed p ≡ true) ⊎ (name_in owed.listed p ≡ true)
    one (inl e) = inr e
    one (inr e) = inl (in_take batch owed.delayed p e)

first_chosen : (told : WorkTold) (old new : Contents) (b : Bool) (path : List ℕ) (d : Bool) (content : List ℕ)
    (c : Choice) → b ≡ false → Chose told old b path d content c new → ChoseFirst told old path content d c new
first_chosen told old new true path d content c e x = absurd cc
first_chosen told old new false path d content c e x = x

chosen_recalls : (told : WorkTold) (agreed : Caps) (owed : Owed) (contents old new : Contents) (path : List ℕ) (d : Bool)
    (content : List ℕ) (c : Choice) → OwedRecalled told owed contents old → name_in owed.delayed path ≡ false
    → MayChoose owed path d c → Chose told old (name_in owed.listed path) path d content c new
    → RecallsOwed told (after_choice agreed owed path c)
    (contents_after contents (name_in owed.listed path) path content) new
chosen_recalls told agreed owed contents old new path d content (Give bytes) r free may x =
    answered_recalls told owed contents old new _ path d content (Give bytes) r free x
chosen_recalls told agreed owed contents old new path d content Refuse r free may x =
    answered_recalls told owed contents old new _ path d content Refuse r free x
chosen_recalls told agreed owed contents old new path d content Stop r free may x = tt
chosen_recalls told agreed owed contents old new path d content Later r free may x =
    subst (λ (b : Bool). OwedRecalled told (record owed { delayed = owed.delayed ++ path ∷ [] }) (contents_after contents b path content) new)
    (sym may.1)
    (later_recalls told owed contents old new path d content r
    (first_chosen told old new (name_in owed.listed path) path d content Later may.1 x))

at_stage : (told : WorkTold) (s u : Stage) (contents new : Contents) → u ≡ s → RecallsOwed told s contents new
    → RecallsOwed told u contents new
at_stage told s u contents new e r = subst (λ (z : Stage). RecallsOwed told z contents new) (sym e) r

pub next_recalls : {W : Type 0} (told : W → WorkTold) (latest : W → Contents) (t : TalkSeen W) (s u : Stage) (contents : Contents) (work : W) (q : Request) (ds : List Choice)
    (answers : List Packet) → t.stage ≡ s → RecallsOwed (told t.work) s contents (latest t.work)
    → Answers t.own t.batch s q ds answers u → IsAsked told latest t q ds work
    → RecallsOwed (told t.work) u (contents_next s contents q) (latest work)
next_recalls told latest t Fresh u contents work Hello ds answers stage r a x =
    at_stage (told t.work) Greeted u contents (latest work) a.2 tt
next_recalls told latest t Greeted u contents work (Offer offered) ds answers stage r a x =
    at_stage (told t.work) _ u contents (latest work) a.2 (λ p. none p)
  where
    none : (p : List ℕ) → (name_in [] p ≡ true) ⊎ (name_in [] p ≡ true) → Recalls (told t.work) p (contents p) (latest work p)
    none p (inl e) = absurd cc
    none p (inr e) = absurd cc
next_recalls told latest t (Serving agreed owed) u contents work Listing ds answers stage r a x =
    at_stage (told t.work) (Serving agreed (after_list t.batch owed)) u contents (latest work) a.3
    (listed_recalls (told t.work) t.batch owed contents (latest work)
    (subst (λ (w : _). OwedRecalled (told t.work) owed contents (latest w)) (sym x) r))
next_recalls told latest t (Serving agreed owed) u contents work (Smudge path d content) ds answers stage r a x =
    let y = a.2 in
    let same = same_choice y.0 x.0 ds y.1 x.1 in
    at_stage (told t.work) (after_choice agreed owed path x.0) u _ (latest work)
    (y.4 ∙ ap (λ (c : Choice). after_choice agreed owed path c) same)
    (chosen_recalls (told t.work) agreed owed contents (latest t.work) (latest work) path d content x.0 r a.1
    (subst (λ (c : Choice). MayChoose owed path d c) same y.2)
    (subst (λ (z : Stage). Chose (told t.work) (latest t.work) (is_listed z path) path d content x.0 (latest work)) stage x.2))
next_recalls told latest t Fresh u contents work (Offer offered) ds answers stage r a x = absurd a
next_recalls told latest t Fresh u contents work (Smudge path d content) ds answers stage r a x = absurd a
next_recalls told latest t Fresh u contents work Listing ds answers stage r a x = absurd a
next_recalls told latest t Greeted u contents work Hello ds answers stage r a x = absurd a
next_recalls told latest t Greeted u contents work (Smudge path d content) ds answers stage r a x = absurd a
next_recalls told latest t Greeted u contents work Listing ds answers stage r a x = absurd a
next_recalls told latest t (Serving agreed owed) u contents work Hello ds answers stage r a x = absurd a
next_recalls told latest t (Serving agreed owed) u contents work (Offer offered) ds answers stage r a x = absurd a
next_recalls told latest t Over u contents work q ds answers stage r a x = absurd a
