-- The part that is read belongs to the stage, and each delayed path fits in a line.
use Rattle.std.proofs.Common.{◌≡◌, ℕ, zero, suc, ◌+◌, ◌-◌, ◌≤◌, ◌⊎◌, inl, inr, Bool, true, false, List, [], ◌∷◌, ◌++◌, length, Option}
use Rattle.std.proofs.Common.{Some, None, Result, Ok, Err, refl, sym, ap, subst, arith, take, drop, length-take, length-drop}
use Rattle.std.specs.Prelude.{codes, OnOk, not, if◌then◌else◌, position, ◌==◌, nat_eq}
use Rattle.std.specs.List.{ends_with}
use Rattle.std.specs.Str.{bytes_eq}
use Rattle.filter_words.specs.Words.{without_lf, value_of, value_with, cut_at}
use Rattle.filter_words.specs.Listing.{name_in}
use Rattle.filter_words.specs.Handshake.{with_capability}
use Rattle.filter_words.specs.declared.reply.Caps.{Caps}
use Rattle.pkt_line.specs.Packets.{Packet}
use Rattle.driver_host.specs.declared.keys.Keys.{Keys}
use Rattle.driver_host.specs.declared.host.HostFault.{HostFault}
use Rattle.driver_host.specs.declared.talk.Part.{Part}
use Rattle.driver_host.specs.declared.talk.Part.TheVariants as part
use Rattle.driver_host.specs.declared.talk.Step.{Step}
use Rattle.driver_host.specs.declared.talk.Step.TheVariants as steps
use Rattle.driver_host.specs.declared.work.Choice.{Choice}
use Rattle.driver_host.specs.declared.work.Choice.TheVariants.{Give, Refuse, Later, Stop}
use Rattle.driver_host.specs.Requests.{Request, Hello, Offer, Smudge, Listing, or_before}
use Rattle.driver_host.specs.Answers.{AreNameable}
use Rattle.driver_host.specs.Works.{WorkTold}
use Rattle.driver_host.specs.Chosen.{Contents}
use Rattle.driver_host.specs.KeyLists.{keys_after, no_keys}
use Rattle.driver_host.specs.HostText.{Stage, Fresh, Greeted, Serving, Over, Owed, Answers, after_choice, after_list, may_name}
use Rattle.driver_host.specs.Talks.{Reading, TalkSeen, after_line, reading_after, LineIs, Fits, FitsPart, FitsOrOver, NameFits}
use Rattle.driver_host.specs.Talks.{EndsRequest, TakesFlush, Finishes, BeginsContent, part_at, stage_of}
use Rattle.driver_host.proofs.History.{some_is, bytes_eq-true}
use Rattle.driver_host.proofs.Flushes.{owed_of}

-- a value is shorter than its line

abbrev pub list_in : Option (List ℕ) → List ℕ
list_in None = []
list_in (Some xs) = xs

some_list : (x y : List ℕ) → Some x ≡ Some y → x ≡ y
some_list x y e = ap (λ (o : Option (List ℕ)). list_in o) e

picked : (b : Bool) (n : ℕ) (text key value : List ℕ) → bytes_eq (take n text) key ≡ b
    → (if b then Some (drop (n + 1) text) else None) ≡ Some value → length value ≤ length text - (length key + 1)
picked true n text key value same e =
    let k : length (take n text) ≡ length key = ap (λ (z : List ℕ). length z) (bytes_eq-true (take n text) key same) in
    let v : length (drop (n + 1) text) ≡ length value =
    ap (λ (z : List ℕ). length z) (some_list (drop (n + 1) text) value e) in
    omega (arith, length-take n text, length-drop (n + 1) text, k, v)
picked false n text key value same e = absurd cc

cut_value : (o : Option ℕ) (text key value : List ℕ) → value_with key (cut_at o text) ≡ Some value
    → length value ≤ length text - (length key + 1)
cut_value None text key value e = absurd cc
cut_value (Some n) text key value e = picked _ n text key value refl e

lf_short : (b : Bool) (line : List ℕ) → length (if b then take (length line - 1) line else line) ≤ length line
lf_short true line = omega (arith, length-take (length line - 1) line)
lf_short false line = omega arith

value_short : (key line value : List ℕ) → value_of key line ≡ Some value
    → length value ≤ length line - (length key + 1)
value_short key line value e =
    let cut = cut_value (position (λ b. b == 61) (without_lf line)) (without_lf line) key value e in
    let short : length (without_lf line) ≤ length line = lf_short (ends_with nat_eq line (10 ∷ [])) line in
    omega (arith, cut, short)

or_fits : (o v : Option (List ℕ)) → NameFits o → ((value : List ℕ) → v ≡ Some value → length value ≤ 65507)
    → NameFits (or_before o v)
or_fits o None f g = f
or_fits o (Some v) f g = g v refl

keys_fit : (k : Keys) (line : List ℕ) → length line ≤ 65516 → NameFits k.path → NameFits (keys_after k line).path
keys_fit k line le f = or_fits k.path (value_of (codes "pathname") line) f (λ value e. fits value e)
  where
    fits : (value : List ℕ) → value_of (codes "pathname") line ≡ Some value → length value ≤ 65507
    fits value e =
        let short = value_short (codes "pathname") line value e in
        let eight : length (codes "pathname") ≡ 8 = refl in
        omega (arith, short, eight, le)

-- a line

client_fits : (is : Bool) (old new : Reading) (line : List ℕ)
    → (if is then Some (reading_after old (part.Version false) old.keys old.content line) else None) ≡ Some new
    → FitsPart Fresh new.part new.keys
client_fits true old new line e =
    subst (λ (r : Reading). FitsPart Fresh r.part r.keys)
    (some_is (reading_after old (part.Version false) old.keys old.content line) new e) tt
client_fits false old new line e = absurd cc

part_fits : (s : Stage) (p : Part) (old new : Reading) (line : List ℕ) → length line ≤ 65516 → FitsPart s p old.keys
    → after_line p old line ≡ Some new → FitsPart s new.part new.keys
part_fits Fresh part.Client old new line le f e = client_fits _ old new line e
part_fits Fresh (part.Version found) old new line le f e =
    subst (λ (r : Reading). FitsPart Fresh r.part r.keys) (some_is _ new e) tt
part_fits Fresh (part.Offer caps) old new line le f e = absurd f
part_fits Fresh part.KeyList old new line le f e = absurd f
part_fits Fresh part.Content old new line le f e = absurd f
part_fits Greeted part.Client old new line le f e = absurd f
part_fits Greeted (part.Version found) old new line le f e = absurd f
part_fits Greeted (part.Offer caps) old new line le f e =
    subst (λ (r : Reading). FitsPart Greeted r.part r.keys)
    (some_is (reading_after old (part.Offer (with_capability caps line)) old.keys old.content line) new e) tt
part_fits Greeted part.KeyList old new line le f e = absurd f
part_fits Greeted part.Content old new line le f e = absurd f
part_fits (Serving agreed owed) part.Client old new line le f e = absurd f
part_fits (Serving agreed owed) (part.Version found) old new line le f e = absurd f
part_fits (Serving agreed owed) (part.Offer caps) old new line le f e = absurd f
part_fits (Serving agreed owed) part.KeyList old new line le f e =
    subst (λ (r : Reading). FitsPart (Serving agreed owed) r.part r.keys)
    (some_is (reading_after old part.KeyList (keys_after old.keys line) old.content line) new e)
    (f.0, keys_fit old.keys line le f.1)
part_fits (Serving agreed owed) part.Content old new line le f e =
    subst (λ (r : Reading). FitsPart (Serving agreed owed) r.part r.keys)
    (some_is (reading_after old part.Content old.keys (old.content ++ line) line) new e) f
part_fits Over p old new line le f e = absurd f

pub line_fits : {W : Type 0} {A : Type 0} (result : Result A HostFault) (t u : TalkSeen W) (line : List ℕ) → length line ≤ 65516
    → Fits t → LineIs t.reading line result u.reading → u ≡ record t { reading = u.reading } → OnOk result (Fits u)
line_fits (Ok x) t u line le f is next =
    subst (λ (z : TalkSeen _). Fits z) (sym next)
    (part_fits t.stage t.reading.part t.reading u.reading line le f is.1)
line_fits (Err e) t u line le f is next = tt

-- a flush packet

drop_nameable : (n : ℕ) (names : List (List ℕ)) → AreNameable names → AreNameable (drop n names)
drop_nameable zero names f = f
drop_nameable (suc n) [] f = f
drop_nameable (suc n) (x ∷ xs) f = drop_nameable n xs f.1

last_nameable : (names : List (List ℕ)) (path : List ℕ) → AreNameable names → length path ≤ 65507
    → AreNameable (names ++ path ∷ [])
last_nameable [] path f le = (le, tt)
last_nameable (x ∷ xs) path f le = (f.0, last_nameable xs path f.1 le)

abbrev pub FitsNext : Stage → Type 0
FitsNext s = FitsPart s (part_at s) no_keys ⊎ (s ≡ Over)

chosen_fits : (agreed : Caps) (owed : Owed) (path : List ℕ) (c : Choice) → AreNameable owed.delayed
    → length path ≤ 65507 → FitsNext (after_choice agreed owed path c)
chosen_fits agreed owed path (Give bytes) f le = inl (f, tt)
chosen_fits agreed owed path Refuse f le = inl (f, tt)
chosen_fits agreed owed path Later f le = inl (last_nameable owed.delayed path f le, tt)
chosen_fits agreed owed path Stop f le = inr refl

to_next : (s t : Stage) → s ≡ t → FitsNext t → FitsNext s
to_next s t e f = subst (λ (z : Stage). FitsNext z) (sym e) f

at : (s : Stage) (r : Reading) (p : Part) → r.part ≡ p → FitsPart s r.part r.keys → FitsPart s p r.keys
at s r p e f = subst (λ (z : Part). FitsPart s z r.keys) e f

path_fits : (o : Option (List ℕ)) (path : List ℕ) → o ≡ Some path → NameFits o → length path ≤ 65507
path_fits o path e f = subst (λ (z : Option (List ℕ)). NameFits z) e f

next_fits : (own : Caps) (batch : ℕ) (s : Stage) (r : Reading) (q : Request) (cs : List Choice) (ps : List Packet)
    (s2 : Stage) → FitsPart s r.part r.keys → EndsRequest r q → Answers own batch s q cs ps s2 → FitsNext s2
next_fits own batch Fresh r Hello cs ps s2 f e a = to_next s2 Greeted a.2 (inl tt)
next_fits own batch Greeted r (Offer offered) cs ps s2 f e a = to_next s2 _ a.2 (inl (tt, tt))
next_fits own batch (Serving agreed owed) r Listing cs ps s2 f e a =
    to_next s2 (Serving agreed (after_list batch owed)) a.3
    (inl (drop_nameable batch owed.delayed (at (Serving agreed owed) r part.KeyList e.0 f).0, tt))
next_fits own batch (Serving agreed owed) r (Smudge path can_delay content) cs ps s2 f e a =
    let g = at (Serving agreed owed) r part.Content e.0 f in
    let x = a.2 in
    to_next s2 (after_choice agreed owed path x.0) x.4
    (chosen_fits agreed owed path x.0 g.0 (path_fits r.keys.path path e.1 g.1))
next_fits own batch Fresh r (Offer offered) cs ps s2 f e a = absurd a
next_fits own batch Fresh r (Smudge path can_delay content) cs ps s2 f e a = absurd a
next_fits own batch Fresh r Listing cs ps s2 f e a = absurd a
next_fits own batch Greeted r Hello cs ps s2 f e a = absurd a
next_fits own batch Greeted r (Smudge path can_delay content) cs ps s2 f e a = absurd a
next_fits own batch Greeted r Listing cs ps s2 f e a = absurd a
next_fits own batch (Serving agreed owed) r Hello cs ps s2 f e a = absurd a
next_fits own batch (Serving agreed owed) r (Offer offered) cs ps s2 f e a = absurd a
next_fits own batch Over r q cs ps s2 f e a = absurd f

finished_fits : {W : Type 0} (told : W → WorkTold) (latest : W → Contents) (t u : TalkSeen W) (cs : List Choice) (ps : List Packet) → Fits t → Finishes told latest t cs ps u → FitsOrOver u
finished_fits told latest t u cs ps f x = placed (next_fits t.own t.batch t.stage t.reading x.request cs ps u.stage f x.ends x.answered)
  where
    placed : FitsNext u.stage → FitsOrOver u
    placed (inl g) = inl (subst (λ (z : TalkSeen _). Fits z) (sym x.next) g)
    placed (inr over) = inr over

free_of : (owed : Owed) (o : Option (List ℕ)) → may_name owed o ≡ true
    → (path : List ℕ) × (o ≡ Some path) × (name_in owed.delayed path ≡ false)
free_of owed None e = absurd cc
free_of owed (Some path) e = (path, refl, turned (name_in owed.delayed path) e)
  where
    turned : (b : Bool) → not b ≡ true → b ≡ false
    turned true e = absurd cc
    turned false e = refl

begun_fits : {W : Type 0} (t u : TalkSeen W) (cs : List Choice) (ps : List Packet) → Fits t → BeginsContent t cs ps u → FitsOrOver u
begun_fits t u cs ps f x =
    let m = x.may in
    let g = at (Serving m.0 m.1) t.reading part.KeyList x.list
    (subst (λ (s : Stage). FitsPart s t.reading.part t.reading.keys) m.2 f) in
    let free = free_of m.1 t.reading.keys.path m.4 in
    inl (subst (λ (z : TalkSeen _). Fits z) (sym x.next)
    (subst (λ (s : Stage). FitsPart s part.Content t.reading.keys) (sym m.2)
    (g.0, g.1, record { path = free.0; is = free.1; smudge = m.3; free = free.2 })))

pub flush_fits : {W : Type 0} (told : W → WorkTold) (latest : W → Contents) {A : Type 0} (result : Result A HostFault) (t u : TalkSeen W) (before after : List ℕ) → Fits t
    → OnOk result (TakesFlush told latest t u before after) → OnOk result (FitsOrOver u)
flush_fits told latest (Ok x) t u before after f g = by_kind g.is
  where
    by_kind : Finishes told latest t g.choices g.answers u ⊎ BeginsContent t g.choices g.answers u → FitsOrOver u
    by_kind (inl y) = finished_fits told latest t u g.choices g.answers f y
    by_kind (inr y) = begun_fits t u g.choices g.answers f y
flush_fits told latest (Err e) t u before after f g = tt

-- what a key list asks for

list_part : (s : Stage) (keys : Keys) → FitsPart s part.KeyList keys
    → (agreed : Caps) × (owed : Owed) × (s ≡ Serving agreed owed) × AreNameable owed.delayed
list_part Fresh keys f = absurd f
list_part Greeted keys f = absurd f
list_part (Serving agreed owed) keys f = (agreed, owed, refl, f.0)
list_part Over keys f = absurd f

pub list_fits : {W : Type 0} (t : TalkSeen W) → t.reading.part ≡ part.KeyList → Fits t
    → (agreed : Caps) × (owed : Owed) × (t.stage ≡ Serving agreed owed) × AreNameable owed.delayed
list_fits t e f = list_part t.stage t.reading.keys (at t.stage t.reading part.KeyList e f)

pub delayed_fit : (s : Step) (a : Caps) (delayed listed : List (List ℕ)) (agreed : Caps) (owed : Owed)
    → stage_of s a delayed listed ≡ Serving agreed owed → AreNameable owed.delayed → AreNameable delayed
delayed_fit steps.Fresh a delayed listed agreed owed e f = absurd cc
delayed_fit steps.Greeted a delayed listed agreed owed e f = absurd cc
delayed_fit steps.Serving a delayed listed agreed owed e f =
    subst (λ (z : List (List ℕ)). AreNameable z) (sym (ap (λ (z : Stage). (owed_of z).delayed) e)) f
delayed_fit steps.Over a delayed listed agreed owed e f = absurd cc
