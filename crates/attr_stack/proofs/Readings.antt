-- Reading pairs from a list, with what is decided so far.
use Rattle.std.proofs.Common.{◌≡◌, ℕ, zero, suc, ◌+◌, ◌≤◌, Bool, true, false, cond, ◌||◌, ◌&&◌, List, [], ◌∷◌, ◌++◌, map, reverse, Option, Some, None, is_some, refl, sym, ◌∙◌, ap, arith, append_assoc}
use Rattle.std.proofs.lemmas.List.{append-nil}
use Rattle.std.proofs.lemmas.Slice.Eq.{bytes_eq-Decides}
use Rattle.std.proofs.lemmas.Bool.{false_from_ne_true}
use Rattle.std.specs.List.{list_all}
use Rattle.std.specs.Str.{bytes_eq}
use Rattle.attr_line.specs.declared.state.AttrState.{AttrState}
use Rattle.attr_line.specs.declared.state.AttrState.TheVariants.{Set, Unset, Unspecified, Value}
use Rattle.attr_line.specs.declared.file.Pair.{Pair}
use Rattle.attr_stack.specs.Macros.{MacroLine, meaning}
use Rattle.attr_stack.specs.Seen.{with_state, Notes}
use Rattle.attr_stack.specs.Search.{Noted, known, or_else, still_of, is_asked, Leads}
use Rattle.attr_stack.specs.Decided.{Names, no_names, with_name, body_at, body_of, decided_within, most_read, decided, said_of}
use Rattle.attr_stack.proofs.Decisions.{room, room-decides, room-passes, decided-none, decided-passed, decided-decides, decided-same}

pub still-none : (lines : List MacroLine) (states : List ℕ → Option AttrState) (name : List ℕ) → still_of lines [] states name ≡ states name
still-none lines states name = ap (λ pairs. or_else (states name) (said_of pairs name)) (decided-none lines (known states)) ∙ or-none (states name)
  where
    or-none : (state : Option AttrState) → or_else state None ≡ state
    or-none None = refl
    or-none (Some state) = refl

some-cond : (b : Bool) (state : AttrState) (old : Option AttrState) → is_some (cond b (Some state) old) ≡ (b || is_some old)
some-cond true state old = refl
some-cond false state old = refl

pub known-decides : (pair : Pair) (old new : List ℕ → Option AttrState) → ((name : List ℕ) → new name ≡ with_state pair old name) → known new ≡ with_name pair.name (known old)
known-decides pair old new adds = λ i. λ name. (ap is_some (adds name) ∙ some-cond (bytes_eq pair.name name) pair.state (old name)) i

pub known-same : (old new : List ℕ → Option AttrState) → ((name : List ℕ) → new name ≡ old name) → known new ≡ known old
known-same old new same = λ i. λ name. ap is_some (same name) i

-- what the first pair of a list says comes first
first-said : (b : Bool) (state : AttrState) (was later : Option AttrState) → (b ≡ true → is_some was ≡ false)
    → or_else was (cond b (Some state) later) ≡ or_else (cond b (Some state) was) later
first-said true state None later absent = refl
first-said true state (Some other) later absent = absurd (let e : true ≡ false = absent refl in cc)
first-said false state was later absent = refl

pub still-decides : (lines : List MacroLine) (pair : Pair) (rest next : List Pair) (old new : List ℕ → Option AttrState) (name : List ℕ) → Notes pair old new true → next ≡ body_of lines pair ++ rest
    → still_of lines (pair ∷ rest) old name ≡ still_of lines next new name
still-decides lines pair rest next old new name decides is =
    let out : List Pair = decided lines (body_of lines pair ++ rest) (with_name pair.name (known old)) in
    let after : decided lines next (known new) ≡ out =
    ap (λ pairs. decided lines pairs (known new)) is ∙ ap (λ names. decided lines (body_of lines pair ++ rest) names) (known-decides pair old new decides.1) in
    let absent : bytes_eq pair.name name ≡ true → is_some (old name) ≡ false =
    λ same. ap (λ q. is_some (old q)) (sym ((bytes_eq-Decides pair.name name).0 same)) ∙ decides.0 in
    ap (λ pairs. or_else (old name) (said_of pairs name)) (decided-decides lines pair rest (known old) decides.0)
    ∙ first-said (bytes_eq pair.name name) pair.state (old name) (said_of out name) absent
    ∙ ap (λ state. or_else state (said_of out name)) (sym (decides.1 name))
    ∙ ap (λ pairs. or_else (new name) (said_of pairs name)) (sym after)

pub still-passed : (lines : List MacroLine) (pair : Pair) (rest : List Pair) (old new : List ℕ → Option AttrState) (name : List ℕ) → Notes pair old new false
    → still_of lines (pair ∷ rest) old name ≡ still_of lines rest new name
still-passed lines pair rest old new name passes =
    ap (λ pairs. or_else (old name) (said_of pairs name)) (decided-passed lines pair rest (known old) passes.0)
    ∙ ap (λ state. or_else state (said_of (decided lines rest (known old)) name)) (sym (passes.1 name))
    ∙ ap (λ names. or_else (new name) (said_of (decided lines rest names) name)) (sym (known-same old new passes.1))

-- less is left to read
pub room-decided : (lines : List MacroLine) (pair : Pair) (rest next : List Pair) (old new : List ℕ → Option AttrState) → Notes pair old new true → next ≡ body_of lines pair ++ rest
    → room lines next (known new) + 1 ≤ room lines (pair ∷ rest) (known old)
room-decided lines pair rest next old new decides is =
    let before : room lines next (known new) ≡ room lines (body_of lines pair ++ rest) (with_name pair.name (known old)) =
    ap (λ pairs. room lines pairs (known new)) is ∙ ap (λ names. room lines (body_of lines pair ++ rest) names) (known-decides pair old new decides.1) in
    omega (arith, before, room-decides lines pair rest (known old) decides.0)

pub room-passed : (lines : List MacroLine) (pair : Pair) (rest : List Pair) (old new : List ℕ → Option AttrState) → Notes pair old new false
    → room lines rest (known new) + 1 ≤ room lines (pair ∷ rest) (known old)
room-passed lines pair rest old new passes =
    omega (arith, ap (λ names. room lines rest names) (known-same old new passes.1), room-passes lines pair rest (known old))

-- before the first pair
pub still-first : (lines : List MacroLine) (pairs next : List Pair) (states : List ℕ → Option AttrState) → ((name : List ℕ) → states name ≡ None) → next ≡ pairs ++ []
    → (name : List ℕ) → said_of (decided lines pairs no_names) name ≡ still_of lines next states name
still-first lines pairs next states empty is name =
    let none : known states ≡ no_names = λ i. λ other. ap is_some (empty other) i in
    sym (ap (λ state. or_else state (said_of (decided lines next (known states)) name)) (empty name)
    ∙ ap (λ names. said_of (decided lines next names) name) none
    ∙ ap (λ ps. said_of (decided lines ps no_names) name) (is ∙ append-nil pairs))

-- ---- a name that isn't needed

or-swap : (a b c : Bool) → (a || (b || c)) ≡ (b || (a || c))
or-swap true true c = refl
or-swap true false c = refl
or-swap false b c = refl

name-swap : (a b : List ℕ) (names : Names) → with_name a (with_name b names) ≡ with_name b (with_name a names)
name-swap a b names = λ i. λ other. or-swap (bytes_eq a other) (bytes_eq b other) (names other) i

body-none : (lines : List MacroLine) (name : List ℕ) (state : AttrState) → meaning lines name ≡ [] → body_at lines name state ≡ []
body-none lines name Set none = ap reverse none
body-none lines name Unset none = refl
body-none lines name Unspecified none = refl
body-none lines name (Value value) none = refl

apart-cons : (b : Bool) (state : AttrState) (x y : Option AttrState) → x ≡ y → cond b (Some state) x ≡ cond b (Some state) y
apart-cons true state x y same = refl
apart-cons false state x y same = same

-- what is known of a name that is no macro changes no other name
within-apart : (n : ℕ) (lines : List MacroLine) (pairs : List Pair) (names : Names) (other name : List ℕ) → meaning lines other ≡ [] → bytes_eq other name ≡ false
    → said_of (decided_within n lines pairs (with_name other names)) name ≡ said_of (decided_within n lines pairs names) name
within-apart zero lines pairs names other name none apart = refl
within-apart (suc n) lines [] names other name none apart = refl
within-apart (suc n) lines (pair ∷ rest) names other name none apart =
    at (bytes_eq other pair.name) (names pair.name) refl (λ ps ns. within-apart n lines ps ns other name none apart)
  where
    at : (same seen : Bool) → same ≡ bytes_eq other pair.name
        → ((ps : List Pair) (ns : Names) → said_of (decided_within n lines ps (with_name other ns)) name ≡ said_of (decided_within n lines ps ns) name)
        → said_of (cond (same || seen) (decided_within n lines rest (with_name other names)) (pair ∷ decided_within n lines (body_of lines pair ++ rest) (with_name pair.name (with_name other names)))) name
        ≡ said_of (cond seen (decided_within n lines rest names) (pair ∷ decided_within n lines (body_of lines pair ++ rest) (with_name pair.name names))) name
    at true true is later = later rest names
    at false true is later = later rest names
    at true false is later =
        let same : other ≡ pair.name = (bytes_eq-Decides other pair.name).0 (sym is) in
        let gone : body_of lines pair ≡ [] = body-none lines pair.name pair.state (ap (meaning lines) (sym same) ∙ none) in
        let unlike : bytes_eq pair.name name ≡ false = ap (λ (x : List ℕ). bytes_eq x name) (sym same) ∙ apart in
        sym (ap (λ (b : Bool). cond b (Some pair.state) (said_of (decided_within n lines (body_of lines pair ++ rest) (with_name pair.name names)) name)) unlike
        ∙ ap (λ (body : List Pair). said_of (decided_within n lines (body ++ rest) (with_name pair.name names)) name) gone
        ∙ ap (λ (x : List ℕ). said_of (decided_within n lines rest (with_name x names)) name) (sym same))
    at false false is later =
        apart-cons (bytes_eq pair.name name) pair.state _ _
        (ap (λ (ns : Names). said_of (decided_within n lines (body_of lines pair ++ rest) ns) name) (name-swap pair.name other names)
        ∙ later (body_of lines pair ++ rest) (with_name pair.name names))

decided-apart : (lines : List MacroLine) (pairs : List Pair) (names : Names) (other name : List ℕ) → meaning lines other ≡ [] → bytes_eq other name ≡ false
    → said_of (decided lines pairs (with_name other names)) name ≡ said_of (decided lines pairs names) name
unfolding decided
decided-apart lines pairs names other name none apart = within-apart (most_read lines pairs) lines pairs names other name none apart

foreign : (seen : Bool) (lines : List MacroLine) (pair : Pair) (rest : List Pair) (names : Names) (name : List ℕ) → names pair.name ≡ seen → meaning lines pair.name ≡ [] → bytes_eq pair.name name ≡ false
    → said_of (decided lines (pair ∷ rest) names) name ≡ said_of (decided lines rest names) name
foreign true lines pair rest names name is none apart = ap (λ (ps : List Pair). said_of ps name) (decided-passed lines pair rest names is)
foreign false lines pair rest names name is none apart =
    ap (λ (ps : List Pair). said_of ps name) (decided-decides lines pair rest names is)
    ∙ ap (λ (b : Bool). cond b (Some pair.state) (said_of (decided lines (body_of lines pair ++ rest) (with_name pair.name names)) name)) apart
    ∙ ap (λ (body : List Pair). said_of (decided lines (body ++ rest) (with_name pair.name names)) name) (body-none lines pair.name pair.state none)
    ∙ decided-apart lines rest names pair.name name none apart

-- a pair of another name, which is no macro, decides nothing of a name
pub still-foreign : (lines : List MacroLine) (pair : Pair) (rest : List Pair) (states : Noted) (name : List ℕ) → meaning lines pair.name ≡ [] → bytes_eq pair.name name ≡ false
    → still_of lines (pair ∷ rest) states name ≡ still_of lines rest states name
still-foreign lines pair rest states name none apart =
    ap (or_else (states name)) (foreign (known states pair.name) lines pair rest (known states) name refl none apart)

-- ---- names that are asked for

not-asked : (names : List (List ℕ)) (other name : List ℕ) → is_asked names other ≡ false → is_asked names name ≡ true → bytes_eq other name ≡ false
not-asked names other name unasked sought =
    false_from_ne_true (bytes_eq other name) (λ h. let e : true ≡ false = sym sought ∙ ap (is_asked names) (sym ((bytes_eq-Decides other name).0 h)) ∙ unasked in cc)

asked-here : (n : List ℕ) (names : List (List ℕ)) → is_asked (n ∷ names) n ≡ true
asked-here n names = ap (λ (b : Bool). b || is_asked names n) ((bytes_eq-Decides n n).1 refl)

or-right : (a b : Bool) → b ≡ true → (a || b) ≡ true
or-right true b is = refl
or-right false b is = is

asked-later : (n : List ℕ) (names : List (List ℕ)) (name : List ℕ) → is_asked names name ≡ true → is_asked (n ∷ names) name ≡ true
asked-later n names name is = or-right (bytes_eq n name) (is_asked names name) is

-- what two tests say of each name that is asked for
pub map-asked : {X : Type 0} (f g : List ℕ → X) (names : List (List ℕ)) → ((name : List ℕ) → is_asked names name ≡ true → f name ≡ g name) → map f names ≡ map g names
map-asked f g [] same = refl
map-asked f g (n ∷ names) same =
    ap (λ x. x ∷ map f names) (same n (asked-here n names))
    ∙ ap (λ xs. g n ∷ xs) (map-asked f g names (λ name asked. same name (asked-later n names name asked)))

both : (a b : Bool) → (a && b) ≡ true → (a ≡ true) × (b ≡ true)
both true b is = (refl, is)
both false b is = absurd (cc)

-- all names that are asked for are decided
pub all-known : (names : List (List ℕ)) (states : Noted) (name : List ℕ) → list_all (λ (n : List ℕ). is_some (states n)) names ≡ true → is_asked names name ≡ true → is_some (states name) ≡ true
all-known [] states name all asked = absurd (cc)
all-known (n ∷ names) states name all asked =
    let parts = both (is_some (states n)) (list_all (λ (m : List ℕ). is_some (states m)) names) all in
    at (bytes_eq n name) refl asked parts.0 (λ later. all-known names states name parts.1 later)
  where
    at : (same : Bool) → same ≡ bytes_eq n name → (same || is_asked names name) ≡ true → is_some (states n) ≡ true
        → (is_asked names name ≡ true → is_some (states name) ≡ true) → is_some (states name) ≡ true
    at true is asked here later = ap (λ (m : List ℕ). is_some (states m)) (sym ((bytes_eq-Decides n name).0 (sym is))) ∙ here
    at false is asked here later = later asked

still-known : (state : Option AttrState) (x y : Option AttrState) → is_some state ≡ true → or_else state x ≡ or_else state y
still-known None x y is = absurd (cc)
still-known (Some state) x y is = refl

-- then no pair that is left counts
pub leads-done : (lines : List MacroLine) (names : List (List ℕ)) (pairs left other : List Pair) (old new : Noted) → list_all (λ (n : List ℕ). is_some (new n)) names ≡ true
    → Leads lines (is_asked names) pairs old left new → Leads lines (is_asked names) pairs old other new
leads-done lines names pairs left other old new all leads = λ rest name asked.
    leads rest name asked ∙ still-known (new name) _ _ (all-known names new name all asked)

-- ---- one reading after another

pub leads-on : (lines : List MacroLine) (asked : Names) (pairs here later : List Pair) (old mid new : Noted)
    → Leads lines asked pairs old (here ++ later) mid → Leads lines asked here mid [] new → Leads lines asked pairs old later new
leads-on lines asked pairs here later old mid new before now = λ rest name is.
    before rest name is ∙ ap (λ (ps : List Pair). still_of lines ps mid name) (append_assoc here later rest) ∙ now (later ++ rest) name is

pub leads-none : (lines : List MacroLine) (asked : Names) (pairs : List Pair) (states : Noted) → Leads lines asked pairs states pairs states
leads-none lines asked pairs states = λ rest name is. refl

-- what a whole reading decides
pub leads-decides : (lines : List MacroLine) (asked : Names) (pairs : List Pair) (old new : Noted) (name : List ℕ) → ((name : List ℕ) → old name ≡ None)
    → Leads lines asked pairs old [] new → asked name ≡ true → new name ≡ said_of (decided lines pairs no_names) name
leads-decides lines asked pairs old new name empty leads is =
    sym (still-first lines pairs (pairs ++ []) old empty refl name ∙ leads [] name is ∙ still-none lines new name)

-- ---- one step of a reading

pub leads-turn : (lines : List MacroLine) (asked : Names) (pairs left other : List Pair) (old new : Noted) → left ≡ other → Leads lines asked pairs old left new → Leads lines asked pairs old other new
leads-turn lines asked pairs left other old new same leads = λ rest name is.
    leads rest name is ∙ ap (λ (ps : List Pair). still_of lines (ps ++ rest) new name) same

pub leads-decide : (lines : List MacroLine) (asked : Names) (pairs left next : List Pair) (pair : Pair) (old mid new : Noted)
    → Leads lines asked pairs old (pair ∷ left) mid → Notes pair mid new true → next ≡ body_of lines pair ++ left → Leads lines asked pairs old next new
leads-decide lines asked pairs left next pair old mid new before decides is = λ rest name h.
    before rest name h
    ∙ still-decides lines pair (left ++ rest) (next ++ rest) mid new name decides (ap (λ (ps : List Pair). ps ++ rest) is ∙ append_assoc (body_of lines pair) left rest)

pub leads-pass : (lines : List MacroLine) (asked : Names) (pairs left : List Pair) (pair : Pair) (old mid new : Noted)
    → Leads lines asked pairs old (pair ∷ left) mid → Notes pair mid new false → Leads lines asked pairs old left new
leads-pass lines asked pairs left pair old mid new before passes = λ rest name h.
    before rest name h ∙ still-passed lines pair (left ++ rest) mid new name passes

pub leads-foreign : (lines : List MacroLine) (names : List (List ℕ)) (pairs left : List Pair) (pair : Pair) (old mid : Noted)
    → Leads lines (is_asked names) pairs old (pair ∷ left) mid → meaning lines pair.name ≡ [] → is_asked names pair.name ≡ false
    → Leads lines (is_asked names) pairs old left mid
leads-foreign lines names pairs left pair old mid before none unasked = λ rest name h.
    before rest name h ∙ still-foreign lines pair (left ++ rest) mid name none (not-asked names pair.name name unasked h)

-- macros of one meaning lead to the same
pub leads-same : (lines others : List MacroLine) (asked : Names) (pairs left : List Pair) (old new : Noted) → ((name : List ℕ) → meaning lines name ≡ meaning others name)
    → Leads lines asked pairs old left new → Leads others asked pairs old left new
leads-same lines others asked pairs left old new same leads = λ rest name h.
    sym (still-same (pairs ++ rest) old name) ∙ leads rest name h ∙ still-same (left ++ rest) new name
  where
    still-same : (ps : List Pair) (states : Noted) (name : List ℕ) → still_of lines ps states name ≡ still_of others ps states name
    still-same ps states name = ap (λ (ds : List Pair). or_else (states name) (said_of ds name)) (decided-same lines others ps (known states) same)

-- a name that isn't needed is no macro, and isn't asked for
pub not-needed : (number : Option ℕ) (asked : Bool) → (is_some number || asked) ≡ false → (number ≡ None) × (asked ≡ false)
not-needed None false is = (refl, refl)
not-needed None true is = absurd (cc)
not-needed (Some number) asked is = absurd (cc)

-- ---- readings put together

pub leads-from : (lines : List MacroLine) (asked : Names) (pairs other left : List Pair) (old new : Noted) → pairs ≡ other → Leads lines asked pairs old left new → Leads lines asked other old left new
leads-from lines asked pairs other left old new same leads = λ rest name is.
    sym (ap (λ (ps : List Pair). still_of lines (ps ++ rest) old name) same) ∙ leads rest name is

pub leads-both : (lines : List MacroLine) (asked : Names) (first second : List Pair) (old mid new : Noted)
    → Leads lines asked first old [] mid → Leads lines asked second mid [] new → Leads lines asked (first ++ second) old [] new
leads-both lines asked first second old mid new one two = λ rest name is.
    ap (λ (ps : List Pair). still_of lines ps old name) (append_assoc first second rest) ∙ one (second ++ rest) name is ∙ two rest name is
