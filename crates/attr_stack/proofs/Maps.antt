-- Maps from names.
use Rattle.std.proofs.Common.{◌≡◌, ◌⊎◌, ◌<◌, ℕ, zero, suc, Bool, true, false, cond, List, [], ◌∷◌, ◌++◌, length, replicate, slice_get, set, inl, inr, arith, Option, Some, None, is_some, map, refl, sym, ◌∙◌, ap}
use Rattle.std.specs.Option.{option_map}
use Rattle.std.specs.Map.{update, lookup, IsKeyTest, AreApart, KeepsOthers}
use Rattle.std.specs.Global.{Vec}
use Rattle.std.specs.Cmp.{eq_by_cmp_equiv}
use Rattle.std.specs.Cmp.Lexicographic.{nat_list_cmp_total, nat_list_eq_equiv}
use Rattle.std.proofs.lemmas.Map.Text.{is_eq-slice_cmp}
use Rattle.std.proofs.lemmas.Slice.Eq.{bytes_eq-Decides}
use Rattle.std.proofs.lemmas.Bool.{false_from_ne_true}
use Rattle.std.specs.Cmp.Lexicographic.{slice_cmp}
use Rattle.std.specs.Ordering.{is_eq, nat_cmp}
use Rattle.std.specs.BTreeMap as tree
use Rattle.std.specs.BTreeMap.{BTreeMap}
use Rattle.std.specs.Str.{bytes_eq}
use denote.Ref.{Bor}
use Rattle.attr_line.specs.declared.state.AttrState.{AttrState}
use Rattle.attr_line.specs.declared.file.Pair.{Pair}
use Rattle.attr_stack.specs.declared.macros.Body.{Body}
use Rattle.attr_stack.specs.declared.macros.Macros.{Macros}
use Rattle.attr_stack.specs.declared.linked_macros.LinkedMacros.{LinkedMacros}
use Rattle.attr_stack.specs.declared.noted.Decided.{Decided}
use Rattle.attr_stack.specs.Macros.{MacroLine, meaning}
use Rattle.attr_stack.specs.Numbers.{numbered, number_from, number_at, body_pairs, number_pairs, AreMacros}
use Rattle.attr_stack.specs.Seen.{with_state, other_at, marked, mark_at, said_by, state_at}

-- the pairs of a body, if it has this name
abbrev pub named_pairs : List ℕ → Option Body → List Pair
named_pairs name None = []
named_pairs name (Some body) = cond (bytes_eq body.name name) body.pairs []

abbrev pub found : {X : Type 0} → BTreeMap (Bor (List ℕ)) X → List ℕ → Option X
found {X} map name = tree.get_by (λ (key : Bor (List ℕ)). slice_cmp nat_cmp name key.now) map

abbrev pub Puts : {X : Type 0} → BTreeMap (Bor (List ℕ)) X → BTreeMap (Bor (List ℕ)) X → List ℕ → X → Type 0
Puts {X} old new name value = (other : List ℕ) → found new other ≡ update bytes_eq (found old) name (Some value) other

-- the same where the names are owned
abbrev pub owned : {X : Type 0} → BTreeMap (Vec ℕ) X → List ℕ → Option X
owned {X} map name = tree.get_by (λ (key : Vec ℕ). slice_cmp nat_cmp name key.items) map

apart : (name other key : List ℕ) → bytes_eq name other ≡ false → is_eq (slice_cmp nat_cmp name key) ≡ true → is_eq (slice_cmp nat_cmp other key) ≡ false
apart name other key differ same =
    let is : name ≡ key = (bytes_eq-Decides name key).0 (sym (is_eq-slice_cmp name key) ∙ same) in
    is_eq-slice_cmp other key ∙ false_from_ne_true (bytes_eq other key) (λ h.
    let no : true ≡ false = sym ((bytes_eq-Decides name other).1 (is ∙ sym ((bytes_eq-Decides other key).0 h))) ∙ differ in cc)

other_entries : {X : Type 0} (eq : Vec ℕ → Vec ℕ → Bool) (test : Vec ℕ → Bool) (old new : List (Vec ℕ × X)) → KeepsOthers eq test old new
    → (other : Vec ℕ → Bool) → IsKeyTest eq other → AreApart test other → lookup other new ≡ lookup other old
unfolding KeepsOthers
other_entries eq test old new keeps = keeps

-- what an insertion leaves at any name
pub owned-updates : {X : Type 0} (name : List ℕ) (m n : BTreeMap (Vec ℕ) X) (w : Option X) → tree.UpdatesBy (λ (x y : Vec ℕ). slice_cmp nat_cmp x.items y.items) (λ (key : Vec ℕ). slice_cmp nat_cmp name key.items) m n w
    → (other : List ℕ) → owned n other ≡ cond (bytes_eq name other) w (owned m other)
owned-updates name m n w updates other =
    elim (bytes_eq name other) as (λ b. bytes_eq name other ≡ b → owned n other ≡ cond b w (owned m other)) [
      | true ↦ λ same. ap (λ q. owned n q) (sym ((bytes_eq-Decides name other).0 same)) ∙ updates.1
      | false ↦ λ differ. other_entries _ _ _ _ updates.3 _ (λ x y. (eq_by_cmp_equiv nat_list_cmp_total).congr other x.items y.items) (λ key. apart name other key.items differ)
    ] refl

-- ---- the pairs of macros

-- a macro of another name, at the end, changes no pairs of a name
within-apart : (bodies : List Body) (body : Body) (name : List ℕ) (n : ℕ) → bytes_eq body.name name ≡ false
    → named_pairs name (slice_get (bodies ++ body ∷ []) n) ≡ named_pairs name (slice_get bodies n)
within-apart [] body name zero differ = ap (λ (b : Bool). cond b body.pairs []) differ
within-apart [] body name (suc n) differ = refl
within-apart (other ∷ bodies) body name zero differ = refl
within-apart (other ∷ bodies) body name (suc n) differ = within-apart bodies body name n differ

at-end : (bodies : List Body) (body : Body) → slice_get (bodies ++ body ∷ []) (length bodies) ≡ Some body
at-end [] body = refl
at-end (other ∷ bodies) body = at-end bodies body

-- the pairs of a body with this name
found-pairs : (macros : Macros) (name : List ℕ) (n : ℕ) → number_pairs macros (number_from macros name (Some n)) ≡ named_pairs name (slice_get macros.bodies.items n)
found-pairs macros name n = at (slice_get macros.bodies.items n) refl
  where
    at : (found : Option Body) → slice_get macros.bodies.items n ≡ found → number_pairs macros (numbered name n found) ≡ named_pairs name found
    at None is = refl
    at (Some body) is = test (bytes_eq body.name name)
      where
        test : (b : Bool) → number_pairs macros (cond b (Some n) None) ≡ cond b body.pairs []
        test true = ap body_pairs is
        test false = refl

pub defines : (old new : Macros) (name : List ℕ) (pairs : List Pair) → ((other : List ℕ) → owned new.numbers other ≡ cond (bytes_eq name other) (Some (length old.bodies.items)) (owned old.numbers other))
    → new.bodies.items ≡ old.bodies.items ++ record { name = name; pairs = pairs } ∷ []
    → (lines : List MacroLine) → AreMacros old lines → AreMacros new (record { name = name; pairs = pairs } ∷ lines)
defines old new name pairs puts is lines are other =
    ap (λ o. number_pairs new (number_from new other o)) (puts other) ∙ at (bytes_eq name other) refl
  where
    body : Body
    body = record { name = name; pairs = pairs }

    kept : bytes_eq name other ≡ false → (o : Option ℕ) → number_pairs new (number_from new other o) ≡ number_pairs old (number_from old other o)
    kept differ None = refl
    kept differ (Some n) = found-pairs new other n ∙ ap (λ bodies. named_pairs other (slice_get bodies n)) is ∙ within-apart old.bodies.items body other n differ ∙ sym (found-pairs old other n)

    at : (b : Bool) → bytes_eq name other ≡ b → number_pairs new (number_from new other (cond b (Some (length old.bodies.items)) (owned old.numbers other))) ≡ cond b pairs (meaning lines other)
    at true same =
        found-pairs new other (length old.bodies.items) ∙ ap (λ bodies. named_pairs other (slice_get bodies (length old.bodies.items))) is
        ∙ ap (named_pairs other) (at-end old.bodies.items body) ∙ ap (λ (b : Bool). cond b pairs []) same
    at false differ = kept differ (owned old.numbers other) ∙ are other

state-put : (b : Bool) (state : Bor AttrState) (old : Option (Bor AttrState))
    → option_map (λ (s : Bor AttrState). s.now) (cond b (Some state) old) ≡ cond b (Some state.now) (option_map (λ (s : Bor AttrState). s.now) old)
state-put true state old = refl
state-put false state old = refl

pub others-put : (old new : BTreeMap (Bor (List ℕ)) (Bor AttrState)) (name : List ℕ) (state : Bor AttrState) → Puts old new name state
    → (other : List ℕ) → other_at new other ≡ cond (bytes_eq name other) (Some state.now) (other_at old other)
others-put old new name state puts other =
    ap (λ o. option_map (λ (s : Bor AttrState). s.now) o) (puts other) ∙ state-put (bytes_eq name other) state (found old other)

pub nothing-defined : (macros : Macros) → macros.numbers.entries ≡ [] → AreMacros macros []
nothing-defined macros empty name =
    ap (λ entries. number_pairs macros (number_from macros name (lookup (tree.is_at (λ (key : Vec ℕ). slice_cmp nat_cmp name key.items)) entries))) empty

-- the lines that macros stand for
abbrev pub line_of : Macros → Vec ℕ × ℕ → MacroLine
line_of macros entry = record { name = entry.0.items; pairs = number_pairs macros (number_from macros entry.0.items (Some entry.1)) }

abbrev pub lines_in : Macros → List MacroLine
lines_in macros = map (line_of macros) macros.numbers.entries

turned : (name key : List ℕ) → is_eq (slice_cmp nat_cmp name key) ≡ bytes_eq key name
turned name key = is_eq-slice_cmp name key ∙ nat_list_eq_equiv.symm name key

lines-mean : (macros : Macros) (entries : List (Vec ℕ × ℕ)) (name : List ℕ)
    → number_pairs macros (number_from macros name (lookup (tree.is_at (λ (key : Vec ℕ). slice_cmp nat_cmp name key.items)) entries)) ≡ meaning (map (line_of macros) entries) name
lines-mean macros [] name = refl
lines-mean macros (entry ∷ entries) name =
    at (is_eq (slice_cmp nat_cmp name entry.0.items)) (bytes_eq entry.0.items name) (lookup (tree.is_at (λ (key : Vec ℕ). slice_cmp nat_cmp name key.items)) entries) _
    (turned name entry.0.items) refl (lines-mean macros entries name)
  where
    pairs : List ℕ → Option ℕ → List Pair
    pairs n o = number_pairs macros (number_from macros n o)

    at : (b d : Bool) (old : Option ℕ) (later : List Pair) → b ≡ d → d ≡ bytes_eq entry.0.items name → pairs name old ≡ later → pairs name (cond b (Some entry.1) old) ≡ cond d (pairs entry.0.items (Some entry.1)) later
    at true d old later same is here = ap (λ n. pairs n (Some entry.1)) (sym ((bytes_eq-Decides entry.0.items name).0 (sym is ∙ sym same))) ∙ rw (sym same) refl
    at false d old later same is here = rw (sym same) here

pub are-lines : (macros : Macros) → AreMacros macros (lines_in macros)
are-lines macros name = lines-mean macros macros.numbers.entries name

-- ---- what is decided

none-marked : (n : ℕ) (marks : ℕ) → (other : Option AttrState) → other ≡ None → marked (slice_get (replicate marks None) n) other ≡ None
none-marked n zero other none = none
none-marked zero (suc marks) other none = refl
none-marked (suc n) (suc marks) other none = none-marked n marks other none

pub nothing-noted : (states : Decided) (marks : ℕ) → states.marks.items ≡ replicate marks None → states.others.entries ≡ [] → (name : List ℕ) → state_at states name ≡ None
nothing-noted states marks clear empty name = at (number_at states.macros.now.macros name)
  where
    none : other_at states.others name ≡ None
    none = ap (λ entries. option_map (λ (s : Bor AttrState). s.now) (lookup (tree.is_at (λ (key : Bor (List ℕ)). slice_cmp nat_cmp name key.now)) entries)) empty

    at : (number : Option ℕ) → said_by states name number ≡ None
    at None = none
    at (Some n) = ap (λ ms. marked (slice_get ms n) (other_at states.others name)) clear ∙ none-marked n marks (other_at states.others name) none

pub is_some-seen : (state : Option (Bor AttrState)) → is_some (option_map (λ (s : Bor AttrState). s.now) state) ≡ is_some state
is_some-seen None = refl
is_some-seen (Some state) = refl

abbrev pub name_of : Option Body → List ℕ
name_of None = []
name_of (Some body) = body.name

-- only one name has a number
one-name : (macros : Macros) (name other : List ℕ) (n : ℕ) → number_at macros name ≡ Some n → number_at macros other ≡ Some n → name ≡ other
one-name macros name other n is so = sym (has name is) ∙ has other so
  where
    body : Option Body
    body = slice_get macros.bodies.items n

    from : (q : List ℕ) (m : ℕ) (found : Option Body) → numbered q m found ≡ Some n → (m ≡ n) × (name_of found ≡ q)
    from q m None eq = absurd (cc)
    from q m (Some b) eq = test (bytes_eq b.name q) refl eq
      where
        test : (c : Bool) → c ≡ bytes_eq b.name q → cond c (Some m) None ≡ Some n → (m ≡ n) × (b.name ≡ q)
        test true same eq = (cc, (bytes_eq-Decides b.name q).0 (sym same))
        test false same eq = absurd (cc)

    by : (q : List ℕ) (o : Option ℕ) → number_from macros q o ≡ Some n → name_of body ≡ q
    by q None eq = absurd (cc)
    by q (Some m) eq =
        let parts = from q m (slice_get macros.bodies.items m) eq in
        ap (λ k. name_of (slice_get macros.bodies.items k)) (sym parts.0) ∙ parts.1

    has : (q : List ℕ) → number_at macros q ≡ Some n → name_of body ≡ q
    has q eq = by q _ eq

next-apart : {X : Type 0} (n m : ℕ) (x y : X) → (n ≡ m) ⊎ (x ≡ y) → (suc n ≡ suc m) ⊎ (x ≡ y)
next-apart n m x y (inl is) = inl (ap suc is)
next-apart n m x y (inr same) = inr same

set-other : {X : Type 0} (xs : List X) (n m : ℕ) (x : X) → (n ≡ m) ⊎ (slice_get (set xs n x) m ≡ slice_get xs m)
set-other [] n m x = inr refl
set-other (y ∷ xs) zero zero x = inl refl
set-other (y ∷ xs) zero (suc m) x = inr refl
set-other (y ∷ xs) (suc n) zero x = inr refl
set-other (y ∷ xs) (suc n) (suc m) x = next-apart n m _ _ (set-other xs n m x)

set-here : {X : Type 0} (xs : List X) (n : ℕ) (x : X) → n < length xs → slice_get (set xs n x) n ≡ Some x
set-here [] n x within = absurd (let no : n < 0 = within in omega (arith, no))
set-here (y ∷ xs) zero x within = refl
set-here (y ∷ xs) (suc n) x within = set-here xs n x (omega (arith, within))

-- the state of a macro, at its mark
pub put-marked : (old new : Decided) (pair : Pair) (n : ℕ) (state : Bor AttrState) → number_at old.macros.now.macros pair.name ≡ Some n → n < length old.marks.items
    → new.macros ≡ old.macros → new.marks.items ≡ set old.marks.items n (Some state) → new.others ≡ old.others → state.now ≡ pair.state
    → (name : List ℕ) → state_at new name ≡ with_state pair (state_at old) name
put-marked old new pair n state is within macros marks others says name =
    ap (λ (m : Bor LinkedMacros). said_by new name (number_at m.now.macros name)) macros ∙ at (bytes_eq pair.name name) refl (number_at old.macros.now.macros name) refl
  where
    at : (b : Bool) → b ≡ bytes_eq pair.name name → (number : Option ℕ) → number ≡ number_at old.macros.now.macros name → said_by new name number ≡ cond b (Some pair.state) (said_by old name number)
    at true same number here =
        let one : pair.name ≡ name = (bytes_eq-Decides pair.name name).0 (sym same) in
        ap (λ (k : Option ℕ). said_by new name k) (here ∙ ap (number_at old.macros.now.macros) (sym one) ∙ is)
        ∙ ap (λ (ms : List (Option (Bor AttrState))). marked (slice_get ms n) (other_at new.others name)) marks
        ∙ ap (λ (mark : Option (Option (Bor AttrState))). marked mark (other_at new.others name)) (set-here old.marks.items n (Some state) within)
        ∙ ap Some says
    at false differ None here = ap (λ (o : BTreeMap (Bor (List ℕ)) (Bor AttrState)). other_at o name) others
    at false differ (Some m) here =
        ap (λ (o : BTreeMap (Bor (List ℕ)) (Bor AttrState)). marked (slice_get new.marks.items m) (other_at o name)) others
        ∙ ap (λ (ms : List (Option (Bor AttrState))). marked (slice_get ms m) (other_at old.others name)) marks
        ∙ by (set-other old.marks.items n m (Some state))
      where
        by : (n ≡ m) ⊎ (slice_get (set old.marks.items n (Some state)) m ≡ slice_get old.marks.items m)
            → marked (slice_get (set old.marks.items n (Some state)) m) (other_at old.others name) ≡ marked (slice_get old.marks.items m) (other_at old.others name)
        by (inr kept) = ap (λ (mark : Option (Option (Bor AttrState))). marked mark (other_at old.others name)) kept
        by (inl one) = absurd (let no : true ≡ false = sym ((bytes_eq-Decides pair.name name).1 (one-name old.macros.now.macros pair.name name n is (sym here ∙ ap Some (sym one)))) ∙ sym differ in cc)

-- the state of a name that has no mark
pub put-other : (old new : Decided) (pair : Pair) → mark_at old.marks.items (number_at old.macros.now.macros pair.name) ≡ None
    → new.macros ≡ old.macros → new.marks.items ≡ old.marks.items → ((name : List ℕ) → other_at new.others name ≡ with_state pair (other_at old.others) name)
    → (name : List ℕ) → state_at new name ≡ with_state pair (state_at old) name
put-other old new pair unmarked macros marks puts name =
    ap (λ (m : Bor LinkedMacros). said_by new name (number_at m.now.macros name)) macros
    ∙ ap (λ (ms : List (Option (Bor AttrState))). marked (mark_at ms (number_at old.macros.now.macros name)) (other_at new.others name)) marks
    ∙ ap (marked (mark_at old.marks.items (number_at old.macros.now.macros name))) (puts name) ∙ at (bytes_eq pair.name name) refl
  where
    at : (b : Bool) → b ≡ bytes_eq pair.name name → marked (mark_at old.marks.items (number_at old.macros.now.macros name)) (cond b (Some pair.state) (other_at old.others name))
        ≡ cond b (Some pair.state) (said_by old name (number_at old.macros.now.macros name))
    at true same =
        let none : mark_at old.marks.items (number_at old.macros.now.macros name) ≡ None =
        ap (λ (q : List ℕ). mark_at old.marks.items (number_at old.macros.now.macros q)) (sym ((bytes_eq-Decides pair.name name).0 (sym same))) ∙ unmarked in
        ap (λ (mark : Option (Option (Bor AttrState))). marked mark (Some pair.state)) none
    at false differ = refl

-- a name whose mark is set is known
pub marked-known : (states : Decided) (name : List ℕ) (number : Option ℕ) → number ≡ number_at states.macros.now.macros name
    → ((other : List ℕ) → is_some (said_by states other number) ≡ true) → is_some (state_at states name) ≡ true
marked-known states name number is marked = ap (λ (k : Option ℕ). is_some (said_by states name k)) (sym is) ∙ marked name
