-- Objects by their names, from the last to the first.
use Rattle.std.proofs.Common.{◌≡◌, ℕ, Bool, true, false, cond, List, [], ◌∷◌, ◌++◌, length, take, drop, Option, Some, refl, sym, ap, ◌∙◌, arith}
use Rattle.std.proofs.lemmas.List.{drop_all, take_at, drop_at, append_assoc, take-append-drop}
use Rattle.std.proofs.lemmas.Map.Text.{is_eq-slice_cmp}
use Rattle.std.specs.Global.{Vec}
use Rattle.std.specs.Prelude.{slice_get}
use Rattle.std.specs.BTreeMap.{BTreeMap, get, Updates}
use Rattle.std.specs.Str.{bytes_eq}
use Rattle.std.specs.Ordering.{nat_cmp}
use Rattle.std.specs.Cmp.Lexicographic.{slice_cmp}
use Rattle.edge_kit.specs.Told.{Told, Raw}
use Rattle.edge_kit.specs.Memory.{object_at, content_told, first_object}

abbrev Objects : Type 0
Objects = List (List ℕ × Vec ℕ)

abbrev found : BTreeMap (List ℕ) ℕ → List ℕ → Option ℕ
found places name = get (slice_cmp nat_cmp) places name

-- the objects from the end of the rest on are found
abbrev pub AreFound : BTreeMap (List ℕ) ℕ → Objects → Objects → Type 0
AreFound places rest objects = (name : List ℕ) → object_at objects (found places name) ≡ first_object (drop (length rest) objects) name

pub none_found : (places : BTreeMap (List ℕ) ℕ) (objects : Objects) → places.entries ≡ [] → AreFound places objects objects
none_found places objects empty name = rw empty (ap (λ (os : Objects). first_object os name) (sym (drop_all (length objects) objects (omega arith))))

whole : (objects rest before : Objects) (o : List ℕ × Vec ℕ) → rest ≡ take (length rest) objects → rest ≡ before ++ o ∷ [] → objects ≡ before ++ (o ∷ drop (length rest) objects)
whole objects rest before o front is =
    sym (take-append-drop (length rest) objects) ∙ ap (λ (os : Objects). os ++ drop (length rest) objects) (sym front ∙ is) ∙ append_assoc before (o ∷ []) (drop (length rest) objects)

pub rest_more : (objects rest before : Objects) (o : List ℕ × Vec ℕ) → rest ≡ take (length rest) objects → rest ≡ before ++ o ∷ [] → before ≡ take (length before) objects
rest_more objects rest before o front is =
    sym (ap (take (length before)) (whole objects rest before o front is) ∙ take_at before (o ∷ drop (length rest) objects) (length before) refl)

left : (objects rest before : Objects) (o : List ℕ × Vec ℕ) → rest ≡ take (length rest) objects → rest ≡ before ++ o ∷ [] → drop (length before) objects ≡ o ∷ drop (length rest) objects
left objects rest before o front is =
    ap (drop (length before)) (whole objects rest before o front is) ∙ drop_at before (o ∷ drop (length rest) objects) (length before) refl

-- the object after these is told at its place
told_at_place : (before after : Objects) (o : List ℕ × Vec ℕ) → content_told (slice_get (before ++ o ∷ after) (length before)) ≡ Raw o.1.items
told_at_place [] after o = refl
told_at_place (b ∷ bs) after o = told_at_place bs after o

by_name : (objects : Objects) (b : Bool) (place : ℕ) (raw : List ℕ) (other : Option ℕ) (rest : Told) → object_at objects (Some place) ≡ Raw raw → object_at objects other ≡ rest
    → object_at objects (cond b (Some place) other) ≡ cond b (Raw raw) rest
by_name objects true place raw other rest here there = here
by_name objects false place raw other rest here there = there

pub found_more : (objects rest before : Objects) (o : List ℕ × Vec ℕ) (places after : BTreeMap (List ℕ) ℕ) → rest ≡ take (length rest) objects → rest ≡ before ++ o ∷ []
    → Updates (slice_cmp nat_cmp) places after o.0 (Some (length before)) → AreFound places rest objects → AreFound after before objects
found_more objects rest before o places after front is updates was name =
    let behind : Objects = drop (length rest) objects in
    let here : object_at objects (Some (length before)) ≡ Raw o.1.items =
    ap (λ (os : Objects). content_told (slice_get os (length before))) (whole objects rest before o front is) ∙ told_at_place before behind o in
    ap (object_at objects) (updates.0 name ∙ ap (λ (b : Bool). cond b (Some (length before)) (found places name)) (is_eq-slice_cmp o.0 name))
    ∙ by_name objects (bytes_eq o.0 name) (length before) o.1.items (found places name) (first_object behind name) here (was name)
    ∙ ap (λ (os : Objects). first_object os name) (sym (left objects rest before o front is))
