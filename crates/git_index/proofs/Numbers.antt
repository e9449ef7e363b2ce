-- The paths of entries by their numbers.
use Rattle.std.proofs.Common.{◌≡◌, ℕ, zero, suc, ◌-◌, ◌<◌, true, false, ltb, List, [], ◌∷◌, ◌++◌, length, take, nat_eq, Some, refl, sym, ap, ◌∙◌, arith}
use Rattle.std.specs.Prelude.{slice_get}
use Rattle.std.specs.List.{starts_with}
use Rattle.std.proofs.lemmas.Bool.{and_parts, and_from, lt-ltb, ltb-true}
use Rattle.std.proofs.lemmas.List.{length-append, take_at}
use Rattle.git_index.specs.declared.entry.Entry.{Entry}
use Rattle.git_index.specs.Folders.{path_at, paths, are_numbers}
use Rattle.git_index.proofs.Stack.{last-splits, ClosedSoFar, ClosedSoFar-more}

-- one more entry changes no earlier path
path_within : (es : List Entry) (e : Entry) (k : ℕ) → k < length es → path_at (es ++ e ∷ []) k ≡ path_at es k
path_within [] e k lt = absurd (omega arith)
path_within (x ∷ es) e zero lt = refl
path_within (x ∷ es) e (suc k) lt = path_within es e k (omega arith)

path_new : (es : List Entry) (e : Entry) → path_at (es ++ e ∷ []) (length es) ≡ e.path
path_new [] e = refl
path_new (x ∷ es) e = path_new es e

pub paths_grown : (es : List Entry) (e : Entry) (ks : List ℕ) → are_numbers es ks ≡ true → paths (es ++ e ∷ []) ks ≡ paths es ks
paths_grown es e [] all = refl
paths_grown es e (k ∷ ks) all =
    let both = and_parts (ltb k (length es)) (are_numbers es ks) all in
    let first : path_at (es ++ e ∷ []) k ≡ path_at es k = path_within es e k (ltb-true k (length es) both.0) in
    let others : paths (es ++ e ∷ []) ks ≡ paths es ks = paths_grown es e ks both.1 in
    ap (λ (p : List ℕ). p ∷ paths (es ++ e ∷ []) ks) first ∙ ap (λ (ps : List (List ℕ)). path_at es k ∷ ps) others

pub numbers_grown : (es : List Entry) (e : Entry) (ks : List ℕ) → are_numbers es ks ≡ true → are_numbers (es ++ e ∷ []) ks ≡ true
numbers_grown es e [] all = refl
numbers_grown es e (k ∷ ks) all =
    let both = and_parts (ltb k (length es)) (are_numbers es ks) all in
    let less : k < length es = ltb-true k (length es) both.0 in
    and_from _ _ (lt-ltb k (length (es ++ e ∷ [])) (omega (arith, length-append es (e ∷ [])))) (numbers_grown es e ks both.1)

pub paths-push : (es : List Entry) (ks : List ℕ) (k : ℕ) → paths es (ks ++ k ∷ []) ≡ paths es ks ++ path_at es k ∷ []
paths-push es [] k = refl
paths-push es (j ∷ ks) k = ap (λ (ps : List (List ℕ)). path_at es j ∷ ps) (paths-push es ks k)

pub numbers-push : (es : List Entry) (ks : List ℕ) (k : ℕ) → are_numbers es ks ≡ true → k < length es → are_numbers es (ks ++ k ∷ []) ≡ true
numbers-push es [] k all lt = and_from _ _ (lt-ltb k (length es) lt) refl
numbers-push es (j ∷ ks) k all lt =
    let both = and_parts (ltb j (length es)) (are_numbers es ks) all in
    and_from _ _ both.0 (numbers-push es ks k both.1 lt)

pub numbers-front : (es : List Entry) (ks : List ℕ) (k : ℕ) → are_numbers es (ks ++ k ∷ []) ≡ true → are_numbers es ks ≡ true
numbers-front es [] k all = refl
numbers-front es (j ∷ ks) k all =
    let both = and_parts (ltb j (length es)) (are_numbers es (ks ++ k ∷ [])) all in
    and_from _ _ both.0 (numbers-front es ks k both.1)

-- the path of an entry on top
pub opened : (es : List Entry) (e : Entry) (ks : List ℕ) → are_numbers es ks ≡ true
    → (paths (es ++ e ∷ []) (ks ++ length es ∷ []) ≡ paths es ks ++ e.path ∷ []) × (are_numbers (es ++ e ∷ []) (ks ++ length es ∷ []) ≡ true)
opened es e ks all = (
  paths-push (es ++ e ∷ []) ks (length es) ∙ ap (λ (p : List ℕ). paths (es ++ e ∷ []) ks ++ p ∷ []) (path_new es e) ∙ ap (λ (ps : List (List ℕ)). ps ++ e.path ∷ []) (paths_grown es e ks all),
  numbers-push (es ++ e ∷ []) ks (length es) (numbers_grown es e ks all) (omega (arith, length-append es (e ∷ []))),
)

-- what is taken off the top
pub top_is : (xs newer : List ℕ) (last n : ℕ) → n ≡ length xs → newer ≡ take (n - 1) xs → Some last ≡ slice_get xs (length xs - 1) → xs ≡ newer ++ last ∷ []
top_is xs newer last n len rest top =
    let s = last-splits xs last (sym top) in
    let at : n - 1 ≡ length s.0 = omega (arith, ap (length {A = ℕ}) s.1, length-append s.0 (last ∷ [])) in
    let front : newer ≡ s.0 = rest ∙ ap (take (n - 1)) s.1 ∙ take_at s.0 (last ∷ []) (n - 1) (sym at) in
    s.1 ∙ ap (λ (ys : List ℕ). ys ++ last ∷ []) (sym front)

-- one more is closed
pub closes_one : (es : List Entry) (path top : List ℕ) (old xs newer : List ℕ) (last : ℕ) → xs ≡ newer ++ last ∷ [] → top ≡ path_at es last → starts_with nat_eq path top ≡ false
    → ClosedSoFar path (paths es old) (paths es xs) → ClosedSoFar path (paths es old) (paths es newer)
closes_one es path top old xs newer last parts is no_beginning closed =
    ClosedSoFar-more path (path_at es last) (paths es old) (paths es xs) (paths es newer) closed (ap (paths es) parts ∙ paths-push es newer last) (ap (starts_with nat_eq path) (sym is) ∙ no_beginning)
