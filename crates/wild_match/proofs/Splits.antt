-- Splits of a text after a star, and why going back to the last star is enough.
use Rattle.std.proofs.Common.{◌≡◌, ℕ, Bool, true, false, cond, ◌&&◌, not, List, [], ◌∷◌, ◌⊎◌, inl, inr, refl}
use Rattle.std.proofs.lemmas.Bool.{and_parts, and_from, or_cases, or_left, or_right}
use Rattle.wild_match.specs.Pieces.{Piece, Slash, One, Run, Folders, Rest, Never}
use Rattle.wild_match.specs.Fits.{is_slash, some_split, some_folder, fits}
use Rattle.wild_match.specs.Steps.{from_stop, from_slash}

pub split-here : (f : List ℕ → Bool) (t : List ℕ) → f t ≡ true → some_split f t ≡ true
split-here f [] h = h
split-here f (b ∷ t) h = or_left (f (b ∷ t)) (not (is_slash b) && some_split f t) h

split-on : (f : List ℕ → Bool) (b : ℕ) (t : List ℕ) → not (is_slash b) ≡ true → some_split f t ≡ true → some_split f (b ∷ t) ≡ true
split-on f b t other h = or_right (f (b ∷ t)) (not (is_slash b) && some_split f t) (and_from (not (is_slash b)) (some_split f t) other h)

-- the place of a split: here, or after a byte
pub split-cases : (f : List ℕ → Bool) (b : ℕ) (t : List ℕ) → some_split f (b ∷ t) ≡ true → (f (b ∷ t) ≡ true) ⊎ ((not (is_slash b) ≡ true) × (some_split f t ≡ true))
split-cases f b t h =
    elim (or_cases (f (b ∷ t)) (not (is_slash b) && some_split f t) h) [
      | inl here ↦ inl here
      | inr later ↦ inr (and_parts (not (is_slash b)) (some_split f t) later)
    ]

pub split-each : (f g : List ℕ → Bool) → ((t : List ℕ) → f t ≡ true → g t ≡ true) → (t : List ℕ) → some_split f t ≡ true → some_split g t ≡ true
split-each f g each [] h = each [] h
split-each f g each (b ∷ t) h =
    elim (split-cases f b t h) [
      | inl here ↦ split-here g (b ∷ t) (each (b ∷ t) here)
      | inr later ↦ split-on g b t later.0 (split-each f g each t later.1)
    ]

-- two splits are one
pub split-again : (f : List ℕ → Bool) (t : List ℕ) → some_split (λ u. some_split f u) t ≡ true → some_split f t ≡ true
split-again f [] h = h
split-again f (b ∷ t) h =
    elim (split-cases (λ u. some_split f u) b t h) [
      | inl here ↦ here
      | inr later ↦ split-on f b t later.0 (split-again f t later.1)
    ]

-- a byte's piece and what follows it
pub one-parts : (p : ℕ → Bool) (later : List Piece) (b : ℕ) (t : List ℕ) → fits (One p ∷ later) (b ∷ t) ≡ true → (not (is_slash b) ≡ true) × (fits later t ≡ true)
one-parts p later b t h =
    let outer = and_parts (not (is_slash b) && p b) (fits later t) h in
    let inner = and_parts (not (is_slash b)) (p b) outer.0 in
    (inner.0, outer.1)

one-split : (p : ℕ → Bool) (later : List Piece) (t : List ℕ) → some_split (fits (One p ∷ later)) t ≡ true → some_split (fits later) t ≡ true
one-split p later [] h = absurd (cc)
one-split p later (b ∷ t) h =
    elim (split-cases (fits (One p ∷ later)) b t h) [
      | inl here ↦ let parts = one-parts p later b t here in split-on (fits later) b t parts.0 (split-here (fits later) t parts.1)
      | inr other ↦ split-on (fits later) b t other.0 (one-split p later t other.1)
    ]

-- a split before a byte's piece gives one after it
pub one-step : (p : ℕ → Bool) (later : List Piece) (b : ℕ) (t : List ℕ) → some_split (fits (One p ∷ later)) (b ∷ t) ≡ true → some_split (fits later) t ≡ true
one-step p later b t h =
    elim (split-cases (fits (One p ∷ later)) b t h) [
      | inl here ↦ split-here (fits later) t (one-parts p later b t here).1
      | inr other ↦ one-split p later t other.1
    ]

-- and a split before a `/` stays there
pub slash-step : (later : List Piece) (t : List ℕ) → some_split (fits (Slash ∷ later)) (47 ∷ t) ≡ true → fits later t ≡ true
slash-step later t h =
    elim (split-cases (fits (Slash ∷ later)) 47 t h) [
      | inl here ↦ here
      | inr other ↦ absurd (cc)
    ]

pub star-step : (later : List Piece) (t : List ℕ) → some_split (fits (Run ∷ later)) t ≡ true → some_split (fits later) t ≡ true
star-step later t h = split-again (fits later) t (split-each (fits (Run ∷ later)) (λ u. some_split (fits later) u) (λ u fit. fit) t h)

-- what fits from the start of a part on fits from its end on, with no `/` between
pub stop-split : (ps : List Piece) (t : List ℕ) → fits ps t ≡ true → some_split (fits (from_stop ps)) t ≡ true
stop-split [] t h = split-here (fits []) t h
stop-split (Slash ∷ ps) t h = split-here (fits (Slash ∷ ps)) t h
stop-split (Folders ∷ ps) t h = split-here (fits (Folders ∷ ps)) t h
stop-split (Rest ∷ ps) t h = split-here (fits (Rest ∷ ps)) t h
stop-split (Never ∷ ps) t h = absurd (cc)
stop-split (One p ∷ ps) [] h = absurd (cc)
stop-split (One p ∷ ps) (b ∷ t) h =
    let parts = one-parts p ps b t h in split-on (fits (from_stop ps)) b t parts.0 (stop-split ps t parts.1)
stop-split (Run ∷ ps) t h =
    split-again (fits (from_stop ps)) t (split-each (fits ps) (λ u. some_split (fits (from_stop ps)) u) (λ u fit. stop-split ps u fit) t h)

-- after a folder: here, or later
pub folder-cases : (f : List ℕ → Bool) (b : ℕ) (t : List ℕ) → some_folder f (b ∷ t) ≡ true → ((is_slash b ≡ true) × (f t ≡ true)) ⊎ (some_folder f t ≡ true)
folder-cases f b t h =
    elim (or_cases (is_slash b && f t) (some_folder f t) h) [
      | inl here ↦ inl (and_parts (is_slash b) (f t) here)
      | inr later ↦ inr later
    ]

folder-here : (f : List ℕ → Bool) (b : ℕ) (t : List ℕ) → is_slash b ≡ true → f t ≡ true → some_folder f (b ∷ t) ≡ true
folder-here f b t slash h = or_left (is_slash b && f t) (some_folder f t) (and_from (is_slash b) (f t) slash h)

folder-on : (f : List ℕ → Bool) (b : ℕ) (t : List ℕ) → some_folder f t ≡ true → some_folder f (b ∷ t) ≡ true
folder-on f b t h = or_right (is_slash b && f t) (some_folder f t) h

pub folder-each : (f g : List ℕ → Bool) → ((t : List ℕ) → f t ≡ true → g t ≡ true) → (t : List ℕ) → some_folder f t ≡ true → some_folder g t ≡ true
folder-each f g each [] h = h
folder-each f g each (b ∷ t) h =
    elim (folder-cases f b t h) [
      | inl here ↦ folder-here g b t here.0 (each t here.1)
      | inr later ↦ folder-on g b t (folder-each f g each t later)
    ]

pub folder-again : (f : List ℕ → Bool) (t : List ℕ) → some_folder (λ u. some_folder f u) t ≡ true → some_folder f t ≡ true
folder-again f [] h = h
folder-again f (b ∷ t) h =
    elim (folder-cases (λ u. some_folder f u) b t h) [
      | inl here ↦ folder-on f b t here.1
      | inr later ↦ folder-on f b t (folder-again f t later)
    ]

-- `**/` after `**/` says no more
pub folder-opens : (later : List Piece) (t : List ℕ) → some_folder (fits (Folders ∷ later)) t ≡ true → some_folder (fits later) t ≡ true
folder-opens later [] h = h
folder-opens later (b ∷ t) h =
    elim (folder-cases (fits (Folders ∷ later)) b t h) [
      | inl here ↦ elim (or_cases (fits later t) (some_folder (fits later) t) here.1) [
        | inl fit ↦ folder-here (fits later) b t here.0 fit
        | inr fit ↦ folder-on (fits later) b t fit
      ]
      | inr other ↦ folder-on (fits later) b t (folder-opens later t other)
    ]

-- a split up to a `/` is a folder
pub folder-split : (later : List Piece) (t : List ℕ) → some_split (fits (Slash ∷ later)) t ≡ true → some_folder (fits later) t ≡ true
folder-split later [] h = absurd (cc)
folder-split later (b ∷ t) h =
    elim (split-cases (fits (Slash ∷ later)) b t h) [
      | inl here ↦ or_left (is_slash b && fits later t) (some_folder (fits later) t) here
      | inr other ↦ folder-on (fits later) b t (folder-split later t other.1)
    ]

-- the bytes before the first `/` end no folder
folder-from_at : (c : Bool) (f : List ℕ → Bool) (b : ℕ) (t u : List ℕ) → is_slash b ≡ c → some_folder f t ≡ some_folder f u → some_folder f (b ∷ t) ≡ some_folder f (cond c (b ∷ t) u)
folder-from_at true f b t u is h = refl
folder-from_at false f b t u is h = rw is h

pub folder-from : (f : List ℕ → Bool) (t : List ℕ) → some_folder f t ≡ some_folder f (from_slash t)
folder-from f [] = refl
folder-from f (b ∷ t) = folder-from_at (is_slash b) f b t (from_slash t) refl (folder-from f t)
