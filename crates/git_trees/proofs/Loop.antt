-- Reading entries one after the other, as a loop does.
use Rattle.std.proofs.Common.{◌≡◌, true, ℕ, zero, suc, ◌-◌, ◌+◌, ◌≤◌, ◌<◌, List, [], ◌∷◌, ◌++◌, length, Result, Ok, Err, refl, sym, ap, ◌∙◌, arith}
use Rattle.std.proofs.lemmas.List.{length-append, nil_from_length}
use Rattle.git_trees.specs.declared.fault.TreeFault.{TreeFault}
use Rattle.git_trees.specs.declared.fault.TreeFault.TheVariants.{Count, NoMemory}
use Rattle.git_trees.specs.declared.entry.TreeEntry.{TreeEntry}
use Rattle.git_trees.specs.Format.{pairwise, is_below}
use Rattle.git_trees.specs.Reading.{entry_at, placed_at, entries_at}
use Rattle.git_trees.proofs.Ordered.{rising_more}

-- what holds before each entry: those that are read, and what is still to be read
pub record IsReading (limit k : ℕ) (earlier : List TreeEntry) (rest : List ℕ) (total : Result (List TreeEntry) TreeFault) : Type 0 where
  pub number : length earlier ≡ k
  pub rising : pairwise is_below earlier ≡ true
  pub same : entries_at (limit - k) earlier rest ≡ total

pub begins : (limit : ℕ) (bytes : List ℕ) → IsReading limit 0 [] bytes (entries_at limit [] bytes)
begins limit bytes = record { number = refl; rising = refl; same = ap (λ (n : ℕ). entries_at n [] bytes) (omega arith) }

pub one_more : (n : ℕ) (earlier : List TreeEntry) (rest after : List ℕ) (e : TreeEntry) → 0 < length rest → entry_at (length earlier) rest ≡ Ok (e, after) → placed_at earlier e ≡ Ok e
    → entries_at (suc n) earlier rest ≡ entries_at n (earlier ++ e ∷ []) after
unfolding entries_at
one_more n earlier [] after e some read placed = absurd (omega arith)
one_more n earlier (b ∷ rest) after e some read placed = rw (read, placed) refl

no_entry : (n : ℕ) (earlier : List TreeEntry) (rest : List ℕ) (f : TreeFault) → 0 < length rest → entry_at (length earlier) rest ≡ Err f → entries_at (suc n) earlier rest ≡ Err f
unfolding entries_at
no_entry n earlier [] f some read = absurd (omega arith)
no_entry n earlier (b ∷ rest) f some read = rw read refl

no_place : (n : ℕ) (earlier : List TreeEntry) (rest after : List ℕ) (e : TreeEntry) (f : TreeFault) → 0 < length rest → entry_at (length earlier) rest ≡ Ok (e, after) → placed_at earlier e ≡ Err f → entries_at (suc n) earlier rest ≡ Err f
unfolding entries_at
no_place n earlier [] after e f some read placed = absurd (omega arith)
no_place n earlier (b ∷ rest) after e f some read placed = rw (read, placed) refl

pub at_end : (n : ℕ) (earlier : List TreeEntry) → entries_at n earlier [] ≡ Ok earlier
unfolding entries_at
at_end zero earlier = refl
at_end (suc n) earlier = refl

too_many : (earlier : List TreeEntry) (rest : List ℕ) → 0 < length rest → entries_at 0 earlier rest ≡ Err (Count (length earlier))
unfolding entries_at
too_many earlier [] some = absurd (omega arith)
too_many earlier (b ∷ rest) some = refl

next_left : (limit k : ℕ) (earlier : List TreeEntry) (rest : List ℕ) → k < limit → entries_at (limit - k) earlier rest ≡ entries_at (suc (limit - (k + 1))) earlier rest
next_left limit k earlier rest less = let step : limit - k ≡ suc (limit - (k + 1)) = omega arith in ap (λ (n : ℕ). entries_at n earlier rest) step

pub goes_on : (limit k : ℕ) (earlier newer : List TreeEntry) (rest after : List ℕ) (e : TreeEntry) (total : Result (List TreeEntry) TreeFault) → k < limit → IsReading limit k earlier rest total → 0 < length rest
    → entry_at k rest ≡ Ok (e, after) → placed_at earlier e ≡ Ok e → newer ≡ earlier ++ e ∷ [] → IsReading limit (k + 1) newer after total
goes_on limit k earlier newer rest after e total less so_far some read placed grown =
    let here : entry_at (length earlier) rest ≡ Ok (e, after) = ap (λ (n : ℕ). entry_at n rest) so_far.number ∙ read in
    record {
      number = ap (length {A = TreeEntry}) grown ∙ omega (arith, length-append earlier (e ∷ []), so_far.number);
      rising = ap (pairwise is_below) grown ∙ rising_more earlier e so_far.rising placed;
      same = ap (λ (es : List TreeEntry). entries_at (limit - (k + 1)) es after) grown
          ∙ sym (one_more (limit - (k + 1)) earlier rest after e some here placed)
          ∙ sym (next_left limit k earlier rest less) ∙ so_far.same;
    }

pub fails_reading : (limit k : ℕ) (earlier : List TreeEntry) (rest : List ℕ) (f : TreeFault) (total : Result (List TreeEntry) TreeFault) → k < limit → IsReading limit k earlier rest total → 0 < length rest → entry_at k rest ≡ Err f → total ≡ Err f
fails_reading limit k earlier rest f total less so_far some read =
    let here : entry_at (length earlier) rest ≡ Err f = ap (λ (n : ℕ). entry_at n rest) so_far.number ∙ read in
    sym so_far.same ∙ next_left limit k earlier rest less ∙ no_entry (limit - (k + 1)) earlier rest f some here

pub fails_placing : (limit k : ℕ) (earlier : List TreeEntry) (rest after : List ℕ) (e : TreeEntry) (f : TreeFault) (total : Result (List TreeEntry) TreeFault) → k < limit → IsReading limit k earlier rest total → 0 < length rest
    → entry_at k rest ≡ Ok (e, after) → ((f ≡ NoMemory → ⊥) → placed_at earlier e ≡ Err f) → (f ≡ NoMemory → ⊥) → total ≡ Err f
fails_placing limit k earlier rest after e f total less so_far some read placed other =
    let here : entry_at (length earlier) rest ≡ Ok (e, after) = ap (λ (n : ℕ). entry_at n rest) so_far.number ∙ read in
    sym so_far.same ∙ next_left limit k earlier rest less ∙ no_place (limit - (k + 1)) earlier rest after e f some here (placed other)

pub is_done : (limit k : ℕ) (earlier : List TreeEntry) (rest : List ℕ) (total : Result (List TreeEntry) TreeFault) → IsReading limit k earlier rest total → length rest ≡ 0 → total ≡ Ok earlier
is_done limit k earlier rest total so_far none =
    sym so_far.same ∙ ap (entries_at (limit - k) earlier) (nil_from_length rest none) ∙ at_end (limit - k) earlier

pub is_over : (limit k : ℕ) (earlier : List TreeEntry) (rest : List ℕ) (total : Result (List TreeEntry) TreeFault) → limit ≤ k → k ≤ limit → IsReading limit k earlier rest total → 0 < length rest → total ≡ Err (Count limit)
is_over limit k earlier rest total more most so_far some =
    let none : limit - k ≡ 0 = omega arith in
    let number : length earlier ≡ limit = omega (arith, so_far.number) in
    sym so_far.same ∙ ap (λ (n : ℕ). entries_at n earlier rest) none ∙ too_many earlier rest some ∙ ap (λ (n : ℕ). Err (Count n)) number
