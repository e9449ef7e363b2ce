-- Rows that are written one by one.
use Rattle.std.proofs.Common.{◌≡◌, ℕ, zero, suc, ◌+◌, ◌≤◌, List, [], ◌∷◌, ◌++◌, length, take, Option, Some, None, Err, refl, sym, ap, ◌∙◌, append_assoc, append-nil, arith, subst, slice_get, unwrap_or}
use Rattle.std.proofs.Math.Seq.{take-append-add}
use Rattle.std.proofs.lemmas.List.{take-append-le, length-append}
use Rattle.std.proofs.lemmas.Option.{slice_get_within}
use Rattle.edge_kit.specs.Faults.{Rose}
use Rattle.edge_kit.specs.Files.{grown}
use Rattle.edge_kit.specs.Seen.{SinkSeen, Writes}
use Rattle.edge_kit.specs.declared.faults.SendFault.{SendFault}
use Rattle.edge_kit.specs.declared.faults.SendFault.TheVariants as send
use Rattle.reports.specs.Written.{joined, WritesRows}

first_is : (r row : List ℕ) → Some r ≡ Some row → r ≡ row
first_is r row is = ap (λ (o : Option (List ℕ)). unwrap_or o r) is

joined_suc : (r : List ℕ) (rows : List (List ℕ)) (n k : ℕ) → n ≡ suc k → joined (take n (r ∷ rows)) ≡ r ++ joined (take k rows)
joined_suc r rows n k e = ap (λ (m : ℕ). joined (take m (r ∷ rows))) e

-- one more row behind the first ones
pub joined_more : (rows : List (List ℕ)) (k : ℕ) (row : List ℕ) → slice_get rows k ≡ Some row
    → joined (take (k + 1) rows) ≡ joined (take k rows) ++ row
joined_more [] k row is = absurd (cc)
joined_more (r ∷ rows) zero row is = joined_suc r rows (0 + 1) 0 (omega arith) ∙ append-nil r ∙ first_is r row is
joined_more (r ∷ rows) (suc k) row is =
    joined_suc r rows (suc k + 1) (k + 1) (omega arith)
    ∙ ap (λ (rest : List ℕ). r ++ rest) (joined_more rows k row is) ∙ sym (append_assoc r (joined (take k rows)) row)

-- the rows are the first ones, this one and the others
pub split_at : (rows : List (List ℕ)) (k : ℕ) (row : List ℕ) → slice_get rows k ≡ Some row
    → (rest : List ℕ) × (joined rows ≡ joined (take k rows) ++ (row ++ rest))
split_at [] k row is = absurd (cc)
split_at (r ∷ rows) zero row is = (joined rows, ap (λ (first : List ℕ). first ++ joined rows) (first_is r row is))
split_at (r ∷ rows) (suc k) row is =
    let rest = split_at rows k row is in
    (rest.0, ap (λ (text : List ℕ). r ++ text) rest.1 ∙ sym (append_assoc r (joined (take k rows)) (row ++ rest.0)))

-- a first part that reaches into the second piece
pub take_into : (front row rest : List ℕ) (n : ℕ) → n ≤ length row
    → take (length front + n) (front ++ (row ++ rest)) ≡ front ++ take n row
take_into front row rest n few =
    take-append-add front (row ++ rest) n ∙ ap (λ (part : List ℕ). front ++ part) (take-append-le n row rest few)

-- and that ends within it
pub ends_within : (front row rest whole : List ℕ) (n : ℕ) → whole ≡ front ++ (row ++ rest) → n ≤ length row
    → length front + n ≤ length whole
ends_within front row rest whole n is few =
    let long = ap length is ∙ length-append front (row ++ rest) ∙ ap (λ (m : ℕ). length front + m) (length-append row rest) in
    omega (arith, long, few)

pub grown-grown : (told : Option (List ℕ)) (xs ys : List ℕ) → grown (grown told xs) ys ≡ grown told (xs ++ ys)
grown-grown None xs ys = refl
grown-grown (Some w) xs ys = ap Some (append_assoc w xs ys)

abbrev pub with : List ℕ → SinkSeen → SinkSeen
with text old = record old { written = grown old.written text }

-- one more row is written
pub row_on : (old mid new : SinkSeen) (rows : List (List ℕ)) (k : ℕ) (row : List ℕ) → slice_get rows k ≡ Some row
    → mid ≡ with (joined (take k rows)) old → new ≡ with row mid → new ≡ with (joined (take (k + 1) rows)) old
row_on old mid new rows k row is before next =
    next ∙ ap (with row) before
    ∙ ap (λ (told : Option (List ℕ)). record old { written = told })
    (grown-grown old.written (joined (take k rows)) row ∙ ap (grown old.written) (sym (joined_more rows k row is)))

-- the write of a row fails behind the first ones
pub row_cut : (T : Type 0) (old mid new : SinkSeen) (rows : List (List ℕ)) (k : ℕ) (row : List ℕ) (fault : SendFault)
    → slice_get rows k ≡ Some row → mid ≡ with (joined (take k rows)) old
    → Writes {T = T} row mid new (Err fault) → WritesRows {T = T} rows old new (Err fault)
row_cut T old mid new rows k row send.Failed is before cut =
    let front = joined (take k rows) in
    let rest = split_at rows k row is in
    let part : take (length front + cut.taken) (joined rows) ≡ front ++ take cut.taken row =
    ap (take (length front + cut.taken)) rest.1 ∙ take_into front row rest.0 cut.taken cut.within in
    record {
      taken = length front + cut.taken;
      within = ends_within front row rest.0 (joined rows) cut.taken rest.1 cut.within;
      cut = cut.cut ∙ ap (λ (told : Option (List ℕ)). record old { written = told; faults = new.faults })
          (ap (λ (m : SinkSeen). grown m.written (take cut.taken row)) before
          ∙ grown-grown old.written front (take cut.taken row)
          ∙ ap (grown old.written) (sym part));
      rose = subst (λ (n : ℕ). Rose n new.faults) (ap (λ (m : SinkSeen). m.faults) before) cut.rose;
    }
row_cut T old mid new rows k row send.NoMemory is before same =
    record { taken = k; within = omega (arith, slice_get_within rows k row is); part = same ∙ before }
