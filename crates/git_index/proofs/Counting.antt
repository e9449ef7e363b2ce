-- A number in bytes of seven bits, read byte by byte up to the largest number that is held.
use Rattle.std.proofs.Common.{◌≡◌, ℕ, ◌+◌, ◌-◌, ◌*◌, ◌^◌, ◌<◌, ◌≤◌, min, List, [], ◌∷◌, Option, Some, None, refl, sym, ap, ◌∙◌, arith}
use Rattle.std.proofs.lemmas.Bool.{lt-ltb, le-ltb}
use Rattle.git_index.specs.Reading.{count_at}

-- what holds before each byte: what is carried into it, exactly or as the largest number
pub record IsCounting (carry : ℕ) (rest : List ℕ) (total : Option (ℕ × List ℕ)) : Type 0 where
  pub exact : ℕ
  pub capped : carry ≡ min exact (2 ^ 64 - 1)
  pub same : count_at exact rest ≡ total

pub begins : (bytes : List ℕ) → IsCounting 0 bytes (count_at 0 bytes)
begins bytes = record { exact = 0; capped = omega arith; same = refl }

last_byte : (exact b : ℕ) (after : List ℕ) → b < 128 → count_at exact (b ∷ after) ≡ Some (exact * 128 + b, after)
last_byte exact b after lt = rw (lt-ltb b 128 lt) refl

next_byte : (exact b : ℕ) (after : List ℕ) → 128 ≤ b → count_at exact (b ∷ after) ≡ count_at (exact * 128 + (b - 128) + 1) after
next_byte exact b after le = rw (le-ltb b 128 le) refl

pub ends : (carry b shifted value : ℕ) (rest after : List ℕ) (total : Option (ℕ × List ℕ)) → IsCounting carry rest total → rest ≡ b ∷ after → b < 128 → shifted ≡ min (carry * 128) (2 ^ 64 - 1) → value ≡ min (shifted + b) (2 ^ 64 - 1)
    → (n : ℕ) × (total ≡ Some (n, after)) × (value ≡ min n (2 ^ 64 - 1))
ends carry b shifted value rest after total so_far parts lt shift add =
    let e : ℕ = so_far.exact in
    let capped : carry ≡ min e (2 ^ 64 - 1) = so_far.capped in
    (e * 128 + b, sym so_far.same ∙ ap (count_at e) parts ∙ last_byte e b after lt, omega arith)

pub goes_on : (carry b shifted next : ℕ) (rest after : List ℕ) (total : Option (ℕ × List ℕ)) → IsCounting carry rest total → rest ≡ b ∷ after → 128 ≤ b → shifted ≡ min (carry * 128) (2 ^ 64 - 1) → next ≡ min (shifted + (b - 127)) (2 ^ 64 - 1) → IsCounting next after total
goes_on carry b shifted next rest after total so_far parts le shift add =
    let e : ℕ = so_far.exact in
    let capped : carry ≡ min e (2 ^ 64 - 1) = so_far.capped in
    record {
      exact = e * 128 + (b - 128) + 1;
      capped = omega arith;
      same = sym (next_byte e b after le) ∙ ap (count_at e) (sym parts) ∙ so_far.same;
    }

pub is_over : (carry : ℕ) (rest : List ℕ) (total : Option (ℕ × List ℕ)) → IsCounting carry rest total → rest ≡ [] → total ≡ None
is_over carry rest total so_far none = sym so_far.same ∙ ap (count_at so_far.exact) none
