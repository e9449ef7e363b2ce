-- Lines as they are written, read again.
use Rattle.std.proofs.Common.{◌≡◌, ℕ, ◌+◌, ◌-◌, ◌<◌, Bool, true, false, List, [], ◌∷◌, ◌++◌, length}
use Rattle.std.proofs.Common.{take, drop, Option, Some, None, refl, ap, ◌∙◌, arith}
use Rattle.std.proofs.Math.Seq.{drop-append-add}
use Rattle.std.specs.Prelude.{codes, position, ◌==◌, nat_lt, nat_eq, if◌then◌else◌}
use Rattle.std.specs.Cmp.Lexicographic.{pointwise}
use Rattle.std.specs.List.{ends_with}
use Rattle.std.proofs.lemmas.Grind.{common_steps}
use Rattle.filter_words.specs.Words.{without_lf, value_of, key_and_value, cut_at, value_with}

drop_all : (text more : List ℕ) → drop (length text) (text ++ more) ≡ more
drop_all [] more = refl
drop_all (b ∷ bs) more = drop_all bs more

take_all : (text more : List ℕ) → take (length text) (text ++ more) ≡ text
take_all [] more = refl
take_all (b ∷ bs) more = ap (λ (z : List ℕ). b ∷ z) (take_all bs more)

one_less : (text : List ℕ) → length (text ++ 10 ∷ []) - 1 ≡ length text
one_less text = grind (arith, common_steps)

-- the one LF goes
pub lf_goes : (text : List ℕ) → without_lf (text ++ 10 ∷ []) ≡ text
lf_goes text = rw (one_less text, drop_all text (10 ∷ []), take_all text (10 ∷ [])) refl

abbrev pub raw : List ℕ → List ℕ
raw path = (codes "pathname=" ++ path) ++ 10 ∷ []

longer : (path : List ℕ) → nat_lt 8 (length (codes "pathname=" ++ path)) ≡ true
longer path = grind (arith, common_steps)

at_equals : (path : List ℕ) → position (λ b. b == 61) (codes "pathname=" ++ path) ≡ Some 8
at_equals path = rw (longer path) refl

keyed : (path : List ℕ) → key_and_value (raw path) ≡ Some (codes "pathname", path)
keyed path =
    ap (λ (z : List ℕ). cut_at (position (λ b. b == 61) z) z) (lf_goes (codes "pathname=" ++ path))
    ∙ ap (λ (o : Option ℕ). cut_at o (codes "pathname=" ++ path)) (at_equals path)

pub named : (path : List ℕ) → value_of (codes "pathname") (raw path) ≡ Some path
named path = ap (λ (o : Option (List ℕ × List ℕ)). value_with (codes "pathname") o) (keyed path)

-- the last byte of a line is that of its path
last_of : (path : List ℕ) → 0 < length path
    → drop (length (codes "pathname=" ++ path) - 1) (codes "pathname=" ++ path) ≡ drop (length path - 1) path
last_of path some =
    let k : length (codes "pathname=" ++ path) - 1 ≡ length (codes "pathname=") + (length path - 1) =
    grind (arith, common_steps, some) in
    ap (λ (n : ℕ). drop n (codes "pathname=" ++ path)) k ∙ drop-append-add (codes "pathname=") path (length path - 1)

-- a line without an LF stays
no_lf : (path : List ℕ) → 0 < length path → ends_with nat_eq path (10 ∷ []) ≡ false
    → without_lf (codes "pathname=" ++ path) ≡ codes "pathname=" ++ path
no_lf path some ends =
    let text = codes "pathname=" ++ path in
    ap (λ (z : List ℕ). if pointwise nat_eq (10 ∷ []) z then take (length text - 1) text else text) (last_of path some)
    ∙ ap (λ (b : Bool). if b then take (length text - 1) text else text) ends

pub named_whole : (path : List ℕ) → 0 < length path → ends_with nat_eq path (10 ∷ []) ≡ false
    → value_of (codes "pathname") (codes "pathname=" ++ path) ≡ Some path
named_whole path some ends =
    ap (λ (o : Option (List ℕ × List ℕ)). value_with (codes "pathname") o)
    (ap (λ (z : List ℕ). cut_at (position (λ b. b == 61) z) z) (no_lf path some ends)
    ∙ ap (λ (o : Option ℕ). cut_at o (codes "pathname=" ++ path)) (at_equals path))

pub no_command : (path : List ℕ) → value_of (codes "command") (raw path) ≡ None
no_command path = ap (λ (o : Option (List ℕ × List ℕ)). value_with (codes "command") o) (keyed path)

pub no_can_delay : (path : List ℕ) → value_of (codes "can-delay") (raw path) ≡ None
no_can_delay path = ap (λ (o : Option (List ℕ × List ℕ)). value_with (codes "can-delay") o) (keyed path)

abbrev pub raw_blob : List ℕ → List ℕ
raw_blob digits = (codes "blob=" ++ digits) ++ 10 ∷ []

longer_blob : (digits : List ℕ) → nat_lt 4 (length (codes "blob=" ++ digits)) ≡ true
longer_blob digits = grind (arith, common_steps)

at_equals_blob : (digits : List ℕ) → position (λ b. b == 61) (codes "blob=" ++ digits) ≡ Some 4
at_equals_blob digits = rw (longer_blob digits) refl

keyed_blob : (digits : List ℕ) → key_and_value (raw_blob digits) ≡ Some (codes "blob", digits)
keyed_blob digits =
    ap (λ (z : List ℕ). cut_at (position (λ b. b == 61) z) z) (lf_goes (codes "blob=" ++ digits))
    ∙ ap (λ (o : Option ℕ). cut_at o (codes "blob=" ++ digits)) (at_equals_blob digits)

-- the name of a blob is no key of a host
pub blob_no_command : (digits : List ℕ) → value_of (codes "command") (raw_blob digits) ≡ None
blob_no_command digits = ap (λ (o : Option (List ℕ × List ℕ)). value_with (codes "command") o) (keyed_blob digits)

pub blob_no_path : (digits : List ℕ) → value_of (codes "pathname") (raw_blob digits) ≡ None
blob_no_path digits = ap (λ (o : Option (List ℕ × List ℕ)). value_with (codes "pathname") o) (keyed_blob digits)

pub blob_no_can_delay : (digits : List ℕ) → value_of (codes "can-delay") (raw_blob digits) ≡ None
blob_no_can_delay digits = ap (λ (o : Option (List ℕ × List ℕ)). value_with (codes "can-delay") o) (keyed_blob digits)
