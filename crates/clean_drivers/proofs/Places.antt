-- One place of a list of lines changes.
use Rattle.std.proofs.Common.{◌≡◌, ℕ, zero, suc, ◌+◌, ◌<◌, ◌≤◌, List, [], ◌∷◌, length, get_or, replicate, Option, Some, None, refl, sym, ap, subst, arith}
use Rattle.std.specs.Prelude.{slice_get, slice_set}
use Rattle.edge_kit.specs.Starters.{Starts, SpawnerSeen}
use Rattle.clean_drivers.specs.CleanLines.{CleanLineView, starts_of}
use Rattle.clean_drivers.specs.Drivers.{HasLine, out_of, lines_out}

abbrev Lines : Type 0
Lines = List (Option CleanLineView)

pub found_at : (xs : Lines) (p : ℕ) (d x : Option CleanLineView) → p < length xs → x ≡ get_or xs p d → slice_get xs p ≡ Some x
found_at [] p d x lt is = absurd (omega arith)
found_at (y ∷ xs) zero d x lt is = ap Some (sym is)
found_at (y ∷ xs) (suc p) d x lt is = found_at xs p d x (omega arith) is

pub set_twice : (xs : Lines) (p : ℕ) (x y : Option CleanLineView) → slice_set (slice_set xs p x) p y ≡ slice_set xs p y
set_twice [] p x y = refl
set_twice (z ∷ xs) zero x y = refl
set_twice (z ∷ xs) (suc p) x y = ap (λ (l : Lines). z ∷ l) (set_twice xs p x y)

pub set_same : (xs : Lines) (p : ℕ) (x : Option CleanLineView) → slice_get xs p ≡ Some x → slice_set xs p x ≡ xs
set_same [] p x at = absurd (cc at)
set_same (y ∷ xs) zero x at = let same : x ≡ y = cc at in ap (λ (z : Option CleanLineView). z ∷ xs) same
set_same (y ∷ xs) (suc p) x at = ap (λ (l : Lines). y ∷ l) (set_same xs p x at)

pub out_set : (xs : Lines) (p : ℕ) (x y : Option CleanLineView) → slice_get xs p ≡ Some y
    → lines_out (slice_set xs p x) + out_of y ≡ lines_out xs + out_of x
out_set [] p x y at = absurd (cc at)
out_set (z ∷ xs) zero x y at = let same : z ≡ y = cc at in let e : out_of z ≡ out_of y = ap out_of same in omega arith
out_set (z ∷ xs) (suc p) x y at = let e = out_set xs p x y at in omega arith

-- each line has had at most so many starts
abbrev pub HaveStarts : Lines → ℕ → Type 0
HaveStarts xs asked = (place : ℕ) (line : CleanLineView) → slice_get xs place ≡ Some (Some line) → starts_of line ≤ asked

last_is : (a b : CleanLineView) → Some (Some a) ≡ Some (Some b) → a ≡ b
last_is a b is = cc is

pub starts_set : (xs : Lines) (p asked : ℕ) (last : CleanLineView) → HaveStarts xs asked → starts_of last ≤ asked + 1
    → HaveStarts (slice_set xs p (Some last)) (asked + 1)
starts_set [] p asked last has more q line at = absurd (cc at)
starts_set (x ∷ xs) zero asked last has more zero line at =
    subst (λ (l : CleanLineView). starts_of l ≤ asked + 1) (last_is last line at) more
starts_set (x ∷ xs) zero asked last has more (suc q) line at = let e = has (suc q) line at in omega arith
starts_set (x ∷ xs) (suc p) asked last has more zero line at = let e = has zero line at in omega arith
starts_set (x ∷ xs) (suc p) asked last has more (suc q) line at =
    starts_set xs p asked last (λ r l here. has (suc r) l here) more q line at

pub no_line : (n : ℕ) → HaveStarts (replicate n None) 0
no_line zero place line at = absurd (cc at)
no_line (suc n) zero line at = absurd (cc at)
no_line (suc n) (suc place) line at = no_line n place line at

-- the line of a driver that is asked has had no more starts than there were paths
pub line_few : (starts : List ℕ → Starts) (command : List ℕ) (found : Option CleanLineView) (old new : SpawnerSeen)
    (line : CleanLineView) (asked : ℕ) → HasLine starts command found old new line
    → ((l : CleanLineView) → found ≡ Some l → starts_of l ≤ asked) → starts_of line ≤ asked
line_few starts command None old new line asked has known =
    let none : starts_of line ≡ 0 = ap starts_of has.1 in omega (arith, none)
line_few starts command (Some l) old new line asked has known =
    subst (λ (x : CleanLineView). starts_of x ≤ asked) (sym has.1) (known l refl)

-- a starter is out for each line
pub line_out : (starts : List ℕ → Starts) (command : List ℕ) (found : Option CleanLineView) (old new : SpawnerSeen)
    (line last : CleanLineView) (xs : Lines) (p : ℕ) → HasLine starts command found old new line → slice_get xs p ≡ Some found
    → new.out + lines_out xs ≡ old.out + lines_out (slice_set xs p (Some last))
line_out starts command None old new line last xs p has at =
    let a : new.out ≡ old.out + 1 = ap (λ (s : SpawnerSeen). s.out) has.0 in
    let b = out_set xs p (Some last) None at in omega (arith, a, b)
line_out starts command (Some l) old new line last xs p has at =
    let a : new.out ≡ old.out = ap (λ (s : SpawnerSeen). s.out) has.0 in
    let b = out_set xs p (Some last) (Some l) at in omega (arith, a, b)
