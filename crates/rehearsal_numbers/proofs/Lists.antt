-- What `alpha` lists, as an exchange reads it.
use Rattle.std.proofs.Common.{◌≡◌, ℕ, ◌+◌, ◌-◌, ◌*◌, ◌≤◌, Bool, true, false, ◌||◌, List, [], ◌∷◌, ◌++◌, map, length, append_assoc, Some, refl, sym, ap, ◌∙◌, arith}
use Rattle.std.specs.Prelude.{codes, nat_lt}
use Rattle.std.specs.List.{AllByRecursion}
use Rattle.std.specs.Str.{bytes_eq}
use Rattle.std.proofs.lemmas.List.{append-nil}
use Rattle.std.proofs.lemmas.Bool.{le-ltb, true≢false}
use Rattle.pkt_line.specs.Packets.{Packet, Flush}
use Rattle.filter_words.specs.Outcomes.{outcome}
use Rattle.filter_words.specs.Words.{value_of}
use Rattle.filter_words.specs.Listing.{Names, Listed, list_step, name_in, after_name}
use Rattle.filter_words.specs.declared.answer_state.AnswerState.TheVariants.{On, Done}
use Rattle.rehearsal.specs.Paths.{name}
use Rattle.rehearsal.specs.Drivers.{status, pathname}

value_is : (seed i : ℕ) → value_of (codes "pathname") (codes "pathname=" ++ name seed i ++ 10 ∷ []) ≡ Some (name seed i)
value_is seed i = refl

name_in_more : (xs : List (List ℕ)) (y z : List ℕ) → name_in xs z ≡ false → bytes_eq y z ≡ false
    → name_in (xs ++ y ∷ []) z ≡ false
name_in_more [] y z h e = ap (λ (t : Bool). t || false) e
name_in_more (x ∷ xs) y z h e = by (bytes_eq x z) h (name_in_more xs y z)
  where
    by : (t : Bool) → (t || name_in xs z) ≡ false → (name_in xs z ≡ false → bytes_eq y z ≡ false → name_in (xs ++ y ∷ []) z ≡ false)
        → (t || name_in (xs ++ y ∷ []) z) ≡ false
    by true k f = absurd (true≢false k)
    by false k f = f k e

abbrev ends : List Packet
ends = Flush ∷ status (codes "success")

ends_list : (delayed listed : List (List ℕ)) (room : ℕ) → 100 ≤ room
    → outcome (list_step delayed) room (On (Names listed)) ends ≡ Done (Listed listed)
ends_list delayed listed room h =
    let a : nat_lt room 4 ≡ false = le-ltb room 4 (omega (arith, h)) in
    let b : nat_lt (room - 4) 19 ≡ false = le-ltb (room - 4) 19 (omega (arith, h)) in
    let c : nat_lt (room - 4 - 19) 4 ≡ false = le-ltb (room - 4 - 19) 4 (omega (arith, h)) in
    rw (a, b, c) refl

-- names that differ from those before them
abbrev pub Differ : ℕ → List ℕ → Type 0
Differ seed [] = Unit {0}
Differ seed (i ∷ is) = AllByRecursion (λ j. bytes_eq (name seed i) (name seed j) ≡ false) is × Differ seed is

module _ (seed : ℕ) (delayed : List (List ℕ)) where
  more_listed : (listed : List (List ℕ)) (i : ℕ) (is : List ℕ)
      → AllByRecursion (λ j. name_in listed (name seed j) ≡ false) is
      → AllByRecursion (λ j. bytes_eq (name seed i) (name seed j) ≡ false) is
      → AllByRecursion (λ j. name_in (listed ++ name seed i ∷ []) (name seed j) ≡ false) is
  more_listed listed i [] a b = tt
  more_listed listed i (j ∷ js) a b =
      (name_in_more listed (name seed i) (name seed j) a.0 b.0, more_listed listed i js a.1 b.1)

  one_name : (listed : List (List ℕ)) (room i : ℕ) (ps : List Packet) → 27 ≤ room → name_in delayed (name seed i) ≡ true
      → name_in listed (name seed i) ≡ false
      → outcome (list_step delayed) room (On (Names listed)) (pathname seed i ∷ ps)
      ≡ outcome (list_step delayed) (room - 27) (On (Names (listed ++ name seed i ∷ []))) ps
  one_name listed room i ps h is other =
      let a : nat_lt room 27 ≡ false = le-ltb room 27 (omega (arith, h)) in
      let b : after_name delayed listed (name seed i) ≡ On (Names (listed ++ name seed i ∷ [])) = rw (is, other) refl in
      rw a (ap (λ s. outcome (list_step delayed) (room - 27) s ps) b)

  pub lists : (listed : List (List ℕ)) (room : ℕ) (is : List ℕ)
      → AllByRecursion (λ i. name_in delayed (name seed i) ≡ true) is
      → AllByRecursion (λ i. name_in listed (name seed i) ≡ false) is
      → Differ seed is → 27 * length is + 100 ≤ room
      → outcome (list_step delayed) room (On (Names listed)) (map (pathname seed) is ++ ends)
      ≡ Done (Listed (listed ++ map (name seed) is))
  lists listed room [] a b d h =
      ends_list delayed listed room (omega (arith, h)) ∙ ap (λ (l : List (List ℕ)). Done (Listed l)) (sym (append-nil listed))
  lists listed room (i ∷ is) a b d h =
      one_name listed room i (map (pathname seed) is ++ ends) (omega (arith, h)) a.0 b.0
      ∙ lists (listed ++ name seed i ∷ []) (room - 27) is a.1 (more_listed listed i is b.1 d.0) d.1 (omega (arith, h))
      ∙ ap (λ (l : List (List ℕ)). Done (Listed l)) (append_assoc listed (name seed i ∷ []) (map (name seed) is))
