-- Where a text stops being a front, one line after another.
use Rattle.std.proofs.Common.{◌≡◌, ℕ, suc, true, List, [], ◌∷◌, ◌++◌, sym, ◌∙◌, ap, subst, append_assoc}
use Rattle.journal_audit.specs.Fronts.{IsFront, IsStuckAfter, lines_to}
use Rattle.journal_audit.proofs.Clean.{clean, lines_to_line, lines_to_clean, line_ends_line, line_ends_clean}

-- What follows this line in a text of the kind R is of the kind S, and the other way round.
pub record Follows (R S : List ℕ → Type 0) (r : List ℕ) : Type 0 where
  pub down : (x : List ℕ) → R (r ++ 10 ∷ x) → S x
  pub up : (x : List ℕ) → S x → R (r ++ 10 ∷ x)

front_down : (R S : List ℕ → Type 0) (r x : List ℕ) → Follows R S r → IsFront R (r ++ 10 ∷ x) → IsFront S x
front_down R S r x f h = (h.0, f.down (x ++ h.0) (subst R (append_assoc r (10 ∷ x) h.0) h.1))

front_up : (R S : List ℕ → Type 0) (r x : List ℕ) → Follows R S r → IsFront S x → IsFront R (r ++ 10 ∷ x)
front_up R S r x f h = (h.0, subst R (sym (append_assoc r (10 ∷ x) h.0)) (f.up (x ++ h.0) h.1))

abbrev front_at : (R : List ℕ → Type 0) (a b : List ℕ) → a ≡ b → IsFront R a → IsFront R b
front_at R a b e h = (h.0, subst R (ap (λ (l : List ℕ). l ++ h.0) e) h.1)

-- a line that may follow
pub stuck_behind : (R S : List ℕ → Type 0) (n : ℕ) (r x : List ℕ) → clean 10 r ≡ true → Follows R S r → IsStuckAfter S n x → IsStuckAfter R (suc n) (r ++ 10 ∷ x)
stuck_behind R S n r x plain f stuck = record {
  none = λ is. stuck.none (f.down x is);
  before = front_at R (r ++ 10 ∷ lines_to n x) (lines_to (suc n) (r ++ 10 ∷ x)) (sym (lines_to_line n r x plain)) (front_up R S r (lines_to n x) f stuck.before);
  early = λ front. ap (λ (k : ℕ). suc k) (stuck.early (front_down R S r x f front)) ∙ sym (line_ends_line r x plain);
  late = λ never front. stuck.late (λ is. never (front_up R S r x f is)) (front_down R S r (lines_to (suc n) x) f
      (front_at R (lines_to (suc (suc n)) (r ++ 10 ∷ x)) (r ++ 10 ∷ lines_to (suc n) x) (lines_to_line (suc n) r x plain) front));
}

-- a line that can't follow
pub stuck_here : (R : List ℕ → Type 0) (r x : List ℕ) → clean 10 r ≡ true → IsFront R [] → ((y : List ℕ) → R (r ++ 10 ∷ y) → ⊥) → IsStuckAfter R 0 (r ++ 10 ∷ x)
stuck_here R r x plain alive never = record {
  none = never x;
  before = alive;
  early = λ front. absurd (never (x ++ front.0) (subst R (append_assoc r (10 ∷ x) front.0) front.1));
  late = λ over front. never front.0 (subst R (append_assoc r (10 ∷ []) front.0) ((front_at R (lines_to 1 (r ++ 10 ∷ x)) (r ++ 10 ∷ []) (lines_to_line 0 r x plain) front).1));
}

-- a line without its end
pub stuck_within : (R : List ℕ → Type 0) (t : List ℕ) → clean 10 t ≡ true → IsFront R [] → (R t → ⊥) → IsStuckAfter R 0 t
stuck_within R t plain alive never = record {
  none = never;
  before = alive;
  early = λ front. sym (line_ends_clean t plain);
  late = λ over front. over (front_at R (lines_to 1 t) t (lines_to_clean 0 t plain) front);
}

-- two words for one kind
pub stuck_same : (R S : List ℕ → Type 0) (n : ℕ) (x : List ℕ) → ((y : List ℕ) → R y → S y) → ((y : List ℕ) → S y → R y) → IsStuckAfter S n x → IsStuckAfter R n x
stuck_same R S n x to from stuck = record {
  none = λ is. stuck.none (to x is);
  before = (stuck.before.0, from (lines_to n x ++ stuck.before.0) stuck.before.1);
  early = λ front. stuck.early (front.0, to (x ++ front.0) front.1);
  late = λ never front. stuck.late (λ is. never (is.0, from (x ++ is.0) is.1)) (front.0, to (lines_to (suc n) x ++ front.0) front.1);
}
