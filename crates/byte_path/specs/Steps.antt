-- Steps where the first fault decides.
use Rattle.std.specs.Prelude.{◌≡◌, Bool, true, false, Result, Ok, Err}

infixl 10 ◌>>=◌
abbrev pub ◌>>=◌ : {A B E : Type 0} → Result A E → (A → Result B E) → Result B E
(Ok x) >>= f = f x
(Err e) >>= f = Err e

-- a test that has to pass, and the fault if it doesn't
abbrev pub want : {A E : Type 0} → Bool → E → Result A E → Result A E
want true f r = r
want false f r = Err f

-- What a function returned, seen through `view`, is what is read, unless memory ran out.
abbrev pub GivesUnless : {X Y E : Type 0} → E → (X → Y) → Result X E → Result Y E → Type 0
GivesUnless no_memory view (Ok x) read = read ≡ Ok (view x)
GivesUnless no_memory view (Err f) read = (f ≡ no_memory → ⊥) → read ≡ Err f
