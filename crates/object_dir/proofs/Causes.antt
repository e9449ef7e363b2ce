-- What is found in stored bytes is what the object gives.
use Rattle.std.proofs.Common.{◌≡◌, ℕ, ◌≤◌, Bool, true, false, not, cond, eqb, List, length, Option, Some, None, Result, Ok, Err, MatchResult, refl, ◌∙◌, subst}
use Rattle.std.proofs.lemmas.Bool.{le-ltb}
use Rattle.std.specs.Global.{Vec}
use Rattle.std.specs.Str.{bytes_eq}
use Rattle.std.specs.Str.Parse.{digits_value}
use Rattle.sha1.specs.Sha1.{sha1}
use Rattle.edge_kit.specs.Faults.{AfterTake}
use Rattle.edge_kit.specs.Told.{Told, TellsBytes, Takes}
use Rattle.edge_kit.specs.declared.faults.TakeFault.{TakeFault}
use Rattle.edge_kit.specs.declared.faults.TakeFault.TheVariants as take
use Rattle.object_dir.specs.Object.{max_stored, has_header, size_text, content_of, stored_content, object_of, object_in, IsObject, AfterRead}
use Rattle.object_dir.specs.declared.fault.ObjectFault.{ObjectFault}
use Rattle.object_dir.specs.declared.fault.ObjectFault.TheVariants.{ReadFailed, Absent, TooLarge, Header, Size, WrongName, NoMemory}

-- the faults that stored bytes can have
abbrev IsFound : Result (List ℕ) ObjectFault → Type 0
IsFound (Ok content) = Unit {0}
IsFound (Err ReadFailed) = ⊥
IsFound (Err Absent) = ⊥
IsFound (Err TooLarge) = ⊥
IsFound (Err Header) = Unit {0}
IsFound (Err Size) = Unit {0}
IsFound (Err (WrongName found)) = Unit {0}
IsFound (Err NoMemory) = ⊥

by_tests : (header length_right name_right : Bool) (content found : List ℕ)
    → IsFound (cond (not header) (Err Header) (cond (not length_right) (Err Size) (cond (not name_right) (Err (WrongName found)) (Ok content))))
by_tests false b c content found = tt
by_tests true false c content found = tt
by_tests true true false content found = tt
by_tests true true true content found = tt

stored_content-found : (stored name : List ℕ) → IsFound (stored_content stored name)
unfolding stored_content
stored_content-found stored name =
    by_tests (has_header stored) (eqb (digits_value 10 (size_text stored)) (length (content_of stored))) (bytes_eq (sha1 stored) name) (content_of stored) (sha1 stored)

pub object_of-within : (stored name : List ℕ) → length stored ≤ max_stored → object_of stored name ≡ stored_content stored name
object_of-within stored name few = rw (le-ltb max_stored (length stored) few) refl

-- what stored bytes give
abbrev pub IsAnswerOf : List ℕ → List ℕ → Result (Vec ℕ) ObjectFault → Type 0
IsAnswerOf stored name r = MatchResult r (λ content. stored_content stored name ≡ Ok content.items) (λ fault. stored_content stored name ≡ Err fault)

never : (stored name : List ℕ) (fault : ObjectFault) → stored_content stored name ≡ Err fault → IsFound (Err fault)
never stored name fault is = subst IsFound is (stored_content-found stored name)

pub IsObject-stored : (told : Told) (stored name : List ℕ) (r : Result (Vec ℕ) ObjectFault) → TellsBytes told stored → length stored ≤ max_stored
    → IsAnswerOf stored name r → IsObject told name r
IsObject-stored told stored name (Ok content) tells few is = (stored, tells, object_of-within stored name few ∙ is)
IsObject-stored told stored name (Err ReadFailed) tells few is = absurd (never stored name ReadFailed is)
IsObject-stored told stored name (Err Absent) tells few is = absurd (never stored name Absent is)
IsObject-stored told stored name (Err TooLarge) tells few is = absurd (never stored name TooLarge is)
IsObject-stored told stored name (Err Header) tells few is = (stored, tells, object_of-within stored name few ∙ is)
IsObject-stored told stored name (Err Size) tells few is = (stored, tells, object_of-within stored name few ∙ is)
IsObject-stored told stored name (Err (WrongName found)) tells few is = (stored, tells, object_of-within stored name few ∙ is)
IsObject-stored told stored name (Err NoMemory) tells few is = tt

pub AfterRead-stored : (stored name : List ℕ) (before after : ℕ) (r : Result (Vec ℕ) ObjectFault) → IsAnswerOf stored name r → after ≡ before → AfterRead before after r
AfterRead-stored stored name before after (Ok content) is same = same
AfterRead-stored stored name before after (Err ReadFailed) is same = absurd (never stored name ReadFailed is)
AfterRead-stored stored name before after (Err Absent) is same = same
AfterRead-stored stored name before after (Err TooLarge) is same = same
AfterRead-stored stored name before after (Err Header) is same = same
AfterRead-stored stored name before after (Err Size) is same = same
AfterRead-stored stored name before after (Err (WrongName found)) is same = same
AfterRead-stored stored name before after (Err NoMemory) is same = same

-- ---- what a blob gave

-- what a blob's answer gives under the name
abbrev pub IsAnswerTo : Result (Option (Vec ℕ)) TakeFault → List ℕ → Result (Vec ℕ) ObjectFault → Type 0
IsAnswerTo taken name r = MatchResult r (λ content. object_in taken name ≡ Ok content.items) (λ fault. object_in taken name ≡ Err fault)

abbrev failed : ObjectFault → Result (List ℕ) ObjectFault
failed fault = Err fault

same_fault : (f g : ObjectFault) → failed f ≡ failed g → f ≡ g
same_fault f g is = cc

no_content : (f : ObjectFault) (content : List ℕ) → failed f ≡ Ok content → ⊥
no_content f content is = cc

-- what holds of a fault holds of the answer that is this fault
by_fault : (Holds : Result (Vec ℕ) ObjectFault → Type 0) (f : ObjectFault) (r : Result (Vec ℕ) ObjectFault)
    → MatchResult r (λ content. failed f ≡ Ok content.items) (λ fault. failed f ≡ Err fault) → Holds (Err f) → Holds r
by_fault Holds f (Ok content) is holds = absurd (no_content f content.items is)
by_fault Holds f (Err fault) is holds = subst (λ (g : ObjectFault). Holds (Err g)) (same_fault f fault is) holds

pub IsObject-taken : (told : Told) (name : List ℕ) (taken : Result (Option (Vec ℕ)) TakeFault) (r : Result (Vec ℕ) ObjectFault) → Takes told max_stored taken
    → IsAnswerTo taken name r → IsObject told name r
IsObject-taken told name (Ok (Some stored)) r takes is = IsObject-stored told stored.items name r takes.0 takes.1 is
IsObject-taken told name (Ok None) r takes is = by_fault (IsObject told name) Absent r is takes
IsObject-taken told name (Err take.TooLong) r takes is = by_fault (IsObject told name) TooLarge r is takes
IsObject-taken told name (Err take.Failed) r takes is = by_fault (IsObject told name) ReadFailed r is takes
IsObject-taken told name (Err take.NoMemory) r takes is = by_fault (IsObject told name) NoMemory r is takes

pub AfterRead-taken : (name : List ℕ) (before after : ℕ) (taken : Result (Option (Vec ℕ)) TakeFault) (r : Result (Vec ℕ) ObjectFault) → AfterTake before after taken
    → IsAnswerTo taken name r → AfterRead before after r
AfterRead-taken name before after (Ok (Some stored)) r rose is = AfterRead-stored stored.items name before after r is rose
AfterRead-taken name before after (Ok None) r rose is = by_fault (AfterRead before after) Absent r is rose
AfterRead-taken name before after (Err take.TooLong) r rose is = by_fault (AfterRead before after) TooLarge r is rose
AfterRead-taken name before after (Err take.Failed) r rose is = by_fault (AfterRead before after) ReadFailed r is rose
AfterRead-taken name before after (Err take.NoMemory) r rose is = by_fault (AfterRead before after) NoMemory r is rose
