-- What starters keep, start by start.
use Rattle.std.proofs.Common.{◌≡◌, ℕ, ◌+◌, List, [], ◌∷◌, ◌++◌, sym, ◌∙◌, ap, append_assoc, append-nil}
use Rattle.std.proofs.lemmas.List.{replicate_more}
use Rattle.edge_kit.specs.Starters.{Had, StartOutOfMemory}
use Rattle.edge_kit.specs.MemoryDrivers.{waits}
use Rattle.edge_adapters.specs.Starts.{outcome_of, starts_of}
use Rattle.edge_adapters.specs.declared.process_starter.PastStart.{PastStart}

pub starts_of_more : (ss : List PastStart) (s : PastStart) →
    starts_of (ss ++ s ∷ []) ≡ starts_of ss ++ (waits s.out_of_memory ++ outcome_of s.outcome ∷ [])
starts_of_more [] s = append-nil (waits s.out_of_memory ++ outcome_of s.outcome ∷ [])
starts_of_more (x ∷ ss) s =
    ap (λ rest. (waits x.out_of_memory ++ outcome_of x.outcome ∷ []) ++ rest) (starts_of_more ss s)
    ∙ sym (append_assoc (waits x.out_of_memory ++ outcome_of x.outcome ∷ []) (starts_of ss)
    (waits s.out_of_memory ++ outcome_of s.outcome ∷ []))

-- one more start that ran out of memory
pub had_one_waits : (hs : List Had) (n : ℕ) →
    hs ++ waits (n + 1) ≡ (hs ++ waits n) ++ StartOutOfMemory ∷ []
had_one_waits hs n =
    ap (λ rest. hs ++ rest) (sym (replicate_more n StartOutOfMemory))
    ∙ sym (append_assoc hs (waits n) (StartOutOfMemory ∷ []))

-- one more outcome after them
pub had_one_kept : (hs new : List Had) (n : ℕ) (h : Had) →
    new ≡ hs ++ (waits n ++ h ∷ []) → new ++ [] ≡ (hs ++ waits n) ++ h ∷ []
had_one_kept hs new n h is = append-nil new ∙ is ∙ sym (append_assoc hs (waits n) (h ∷ []))
