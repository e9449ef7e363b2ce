-- What the starters in memory keep, start by start.
use Rattle.std.proofs.Common.{◌≡◌, ℕ, ◌+◌, List, [], ◌∷◌, ◌++◌, sym, ◌∙◌, ap, append_assoc, append-nil}
use Rattle.std.proofs.lemmas.List.{replicate_more}
use Rattle.edge_kit.specs.Starters.{Had, StartOutOfMemory}
use Rattle.edge_kit.specs.MemoryDrivers.{waits, outcome_had, starts_had}
use Rattle.edge_kit.specs.declared.session_seen.StartSeen.{StartSeen}

pub starts_had_more : (ss : List StartSeen) (s : StartSeen) →
    starts_had (ss ++ s ∷ []) ≡
    starts_had ss ++ (waits s.out_of_memory ++ outcome_had s.outcome ∷ [])
starts_had_more [] s = append-nil (waits s.out_of_memory ++ outcome_had s.outcome ∷ [])
starts_had_more (x ∷ ss) s =
    ap (λ rest. (waits x.out_of_memory ++ outcome_had x.outcome ∷ []) ++ rest) (starts_had_more ss s)
    ∙ sym (append_assoc (waits x.out_of_memory ++ outcome_had x.outcome ∷ []) (starts_had ss)
    (waits s.out_of_memory ++ outcome_had s.outcome ∷ []))

-- one more start that ran out of memory
pub had_one_waits : (hs : List Had) (n : ℕ) →
    hs ++ waits (n + 1) ≡ (hs ++ waits n) ++ StartOutOfMemory ∷ []
had_one_waits hs n =
    ap (λ rest. hs ++ rest) (sym (replicate_more n StartOutOfMemory))
    ∙ sym (append_assoc hs (waits n) (StartOutOfMemory ∷ []))

-- one more outcome after them
pub had_one_kept : (hs new : List Had) (n : ℕ) (h : Had) →
    new ≡ hs ++ (waits n ++ h ∷ []) → new ++ [] ≡ (hs ++ waits n) ++ h ∷ []
had_one_kept hs new n h is = append-nil new ∙ is ∙ sym (append_assoc hs (waits n) (h ∷ []))
