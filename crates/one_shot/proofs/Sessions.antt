-- What came of starts, one after another.
use Rattle.std.proofs.Common.{◌≡◌, ◌<◌, ℕ, zero, suc, ◌+◌, length, take, get_or, subst, arith, List, [], ◌∷◌, ◌++◌, sym, ◌∙◌, ap, append_assoc, append-nil}
use Rattle.std.proofs.lemmas.List.{replicate_more, take_more, take_all}
use Rattle.edge_kit.specs.Links.{LinkSeen}
use Rattle.edge_kit.specs.Starters.{Had, Session, StartFailed, StartOutOfMemory, session_had}
use Rattle.edge_kit.specs.MemoryDrivers.{waits}
use Rattle.one_shot.specs.declared.kept.EndedLink.{EndedLink}
use Rattle.one_shot.specs.declared.kept.KeptLinks.{KeptLinks}
use Rattle.one_shot.specs.Starters.{had_in, kept_had}
use Rattle.one_shot.specs.Replies.{AreServed, IsServed, record_of}

pub had_in_more : {K : Type 0} (seen : K → LinkSeen) (es : List (EndedLink K)) (e : EndedLink K) →
    had_in seen (es ++ e ∷ []) ≡ had_in seen es ++ (waits e.out_of_memory ++ session_had (seen e.link) ∷ [])
had_in_more seen [] e = append-nil (waits e.out_of_memory ++ session_had (seen e.link) ∷ [])
had_in_more seen (x ∷ es) e =
    ap (λ rest. (waits x.out_of_memory ++ session_had (seen x.link) ∷ []) ++ rest) (had_in_more seen es e)
    ∙ sym (append_assoc (waits x.out_of_memory ++ session_had (seen x.link) ∷ []) (had_in seen es)
    (waits e.out_of_memory ++ session_had (seen e.link) ∷ []))

-- one more start that ran out of memory
pub had_one_waits : (hs : List Had) (n : ℕ) → hs ++ waits (n + 1) ≡ (hs ++ waits n) ++ StartOutOfMemory ∷ []
had_one_waits hs n =
    ap (λ rest. hs ++ rest) (sym (replicate_more n StartOutOfMemory))
    ∙ sym (append_assoc hs (waits n) (StartOutOfMemory ∷ []))

-- one more session after them
pub had_one_kept : (hs new : List Had) (n : ℕ) (h : Had) →
    new ≡ hs ++ (waits n ++ h ∷ []) → new ++ [] ≡ (hs ++ waits n) ++ h ∷ []
had_one_kept hs new n h is = append-nil new ∙ is ∙ sym (append_assoc hs (waits n) (h ∷ []))

-- sessions that are served, one after another

waits_served : (n : ℕ) → AreServed (waits n)
waits_served zero = tt
waits_served (suc n) = waits_served n

pub served_both : (hs ks : List Had) → AreServed hs → AreServed ks → AreServed (hs ++ ks)
served_both [] ks a b = b
served_both (Session seen ∷ hs) ks a b = (a.0, served_both hs ks a.1 b)
served_both (StartFailed ∷ hs) ks a b = served_both hs ks a b
served_both (StartOutOfMemory ∷ hs) ks a b = served_both hs ks a b

-- each kept session is served
abbrev pub AllLinks : {K : Type 0} → (K → LinkSeen) → List (EndedLink K) → Type 0
AllLinks seen [] = Unit {0}
AllLinks seen (e ∷ es) = IsServed (record_of (seen e.link)) × AllLinks seen es

pub links_more : {K : Type 0} (seen : K → LinkSeen) (es : List (EndedLink K)) (e : EndedLink K) → AllLinks seen es → IsServed (record_of (seen e.link)) → AllLinks seen (es ++ e ∷ [])
links_more seen [] e a b = (b, tt)
links_more seen (x ∷ es) e a b = (a.0, links_more seen es e a.1 b)

-- the next of them
pub links_next : {K : Type 0} (seen : K → LinkSeen) (es : List (EndedLink K)) (i : ℕ) (e : EndedLink K) → i < length es → e ≡ get_or es i e
    → AllLinks seen (take i es) → IsServed (record_of (seen e.link)) → AllLinks seen (take (i + 1) es)
links_next seen es i e lt is a b =
    subst (AllLinks seen) (sym (take_more es i e lt ∙ ap (λ x. take i es ++ x ∷ []) (sym is))) (links_more seen (take i es) e a b)

links_served : {K : Type 0} (seen : K → LinkSeen) (es : List (EndedLink K)) → AllLinks seen es → AreServed (had_in seen es)
links_served seen [] a = tt
links_served seen (e ∷ es) a =
    served_both (waits e.out_of_memory ++ session_had (seen e.link) ∷ []) (had_in seen es)
    (served_both (waits e.out_of_memory) (session_had (seen e.link) ∷ []) (waits_served e.out_of_memory) (a.0, tt)) (links_served seen es a.1)

pub kept_served : {K : Type 0} (seen : K → LinkSeen) (k : KeptLinks K) (es : List (EndedLink K)) (i : ℕ) → es ≡ k.ended.items → i ≡ length es
    → AllLinks seen (take i es) → AreServed (kept_had seen k)
kept_served seen k es i is end a =
    let all : AllLinks seen k.ended.items = subst (AllLinks seen) (take_all i es (omega (arith, end)) ∙ is) a in
    served_both (had_in seen k.ended.items) (waits k.out_of_memory) (links_served seen k.ended.items all) (waits_served k.out_of_memory)
