use Rattle.std.proofs.Common.{◌≡◌, ◌++◌, ℕ, List, Some, subst, take}
use Rattle.driver_host.specs.HostLinks.{LinkState, IsTaken, IsChosenTaken, HasText, kept_bytes, left_of}
use Rattle.driver_host.proofs.Links.{chosen_text, taken_text, taken_of, is_true}
use Rattle.driver_host.proofs.host_link.HostLink.tells.Goals as goal

pub returns-clause-chosen : goal.returns-clause-chosen
returns-clause-chosen g c =
    let l = c.self.inside in
    λ yes.
    subst (λ (v : LinkState _). (sent taken : List ℕ) → kept_bytes v.keeps v.sent ≡ Some sent → kept_bytes v.keeps (take v.taken v.output) ≡ Some taken → IsChosenTaken (g.W.Work.told v.host.talk.work) v.host.talk.own v.host.talk.batch sent taken)
    c.self.view_is
    (taken_text g.W.Work.told g.W.Work.latest l.keeps l.tells l.host l.sent.items l.output.items l.taken c.self.invariant.kept
    c.self.invariant.serves (is_true l.tells yes))

pub returns-clause-taken : goal.returns-clause-taken
returns-clause-taken g c =
    let l = c.self.inside in
    λ yes.
    subst (λ (v : LinkState _). (sent taken : List ℕ) → kept_bytes v.keeps v.sent ≡ Some sent → kept_bytes v.keeps (take v.taken v.output) ≡ Some taken → IsTaken v.host.talk.own v.host.talk.batch sent taken)
    c.self.view_is
    (λ sent taken is_sent is_taken.
    taken_of (g.W.Work.told l.host.talk.work) l.host.talk.own l.host.talk.batch sent taken
    (taken_text g.W.Work.told g.W.Work.latest l.keeps l.tells l.host l.sent.items l.output.items l.taken c.self.invariant.kept
    c.self.invariant.serves (is_true l.tells yes) sent taken is_sent is_taken))

pub returns-clause-text : goal.returns-clause-text
returns-clause-text g c =
    let l = c.self.inside in
    λ yes.
    subst (λ (v : LinkState _). (sent taken : List ℕ) → kept_bytes v.keeps v.sent ≡ Some sent → kept_bytes v.keeps (take v.taken v.output) ≡ Some taken → HasText (g.W.Work.told v.host.talk.work) v.host.talk.own v.host.talk.batch sent (taken ++ left_of v))
    c.self.view_is
    (chosen_text g.W.Work.told g.W.Work.latest l.keeps l.tells l.host l.sent.items l.output.items l.taken c.self.invariant.kept
    c.self.invariant.serves (is_true l.tells yes))
