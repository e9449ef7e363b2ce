use Rattle.wild_match.proofs.LastPart.{found_last, none_last}
use Rattle.wild_match.proofs.matching.last_part.Goals as goal

pub returns-in-Some : goal.returns-in-Some
returns-in-Some c =
    let last = found_last c.args.path.now c.in-Some.slash c.split_at.result.1.now c.in-Some.ensures c.split_at.ensures.back in
    record { value = last.value; within = last.within; behind = last.behind; no_slash = last.no_slash }

pub returns-in-None : goal.returns-in-None
returns-in-None c =
    let last = none_last c.args.path.now c.in-None.ensures in
    record { value = last.value; within = last.within; behind = last.behind; no_slash = last.no_slash }
