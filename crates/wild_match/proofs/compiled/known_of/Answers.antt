use Rattle.std.proofs.Common.{length, refl}
use Rattle.wild_match.proofs.Forms.{single_known, none_known}
use Rattle.wild_match.proofs.compiled.known_of.Goals as goal

pub returns-in-Some : goal.returns-in-Some
returns-in-Some c =
    single_known c.args.pattern.now c.split_at.result.1.now c.split_at-in-Some.result.1.now (record { front = c.args.front; next = _; more = c.plain_len.result }) c.in-Some.len
    c.requires.front c.split_at.ensures.back c.in-Some.ensures.value c.in-Some.ensures.within.0 c.in-Some.ensures.within.1 refl c.split_at-in-Some.ensures.back c.plain_len.ensures.value

pub returns-in-None : goal.returns-in-None
returns-in-None c = none_known c.args.pattern.now (record { front = c.args.front; next = length c.args.pattern.now; more = 0 }) c.requires.front refl
