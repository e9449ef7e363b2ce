use Rattle.host_laws.proofs.OneParse.{taken}
use Rattle.host_laws.proofs.laws.a_request_is_taken.Goals as goal

pub returns : goal.returns
returns c = taken (record { prefix = c.prefix_free.ensures; reading = c.one_reading.ensures })
