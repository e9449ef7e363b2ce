use Rattle.core_laws.proofs.TranscriptsBack.{talk_transcript}
use Rattle.core_laws.proofs.laws.a_talk_is_a_transcript.Goals as goal

pub returns : goal.returns
returns c d paths notes t run over = talk_transcript d paths notes t run over
