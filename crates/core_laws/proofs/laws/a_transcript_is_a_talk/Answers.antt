use Rattle.core_laws.proofs.Transcripts.{transcript_runs}
use Rattle.core_laws.proofs.laws.a_transcript_is_a_talk.Goals as goal

pub returns : goal.returns
returns c d paths items h = transcript_runs d paths items h
