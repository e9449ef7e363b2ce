use Rattle.one_shot.proofs.link.OnceLink+L+RunLink+W.serves.Goals as goal

pub returns-in-Hosted : goal.returns-in-Hosted
returns-in-Hosted g c = λ plain. rw c.in-Hosted.is c.serves.ensures
