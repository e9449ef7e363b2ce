-- One of two kinds of links.
use Rattle.edge_kit.specs.Links.{LinkSeen}
use Rattle.one_shot.specs.declared.link.OnceLink.{OnceLink}
use Rattle.one_shot.specs.declared.link.OnceLink.TheVariants.{Inner, Hosted}

-- a link of either kind as it is seen
abbrev pub either_seen : {L K : Type 0} → (L → LinkSeen) → (K → LinkSeen) → OnceLink L K → LinkSeen
either_seen inner hosted (Inner l) = inner l
either_seen inner hosted (Hosted l) = hosted l
