-- The content of a reply.
use Rattle.std.proofs.Common.{◌≡◌, ℕ, Bool, List, [], ◌∷◌, ◌++◌, Option, Some, None, refl, ap, ◌∙◌}
use Rattle.pkt_line.specs.Packets.{Packet}
use Rattle.filter_words.specs.Words.{status_after, last_status}
use Rattle.filter_words.specs.SmudgeReply.{content_in, reply_start}
use Rattle.filter_words.specs.Grammar.{block}
use Rattle.filter_words.specs.ReplyGrammar.{joined}
use Rattle.filter_words.specs.declared.words.Status.{Status}
use Rattle.filter_words.specs.declared.words.Status.TheVariants as status
use Rattle.filter_words.specs.declared.smudge_reply.ReplyPhase.TheVariants.{KeyList, Content, LastKeyList}
use Rattle.filter_words.specs.declared.answer_state.AnswerState.TheVariants.{On}

content_last : (d : Bool) (s : Option Status) (keys : List (List ℕ)) → content_in d (On (LastKeyList s)) (block keys)
    ≡ []
content_last d s [] = refl
content_last d s (k ∷ ks) = content_last d (status_after s k) ks

content_middle : (d : Bool) (pieces last_keys : List (List ℕ))
    → content_in d (On Content) (block pieces ++ block last_keys) ≡ joined pieces
content_middle d [] last_keys = content_last d None last_keys
content_middle d (p ∷ ps) last_keys = ap (λ (z : List ℕ). p ++ z) (content_middle d ps last_keys)

content_keys : (d : Bool) (s : Option Status) (keys : List (List ℕ)) (rest : List Packet)
    → last_status s keys ≡ Some status.Success
    → content_in d (On (KeyList s)) (block keys ++ rest) ≡ content_in d (On Content) rest
content_keys d s [] rest e = rw e refl
content_keys d s (k ∷ ks) rest e = content_keys d (status_after s k) ks rest e

pub content_long : (d : Bool) (keys pieces last_keys : List (List ℕ)) → last_status None keys ≡ Some status.Success
    → content_in d reply_start (block keys ++ (block pieces ++ block last_keys)) ≡ joined pieces
content_long d keys pieces last_keys e = content_keys d None keys (block pieces ++ block last_keys) e
    ∙ content_middle d pieces last_keys

content_only : (d : Bool) (s : Option Status) (keys : List (List ℕ)) → content_in d (On (KeyList s)) (block keys) ≡ []
content_only d s [] = refl
content_only d s (k ∷ ks) = content_only d (status_after s k) ks

pub content_short : (d : Bool) (keys : List (List ℕ)) → content_in d reply_start (block keys) ≡ []
content_short d keys = content_only d None keys
