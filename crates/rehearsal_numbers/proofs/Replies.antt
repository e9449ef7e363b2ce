-- The answers of the rehearsal's drivers, as exchanges read them.
use Rattle.std.proofs.Common.{◌≡◌, ℕ, ◌+◌, ◌-◌, ◌<◌, ◌≤◌, Bool, true, false, List, [], ◌∷◌, ◌++◌, length, refl, sym, ap, ◌∙◌, subst, arith, map}
use Rattle.std.specs.Prelude.{codes, nat_lt}
use Rattle.std.specs.List.{AllByRecursion}
use Rattle.std.proofs.lemmas.List.{append-nil, take_all}
use Rattle.std.proofs.lemmas.Bool.{le-ltb}
use Rattle.pkt_line.specs.Packets.{Packet, Payload, Flush, Spells, SpellAll, pkt_len}
use Rattle.pkt_line.specs.Spelling.{spelling, spelling_all, content_packets, pieces_of, piece_count}
use Rattle.filter_words.specs.Outcomes.{outcome, limit}
use Rattle.filter_words.specs.SmudgeReply.{reply_step, reply_start}
use Rattle.filter_words.specs.Handshake.{handshake_step, handshake_start}
use Rattle.filter_words.specs.Requests.{line}
use Rattle.filter_words.specs.declared.reply.Caps.{Caps}
use Rattle.filter_words.specs.declared.reply.Reply.TheVariants as reply
use Rattle.filter_words.specs.declared.smudge_reply.GoodReply.TheVariants as good_reply
use Rattle.filter_words.specs.declared.answer_state.AnswerState.TheVariants.{Done}
use Rattle.filter_proto.specs.Exchanges.{Good}
use Rattle.filter_proto.specs.Openings.{BeginsHello}
use Rattle.filter_proto.specs.Replies.{reply_end}
use Rattle.driver_line.specs.Lines.{HasContent}
use Rattle.driver_line.specs.Transcripts.{IsPart, StopsAt}
use Rattle.rehearsal.specs.Drivers.{hello, status, good}

-- what is appended for a packet spells it
abbrev pub SpellingSpells : Type 0
SpellingSpells = (p : Packet) → pkt_len p ≤ 65520 → Spells p (spelling p)

pub spelled : SpellingSpells → (ps : List Packet) → AllByRecursion (λ p. pkt_len p ≤ 65520) ps → SpellAll ps (spelling_all ps)
spelled law [] h = refl
spelled law (p ∷ ps) h = (spelling p, spelling_all ps, law p h.0, spelled law ps h.1, refl)

one_piece : (text : List ℕ) → 0 < length text → length text ≤ 65516 → content_packets text ≡ Payload text ∷ []
one_piece text some few =
    let count : piece_count (length text) ≡ 1 = omega (arith, some, few) in
    ap (λ (n : ℕ). map Payload (pieces_of n text)) count
    ∙ ap (λ (t : List ℕ). Payload t ∷ []) (take_all 65516 text few)

-- a good answer with its one packet of content
abbrev good_packets : List ℕ → List Packet
good_packets text = line (codes "status=success") ∷ Flush ∷ Payload text ∷ Flush ∷ Flush ∷ []

good_is : (text : List ℕ) → 0 < length text → length text ≤ 65516 → good text ≡ good_packets text
good_is text some few =
    ap (λ (ps : List Packet). status (codes "success") ++ ps ++ Flush ∷ Flush ∷ []) (one_piece text some few)

good_ends : (d : Bool) (text : List ℕ) → length text ≤ 65516
    → outcome (reply_step d) limit reply_start (good_packets text) ≡ Done good_reply.Content
good_ends d text few =
    let a : nat_lt 536870889 (4 + length text) ≡ false = le-ltb 536870889 (4 + length text) (omega (arith, few)) in
    let b : nat_lt (536870889 - (4 + length text)) 4 ≡ false = le-ltb (536870889 - (4 + length text)) 4 (omega (arith, few)) in
    let c : nat_lt (536870889 - (4 + length text) - 4) 4 ≡ false = le-ltb (536870889 - (4 + length text) - 4) 4 (omega (arith, few)) in
    rw (a, b, c) refl

pub good_part : SpellingSpells → (d : Bool) (text rest : List ℕ) → 0 < length text → length text ≤ 65516
    → IsPart (reply_step d) reply_start (spelling_all (good text)) rest (reply_end reply.Content) (HasContent d text)
good_part law d text rest some few =
    subst (λ (ps : List Packet). IsPart (reply_step d) reply_start (spelling_all ps) rest (reply_end reply.Content) (HasContent d text))
    (sym (good_is text some few)) (record {
      packets = good_packets text;
      spelled = spelled law (good_packets text) (omega arith, (omega arith, (omega (arith, few), (omega arith, (omega arith, tt)))));
      stops = subst (λ s. StopsAt s rest (Good good_reply.Content)) (sym (good_ends d text few)) refl;
      done = sym (append-nil text);
    })

pub delayed_part : SpellingSpells → (rest : List ℕ)
    → IsPart (reply_step true) reply_start (spelling_all (status (codes "delayed"))) rest (reply_end reply.Delayed) (HasContent true [])
delayed_part law rest = record {
  packets = status (codes "delayed");
  spelled = spelled law (status (codes "delayed")) (omega arith, (omega arith, tt));
  stops = refl;
  done = refl;
}

pub error_part : SpellingSpells → (rest : List ℕ)
    → IsPart (reply_step false) reply_start (spelling_all (status (codes "error"))) rest (reply_end reply.Error) (HasContent false [])
error_part law rest = record {
  packets = status (codes "error");
  spelled = spelled law (status (codes "error")) (omega arith, (omega arith, tt));
  stops = refl;
  done = refl;
}

abbrev pub alpha_caps : Caps
alpha_caps = record { smudge = true; delay = true }

abbrev pub beta_caps : Caps
beta_caps = record { smudge = true; delay = false }

abbrev pub alpha_hello : List Packet
alpha_hello = hello ++ line (codes "capability=smudge") ∷ line (codes "capability=delay") ∷ Flush ∷ []

abbrev pub beta_hello : List Packet
beta_hello = hello ++ line (codes "capability=smudge") ∷ Flush ∷ []

pub alpha_opens : SpellingSpells → (rest : List ℕ)
    → IsPart handshake_step handshake_start (spelling_all alpha_hello) rest (Good alpha_caps) BeginsHello
alpha_opens law rest = record {
  packets = alpha_hello;
  spelled = spelled law alpha_hello (omega arith, (omega arith, (omega arith, (omega arith, (omega arith, (omega arith, tt))))));
  stops = refl;
  done = (hello, line (codes "capability=smudge") ∷ line (codes "capability=delay") ∷ Flush ∷ [], refl, refl);
}

pub beta_opens : SpellingSpells → (rest : List ℕ)
    → IsPart handshake_step handshake_start (spelling_all beta_hello) rest (Good beta_caps) BeginsHello
beta_opens law rest = record {
  packets = beta_hello;
  spelled = spelled law beta_hello (omega arith, (omega arith, (omega arith, (omega arith, (omega arith, tt)))));
  stops = refl;
  done = (hello, line (codes "capability=smudge") ∷ Flush ∷ [], refl, refl);
}
