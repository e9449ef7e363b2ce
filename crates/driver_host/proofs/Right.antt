-- Answers of a host, as a client's grammar has them, and requests of a client as a host's has them.
use Rattle.std.proofs.Common.{◌≡◌, ℕ, ◌≤◌, ◌<◌, inl, inr, Bool, true, false, List, [], ◌∷◌, ◌++◌, length, map, Some, refl, sym, ap, ◌∙◌}
use Rattle.std.proofs.Common.{append_assoc, arith}
use Rattle.std.specs.Prelude.{codes, nat_le, if◌then◌else◌}
use Rattle.std.proofs.lemmas.Grind.{common_steps}
use Rattle.pkt_line.specs.Packets.{Packet, Payload, Flush, total}
use Rattle.filter_words.specs.Outcomes.{limit}
use Rattle.driver_host.specs.HostText.{Owed, MayChoose}
use Rattle.pkt_line.specs.Spelling.{pieces_of, piece_count}
use Rattle.filter_words.specs.Requests.{line, smudge_packets}
use Rattle.filter_words.specs.Grammar.{block}
use Rattle.filter_words.specs.ReplyGrammar.{IsReply}
use Rattle.filter_words.specs.HandshakeGrammar.{IsHandshake}
use Rattle.filter_words.specs.Words.{value_of}
use Rattle.filter_words.specs.ListGrammar.{IsList, AreExpected, names_of}
use Rattle.filter_words.specs.Listing.{Listed}
use Rattle.driver_host.specs.declared.work.Choice.{Choice}
use Rattle.driver_host.specs.declared.work.Choice.TheVariants.{Give, Refuse, Later, Stop}
use Rattle.driver_host.specs.Requests.{IsSmudge}
use Rattle.driver_host.specs.Answers.{hello_answer, caps_answer, choice_answer, list_answer, reply_to, name_line}
use Rattle.driver_host.specs.Answers.{IsListable, AreListable}
use Rattle.hex.specs.Hex.{encode_lower}
use Rattle.driver_host.proofs.Lines.{raw, named, named_whole, no_command, no_can_delay}
use Rattle.driver_host.proofs.Lines.{raw_blob, blob_no_command, blob_no_path, blob_no_can_delay}
use Rattle.driver_host.proofs.Contents.{joined_content}

abbrev pub lf : List ℕ → List ℕ
lf text = text ++ 10 ∷ []

pub handshake : (a b : Bool) → IsHandshake (hello_answer ++ caps_answer (record { smudge = a; delay = b }))
    (record { smudge = a; delay = b })
handshake true true = record {
  server = lf (codes "git-filter-server");
  version = lf (codes "version=2");
  lines = lf (codes "capability=smudge") ∷ lf (codes "capability=delay") ∷ [];
  whole = refl;
  server_is = refl;
  version_is = refl;
  caps_are = refl;
}
handshake true false = record {
  server = lf (codes "git-filter-server");
  version = lf (codes "version=2");
  lines = lf (codes "capability=smudge") ∷ [];
  whole = refl;
  server_is = refl;
  version_is = refl;
  caps_are = refl;
}
handshake false true = record {
  server = lf (codes "git-filter-server");
  version = lf (codes "version=2");
  lines = lf (codes "capability=delay") ∷ [];
  whole = refl;
  server_is = refl;
  version_is = refl;
  caps_are = refl;
}
handshake false false = record {
  server = lf (codes "git-filter-server");
  version = lf (codes "version=2");
  lines = [];
  whole = refl;
  server_is = refl;
  version_is = refl;
  caps_are = refl;
}

-- the pieces of a content
abbrev pub cut : List ℕ → List (List ℕ)
cut bytes = pieces_of (piece_count (length bytes)) bytes

abbrev pub success_keys : List (List ℕ)
success_keys = lf (codes "status=success") ∷ []

pub given_whole : (bytes : List ℕ) → choice_answer (Give bytes) ≡ block success_keys ++ (block (cut bytes) ++ block [])
given_whole bytes =
    ap (λ (z : List Packet). line (codes "status=success") ∷ Flush ∷ z)
    (sym (append_assoc (map Payload (cut bytes)) (Flush ∷ []) (Flush ∷ [])))

pub replies : (d : Bool) (c : Choice) → (c ≡ Later → d ≡ true) → IsReply d (choice_answer c) (reply_to c)
replies d (Give bytes) e = inr (record {
  keys = success_keys;
  pieces = cut bytes;
  last_keys = [];
  whole = given_whole bytes;
  success = refl;
  ends = inl refl;
})
replies d Refuse e = inl (record { keys = lf (codes "status=error") ∷ []; whole = refl; ends = refl })
replies d Later e = inl (record { keys = lf (codes "status=delayed") ∷ []; whole = refl; ends = (refl, e refl) })
replies d Stop e = inl (record { keys = lf (codes "status=abort") ∷ []; whole = refl; ends = refl })

-- what the line of a path holds
abbrev pub line_or : Bool → List ℕ → List ℕ
line_or true path = raw path
line_or false path = codes "pathname=" ++ path

abbrev pub line_for : List ℕ → List ℕ
line_for path = line_or (nat_le (length path) 65506) path

held_by : (fits : Bool) (n : List ℕ)
    → (if fits then line (codes "pathname=" ++ n) else Payload (codes "pathname=" ++ n)) ≡ Payload (line_or fits n)
held_by true n = refl
held_by false n = refl

lines_are : (names : List (List ℕ)) → map name_line names ≡ map Payload (map line_for names)
lines_are [] = refl
lines_are (n ∷ ns) = rw (held_by (nat_le (length n) 65506) n, lines_are ns) refl

name_again : (n : List ℕ) → IsListable n → value_of (codes "pathname") (line_for n) ≡ Some n
name_again n (inl few) =
    let e : nat_le (length n) 65506 ≡ true = grind (arith, common_steps, few) in
    ap (λ (b : Bool). value_of (codes "pathname") (line_or b n)) e ∙ named n
name_again n (inr full) =
    let some : 0 < length n = omega (arith, full.0) in
    let e : nat_le (length n) 65506 ≡ false = grind (arith, common_steps, full.0) in
    ap (λ (b : Bool). value_of (codes "pathname") (line_or b n)) e ∙ named_whole n some full.1

names_again : (names : List (List ℕ)) → AreListable names → names_of (map line_for names) ≡ names
names_again [] s = refl
names_again (n ∷ ns) s = rw (name_again n s.0, names_again ns s.1) refl

pub lists : (delayed names : List (List ℕ)) → AreListable names → AreExpected delayed [] names
    → IsList delayed (list_answer names) (Listed names)
lists delayed names listable expected = record {
  lines = map line_for names;
  keys = success_keys;
  whole = rw (lines_are names) (sym (append_assoc (map Payload (map line_for names)) (Flush ∷ []) (block success_keys)));
  expected = rw (names_again names listable) expected;
  ends = (refl, sym (names_again names listable));
}

pub smudges : (path name content : List ℕ) (d : Bool) → IsSmudge path d content (smudge_packets path name d content)
smudges path name content true = record {
  keys = lf (codes "command=smudge") ∷ raw path ∷ raw_blob (encode_lower name) ∷ lf (codes "can-delay=1") ∷ [];
  pieces = cut content;
  whole = refl;
  command = rw (no_command path, blob_no_command (encode_lower name)) refl;
  names = rw (named path, blob_no_path (encode_lower name)) refl;
  waits = refl;
  content_is = sym (joined_content content);
}
smudges path name content false = record {
  keys = lf (codes "command=smudge") ∷ raw path ∷ raw_blob (encode_lower name) ∷ [];
  pieces = cut content;
  whole = refl;
  command = rw (no_command path, blob_no_command (encode_lower name)) refl;
  names = rw (named path, blob_no_path (encode_lower name)) refl;
  waits = rw (no_can_delay path, blob_no_can_delay (encode_lower name)) refl;
  content_is = sym (joined_content content);
}

pub hands_fit : (a b : Bool) → total (hello_answer ++ caps_answer (record { smudge = a; delay = b })) ≤ limit
hands_fit true true = omega arith
hands_fit true false = omega arith
hands_fit false true = omega arith
hands_fit false false = omega arith

pub may_later : (owed : Owed) (path : List ℕ) (d : Bool) (c : Choice) → MayChoose owed path d c → c ≡ Later → d ≡ true
may_later owed path d (Give bytes) m e = absurd cc
may_later owed path d Refuse m e = absurd cc
may_later owed path d Later m e = m.0
may_later owed path d Stop m e = absurd cc
