-- Good answers to a handshake are those of the grammar.
use Rattle.std.proofs.Common.{◌≡◌, ℕ, Bool, true, false, List, [], ◌∷◌, refl, sym, ap, ◌∙◌}
use Rattle.std.specs.Prelude.{codes, ◌||◌}
use Rattle.std.specs.Str.{bytes_eq}
use Rattle.std.proofs.Math.Bool.{or_assoc}
use Rattle.pkt_line.specs.Packets.{Packet, Payload, Flush}
use Rattle.filter_words.specs.Words.{without_lf}
use Rattle.filter_words.specs.Handshake.{wanted_line, with_capability, no_caps, handshake_step}
use Rattle.filter_words.specs.Grammar.{block}
use Rattle.filter_words.specs.HandshakeGrammar.{has_line, caps_in, IsHandshake}
use Rattle.filter_words.specs.declared.reply.Caps.{Caps}
use Rattle.filter_words.specs.declared.handshake.HandshakePhase.{HandshakePhase}
use Rattle.filter_words.specs.declared.handshake.HandshakePhase.TheVariants.{Server, Version, EndOfHello, Capabilities}
use Rattle.filter_words.specs.declared.answer_state.AnswerState.TheVariants.{On, Done}
use Rattle.filter_words.proofs.Equal.{bytes_eq-true, bytes_eq-same}
use Rattle.filter_words.proofs.Runs.{run, broken_stays, over_takes}
use Rattle.filter_words.proofs.GrammarLaws.{Reads}

-- capabilities, and those of more lines
more_caps : Caps → List (List ℕ) → Caps
more_caps caps lines = record {
  smudge = caps.smudge || has_line lines (codes "capability=smudge");
  delay = caps.delay || has_line lines (codes "capability=delay");
}

or_false : (b : Bool) → (b || false) ≡ b
or_false true = refl
or_false false = refl

same_caps : (a b c d : Bool) → a ≡ b → c ≡ d → (let x : Caps = record { smudge = a; delay = c } in x)
    ≡ (record { smudge = b; delay = d })
same_caps a b c d e f = rw (e, f) refl

more_caps-nil : (caps : Caps) → more_caps caps [] ≡ caps
unfolding more_caps
more_caps-nil caps = same_caps _ _ _ _ (or_false caps.smudge) (or_false caps.delay)

more_caps-cons : (caps : Caps) (l : List ℕ) (ls : List (List ℕ)) → more_caps (with_capability caps l) ls
    ≡ more_caps caps (l ∷ ls)
unfolding more_caps
more_caps-cons caps l ls =
    same_caps _ _ _ _
    (or_assoc caps.smudge (bytes_eq (without_lf l) (codes "capability=smudge"))
    (has_line ls (codes "capability=smudge")))
    (or_assoc caps.delay (bytes_eq (without_lf l) (codes "capability=delay")) (has_line ls (codes "capability=delay")))

more_caps-none : (lines : List (List ℕ)) → more_caps no_caps lines ≡ caps_in lines
unfolding more_caps
more_caps-none lines = refl

-- ---- what is in the grammar is read well

run_caps : (caps : Caps) (lines : List (List ℕ)) → run handshake_step (On (Capabilities caps)) (block lines)
    ≡ Done (more_caps caps lines)
run_caps caps [] = ap Done (sym (more_caps-nil caps))
run_caps caps (l ∷ ls) = run_caps (with_capability caps l) ls ∙ ap Done (more_caps-cons caps l ls)

wanted : (line text : List ℕ) (next : HandshakePhase) → without_lf line ≡ text → wanted_line line text next ≡ On next
wanted line text next e = rw (bytes_eq-same (without_lf line) text e) refl

run_wanted : (line text : List ℕ) (next : HandshakePhase) (ps : List Packet) (g : Caps) → without_lf line ≡ text
    → run handshake_step (On next) ps ≡ Done g → run handshake_step (wanted_line line text next) ps ≡ Done g
run_wanted line text next ps g e h = rw (wanted line text next e) h

run_hello : (server version : List ℕ) (lines : List (List ℕ)) → without_lf server ≡ codes "git-filter-server"
    → without_lf version ≡ codes "version=2"
    → run handshake_step (On Server) (Payload server ∷ Payload version ∷ Flush ∷ block lines) ≡ Done (caps_in lines)
run_hello server version lines s v =
    run_wanted server (codes "git-filter-server") Version (Payload version ∷ Flush ∷ block lines) (caps_in lines) s
    (run_wanted version (codes "version=2") EndOfHello (Flush ∷ block lines) (caps_in lines) v (run_caps no_caps lines
    ∙ ap Done (more_caps-none lines)))

run_good : (ps : List Packet) (caps : Caps) → IsHandshake ps caps → run handshake_step (On Server) ps ≡ Done caps
run_good ps caps w = rw (w.whole, w.caps_are) (run_hello w.server w.version w.lines w.server_is w.version_is)

-- ---- what is read well is in the grammar

record CapsAre (caps : Caps) (ps : List Packet) (g : Caps) : Type 0 where
  pub lines : List (List ℕ)
  pub whole : ps ≡ block lines
  pub told : g ≡ more_caps caps lines

caps_take : (caps : Caps) (ps : List Packet) (g : Caps) → run handshake_step (On (Capabilities caps)) ps ≡ Done g
    → CapsAre caps ps g
caps_take caps [] g e = absurd (cc)
caps_take caps (Payload l ∷ ps) g e =
    let r = caps_take (with_capability caps l) ps g e in
    record {
      lines = l ∷ r.lines;
      whole = ap (λ (z : List Packet). Payload l ∷ z) r.whole;
      told = r.told
          ∙ more_caps-cons caps l r.lines;
    }
caps_take caps (Flush ∷ ps) g e =
    let o = over_takes handshake_step caps ps g e in
    record { lines = []; whole = ap (λ (z : List Packet). Flush ∷ z) o.0; told = sym o.1 ∙ sym (more_caps-nil caps) }

-- a line that was wanted
line_take : (line text : List ℕ) (next : HandshakePhase) (same : Bool) (ps : List Packet) (g : Caps)
    → bytes_eq (without_lf line) text ≡ same
    → run handshake_step (wanted_line line text next) ps ≡ Done g → (without_lf line ≡ text)
    × (run handshake_step (On next) ps ≡ Done g)
line_take line text next true ps g s e = (bytes_eq-true (without_lf line) text s, rw s at e)
line_take line text next false ps g s e = absurd (broken_stays handshake_step _ ps g (rw s at e))

record EndIs (ps : List Packet) (g : Caps) : Type 0 where
  pub lines : List (List ℕ)
  pub whole : ps ≡ Flush ∷ block lines
  pub told : g ≡ caps_in lines

end_takes : (ps : List Packet) (g : Caps) → run handshake_step (On EndOfHello) ps ≡ Done g → EndIs ps g
end_takes [] g e = absurd (cc)
end_takes (Payload l ∷ ps) g e = absurd (broken_stays handshake_step _ ps g e)
end_takes (Flush ∷ ps) g e =
    let r = caps_take no_caps ps g e in
    record {
      lines = r.lines;
      whole = ap (λ (z : List Packet). Flush ∷ z) r.whole;
      told = r.told
          ∙ more_caps-none r.lines;
    }

record VersionIs (ps : List Packet) (g : Caps) : Type 0 where
  pub version : List ℕ
  pub lines : List (List ℕ)
  pub whole : ps ≡ Payload version ∷ Flush ∷ block lines
  pub version_is : without_lf version ≡ codes "version=2"
  pub told : g ≡ caps_in lines

version_takes : (ps : List Packet) (g : Caps) → run handshake_step (On Version) ps ≡ Done g → VersionIs ps g
version_takes [] g e = absurd (cc)
version_takes (Flush ∷ ps) g e = absurd (broken_stays handshake_step _ ps g e)
version_takes (Payload l ∷ ps) g e =
    let t = line_take l (codes "version=2") EndOfHello _ ps g refl e in
    let r = end_takes ps g t.1 in
    record {
      version = l;
      lines = r.lines;
      whole = ap (λ (z : List Packet). Payload l ∷ z) r.whole;
      version_is =
          t.0;
      told = r.told;
    }

good_runs : (ps : List Packet) (g : Caps) → run handshake_step (On Server) ps ≡ Done g → IsHandshake ps g
good_runs [] g e = absurd (cc)
good_runs (Flush ∷ ps) g e = absurd (broken_stays handshake_step _ ps g e)
good_runs (Payload l ∷ ps) g e =
    let t = line_take l (codes "git-filter-server") Version _ ps g refl e in
    let r = version_takes ps g t.1 in
    record {
      server = l;
      version = r.version;
      lines = r.lines;
      whole = ap (λ (z : List Packet). Payload l ∷ z) r.whole;
      server_is = t.0;
      version_is = r.version_is;
      caps_are = r.told;
    }

-- ---- each phase can still end well

ending : HandshakePhase → List Packet
ending Server = Payload (codes "git-filter-server") ∷ Payload (codes "version=2") ∷ Flush ∷ Flush ∷ []
ending Version = Payload (codes "version=2") ∷ Flush ∷ Flush ∷ []
ending EndOfHello = Flush ∷ Flush ∷ []
ending (Capabilities caps) = Flush ∷ []

ends_as : HandshakePhase → Caps
ends_as Server = no_caps
ends_as Version = no_caps
ends_as EndOfHello = no_caps
ends_as (Capabilities caps) = caps

ends_well : (p : HandshakePhase) → run handshake_step (On p) (ending p) ≡ Done (ends_as p)
unfolding ending ends_as
ends_well Server = refl
ends_well Version = refl
ends_well EndOfHello = refl
ends_well (Capabilities caps) = refl

pub reads_handshake : Reads handshake_step Server IsHandshake
reads_handshake = record {
  reads = run_good;
  was_read = good_runs;
  can_end = λ p. (ending p, ends_as p, ends_well p);
}
