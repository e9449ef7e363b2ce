-- With what cause an answer breaks within the limit.
use Rattle.std.proofs.Common.{◌≡◌, ◌⊎◌, inl, inr, ℕ, ◌≤◌, Bool, true, false, List, [], ◌∷◌, ◌++◌, Option, Some, None}
use Rattle.std.proofs.Common.{refl, sym, ap, subst, append_assoc, arith}
use Rattle.std.specs.Prelude.{map, length, codes}
use Rattle.std.specs.Str.{bytes_eq}
use Rattle.std.proofs.lemmas.List.{append-nil}
use Rattle.pkt_line.specs.Packets.{Packet, Payload, Flush}
use Rattle.filter_words.specs.Words.{status_after, last_status, value_of, without_lf}
use Rattle.filter_words.specs.Grammar.{block}
use Rattle.filter_words.specs.SmudgeReply.{reply_step, first_state, last_state}
use Rattle.filter_words.specs.ReplyGrammar.{BreaksFirst, BreaksLast, BreaksReply}
use Rattle.filter_words.specs.Listing.{ListPhase, Names, GoodList, name_in, after_name, after_value, list_step}
use Rattle.filter_words.specs.Listing.{list_status}
use Rattle.filter_words.specs.Listing as listing
use Rattle.filter_words.specs.ListGrammar.{with_name, names_of, AreExpected, is_strange, BreaksEnd, BreaksFrom}
use Rattle.filter_words.specs.Handshake.{handshake_step, wanted_line, with_capability}
use Rattle.filter_words.specs.HandshakeGrammar.{BreaksHandshake}
use Rattle.filter_words.specs.declared.reply.Caps.{Caps}
use Rattle.filter_words.specs.declared.reply.BreakCause.{BreakCause}
use Rattle.filter_words.specs.declared.reply.BreakCause.TheVariants as cause
use Rattle.filter_words.specs.declared.handshake.HandshakePhase.{HandshakePhase}
use Rattle.filter_words.specs.declared.handshake.HandshakePhase.TheVariants.{Server, Version, EndOfHello, Capabilities}
use Rattle.filter_words.specs.declared.words.Status.{Status}
use Rattle.filter_words.specs.declared.words.Status.TheVariants as status
use Rattle.filter_words.specs.declared.smudge_reply.ReplyPhase.TheVariants.{KeyList, Content, LastKeyList}
use Rattle.filter_words.specs.declared.answer_state.AnswerState.{AnswerState}
use Rattle.filter_words.specs.declared.answer_state.AnswerState.TheVariants.{On, Done, Broken}
use Rattle.filter_words.proofs.Runs.{run}

-- what is over isn't broken, and what is broken has its cause and takes no packet more
over_not : {P G : Type 0} {A : Type 0} (step : P → Packet → AnswerState P G) (g : G) (ps : List Packet)
    (why : BreakCause) → run step (Done g) ps ≡ Broken why → A
over_not step g [] why e = absurd (cc (e))
over_not step g (p ∷ ps) why e = absurd (cc (e))

broken_now : {P G : Type 0} (step : P → Packet → AnswerState P G) (c : BreakCause) (ps : List Packet) (why : BreakCause)
    → run step (Broken c) ps ≡ Broken why → (ps ≡ []) × (c ≡ why)
broken_now step c [] why e = (refl, cc (e))
broken_now step c (p ∷ ps) why e = absurd (cc (e))

-- ---- replies

-- a flush packet that breaks a reply after its content
last_now : (d : Bool) (s : Option Status) (ps : List Packet) (why : BreakCause) → run (reply_step d) (last_state s) ps
    ≡ Broken why → (ps ≡ []) × BreaksLast s why
last_now d None ps why e = over_not (reply_step d) _ ps why e
last_now d (Some status.Success) ps why e = over_not (reply_step d) _ ps why e
last_now d (Some status.Error) ps why e = over_not (reply_step d) _ ps why e
last_now d (Some status.Abort) ps why e = over_not (reply_step d) _ ps why e
last_now d (Some status.Delayed) ps why e = let b = broken_now (reply_step d) cause.UnknownStatus ps why e in
    (b.0, subst (BreaksLast (Some status.Delayed)) b.1 (inl refl))
last_now d (Some status.Other) ps why e = let b = broken_now (reply_step d) cause.UnknownStatus ps why e in
    (b.0, subst (BreaksLast (Some status.Other)) b.1 (inr refl))

last_breaks : (d : Bool) (s : Option Status) (ps : List Packet) (why : BreakCause)
    → run (reply_step d) (On (LastKeyList s)) ps ≡ Broken why
    → (lines : List (List ℕ)) × (ps ≡ block lines) × BreaksLast (last_status s lines) why
last_breaks d s [] why e = absurd (cc (e))
last_breaks d s (Payload l ∷ ps) why e =
    let r = last_breaks d (status_after s l) ps why e in
    (l ∷ r.0, ap (λ (z : List Packet). Payload l ∷ z) r.1, r.2)
last_breaks d s (Flush ∷ ps) why e = let r = last_now d s ps why e in ([], ap (λ (z : List Packet). Flush ∷ z) r.0, r.1)

content_breaks : (d : Bool) (ps : List Packet) (why : BreakCause) → run (reply_step d) (On Content) ps ≡ Broken why
    → (pieces : List (List ℕ)) × (lines : List (List ℕ)) × (ps ≡ block pieces ++ block lines)
    × BreaksLast (last_status None lines) why
content_breaks d [] why e = absurd (cc (e))
content_breaks d (Payload l ∷ ps) why e =
    let r = content_breaks d ps why e in
    (l ∷ r.0, r.1, ap (λ (z : List Packet). Payload l ∷ z) r.2, r.3)
content_breaks d (Flush ∷ ps) why e =
    let r = last_breaks d None ps why e in
    ([], r.0, ap (λ (z : List Packet). Flush ∷ z) r.1, r.2)

abbrev KeysBreak : Bool → Option Status → List Packet → BreakCause → Type 0
KeysBreak d s ps why =
    ((lines : List (List ℕ)) × (ps ≡ block lines) × BreaksFirst d (last_status s lines) why)
    ⊎ ((lines : List (List ℕ)) × (pieces : List (List ℕ)) × (more : List (List ℕ))
    × (ps ≡ block lines ++ (block pieces ++ block more))
    × (last_status s lines ≡ Some status.Success) × BreaksLast (last_status None more) why)

short_now : (d : Bool) (s : Option Status) (c : BreakCause) (ps : List Packet) (why : BreakCause) → BreaksFirst d s c
    → run (reply_step d) (Broken c) ps ≡ Broken why → KeysBreak d s (Flush ∷ ps) why
short_now d s c ps why w e =
    let b = broken_now (reply_step d) c ps why e in
    inl ([], ap (λ (z : List Packet). Flush ∷ z) b.0, subst (BreaksFirst d s) b.1 w)

keys_now : (d : Bool) (s : Option Status) (ps : List Packet) (why : BreakCause)
    → run (reply_step d) (first_state d s) ps ≡ Broken why → KeysBreak d s (Flush ∷ ps) why
keys_now d None ps why e = short_now d None cause.UnknownStatus ps why (inl refl) e
keys_now d (Some status.Success) ps why e =
    let r = content_breaks d ps why e in
    inr ([], r.0, r.1, ap (λ (z : List Packet). Flush ∷ z) r.2, refl, r.3)
keys_now d (Some status.Error) ps why e = over_not (reply_step d) _ ps why e
keys_now d (Some status.Abort) ps why e = over_not (reply_step d) _ ps why e
keys_now true (Some status.Delayed) ps why e = over_not (reply_step true) _ ps why e
keys_now false (Some status.Delayed) ps why e = short_now false (Some status.Delayed) cause.StrangeDelay ps why
    (refl, refl) e
keys_now d (Some status.Other) ps why e = short_now d (Some status.Other) cause.UnknownStatus ps why (inr refl) e

keys_break : (d : Bool) (s : Option Status) (ps : List Packet) (why : BreakCause)
    → run (reply_step d) (On (KeyList s)) ps ≡ Broken why → KeysBreak d s ps why
keys_break d s [] why e = absurd (cc (e))
keys_break d s (Payload l ∷ ps) why e = elim (keys_break d (status_after s l) ps why e) [
  | inl r ↦ inl (l ∷ r.0, ap (λ (z : List Packet). Payload l ∷ z) r.1, r.2)
  | inr r ↦ inr (l ∷ r.0, r.1, r.2, ap (λ (z : List Packet). Payload l ∷ z) r.3, r.4, r.5)
]
keys_break d s (Flush ∷ ps) why e = keys_now d s ps why e

pub breaks_reply : (d : Bool) (ps : List Packet) (why : BreakCause) → run (reply_step d) (On (KeyList None)) ps
    ≡ Broken why → BreaksReply d ps why
breaks_reply d ps why e = elim (keys_break d None ps why e) [
  | inl r ↦ inl (record { keys = r.0; whole = r.1; breaks = r.2 })
  | inr r ↦ inr (record { keys = r.0; pieces = r.1; last_keys = r.2; whole = r.3; success = r.4; breaks = r.5 })
]

-- ---- answers to a list request

end_now : (delayed names : List (List ℕ)) (s : Option Status) (ps : List Packet) (why : BreakCause)
    → run (list_step delayed) (list_status names s) ps ≡ Broken why → (ps ≡ []) × BreaksEnd s why
end_now delayed names (Some status.Success) ps why e = over_not (list_step delayed) _ ps why e
end_now delayed names (Some status.Abort) ps why e = over_not (list_step delayed) _ ps why e
end_now delayed names (Some status.Error) ps why e = let b = broken_now (list_step delayed) cause.ListRefused ps why e
    in (b.0, subst (BreaksEnd (Some status.Error)) b.1 refl)
end_now delayed names None ps why e = let b = broken_now (list_step delayed) cause.UnknownStatus ps why e in
    (b.0, subst (BreaksEnd None) b.1 (inl refl))
end_now delayed names (Some status.Delayed) ps why e = let b = broken_now (list_step delayed) cause.UnknownStatus ps why
    e in (b.0, subst (BreaksEnd (Some status.Delayed)) b.1 (inr (inl refl)))
end_now delayed names (Some status.Other) ps why e = let b = broken_now (list_step delayed) cause.UnknownStatus ps why e
    in (b.0, subst (BreaksEnd (Some status.Other)) b.1 (inr (inr refl)))

end_breaks : (delayed names : List (List ℕ)) (s : Option Status) (ps : List Packet) (why : BreakCause)
    → run (list_step delayed) (On (listing.KeyList names s)) ps ≡ Broken why
    → (keys : List (List ℕ)) × (ps ≡ block keys) × BreaksEnd (last_status s keys) why
end_breaks delayed names s [] why e = absurd (cc (e))
end_breaks delayed names s (Payload k ∷ ps) why e =
    let r = end_breaks delayed names (status_after s k) ps why e in
    (k ∷ r.0, ap (λ (z : List Packet). Payload k ∷ z) r.1, r.2)
end_breaks delayed names s (Flush ∷ ps) why e = let r = end_now delayed names s ps why e in
    ([], ap (λ (z : List Packet). Flush ∷ z) r.0, r.1)

-- one line more, which names nothing or an expected path
more_end : (delayed before : List (List ℕ)) (l : List ℕ) (o : Option (List ℕ)) (lines keys : List (List ℕ))
    (ps : List Packet) (why : BreakCause)
    → value_of (codes "pathname") l ≡ o → ps ≡ block lines ++ block keys
    → AreExpected delayed before (with_name o (names_of lines)) → BreaksEnd (last_status None keys) why
    → BreaksFrom delayed before (Payload l ∷ ps) why
more_end delayed before l o lines keys ps why is whole expected breaks =
    inr (record {
      lines = l ∷ lines;
      keys = keys;
      whole = ap (λ (z : List Packet). Payload l ∷ z) whole;
      expected = subst (λ (z : Option (List ℕ)). AreExpected delayed before (with_name z (names_of lines))) (sym is)
          expected;
      breaks = breaks;
    })

more_strange : (delayed before : List (List ℕ)) (l : List ℕ) (o : Option (List ℕ)) (lines : List (List ℕ)) (line name :
    List ℕ) (ps : List Packet) (why : BreakCause)
    → why ≡ cause.StrangePath → value_of (codes "pathname") l ≡ o → ps ≡ map Payload lines ++ Payload line ∷ []
    → AreExpected delayed before (with_name o (names_of lines))
    → value_of (codes "pathname") line ≡ Some name → is_strange delayed (before ++ with_name o (names_of lines)) name
    ≡ true
    → BreaksFrom delayed before (Payload l ∷ ps) why
more_strange delayed before l o lines line name ps why cause_is is whole expected names strange =
    inl (
      cause_is,
      record {
        lines = l ∷ lines;
        line = line;
        name = name;
        whole = ap (λ (z : List Packet). Payload l ∷ z) whole;
        expected = subst (λ (z : Option (List ℕ)). AreExpected delayed before (with_name z (names_of lines))) (sym is)
            expected;
        names = names;
        strange = subst (λ (z : Option (List ℕ)). is_strange delayed (before ++ with_name z (names_of lines)) name
            ≡ true) (sym is) strange;
      },
    )

plain_more : (delayed before : List (List ℕ)) (l : List ℕ) (ps : List Packet) (why : BreakCause)
    → value_of (codes "pathname") l ≡ None
    → BreaksFrom delayed before ps why → BreaksFrom delayed before (Payload l ∷ ps) why
plain_more delayed before l ps why is (inl h) = let r = h.1 in more_strange delayed before l None r.lines r.line r.name
    ps why h.0 is r.whole r.expected r.names r.strange
plain_more delayed before l ps why is (inr r) = more_end delayed before l None r.lines r.keys ps why is r.whole
    r.expected r.breaks

named_more : (delayed before : List (List ℕ)) (l name : List ℕ) (ps : List Packet) (why : BreakCause)
    → value_of (codes "pathname") l ≡ Some name
    → name_in delayed name ≡ true → name_in before name ≡ false → BreaksFrom delayed (before ++ name ∷ []) ps why
    → BreaksFrom delayed before (Payload l ∷ ps) why
named_more delayed before l name ps why is a b (inl h) =
    let r = h.1 in
    more_strange delayed before l (Some name) r.lines r.line r.name ps why h.0 is r.whole (a, b, r.expected) r.names
    (subst (λ (z : List (List ℕ)). is_strange delayed z r.name ≡ true)
    (append_assoc before (name ∷ []) (names_of r.lines)) r.strange)
named_more delayed before l name ps why is a b (inr r) = more_end delayed before l (Some name) r.lines r.keys ps why is
    r.whole (a, b, r.expected) r.breaks

strange_now : (delayed before : List (List ℕ)) (l name : List ℕ) (ps : List Packet) (why : BreakCause)
    → value_of (codes "pathname") l ≡ Some name
    → is_strange delayed before name ≡ true → run (list_step delayed) (Broken cause.StrangePath) ps ≡ Broken why
    → BreaksFrom delayed before (Payload l ∷ ps) why
strange_now delayed before l name ps why is strange e =
    let b = broken_now (list_step delayed) cause.StrangePath ps why e in
    inl (
      sym b.1,
      record {
        lines = [];
        line = l;
        name = name;
        whole = ap (λ (z : List Packet). Payload l ∷ z) b.0;
        expected = tt;
        names = is;
        strange = subst (λ (z : List (List ℕ)). is_strange delayed z name ≡ true) (sym (append-nil before)) strange;
      },
    )

name_break : (delayed before : List (List ℕ)) (l name : List ℕ) (known new : Bool) (ps : List Packet) (why : BreakCause)
    → value_of (codes "pathname") l ≡ Some name
    → name_in delayed name ≡ known → name_in before name ≡ new
    → (run (list_step delayed) (On (Names (before ++ name ∷ []))) ps ≡ Broken why
    → BreaksFrom delayed (before ++ name ∷ []) ps why)
    → run (list_step delayed) (after_name delayed before name) ps ≡ Broken why
    → BreaksFrom delayed before (Payload l ∷ ps) why
name_break delayed before l name true false ps why is a b again e =
    named_more delayed before l name ps why is a b (again (rw (a, b) at e))
name_break delayed before l name false new ps why is a b again e =
    strange_now delayed before l name ps why is (rw a refl) (rw a at e)
name_break delayed before l name true true ps why is a b again e =
    strange_now delayed before l name ps why is (rw (a, b) refl) (rw (a, b) at e)

value_break : (delayed before : List (List ℕ)) (l : List ℕ) (o : Option (List ℕ)) (ps : List Packet) (why : BreakCause)
    → value_of (codes "pathname") l ≡ o
    → ((listed : List (List ℕ)) → run (list_step delayed) (On (Names listed)) ps ≡ Broken why
    → BreaksFrom delayed listed ps why)
    → run (list_step delayed) (after_value delayed before o) ps ≡ Broken why
    → BreaksFrom delayed before (Payload l ∷ ps) why
value_break delayed before l None ps why is again e = plain_more delayed before l ps why is (again before e)
value_break delayed before l (Some name) ps why is again e = name_break delayed before l name _ _ ps why is refl refl
    (again (before ++ name ∷ [])) e

pub breaks_list : (delayed before : List (List ℕ)) (ps : List Packet) (why : BreakCause)
    → run (list_step delayed) (On (Names before)) ps ≡ Broken why → BreaksFrom delayed before ps why
breaks_list delayed before [] why e = absurd (cc (e))
breaks_list delayed before (Payload l ∷ ps) why e =
    value_break delayed before l (value_of (codes "pathname") l) ps why refl
    (λ listed f. breaks_list delayed listed ps why f) e
breaks_list delayed before (Flush ∷ ps) why e =
    let r = end_breaks delayed before None ps why e in
    inr (record {
      lines = [];
      keys = r.0;
      whole = ap (λ (z : List Packet). Flush ∷ z) r.1;
      expected = tt;
      breaks =
          r.2;
    })

-- ---- handshakes

caps_not : {A : Type 0} (caps : Caps) (ps : List Packet) (why : BreakCause)
    → run handshake_step (On (Capabilities caps)) ps ≡ Broken why → A
caps_not caps [] why e = absurd (cc (e))
caps_not caps (Payload l ∷ ps) why e = caps_not (with_capability caps l) ps why e
caps_not caps (Flush ∷ ps) why e = over_not handshake_step caps ps why e

none_more : (ps : List Packet) → ps ≡ [] → length ps ≤ 0
none_more ps h = omega (arith, ap length h)

bad_now : (ps : List Packet) (why : BreakCause) → run handshake_step (Broken cause.BadHandshake) ps ≡ Broken why
    → (why ≡ cause.BadHandshake) × (length ps ≤ 0)
bad_now ps why e = let b = broken_now handshake_step cause.BadHandshake ps why e in (sym b.1, none_more ps b.0)

end_bad : (ps : List Packet) (why : BreakCause) → run handshake_step (On EndOfHello) ps ≡ Broken why
    → (why ≡ cause.BadHandshake) × (length ps ≤ 1)
end_bad [] why e = absurd (cc (e))
end_bad (Payload l ∷ ps) why e = let b = bad_now ps why e in (b.0, let n = b.1 in omega arith)
end_bad (Flush ∷ ps) why e = caps_not _ ps why e

line_bad : (line text : List ℕ) (next : HandshakePhase) (same : Bool) (ps : List Packet) (why : BreakCause) (n : ℕ)
    → bytes_eq (without_lf line) text ≡ same
    → (run handshake_step (On next) ps ≡ Broken why → (why ≡ cause.BadHandshake) × (length ps ≤ n))
    → run handshake_step (wanted_line line text next) ps ≡ Broken why → (why ≡ cause.BadHandshake) × (length ps ≤ n)
line_bad line text next true ps why n s again e = again (rw s at e)
line_bad line text next false ps why n s again e = let b = bad_now ps why (rw s at e) in
    (b.0, let m = b.1 in omega arith)

version_bad : (ps : List Packet) (why : BreakCause) → run handshake_step (On Version) ps ≡ Broken why
    → (why ≡ cause.BadHandshake) × (length ps ≤ 2)
version_bad [] why e = absurd (cc (e))
version_bad (Flush ∷ ps) why e = let b = bad_now ps why e in (b.0, let n = b.1 in omega arith)
version_bad (Payload l ∷ ps) why e =
    let b = line_bad l (codes "version=2") EndOfHello _ ps why 1 refl (λ f. end_bad ps why f) e in
    (b.0, let n = b.1 in omega arith)

pub breaks_handshake : (ps : List Packet) (why : BreakCause) → run handshake_step (On Server) ps ≡ Broken why
    → BreaksHandshake ps why
breaks_handshake [] why e = absurd (cc (e))
breaks_handshake (Flush ∷ ps) why e = let b = bad_now ps why e in (b.0, let n = b.1 in omega arith)
breaks_handshake (Payload l ∷ ps) why e =
    let b = line_bad l (codes "git-filter-server") Version _ ps why 2 refl (λ f. version_bad ps why f) e in
    (b.0, let n = b.1 in omega arith)
