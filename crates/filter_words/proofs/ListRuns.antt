-- Good answers to a list request are those of the grammar.
use Rattle.std.proofs.Common.{◌≡◌, ℕ, Bool, true, false, not, List, [], ◌∷◌, ◌++◌, Option, Some, None, refl, sym, ap}
use Rattle.std.proofs.Common.{subst, ◌∙◌, append_assoc}
use Rattle.std.specs.Prelude.{codes}
use Rattle.std.proofs.lemmas.List.{append-nil}
use Rattle.pkt_line.specs.Packets.{Packet, Payload, Flush}
use Rattle.filter_words.specs.Words.{status_after, last_status, value_of}
use Rattle.filter_words.specs.Listing.{ListPhase, Names, KeyList, GoodList, Listed, Aborted, name_in, after_name}
use Rattle.filter_words.specs.Listing.{after_value, list_status, list_step}
use Rattle.filter_words.specs.Grammar.{block}
use Rattle.filter_words.specs.ListGrammar.{with_name, names_of, AreExpected, EndsList, IsList}
use Rattle.filter_words.specs.declared.words.Status.{Status}
use Rattle.filter_words.specs.declared.words.Status.TheVariants as status
use Rattle.filter_words.specs.declared.answer_state.AnswerState.{AnswerState}
use Rattle.filter_words.specs.declared.answer_state.AnswerState.TheVariants.{On, Done, Broken, Late}
use Rattle.filter_words.proofs.Runs.{run, run-append, broken_stays, over_takes}
use Rattle.filter_words.proofs.GrammarLaws.{Reads}

-- ---- what is in the grammar is read well

not_is : (b : Bool) → b ≡ false → not b ≡ true
not_is b e = rw e refl

expected_name : (delayed listed : List (List ℕ)) (name : List ℕ) → name_in delayed name ≡ true
    → name_in listed name ≡ false
    → after_name delayed listed name ≡ On (Names (listed ++ name ∷ []))
expected_name delayed listed name a b = rw (a, b) refl

-- one line
run_value : (delayed listed : List (List ℕ)) (o : Option (List ℕ)) (names : List (List ℕ)) (ps : List Packet)
    (t : AnswerState ListPhase GoodList)
    → ((before : List (List ℕ)) → AreExpected delayed before names → run (list_step delayed) (On (Names before)) ps
    ≡ On (KeyList (before ++ names) None))
    → AreExpected delayed listed (with_name o names)
    → run (list_step delayed) (after_value delayed listed o) ps ≡ On (KeyList (listed ++ with_name o names) None)
run_value delayed listed None names ps t again w = again listed w
run_value delayed listed (Some name) names ps t again w =
    rw (expected_name delayed listed name w.0 w.1) (again (listed ++ name ∷ []) w.2
    ∙ ap (λ (z : List (List ℕ)). On (KeyList z None)) (append_assoc listed (name ∷ []) names))

run_names : (delayed listed lines : List (List ℕ)) → AreExpected delayed listed (names_of lines)
    → run (list_step delayed) (On (Names listed)) (block lines) ≡ On (KeyList (listed ++ names_of lines) None)
run_names delayed listed [] w = ap (λ (z : List (List ℕ)). On (KeyList z None)) (sym (append-nil listed))
run_names delayed listed (l ∷ ls) w =
    run_value delayed listed (value_of (codes "pathname") l) (names_of ls) (block ls) Late
    (λ before v. run_names delayed before ls v) w

run_keys : (delayed listed : List (List ℕ)) (s : Option Status) (keys : List (List ℕ))
    → run (list_step delayed) (On (KeyList listed s)) (block keys) ≡ list_status listed (last_status s keys)
run_keys delayed listed s [] = refl
run_keys delayed listed s (k ∷ ks) = run_keys delayed listed (status_after s k) ks

ends_good : (s : Option Status) (names : List (List ℕ)) (g : GoodList) → EndsList s names g
    → list_status names s ≡ Done g
ends_good s names (Listed listed) e = rw (e.0, e.1) refl
ends_good s names Aborted e = rw e refl

run_good : (delayed : List (List ℕ)) (ps : List Packet) (g : GoodList) → IsList delayed ps g
    → run (list_step delayed) (On (Names [])) ps ≡ Done g
run_good delayed ps g w =
    rw (
      w.whole,
      run-append (list_step delayed) (On (Names [])) (block w.lines) (block w.keys),
      run_names delayed []
          w.lines w.expected,
      run_keys delayed (names_of w.lines) None w.keys,
    )
    (ends_good _ _ g w.ends)

-- ---- what is read well is in the grammar

good_ends : (s : Option Status) (names : List (List ℕ)) (g : GoodList) → list_status names s ≡ Done g
    → EndsList s names g
good_ends None names g e = absurd (cc)
good_ends (Some status.Success) names (Listed listed) e = (refl, sym (cc))
good_ends (Some status.Success) names Aborted e = absurd (cc)
good_ends (Some status.Abort) names (Listed listed) e = absurd (cc)
good_ends (Some status.Abort) names Aborted e = refl
good_ends (Some status.Error) names g e = absurd (cc)
good_ends (Some status.Delayed) names g e = absurd (cc)
good_ends (Some status.Other) names g e = absurd (cc)

record KeysAre (delayed listed : List (List ℕ)) (s : Option Status) (ps : List Packet) (g : GoodList) : Type 0 where
  pub keys : List (List ℕ)
  pub whole : ps ≡ block keys
  pub ends : EndsList (last_status s keys) listed g

keys_flush : (delayed listed : List (List ℕ)) (s : Option Status) (ps : List Packet) (g : GoodList)
    (t : AnswerState ListPhase GoodList) → list_status listed s ≡ t
    → run (list_step delayed) t ps ≡ Done g → KeysAre delayed listed s (Flush ∷ ps) g
keys_flush delayed listed s ps g (Done h) u e =
    let o = over_takes (list_step delayed) h ps g e in
    record { keys = []; whole = ap (λ (z : List Packet). Flush ∷ z) o.0; ends = good_ends s listed g (u ∙ ap Done o.1) }
keys_flush delayed listed s ps g (Broken why) u e = absurd (broken_stays (list_step delayed) why ps g e)
keys_flush delayed listed s [] g Late u e = absurd (cc)
keys_flush delayed listed s (p ∷ ps) g Late u e = absurd (cc)
keys_flush delayed listed None ps g (On p) u e = absurd (cc)
keys_flush delayed listed (Some status.Success) ps g (On p) u e = absurd (cc)
keys_flush delayed listed (Some status.Abort) ps g (On p) u e = absurd (cc)
keys_flush delayed listed (Some status.Error) ps g (On p) u e = absurd (cc)
keys_flush delayed listed (Some status.Delayed) ps g (On p) u e = absurd (cc)
keys_flush delayed listed (Some status.Other) ps g (On p) u e = absurd (cc)

keys_take : (delayed listed : List (List ℕ)) (s : Option Status) (ps : List Packet) (g : GoodList)
    → run (list_step delayed) (On (KeyList listed s)) ps ≡ Done g → KeysAre delayed listed s ps g
keys_take delayed listed s [] g e = absurd (cc)
keys_take delayed listed s (Payload k ∷ ps) g e =
    let r = keys_take delayed listed (status_after s k) ps g e in
    record { keys = k ∷ r.keys; whole = ap (λ (z : List Packet). Payload k ∷ z) r.whole; ends = r.ends }
keys_take delayed listed s (Flush ∷ ps) g e = keys_flush delayed listed s ps g (list_status listed s) refl e

record NamesAre (delayed listed : List (List ℕ)) (ps : List Packet) (g : GoodList) : Type 0 where
  pub lines : List (List ℕ)
  pub keys : List (List ℕ)
  pub whole : ps ≡ block lines ++ block keys
  pub expected : AreExpected delayed listed (names_of lines)
  pub ends : EndsList (last_status None keys) (listed ++ names_of lines) g

-- a line that names nothing, or an expected path
record ValueIs (delayed listed : List (List ℕ)) (o : Option (List ℕ)) (ps : List Packet) (g : GoodList) : Type 0 where
  pub lines : List (List ℕ)
  pub keys : List (List ℕ)
  pub whole : ps ≡ block lines ++ block keys
  pub expected : AreExpected delayed listed (with_name o (names_of lines))
  pub ends : EndsList (last_status None keys) (listed ++ with_name o (names_of lines)) g

name_take : (delayed listed : List (List ℕ)) (name : List ℕ) (known new : Bool) (ps : List Packet) (g : GoodList)
    → name_in delayed name ≡ known → name_in listed name ≡ new
    → ((before : List (List ℕ)) → run (list_step delayed) (On (Names before)) ps ≡ Done g
    → NamesAre delayed before ps g)
    → run (list_step delayed) (after_name delayed listed name) ps ≡ Done g → ValueIs delayed listed (Some name) ps g
name_take delayed listed name true false ps g a b again e =
    let r = again (listed ++ name ∷ []) (rw (expected_name delayed listed name a b) at e) in
    record {
      lines = r.lines;
      keys = r.keys;
      whole = r.whole;
      expected = (a, b, r.expected);
      ends = rw (append_assoc listed (name ∷ []) (names_of r.lines)) at r.ends;
    }
name_take delayed listed name false new ps g a b again e = absurd (broken_stays (list_step delayed) _ ps g (rw a at e))
name_take delayed listed name true true ps g a b again e =
    absurd (broken_stays (list_step delayed) _ ps g (rw (a, b) at e))

value_take : (delayed listed : List (List ℕ)) (o : Option (List ℕ)) (ps : List Packet) (g : GoodList)
    → ((before : List (List ℕ)) → run (list_step delayed) (On (Names before)) ps ≡ Done g
    → NamesAre delayed before ps g)
    → run (list_step delayed) (after_value delayed listed o) ps ≡ Done g → ValueIs delayed listed o ps g
value_take delayed listed None ps g again e =
    let r = again listed e in
    record { lines = r.lines; keys = r.keys; whole = r.whole; expected = r.expected; ends = r.ends }
value_take delayed listed (Some name) ps g again e = name_take delayed listed name _ _ ps g refl refl again e

names_take : (delayed listed : List (List ℕ)) (ps : List Packet) (g : GoodList)
    → run (list_step delayed) (On (Names listed)) ps ≡ Done g → NamesAre delayed listed ps g
names_take delayed listed [] g e = absurd (cc)
names_take delayed listed (Payload l ∷ ps) g e =
    let r = value_take delayed listed (value_of (codes "pathname") l) ps g
    (λ before f. names_take delayed before ps g f) e in
    record {
      lines = l ∷ r.lines;
      keys = r.keys;
      whole = ap (λ (z : List Packet). Payload l ∷ z) r.whole;
      expected =
          r.expected;
      ends = r.ends;
    }
names_take delayed listed (Flush ∷ ps) g e =
    let r = keys_take delayed listed None ps g e in
    record {
      lines = [];
      keys = r.keys;
      whole = ap (λ (z : List Packet). Flush ∷ z) r.whole;
      expected = tt;
      ends = subst (λ (z : List (List ℕ)). EndsList (last_status None r.keys) z g) (sym (append-nil listed)) r.ends;
    }

good_runs : (delayed : List (List ℕ)) (ps : List Packet) (g : GoodList) → run (list_step delayed) (On (Names [])) ps
    ≡ Done g → IsList delayed ps g
good_runs delayed ps g e =
    let r = names_take delayed [] ps g e in
    record { lines = r.lines; keys = r.keys; whole = r.whole; expected = r.expected; ends = r.ends }

-- ---- each phase can still end well

ending : ListPhase → List Packet
ending (Names listed) = Flush ∷ Payload (codes "status=success") ∷ Flush ∷ []
ending (KeyList listed s) = Payload (codes "status=success") ∷ Flush ∷ []

ends_as : ListPhase → GoodList
ends_as (Names listed) = Listed listed
ends_as (KeyList listed s) = Listed listed

ends_well : (delayed : List (List ℕ)) (p : ListPhase) → run (list_step delayed) (On p) (ending p) ≡ Done (ends_as p)
unfolding ending ends_as
ends_well delayed (Names listed) = refl
ends_well delayed (KeyList listed s) = refl

pub reads_list : (delayed : List (List ℕ)) → Reads (list_step delayed) (Names []) (IsList delayed)
reads_list delayed = record {
  reads = run_good delayed;
  was_read = good_runs delayed;
  can_end = λ p. (ending p, ends_as p, ends_well delayed p);
}
