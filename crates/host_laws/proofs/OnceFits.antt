-- No answer of a host whose runs are all told is over the limit.
use Rattle.std.proofs.Common.{◌≡◌, ℕ, zero, suc, ◌+◌, ◌*◌, ◌≤◌, Bool, true, false, if◌then◌else◌, ◌&&◌, List, [], ◌∷◌, ◌++◌}
use Rattle.std.proofs.Common.{map, take, drop, length, length-append, Option, Some, None, refl, sym, ap, ◌∙◌, subst, arith}
use Rattle.std.proofs.Common.{take-append-drop}
use Rattle.std.specs.Prelude.{nat_le}
use Rattle.std.proofs.lemmas.Grind.{common_steps}
use Rattle.pkt_line.specs.Packets.{Packet, Payload, Flush, total}
use Rattle.pkt_line.specs.Spelling.{content_packets, pieces_of, piece_count}
use Rattle.filter_words.specs.Outcomes.{limit}
use Rattle.filter_words.specs.Listing.{name_in}
use Rattle.filter_words.specs.declared.reply.Caps.{Caps}
use Rattle.edge_kit.specs.Told.{Tells}
use Rattle.driver_host.specs.declared.work.Choice.{Choice}
use Rattle.driver_host.specs.declared.work.Choice.TheVariants as choice
use Rattle.driver_host.specs.declared.work.LateChoice.{LateChoice}
use Rattle.driver_host.specs.Requests.{Request, Hello, Offer, Smudge, Listing}
use Rattle.driver_host.specs.Answers.{choice_answer, hello_answer, caps_answer, both}
use Rattle.driver_host.specs.HostText.{Stage, Fresh, Greeted, Serving, Over, Owed, AllAnswered, after_choice, none_owed}
use Rattle.driver_host.specs.Chosen.{Contents, AreChosen, IsChosen, IsSecond, contents_after, choice_of}
use Rattle.one_shot.specs.Onces.{OnceTold, Ended, Failing, Untold, RunsTold, told_of}
use Rattle.one_shot.specs.Replies.{smudge_alone}
use Rattle.one_shot.specs.Works.{choice_told, work_told, most_output}
use Rattle.host_laws.specs.HostTalks.{AnswersFit}
use Rattle.host_laws.proofs.OneParse.{total_both}
use Rattle.host_laws.proofs.OnceSteps.{head_of, tail_of}

pieces_total : (n : ℕ) (content : List ℕ) → total (map Payload (pieces_of n content)) ≤ 4 * n + length content
pieces_total zero content = omega arith
pieces_total (suc n) content =
    let more = pieces_total n (drop 65516 content) in
    let whole = ap (λ (z : List ℕ). length z) (take-append-drop 65516 content) in
    let both_are = length-append (take 65516 content) (drop 65516 content) in
    omega (arith, more, whole, both_are)

content_total : (content : List ℕ) → length content ≤ most_output → total (content_packets content) ≤ 536040000
content_total content le =
    let pieces = pieces_total (piece_count (length content)) content in
    omega (arith, pieces, le)

-- the answer of a choice is within the limit

abbrev pub Fits : Choice → Type 0
Fits c = total (choice_answer c) ≤ limit

given_fits : (content : List ℕ) → length content ≤ most_output → Fits (choice.Give content)
given_fits content le =
    let one = content_total content le in
    let two = total_both (content_packets content) (Flush ∷ Flush ∷ []) in
    omega (arith, one, two)

if_fits : (b : Bool) (output : List ℕ) → (b ≡ true → length output ≤ most_output)
    → Fits (if b then choice.Give output else choice.Refuse)
if_fits true output le = given_fits output (le refl)
if_fits false output le = omega arith

ended_long : (well : Bool) (output : List ℕ) → (well && nat_le (length output) most_output) ≡ true → length output ≤ most_output
ended_long true output e = grind (arith, common_steps, e)
ended_long false output e = absurd (cc e)

told_fits : (t : OnceTold) (c : Choice) → (t ≡ Untold → ⊥) → Tells (choice_told t) c → Fits c
told_fits (Ended output well) c some is =
    subst Fits is (if_fits (well && nat_le (length output) most_output) output (ended_long well output))
told_fits Failing c some is = subst Fits is (omega arith)
told_fits Untold c some is = absurd (some refl)

module _ (tells : RunsTold) (command : List ℕ) (batch : ℕ) (told : (c i : List ℕ) → told_of tells c i ≡ Untold → ⊥) where
  second_fits : (path : List ℕ) (known : Option (List ℕ)) (c : Choice) → IsSecond (work_told tells command) path known c → Fits c
  second_fits path None c is = absurd is
  second_fits path (Some content) c is =
      subst Fits (sym is.1) (subst (λ (l : LateChoice). Fits (choice_of l)) is.2 (omega arith))

  chosen_fits : (b : Bool) (contents : Contents) (path content : List ℕ) (d : Bool) (c : Choice)
      → IsChosen (work_told tells command) contents b path d content c → Fits c
  chosen_fits true contents path content d c is = second_fits path (contents path) c is
  chosen_fits false contents path content d c is = told_fits _ c (told _ content) is

  -- nothing may wait
  abbrev NoDelay : Stage → Type 0
  NoDelay (Serving agreed owed) = agreed.delay ≡ false
  NoDelay s = Unit {0}

  after_no_delay : (agreed : Caps) (owed : Owed) (path : List ℕ) (c : Choice) → agreed.delay ≡ false
      → NoDelay (after_choice agreed owed path c)
  after_no_delay agreed owed path (choice.Give b) e = e
  after_no_delay agreed owed path choice.Refuse e = e
  after_no_delay agreed owed path choice.Later e = e
  after_no_delay agreed owed path choice.Stop e = tt

  abbrev Fitting : List Request → Type 0
  Fitting rs = (s t : Stage) (choices : List Choice) (answers : List Packet) (contents last : Contents) → NoDelay s
      → (all : AllAnswered smudge_alone batch s rs choices answers t)
      → AreChosen (work_told tells command) smudge_alone batch s contents rs choices t last
      → AnswersFit smudge_alone batch rs s t choices answers all

  -- a request of a handshake
  on_hands : (r : Request) (rs : List Request) → Fitting rs → (s mid t : Stage) (first : List Packet)
      → total first ≤ limit → NoDelay mid → (choices : List Choice) (answers : List Packet) (contents last : Contents)
      → (all : AllAnswered smudge_alone batch s (r ∷ rs) choices answers t) → all.1 ≡ [] → all.3 ≡ first → all.0 ≡ mid
      → AreChosen (work_told tells command) smudge_alone batch mid contents rs choices t last
      → AnswersFit smudge_alone batch (r ∷ rs) s t choices answers all
  on_hands r rs go s mid t first fit none choices answers contents last all no_choice is stage chosen = (
    subst (λ (z : List Packet). total z ≤ limit) (sym is) fit,
    go all.0 t all.2 all.4 contents last (subst NoDelay (sym stage) none) all.8
        (subst (λ (z : Stage). AreChosen (work_told tells command) smudge_alone batch z contents rs all.2 t last) (sym stage)
        (subst (λ (z : List Choice). AreChosen (work_told tells command) smudge_alone batch mid contents rs z t last)
        (all.5 ∙ ap (λ (z : List Choice). z ++ all.2) no_choice) chosen)),
  )

  on_smudge : (path : List ℕ) (d : Bool) (content : List ℕ) (rs : List Request) → Fitting rs → (agreed : Caps) (owed : Owed)
      (t : Stage) (choices : List Choice) (answers : List Packet) (contents last : Contents) → agreed.delay ≡ false
      → (all : AllAnswered smudge_alone batch (Serving agreed owed) (Smudge path d content ∷ rs) choices answers t)
      → AreChosen (work_told tells command) smudge_alone batch (Serving agreed owed) contents (Smudge path d content ∷ rs) choices t last
      → AnswersFit smudge_alone batch (Smudge path d content ∷ rs) (Serving agreed owed) t choices answers all
  on_smudge path d content rs go agreed owed t choices answers contents last none all chosen =
      let x = all.7.2 in
      let same : chosen.0 ∷ chosen.1 ≡ x.0 ∷ all.2 =
      sym chosen.2 ∙ (all.5 ∙ ap (λ (z : List Choice). z ++ all.2) x.1) in
      let one : chosen.0 ≡ x.0 = ap (λ (z : List Choice). head_of chosen.0 z) same in
      let others : chosen.1 ≡ all.2 = ap (λ (z : List Choice). tail_of z) same in
      let fit = chosen_fits (name_in owed.listed path) contents path content d chosen.0 chosen.3 in
      let contents2 = contents_after contents (name_in owed.listed path) path content in (
        subst (λ (z : List Packet). total z ≤ limit) (sym x.3) (subst Fits one fit),
        go all.0 t all.2 all.4 contents2 last (subst NoDelay (sym x.4) (after_no_delay agreed owed path x.0 none)) all.8
            (subst (λ (z : Stage). AreChosen (work_told tells command) smudge_alone batch z contents2 rs all.2 t last) (sym x.4)
            (subst (λ (z : Choice). AreChosen (work_told tells command) smudge_alone batch (after_choice agreed owed path z) contents2 rs all.2 t last)
            one
            (subst (λ (z : List Choice). AreChosen (work_told tells command) smudge_alone batch (after_choice agreed owed path chosen.0) contents2 rs z t last)
            others chosen.4))),
      )

  no_list : {b : Bool} → b ≡ false → b ≡ true → ⊥
  no_list e f = let no : true ≡ false = sym f ∙ e in cc

  caps_fit : (x : Bool) → total (caps_answer (record { smudge = x; delay = false })) ≤ limit
  caps_fit true = omega arith
  caps_fit false = omega arith

  pub fitting : (rs : List Request) → Fitting rs
  fitting [] s t choices answers contents last none all chosen = tt
  fitting (Hello ∷ rs) Fresh t choices answers contents last none all chosen =
      on_hands Hello rs (fitting rs) Fresh Greeted t hello_answer (omega arith) tt choices answers contents last all
      all.7.0 all.7.1 all.7.2 chosen
  fitting (Offer offered ∷ rs) Greeted t choices answers contents last none all chosen =
      on_hands (Offer offered) rs (fitting rs) Greeted (Serving (both smudge_alone offered) none_owed) t
      (caps_answer (both smudge_alone offered)) (caps_fit offered.smudge) refl choices answers contents last all
      all.7.0 all.7.1 all.7.2 chosen
  fitting (Listing ∷ rs) (Serving agreed owed) t choices answers contents last none all chosen = absurd (no_list none all.7.0)
  fitting (Smudge path d content ∷ rs) (Serving agreed owed) t choices answers contents last none all chosen =
      on_smudge path d content rs (fitting rs) agreed owed t choices answers contents last none all chosen
  fitting (Hello ∷ rs) Greeted t choices answers contents last none all chosen = absurd all.7
  fitting (Hello ∷ rs) (Serving agreed owed) t choices answers contents last none all chosen = absurd all.7
  fitting (Offer c ∷ rs) Fresh t choices answers contents last none all chosen = absurd all.7
  fitting (Offer c ∷ rs) (Serving agreed owed) t choices answers contents last none all chosen = absurd all.7
  fitting (Listing ∷ rs) Fresh t choices answers contents last none all chosen = absurd all.7
  fitting (Listing ∷ rs) Greeted t choices answers contents last none all chosen = absurd all.7
  fitting (Smudge path d content ∷ rs) Fresh t choices answers contents last none all chosen = absurd all.7
  fitting (Smudge path d content ∷ rs) Greeted t choices answers contents last none all chosen = absurd all.7
  fitting (r ∷ rs) Over t choices answers contents last none all chosen = absurd all.7
