-- A link to a host that runs a command, call by call.
use Rattle.std.specs.Prelude.{IsTrue}
use Rattle.std.proofs.Common.{◌≡◌, ◌==◌, ℕ, zero, suc, ◌<◌, ◌≤◌, ◌+◌, Bool, true, false, List, [], ◌++◌, take, drop, length, Option, Some, None, refl, sym, ap, subst, ◌∙◌, arith}
use Rattle.std.proofs.lemmas.Bool.{eqb-true}
use Rattle.std.proofs.lemmas.List.{append-nil}
use Rattle.edge_kit.specs.Faults.{Rose}
use Rattle.edge_kit.specs.Files.{grown}
use Rattle.edge_kit.specs.Told.{Tells}
use Rattle.edge_kit.specs.Links.{LinkSeen, Left, LeftUntold, LeftBytes, LeftAnswers, Replies, replies_in, led, TellsLeft, IsSendCut, IsRead, IsNewLink}
use Rattle.edge_kit.specs.Starters.{NextGives, behind_next}
use Rattle.filter_words.specs.declared.reply.Caps.{Caps}
use Rattle.driver_host.specs.Works.{WorkTold}
use Rattle.driver_host.specs.HostLinks.{HasText, LinkState, link_seen, kept_bytes, left_of}
use Rattle.driver_host.specs.Talks.{IsSameHost}
use Rattle.driver_host.specs.Hosts.{HostSeen}
use Rattle.one_shot.specs.Onces.{RunsTold, RunsUntold, RunsListed}
use Rattle.one_shot.specs.Starters.{single_starts}
use Rattle.one_shot.specs.Works.{work_told}
use Rattle.one_shot.specs.Replies.{smudge_alone, told_by, answers_of, answers_if, RunState, run_seen, HasTalk, IsRunLink, IsServed, record_of}

-- a work that runs a command chooses by its runs
pub plain_work : (told : RunsTold) (command : List ℕ) (replies : Replies) → (work_told told command).runs ≡ Some replies → work_told told command ≡ told_by replies
plain_work RunsUntold command replies e = absurd (cc e)
plain_work (RunsListed runs) command replies e =
    let same : record { command = command; runs = runs } ≡ replies = cc e in ap told_by same

-- no call of a host's link fails
pub never_rises : Rose 0 0 → ⊥
never_rises r = let lt : 0 < 0 = r.risen (λ e. absurd (cc e)) in omega (arith, lt)

-- what was sent and taken

-- the answers are told if the link tells, and not if not
no_bytes_of : (o : Option Replies) (bytes : List ℕ) → answers_of o ≡ LeftBytes bytes → ⊥
no_bytes_of None bytes e = cc e
no_bytes_of (Some r) bytes e = cc e

no_bytes : (b : Bool) (told : WorkTold) (bytes : List ℕ) → answers_if b told ≡ LeftBytes bytes → ⊥
no_bytes true told bytes e = no_bytes_of told.runs bytes e
no_bytes false told bytes e = cc e

led_of : (o : Option Replies) (piece : List ℕ) → answers_of o ≡ led piece (answers_of o)
led_of None piece = refl
led_of (Some r) piece = refl

led_answers : (b : Bool) (told : WorkTold) (piece : List ℕ) → answers_if b told ≡ led piece (answers_if b told)
led_answers true told piece = led_of told.runs piece
led_answers false told piece = refl

replies_of : (o : Option Replies) → replies_in (answers_of o) ≡ o
replies_of None = refl
replies_of (Some r) = refl

-- nothing is sent
pub sends_none : (piece : List ℕ) (old : LinkSeen) (faults : ℕ) → IsSendCut piece old (record old { faults = faults })
sends_none piece old faults = record {
  part = record { front = []; after = piece; cut = refl; told = sym (no_more old.sent); proper = λ some. some };
  kept = refl;
}
  where
    no_more : (told : Option (List ℕ)) → grown told [] ≡ told
    no_more None = refl
    no_more (Some t) = ap (λ (z : List ℕ). Some z) (append-nil t)

-- the link below changed, and its host tells the same
pub seen_after : {W : Type 0} (told : W → WorkTold) (l : RunState W) (k : LinkState W) (over : Bool) (s : LinkSeen)
    → link_seen k ≡ s → k.tells ≡ l.link.tells → told k.host.talk.work ≡ told l.link.host.talk.work
    → run_seen told (record l { link = k; over = over }) ≡ record s { left = answers_if l.link.tells (told l.link.host.talk.work); faults = l.faults }
seen_after told l k over s is tells works =
    ap (λ (x : LinkSeen). record x { left = answers_if k.tells (told k.host.talk.work); faults = l.faults }) is
    ∙ (ap (λ (b : Bool). record s { left = answers_if b (told k.host.talk.work); faults = l.faults }) tells
    ∙ ap (λ (w : WorkTold). record s { left = answers_if l.link.tells w; faults = l.faults }) works)

-- a session is served as its link is
pub serves : {W : Type 0} (told : W → WorkTold) (l : RunState W) → IsRunLink told l → IsServed (record_of (run_seen told l))
serves told l h = λ replies is. go l.link.tells refl replies is
  where
    go : (b : Bool) → l.link.tells ≡ b → (replies : Replies) → replies_in (answers_if b (told l.link.host.talk.work)) ≡ Some replies
        → HasTalk (told_by replies) (link_seen l.link).sent (link_seen l.link).taken l.link.ends × (0 < l.faults → 0 < l.link.ends)
    go true e replies is = (
      subst (λ (w : WorkTold). HasTalk w (link_seen l.link).sent (link_seen l.link).taken l.link.ends)
          (h.plain replies (sym (replies_of (told l.link.host.talk.work).runs) ∙ is)) (h.text e),
      λ lt. h.ended (h.faults lt),
    )
    go false e replies is = absurd (cc is)

-- what a link tells now

abbrev Tells_text : {W : Type 0} → (W → WorkTold) → LinkState W → Bool → Type 0
Tells_text told l result = IsTrue result → (sent taken : List ℕ) → (link_seen l).sent ≡ Some sent → (link_seen l).taken ≡ Some taken
    → HasText (told l.host.talk.work) l.host.talk.own l.host.talk.batch sent (taken ++ left_of l)

pub text_now : {W : Type 0} (told : W → WorkTold) (l : LinkState W) (result : Bool) → Tells_text told l result → result ≡ l.tells
    → l.host.talk.own ≡ smudge_alone → l.host.talk.batch ≡ 1
    → (sent taken : List ℕ) → (link_seen l).sent ≡ Some sent → (link_seen l).taken ≡ Some taken → (0 < l.ends → left_of l ≡ [])
    → l.tells ≡ true → HasTalk (told l.host.talk.work) (link_seen l).sent (link_seen l).taken l.ends
text_now told l false text answer own batch sent taken sent_is taken_is whole tells = absurd (cc (answer ∙ tells))
text_now told l true text answer own batch sent taken sent_is taken_is whole tells =
    let x = text refl sent taken sent_is taken_is in
    record {
      sent_all = sent;
      taken_all = taken;
      left = left_of l;
      sent_is = sent_is;
      taken_is = taken_is;
      text = subst (λ (n : ℕ). HasText (told l.host.talk.work) smudge_alone n sent (taken ++ left_of l)) batch
          (subst (λ (c : Caps). HasText (told l.host.talk.work) c l.host.talk.batch sent (taken ++ left_of l)) own x);
      whole = whole;
    }

new_bytes : (keeps : Bool) (bytes : List ℕ) → keeps ≡ true → Tells (kept_bytes keeps bytes) [] → kept_bytes keeps bytes ≡ Some []
new_bytes true bytes k e = ap (λ (z : List ℕ). Some z) e
new_bytes false bytes k e = absurd (cc k)

none_above : (n : ℕ) → n ≡ 0 → 0 < n → ⊥
none_above n e lt = omega (arith, e, lt)

pub begins : {W : Type 0} (told : W → WorkTold) (l : LinkState W) (result : Bool) → Tells_text told l result → result ≡ l.tells
    → IsNewLink (link_seen l) → (l.tells ≡ true → l.keeps ≡ true) → l.host.talk.own ≡ smudge_alone → l.host.talk.batch ≡ 1
    → ((replies : Replies) → (told l.host.talk.work).runs ≡ Some replies → told l.host.talk.work ≡ told_by replies)
    → IsRunLink told (record { link = l; over = false; faults = 0 })
begins told l result text answer fresh kept own batch plain = record {
  going = λ _. fresh.unended;
  faults = λ lt. absurd (none_above 0 refl lt);
  ended = λ e. absurd (cc e);
  caps = own;
  batch = batch;
  plain = plain;
  text = λ tells. text_now told l result text answer own batch [] []
      (new_bytes l.keeps l.sent (kept tells) fresh.sent) (new_bytes l.keeps (take l.taken l.output) (kept tells) fresh.taken)
      (λ lt. absurd (none_above l.ends fresh.unended lt)) tells;
}

-- the host tells the same
abbrev IsPlain : WorkTold → Type 0
IsPlain w = (replies : Replies) → w.runs ≡ Some replies → w ≡ told_by replies

-- the same bytes, ends and host
pub moved : {W : Type 0} (told : W → WorkTold) (l : RunState W) (k : LinkState W) → IsRunLink told l
    → IsSameHost told l.link.host.talk k.host.talk → k.tells ≡ l.link.tells
    → (link_seen k).sent ≡ (link_seen l.link).sent → (link_seen k).taken ≡ (link_seen l.link).taken → k.ends ≡ l.link.ends
    → IsRunLink told (record l { link = k })
moved told l k h same tells sent taken ends = record {
  going = λ e. ends ∙ h.going e;
  faults = h.faults;
  ended = λ e. subst (λ (n : ℕ). 0 < n) (sym ends) (h.ended e);
  caps = same.0 ∙ h.caps;
  batch = same.1 ∙ h.batch;
  plain = subst IsPlain (sym same.2) h.plain;
  text = λ e.
      let x = h.text (sym tells ∙ e) in
      record {
        sent_all = x.sent_all;
        taken_all = x.taken_all;
        left = x.left;
        sent_is = sent ∙ x.sent_is;
        taken_is = taken ∙ x.taken_is;
        text = subst (λ (w : WorkTold). HasText w smudge_alone 1 x.sent_all (x.taken_all ++ x.left)) (sym same.2) x.text;
        whole = λ lt. x.whole (subst (λ (n : ℕ). 0 < n) ends lt);
      };
}

-- a call failed
pub failed : {W : Type 0} (told : W → WorkTold) (l : RunState W) (faults : ℕ) → IsRunLink told l → l.over ≡ true
    → IsRunLink told (record l { faults = faults })
failed told l faults h over = record {
  going = h.going;
  faults = λ lt. over;
  ended = h.ended;
  caps = h.caps;
  batch = h.batch;
  plain = h.plain;
  text = h.text;
}

-- a piece was sent
pub sent_on : {W : Type 0} (told : W → WorkTold) (l : RunState W) (k : LinkState W) (piece : List ℕ) (result : Bool) → IsRunLink told l → l.over ≡ false
    → Tells_text told k result → result ≡ k.tells → IsSameHost told l.link.host.talk k.host.talk → k.tells ≡ l.link.tells
    → link_seen k ≡ record (link_seen l.link) { sent = grown (link_seen l.link).sent piece }
    → IsRunLink told (record l { link = k })
sent_on told l k piece result h going text answer same tells seen = record {
  going = λ e. none;
  faults = h.faults;
  ended = λ e. let no : true ≡ false = sym e ∙ going in absurd (cc no);
  caps = same.0 ∙ h.caps;
  batch = same.1 ∙ h.batch;
  plain = subst IsPlain (sym same.2) h.plain;
  text = λ e.
      let x = h.text (sym tells ∙ e) in
      text_now told k result text answer (same.0 ∙ h.caps) (same.1 ∙ h.batch) (x.sent_all ++ piece) x.taken_all
      (ap (λ (s : LinkSeen). s.sent) seen ∙ ap (λ (o : Option (List ℕ)). grown o piece) x.sent_is)
      (ap (λ (s : LinkSeen). s.taken) seen ∙ x.taken_is) (λ lt. absurd (none_above k.ends none lt)) e;
}
  where
    none : k.ends ≡ 0
    none = ap (λ (s : LinkSeen). s.ends) seen ∙ h.going going

-- bytes were taken, or an end of input was met
pub read_on : {W : Type 0} (told : W → WorkTold) (l : RunState W) (k : LinkState W) (over : Bool) (count : ℕ) (into : List ℕ) (result : Bool) → IsRunLink told l → l.over ≡ false
    → Tells_text told k result → result ≡ k.tells → k.host ≡ l.link.host → k.tells ≡ l.link.tells
    → IsRead count into (link_seen l.link) (link_seen k) → (count ≡ 0 → left_of k ≡ []) → over ≡ (count == 0)
    → IsRunLink told (record l { link = k; over = over })
read_on told l k over count into result h going text answer host tells r all is = record {
  going = λ e. still count refl (sym is ∙ e);
  faults = λ lt. let no : true ≡ false = sym (h.faults lt) ∙ going in absurd (cc no);
  ended = λ e. met count refl (sym is ∙ e);
  caps = own;
  batch = batch;
  plain = subst (λ (x : HostSeen _). IsPlain (told x.talk.work)) (sym host) h.plain;
  text = λ e.
      let x = h.text (sym tells ∙ e) in
      text_now told k result text answer own batch x.sent_all (x.taken_all ++ take count into)
      (ap (λ (s : LinkSeen). s.sent) r.kept ∙ x.sent_is)
      (ap (λ (s : LinkSeen). s.taken) r.kept ∙ ap (λ (o : Option (List ℕ)). grown o (take count into)) x.taken_is)
      (whole count refl) e;
}
  where
    own : k.host.talk.own ≡ smudge_alone
    own = ap (λ (x : HostSeen _). x.talk.own) host ∙ h.caps

    batch : k.host.talk.batch ≡ 1
    batch = ap (λ (x : HostSeen _). x.talk.batch) host ∙ h.batch

    some : (n : ℕ) → suc n ≡ count → k.ends ≡ 0
    some n e = r.going (omega (arith, e)) ∙ h.going going

    still : (n : ℕ) → n ≡ count → (n == 0) ≡ false → k.ends ≡ 0
    still zero e f = absurd (cc f)
    still (suc n) e f = some n e

    risen : (n : ℕ) → n ≡ k.ends → Rose l.link.ends k.ends → 0 < k.ends
    risen zero z rose = let lt : l.link.ends < k.ends = rose.risen (λ top. absurd (omega (arith, z, top))) in omega (arith, lt)
    risen (suc n) z rose = omega (arith, z)

    met : (n : ℕ) → n ≡ count → (n == 0) ≡ true → 0 < k.ends
    met zero e f = risen k.ends refl (r.ended (sym e)).0
    met (suc n) e f = let no : ◌≡◌ {A = ℕ} (suc n) 0 = eqb-true (suc n) 0 f in absurd (omega (arith, no))

    whole : (n : ℕ) → n ≡ count → 0 < k.ends → left_of k ≡ []
    whole zero e lt = all (sym e)
    whole (suc n) e lt = absurd (none_above k.ends (some n e) lt)

-- as its callers see a read
pub reads_on : {W : Type 0} (told : W → WorkTold) (l : RunState W) (k : LinkState W) (over : Bool) (count : ℕ) (into : List ℕ)
    → k.host ≡ l.link.host → k.tells ≡ l.link.tells → IsRead count into (link_seen l.link) (link_seen k)
    → IsRead count into (run_seen told l) (run_seen told (record { link = k; over = over; faults = l.faults }))
reads_on told l k over count into host tells r =
    let work : told k.host.talk.work ≡ told l.link.host.talk.work = ap (λ (x : HostSeen _). told x.talk.work) host in
    let left : answers_if k.tells (told k.host.talk.work) ≡ answers_if l.link.tells (told l.link.host.talk.work) =
    ap (λ (b : Bool). answers_if b (told k.host.talk.work)) tells ∙ ap (λ (w : WorkTold). answers_if l.link.tells w) work in
    record {
      within = r.within;
      left = led_answers l.link.tells (told l.link.host.talk.work) (take count into) ∙ ap (λ (x : Left). led (take count into) x) (sym left);
      kept = ap (λ (s : LinkSeen). record s { left = answers_if k.tells (told k.host.talk.work); faults = l.faults }) r.kept;
      ended = λ none. ((r.ended none).0, tells_any l.link.tells (told l.link.host.talk.work));
      going = r.going;
      all_taken = λ e. absurd (no_bytes l.link.tells (told l.link.host.talk.work) [] e);
    }
  where
    tells_of : (o : Option Replies) → TellsLeft (answers_of o) []
    tells_of None = tt
    tells_of (Some r) = tt

    tells_any : (b : Bool) (w : WorkTold) → TellsLeft (answers_if b w) []
    tells_any true w = tells_of w.runs
    tells_any false w = tt

-- no answers are told
pub unanswered : (s : LinkSeen) → replies_in s.left ≡ None → IsServed (record_of s)
unanswered s none = λ replies is. let no : Some replies ≡ None = sym is ∙ none in absurd (cc no)

-- a link on which nothing was called
pub new_run : {W : Type 0} (told : W → WorkTold) (l : RunState W) (k : LinkState W) → IsNewLink (link_seen k) → l.link ≡ k → l.faults ≡ 0 → IsNewLink (run_seen told l)
new_run told l k fresh is none =
    let here : IsNewLink (link_seen l.link) = subst (λ (x : LinkState _). IsNewLink (link_seen x)) (sym is) fresh in
    record { sent = here.sent; taken = here.taken; unfailed = none; unended = here.unended; unshut = here.unshut }

-- the starts of a single run

pub next_single : (keeps b : Bool) (told : RunsTold) (command : List ℕ) (w : WorkTold) → b ≡ keeps → w ≡ work_told told (drop 1 command)
    → NextGives (single_starts keeps told command) (answers_if b w)
next_single true b (RunsListed runs) command w e f =
    ap (λ (x : Bool). answers_if x w) e ∙ ap (λ (x : WorkTold). answers_of x.runs) f
next_single true b RunsUntold command w e f = tt
next_single false b told command w e f = tt

pub starts_stay : (keeps : Bool) (told : RunsTold) (command : List ℕ) → single_starts keeps told command ≡ behind_next (single_starts keeps told command)
starts_stay true RunsUntold command = refl
starts_stay true (RunsListed runs) command = refl
starts_stay false told command = refl

pub same_bool : (a b : Bool) → (a ≡ true → b ≡ true) → (b ≡ true → a ≡ true) → a ≡ b
same_bool true b f g = sym (f refl)
same_bool false true f g = g refl
same_bool false false f g = refl
