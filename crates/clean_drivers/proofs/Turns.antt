-- The turns of a line are a talk.
use Rattle.std.proofs.Common.{◌≡◌, ℕ, List, [], ◌∷◌, ◌++◌, Option, Some, None, Result, Ok, Err, refl, sym, ap, subst, inl, inr, ◌∙◌, append_assoc, append-nil, arith}
use Rattle.filter_words.specs.Requests.{clean_text}
use Rattle.edge_kit.specs.Links.{LinkSeen}
use Rattle.edge_kit.specs.Starters.{StarterSeen, Had, StartFailed, StartOutOfMemory, session_had}
use Rattle.filter_proto.specs.Wires.{Wire, SessionSeen, IsShutAfter}
use Rattle.filter_proto.specs.Cleans.{IsCleaning, standing_after_clean}
use Rattle.filter_proto.specs.declared.session.Standing.{Standing}
use Rattle.filter_proto.specs.declared.session.Standing.TheVariants as standing
use Rattle.filter_proto.specs.declared.clean_session.Cleaned.{Cleaned}
use Rattle.filter_proto.specs.declared.clean_session.Cleaned.TheVariants as cleaned
use Rattle.clean_drivers.specs.declared.cause.CleanCause.{CleanCause}
use Rattle.clean_drivers.specs.declared.cause.CleanCause.TheVariants as cause
use Rattle.clean_drivers.specs.declared.cause.CleanFault.{CleanFault}
use Rattle.clean_drivers.specs.declared.cause.CleanFault.TheVariants.{Refused, NoMemory}
use Rattle.clean_drivers.specs.CleanLines.{CleanLineView, line_of, IsGivenBack, lasting, lasting_in, answer_of, Begins, GoesOn, IsAsked, StartsFor, CleansBy, Closes, ClosesBy}
use Rattle.clean_drivers.specs.CleanTalks.{Turn, AreHad, AreRefused, Follows, IsCleanTalk, CleansAll, HasTalk, TurnsAreTalks}
use Rattle.clean_drivers.proofs.Commands.{kept_command}

-- the turns that are left where a session is open: some are had in it, and the talk goes on behind it
record IsOpenTalk (wire : Wire) (starter : StarterSeen) (ts : List Turn) (end : StarterSeen) : Type 0 where
  own : List Turn
  rest : List Turn
  parts : ts ≡ own ++ rest
  how : Standing
  last : Wire
  had : AreHad own wire last how
  link : LinkSeen
  shut : IsShutAfter how last link
  items : List Had
  kept : end.had ≡ starter.had ++ session_had link ∷ items
  follows : Follows how rest items (IsCleanTalk items rest)

-- the same where the next path is had in it
record IsNextTalk (wire : Wire) (starter : StarterSeen) (t : Turn) (ts : List Turn) (end : StarterSeen) : Type 0 where
  more : List Turn
  rest : List Turn
  parts : ts ≡ more ++ rest
  how : Standing
  last : Wire
  had : AreHad (t ∷ more) wire last how
  link : LinkSeen
  shut : IsShutAfter how last link
  items : List Had
  kept : end.had ≡ starter.had ++ session_had link ∷ items
  follows : Follows how rest items (IsCleanTalk items rest)

-- what is left of a line, by how it stands
abbrev Claim : Option CleanCause → Option SessionSeen → StarterSeen → List Turn → StarterSeen → Type 0
Claim None None starter ts end = HasTalk ts starter end
Claim None (Some s) starter ts end = IsOpenTalk s.wire starter ts end
Claim (Some why) None starter ts end = AreRefused why ts × (end.had ≡ starter.had)
Claim (Some why) (Some s) starter ts end = Unit {0}

-- nothing more is asked
none_more : (r : Option CleanCause) (s : Option SessionSeen) (starter end : StarterSeen) → ClosesBy starter s end → Claim r s starter [] end
none_more None None starter end closes = record { items = []; had = ap (λ (x : StarterSeen). x.had) closes ∙ sym (append-nil starter.had); talk = refl }
none_more None (Some s) starter end closes = record {
  own = [];
  rest = [];
  parts = refl;
  how = standing.Live;
  last = s.wire;
  had = (refl, refl);
  link = closes.link;
  shut = closes.shut;
  items = [];
  kept = ap (λ (x : StarterSeen). x.had) closes.kept;
  follows = (refl, refl);
}
none_more (Some why) None starter end closes = (tt, ap (λ (x : StarterSeen). x.had) closes)
none_more (Some why) (Some s) starter end closes = tt

-- a reply in the open session, after which that goes on
goes_on : (wire mid : Wire) (starter : StarterSeen) (t : Turn) (ts : List Turn) (end : StarterSeen) (reply : Cleaned) → standing_after_clean reply ≡ standing.Live → IsCleaning (clean_text t.path t.content) wire mid reply → t.answer ≡ answer_of reply
    → IsOpenTalk mid starter ts end → IsNextTalk wire starter t ts end
goes_on wire mid starter t ts end (cleaned.Content bytes) live cleaning answers talk = record {
  more = talk.own;
  rest = talk.rest;
  parts = talk.parts;
  how = talk.how;
  last = talk.last;
  had = (mid, cleaned.Content bytes, cleaning, answers, talk.had);
  link = talk.link;
  shut = talk.shut;
  items = talk.items;
  kept = talk.kept;
  follows = talk.follows;
}
goes_on wire mid starter t ts end cleaned.Error live cleaning answers talk = record {
  more = talk.own;
  rest = talk.rest;
  parts = talk.parts;
  how = talk.how;
  last = talk.last;
  had = (mid, cleaned.Error, cleaning, answers, talk.had);
  link = talk.link;
  shut = talk.shut;
  items = talk.items;
  kept = talk.kept;
  follows = talk.follows;
}
goes_on wire mid starter t ts end cleaned.ErrorAfter live cleaning answers talk = record {
  more = talk.own;
  rest = talk.rest;
  parts = talk.parts;
  how = talk.how;
  last = talk.last;
  had = (mid, cleaned.ErrorAfter, cleaning, answers, talk.had);
  link = talk.link;
  shut = talk.shut;
  items = talk.items;
  kept = talk.kept;
  follows = talk.follows;
}
goes_on wire mid starter t ts end cleaned.Abort live cleaning answers talk = absurd (cc live)
goes_on wire mid starter t ts end (cleaned.Broken why) live cleaning answers talk = absurd (cc live)
goes_on wire mid starter t ts end cleaned.NoMemory live cleaning answers talk = absurd (cc live)

-- one that ended it
ends_talk : (wire last : Wire) (starter mid : StarterSeen) (t : Turn) (ts : List Turn) (end : StarterSeen) (how : Standing) → AreHad (t ∷ []) wire last how → IsGivenBack starter last how mid → (items : List Had) → end.had ≡ mid.had ++ items
    → Follows how ts items (IsCleanTalk items ts) → IsNextTalk wire starter t ts end
ends_talk wire last starter mid t ts end how had back items kept follows = record {
  more = [];
  rest = ts;
  parts = refl;
  how = how;
  last = last;
  had = had;
  link = back.link;
  shut = back.shut;
  items = items;
  kept = kept ∙ ap (λ (x : StarterSeen). x.had ++ items) back.kept ∙ append_assoc starter.had (session_had back.link ∷ []) items;
  follows = follows;
}

-- where the line stands so after it
stands_so : (mid : CleanLineView) (ts : List Turn) (end : StarterSeen) (r : Option CleanCause) (s : Option SessionSeen) → mid.refusing ≡ r → mid.session ≡ s → Claim mid.refusing mid.session mid.starter ts end → Claim r s mid.starter ts end
stands_so mid ts end r s same_cause same_session claim =
    subst (λ (x : Option SessionSeen). Claim r x mid.starter ts end) same_session (subst (λ (x : Option CleanCause). Claim x mid.session mid.starter ts end) same_cause claim)

module _ (starter : StarterSeen) (s : SessionSeen) (t : Turn) (ts : List Turn) (mid : CleanLineView) (end : StarterSeen) (claim : Claim mid.refusing mid.session mid.starter ts end) (refuses : mid.refusing ≡ lasting_in t.answer) where
  live_next : (last : Wire) (reply : Cleaned) → standing_after_clean reply ≡ standing.Live → lasting_in (answer_of reply) ≡ None → IsCleaning (clean_text t.path t.content) s.wire last reply → t.answer ≡ answer_of reply
      → (mid.starter ≡ starter) × (mid.session ≡ Some (record { wire = last; caps = s.caps; standing = standing.Live })) → IsNextTalk s.wire starter t ts end
  live_next last reply live none cleaning answers (same, session) =
      goes_on s.wire last starter t ts end reply live cleaning answers
      (subst (λ (x : StarterSeen). IsOpenTalk last x ts end) same
      (stands_so mid ts end None (Some (record { wire = last; caps = s.caps; standing = standing.Live })) (refuses ∙ ap (λ (a : Result (List ℕ) CleanFault). lasting_in a) answers ∙ none) session claim))

  over_next : (last : Wire) → AreHad (t ∷ []) s.wire last standing.Over → lasting_in t.answer ≡ None → IsGivenBack starter last standing.Over mid.starter × (mid.session ≡ None) → IsNextTalk s.wire starter t ts end
  over_next last had none (back, session) =
      let talk : HasTalk ts mid.starter end = stands_so mid ts end None None (refuses ∙ none) session claim in
      ends_talk s.wire last starter mid.starter t ts end standing.Over had back talk.items talk.had talk.talk

  abort_next : (last : Wire) → AreHad (t ∷ []) s.wire last standing.Aborted → lasting_in t.answer ≡ Some cause.Abort → IsGivenBack starter last standing.Aborted mid.starter × (mid.session ≡ None) → IsNextTalk s.wire starter t ts end
  abort_next last had some (back, session) =
      let rest : AreRefused cause.Abort ts × (end.had ≡ mid.starter.had) = stands_so mid ts end (Some cause.Abort) None (refuses ∙ some) session claim in
      ends_talk s.wire last starter mid.starter t ts end standing.Aborted had back [] (rest.1 ∙ sym (append-nil mid.starter.had)) (rest.0, refl)

  next_by : (last : Wire) (reply : Cleaned) → IsCleaning (clean_text t.path t.content) s.wire last reply → t.answer ≡ answer_of reply → GoesOn starter s last (standing_after_clean reply) mid → IsNextTalk s.wire starter t ts end
  next_by last (cleaned.Content bytes) cleaning answers goes = live_next last (cleaned.Content bytes) refl refl cleaning answers goes
  next_by last cleaned.Error cleaning answers goes = live_next last cleaned.Error refl refl cleaning answers goes
  next_by last cleaned.ErrorAfter cleaning answers goes = live_next last cleaned.ErrorAfter refl refl cleaning answers goes
  next_by last cleaned.Abort cleaning answers goes = abort_next last (last, cleaned.Abort, cleaning, answers, (refl, refl, refl)) (ap (λ (a : Result (List ℕ) CleanFault). lasting_in a) answers) goes
  next_by last (cleaned.Broken why) cleaning answers goes = over_next last (last, cleaned.Broken why, cleaning, answers, (refl, refl, refl)) (ap (λ (a : Result (List ℕ) CleanFault). lasting_in a) answers) goes
  next_by last cleaned.NoMemory cleaning answers goes = over_next last (last, cleaned.NoMemory, cleaning, answers, (refl, refl, refl)) (ap (λ (a : Result (List ℕ) CleanFault). lasting_in a) answers) goes

next_talk : (starter : StarterSeen) (s : SessionSeen) (t : Turn) (ts : List Turn) (mid : CleanLineView) (end : StarterSeen) → IsAsked t.path t.content starter s mid t.answer → Claim mid.refusing mid.session mid.starter ts end → IsNextTalk s.wire starter t ts end
next_talk starter s t ts mid end asked claim = next_by starter s t ts mid end claim asked.refuses asked.replies.0 asked.reply asked.replies.1 asked.answers asked.replies.2

-- one item more before the others
one_more : (starter mid end : StarterSeen) (item : Had) (items : List Had) → mid.had ≡ starter.had ++ item ∷ [] → end.had ≡ mid.had ++ items → end.had ≡ starter.had ++ item ∷ items
one_more starter mid end item items one more = more ∙ ap (λ (l : List Had). l ++ items) one ∙ append_assoc starter.had (item ∷ []) items

-- a path for which no session was open, and none was opened
module _ (starter : StarterSeen) (t : Turn) (ts : List Turn) (mid : StarterSeen) (end : StarterSeen) where
  unopened : (fault : CleanFault) → Begins starter mid (Err fault) → t.answer ≡ Err fault → Claim (lasting fault) None mid ts end → HasTalk (t ∷ ts) starter end
  unopened (Refused cause.NotStarted) begins answers talk = record {
    items = StartFailed ∷ talk.items;
    had = one_more starter mid end StartFailed talk.items (ap (λ (x : StarterSeen). x.had) begins.kept) talk.had;
    talk = (answers, talk.talk);
  }
  unopened (Refused cause.NoClean) (link, old, started, (caps, last, opened, back)) answers (refused, same) = record {
    items = session_had back.link ∷ [];
    had = one_more starter mid end (session_had back.link) [] (ap (λ (x : StarterSeen). x.had) back.kept ∙ ap (λ (x : StarterSeen). x.had ++ session_had back.link ∷ []) started.kept) (same ∙ sym (append-nil mid.had));
    talk = inr (inl (record {
      some = omega arith;
      session = record { link = link; fresh = started.fresh; caps = caps; last = last; opened = opened; kept = record { link = back.link; shut = back.shut; is = refl } };
      refused = (answers, refused);
      none = refl;
    }));
  }
  unopened (Refused (cause.Broken why)) (link, old, started, (last, opening, back)) answers talk = record {
    items = session_had back.link ∷ talk.items;
    had = one_more starter mid end (session_had back.link) talk.items (ap (λ (x : StarterSeen). x.had) back.kept ∙ ap (λ (x : StarterSeen). x.had ++ session_had back.link ∷ []) started.kept) talk.had;
    talk = inl (Refused (cause.Broken why), record { link = link; fresh = started.fresh; last = last; opening = opening; kept = record { link = back.link; shut = back.shut; is = refl } }, (answers, talk.talk));
  }
  unopened (Refused cause.Error) begins answers talk = absurd begins.3
  unopened (Refused cause.ErrorAfter) begins answers talk = absurd begins.3
  unopened (Refused cause.Abort) begins answers talk = absurd begins.3
  unopened NoMemory (inl none) answers talk = record {
    items = StartOutOfMemory ∷ talk.items;
    had = one_more starter mid end StartOutOfMemory talk.items (ap (λ (x : StarterSeen). x.had) none) talk.had;
    talk = (answers, talk.talk);
  }
  unopened NoMemory (inr (link, old, started, (last, opening, back))) answers talk = record {
    items = session_had back.link ∷ talk.items;
    had = one_more starter mid end (session_had back.link) talk.items (ap (λ (x : StarterSeen). x.had) back.kept ∙ ap (λ (x : StarterSeen). x.had ++ session_had back.link ∷ []) started.kept) talk.had;
    talk = inl (NoMemory, record { link = link; fresh = started.fresh; last = last; opening = opening; kept = record { link = back.link; shut = back.shut; is = refl } }, (answers, talk.talk));
  }

  -- one was opened
  opened_talk : (s : SessionSeen) → Begins starter mid (Ok s) → IsNextTalk s.wire mid t ts end → HasTalk (t ∷ ts) starter end
  opened_talk s (link, old, started, (same, opened, live)) next = record {
    items = session_had next.link ∷ next.items;
    had = next.kept ∙ ap (λ (x : StarterSeen). x.had ++ session_had next.link ∷ next.items) same ∙ ap (λ (x : StarterSeen). x.had ++ session_had next.link ∷ next.items) started.kept;
    talk = inr (inr (record {
      first = t;
      more = next.more;
      rest = next.rest;
      parts = ap (λ (l : List Turn). t ∷ l) next.parts;
      how = next.how;
      session = record {
        link = link;
        fresh = started.fresh;
        begun = s.wire;
        caps = s.caps;
        opened = opened;
        last = next.last;
        had = next.had;
        kept = record { link = next.link; shut = next.shut; is = refl };
      };
      follows = next.follows;
    }));
  }

starts_talk : (starter : StarterSeen) (t : Turn) (ts : List Turn) (mid : CleanLineView) (end : StarterSeen) → StartsFor t.path t.content starter mid t.answer → Claim mid.refusing mid.session mid.starter ts end → HasTalk (t ∷ ts) starter end
starts_talk starter t ts mid end (inl (fault, begins, answers, stands)) claim =
    unopened starter t ts mid.starter end fault begins answers (stands_so mid ts end (lasting fault) None (ap (λ (l : CleanLineView). l.refusing) stands) (ap (λ (l : CleanLineView). l.session) stands) claim)
starts_talk starter t ts mid end (inr (begun, s, begins, asked)) claim = opened_talk starter t ts begun end s begins (next_talk begun s t ts mid end asked claim)

-- one path more at the front
one_turn : (r : Option CleanCause) (s : Option SessionSeen) (line : CleanLineView) (t : Turn) (ts : List Turn) (mid : CleanLineView) (end : StarterSeen) → line.refusing ≡ r → line.session ≡ s → CleansBy t.path t.content r s line mid t.answer
    → Claim mid.refusing mid.session mid.starter ts end → Claim r s line.starter (t ∷ ts) end
one_turn None None line t ts mid end is_r is_s cleans claim = starts_talk line.starter t ts mid end cleans claim
one_turn None (Some s) line t ts mid end is_r is_s cleans claim =
    let next = next_talk line.starter s t ts mid end cleans claim in record {
      own = t ∷ next.more;
      rest = next.rest;
      parts = ap (λ (l : List Turn). t ∷ l) next.parts;
      how = next.how;
      last = next.last;
      had = next.had;
      link = next.link;
      shut = next.shut;
      items = next.items;
      kept = next.kept;
      follows = next.follows;
    }
one_turn (Some why) None line t ts mid end is_r is_s (answers, same) claim =
    let rest : AreRefused why ts × (end.had ≡ line.starter.had) = stands_so line ts end (Some why) None is_r is_s (subst (λ (l : CleanLineView). Claim l.refusing l.session l.starter ts end) same claim) in
    ((answers, rest.0), rest.1)
one_turn (Some why) (Some s) line t ts mid end is_r is_s cleans claim = tt

runs : (ts : List Turn) (line last : CleanLineView) (end : StarterSeen) → CleansAll ts line last → Closes last end → Claim line.refusing line.session line.starter ts end
runs [] line last end same closes = none_more line.refusing line.session line.starter end (subst (λ (l : CleanLineView). Closes l end) same closes)
runs (t ∷ ts) line last end (mid, cleans, rest) closes = one_turn line.refusing line.session line t ts mid end refl refl cleans (runs ts mid last end rest closes)

pub turns_are_talks : TurnsAreTalks
turns_are_talks ts starter end last cleans closes = (runs ts (line_of starter None None) last end cleans closes, kept_command ts starter end last cleans closes)
