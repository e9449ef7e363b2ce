-- A starter keeps its command over all turns of a line.
use Rattle.std.proofs.Common.{◌≡◌, ℕ, List, [], ◌∷◌, Option, Some, None, Result, Ok, Err, ap, inl, inr, ◌∙◌}
use Rattle.edge_kit.specs.Starters.{StarterSeen}
use Rattle.filter_proto.specs.Wires.{Wire, SessionSeen}
use Rattle.filter_proto.specs.declared.session.Standing.{Standing}
use Rattle.filter_proto.specs.declared.session.Standing.TheVariants as standing
use Rattle.clean_drivers.specs.declared.cause.CleanCause.{CleanCause}
use Rattle.clean_drivers.specs.declared.cause.CleanCause.TheVariants as cause
use Rattle.clean_drivers.specs.declared.cause.CleanFault.{CleanFault}
use Rattle.clean_drivers.specs.declared.cause.CleanFault.TheVariants.{Refused, NoMemory}
use Rattle.clean_drivers.specs.CleanLines.{CleanLineView, line_of, StartsAnd, Begins, GoesOn, IsAsked, CleansBy, Closes, ClosesBy}
use Rattle.clean_drivers.specs.CleanTalks.{Turn, CleansAll}

kept_start : (old new : StarterSeen) (r : Result SessionSeen CleanFault) → StartsAnd old new r → new.command ≡ old.command
kept_start old new (Ok s) (link, mid, started, opens) = ap (λ (x : StarterSeen). x.command) opens.0 ∙ ap (λ (x : StarterSeen). x.command) started.kept
kept_start old new (Err (Refused cause.NoClean)) (link, mid, started, (caps, last, opened, back)) = ap (λ (x : StarterSeen). x.command) back.kept ∙ ap (λ (x : StarterSeen). x.command) started.kept
kept_start old new (Err (Refused (cause.Broken why))) (link, mid, started, (last, opening, back)) = ap (λ (x : StarterSeen). x.command) back.kept ∙ ap (λ (x : StarterSeen). x.command) started.kept
kept_start old new (Err (Refused cause.Error)) starts = absurd starts.3
kept_start old new (Err (Refused cause.ErrorAfter)) starts = absurd starts.3
kept_start old new (Err (Refused cause.Abort)) starts = absurd starts.3
kept_start old new (Err (Refused cause.NotStarted)) starts = absurd starts.3
kept_start old new (Err NoMemory) (link, mid, started, (last, opening, back)) = ap (λ (x : StarterSeen). x.command) back.kept ∙ ap (λ (x : StarterSeen). x.command) started.kept

kept_begin : (old new : StarterSeen) (r : Result SessionSeen CleanFault) → Begins old new r → new.command ≡ old.command
kept_begin old new (Ok s) begins = kept_start old new (Ok s) begins
kept_begin old new (Err (Refused cause.NotStarted)) begins = ap (λ (x : StarterSeen). x.command) begins.kept
kept_begin old new (Err (Refused cause.NoClean)) begins = kept_start old new (Err (Refused cause.NoClean)) begins
kept_begin old new (Err (Refused (cause.Broken why))) begins = kept_start old new (Err (Refused (cause.Broken why))) begins
kept_begin old new (Err (Refused cause.Error)) begins = kept_start old new (Err (Refused cause.Error)) begins
kept_begin old new (Err (Refused cause.ErrorAfter)) begins = kept_start old new (Err (Refused cause.ErrorAfter)) begins
kept_begin old new (Err (Refused cause.Abort)) begins = kept_start old new (Err (Refused cause.Abort)) begins
kept_begin old new (Err NoMemory) (inl none) = ap (λ (x : StarterSeen). x.command) none
kept_begin old new (Err NoMemory) (inr begins) = kept_start old new (Err NoMemory) begins

kept_on : (starter : StarterSeen) (s : SessionSeen) (last : Wire) (how : Standing) (new : CleanLineView) → GoesOn starter s last how new → new.starter.command ≡ starter.command
kept_on starter s last standing.Live new goes = ap (λ (x : StarterSeen). x.command) goes.0
kept_on starter s last standing.Aborted new goes = ap (λ (x : StarterSeen). x.command) goes.0.kept
kept_on starter s last standing.Over new goes = ap (λ (x : StarterSeen). x.command) goes.0.kept

kept_asked : (path content : List ℕ) (starter : StarterSeen) (s : SessionSeen) (new : CleanLineView) (answer : Result (List ℕ) CleanFault) → IsAsked path content starter s new answer → new.starter.command ≡ starter.command
kept_asked path content starter s new answer asked = kept_on starter s asked.replies.0 _ new asked.replies.2

kept_by : (path content : List ℕ) (r : Option CleanCause) (s : Option SessionSeen) (old new : CleanLineView) (answer : Result (List ℕ) CleanFault) → CleansBy path content r s old new answer → new.starter.command ≡ old.starter.command
kept_by path content (Some why) s old new answer cleans = ap (λ (l : CleanLineView). l.starter.command) cleans.1
kept_by path content None (Some s) old new answer cleans = kept_asked path content old.starter s new answer cleans
kept_by path content None None old new answer (inl (fault, begins, is, stands)) = kept_begin old.starter new.starter (Err fault) begins
kept_by path content None None old new answer (inr (mid, s, begins, asked)) = kept_asked path content mid s new answer asked ∙ kept_begin old.starter mid (Ok s) begins

kept_all : (ts : List Turn) (old new : CleanLineView) → CleansAll ts old new → new.starter.command ≡ old.starter.command
kept_all [] old new same = ap (λ (l : CleanLineView). l.starter.command) same
kept_all (t ∷ ts) old new (mid, cleans, rest) = kept_all ts mid new rest ∙ kept_by t.path t.content old.refusing old.session old mid t.answer cleans

kept_closed : (starter : StarterSeen) (s : Option SessionSeen) (new : StarterSeen) → ClosesBy starter s new → new.command ≡ starter.command
kept_closed starter None new closes = ap (λ (x : StarterSeen). x.command) closes
kept_closed starter (Some s) new closes = ap (λ (x : StarterSeen). x.command) closes.kept

pub kept_command : (ts : List Turn) (starter end : StarterSeen) (last : CleanLineView) → CleansAll ts (line_of starter None None) last → Closes last end → end.command ≡ starter.command
kept_command ts starter end last cleans closes = kept_closed last.starter last.session end closes ∙ kept_all ts (line_of starter None None) last cleans
