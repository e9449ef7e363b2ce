-- When each event is a step, and what it changes then.
use Rattle.std.specs.Prelude.{◌==◌, ◌&&◌, ℕ, ◌+◌, nat_lt, Bool, true, false, not, cond, length, Option, Some, None}
use Rattle.std.specs.Prelude.{slice_get, ◌||◌}
use Rattle.filter_words.specs.declared.reply.BreakCause.{BreakCause}
use Rattle.filter_words.specs.declared.reply.BreakCause.TheVariants as breaks
use Rattle.filter_words.specs.declared.reply.Reply.{Reply}
use Rattle.filter_words.specs.declared.reply.Reply.TheVariants as reply
use Rattle.filter_words.specs.declared.reply.ListReply.{ListReply}
use Rattle.filter_words.specs.declared.reply.ListReply.TheVariants as list
use Rattle.filter_words.specs.declared.reply.Caps.{Caps}
use Rattle.checkout_core.specs.declared.verdict.FilterCause.{FilterCause}
use Rattle.checkout_core.specs.declared.verdict.FilterCause.TheVariants as cause
use Rattle.checkout_core.specs.declared.verdict.Verdict.{Verdict}
use Rattle.checkout_core.specs.declared.verdict.Own.{Own}
use Rattle.checkout_core.specs.declared.event.OpenCause.{OpenCause}
use Rattle.checkout_core.specs.declared.event.OpenCause.TheVariants as opening
use Rattle.checkout_core.specs.declared.path.Heard.{Heard}
use Rattle.checkout_core.specs.declared.path.Heard.TheVariants as heard
use Rattle.checkout_core.specs.declared.path.PathState.{PathState}
use Rattle.checkout_core.specs.declared.path.PathState.TheVariants as path
use Rattle.checkout_core.specs.declared.path.PathState.TheVariants.{Waiting, Held, Unasked, Closed}
use Rattle.checkout_core.specs.declared.path.Start.{Start}
use Rattle.checkout_core.specs.declared.path.Start.TheVariants.{Desk}
use Rattle.checkout_core.specs.declared.path.Path.{Path}
use Rattle.checkout_core.specs.declared.driver.OpenSession.{OpenSession}
use Rattle.checkout_core.specs.declared.driver.DriverState.{DriverState}
use Rattle.checkout_core.specs.declared.driver.DriverState.TheVariants as driver
use Rattle.checkout_core.specs.declared.effect.Sweep.{Sweep}
use Rattle.checkout_core.specs.declared.effect.Sweep.TheVariants.{Keep, Lose, OutOfMemory}
use Rattle.checkout_core.specs.declared.effect.Effect.{Effect}
use Rattle.checkout_core.specs.declared.effect.Effect.TheVariants.{Moves, Switches, Both}
use Rattle.checkout_core.specs.declared.event.Event.{Event}
use Rattle.checkout_core.specs.declared.event.Event.TheVariants.{Claim, Close, Opened, OpenFailed, Answered, Named}
use Rattle.checkout_core.specs.declared.event.Event.TheVariants.{Listed, Redone, HandBack, Shut}
use Rattle.checkout_core.specs.States.{Core, is_unasked, is_delayed, is_named, is_named_below, none_of, none_below}
use Rattle.checkout_core.specs.States.{named_count, lowest_unasked}
use Rattle.checkout_core.specs.Verdicts.{refused_cause, held_close, heard_close, unasked_close}

-- the effect, if the test holds
abbrev pub given : Bool → Effect → Option Effect
given b m = cond b (Some m) None

-- for a path that is there
abbrev pub at_path : Core → ℕ → (Path → Option Effect) → Option Effect
at_path c p f = elim (slice_get c.paths p) [ None ↦ None | Some r ↦ f r ]

-- for a driver that is there
abbrev pub at_driver : Core → ℕ → (DriverState → Option Effect) → Option Effect
at_driver c d f = elim (slice_get c.drivers d) [ None ↦ None | Some x ↦ f x ]

-- for a path that has a driver
abbrev pub of_driver : Start → (ℕ → Bool → Option Effect) → Option Effect
of_driver (Desk d required) f = f d required
of_driver _ f = None

-- for a driver that is on
abbrev pub at_session : DriverState → (OpenSession → Option Effect) → Option Effect
at_session (driver.On s) f = f s
at_session _ f = None

-- for a path of a driver, and the driver's state
abbrev pub at_both : Core → ℕ → (Path → ℕ → Bool → DriverState → Option Effect) → Option Effect
at_both c p f = at_path c p (λ r. of_driver r.start (λ d required. at_driver c d (λ x. f r d required x)))

abbrev pub is_off : DriverState → Bool
is_off driver.Off = true
is_off _ = false

-- a break of a path's own answer: the others come from a list alone
abbrev pub is_path_break : BreakCause → Bool
is_path_break breaks.StrangePath = false
is_path_break breaks.ListRefused = false
is_path_break _ = true

abbrev pub is_good_opening : OpenCause → Bool
is_good_opening (opening.Broken b) = is_path_break b
is_good_opening _ = true

abbrev pub is_good_reply : Reply → Bool
is_good_reply (reply.Broken b) = is_path_break b
is_good_reply _ = true

abbrev pub is_delay : Reply → Bool
is_delay reply.Delayed = true
is_delay _ = false

abbrev pub is_names : ListReply → Bool
is_names (list.Names n) = true
is_names _ = false

-- Claim: a waiting path, by any actor
abbrev pub claim : ℕ → ℕ → PathState → Option Effect
claim p a (Waiting raw) = Some (Moves p (Held a raw))
claim p a _ = None

abbrev pub claim_at : Core → ℕ → ℕ → Path → Option Effect
claim_at c p a r = cond (nat_lt a (c.workers + length c.drivers)) (claim p a r.state) None

-- Opened: a driver that is off and has an unasked path, of which the lowest is its first
abbrev pub fresh : Caps → ℕ → OpenSession
fresh caps p = record { caps = caps; first = p; any_delayed = false; noting_list = false }

abbrev pub open_first : ℕ → Caps → DriverState → Option ℕ → Option Effect
open_first d caps x None = None
open_first d caps x (Some p) = given (is_off x) (Switches d (driver.On (fresh caps p)) Keep)

abbrev pub open_at : Core → ℕ → Caps → DriverState → Option Effect
open_at c d caps x = open_first d caps x (lowest_unasked d c.paths)

-- OpenFailed: the lowest unasked path of a driver that is off
abbrev pub heard_opening : OpenCause → Heard
heard_opening opening.NotStarted = heard.Refused cause.NotStarted
heard_opening (opening.Broken b) = heard.Refused (cause.Broken b)
heard_opening opening.NoMemory = heard.OutOfMemory

abbrev pub fail_at : Core → ℕ → OpenCause → Path → ℕ → Bool → DriverState → Option Effect
fail_at c p o r d required x = given (is_off x && (is_unasked r.state && (none_below c d p && is_good_opening o)))
    (Moves p (path.Heard (heard_opening o)))

-- Answered: the lowest unasked path, by a driver that is on with smudge
abbrev pub delayed : OpenSession → OpenSession
delayed s = record { caps = s.caps; first = s.first; any_delayed = true; noting_list = s.noting_list }

abbrev pub named : OpenSession → OpenSession
named s = record { caps = s.caps; first = s.first; any_delayed = s.any_delayed; noting_list = true }

abbrev pub listed : OpenSession → OpenSession
listed s = record { caps = s.caps; first = s.first; any_delayed = s.any_delayed; noting_list = false }

abbrev pub replied_state : Reply → PathState
replied_state reply.Content = path.Heard heard.Got
replied_state reply.Error = path.Heard (heard.Refused cause.Error)
replied_state reply.ErrorAfter = path.Heard (heard.Refused cause.ErrorAfter)
replied_state reply.Delayed = path.Delayed
replied_state reply.Abort = path.Heard (heard.Refused cause.Abort)
replied_state (reply.Broken b) = path.Heard (heard.Refused (cause.Broken b))
replied_state reply.NoMemory = path.Heard heard.OutOfMemory

abbrev pub replied_desk : OpenSession → Reply → DriverState
replied_desk s reply.Delayed = driver.On (delayed s)
replied_desk s reply.Abort = driver.Aborted
replied_desk s (reply.Broken b) = driver.Off
replied_desk s reply.NoMemory = driver.Off
replied_desk s _ = driver.On s

abbrev pub replied_sweep : Reply → Sweep
replied_sweep reply.Abort = Lose
replied_sweep (reply.Broken b) = Lose
replied_sweep reply.NoMemory = OutOfMemory
replied_sweep _ = Keep

abbrev pub replied : ℕ → ℕ → OpenSession → Reply → Effect
replied p d s y = Both p (replied_state y) d (replied_desk s y) (replied_sweep y)

abbrev pub answer_in : Core → ℕ → Reply → PathState → ℕ → OpenSession → Option Effect
answer_in c p y t d s =
    given (s.caps.smudge
    && (is_unasked t && (none_below c d p && (is_good_reply y && not (is_delay y && not s.caps.delay)))))
    (replied p d s y)

abbrev pub answer_at : Core → ℕ → Reply → Path → ℕ → Bool → DriverState → Option Effect
answer_at c p y r d required x = at_session x (λ s. answer_in c p y r.state d s)

-- Named: a delayed path, if none is unasked, in the list that is being noted or in a new one
abbrev pub name_in : Core → ℕ → PathState → ℕ → OpenSession → Option Effect
name_in c p t d s = given
    (s.any_delayed && (none_of d is_unasked c.paths && (is_delayed t && (s.noting_list || none_of d is_named c.paths))))
    (Both p (path.Named (named_count d c.paths)) d (driver.On (named s)) Keep)

abbrev pub name_at : Core → ℕ → Path → ℕ → Bool → DriverState → Option Effect
name_at c p r d required x = at_session x (λ s. name_in c p r.state d s)

-- Listed: the end of a list with n names, or a list that ends the session
abbrev pub list_desk : OpenSession → ListReply → DriverState
list_desk s (list.Names n) = driver.On (listed s)
list_desk s list.Empty = driver.Done
list_desk s list.Abort = driver.Aborted
list_desk s (list.Broken b) = driver.Off
list_desk s list.NoMemory = driver.Off

abbrev pub list_sweep : ListReply → Sweep
list_sweep (list.Names n) = Keep
list_sweep list.NoMemory = OutOfMemory
list_sweep _ = Lose

abbrev pub list_allowed : Core → ℕ → OpenSession → ListReply → Bool
list_allowed c d s (list.Names n) = s.noting_list && n == named_count d c.paths
list_allowed c d s _ =
    s.any_delayed && (not s.noting_list && (none_of d is_unasked c.paths && none_of d is_named c.paths))

abbrev pub list_step : Core → ℕ → OpenSession → ListReply → Option Effect
list_step c d s y = given (list_allowed c d s y) (Switches d (list_desk s y) (list_sweep y))

abbrev pub list_at : Core → ℕ → ListReply → DriverState → Option Effect
list_at c d y x = at_session x (λ s. list_step c d s y)

-- Redone: the named path of the lowest turn
abbrev pub redo : Core → ℕ → Reply → ℕ → OpenSession → PathState → Option Effect
redo c p r d s (path.Named t) =
    given (not s.noting_list && (not (is_delay r) && (is_good_reply r && none_of d (is_named_below t) c.paths)))
    (replied p d s r)
redo c p r d s _ = None

abbrev pub redo_at : Core → ℕ → Reply → Path → ℕ → Bool → DriverState → Option Effect
redo_at c p y r d required x = at_session x (λ s. redo c p y d s r.state)

-- HandBack: a path that its driver refused and that isn't required
abbrev pub hand_back : ℕ → Option FilterCause → Option Effect
hand_back p None = None
hand_back p (Some c) = Some (Moves p (Waiting (Some c)))

abbrev pub hand_back_at : ℕ → Path → ℕ → Bool → DriverState → Option Effect
hand_back_at p r d required x = cond required None (hand_back p (refused_cause x r.state))

-- Shut: a session in which nothing was delayed, and which has no path left to ask for
abbrev pub shut_in : Core → ℕ → OpenSession → Option Effect
shut_in c d s = given (not s.any_delayed && none_of d is_unasked c.paths) (Switches d driver.Done Keep)

abbrev pub shut_at : Core → ℕ → DriverState → Option Effect
shut_at c d x = at_session x (λ s. shut_in c d s)

-- Close: a path that the actor has in hand, or one of the desk's own
abbrev pub closing : ℕ → Option Verdict → Option Effect
closing p None = None
closing p (Some v) = Some (Moves p (Closed v))

abbrev pub desk_close : Core → ℕ → ℕ → Own → Path → (Bool → DriverState → Option Verdict) → Option Effect
desk_close c p a o r f =
    of_driver r.start (λ d required. at_driver c d (λ x. cond (a == c.workers + d) (closing p (f required x)) None))

abbrev pub close_at : Core → ℕ → ℕ → Own → Path → PathState → Option Effect
close_at c p a o r (Held b raw) = cond (a == b) (closing p (held_close raw o)) None
close_at c p a o r (path.Heard h) = desk_close c p a o r (λ required x. heard_close required h o)
close_at c p a o r Unasked = desk_close c p a o r (λ required x. unasked_close required x p o)
close_at c p a o r _ = None

-- what the event does, if it is a step
abbrev pub effect_of : Core → Event → Option Effect
effect_of c (Claim p a) = at_path c p (claim_at c p a)
effect_of c (Opened d caps) = at_driver c d (open_at c d caps)
effect_of c (OpenFailed p o) = at_both c p (fail_at c p o)
effect_of c (Answered p y) = at_both c p (answer_at c p y)
effect_of c (Named p) = at_both c p (name_at c p)
effect_of c (Listed d y) = at_driver c d (list_at c d y)
effect_of c (Redone p y) = at_both c p (redo_at c p y)
effect_of c (HandBack p) = at_both c p (hand_back_at p)
effect_of c (Shut d) = at_driver c d (shut_at c d)
effect_of c (Close p a o) = at_path c p (λ r. close_at c p a o r r.state)
