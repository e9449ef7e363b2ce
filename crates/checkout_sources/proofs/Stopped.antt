-- A plan that isn't read since one of the three files stops it.
use Rattle.std.proofs.Common.{◌≡◌, ℕ, List, [], ◌++◌, Err, sym, ap, ◌∙◌, inl}
use Rattle.std.proofs.lemmas.List.{append-nil}
use Rattle.edge_kit.specs.Seen.{RepoSeen}
use Rattle.edge_kit.specs.Told.{RepoTold}
use Rattle.checkout_sources.specs.declared.sources.Sources.{Sources}
use Rattle.checkout_sources.specs.declared.stop.Refusal.{Refusal}
use Rattle.checkout_sources.specs.declared.stop.Refusal.TheVariants as refusal
use Rattle.checkout_sources.specs.declared.stop.Stop.{Stop}
use Rattle.checkout_sources.specs.declared.stop.Stop.TheVariants as stop
use Rattle.checkout_sources.specs.Causes.{IsSourceCause, IsSourceUnread, IsRefusedFor}
use Rattle.checkout_sources.specs.Reading.{StopsFor, ReadsPlan}

-- nothing is seen but the count, and it is as it was
pub as_it_was : (old new : RepoSeen) → new ≡ record old { faults = new.faults } → new.faults ≡ old.faults → new ≡ old
as_it_was old new kept same = kept ∙ ap (λ (n : ℕ). record old { faults = n }) same

-- no blob was made
none_made : (old : RepoSeen) → old ≡ record old { returned = old.returned ++ [] }
none_made old = ap (λ (bs : List (List ℕ × ℕ)). record old { returned = bs }) (sym (append-nil old.returned))

refused_so : (told : RepoTold) (old new : RepoSeen) (r : Refusal) → new ≡ old → IsSourceCause told r → IsRefusedFor told r old new
refused_so told old new refusal.IndexAbsent same cause = record { cause = cause; seen = same ∙ none_made old }
refused_so told old new (refusal.Index fault) same cause = record { cause = cause; seen = same ∙ none_made old }
refused_so told old new (refusal.Config fault) same cause = record { cause = cause; seen = same ∙ none_made old }
refused_so told old new (refusal.Setting fault) same cause = record { cause = cause; seen = same ∙ none_made old }
refused_so told old new refusal.InfoTooLarge same cause = record { cause = cause; seen = same ∙ none_made old }
refused_so told old new refusal.BaseTooLarge same cause = record { cause = cause; seen = same ∙ none_made old }
refused_so told old new (refusal.Attribute path kind) same cause = absurd cause
refused_so told old new (refusal.AttributeTooLarge path) same cause = absurd cause
refused_so told old new (refusal.TooManyDrivers n) same cause = absurd cause

pub stops_reading : (told : RepoTold) (old new : RepoSeen) (x : Stop) → new ≡ record old { faults = new.faults } → StopsFor {T = Sources} (IsSourceCause told) (IsSourceUnread told) old new (Err x) → ReadsPlan told old new (Err x)
stops_reading told old new stop.ReadFault kept s = inl record { rose = s.0; unread = s.1; seen = kept }
stops_reading told old new (stop.Refused r) kept s = refused_so told old new r (as_it_was old new kept s.0) s.1
stops_reading told old new stop.NoMemory kept s = inl (as_it_was old new kept s)
