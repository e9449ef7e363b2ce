-- Going over a text step by step, as a loop does.
use Rattle.std.proofs.Common.{◌≡◌, ℕ, zero, suc, ◌≤◌, ◌<◌, List, [], length, Result, Ok, Err, refl, sym, ap, ◌∙◌, arith}
use Rattle.std.proofs.lemmas.List.{nil_from_length}
use Rattle.git_config.specs.declared.fault.ConfigFault.{ConfigFault}
use Rattle.git_config.specs.declared.setting.Setting.{Setting}
use Rattle.git_config.specs.Text.{◌>>=◌}
use Rattle.git_config.specs.Reading.{Place, step_at, settings_at}

-- what holds before each step: a bound on how many there are, and what is still to be read
pub record IsStepping (place : Place) (total : Result (List Setting) ConfigFault) : Type 0 where
  pub most : ℕ
  pub enough : length place.rest ≤ most
  pub same : settings_at most place ≡ total

pub starts : (place : Place) → IsStepping place (settings_at (length place.rest) place)
starts place = record { most = length place.rest; enough = omega arith; same = refl }

steps_at : (n : ℕ) (place next : Place) (total : Result (List Setting) ConfigFault) → length place.rest ≤ n → settings_at n place ≡ total → 0 < length place.rest
    → step_at place place.rest ≡ Ok next → length next.rest < length place.rest → IsStepping next total
unfolding settings_at
steps_at zero place next total enough same some step less = absurd (omega arith)
steps_at (suc n) place next total enough same some step less = record {
  most = n;
  enough = omega arith;
  same = sym (ap (λ (r : Result Place ConfigFault). r >>= λ later. settings_at n later) step) ∙ same;
}

pub steps : (place next : Place) (total : Result (List Setting) ConfigFault) → IsStepping place total → 0 < length place.rest
    → step_at place place.rest ≡ Ok next → length next.rest < length place.rest → IsStepping next total
steps place next total p some step less = steps_at p.most place next total p.enough p.same some step less

fails_at : (n : ℕ) (place : Place) (f : ConfigFault) (total : Result (List Setting) ConfigFault) → length place.rest ≤ n → settings_at n place ≡ total → 0 < length place.rest
    → step_at place place.rest ≡ Err f → total ≡ Err f
unfolding settings_at
fails_at zero place f total enough same some step = absurd (omega arith)
fails_at (suc n) place f total enough same some step = sym same ∙ ap (λ (r : Result Place ConfigFault). r >>= λ later. settings_at n later) step

pub fails : (place : Place) (f : ConfigFault) (total : Result (List Setting) ConfigFault) → IsStepping place total → 0 < length place.rest → step_at place place.rest ≡ Err f → total ≡ Err f
fails place f total p some step = fails_at p.most place f total p.enough p.same some step

none_left : (n : ℕ) (place : Place) → place.rest ≡ [] → settings_at n place ≡ Ok place.settings
unfolding settings_at step_at
none_left zero place none = refl
none_left (suc n) place none =
    let one : step_at place place.rest ≡ Ok place = rw none refl in
    ap (λ (r : Result Place ConfigFault). r >>= λ later. settings_at n later) one ∙ none_left n place none

pub all_done : (place : Place) (total : Result (List Setting) ConfigFault) → IsStepping place total → length place.rest ≡ 0 → total ≡ Ok place.settings
all_done place total p done = sym p.same ∙ none_left p.most place (nil_from_length place.rest done)
