-- The drivers that smudge and those that clean, of one configuration.
use Rattle.std.proofs.Common.{◌≡◌, Bool, true, false, List, [], ◌∷◌, ℕ, Option, Some, None, Result, Ok, Err, refl, sym, ap, subst, ◌∙◌}
use Rattle.byte_path.specs.Steps.{◌>>=◌, want}
use Rattle.eol_convert.specs.declared.setting.AutoCrlf.{AutoCrlf}
use Rattle.eol_convert.specs.declared.setting.EolSetting.{EolSetting}
use Rattle.git_config.specs.declared.setting.Setting.{Setting}
use Rattle.settings_view.specs.Drivers.{said_of, single_of, process_by, required_driver, driver_from, drivers_named, drivers_told, names_of}
use Rattle.settings_view.specs.Keys.{crlf_told, eol_told, workers_told, threshold_told, has_sha1}
use Rattle.settings_view.specs.View.{settings_of}
use Rattle.settings_view.specs.declared.drivers.SingleRun.TheVariants.{Smudge, Clean}
use Rattle.settings_view.specs.declared.fault.KeyId.TheVariants.{ObjectFormat}
use Rattle.settings_view.specs.declared.fault.SettingFault.{SettingFault}
use Rattle.settings_view.specs.declared.fault.SettingFault.TheVariants.{BadBool, BadNumber, BadChoice, NoMemory}
use Rattle.settings_view.specs.declared.view.Driver.{Driver}
use Rattle.settings_view.specs.declared.view.Settings.{Settings}

-- these are the same drivers, though what runs them may differ
abbrev pub AreAlike : List Driver → List Driver → Type 0
AreAlike [] [] = Unit {0}
AreAlike (d ∷ ds) (e ∷ es) = (d.name ≡ e.name) × (d.required ≡ e.required) × AreAlike ds es
AreAlike ds es = ⊥

-- the steps of a reading that came to a value
then_ok : (A B E : Type 0) (r : Result A E) (f : A → Result B E) (y : B) → (r >>= f) ≡ Ok y → (x : A) × (r ≡ Ok x) × (f x ≡ Ok y)
then_ok A B E (Ok x) f y is = (x, refl, is)
then_ok A B E (Err e) f y is = absurd cc

wanted : (A E : Type 0) (b : Bool) (e : E) (r : Result A E) (y : A) → want b e r ≡ Ok y → r ≡ Ok y
wanted A E true e r y is = is
wanted A E false e r y is = absurd cc

one_alike : (name : List ℕ) (process process' : Option (List ℕ)) (required : Option Bool) (d : Driver) → required_driver name process required ≡ Ok d
    → (e : Driver) × (required_driver name process' required ≡ Ok e) × (d.name ≡ e.name) × (d.required ≡ e.required)
one_alike name process process' None d is = absurd cc
one_alike name process process' (Some required) d is =
    let made : record { name = name; process = process; required = required } ≡ d = cc in
    (record { name = name; process = process'; required = required }, refl, sym (ap (λ (x : Driver). x.name) made), sym (ap (λ (x : Driver). x.required) made))

all_alike : (config : List Setting) (names : List (List ℕ)) (ds : List Driver) → drivers_named Smudge config names ≡ Ok ds → (es : List Driver) × (drivers_named Clean config names ≡ Ok es) × AreAlike ds es
all_alike config [] [] is = ([], refl, tt)
all_alike config [] (d ∷ ds) is = absurd cc
all_alike config (name ∷ names) ds is =
    let said = said_of config name in
    let first = then_ok _ _ _ (driver_from Smudge name said) _ ds is in
    let rest = then_ok _ _ _ (drivers_named Smudge config names) _ ds first.2 in
    let one = one_alike name (process_by said.process (single_of Smudge said)) (process_by said.process (single_of Clean said)) said.required first.0 first.1 in
    let more = all_alike config names rest.0 rest.1 in
    let made : first.0 ∷ rest.0 ≡ ds = cc in
    (one.0 ∷ more.0, both one.0 more.0 one.1 more.1, subst (λ (x : List Driver). AreAlike x (one.0 ∷ more.0)) made (one.2, one.3, more.2))
  where
    both : (e : Driver) (es : List Driver) → driver_from Clean name (said_of config name) ≡ Ok e → drivers_named Clean config names ≡ Ok es → drivers_named Clean config (name ∷ names) ≡ Ok (e ∷ es)
    both e es first rest = rw first (rw rest refl)

drivers_in : (a : AutoCrlf) (b : EolSetting) (workers threshold : ℕ) (ds : List Driver) (s : Settings) (r : Result Settings SettingFault) → r ≡ Ok (record { autocrlf = a; eol = b; workers = workers; threshold = threshold; drivers = ds }) → r ≡ Ok s
    → ds ≡ s.drivers
drivers_in a b workers threshold ds s r is so =
    let both : Ok (record { autocrlf = a; eol = b; workers = workers; threshold = threshold; drivers = ds }) ≡ Ok s = sym is ∙ so in
    let made : record { autocrlf = a; eol = b; workers = workers; threshold = threshold; drivers = ds } ≡ s = cc in
    ap (λ (x : Settings). x.drivers) made

-- the settings say the drivers that smudge
smudging : (config : List Setting) (s : Settings) → settings_of config ≡ Ok s → drivers_told Smudge config ≡ Ok s.drivers
unfolding settings_of
smudging config s is =
    let one = then_ok _ _ _ (crlf_told config) _ s is in
    let two = then_ok _ _ _ (eol_told config) _ s one.2 in
    let three = then_ok _ _ _ (workers_told config) _ s two.2 in
    let four = then_ok _ _ _ (threshold_told config) _ s three.2 in
    let five = then_ok _ _ _ (drivers_told Smudge config) _ s (wanted _ _ (has_sha1 config) (BadChoice ObjectFormat) _ s four.2) in
    five.1 ∙ ap (λ (ds : List Driver). Ok ds) (drivers_in one.0 two.0 three.0 four.0 five.0 s _ refl five.2)

-- Where there are settings there are drivers that clean, and they are those that the settings say.
pub are_alike : (config : List Setting) (s : Settings) → settings_of config ≡ Ok s → (es : List Driver) × (drivers_told Clean config ≡ Ok es) × AreAlike s.drivers es
are_alike config s is = all_alike config (names_of config) s.drivers (smudging config s is)

no_clean_fault : (config : List Setting) (s : Settings) (f : SettingFault) → settings_of config ≡ Ok s → drivers_told Clean config ≡ Err f → ⊥
no_clean_fault config s f says fails =
    let found = are_alike config s says in
    let never : Ok found.0 ≡ Err f = sym found.1 ∙ fails in
    cc

-- so memory alone may be wanting for these
pub memory_alone : (config : List Setting) (s : Settings) (f : SettingFault) → settings_of config ≡ Ok s → ((f ≡ NoMemory → ⊥) → drivers_told Clean config ≡ Err f) → f ≡ NoMemory
memory_alone config s NoMemory says fails = refl
memory_alone config s (BadBool key) says fails = absurd (no_clean_fault config s (BadBool key) says (fails (λ never. cc)))
memory_alone config s (BadNumber key) says fails = absurd (no_clean_fault config s (BadNumber key) says (fails (λ never. cc)))
memory_alone config s (BadChoice key) says fails = absurd (no_clean_fault config s (BadChoice key) says (fails (λ never. cc)))
