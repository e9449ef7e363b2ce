-- Paths by the states of their attributes.
use Rattle.std.proofs.Common.{◌≡◌, ℕ, Bool, true, false, List, map, take, Option, Result, refl, ap, ◌∙◌}
use Rattle.std.specs.Prelude.{slice_index_or}
use Rattle.std.specs.Str.{IsUtf8, is_utf8}
use Rattle.std.proofs.lemmas.Str.{IsUtf8-from_is_utf8}
use Rattle.attr_line.specs.declared.state.AttrState.{AttrState}
use Rattle.attr_line.specs.declared.state.AttrState.TheVariants.{Unspecified}
use Rattle.attr_stack.specs.declared.files.AttrFiles.{AttrFiles}
use Rattle.attr_stack.specs.Decided.{state_of}
use Rattle.git_index.specs.declared.entry.Entry.{Entry}
use Rattle.settings_view.specs.declared.view.Driver.{Driver}
use Rattle.settings_view.specs.declared.view.Settings.{Settings}
use Rattle.tree_encoding.specs.declared.encoding.UnknownEncoding.{UnknownEncoding}
use Rattle.convert_plan.specs.declared.conversion.Conversion.{Conversion}
use Rattle.convert_plan.specs.Conversion.{conversion_of}
use Rattle.checkout_core.specs.declared.path.Start.{Start}
use Rattle.checkout_plan.specs.declared.path_plan.PathPlan.{PathPlan}
use Rattle.checkout_plan.specs.Paths.{converted, filter_start, filter_place, start_of, file_path}
use Rattle.checkout_plan.specs.Seen.{asked_names, path_by}
use Rattle.checkout_plan.proofs.Named.{places_start}

false_at : (b : Bool) → (b ≡ true → ⊥) → false ≡ b
false_at true never = absurd (never refl)
false_at false never = refl

pub no_text : (bytes : List ℕ) → ¬ (IsUtf8 bytes) → false ≡ is_utf8 bytes
no_text bytes never = false_at (is_utf8 bytes) (λ is. never (IsUtf8-from_is_utf8 bytes is))

pub file_by_states : (files : AttrFiles) (settings : Settings) (e : Entry) (states : List AttrState) → states ≡ map (state_of files e.path) asked_names → path_by settings e states ≡ file_path files settings e
file_by_states files settings e states is = rw is refl

-- a file by the place of its driver, how it begins there, and its conversion
pub by_parts : (settings : Settings) (e : Entry) (states : List AttrState) (filter : AttrState) (drivers : List Driver) (driver : Option ℕ) (begin : Start) (front : List AttrState) (conversion : Result Conversion UnknownEncoding) (path : PathPlan)
    → filter ≡ slice_index_or states 5 Unspecified → drivers ≡ settings.drivers → driver ≡ filter_place settings.drivers filter → begin ≡ start_of drivers driver → front ≡ take 5 states → conversion ≡ conversion_of front settings.autocrlf settings.eol
    → path ≡ converted e begin conversion → record path { driver = driver } ≡ path_by settings e states
by_parts settings e states filter drivers driver begin front conversion path filter_is drivers_are driver_is begin_is front_is conversion_is path_is =
    let state : AttrState = slice_index_or states 5 Unspecified in
    let place : Option ℕ = filter_place settings.drivers state in
    let there : driver ≡ place = driver_is ∙ ap (filter_place settings.drivers) filter_is in
    let begins : begin ≡ filter_start settings.drivers state =
    begin_is ∙ ap (λ (ds : List Driver). start_of ds driver) drivers_are ∙ ap (start_of settings.drivers) there ∙ places_start settings.drivers state in
    let converts : conversion ≡ conversion_of (take 5 states) settings.autocrlf settings.eol = conversion_is ∙ ap (λ (ss : List AttrState). conversion_of ss settings.autocrlf settings.eol) front_is in
    ap (λ (p : PathPlan). record p { driver = driver }) path_is
    ∙ ap (λ (o : Option ℕ). record (converted e begin conversion) { driver = o }) there
    ∙ ap (λ (s : Start). record (converted e s conversion) { driver = place }) begins
    ∙ ap (λ (r : Result Conversion UnknownEncoding). record (converted e (filter_start settings.drivers state) r) { driver = place }) converts
