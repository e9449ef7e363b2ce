-- Choices that are those that a work tells.
use Rattle.std.specs.Prelude.{◌≡◌, ℕ, if◌then◌else◌, Bool, true, false, Option, Some, None, List, [], ◌∷◌}
use Rattle.std.specs.Str.{bytes_eq}
use Rattle.edge_kit.specs.Told.{Tells}
use Rattle.filter_words.specs.Listing.{name_in}
use Rattle.filter_words.specs.declared.reply.Caps.{Caps}
use Rattle.driver_host.specs.declared.work.Choice.{Choice}
use Rattle.driver_host.specs.declared.work.Choice.TheVariants as choice
use Rattle.driver_host.specs.declared.work.LateChoice.{LateChoice}
use Rattle.driver_host.specs.declared.work.LateChoice.TheVariants as late
use Rattle.driver_host.specs.Requests.{Request, Hello, Offer, Smudge, Listing}
use Rattle.driver_host.specs.Answers.{both}
use Rattle.driver_host.specs.HostText.{Stage, Fresh, Greeted, Serving, none_owed, after_list, after_choice}
use Rattle.driver_host.specs.HostText.{HostEnd, IsHostText}
use Rattle.driver_host.specs.Works.{WorkTold}

-- the content of the latest first request for each path
abbrev pub Contents : Type 0
Contents = List ℕ → Option (List ℕ)

abbrev pub none_asked : Contents
none_asked path = None

abbrev pub asked_with : Contents → List ℕ → List ℕ → Contents
asked_with contents path content name = if bytes_eq name path then Some content else contents name

-- a choice at a second request, as one of the choices
abbrev pub choice_of : LateChoice → Choice
choice_of (late.Give bytes) = choice.Give bytes
choice_of late.Refuse = choice.Refuse
choice_of late.Stop = choice.Stop

-- the choice is what is told for a path and the content of the latest first request for it
abbrev pub IsSecond : WorkTold → List ℕ → Option (List ℕ) → Choice → Type 0
IsSecond told path None c = ⊥
IsSecond told path (Some content) c = (l : LateChoice) × (c ≡ choice_of l) × Tells (told.second path content) l

-- the choice is what is told of the first request, or of the second one, which a request for a listed path is
abbrev pub IsChosen : WorkTold → Contents → Bool → List ℕ → Bool → List ℕ → Choice → Type 0
IsChosen told contents true path can_delay content c = IsSecond told path (contents path) c
IsChosen told contents false path can_delay content c = Tells (told.first path content can_delay) c

abbrev pub contents_after : Contents → Bool → List ℕ → List ℕ → Contents
contents_after contents true path content = contents
contents_after contents false path content = asked_with contents path content

-- Each choice is the told one: the requests come from a stage in which these contents were asked for, and lead to
-- another one.
abbrev pub AreChosen : WorkTold → Caps → ℕ → Stage → Contents → List Request → List Choice → Stage → Contents → Type 0
AreChosen told own batch s contents [] cs t last = (cs ≡ []) × (s ≡ t) × (last ≡ contents)
AreChosen told own batch Fresh contents (Hello ∷ rs) cs t last =
    AreChosen told own batch Greeted contents rs cs t last
AreChosen told own batch Greeted contents (Offer offered ∷ rs) cs t last =
    AreChosen told own batch (Serving (both own offered) none_owed) contents rs cs t last
AreChosen told own batch (Serving agreed owed) contents (Listing ∷ rs) cs t last =
    AreChosen told own batch (Serving agreed (after_list batch owed)) contents rs cs t last
AreChosen told own batch (Serving agreed owed) contents (Smudge path can_delay content ∷ rs) cs t last =
    (c : Choice) × (more : List Choice) × (cs ≡ c ∷ more)
    × IsChosen told contents (name_in owed.listed path) path can_delay content c
    × AreChosen told own batch (after_choice agreed owed path c)
    (contents_after contents (name_in owed.listed path) path content) rs more t last
AreChosen told own batch s contents rs cs t last = ⊥

-- the text of a host, each of whose choices is the told one
pub record IsChosenText (told : WorkTold) (own : Caps) (batch : ℕ) (bytes : List ℕ) (choices : List Choice)
    (text : List ℕ) (end : HostEnd) : Type 0 where
  pub is : IsHostText own batch bytes choices text end
  pub contents : Contents
  pub chosen : AreChosen told own batch Fresh none_asked is.requests choices is.stage contents
