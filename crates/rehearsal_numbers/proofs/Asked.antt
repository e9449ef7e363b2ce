-- How each path of a rehearsal is converted, and who writes it.
use Rattle.std.proofs.Common.{◌≡◌, ℕ, zero, suc, ◌+◌, ◌*◌, ◌<◌, ◌/◌, ◌%◌, true, false, List, [], ◌∷◌, refl, sym, ap, ◌∙◌, subst, arith, map}
use Rattle.std.specs.Prelude.{codes}
use Rattle.std.specs.Option.{unwrap_or}
use Rattle.std.specs.List.{AllByRecursion}
use Rattle.std.specs.Str.{IsAscii, chars, is_utf8}
use lib.Utf8.{encode}
use Rattle.std.proofs.lemmas.List.{append-nil}
use Rattle.std.proofs.lemmas.Str.{IsUtf8-from_ascii, is_utf8-from_IsUtf8}
use Rattle.attr_line.specs.declared.state.AttrState.{AttrState}
use Rattle.attr_line.specs.declared.state.AttrState.TheVariants.{Unspecified}
use Rattle.attr_line.specs.declared.file.Pair.{Pair}
use Rattle.attr_line.specs.declared.file.AttrFile.{AttrFile}
use Rattle.attr_line.specs.File.{attributes_at}
use Rattle.bstr.specs.Text.{lines_from, line_len}
use Rattle.wild_match.specs.Pieces.{plain_front, front}
use Rattle.wild_match.specs.Fits.{is_match}
use Rattle.attr_stack.specs.Macros.{macros_of}
use Rattle.attr_stack.specs.Decided.{decided, said_of, no_names}
use Rattle.attr_stack.specs.Pairs.{pairs_of, pairs_before}
use Rattle.attr_stack.specs.declared.files.AttrFiles.{AttrFiles}
use Rattle.eol_convert.specs.declared.setting.AutoCrlf.TheVariants as crlf
use Rattle.eol_convert.specs.declared.setting.EolSetting.TheVariants as eol
use Rattle.tree_encoding.specs.Named.{is_name, encoding_named}
use Rattle.convert_plan.specs.Conversion.{conversion_of}
use Rattle.git_index.specs.declared.entry.Entry.{Entry}
use Rattle.git_index.specs.declared.entry.Mode.TheVariants.{Plain}
use Rattle.edge_kit.specs.declared.leaf_state.Mark.TheVariants as mark
use Rattle.settings_view.specs.declared.view.Settings.{Settings}
use Rattle.checkout_plan.specs.declared.path_plan.PathPlan.{PathPlan}
use Rattle.checkout_plan.specs.Paths.{asked_path, filter_start, filter_place, converted, conversion_names}
use Rattle.rehearsal.specs.Paths.{kind, name, content}
use Rattle.rehearsal.specs.Repository.{attributes, attributes_name, entry_of}
use Rattle.rehearsal.specs.Repository as repository
use Rattle.rehearsal_numbers.specs.Contents.{name_of}
use Rattle.rehearsal_numbers.specs.Plans.{conversion_at, start_at, driver_at, path_at, attributes_path, alpha, beta}
use Rattle.rehearsal_numbers.proofs.Rows.{top, spelled, says, folders_say}

abbrev pub settings : Settings
settings = record {
  autocrlf = crlf.False;
  eol = eol.Native;
  workers = 4;
  threshold = 1;
  drivers = alpha ∷ beta ∷ [];
}

abbrev pub no_file : AttrFile
no_file = record { rows = []; skipped = record { long = 0; negative = 0; name = 0; place = 0 } }

pub none_is : attributes_at [] true ≡ no_file
unfolding attributes_at lines_from line_len
none_is = refl

abbrev pub given : AttrFiles
given = record { info = no_file; base = no_file; files = top }

all_ascii : (xs : List ℕ) → AllByRecursion (λ x. x < 128) xs → IsAscii xs
all_ascii [] h i = omega arith
all_ascii (x ∷ xs) h zero = h.0
all_ascii (x ∷ xs) h (suc i) = all_ascii xs h.1 i

-- what the pairs of a path say of a name
state_by : List Pair → List ℕ → AttrState
state_by pairs name = unwrap_or (said_of (decided (macros_of given) pairs no_names) name) Unspecified

made_by : List Pair → Entry → PathPlan
made_by pairs e =
    record (converted e (filter_start settings.drivers (state_by pairs (codes "filter")))
    (conversion_of (map (state_by pairs) conversion_names) settings.autocrlf settings.eol))
    { driver = filter_place settings.drivers (state_by pairs (codes "filter")) }

abbrev entry : List ℕ → List ℕ → Entry
entry path name = record { path = path; stage = 0; mode = Plain; name = name; sparse = false; intent = false }

abbrev result : List ℕ → List ℕ → ℕ → PathPlan
result path name k = record {
  path = path;
  object = name;
  mark = mark.Plain;
  conversion = conversion_at k;
  start = start_at 1 k;
  driver = driver_at k;
}

-- a fact of each number below 8
pub eight : (P : ℕ → Type 0) → P 0 → P 1 → P 2 → P 3 → P 4 → P 5 → P 6 → P 7 → (k : ℕ) → k < 8 → P k
eight P p0 p1 p2 p3 p4 p5 p6 p7 zero h = p0
eight P p0 p1 p2 p3 p4 p5 p6 p7 (suc zero) h = p1
eight P p0 p1 p2 p3 p4 p5 p6 p7 (suc (suc zero)) h = p2
eight P p0 p1 p2 p3 p4 p5 p6 p7 (suc (suc (suc zero))) h = p3
eight P p0 p1 p2 p3 p4 p5 p6 p7 (suc (suc (suc (suc zero)))) h = p4
eight P p0 p1 p2 p3 p4 p5 p6 p7 (suc (suc (suc (suc (suc zero))))) h = p5
eight P p0 p1 p2 p3 p4 p5 p6 p7 (suc (suc (suc (suc (suc (suc zero)))))) h = p6
eight P p0 p1 p2 p3 p4 p5 p6 p7 (suc (suc (suc (suc (suc (suc (suc zero))))))) h = p7
eight P p0 p1 p2 p3 p4 p5 p6 p7 (suc (suc (suc (suc (suc (suc (suc (suc k)))))))) h = absurd (omega (arith, h))

by_kind : (a b c d e f g : ℕ) (path name : List ℕ) (k : ℕ) → k < 8
    → made_by (says a b c d e f g k) (entry path name) ≡ result path name k
unfolding made_by state_by decided is_name encoding_named
by_kind a b c d e f g path name k lt =
    eight (λ k. made_by (says a b c d e f g k) (entry path name) ≡ result path name k)
    refl refl refl refl refl refl refl refl k lt

pairs_are : (a b c d e f g k : ℕ) → pairs_of given (spelled a b c d e f g k) ≡ says a b c d e f g k
pairs_are a b c d e f g k =
    append-nil (pairs_before top (spelled a b c d e f g k) 13) ∙ folders_say a b c d e f g k

is_text : (a b c d e f g k : ℕ) → a < 10 → b < 10 → c < 10 → d < 10 → e < 10 → f < 10 → g < 10 → k < 10
    → is_utf8 (spelled a b c d e f g k) ≡ true
is_text a b c d e f g k pa pb pc pd pe pf pg pk =
    is_utf8-from_IsUtf8 (spelled a b c d e f g k)
    (IsUtf8-from_ascii (spelled a b c d e f g k) (all_ascii (spelled a b c d e f g k)
    (omega arith, (omega (arith, pa), (omega arith, (omega arith, (omega (arith, pb), (omega (arith, pc), (omega (arith, pd), (omega (arith, pe), (omega (arith, pf), (omega (arith, pg), (omega arith, (omega arith, (omega (arith, pk), tt)))))))))))))))

-- a path of UTF-8 is made by its pairs
texts : (path name : List ℕ) → is_utf8 path ≡ true
    → asked_path given settings (entry path name) ≡ made_by (pairs_of given path) (entry path name)
unfolding made_by state_by
texts path name h = rw h refl

abbrev named : ℕ → ℕ → List ℕ
named i k =
    spelled (i % 10) (i / 10 / 10 / 10 / 10 / 10 % 10) (i / 10 / 10 / 10 / 10 % 10) (i / 10 / 10 / 10 % 10)
    (i / 10 / 10 % 10) (i / 10 % 10) (i % 10) k

below_ten : (n : ℕ) → n % 10 < 10
below_ten n = omega arith

pub below_eight : (n : ℕ) → n % 8 < 8
below_eight n = omega arith

asked_named : (i k : ℕ) → k < 8 → (name : List ℕ)
    → asked_path given settings (entry (named i k) name) ≡ result (named i k) name k
asked_named i k lt name =
    texts (named i k) name
    (is_text (i % 10) (i / 10 / 10 / 10 / 10 / 10 % 10) (i / 10 / 10 / 10 / 10 % 10) (i / 10 / 10 / 10 % 10)
    (i / 10 / 10 % 10) (i / 10 % 10) (i % 10) k (below_ten i) (below_ten (i / 10 / 10 / 10 / 10 / 10))
    (below_ten (i / 10 / 10 / 10 / 10)) (below_ten (i / 10 / 10 / 10)) (below_ten (i / 10 / 10)) (below_ten (i / 10))
    (below_ten i) (omega (arith, lt)))
    ∙ ap (λ (ps : List Pair). made_by ps (entry (named i k) name))
    (pairs_are (i % 10) (i / 10 / 10 / 10 / 10 / 10 % 10) (i / 10 / 10 / 10 / 10 % 10) (i / 10 / 10 / 10 % 10)
    (i / 10 / 10 % 10) (i / 10 % 10) (i % 10) k)
    ∙ by_kind (i % 10) (i / 10 / 10 / 10 / 10 / 10 % 10) (i / 10 / 10 / 10 / 10 % 10) (i / 10 / 10 / 10 % 10)
    (i / 10 / 10 % 10) (i / 10 % 10) (i % 10) (named i k) name k lt

pub asked_is : (seed i : ℕ) → asked_path given settings (entry_of (repository.file seed i)) ≡ path_at 1 seed i
asked_is seed i =
    let k = kind seed i in
    let one : k % 10 ≡ k = omega arith in
    subst (λ (m : ℕ). asked_path given settings (entry (named i m) (name_of (content seed i)))
    ≡ result (named i m) (name_of (content seed i)) k) (sym one)
    (asked_named i k (below_eight (seed + 7 * i)) (name_of (content seed i)))

abbrev pub first : repository.File
first = record { path = codes ".gitattributes"; content = attributes }

first_says : pairs_of given (codes ".gitattributes") ≡ []
unfolding is_match plain_front front
first_says = refl

first_text : is_utf8 (codes ".gitattributes") ≡ true
unfolding is_utf8 chars encode
first_text = refl

first_made : made_by [] (entry (codes ".gitattributes") attributes_name) ≡ attributes_path
unfolding made_by state_by decided is_name encoding_named
first_made = refl

pub first_is : asked_path given settings (entry_of first) ≡ attributes_path
first_is =
    texts (codes ".gitattributes") attributes_name first_text
    ∙ ap (λ (ps : List Pair). made_by ps (entry (codes ".gitattributes") attributes_name)) first_says
    ∙ first_made
