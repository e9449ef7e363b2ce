-- The text of entries with what is told of their files is an index of them.
use Rattle.std.proofs.Common.{◌≡◌, ℕ, zero, suc, ◌+◌, ◌<◌, ◌≤◌, Bool, true, false, List, [], ◌∷◌, ◌++◌, length, get_or, drop, refl, sym, ap, subst, ◌∙◌, append_assoc, arith}
use Rattle.std.specs.Prelude.{if◌then◌else◌, ◌||◌}
use Rattle.std.specs.List.{flat_map, list_any, AllByRecursion}
use Rattle.std.proofs.lemmas.Bool.{or_right}
use Rattle.std.proofs.lemmas.List.{append-nil, at_drop_more, at_drop_all}
use Rattle.std.proofs.lemmas.List.Concat.{flat_map-cons}
use Rattle.std.proofs.lemmas.Slice.Eq.{bytes_eq-Decides}
use Rattle.sha1.specs.Sha1.{sha1}
use Rattle.git_index.specs.declared.entry.Entry.{Entry}
use Rattle.git_index.specs.declared.stat.Stat.{Stat}
use Rattle.git_index.specs.declared.version.Version.{Version as Release}
use Rattle.git_index.specs.declared.version.Version.TheVariants.{Two, Three, Four}
use Rattle.git_index.specs.Spelling.{Written, IsWritten, AreWritten, spelled, all_spelled, header, body, is_hash_of, IsIndexText, IsIndex, IsEntry, CanStand, EntriesCanStand, EntriesHaveAText, StatsArePassedOver, is_flagged, bit, first_stat, written, with_stats, plain_version, plain_spelled, plain_body, plain_text, version_for, stat_body, stat_text}
use Rattle.git_index.proofs.Changed.{changed-is, not_long}
use Rattle.git_index.proofs.Whole.{entries_of}
use Rattle.git_index.proofs.AgainWhole.{one_reading}

neither : (a b : Bool) → (a || b) ≡ false → (a ≡ false) × (b ≡ false)
neither true b e = absurd cc
neither false b e = (refl, e)

bit_small : (b : Bool) → bit b < 2
bit_small true = omega arith
bit_small false = omega arith

written_fits : (version : Release) (last : List ℕ) (s : Stat) (e : Entry) → (version ≡ Two → is_flagged e ≡ false) → length last ≤ 4096 → IsEntry e → IsWritten version last (written last s e)
written_fits version last s e two few is = record {
  before = refl;
  after = refl;
  name = is.name;
  valid = bit_small s.valid;
  stage = is.stage;
  path = is.path;
  no_nul = is.no_nul;
  bits = two;
  none = neither e.sparse e.intent;
  changed = λ four. changed-is last s e few;
}

all_written : (version : Release) (last : List ℕ) (es : List Entry) (ss : List Stat) → (version ≡ Two → list_any is_flagged es ≡ false) → length last ≤ 4096 → AllByRecursion IsEntry es → AreWritten version last (with_stats last es ss)
all_written version last [] ss two few are = tt
all_written version last (e ∷ es) ss two few are = (
  written_fits version last (first_stat ss) e (λ is. (neither (is_flagged e) (list_any is_flagged es) (two is)).0) few are.0,
  all_written version e.path es (drop 1 ss) (λ is. (neither (is_flagged e) (list_any is_flagged es) (two is)).1) (not_long e.path are.0.path) are.1,
)

entries_are : (version : Release) (last : List ℕ) (ws : List Written) → AreWritten version last ws → AllByRecursion IsEntry (entries_of ws)
entries_are version last [] fits = tt
entries_are version last (w ∷ ws) fits =
    let f = fits.0 in
    (record { name = f.name; stage = f.stage; path = f.path; no_nul = f.no_nul }, entries_are version w.entry.path ws fits.1)

same_entries : (last : List ℕ) (es : List Entry) (ss : List Stat) → entries_of (with_stats last es ss) ≡ es
same_entries last [] ss = refl
same_entries last (e ∷ es) ss = ap (λ (xs : List Entry). e ∷ xs) (same_entries e.path es (drop 1 ss))

same_length : (last : List ℕ) (es : List Entry) (ss : List Stat) → length es ≡ length (with_stats last es ss)
same_length last [] ss = refl
same_length last (e ∷ es) ss = ap suc (same_length e.path es (drop 1 ss))

two_by : (b : Bool) → (if b then Three else Two) ≡ Two → b ≡ false
two_by true e = absurd cc
two_by false e = refl

two_for : (version : Release) (es : List Entry) → version_for version es ≡ Two → list_any is_flagged es ≡ false
two_for Two es e = two_by (list_any is_flagged es) e
two_for Three es e = two_by (list_any is_flagged es) e
two_for Four es e = absurd cc

stat_body-is : (version : Release) (es : List Entry) (ss : List Stat) → stat_body version es ss ≡ body (version_for version es) (with_stats [] es ss) []
stat_body-is version es ss =
    let ws : List Written = with_stats [] es ss in
    let v : Release = version_for version es in
    ap (λ (n : ℕ). header v n ++ all_spelled v [] ws) (same_length [] es ss) ∙ sym (append-nil _)

plain_flat : (b : Bool) (last : List ℕ) (es : List Entry) → all_spelled (if b then Three else Two) last (with_stats last es []) ≡ flat_map plain_spelled es
plain_flat true last [] = refl
plain_flat false last [] = refl
plain_flat true last (e ∷ es) = ap (λ (r : List ℕ). plain_spelled e ++ r) (plain_flat true e.path es) ∙ sym (flat_map-cons plain_spelled e es)
plain_flat false last (e ∷ es) = ap (λ (r : List ℕ). plain_spelled e ++ r) (plain_flat false e.path es) ∙ sym (flat_map-cons plain_spelled e es)

-- with no stat the text is the plain one
pub plain_text-is : (es : List Entry) → stat_text Two es [] ≡ plain_text es
plain_text-is es =
    let same : stat_body Two es [] ≡ plain_body es = ap (λ (r : List ℕ). header (plain_version es) (length es) ++ r) (plain_flat (list_any is_flagged es) [] es) in
    ap (λ (r : List ℕ). r ++ sha1 r) same

hash_of : (text : List ℕ) → is_hash_of text (sha1 text) ≡ true
hash_of text = or_right _ _ ((bytes_eq-Decides (sha1 text) (sha1 text)).1 refl)

pub stat_index : (version : Release) (es : List Entry) (ss : List Stat) → CanStand es → IsIndexText (stat_text version es ss) es
stat_index version es ss can = record {
  version = version_for version es;
  written = with_stats [] es ss;
  extensions = [];
  hash = sha1 (stat_body version es ss);
  spelled_so = ap (λ (b : List ℕ). b ++ sha1 (stat_body version es ss)) (stat_body-is version es ss);
  same = same_entries [] es ss;
  fit = all_written (version_for version es) [] es ss (two_for version es) (omega arith) can.each;
  passed = tt;
  hashed = subst (λ (b : List ℕ). is_hash_of b (sha1 (stat_body version es ss)) ≡ true) (stat_body-is version es ss) (hash_of (stat_body version es ss));
  few = can.few;
  rising = can.rising;
  alone = can.alone;
  apart = can.apart;
}

pub have_a_text : EntriesHaveAText
have_a_text es are few rising alone apart =
    subst (λ (text : List ℕ). IsIndexText text es) (plain_text-is es)
    (stat_index Two es [] (record { each = are; few = few; rising = rising; alone = alone; apart = apart }))

pub passed_over : StatsArePassedOver
passed_over version es fs ss can index = one_reading (stat_text version es ss) fs es index (record { text = stat_index version es ss can; small = index.small })

index_entries : (bytes : List ℕ) (es : List Entry) → IsIndex bytes es → AllByRecursion IsEntry es
index_entries bytes es index = subst (AllByRecursion IsEntry) index.text.same (entries_are index.text.version [] index.text.written index.text.fit)

-- the entries of an index can stand in one
pub can_stand : EntriesCanStand
can_stand bytes es index = let text = index.text in record { each = index_entries bytes es index; few = text.few; rising = text.rising; alone = text.alone; apart = text.apart }

entry_by : (es : List Entry) → AllByRecursion IsEntry es → (i : ℕ) (d : Entry) → i < length es → IsEntry (get_or es i d)
entry_by [] are i d lt = absurd (omega arith)
entry_by (e ∷ es) are zero d lt = are.0
entry_by (e ∷ es) are (suc i) d lt = entry_by es are.1 i d (omega arith)

-- each entry is one that an index may have
pub entry_at : (es : List Entry) → CanStand es → (i : ℕ) (e : Entry) → i < length es → e ≡ get_or es i e → IsEntry e
entry_at es can i e lt is = subst IsEntry (sym is) (entry_by es can.each i e lt)

-- what of the entries isn't spelled yet, after one with this path
abbrev pub left : Release → List ℕ → List Entry → List Stat → List ℕ
left version last es ss = all_spelled version last (with_stats last es ss)

-- what is spelled, and what is left
pub record IsSpelledSo (version : Release) (es : List Entry) (ss : List Stat) (i : ℕ) (text last : List ℕ) (rest : List Stat) : Type 0 where
  pub whole : text ++ left (version_for version es) last (drop i es) rest ≡ stat_body version es ss
  pub few : length last ≤ 4096

-- the header alone
pub begun : (version : Release) (es : List Entry) (ss : List Stat) (text last : List ℕ) → text ≡ header (version_for version es) (length es) → last ≡ [] → IsSpelledSo version es ss 0 text last ss
begun version es ss text last head none = record {
  whole = λ i. head i ++ left (version_for version es) (none i) es ss;
  few = subst (λ (p : List ℕ). length p ≤ 4096) (sym none) (omega arith);
}

-- one more entry
pub one_more : (version : Release) (es : List Entry) (ss rest others : List Stat) (s : Stat) (i : ℕ) (e : Entry) (text more last path : List ℕ) → CanStand es → i < length es → e ≡ get_or es i e → s ≡ first_stat rest → others ≡ drop 1 rest → path ≡ e.path → IsSpelledSo version es ss i text last rest → more ≡ text ++ spelled (version_for version es) last (written last s e) → IsSpelledSo version es ss (i + 1) more path others
one_more version es ss rest others s i e text more last path can lt is first behind path_is so grown =
    let v : Release = version_for version es in
    let left_then : List ℕ = left v e.path (drop (i + 1) es) (drop 1 rest) in
    let next : left v last (drop i es) rest ≡ left v last (e ∷ drop (i + 1) es) rest = at_drop_more (λ (xs : List Entry). left v last xs rest) es i e lt ∙ ap (λ (x : Entry). left v last (x ∷ drop (i + 1) es) rest) (sym is) in
    let spelled_so : more ≡ text ++ spelled v last (written last (first_stat rest) e) = grown ∙ ap (λ (x : Stat). text ++ spelled v last (written last x e)) first in
    record {
      whole = (λ j. more ++ left v (path_is j) (drop (i + 1) es) (behind j)) ∙ ap (λ (r : List ℕ). r ++ left_then) spelled_so ∙ append_assoc text (spelled v last (written last (first_stat rest) e)) left_then ∙ ap (λ (r : List ℕ). text ++ r) (sym next) ∙ so.whole;
      few = subst (λ (p : List ℕ). length p ≤ 4096) (sym path_is) (not_long e.path (entry_at es can i e lt is).path);
    }

-- the whole text
pub whole_spelled : (version : Release) (es : List Entry) (ss rest : List Stat) (n : ℕ) (text last hashed hash whole : List ℕ) → length es ≤ n → IsSpelledSo version es ss n text last rest → hashed ≡ text → hash ≡ sha1 hashed → whole ≡ text ++ hash → whole ≡ stat_text version es ss
whole_spelled version es ss rest n text last hashed hash whole past so same is grown =
    let v : Release = version_for version es in
    let done : text ≡ stat_body version es ss = sym (append-nil text) ∙ ap (λ (r : List ℕ). text ++ r) (sym (at_drop_all (λ (xs : List Entry). left v last xs rest) es n past)) ∙ so.whole in
    let hash_is : hash ≡ sha1 (stat_body version es ss) = is ∙ ap sha1 (same ∙ done) in
    grown ∙ ap (λ (r : List ℕ). r ++ hash) done ∙ ap (λ (r : List ℕ). stat_body version es ss ++ r) hash_is
