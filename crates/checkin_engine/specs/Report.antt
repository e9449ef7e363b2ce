-- The report of a check-in.
use Rattle.std.specs.Prelude.{ℕ, Bool, true, false, List, [], ◌∷◌, ◌++◌, count_by, codes}
use Rattle.std.specs.Fmt.{decimal}
use Rattle.hex.specs.Hex.{encode_lower}
use Rattle.byte_path.specs.Quote.{quoted}
use Rattle.byte_path.specs.Characters.{space, line_feed}
use Rattle.checkin_paths.specs.declared.path.CheckinPath.{CheckinPath}
use Rattle.checkin_paths.specs.declared.fate.Fate.{Fate}
use Rattle.checkin_paths.specs.declared.fate.Fate.TheVariants.{Same, Changed, Gone, Kept, Failed}
use Rattle.checkin_paths.specs.Fates.{cause_word}

-- the words of a fate, with a space behind each
abbrev pub fate_words : Fate → List ℕ
fate_words Same = codes "same "
fate_words (Changed name) = codes "changed " ++ (encode_lower name ++ space ∷ [])
fate_words Gone = codes "gone "
fate_words Kept = codes "kept "
fate_words (Failed cause) = codes "failed " ++ (cause_word cause ++ space ∷ [])

-- the line of a path: the words and the quoted path
abbrev pub line_of : CheckinPath → Fate → List ℕ
line_of p fate = fate_words fate ++ (quoted p.path ++ line_feed ∷ [])

abbrev pub lines_of : List CheckinPath → List Fate → List ℕ
lines_of [] fates = []
lines_of (p ∷ ps) [] = []
lines_of (p ∷ ps) (fate ∷ fates) = line_of p fate ++ lines_of ps fates

abbrev pub is_same : Fate → Bool
is_same Same = true
is_same fate = false

abbrev pub is_changed : Fate → Bool
is_changed (Changed name) = true
is_changed fate = false

abbrev pub is_gone : Fate → Bool
is_gone Gone = true
is_gone fate = false

abbrev pub is_kept_fate : Fate → Bool
is_kept_fate Kept = true
is_kept_fate fate = false

abbrev pub is_failed : Fate → Bool
is_failed (Failed cause) = true
is_failed fate = false

-- the last line, of the numbers of paths that are the same, changed, gone, kept and failed
abbrev pub numbers_line : ℕ → ℕ → ℕ → ℕ → ℕ → List ℕ
numbers_line same changed gone kept failed =
    codes "done " ++ (decimal same ++ space ∷ (decimal changed ++ space ∷ (decimal gone
    ++ space ∷ (decimal kept ++ space ∷ (decimal failed ++ line_feed ∷ [])))))

unfoldable pub done_line : List Fate → List ℕ
done_line fates =
    numbers_line (count_by is_same fates) (count_by is_changed fates) (count_by is_gone fates)
    (count_by is_kept_fate fates) (count_by is_failed fates)

-- a line for each path, and the numbers
abbrev pub report_of : List CheckinPath → List Fate → List ℕ
report_of ps fates = lines_of ps fates ++ done_line fates
