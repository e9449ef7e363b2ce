-- The line of a refusal.
use Rattle.std.specs.Prelude.{ℕ, List, [], ◌∷◌, ◌++◌, codes}
use Rattle.std.specs.Fmt.{decimal}
use Rattle.hex.specs.Hex.{encode_lower}
use Rattle.byte_path.specs.Quote.{quoted}
use Rattle.checkout_core.specs.CauseWords.{object_word}
use Rattle.byte_path.specs.Path as path
use Rattle.git_index.specs.Words.{kind_word, fault_word}
use Rattle.git_config.specs.Words.{line_word}
use Rattle.settings_view.specs.Words.{setting_word}
use Rattle.git_index.specs.declared.fault.IndexFault.{IndexFault}
use Rattle.git_index.specs.declared.fault.IndexFault.TheVariants as index
use Rattle.git_config.specs.declared.fault.ConfigFault.{ConfigFault}
use Rattle.git_config.specs.declared.fault.ConfigFault.TheVariants as config
use Rattle.checkout_sources.specs.declared.stop.Refusal.{Refusal}
use Rattle.checkout_sources.specs.declared.stop.Refusal.TheVariants as refusal
use Rattle.byte_path.specs.Characters.{space, line_feed}

-- what follows the word for an index's fault
abbrev pub index_detail : IndexFault → List ℕ
index_detail (index.Version n) = space ∷ decimal n
index_detail (index.Count n) = space ∷ decimal n
index_detail (index.Entry k kind) = space ∷ decimal k ++ space ∷ kind_word kind
index_detail (index.Mode k) = space ∷ decimal k
index_detail (index.Path k fault) = space ∷ decimal k ++ space ∷ path.fault_word fault
index_detail (index.Order k) = space ∷ decimal k
index_detail (index.FolderClash k) = space ∷ decimal k
index_detail (index.Extension signature) = space ∷ encode_lower signature
index_detail f = []

abbrev pub index_words : IndexFault → List ℕ
index_words fault = fault_word fault ++ index_detail fault

abbrev pub config_words : ConfigFault → List ℕ
config_words config.TooLarge = codes "too-large"
config_words (config.Line n kind) = codes "line " ++ (decimal n ++ space ∷ line_word kind)
config_words config.NoMemory = codes "no-memory"

-- an attribute file, its path quoted as in the report, and what is wrong with it
abbrev pub attribute_words : List ℕ → List ℕ → List ℕ
attribute_words path word = codes "attributes " ++ (quoted path ++ space ∷ word)

abbrev pub refusal_words : Refusal → List ℕ
refusal_words refusal.IndexAbsent = codes "index absent"
refusal_words (refusal.Index fault) = codes "index " ++ index_words fault
refusal_words (refusal.Config fault) = codes "config " ++ config_words fault
refusal_words (refusal.Setting fault) = codes "setting " ++ setting_word fault
refusal_words refusal.InfoTooLarge = codes "attributes info too-large"
refusal_words refusal.BaseTooLarge = codes "base-attributes too-large"
refusal_words (refusal.Attribute path kind) = attribute_words path (object_word kind)
refusal_words (refusal.AttributeTooLarge path) = attribute_words path (codes "too-large")
refusal_words (refusal.TooManyDrivers n) = codes "drivers " ++ decimal n

-- the line that is written for this refusal
abbrev pub refusal_line : Refusal → List ℕ
refusal_line r = codes "refused " ++ (refusal_words r ++ line_feed ∷ [])
