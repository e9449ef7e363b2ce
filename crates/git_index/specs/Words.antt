-- The words of faults.
use Rattle.std.specs.Prelude.{ℕ, List, codes}
use Rattle.git_index.specs.declared.fault.EntryKind.{EntryKind}
use Rattle.git_index.specs.declared.fault.EntryKind.TheVariants as kind
use Rattle.git_index.specs.declared.fault.IndexFault.{IndexFault}
use Rattle.git_index.specs.declared.fault.IndexFault.TheVariants as index

abbrev pub kind_word : EntryKind → List ℕ
kind_word kind.Extended = codes "extended"
kind_word kind.Name = codes "name"
kind_word kind.Padding = codes "padding"
kind_word kind.MixedStage = codes "mixed-stage"
kind_word kind.ExtendedBits = codes "extended-bits"
kind_word kind.Prefix = codes "prefix"

abbrev pub fault_word : IndexFault → List ℕ
fault_word index.TooLarge = codes "too-large"
fault_word index.Short = codes "short"
fault_word index.Signature = codes "signature"
fault_word (index.Version n) = codes "version"
fault_word (index.Count n) = codes "count"
fault_word (index.Entry k kind) = codes "entry"
fault_word (index.Mode k) = codes "mode"
fault_word (index.Path k fault) = codes "path"
fault_word (index.Order k) = codes "order"
fault_word (index.FolderClash k) = codes "clash"
fault_word (index.Extension signature) = codes "extension"
fault_word index.Hash = codes "hash"
fault_word index.NoMemory = codes "no-memory"
