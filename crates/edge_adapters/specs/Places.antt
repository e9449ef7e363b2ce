-- Where the bytes of a blob are.
use Rattle.std.specs.Prelude.{◌≡◌, ℕ, List, string_bytes}
use Rattle.edge_adapters.specs.declared.folder_repo.BlobPlace.{BlobPlace}
use Rattle.edge_adapters.specs.declared.folder_repo.BlobPlace.TheVariants.{File, Folder}

-- in the Git folder at this path
abbrev pub IsInFolder : List ℕ → BlobPlace → Type 0
IsInFolder path (File own) = ⊥
IsInFolder path (Folder shared) = string_bytes shared.value ≡ path
