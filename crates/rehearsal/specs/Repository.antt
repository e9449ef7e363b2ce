-- The repository of a rehearsal.
use Rattle.std.specs.Prelude.{◌≡◌, ◌≤◌, ℕ, List, [], ◌∷◌, ◌++◌, map, codes, if◌then◌else◌, Ok, false}
use Rattle.std.specs.Str.{bytes_eq}
use Rattle.sha1.specs.Sha1.{sha1}
use Rattle.object_dir.specs.Object.{object_of}
use Rattle.object_dir.specs.Spelling.{spelled_blob}
use Rattle.git_index.specs.declared.entry.Entry.{Entry}
use Rattle.git_index.specs.declared.entry.Mode.TheVariants.{Plain}
use Rattle.git_index.specs.Spelling.{plain_text, IsIndex}
use Rattle.edge_kit.specs.Told.{Told, Raw, Absent, RepoTold}
use Rattle.rehearsal.specs.Paths.{name, content, line_of, in_order}

-- each kind but 0 has its attributes
unfoldable pub attributes : List ℕ
attributes =
    line_of (codes "*.k1 text eol=crlf") ++ line_of (codes "*.k2 ident")
    ++ line_of (codes "*.k3 working-tree-encoding=UTF-16LE") ++ line_of (codes "*.k4 filter=alpha")
    ++ line_of (codes "*.k5 filter=alpha") ++ line_of (codes "*.k6 filter=beta")
    ++ line_of (codes "*.k7 filter=beta")

unfoldable pub config : List ℕ
config =
    line_of (codes "[checkout]") ++ line_of (codes "workers = 4") ++ line_of (codes "thresholdForParallelism = 1")
    ++ line_of (codes "[filter \"alpha\"]") ++ line_of (codes "process = alpha") ++ line_of (codes "required = true")
    ++ line_of (codes "[filter \"beta\"]") ++ line_of (codes "process = beta")

-- a file of the repository
pub record File : Type 0 where
  pub path : List ℕ
  pub content : List ℕ

abbrev pub file : ℕ → ℕ → File
file seed i = record { path = name seed i; content = content seed i }

-- the attribute file, and the files with these numbers
abbrev pub files : ℕ → List ℕ → List File
files seed is = record { path = codes ".gitattributes"; content = attributes } ∷ map (file seed) is

abbrev pub entry_of : File → Entry
entry_of f = record {
  path = f.path;
  stage = 0;
  mode = Plain;
  name = sha1 (spelled_blob f.content);
  sparse = false;
  intent = false;
}

-- the entries of these files
abbrev pub entries : List File → List Entry
entries fs = map entry_of fs

-- the object with a name is that of the first file which has it
abbrev pub object_told : List File → List ℕ → Told
object_told [] name = Absent
object_told (f ∷ fs) name =
    if bytes_eq (sha1 (spelled_blob f.content)) name then Raw (spelled_blob f.content) else object_told fs name

-- what the repository of these files tells, which stand in the order of their paths
pub record IsRepository (fs : List File) (told : RepoTold) : Type 0 where
  pub index : told.index ≡ Raw (plain_text (entries fs))
  pub config : told.config ≡ Raw config
  pub info : told.info ≡ Absent
  pub base : told.base ≡ Absent
  pub object : (name : List ℕ) → told.object name ≡ object_told fs name

-- The files of a rehearsal of up to 99,999 paths have an index: the text of their entries.
abbrev pub FilesHaveAnIndex : Type 0
FilesHaveAnIndex = (seed n : ℕ) → n ≤ 99999
    → IsIndex (plain_text (entries (files seed (in_order n)))) (entries (files seed (in_order n)))

-- the name of the attribute file's object
abbrev pub attributes_name : List ℕ
attributes_name = sha1 (spelled_blob attributes)

-- The object of a rehearsal's attribute file is told, and holds the attributes.
pub record AttributesAreRight : Type 0 where
  pub there : (seed : ℕ) (is : List ℕ)
      → object_told (files seed is) attributes_name ≡ Raw (spelled_blob attributes)
  pub right : object_of (spelled_blob attributes) attributes_name ≡ Ok attributes
