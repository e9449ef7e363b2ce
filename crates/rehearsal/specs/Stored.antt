-- The entries and the objects of files.
use Rattle.std.specs.Prelude.{◌≡◌, ℕ, List, map}
use Rattle.std.specs.Global.{Vec}
use Rattle.sha1.specs.Sha1.{sha1}
use Rattle.object_dir.specs.Spelling.{spelled_blob}
use Rattle.rehearsal.specs.declared.files.Stored.{Stored}
use Rattle.rehearsal.specs.Repository.{File, entry_of}

abbrev pub object_of : File → List ℕ × List ℕ
object_of f = (sha1 (spelled_blob f.content), spelled_blob f.content)

abbrev pub seen_object : List ℕ × Vec ℕ → List ℕ × List ℕ
seen_object o = (o.0, o.1.items)

-- they are those of these files
pub record IsStored (s : Stored) (fs : List File) : Type 0 where
  pub entries : s.entries.items ≡ map entry_of fs
  pub objects : map seen_object s.objects.items ≡ map object_of fs
