use Rattle.std.proofs.Common.{◌≡◌, ℕ, List, true, refl}
use Rattle.std.proofs.lemmas.Slice.Eq.{bytes_eq-Decides}
use Rattle.std.specs.Str.{bytes_eq}
use Rattle.edge_kit.specs.Told.{Raw}
use Rattle.object_dir.specs.Spelling.{spelled_blob}
use Rattle.rehearsal.specs.Repository.{attributes, attributes_name, files, object_told}
use Rattle.rehearsal.proofs.rehearsed.attributes_are_right.Goals as goal

same : bytes_eq attributes_name attributes_name ≡ true
same = (bytes_eq-Decides attributes_name attributes_name).1 refl

told : (seed : ℕ) (is : List ℕ) → object_told (files seed is) attributes_name ≡ Raw (spelled_blob attributes)
told seed is = rw same refl

pub returns : goal.returns
unfolding attributes
returns c = record { there = told; right = c.spelling_gives_its_content.ensures }
