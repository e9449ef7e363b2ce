-- The entries and the objects of files, one after another, and what a repository of them tells.
use Rattle.std.proofs.Common.{◌≡◌, ℕ, ◌+◌, ◌<◌, List, [], ◌∷◌, ◌++◌, length, map, take, get_or, Some, None, false}
use Rattle.std.proofs.Common.{refl, sym, ap, subst, ◌∙◌, add-one}
use Rattle.std.proofs.Math.Seq.{take-suc}
use Rattle.std.proofs.lemmas.List.{map-append}
use Rattle.std.specs.Prelude.{codes, if◌then◌else◌}
use Rattle.std.specs.Global.{Vec}
use Rattle.std.specs.Str.{bytes_eq}
use Rattle.sha1.specs.Sha1.{sha1}
use Rattle.object_dir.specs.Spelling.{spelled_blob}
use Rattle.git_index.specs.declared.entry.Entry.{Entry}
use Rattle.git_index.specs.declared.entry.Mode.TheVariants.{Plain}
use Rattle.git_index.specs.Spelling.{plain_text}
use Rattle.edge_kit.specs.Told.{Raw}
use Rattle.edge_kit.specs.Memory.{repo_told, first_object}
use Rattle.edge_kit.specs.declared.memory_repo.RepoFail.{RepoFail}
use Rattle.rehearsal.specs.declared.files.Stored.{Stored}
use Rattle.rehearsal.specs.Repository.{File, attributes, file, files, entry_of, object_told, config, IsRepository}
use Rattle.rehearsal.specs.Stored.{IsStored, object_of, seen_object}

-- one file more
pub more_stored : (old new : Stored) (fs : List File) (path text hash : List ℕ) (v : Vec ℕ) → IsStored old fs
    → new.entries.items ≡ old.entries.items ++ (record { path = path; stage = 0; mode = Plain; name = hash; sparse = false; intent = false }) ∷ []
    → new.objects.items ≡ old.objects.items ++ (hash, v) ∷ [] → hash ≡ sha1 (spelled_blob text)
    → v.items ≡ spelled_blob text → IsStored new (fs ++ (record { path = path; content = text }) ∷ [])
more_stored old new fs path text hash v is entries objects named stored =
    let f : File = record { path = path; content = text } in
    let entry : Entry = record { path = path; stage = 0; mode = Plain; name = hash; sparse = false; intent = false } in
    let one : entry ≡ entry_of f = ap (λ (n : List ℕ). record { path = path; stage = 0; mode = Plain; name = n; sparse = false; intent = false }) named in
    let object : seen_object (hash, v) ≡ object_of f = λ i. (named i, stored i) in
    record {
      entries = entries ∙ ((λ i. is.entries i ++ one i ∷ []) ∙ sym (map-append entry_of fs (f ∷ [])));
      objects = ap (map seen_object) objects
          ∙ (map-append seen_object old.objects.items ((hash, v) ∷ [])
          ∙ ((λ i. is.objects i ++ object i ∷ []) ∙ sym (map-append object_of fs (f ∷ []))));
    }

-- the files with one number more
pub next_file : (seed : ℕ) (is : List ℕ) (k i : ℕ) → k < length is → i ≡ get_or is k 0
    → files seed (take k is) ++ file seed i ∷ [] ≡ files seed (take (k + 1) is)
next_file seed is k i lt at =
    let next : take (k + 1) is ≡ take k is ++ i ∷ [] = ap (λ (n : ℕ). take n is) (add-one k)
    ∙ (take-suc is k 0 lt ∙ ap (λ (x : ℕ). take k is ++ x ∷ []) (sym at)) in
    sym (ap (files seed) next ∙ ap (λ (fs : List File). record { path = codes ".gitattributes"; content = attributes } ∷ fs)
    (map-append (file seed) (take k is) (i ∷ [])))

found : (objects : List (List ℕ × Vec ℕ)) (fs : List File) → map seen_object objects ≡ map object_of fs
    → (hash : List ℕ) → first_object objects hash ≡ object_told fs hash
found [] [] e hash = refl
found [] (f ∷ fs) e hash = absurd (cc (e))
found (o ∷ os) [] e hash = absurd (cc (e))
found (o ∷ os) (f ∷ fs) e hash =
    let one : seen_object o ≡ object_of f = cc (e) in
    let rest : map seen_object os ≡ map object_of fs = cc (e) in
    λ i. if bytes_eq (one i).0 hash then Raw (one i).1 else found os fs rest hash i

-- what a repository of these parts tells
pub tells : (index config_is : Vec ℕ) (objects : List (List ℕ × Vec ℕ)) (fails : List RepoFail) (fs : List File)
    → fails ≡ [] → index.items ≡ plain_text (map entry_of fs) → config_is.items ≡ config
    → map seen_object objects ≡ map object_of fs
    → IsRepository fs (repo_told (Some index) (Some config_is) None None objects fails)
tells index config_is objects fails fs none text settings stored =
    subst (λ (l : List RepoFail). IsRepository fs (repo_told (Some index) (Some config_is) None None objects l)) (sym none)
    record {
      index = ap Raw text;
      config = ap Raw settings;
      info = refl;
      base = refl;
      object = found objects fs stored;
    }
