-- A text that is spelled piece by piece.
use Rattle.std.proofs.Common.{◌≡◌, ℕ, List, ◌++◌, append_assoc, arith, refl}
use Rattle.git_index.specs.Spelling.{path_part, written, no_stat}
use Rattle.git_index.specs.declared.entry.Entry.{Entry}
use Rattle.git_index.specs.declared.stat.Stat.{Stat}
use Rattle.git_index.specs.declared.version.Version.{Version as Release}
use Rattle.git_index.specs.declared.version.Version.TheVariants.{Two, Three, Four}

pub pieces : (t t1 t2 t3 t4 t5 t6 t7 a b c d e f g : List ℕ) → t1 ≡ t ++ a → t2 ≡ t1 ++ b → t3 ≡ t2 ++ c → t4 ≡ t3 ++ d → t5 ≡ t4 ++ e → t6 ≡ t5 ++ f → t7 ≡ t6 ++ g → t7 ≡ t ++ (a ++ b ++ c ++ d ++ e ++ f ++ g)
pieces t t1 t2 t3 t4 t5 t6 t7 a b c d e f g e1 e2 e3 e4 e5 e6 e7 = rw (e7, e6, e5, e4, e3, e2, e1) (simp append_assoc)

-- what is told of a file changes nothing in its path's part
pub part_alone : (version : Release) (last : List ℕ) (s : Stat) (e : Entry) → path_part version last (written last no_stat e) ≡ path_part version last (written last s e)
part_alone Two last s e = refl
part_alone Three last s e = refl
part_alone Four last s e = refl
