-- The words of faults.
use Rattle.std.specs.Prelude.{ℕ, List, codes}
use Rattle.git_config.specs.declared.fault.LineKind.{LineKind}
use Rattle.git_config.specs.declared.fault.LineKind.TheVariants as line

abbrev pub line_word : LineKind → List ℕ
line_word line.Section = codes "section"
line_word line.Key = codes "key"
line_word line.Value = codes "value"
line_word line.NoSection = codes "no-section"
