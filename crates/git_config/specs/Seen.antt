-- The reader's own values, as the grammar sees them.
use Rattle.std.specs.Prelude.{List, ℕ}
use Rattle.git_config.specs.declared.value.Draft.{Draft}
use Rattle.git_config.specs.declared.line.Reader.{Reader}
use Rattle.git_config.specs.Value.{Reading}
use Rattle.git_config.specs.Reading.{Place}

abbrev pub reading_of : Draft → Reading
reading_of d = record { quoted = d.quoted; escaped = d.escaped; bytes = d.bytes.items; kept = d.kept; lines = d.lines }

abbrev pub place_of : Reader → List ℕ → Place
place_of r text = record { line = r.line; head = r.head; settings = r.settings.items; rest = text }
