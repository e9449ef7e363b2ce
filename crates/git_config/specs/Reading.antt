-- The settings of a file, up to the first faulty line.
use Rattle.std.specs.Prelude.{ℕ, zero, suc, ◌+◌, ◌||◌, ◌==◌, nat_le, List, [], ◌∷◌, ◌++◌, length, take}
use Rattle.std.specs.Prelude.{drop, Option, Some, None, Result, Ok, Err, if◌then◌else◌}
use Rattle.std.specs.List.{position_or_len}
use Rattle.std.specs.Char.{is_ascii_alphabetic}
use Rattle.byte_path.specs.Front.{begins, unmarked}
use Rattle.git_config.specs.declared.fault.ConfigFault.{ConfigFault}
use Rattle.git_config.specs.declared.fault.ConfigFault.TheVariants.{TooLarge, Line}
use Rattle.git_config.specs.declared.fault.LineKind.TheVariants.{Key as BadKey, NoSection}
use Rattle.git_config.specs.declared.setting.Head.{Head}
use Rattle.git_config.specs.declared.setting.Setting.{Setting}
use Rattle.git_config.specs.Text.{is_blank, is_line_end, is_comment_mark, ends_key, behind_blanks, line_end}
use Rattle.git_config.specs.Text.{without_cr, ◌>>=◌, want}
use Rattle.git_config.specs.Header.{lowered, header_at}
use Rattle.git_config.specs.Value.{value_at}
use Rattle.byte_path.specs.Characters.{line_feed, open_bracket}
pub use Rattle.byte_path.specs.Characters.{is_equals}

abbrev pub setting_of : Head → List ℕ → Option (List ℕ) → Setting
setting_of head key value = record { section = head.section; sub = head.sub; key = lowered key; value = value }

-- what follows a key and its blanks: the end of the line, or `=` and the value
unfoldable pub keyed_at : ℕ → Head → List ℕ → List ℕ → Result (Setting × ℕ × List ℕ) ConfigFault
keyed_at line head key text =
    if length text == 0 || begins is_line_end text then Ok (setting_of head key None, 0, text)
    else want (begins is_equals text) (Line line BadKey) (do
      x ← value_at line (drop 1 text)
      Ok (setting_of head key (Some x.0), x.1, x.2))

abbrev pub under_head : ℕ → Option Head → List ℕ → List ℕ → Result (Setting × ℕ × List ℕ) ConfigFault
under_head line None key text = Err (Line line NoSection)
under_head line (Some head) key text = keyed_at line head key text

-- a key at the front, with how many lines it was continued on and what is left of the text
unfoldable pub setting_at : ℕ → Option Head → List ℕ → Result (Setting × ℕ × List ℕ) ConfigFault
setting_at line head text =
    want (begins is_ascii_alphabetic text) (Line line BadKey)
    (under_head line head (take (position_or_len ends_key text) text)
    (behind_blanks (drop (position_or_len ends_key text) text)))

-- where a reader stands: the line, the section, the settings before and the text that is left
pub record Place : Type 0 where
  pub line : ℕ
  pub head : Option Head
  pub settings : List Setting
  pub rest : List ℕ

-- a header, after its `[`, names the section from here on
unfoldable pub after_header : Place → Result Place ConfigFault
after_header place = do
  x ← header_at place.line place.rest
  Ok (record place { head = Some x.0; rest = x.1 })

-- a setting comes after those before
unfoldable pub after_setting : Place → Result Place ConfigFault
after_setting place = do
  x ← setting_at place.line place.head place.rest
  Ok (record place { line = place.line + x.1; settings = place.settings ++ x.0 ∷ []; rest = x.2 })

-- one step, from a byte and what follows it: the end of a line, a blank, a comment, a header, or a key with its value
unfoldable pub step_from : Place → ℕ → List ℕ → Result Place ConfigFault
step_from place b text =
    if b == line_feed then Ok (record place { line = place.line + 1; rest = text })
    else if is_blank b then Ok (record place { rest = text })
    else if is_comment_mark b then Ok (record place { rest = line_end text })
    else if b == open_bracket then after_header (record place { rest = text })
    else after_setting (record place { rest = b ∷ text })

unfoldable pub step_at : Place → List ℕ → Result Place ConfigFault
step_at place [] = Ok place
step_at place (b ∷ text) = step_from place b text

-- the settings after those that are read, in at most this many steps
unfoldable pub settings_at : ℕ → Place → Result (List Setting) ConfigFault
settings_at zero place = Ok place.settings
settings_at (suc n) place = step_at place place.rest >>= λ next. settings_at n next

unfoldable pub text_at : List ℕ → Result (List Setting) ConfigFault
text_at text = settings_at (length text) (record { line = 1; head = None; settings = []; rest = text })

-- what a file is read as: its settings, or TooLarge, or the first faulty line
unfoldable pub config_at : List ℕ → Result (List Setting) ConfigFault
config_at bytes = want (nat_le (length bytes) 1048576) TooLarge (text_at (without_cr (unmarked bytes)))
