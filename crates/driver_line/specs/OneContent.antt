-- That a path gets one content in a talk.
use Rattle.std.specs.Prelude.{◌≡◌, ◌⊎◌, ℕ, Some, List, [], ◌∷◌}
use Rattle.edge_kit.specs.Starters.{Had}
use Rattle.filter_words.specs.declared.reply.Reply.TheVariants as reply
use Rattle.delay_table.specs.Table.{AreApart}
use Rattle.driver_line.specs.Conversations.{Exchange, First, Second}
use Rattle.driver_line.specs.Lines.{Paths}
use Rattle.driver_line.specs.SameHeard.{content_of}
use Rattle.driver_line.specs.Transcripts.{IsTalk}

-- the driver gave this content for the path
abbrev pub Gives : Exchange → ℕ → List ℕ → Type 0
Gives (First q reply.Content c) p content = (q ≡ p) × (content ≡ c)
Gives (Second q reply.Content c) p content = (q ≡ p) × (content ≡ c)
Gives e p content = ⊥

abbrev pub HasGiven : List Exchange → ℕ → List ℕ → Type 0
HasGiven [] p content = ⊥
HasGiven (e ∷ es) p content = Gives e p content ⊎ HasGiven es p content

-- A content that was given for a path in a talk is the first one, and so the only one.
abbrev pub OneContent : Type 0
OneContent = (d : ℕ) (paths : Paths) (asked : List ℕ) (items : List Had) (exchanges : List Exchange)
    → AreApart asked → IsTalk d paths asked items exchanges → (p : ℕ) (content : List ℕ)
    → HasGiven exchanges p content → content_of p exchanges ≡ Some content
