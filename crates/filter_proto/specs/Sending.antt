-- A text that is sent in parts, one after another.
use Rattle.std.specs.Prelude.{List, ℕ, Result}
use Rattle.edge_kit.specs.Faults.{AfterSend}
use Rattle.edge_kit.specs.declared.faults.SendFault.{SendFault}
use Rattle.edge_kit.specs.Links.{LinkSeen, Sends}

-- the text was sent whole, or a proper first part of it, or nothing
pub record SendsAll {T : Type 0} (text : List ℕ) (old new : LinkSeen) (r : Result T SendFault) : Type 0 where
  pub sends : Sends text old new r
  pub counts : AfterSend old.faults new.faults r
