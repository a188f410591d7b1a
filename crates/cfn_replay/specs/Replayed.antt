-- What a record's text comes to.
use Rattle.std.specs.Prelude.{ℕ, List}
use Rattle.cfn_model.specs.Network.{Network}
use Rattle.cfn_model.specs.Text as texts
use Rattle.cfn_machine.specs.Pool.{tree_of}
use Rattle.cfn_record.specs.Lines.{Record, Spells}
use Rattle.cfn_record.specs.Replaying as replaying
use Rattle.cfn_record.specs.Replaying.{GoodRecord}

-- The text spells a good record, and these bytes are the spelling of the certificate that it comes to: that of its best assignment and
-- of the tree of its pool.
pub record IsReplayed (P : Network) (text bytes : List ℕ) : Type 0 where
  pub its : Record
  pub spells : Spells its text
  pub good : GoodRecord P its
  pub comes : texts.Spells (replaying.certificate_of P its.best (tree_of good.pool.tree)) bytes
