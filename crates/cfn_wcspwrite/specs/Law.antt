-- What the canonical text is good for.
use Rattle.cfn_model.specs.Network.{Network, IsNetwork}
use Rattle.cfn_model.specs.Reading.{Reads}
use Rattle.cfn_wcspwrite.specs.Canonical.{canonical}

-- The canonical text of a network reads as that same network.
abbrev pub ReadsBack : Type 0
ReadsBack = (P : Network) → IsNetwork P → Reads (canonical P) P
