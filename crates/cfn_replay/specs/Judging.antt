-- The certificate that a record comes to, and whether it is good.
use Rattle.std.specs.Prelude.{◌≡◌, ℕ, Bool, true, false, List, Option, Some, None, IfSome, IsTrue, is_some}
use Rattle.cfn_model.specs.Network.{Network}
use Rattle.cfn_model.specs.Certificate as model
use Rattle.cfn_model.specs.Certificate.{Solution, IsBest, Good}
use Rattle.cfn_model.specs.Text as texts
use Rattle.cfn_model.specs.Text.{spelling}
use Rattle.cfn_machine.specs.Pool.{Pool, tree_of}
use Rattle.cfn_check.specs.declared.answer.Check.{Check}
use Rattle.cfn_check.specs.declared.answer.Check.TheVariants.{Verified, Refused}
use Rattle.cfn_proof.specs.Certificates.{solution_of}
use Rattle.cfn_leaves.specs.Value.{Holding}
use Rattle.cfn_record.specs.Replaying as replaying
use Rattle.cfn_replay.specs.declared.best.Told.{Told}
use Rattle.cfn_replay.specs.declared.best.Told.TheVariants as telling
use Rattle.cfn_replay.specs.Position.{Position}
use Rattle.cfn_replay.specs.Standing.{IsAtEnd}

-- Whether a certificate was verified.
abbrev pub is_verified : Check → Bool
is_verified (Verified lower best) = true
is_verified (Refused kind line) = false

-- This is the best assignment, with its cost in the network; or it is none that costs so much.
abbrev pub TellsBest : Network → Told → Option Solution → Type 0
TellsBest P (telling.Best held) best = (solution_of held ≡ best) × IsBest P best × IfSome held (λ scored. IsTrue (is_some scored.held))
TellsBest P telling.Wrong best = IsBest P best → ⊥

-- All lines but the last one are right, and the best assignment was told.
abbrev pub IsToldAt : Network → Position → Holding → Told → Type 0
IsToldAt P r h told = (best : Option Solution) × IsAtEnd P r h best × TellsBest P told best

-- Of a certificate that is good there is its text, and of another one there is none.
abbrev pub IsGoodText : Network → model.Certificate → Option (List ℕ) → Type 0
IsGoodText P c None = Good P c → ⊥
IsGoodText P c (Some bytes) = Good P c × (bytes ≡ spelling c)

-- The certificate that a pool and a best assignment come to is good, and this is its text; or it is not good.
pub record IsGoodAs (P : Network) (its : model.Certificate) (bytes : List ℕ) : Type 0 where
  pub good : Good P its
  pub spells : texts.Spells its bytes

abbrev pub IsJudged : Network → Pool → Option Solution → Option (List ℕ) → Type 0
IsJudged P pool best None = Good P (replaying.certificate_of P best (tree_of pool.tree)) → ⊥
IsJudged P pool best (Some bytes) = IsGoodAs P (replaying.certificate_of P best (tree_of pool.tree)) bytes
