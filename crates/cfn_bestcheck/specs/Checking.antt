-- What the judge of a list finds.
use Rattle.std.specs.Prelude.{◌≡◌, ℕ, ◌≤◌, Bool, List, length, Option, Some}
use Rattle.cfn_model.specs.Network.{Network, Fits, cost}
use Rattle.cfn_fault.specs.declared.kind.FaultKind.TheVariants as kinds
use Rattle.cfn_best.specs.declared.kind.ListFault.{ListFault}
use Rattle.cfn_best.specs.declared.kind.ListFault.TheVariants.{Certificate}
use Rattle.cfn_best.specs.List.{ListCertificate, GoodList, is_complete}
use Rattle.cfn_best.specs.Lines.{ListLine, Spells, Claim, State, Follows}
use Rattle.cfn_best.specs.Fault.{LineFails, Fault}
use Rattle.cfn_best.specs.Laws.{IsNotIn}
use Rattle.cfn_bestcheck.specs.declared.answer.BestCheck.{BestCheck}
use Rattle.cfn_bestcheck.specs.declared.answer.BestCheck.TheVariants.{Verified, Refused}
use Rattle.cfn_bestcheck.specs.declared.answer.Stop.{Stop}
use Rattle.cfn_bestcheck.specs.declared.answer.Stop.TheVariants as stops
use Rattle.cfn_bestcheck.specs.declared.entry.Entry.{Entry}
use Rattle.cfn_bestcheck.specs.declared.opening.Opening.{Opening}
use Rattle.cfn_bestcheck.specs.Listing.{solutions_of}

-- The bytes spell a good list of so many assignments with this lower bound, which is complete or is not; so every other assignment
-- costs at least that bound.
pub record IsVerified (P : Network) (bytes : List ℕ) (lower count : ℕ) (complete : Bool) : Type 0 where
  pub certificate : ListCertificate
  pub spells : Spells certificate bytes
  pub good : GoodList P certificate
  pub lower_is : certificate.lower ≡ lower
  pub count_is : length certificate.list ≡ count
  pub complete_is : is_complete P certificate ≡ complete
  pub others : (values : List ℕ) → Fits P.sizes values → IsNotIn certificate.list values → lower ≤ cost P values

-- What a list comes to: it is good, or a line is the first that fails.
abbrev pub IsChecked : Network → List ℕ → BestCheck → Type 0
IsChecked P bytes (Verified lower count complete) = IsVerified P bytes lower count complete
IsChecked P bytes (Refused kind line) = Fault P bytes line kind

-- Where the bytes spell a good list, it is verified; and where a line is the first that fails, it is refused there.
pub record IsExact (P : Network) (bytes : List ℕ) (answer : BestCheck) : Type 0 where
  pub good : (c : ListCertificate) → Spells c bytes → GoodList P c → answer ≡ Verified c.lower (length c.list) (is_complete P c)
  pub fault : (kind : ListFault) (line : ℕ) → Fault P bytes line kind → answer ≡ Refused kind line

abbrev pub IsStop : Network → List ℕ → Stop → Type 0
IsStop P bytes (stops.Refused kind line) = Fault P bytes line kind
IsStop P bytes stops.Memory = Unit {0}

-- What the lines before the list and the listed assignments claim.
abbrev pub claim_of : Opening → List Entry → Claim
claim_of opening entries = record { count = opening.count; lower = opening.lower; list = solutions_of entries }

-- What was read is refused: no line that may come, or a line that is wrong.
pub data IsRefused (P : Network) (s : State) (l : Option ListLine) (kind : ListFault) : Type 0 where
  ByGrammar : kind ≡ Certificate kinds.Text → ((its : ListLine) (t : State) → l ≡ Some its → Follows P s its t → ⊥) → IsRefused P s l kind
  ByLine : (its : ListLine) (t : State) → l ≡ Some its → Follows P s its t → LineFails P s its kind → IsRefused P s l kind
