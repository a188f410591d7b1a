-- What a good list is worth, and what the definitions of a fault come to.
use Rattle.std.specs.Prelude.{◌≡◌, ℕ, ◌<◌, ◌≤◌, List, [], length}
use Rattle.cfn_model.specs.Network.{Network, IsNetwork, Fits, cost}
use Rattle.cfn_model.specs.Certificate.{IsSolution, Solution}
use Rattle.cfn_fault.specs.declared.kind.FaultKind.TheVariants as kinds
use Rattle.cfn_best.specs.declared.kind.ListFault.{ListFault}
use Rattle.cfn_best.specs.declared.kind.ListFault.TheVariants.{Certificate}
use Rattle.cfn_best.specs.Tree.{solution_at}
use Rattle.cfn_best.specs.List.{ListCertificate, threshold_of, IsBefore, GoodList}
use Rattle.cfn_best.specs.Lines.{Spells, AtOver, Claim}
use Rattle.cfn_best.specs.Fault.{HasPassed, Fault}

-- An assignment is none of a list.
abbrev pub IsNotIn : List Solution → List ℕ → Type 0
IsNotIn list values = (j : ℕ) → j < length list → (solution_at list j).values ≡ values → ⊥

-- Every assignment that is not listed costs at least the lower bound.
abbrev pub OthersCostMore : Type 0
OthersCostMore = (P : Network) (c : ListCertificate) (values : List ℕ) → IsNetwork P → GoodList P c → Fits P.sizes values → IsNotIn c.list values → c.lower ≤ cost P values

-- The listed assignments are solutions, and stand in order of cost and then values.
abbrev pub ListedInOrder : Type 0
ListedInOrder = (P : Network) (c : ListCertificate) (i j : ℕ) → GoodList P c → i < j → j < length c.list
    → IsSolution P (solution_at c.list i) × IsSolution P (solution_at c.list j) × ((solution_at c.list i).cost ≤ (solution_at c.list j).cost) × IsBefore (solution_at c.list i) (solution_at c.list j)

-- They are different.
abbrev pub ListedAreDistinct : Type 0
ListedAreDistinct = (P : Network) (c : ListCertificate) (i j : ℕ) → GoodList P c → i < j → j < length c.list → (solution_at c.list i).values ≡ (solution_at c.list j).values → ⊥

-- Where the lower bound is the threshold, no assignment that is not listed costs less than a listed one.
abbrev pub Cheapest : Type 0
Cheapest = (P : Network) (c : ListCertificate) (values : List ℕ) (j : ℕ) → IsNetwork P → GoodList P c → c.lower ≡ threshold_of P.upper c.count c.list → Fits P.sizes values → IsNotIn c.list values
    → j < length c.list → (solution_at c.list j).cost ≤ cost P values

-- And where fewer are listed than were asked for, it costs the upper bound.
abbrev pub Fewer : Type 0
Fewer = (P : Network) (c : ListCertificate) (values : List ℕ) → IsNetwork P → GoodList P c → c.lower ≡ threshold_of P.upper c.count c.list → length c.list < c.count → Fits P.sizes values → IsNotIn c.list values
    → cost P values ≡ P.upper

-- Bytes spell one list at most, as far as its claims go.
pub record SameClaims (c d : ListCertificate) : Type 0 where
  pub count : c.count ≡ d.count
  pub lower : c.lower ≡ d.lower
  pub list : c.list ≡ d.list

abbrev pub OneList : Type 0
OneList = (P : Network) (bytes : List ℕ) (c d : ListCertificate) → Spells c bytes → Spells d bytes → GoodList P c → GoodList P d → SameClaims c d

-- Where the bytes spell a good list, there is no fault.
abbrev pub NoFaultWhereGood : Type 0
NoFaultWhereGood = (P : Network) (bytes : List ℕ) (c : ListCertificate) (l : ℕ) (kind : ListFault) → Spells c bytes → GoodList P c → Fault P bytes l kind → ⊥

-- A text has one fault at most: one line, and one kind.
abbrev pub FaultsAreOne : Type 0
FaultsAreOne = (P : Network) (bytes : List ℕ) (l m : ℕ) (kind other : ListFault) → Fault P bytes l kind → Fault P bytes m other → (l ≡ m) × (kind ≡ other)

-- Where all lines of a text are right, it spells a list with these claims, which is good where its lower bound is at most
-- what the lines show; else the lower bound is the fault.
pub record IsWhole (P : Network) (bytes : List ℕ) (claim : Claim) (least : ℕ) (c : ListCertificate) : Type 0 where
  pub spells : Spells c bytes
  pub count : c.count ≡ claim.count
  pub lower : c.lower ≡ claim.lower
  pub list : c.list ≡ claim.list
  pub good : claim.lower ≤ least → GoodList P c
  pub fault : least < claim.lower → Fault P bytes 4 (Certificate kinds.Lower)

abbrev pub WholeTexts : Type 0
WholeTexts = (P : Network) (bytes : List ℕ) (n : ℕ) (claim : Claim) (least : ℕ) → HasPassed P bytes [] n (AtOver claim least) → (c : ListCertificate) × IsWhole P bytes claim least c
