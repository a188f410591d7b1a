-- What is read of a good certificate is what it has found.
use Rattle.std.proofs.Common.{◌≡◌, ℕ, ◌<◌, ◌^◌, List, [], length, sym, ap, ◌∙◌, subst, arith, Some, Ok, Err, slice_index}
use Rattle.cfn_model.specs.Network.{Network, IsNetwork, cost}
use Rattle.cfn_model.specs.Certificate.{Certificate, Solution, IsBest, Good, threshold}
use Rattle.cfn_model.specs.Text.{Spells}
use Rattle.cfn_net.proofs.CallerLemmas.{Fits-at, Fits-length}
use Rattle.cfn_proof.specs.Nodes.{tree_of}
use Rattle.cfn_certtext.specs.declared.event.TextFault.{TextFault}
use Rattle.cfn_certread.specs.declared.certificate.ReadCertificate.{ReadCertificate}
use Rattle.cfn_certread.specs.Reading.{IsExact, IsRead, solution_of}
use Rattle.cfn_merge.specs.declared.findings.Findings.{Findings}
use Rattle.cfn_merge.specs.Judging.{HasFound}
use Rattle.cfn_merge.proofs.Wholes.{narrowed_is}

-- the values of a best assignment are below 2^32
pub values_small : (P : Network) (best : Solution) (i : ℕ) → IsNetwork P → IsBest P (Some best) → i < length best.values → slice_index best.values i < 2 ^ 32
values_small P best i network is there =
    let len = Fits-length P.sizes best.values is.fits in
    let within : i < length P.sizes = omega (arith, there, len) in
    let below = Fits-at P.sizes best.values i is.fits within in
    let most = (network.sizes i within).1 in
    omega (arith, below, most)

-- a best assignment costs what it tells
pub cost_told : (P : Network) (best : Solution) → IsBest P (Some best) → Some (record { cost = cost P best.values; values = best.values }) ≡ Some best
cost_told P best is = ap (λ n. Some (record { cost = n; values = best.values })) is.cost

-- the best assignment that was read is one
pub read_best : (P : Network) (text : List ℕ) (read : ReadCertificate) → ((c : Certificate) × Spells c text × Good P c) → IsExact text (Ok read) → IsBest P (solution_of read.best)
read_best P text read (c, spells, good) exact = subst (λ o. IsBest P o) (sym (exact.spelled c spells).best) good.best

pub has_found : (P : Network) (text : List ℕ) (read : ReadCertificate) (found : Findings) → IsNetwork P → ((c : Certificate) × Spells c text × Good P c) → IsExact text (Ok read) → found.best.network ≡ P → found.best.held ≡ solution_of read.best → found.tree ≡ read.tree → HasFound P text found
has_found P text read found network (c, spells, good) exact own held tree =
    let is : IsRead c read = exact.spelled c spells in
    record {
      certificate = c;
      spells = spells;
      good = good;
      is = record { network = own; best = held ∙ is.best; tree = ap tree_of tree ∙ is.tree ∙ narrowed_is P network [] (threshold c) c.tree good.valid };
    }

-- its text is not refused
pub never_refused : (P : Network) (text : List ℕ) (fault : TextFault) → ((c : Certificate) × Spells c text × Good P c) → IsExact text (Err fault) → ⊥
never_refused P text fault (c, spells, good) exact = exact.spelled c spells
