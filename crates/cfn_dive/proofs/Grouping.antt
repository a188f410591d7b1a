-- The steps of a block that began empty, as far as they fall into groups.
use Rattle.std.proofs.Common.{◌≡◌, [], ◌++◌, sym, ap, ◌∙◌, subst}
use Rattle.cfn_model.specs.Steps.{after}
use Rattle.cfn_consistency.specs.Groups.{AreOpenGroups}
use Rattle.cfn_store.specs.Standing.{Standing, history}
use Rattle.cfn_gain.specs.Gains.{IsOpen}
use Rattle.cfn_gain.proofs.CallerLemmas.{opened}
use Rattle.cfn_gain.specs.declared.settling.Settling.{Settling}
use Rattle.cfn_gain.specs.declared.settling.Settling.TheVariants.{Settled, Dead, Spent}
use Rattle.cfn_dive.specs.Enforcing.{Groups}

open_groups : (before now : Standing) (found : Settling) → Groups before now found → IsOpen before now
open_groups before now Settled gained = opened before now _ gained
open_groups before now Dead gained = gained
open_groups before now Spent gained = gained

pub block_groups : (before now : Standing) (found : Settling) → before.block ≡ [] → Groups before now found → AreOpenGroups now.network now.base now.block
block_groups before now found empty groups =
    let gained = open_groups before now found groups in
    let start : history before ≡ now.base = ap (λ b. after b before.base) empty ∙ sym gained.base in
    let block : now.block ≡ gained.steps = gained.block ∙ ap (λ b. b ++ gained.steps) empty in
    subst (λ P. AreOpenGroups P now.base now.block) (sym gained.network)
    (subst (λ steps. AreOpenGroups before.network now.base steps) (sym block) (subst (λ path. AreOpenGroups before.network path gained.steps) start gained.lead))
