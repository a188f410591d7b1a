-- What stands before a node runs, and costs stay small along it.
use Rattle.std.proofs.Common.{◌≡◌, ℕ, List, [], ◌∷◌, refl, sym, subst}
use Rattle.cfn_model.specs.declared.step.Step.{Step}
use Rattle.cfn_model.specs.declared.step.Decision.{Decision}
use Rattle.cfn_model.specs.declared.step.Event.{Event}
use Rattle.cfn_model.specs.declared.step.Event.TheVariants.{Did}
use Rattle.cfn_model.specs.Network.{Network}
use Rattle.cfn_model.specs.Paths.{HasSmallCosts, RunsAlong, TameAlong, TameBlock}
use Rattle.cfn_model.specs.Steps.{IsDecision, Run, after}
use Rattle.cfn_model.proofs.CallerLemmas.{small_took, small_refused}
use Rattle.cfn_proof.specs.declared.tree.NodeId.{NodeId}
use Rattle.cfn_proof.specs.declared.tree.End.{End}
use Rattle.cfn_proof.specs.declared.tree.End.TheVariants.{Split}
use Rattle.cfn_proof.specs.declared.tree.Node.{Node}
use Rattle.cfn_proof.specs.Nodes.{node_at, IsLinked, Before, at_root, at_first, at_second}
use Rattle.cfn_proof.specs.Local.{ValidNode, ValidNodes}
use Rattle.cfn_ranking.specs.Ranked.{TameNodes}

runs_after : (P : Network) (block : List Step) (history : List Event) (k : ℕ) → RunsAlong P history k → Run P history block k → RunsAlong P (after block history) k
runs_after P [] history k along run = along
runs_after P (step ∷ block) history k along run = runs_after P block (Did step ∷ history) k (run.0, along) run.1

pub small_start : (P : Network) (block : List Step) (history : List Event) → TameBlock P history block → HasSmallCosts P history
small_start P [] history tame = tame
small_start P (step ∷ block) history tame = tame.0

pub small_end : (P : Network) (block : List Step) (history : List Event) → TameBlock P history block → HasSmallCosts P (after block history)
small_end P [] history tame = tame
small_end P (step ∷ block) history tame = small_end P block (Did step ∷ history) tame.1

tame_after : (P : Network) (block : List Step) (history : List Event) → TameAlong P history → TameBlock P history block → TameAlong P (after block history)
tame_after P [] history along tame = along
tame_after P (step ∷ block) history along tame = tame_after P block (Did step ∷ history) (small_start P block (Did step ∷ history) tame.1, along) tame.1

run_of : (P : Network) (history : List Event) (block : List Step) (e : End) (d : Decision) (first second : NodeId) (k : ℕ) → e ≡ Split d first second → ValidNode P history block e k → Run P history block k × IsDecision P d
run_of P history block e d first second k is valid = subst (λ end. ValidNode P history block end k) is valid

pub before_runs : (P : Network) (nodes : List Node) (k i : ℕ) (history : List Event) → ValidNodes P nodes k → Before nodes i history → RunsAlong P history k
before_runs P nodes k i history valid (at_root is_root is_empty) = subst (λ h. RunsAlong P h k) (sym is_empty) tt
before_runs P nodes k i history valid (at_first parent d first second above there is before is_child is_history) =
    let v = run_of P above (node_at nodes parent).block (node_at nodes parent).end d first second k is (valid.each parent above there before) in
    subst (λ h. RunsAlong P h k) (sym is_history) (v.1, runs_after P (node_at nodes parent).block above k (before_runs P nodes k parent above valid before) v.0)
before_runs P nodes k i history valid (at_second parent d first second above there is before is_child is_history) =
    let v = run_of P above (node_at nodes parent).block (node_at nodes parent).end d first second k is (valid.each parent above there before) in
    subst (λ h. RunsAlong P h k) (sym is_history) (v.1, runs_after P (node_at nodes parent).block above k (before_runs P nodes k parent above valid before) v.0)

pub before_tame : (P : Network) (nodes : List Node) (i : ℕ) (history : List Event) → IsLinked nodes → TameNodes P nodes → Before nodes i history → TameAlong P history
before_tame P nodes i history linked tame (at_root is_root is_empty) = subst (TameAlong P) (sym is_empty) (small_start P (node_at nodes 0).block [] (tame.each 0 [] linked.some (at_root refl refl)))
before_tame P nodes i history linked tame (at_first parent d first second above there is before is_child is_history) =
    let t = tame.each parent above there before in
    subst (TameAlong P) (sym is_history) (small_took P (after (node_at nodes parent).block above) d (small_end P (node_at nodes parent).block above t), tame_after P (node_at nodes parent).block above (before_tame P nodes parent above linked tame before) t)
before_tame P nodes i history linked tame (at_second parent d first second above there is before is_child is_history) =
    let t = tame.each parent above there before in
    subst (TameAlong P) (sym is_history) (small_refused P (after (node_at nodes parent).block above) d (small_end P (node_at nodes parent).block above t), tame_after P (node_at nodes parent).block above (before_tame P nodes parent above linked tame before) t)
