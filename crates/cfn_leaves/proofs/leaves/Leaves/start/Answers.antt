use Rattle.std.proofs.Common.{◌≡◌, ◌∙◌, ap, refl, [], subst}
use Rattle.cfn_model.specs.Tree.{count, open_leaves}
use Rattle.cfn_machine.specs.Parts.{has_leaf}
use Rattle.cfn_machine.specs.Pool.{dealt, numbered, View}
use Rattle.cfn_machine.specs.Steps.{PoolNotes}
use Rattle.cfn_proof.specs.Nodes.{tree_of}
use Rattle.cfn_leaves.specs.Value.{Holding, pool_of}
use Rattle.cfn_leaves.proofs.Insides.{pool, same_pool}
use Rattle.cfn_leaves.proofs.Opened.{first_row}
use Rattle.cfn_leaves.proofs.leaves.Leaves.start.Goals as goal

pub returns-clause-network : goal.returns-clause-network
returns-clause-network c = c.note.ensures.network ∙ ap (λ (h : Holding). h.network) c.in_ok-deal.ensures.ok.same ∙ c.in_ok-leaves.ensures.network

pub returns-clause-pool : goal.returns-clause-pool
returns-clause-pool c = λ shares best price.
    let o = c.in_ok-leaves.ensures in
    let aside = c.in_ok-deal.ensures.ok in
    let mine = has_leaf c.args.part in
    let view : View = record { best = best; seen = c.args.threshold; shares = shares } in
    let tree = tree_of c.args.tree in
    let old : pool_of c.deal.new.self view ≡ pool (dealt mine (numbered 0 tree)) (open_leaves tree) c.args.budget (count tree) 0 [] view =
    same_pool view (aside.tree_is ∙ ap (dealt mine) o.tree_is) (aside.len ∙ o.next) (ap (λ (h : Holding). h.budget) aside.same ∙ o.budget_is) (ap (λ (h : Holding). h.begun) aside.same ∙ o.begun)
    (ap (λ (h : Holding). h.nodes) aside.same ∙ o.nodes) (ap (λ (h : Holding). h.rows) aside.same ∙ o.rows) in
    first_row mine c.args.network.now shares c.args.budget tree best c.args.threshold (pool_of c.deal.new.self view) (pool_of c.note.new.self view) price old
    (subst (λ P. PoolNotes P (pool_of c.deal.new.self view) (pool_of c.note.new.self view)) (ap (λ (h : Holding). h.network) aside.same ∙ o.network) (c.note.ensures.notes view refl))
