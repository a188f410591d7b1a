use Rattle.std.proofs.Common.{arith, ap, subst, ◌∙◌, refl, false}
use Rattle.cfn_model.specs.Certificate.{threshold_of}
use Rattle.cfn_net.specs.Scoring.{IsPriced}
use Rattle.cfn_rebase.proofs.Beginning.{begins}
use Rattle.cfn_rebase.proofs.resuming.begin.Goals as goal

pub returns : goal.returns
returns c =
    let held = c.in_ok-best.best.held in
    let own = c.in_ok-best.ensures.own in
    begins c.args.network.now c.args.text.now c.args.old.now (record { tree = c.in_ok-tree.tree; best = c.in_ok-best.best; part = c.args.part; recorded = false }) c.price.result c.law_limits.ensures c.law_kept.ensures.well c.law_kept.ensures.all (omega (arith, c.length_of-bytes.ensures)) own
    (subst (λ P. IsPriced P held) own c.law_priced.ensures) c.in_ok-best.ensures.keeps (c.price.ensures ∙ ap (λ P. threshold_of P.upper held) own) c.in_ok-tree.ensures.kept c.requires refl
