use Rattle.std.proofs.Common.{◌∙◌, sym, ap, subst, Option}
use Rattle.cfn_model.specs.Certificate.{Solution, threshold_of}
use Rattle.cfn_net.specs.Scoring.{IsPriced}
use Rattle.cfn_low.specs.Holding.{Holding, kept}
use Rattle.cfn_pool.proofs.CallerLemmas.{price_is}
use Rattle.cfn_search.proofs.Beginnings.{kept_first}
use Rattle.cfn_search.proofs.search.know.Goals as goal

pub returns-clause-held : goal.returns-clause-held
returns-clause-held g c =
    let P = g.M.Incumbent.network in
    ap (λ (h : Holding). h.held) c.look.ensures.seen ∙ ap (λ (h : Holding). h.held) c.lower.ensures.seen
    ∙ ap (λ (h : Option Solution). kept P h c.args.best.now.held) c.requires.none ∙ kept_first P c.args.best.now.held c.requires.below

pub returns-clause-seen : goal.returns-clause-seen
returns-clause-seen g c =
    let P = g.M.Incumbent.network in
    let lowered = ap (λ (h : Holding). h.held) c.lower.ensures.seen ∙ ap (λ (h : Option Solution). kept P h c.args.best.now.held) c.requires.none ∙ kept_first P c.args.best.now.held c.requires.below in
    ap (λ (h : Holding). h.seen) c.look.ensures.seen
    ∙ c.look.ensures.whole (ap (λ (h : Holding). h.shares) c.lower.ensures.seen ∙ c.requires.all)
    ∙ ap (λ (h : Option Solution). threshold_of P.upper h) lowered
    ∙ sym (price_is P c.args.best.now.held (subst (λ Q. IsPriced Q c.args.best.now.held) c.requires.own c.law_priced.ensures))
