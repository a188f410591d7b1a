use Rattle.std.proofs.Common.{◌∙◌, ℕ, List, length, refl, ap}
use Rattle.cfn_model.specs.Network.{Network}
use Rattle.cfn_net.specs.Scoring.{Scoring}
use Rattle.cfn_store.specs.Standing.{Standing}
use Rattle.cfn_dive.proofs.Both.{given_by}
use Rattle.cfn_dive.proofs.parts.Parts.make.Goals as goal

pub returns : goal.returns
returns c =
    let one-3 = c.in_ok-made-3.ensures.one in
    let one = ap (λ (m : (Standing × (Network × Network)) × (List ℕ × Network)). m.0) one-3 ∙ c.in_ok-made-2.ensures.one in
    record {
      of = record {
        network = ap (λ (m : Standing × (Network × Network)). m.0.network) one ∙ ap (λ (b : Standing). b.network) (c.in_ok-made.ensures.one ∙ c.in_ok-over.ensures);
        enforcer = ap (λ (m : Standing × (Network × Network)). m.1.0) one ∙ given_by _ _ _ c.in_ok-made.ensures.other c.helpers.ensures.enforcer;
        weights = ap (λ (m : (Standing × (Network × Network)) × (List ℕ × Network)). length m.1.0) one-3 ∙ given_by _ _ _ c.in_ok-made-2.ensures.other c.branching.ensures.weights;
        incidence = ap (λ (m : (Standing × (Network × Network)) × (List ℕ × Network)). m.1.1) one-3 ∙ given_by _ _ _ c.in_ok-made-2.ensures.other c.branching.ensures.incidence;
        trimmer = ap (λ (m : Standing × (Network × Network)). m.1.1) one ∙ given_by _ _ _ c.in_ok-made.ensures.other c.helpers.ensures.trimmer;
        steps = c.step_limit.ensures;
        values = given_by _ _ _ c.in_ok-made-3.ensures.other c.buffers.ensures.values;
        offer = ap (λ (b : Scoring). b.network) (given_by _ _ _ c.in_ok-made-3.ensures.other c.buffers.ensures.offer);
      };
      rule = refl;
    }
