use Rattle.std.proofs.Common.{◌<◌, ap, ◌∙◌, sym, subst, arith}
use Rattle.std.proofs.lemmas.Bool.{eqb-true}
use Rattle.std.specs.Prelude.{slice_index, IsTrue}
use Rattle.cfn_model.specs.Network.{IsNetwork}
use Rattle.cfn_model.specs.Sums.{is_live}
use Rattle.cfn_store.specs.Standing.{history}
use Rattle.cfn_dac.specs.Full.{second_of}
use Rattle.cfn_dac.specs.Moves.{IsTotalBetween}
use Rattle.cfn_dac.proofs.Binaries.{met}
use Rattle.cfn_dac.proofs.binary.Binary.costs_nothing_still.Goals as goal

pub returns : goal.returns
returns c = λ zero.
    (let s = c.args.store.now in let pair = c.args.pair in let binary = c.args.self.now in let b = c.in-Some.other.now in
    let size = c.size.ensures ∙ ap (λ P. slice_index P.sizes binary.second) c.network-2.ensures ∙ ap (slice_index s.network.sizes) c.requires.binary.second in
    let small : b < slice_index s.network.sizes (second_of s.network pair) = (let l = c.if-other-size.false in omega (arith, l, size)) in
    let live = subst (λ v. IsTrue (is_live (history s) v b)) c.requires.binary.second (sym c.is_live.ensures ∙ c.if-not-is_live.false) in
    let found = met s pair binary c.args.value c.args.line.now b (subst IsNetwork c.network.ensures c.law_limits.ensures) c.requires.pair c.requires.binary c.requires.line small live in
    (b, subst (IsTotalBetween s.network (history s) pair c.args.value b) (eqb-true c.total_along.result 0 zero) (c.total_along.ensures s.network (history s) pair c.args.value found)))
