use Rattle.std.proofs.Common.{◌≡◌, ℕ, ◌<◌, arith, refl, subst, sym, ap, ◌∙◌, length, slice_index}
use Rattle.cfn_model.specs.Network.{Network, IsNetwork, variable_at}
use Rattle.cfn_scan.specs.declared.scan.Pin.{Pin}
use Rattle.cfn_scan.specs.Reading.{MayAsk, start}
use Rattle.cfn_scan.specs.Scanning.{IsSpot}
use Rattle.cfn_store.specs.State.{history_of}
use Rattle.cfn_scan.proofs.CallerLemmas.{exact_here, two_of}
use Rattle.cfn_store.proofs.state.State.side.Goals as goal

may_ask_zero : (P : Network) (f : ℕ) (pin : Pin) → IsNetwork P → f < length P.functions → pin.value ≡ 0 → MayAsk P f pin
may_ask_zero P f pin net there zero p place e = (let s = net.sizes (variable_at P f p) ((net.functions f there).variables p place) in let l = s.0 in omega (arith, l, zero))

pub scan-scan-requires-clause-one : goal.scan-scan-requires-clause-one
scan-scan-requires-clause-one c = may_ask_zero c.args.network.now c.args.f (record { place = c.args.place; value = 0 }) c.law_limits.ensures c.requires.function refl

pub scan-scan-requires-clause-two : goal.scan-scan-requires-clause-two
scan-scan-requires-clause-two c = may_ask_zero c.args.network.now c.args.f (record { place = c.args.place; value = 0 }) c.law_limits.ensures c.requires.function refl

pub of-requires-clause-spot : goal.of-requires-clause-spot
of-requires-clause-spot c =
    let scope = two_of c.scope-scope.result.now (ap length c.scope-scope.ensures ∙ c.requires.two) in
    subst (λ s. IsSpot c.scan-scan.result s start) (sym c.scope-scope.ensures ∙ scope) c.scan-scan.ensures.spot

pub returns : goal.returns
returns c = λ other places.
    (let scope = two_of c.scope-scope.result.now (ap length c.scope-scope.ensures ∙ c.requires.two) in
    record {
      scan = c.scan-scan.result;
      first = slice_index c.scope-scope.result.now 0;
      second = slice_index c.scope-scope.result.now 1;
      is_side = c.of.ensures;
      reads = c.scan-scan.ensures.reads;
      exact = exact_here c.args.network.now (history_of c.args.self.now) c.requires.state.exact;
      sense = c.scan-scan.ensures.sense;
      scope = sym c.scope-scope.ensures ∙ scope;
      spot = subst (λ s. IsSpot c.scan-scan.result s start) (sym c.scope-scope.ensures ∙ scope) c.scan-scan.ensures.spot;
      places = places;
    })
