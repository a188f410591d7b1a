use Rattle.std.proofs.Common.{List, length, ap, subst, ◌∙◌}
use Rattle.cfn_model.specs.Network.{Fits, dims}
use Rattle.cfn_store.specs.State.{history_of}
use Rattle.cfn_scan.specs.Reading.{start}
use Rattle.cfn_scan.specs.Scanning.{HasDigits, IsAt}
use Rattle.cfn_scan.proofs.CallerLemmas.{exact_here, told, small_word}
use Rattle.cfn_store.proofs.state.State.at.Goals as goal

pub returns : goal.returns
returns c =
    let scan = c.scan-scan.result in
    told c.args.network.now (history_of c.args.self.now) c.args.f c.args.number scan c.at.result c.scan-scan.ensures.reads (exact_here c.args.network.now (history_of c.args.self.now) c.requires.state.exact)
    (ap (λ pin. pin.place) c.scan-scan.ensures.one ∙ ap length c.scope-scope.ensures)
    (ap (λ pin. pin.place) c.scan-scan.ensures.two ∙ ap length c.scope-scope.ensures)
    (λ rest. small_word scan _ start rest)
    (subst (λ scope. (rest : List _) → Fits (dims scan.sizes.now scope) rest → HasDigits (dims scan.sizes.now scope) c.args.number rest → IsAt scan scope start rest c.at.result) c.scope-scope.ensures c.at.ensures)
