use Rattle.std.proofs.Common.{◌≡◌, ℕ, List, subst, MatchOption, Option}
use Rattle.cfn_model.specs.Network.{Network, scope_at}
use Rattle.cfn_model.specs.Steps.{IsPlace}
use Rattle.cfn_scan.specs.declared.scan.Extreme.{Extreme}
use Rattle.cfn_scan.specs.declared.scan.Pin.{Pin}
use Rattle.cfn_scan.specs.declared.scan.Scan.{Scan}
use Rattle.cfn_scan.specs.declared.scan.Sense.{Sense}
use Rattle.cfn_store.specs.declared.state.State.{State}
use Rattle.cfn_scan.specs.Exact.{IsExact}
use Rattle.cfn_store.specs.State.{history_of}
use Rattle.cfn_scan.specs.Reading.{Reads, start}
use Rattle.cfn_scan.specs.Scanning.{NoneMet, IsFound}
use Rattle.cfn_scan.specs.Extremes.{NoneBetween, IsExtremeBetween}
use Rattle.cfn_scan.proofs.CallerLemmas.{exact_here, extreme, small_word}
use Rattle.cfn_store.proofs.state.State.first.Goals as goal

-- what a scan found is what is asked for
told : (P : Network) (s : State) (f : ℕ) (one two : Pin) (sense : Sense) (scan : Scan) (scope : List ℕ) (first : Option Extreme) → Reads P (history_of s) f scan → scan.one ≡ one → scan.two ≡ two → scan.sense ≡ sense → IsExact P (history_of s) → IsPlace P f one.place one.value → IsPlace P f two.place two.value → scope ≡ scope_at P f → MatchOption first (NoneMet scan scope start) (IsFound scan scope start)
    → MatchOption first (NoneBetween P (history_of s) f one.place one.value two.place two.value) (IsExtremeBetween P (history_of s) f one.place one.value two.place two.value sense)
told P s f one two sense scan scope first reads is_one is_two is_sense exact at_one at_two same found =
    let is = extreme P (history_of s) f one two scan first reads is_one is_two exact at_one.place at_two.place (λ rest. small_word scan _ start rest)
    (subst (λ l. MatchOption first (NoneMet scan l start) (IsFound scan l start)) same found) in
    subst (λ k. MatchOption first (NoneBetween P (history_of s) f one.place one.value two.place two.value) (IsExtremeBetween P (history_of s) f one.place one.value two.place two.value k)) is_sense is

pub returns : goal.returns
returns c = told c.args.network.now c.args.self.now c.args.f c.args.one c.args.two c.args.sense c.scan-scan.result c.scope-scope.result.now c.first.result c.scan-scan.ensures.reads c.scan-scan.ensures.one c.scan-scan.ensures.two c.scan-scan.ensures.sense (exact_here c.args.network.now (history_of c.args.self.now) c.requires.state.exact) c.requires.one c.requires.two c.scope-scope.ensures c.first.ensures

pub returns-then-scope-eq3 : goal.returns-then-scope-eq3
returns-then-scope-eq3 c = told c.args.network.now c.args.self.now c.args.f c.args.one c.args.two c.args.sense c.scan-scan.result c.scope-scope.result.now c.first_of_three.result c.scan-scan.ensures.reads c.scan-scan.ensures.one c.scan-scan.ensures.two c.scan-scan.ensures.sense (exact_here c.args.network.now (history_of c.args.self.now) c.requires.state.exact) c.requires.one c.requires.two c.scope-scope.ensures c.first_of_three.ensures
