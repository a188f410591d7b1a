use Rattle.std.proofs.Common.{◌≡◌, ◌∙◌, map, List, ℕ, Bor}
use Rattle.std.proofs.lemmas.Result.{IfErr-weaker, IfOk-weaker}
use Rattle.cfn_cli.specs.declared.fault.CliFault.TheVariants.{Memory}
use Rattle.cfn_cli.proofs.Taking.{asked, entered, not_asked, refused, taken}
use Rattle.cfn_cli.proofs.parsing.parse.Goals as goal

pub returns-in-Ok-clause-command : goal.returns-in-Ok-clause-command
returns-in-Ok-clause-command c =
    let words : List (List ℕ) = map (λ (w : Bor (List ℕ)). w.now) c.args.words.now in
    let line = c.in_ok-line.ensures.app in
    let takes = taken _ words line (c.in-Ok.ensures.kinds c.in_ok-line.ensures.free) in
    let enters = entered _ words _ line (c.in-Ok.ensures.matches c.in_ok-line.ensures.simple).1 in
    IfOk-weaker c.read.result _ _ (λ x e. asked words _ takes enters ∙ e) c.read.ensures.command

pub returns-in-Ok-clause-usage : goal.returns-in-Ok-clause-usage
returns-in-Ok-clause-usage c =
    let words : List (List ℕ) = map (λ (w : Bor (List ℕ)). w.now) c.args.words.now in
    let line = c.in_ok-line.ensures.app in
    let takes = taken _ words line (c.in-Ok.ensures.kinds c.in_ok-line.ensures.free) in
    let enters = entered _ words _ line (c.in-Ok.ensures.matches c.in_ok-line.ensures.simple).1 in
    IfErr-weaker c.read.result _ _ (λ x none usage. asked words _ takes enters ∙ none usage) c.read.ensures.usage

pub returns-in-Err-clause-usage : goal.returns-in-Err-clause-usage
returns-in-Err-clause-usage c = λ usage.
    let words : List (List ℕ) = map (λ (w : Bor (List ℕ)). w.now) c.args.words.now in
    let line = c.in_ok-line.ensures.app in
    not_asked words (refused _ words c.in-Err.error line (c.in-Err.ensures.kinds c.in_ok-line.ensures.free)
    (λ memory. let gave : c.fault_of.result ≡ Memory = c.fault_of.ensures.memory memory in cc))
