use Rattle.std.proofs.Common.{◌≡◌, ◌∙◌, ap, refl, true}
use Rattle.std.proofs.lemmas.Result.{IfOk-weaker}
use Rattle.clap.specs.Words.{is_simple, is_simple_and_free}
use Rattle.clap.specs.declared.builder.Command.{Command}
use Rattle.cfn_cli.specs.Arguments.{budget_rule, certificate_rule, file_rule, out_rule, progress_rule, seconds_rule, wcnf_rule, workers_rule}
use Rattle.cfn_cli.specs.Building.{Builds}
use Rattle.cfn_cli.specs.Request.{IsLine, command_line}
use Rattle.cfn_cli.specs.Request.Checking.{check_app}
use Rattle.cfn_cli.specs.Request.CheckingBest.{check_best_app, complete_rule}
use Rattle.cfn_cli.specs.Request.Costing.{cost_app, values_rule}
use Rattle.cfn_cli.specs.Request.Listing.{count_rule, k_best_app}
use Rattle.cfn_cli.specs.Request.Merging.{certificates_rule, merge_app}
use Rattle.cfn_cli.specs.Request.Migrating.{migrate_app}
use Rattle.cfn_cli.specs.Request.Normalizing.{normal_app}
use Rattle.cfn_cli.specs.Request.Rebasing.{old_rule, part_rule, parts_rule, rebase_app}
use Rattle.cfn_cli.specs.Request.Replaying.{recording_rule, replay_app}
use Rattle.cfn_cli.specs.Request.Solving.{record_rule, solve_app}
use Rattle.cfn_cli.specs.Request.Trying.{seed_rule, size_rule, trial_app}
use Rattle.cfn_cli.proofs.Building.{begun, command_required, under_added, under_first}
use Rattle.cfn_cli.proofs.commands.command_line.Goals as goal

line_is_simple : is_simple command_line ≡ true
unfolding command_line solve_app check_app cost_app normal_app trial_app migrate_app rebase_app merge_app replay_app k_best_app check_best_app complete_rule record_rule recording_rule count_rule file_rule certificate_rule certificates_rule out_rule old_rule part_rule parts_rule seed_rule size_rule workers_rule budget_rule seconds_rule values_rule wcnf_rule progress_rule
line_is_simple = refl

line_is_free : is_simple_and_free command_line ≡ true
unfolding command_line solve_app check_app cost_app normal_app trial_app migrate_app rebase_app merge_app replay_app k_best_app check_best_app complete_rule record_rule recording_rule count_rule file_rule certificate_rule certificates_rule out_rule old_rule part_rule parts_rule seed_rule size_rule workers_rule budget_rule seconds_rule values_rule wcnf_rule progress_rule
line_is_free = refl

is_line : (c : Command) → Builds command_line c → IsLine c
is_line c built = record {
  app = built.app;
  simple = ap is_simple built.app ∙ line_is_simple;
  free = ap is_simple_and_free built.app ∙ line_is_free;
}

pub returns : goal.returns
unfolding command_line
returns c =
    let start = begun _ _ c.new.ensures.app c.new.ensures.local in
    let required = command_required _ _ _ c.subcommand_required.ensures start in
    let with_solve = under_first _ _ _ _ _ c.under-line.ensures required c.line.ensures in
    let with_check = under_added _ _ _ _ _ c.under-line-2.ensures with_solve c.line-2.ensures in
    let with_cost = under_added _ _ _ _ _ c.under-line-3.ensures with_check c.line-3.ensures in
    let with_normal = under_added _ _ _ _ _ c.under-line-4.ensures with_cost c.line-4.ensures in
    let with_trial = under_added _ _ _ _ _ c.under-line-5.ensures with_normal c.line-5.ensures in
    let with_migrate = under_added _ _ _ _ _ c.under-line-6.ensures with_trial c.line-6.ensures in
    let with_rebase = under_added _ _ _ _ _ c.under-line-7.ensures with_migrate c.line-7.ensures in
    let with_merge = under_added _ _ _ _ _ c.under-line-8.ensures with_rebase c.line-8.ensures in
    let with_replay = under_added _ _ _ _ _ c.under-line-9.ensures with_merge c.line-9.ensures in
    let with_k_best = under_added _ _ _ _ _ c.under-line-10.ensures with_replay c.line-10.ensures in
    IfOk-weaker c.under.result _ _ is_line (under_added _ _ _ _ _ c.under.ensures with_k_best c.line-11.ensures)
