-- What a chain of `Command::arg` and `Command::subcommand` builds.
use Rattle.std.proofs.Common.{◌≡◌, ◌∙◌, ◌||◌, ap, ap₂, false, true}
use Rattle.std.specs.Prelude.{Result, Ok, Err, IfOk, IsOkAnd}
use Rattle.clap.specs.Words.{AddsArg, AddsSubcommand, App, Rule, app_of, rule_of, with_rule, with_subcommand}
use Rattle.clap.specs.declared.builder.Arg.{Arg}
use Rattle.clap.specs.declared.builder.Command.{Command}
use Rattle.clap.specs.declared.builder.Command.TheViews.{out-Command}
use Rattle.clap.specs.Simple.{app_of_fields, on_top}
use Rattle.clap.specs.declared.builder.Command.TheOpen.{Command-F}
use Rattle.cfn_cli.specs.Building.{Builds}

pub begun : (c : Command) (shape : App) → app_of c ≡ shape → (out-Command c).has_globals ≡ false → Builds shape c
begun c shape is local = record { app = is; local = local }

pub command_required : (old new : Command) (shape : App) → out-Command new ≡ record (out-Command old) { subcommand_required = true }
    → Builds shape old → Builds (on_top (λ s. record s { subcommand_required = true }) shape) new
command_required old new shape is built = record {
  app = ap app_of_fields is ∙ ap (λ (a : App). on_top (λ s. record s { subcommand_required = true }) a) built.app;
  local = ap (λ (f : Command-F Command). f.has_globals) is ∙ built.local;
}

pub argument_added : (old new : Command) (a : Arg) (shape : App) (rule : Rule) → AddsArg old a new → Builds shape old
    → rule_of a ≡ rule → a.global ≡ false → Builds (with_rule shape rule) new
argument_added old new a shape rule adds built is_rule local = record {
  app = adds.shape local ∙ ap₂ with_rule built.app is_rule;
  local = adds.globals ∙ ap₂ (λ x y. x || y) built.local local;
}

pub command_added : (old sub new : Command) (shape below : App) → AddsSubcommand old sub new → Builds shape old
    → Builds below sub → Builds (with_subcommand shape below.top) new
command_added old sub new shape below adds built sub_built = record {
  app = adds.shape sub_built.local ∙ ap₂ with_subcommand built.app (ap (λ (a : App). a.top) sub_built.app);
  local = adds.globals ∙ ap₂ (λ x y. x || y) built.local sub_built.local;
}

pub argument_first : {F : Type 0} (old : Command) (new : Result Command F) (a : Arg) (shape : App) (rule : Rule) → IfOk new (λ n. AddsArg old a n)
    → Builds shape old → rule_of a ≡ rule → a.global ≡ false → IfOk new (Builds (with_rule shape rule))
argument_first old (Ok n) a shape rule adds built is_rule local = argument_added old n a shape rule adds built is_rule local
argument_first old (Err e) a shape rule adds built is_rule local = tt

pub argument_with : {E F : Type 0} (old : Result Command E) (new : Result Command F) (a : Arg) (shape : App) (rule : Rule)
    → IfOk new (λ n. IsOkAnd old (λ o. AddsArg o a n)) → IfOk old (Builds shape) → rule_of a ≡ rule → a.global ≡ false
    → IfOk new (Builds (with_rule shape rule))
argument_with (Ok o) new a shape rule adds built is_rule local = argument_first o new a shape rule adds built is_rule local
argument_with (Err e) (Ok n) a shape rule adds built is_rule local = absurd adds
argument_with (Err e) (Err f) a shape rule adds built is_rule local = tt

pub under_first : {E F : Type 0} (old : Command) (new : Result Command F) (below : Result Command E) (shape sub : App)
    → IfOk new (λ n. IsOkAnd below (λ s. AddsSubcommand old s n)) → Builds shape old → IfOk below (Builds sub)
    → IfOk new (Builds (with_subcommand shape sub.top))
under_first old (Ok n) (Ok s) shape sub adds built is = command_added old s n shape sub adds built is
under_first old (Ok n) (Err e) shape sub adds built is = absurd adds
under_first old (Err f) below shape sub adds built is = tt

pub under_added : {D E F : Type 0} (old : Result Command D) (new : Result Command F) (below : Result Command E) (shape sub : App)
    → IfOk new (λ n. IsOkAnd old (λ o. IsOkAnd below (λ s. AddsSubcommand o s n))) → IfOk old (Builds shape) → IfOk below (Builds sub)
    → IfOk new (Builds (with_subcommand shape sub.top))
under_added (Ok o) new below shape sub adds built is = under_first o new below shape sub adds built is
under_added (Err e) (Ok n) below shape sub adds built is = absurd adds
under_added (Err e) (Err f) below shape sub adds built is = tt
