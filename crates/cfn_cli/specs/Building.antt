-- What a builder of a command gives.
use Rattle.std.specs.Prelude.{◌≡◌, false}
use Rattle.clap.specs.Words.{App, app_of}
use Rattle.clap.specs.declared.builder.Command.{Command}
use Rattle.clap.specs.declared.builder.Command.TheViews.{out-Command}

-- A parse reads this of the command, and no argument of the command is global.
pub record Builds (shape : App) (c : Command) : Type 0 where
  pub app : app_of c ≡ shape
  pub local : (out-Command c).has_globals ≡ false
