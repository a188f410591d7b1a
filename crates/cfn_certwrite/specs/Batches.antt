-- What is left to be put of bytes that are gathered.
use Rattle.std.specs.Prelude.{ℕ, List, Result, OnOk, OnErr}
use Rattle.cfn_desk.specs.Outside.{Outside}
use Rattle.cfn_line.specs.Appending.{Appends, Midway}
use Rattle.cfn_line.specs.declared.channel.Channel.TheVariants.{File}

-- Of a text Ok put a front into the file, and the rest waits; Err is one put that failed, behind a front of the text.
pub record Gathers {T E : Type 0} (before : Outside) (text : List ℕ) (result : Result T E) (now : Outside) (waits : List ℕ) : Type 0 where
  pub ok : OnOk result (Midway File before text waits now)
  pub err : OnErr result (Appends File before text result now)
