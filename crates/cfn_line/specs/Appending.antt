-- What sending a text does to the outside.
use Rattle.std.specs.Prelude.{◌≡◌, ℕ, List, ◌∷◌, ◌++◌, Result, Ok, OnOk, OnErr}
use Rattle.cfn_desk.specs.Outside.{Outside, Call, FailedPut, FailedSay, puts, says, IsWriting}
use Rattle.cfn_line.specs.declared.channel.Channel.{Channel}
use Rattle.cfn_line.specs.declared.channel.Channel.TheVariants.{File, Screen}

-- The calls after these bytes were sent, and the call that failed to send them.
abbrev pub sent : Channel → List ℕ → List Call → List Call
sent File bytes calls = puts bytes calls
sent Screen bytes calls = says bytes calls

abbrev pub failed : Channel → List ℕ → Call
failed File piece = FailedPut piece
failed Screen piece = FailedSay piece

-- Something can be sent: a file is being written, or it goes to the screen.
abbrev pub IsOpen : Channel → List Call → Type 0
IsOpen File calls = IsWriting calls
IsOpen Screen calls = Unit {0}

-- A front of the text was sent, and the next piece of it failed; nothing came behind it.
pub record IsCut (channel : Channel) (before : List Call) (text : List ℕ) (now : List Call) : Type 0 where
  pub front : List ℕ
  pub piece : List ℕ
  pub rest : List ℕ
  pub split : front ++ (piece ++ rest) ≡ text
  pub calls : now ≡ failed channel piece ∷ sent channel front before

-- Ok sent the text, and more can be sent; Err is one call that failed, behind a front of the text. No file changed.
pub record Appends {T E : Type 0} (channel : Channel) (before : Outside) (text : List ℕ) (result : Result T E) (now : Outside) : Type 0 where
  pub sends : OnOk result (now.calls ≡ sent channel text before.calls)
  pub cut : OnErr result (IsCut channel before.calls text now.calls)
  pub files : now.files ≡ before.files
  pub still : OnOk result (IsOpen channel now.calls)

-- a call that gave a value
abbrev pub done : Result (Unit {0}) (Unit {0})
done = Ok tt

-- Of a whole text a rest is still to be sent.
pub record Midway (channel : Channel) (before : Outside) (whole rest : List ℕ) (now : Outside) : Type 0 where
  pub front : List ℕ
  pub split : front ++ rest ≡ whole
  pub appends : Appends channel before front done now

-- A text came behind what waits for the screen. Ok sent a front of both, and the rest waits; Err failed to send them.
pub record Adds {T E : Type 0} (before : Outside) (waiting text : List ℕ) (result : Result T E) (now : Outside) (waits : List ℕ) : Type 0 where
  pub ok : OnOk result (Midway Screen before (waiting ++ text) waits now)
  pub err : OnErr result (Appends Screen before (waiting ++ text) result now)
