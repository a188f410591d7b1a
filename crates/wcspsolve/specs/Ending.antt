-- How the program ends.
use Rattle.std.specs.Prelude.{◌≡◌, ◌⊎◌, ℕ, List, [], None}
use Rattle.cfn_desk.specs.Outside.{Outside}
use Rattle.cfn_cli.specs.Request.{request_of}
use Rattle.cfn_app.specs.declared.status.Status.{Status}
use Rattle.cfn_app.specs.Endings.{code}
use Rattle.cfn_app.specs.Runs.{Runs, Statuses, Returns}

-- A run on some words, over a desk that no call was made of before and that tells no files, as a desk over real ones, ended with
-- this status.
pub record Ran (status : Status) : Type 0 where
  pub words : List (List ℕ)
  pub old : Outside
  pub new : Outside
  pub fresh : old.calls ≡ []
  pub untold : old.files ≡ None
  pub runs : Runs (request_of words) old new status
  pub statuses : Statuses (request_of words) old new status
  pub again : Returns (request_of words) old new status

-- The program ended with the number of a run's status, or with 6 where memory was refused before there was a run.
abbrev pub Ended : ℕ → Type 0
Ended number = ((status : Status) × Ran status × (number ≡ code status)) ⊎ (number ≡ 6)
