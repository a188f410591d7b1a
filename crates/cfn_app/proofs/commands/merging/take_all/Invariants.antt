use Rattle.std.proofs.Common.{drop, map}
use Rattle.std.specs.Prelude.{string_bytes}
use Rattle.cfn_app.proofs.Merges.{IsMerging}
use Rattle.cfn_app.proofs.commands.merging.take_all.Given as goal

-- the certificates before this one were taken
abbrev pub invariant-loop-i : goal.invariant-loop-i
invariant-loop-i g l = IsMerging l.network (map (λ name. string_bytes name) l.names) (g.D.Desk.outside l.fn.desk) l.i (drop l.i (map (λ name. string_bytes name) l.names)) l.found (g.D.Desk.outside l.desk)
