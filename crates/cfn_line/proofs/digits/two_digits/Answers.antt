use Rattle.std.proofs.Common.{[], ◌∷◌, ap₂}
use Rattle.cfn_line.proofs.Numerals.{pair_at}
use Rattle.cfn_line.proofs.digits.two_digits.Goals as goal

pub returns : goal.returns
returns c = let pair = pair_at c.args.number c.requires in ap₂ (λ d e. d ∷ e ∷ []) pair.0 pair.1
