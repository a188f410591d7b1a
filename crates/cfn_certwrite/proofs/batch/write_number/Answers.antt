use Rattle.std.proofs.Common.{ℕ, List, [], ◌∷◌, ◌++◌, ◌≡◌, slice_index, ap, sym, ◌∙◌, append_assoc}
use Rattle.std.specs.Prelude.{decimal}
use Rattle.cfn_line.proofs.CallerLemmas.{one_digit, pair_digits}
use Rattle.cfn_certwrite.proofs.batch.write_number.Goals as goal

-- bytes behind others, which are a number's digits and the byte behind them
spelled : (old now bytes : List ℕ) (n end : ℕ) → bytes ≡ decimal n ++ end ∷ [] → now ≡ old ++ bytes → now ≡ old ++ decimal n ++ end ∷ []
spelled old now bytes n end is added = added ∙ ap (λ bs. old ++ bs) is ∙ sym (append_assoc old (decimal n) (end ∷ []))

pub returns-then-number-lt10-clause-is : goal.returns-then-number-lt10-clause-is
returns-then-number-lt10-clause-is c = spelled _ _ _ c.args.number c.args.end (one_digit c.args.number c.args.end c.if-number-lt10.true) c.write.ensures.is

pub returns-then-number-lt100-clause-is : goal.returns-then-number-lt100-clause-is
returns-then-number-lt100-clause-is c =
    spelled _ _ _ c.args.number c.args.end
    (pair_digits c.args.number c.args.end _ _ c.if-number-lt10.false c.if-number-lt100.true (ap (λ l. slice_index l 0 ∷ slice_index l 1 ∷ []) c.two_digits.ensures))
    c.write-then-number-lt100.ensures.is
