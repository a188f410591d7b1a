-- What rows end as, where a `&mut` to one of them is returned.
use Rattle.std.specs.Prelude.{ℕ, List}
use Rattle.std.specs.Borrow.{Lends, Fml, RattleType, MutBor, Array}
use Rattle.cfn_rows.specs.Jagged.{with_row}
use Rattle.cfn_rows.specs.contracts.rows.Rows.{the_row}

-- Once the borrow ends, the row has what was left there.
abbrev pub lends_row : (T : RattleType) → MutBor (List (List T.Denot)) → ℕ → MutBor (List T.Denot) → Fml
lends_row T rows r lent = Lends (the_row T) (Array T 0) rows lent (with_row rows.now r)
