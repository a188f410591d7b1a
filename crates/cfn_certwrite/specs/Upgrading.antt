-- The text of a certificate in the second version, from its text in either: another first line, and the same bytes behind it.
use Rattle.std.specs.Prelude.{◌≡◌, ℕ, List, [], ◌∷◌, ◌++◌, drop, codes}
use Rattle.cfn_model.specs.Certificate.{Certificate, in_second}
use Rattle.cfn_model.specs.Text.{line, Spells, spelling}

-- The first line of a certificate has 11 bytes: `wcspcert`, a space, a digit and LF.
abbrev pub upgraded : List ℕ → List ℕ
upgraded bytes = line (codes "wcspcert" ∷ codes "2" ∷ []) ++ drop 11 bytes

-- It is the spelling, in the second version, of every certificate that the bytes spell.
abbrev pub IsUpgraded : List ℕ → Type 0
IsUpgraded bytes = (c : Certificate) → Spells c bytes → upgraded bytes ≡ spelling (in_second c)
