-- A certificate's text in the second version has another first line, and the same lines behind it.
use Rattle.std.proofs.Common.{◌≡◌, ℕ, List, [], ◌∷◌, ◌++◌, drop, refl, ap, ◌∙◌}
use Rattle.std.specs.Prelude.{codes}
use Rattle.cfn_model.specs.declared.version.Version.{Version}
use Rattle.cfn_model.specs.declared.version.Version.TheVariants.{First, Second}
use Rattle.cfn_model.specs.Text.{line, version_word}
use Rattle.cfn_certwrite.specs.Upgrading.{IsUpgraded}

-- a version's first line has 11 bytes
behind_first : (version : Version) (rest : List ℕ) → drop 11 (line (codes "wcspcert" ∷ version_word version ∷ []) ++ rest) ≡ rest
behind_first First rest = refl
behind_first Second rest = refl

pub is_upgraded : (bytes : List ℕ) → IsUpgraded bytes
is_upgraded bytes c spells =
    ap (λ t. line (codes "wcspcert" ∷ codes "2" ∷ []) ++ t) (ap (drop 11) spells.exact ∙ behind_first c.version _)
