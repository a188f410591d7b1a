use Rattle.std.proofs.Common.{◌≡◌, List, [], ◌∷◌, ◌++◌, map, reverse, length, ap, subst, arith}
use Rattle.std.proofs.lemmas.List.{length_push}
use Rattle.cfn_rota.specs.Values.{Access, AreAll, access}
use Rattle.cfn_search_tests.proofs.lanes.own_ends.Goals as goal

-- the last of one is all
alone : {X : Type 0} (acc : X → Access) (xs rest : List X) (e : X) → xs ≡ rest ++ e ∷ [] → length xs ≡ 1 → AreAll (reverse (map acc xs)) → AreAll (acc e ∷ [])
alone acc xs [] e is one all = subst (λ ys. AreAll (reverse (map acc ys))) is all
alone acc xs (x ∷ rest) e is one all = absurd (let n = ap length is in let m = length_push rest e in omega (arith, n, m, one))

pub returns-in-Some : goal.returns-in-Some
returns-in-Some g c = alone access _ _ _ c.in-Some.ensures.items c.in_ok-ends.ensures.count c.in_ok-ends.ensures.all
