-- Worked rows of the generator.
use Rattle.std.proofs.Common.{◌≡◌, [], ◌∷◌, refl, codes}
use Rattle.cfn_gen.specs.Generator.{after, drawn, instance}

-- the first draws of seed 7, and the state behind them
drawn_7 : drawn 7 15 ≡ 9 ∷ 9 ∷ 2 ∷ 5 ∷ 1 ∷ 2 ∷ 8 ∷ 2 ∷ 4 ∷ 7 ∷ 4 ∷ 6 ∷ 1 ∷ 7 ∷ 1 ∷ []
unfolding drawn
drawn_7 = refl

after_7 : after 7 15 ≡ 8841
unfolding after
after_7 = refl

-- one variable, and two
one_variable : instance 7 1 ≡ record {
  name = codes "trial";
  sizes = 3 ∷ [];
  upper = 10;
  functions = record { scope = 0 ∷ []; default = 0; entries = 9 ∷ 9 ∷ 2 ∷ [] } ∷ [];
}
unfolding after drawn
one_variable = refl

two_variables : instance 7 2 ≡ record {
  name = codes "trial";
  sizes = 3 ∷ 3 ∷ [];
  upper = 28;
  functions = record { scope = 0 ∷ []; default = 0; entries = 9 ∷ 9 ∷ 2 ∷ [] }
      ∷ record { scope = 1 ∷ []; default = 0; entries = 5 ∷ 1 ∷ 2 ∷ [] }
      ∷ record { scope = 0 ∷ 1 ∷ []; default = 0; entries = 8 ∷ 2 ∷ 4 ∷ 7 ∷ 4 ∷ 6 ∷ 1 ∷ 7 ∷ 1 ∷ [] }
      ∷ [];
}
unfolding after drawn
two_variables = refl
