use Rattle.std.proofs.Common.{◌≡◌, ℕ, ◌+◌, ◌<◌, List, [], ◌∷◌, ◌++◌, length, take, drop, subst, sym, arith}
use Rattle.std.proofs.lemmas.List.{places, same_lists}
use Rattle.std.specs.Prelude.{replicate}
use Rattle.cfn_line.proofs.word.joined.Goals as goal

-- bytes before as many others as there is room for, and one of these
front_of : (name : List ℕ) (end room : ℕ) → length name < room → take (length name + 1) (name ++ drop (length name) (replicate room end)) ≡ name ++ end ∷ []
front_of name end room fits = same_lists _ _ (grind (arith, places)) (λ k d h. grind (arith, places))

pub returns : goal.returns
returns c = subst (λ front. take (length c.args.name.now + 1) (front ++ drop (length c.args.name.now) (replicate 32 c.args.end)) ≡ c.args.name.now ++ c.args.end ∷ []) (sym c.copy_from_slice.ensures.after) (front_of c.args.name.now c.args.end 32 c.requires)
