-- Sums over the events of a path.
use Rattle.std.proofs.Common.{◌≡◌, ℕ, ◌+◌, ◌<◌, List, [], ◌∷◌, ◌++◌, length, reverse, take, drop, get_or, sym, ap, ◌∙◌, subst, arith}
use Rattle.std.proofs.lemmas.Int.{ints}
use Rattle.std.proofs.lemmas.List.{take_more, reverse-append, take-append-drop}
use Rattle.std.specs.Prelude.{ℤ, ◌+ℤ◌}
use Rattle.cfn_model.specs.declared.step.Step.TheVariants.{Project}
use Rattle.cfn_model.specs.declared.step.Event.{Event}
use Rattle.cfn_model.specs.declared.step.Event.TheVariants.{Did}
use Rattle.cfn_model.specs.Network.{Network}
use Rattle.cfn_scan.specs.Exact.{InPlace, AllInPlace}
use Rattle.cfn_rebase.specs.declared.balance.Balance.{Balance}
use Rattle.cfn_rebase.specs.Balancing.{worth, IsLight}

abbrev pub some_event : Event
some_event = Did (Project 0 0 0 0)

-- the events up to one, the newest first, are that and those before it
pub newest_first : (events : List Event) (n : ℕ) → n < length events → reverse (take (n + 1) events) ≡ get_or events n some_event ∷ reverse (take n events)
newest_first events n l = ap reverse (take_more events n some_event l) ∙ reverse-append (take n events) (get_or events n some_event ∷ [])

place_behind : (P : Network) (later earlier : List Event) → AllInPlace P (later ++ earlier) → AllInPlace P earlier
place_behind P [] earlier all = all
place_behind P (event ∷ later) earlier all = place_behind P later earlier all.1

pub in_place_at : (P : Network) (events : List Event) (n : ℕ) → AllInPlace P (reverse events) → n < length events → InPlace P (get_or events n some_event)
in_place_at P events n all l =
    let e : reverse events ≡ reverse (drop (n + 1) events) ++ (get_or events n some_event ∷ reverse (take n events)) =
    ap reverse (sym (take-append-drop (n + 1) events)) ∙ reverse-append (take (n + 1) events) (drop (n + 1) events) ∙ ap (λ t. reverse (drop (n + 1) events) ++ t) (newest_first events n l) in
    (place_behind P (reverse (drop (n + 1) events)) (get_or events n some_event ∷ reverse (take n events)) (subst (AllInPlace P) e all)).0

-- a sum with one change more
pub joined : (sum change : Balance) (z y : ℤ) → worth sum ≡ z → worth change ≡ y → worth (record { more = sum.more + change.more; less = sum.less + change.less }) ≡ (y +ℤ z)
joined sum change z y a b = omega (arith, ints, a, b)

pub light_joined : (n : ℕ) (sum change : Balance) → IsLight n sum → IsLight 1 change → IsLight (n + 1) (record { more = sum.more + change.more; less = sum.less + change.less })
light_joined n sum change a b = record {
  more = (let l = a.more in let m = b.more in omega (arith, l, m));
  less = (let l = a.less in let m = b.less in omega (arith, l, m));
}
