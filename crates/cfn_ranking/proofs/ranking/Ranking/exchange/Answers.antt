use Rattle.std.proofs.Common.{◌≡◌, length, refl, sym, ap, ◌∙◌, subst, arith}
use Rattle.std.specs.Prelude.{min}
use Rattle.cfn_ranking.specs.Ranked.{Ranked}
use Rattle.cfn_ranking.specs.Certificates.{solution_of, solutions_of}
use Rattle.cfn_ranking.specs.Changes.{MakesRoom, entered}
use Rattle.cfn_ranking.proofs.Lists.{map_insert}
use Rattle.cfn_ranking.proofs.Places.{exchanges_of, stays_on}
use Rattle.cfn_ranking.proofs.ranking.Ranking.exchange.Goals as goal

pub leave-requires-clause-free : goal.leave-requires-clause-free
leave-requires-clause-free c =
    (stays_on c.args.self.now c.self.inside.count c.self.inside.tree c.self.inside.list.items c.self.inside.leaves.items _ _ c.make_room.new.tree c.make_room.new.list.items c.make_room.new.leaves.items c.args.leaf.number (sym (ap (λ (r : Ranked). r.nodes) c.self.view_is)) (sym (ap (λ (r : Ranked). r.list) c.self.view_is)) (sym (ap (λ (r : Ranked). r.leaves) c.self.view_is)) c.in_ok-reserve.ensures.items c.in_ok-reserve-2.ensures.items c.in_ok-make_room.ensures.ok c.requires.long c.requires.stays c.requires.waits).free

pub put_at-requires-2-clause-within : goal.put_at-requires-2-clause-within
put_at-requires-2-clause-within c =
    let long = (stays_on c.args.self.now c.self.inside.count c.self.inside.tree c.self.inside.list.items c.self.inside.leaves.items _ _ c.make_room.new.tree c.make_room.new.list.items c.make_room.new.leaves.items c.args.leaf.number (sym (ap (λ (r : Ranked). r.nodes) c.self.view_is)) (sym (ap (λ (r : Ranked). r.list) c.self.view_is)) (sym (ap (λ (r : Ranked). r.leaves) c.self.view_is)) c.in_ok-reserve.ensures.items c.in_ok-reserve-2.ensures.items c.in_ok-make_room.ensures.ok c.requires.long c.requires.stays c.requires.waits).long in
    let at = c.min-place.ensures in
    let len = c.len.ensures in
    let one = c.make_room.new.list.ok.0 in
    let two = c.make_room.new.leaves.ok.0 in
    omega (arith, long, at, len, one, two)

pub returns-clause-ok : goal.returns-clause-ok
returns-clause-ok c =
    let in_self = c.self.inside in
    let items = in_self.list.items in
    let leaves = in_self.leaves.items in
    let less = c.make_room.new.tree in
    let rest = c.make_room.new.list.items in
    let others = c.make_room.new.leaves.items in
    let mid : Ranked = record { nodes = less; floors = in_self.floors.items; numbers = in_self.numbers.items; list = solutions_of rest; leaves = others; count = in_self.count; threshold = in_self.threshold; spent = in_self.spent } in
    let mid_view : Ranked = record { nodes = in_self.tree; floors = in_self.floors.items; numbers = in_self.numbers.items; list = solutions_of items; leaves = leaves; count = in_self.count; threshold = in_self.threshold; spent = in_self.spent } in
    let room = subst (λ l. MakesRoom in_self.count in_self.tree items l less rest others) c.in_ok-reserve-2.ensures.items (subst (λ l. MakesRoom in_self.count in_self.tree l c.reserve-2.new.self.items less rest others) c.in_ok-reserve.ensures.items c.in_ok-make_room.ensures.ok) in
    let place : c.min-place.result ≡ min c.args.place (length rest) = c.min-place.ensures ∙ ap (min c.args.place) (c.len.ensures ∙ c.make_room.new.list.ok.0) in
    exchanges_of mid_view c.args.self.now _ c.args.leaf c.args.block c.args.place c.args.listed c.self.view_is (record {
      items = items;
      rest = rest;
      others = others;
      less = less;
      list_is = refl;
      linked = c.law_linked.ensures.linked;
      room = room;
      is = ap (λ n. record (entered mid c.args.leaf c.args.block c.min-place.result (solution_of c.args.listed)) { nodes = n; list = solutions_of c.put_at.new.list.items; leaves = c.put_at-2.new.list.items }) c.leave.ensures
          ∙ ap (λ l. record (entered mid c.args.leaf c.args.block c.min-place.result (solution_of c.args.listed)) { list = l; leaves = c.put_at-2.new.list.items }) (ap solutions_of c.put_at.ensures ∙ map_insert rest c.min-place.result c.args.listed)
          ∙ ap (λ l. record (entered mid c.args.leaf c.args.block c.min-place.result (solution_of c.args.listed)) { leaves = l }) c.put_at-2.ensures
          ∙ ap (λ p. entered mid c.args.leaf c.args.block p (solution_of c.args.listed)) place;
    })
