use Rattle.std.proofs.Common.{◌≡◌, ◌<◌, ◌+◌, length, ap, sym, ◌∙◌, subst, arith, true, false, ◌++◌, ◌∷◌, []}
use Rattle.std.specs.Prelude.{vec_capacity, slice_index}
use Rattle.cfn_incidence.specs.Places.{ArePlaces, StandsAt, place_at}
use Rattle.cfn_store.specs.Standing.{history}
use Rattle.cfn_edac.specs.Neighbours.{AreNeighbours}
use Rattle.cfn_edac.specs.Gathering.{AreGathered, AreMarks, AreMarked, HasNoNeighbour, IsNeighbourAt}
use Rattle.cfn_edac.proofs.Gather.{has_mark, mark_is, fresh, gathered_skip, gathered_met, gathered_more, marks_more, marked_more, all_gathered}
use Rattle.cfn_edac.proofs.neighbours.Neighbours.gather_open.Goals.{in-Some+then-not-index, in-Some+else-not-index, in_default}
use Rattle.cfn_edac.proofs.neighbours.Neighbours.gather_open.Goals as goal

pub returns-clause-neighbours : goal.returns-clause-neighbours
returns-clause-neighbours c =
    let v = c.loop-place.invariant in
    let P = c.self.inside.network.now in
    let places = c.places-place-items.result.now in
    let are : ArePlaces P c.args.x places = subst (λ N. ArePlaces N c.args.x places) (c.requires.incidence ∙ sym (ap (λ g. g.network) c.self.view_is)) c.places-place-items.ensures.places in
    subst (λ N. AreNeighbours N (history c.args.store.now) c.args.x c.loop-place.self-inside.pairs.items) (sym v.network)
    (all_gathered P (history c.args.store.now) c.args.x places c.loop-place.self-inside.pairs.items c.loop-place.place-index are c.loop-place-test.false v.gathered)

pub loop-place-preserved : goal.loop-place-preserved
loop-place-preserved c =
    let v = c.loop-place.invariant in
    let P = c.self.inside.network.now in
    let h = history c.args.store.now in
    let places = c.places-place-items.result.now in
    let n = c.loop-place.place-index in
    let are : ArePlaces P c.args.x places = subst (λ N. ArePlaces N c.args.x places) (c.requires.incidence ∙ sym (ap (λ g. g.network) c.self.view_is)) c.places-place-items.ensures.places in
    let here : n < length places = omega (arith, c.loop-place-test.true) in
    let stands : StandsAt P c.args.x (place_at places n) = are.stands n here in
    let net : c.args.store.now.network ≡ P = c.requires.network ∙ sym (ap (λ g. g.network) c.self.view_is) in
    elim c.match-neighbour_at.branch [
      | in-Some+then-not-index w ↦
          (let pair = w.in-Some.pair in
          let neighbour : IsNeighbourAt P h (place_at places n) pair = subst (λ N. IsNeighbourAt N h (place_at places n) pair) net w.in-Some.ensures in
          let y = ap (λ l. slice_index l pair.other) w.scope.ensures in
          let within = has_mark P h (place_at places n) pair c.loop-place.self-inside.met.items c.loop-place.self-inside.pairs.items _ c.law_limits.ensures v.marks neighbour y in
          let unseen = mark_is P c.loop-place.self-inside.met.items pair _ w.index.result.now false within y w.index.ensures w.if-not-index.true in
          let items = ap (λ s. s.pairs.items) w.self-inside-is ∙ w.push_reserved.ensures.items in
          record {
            network = ap (λ s. s.network.now) w.self-inside-is ∙ v.network;
            room = (let cap = ap (λ s. vec_capacity s.pairs) w.self-inside-is ∙ w.push_reserved.ensures.capacity in let room = v.room in omega (arith, cap, room));
            gathered = subst (λ l. AreGathered P h c.args.x places l (n + 1)) (sym items) (gathered_more P h c.args.x places c.loop-place.self-inside.pairs.items pair n stands v.gathered neighbour (fresh P c.loop-place.self-inside.met.items c.loop-place.self-inside.pairs.items pair v.marked unseen));
            marks = subst (λ l. AreMarks P c.match-neighbour_at.self-inside.met.items l 0) (sym items)
                (subst (λ m. AreMarks P m (c.loop-place.self-inside.pairs.items ++ pair ∷ []) 0) (sym (ap (λ s. s.met.items) w.self-inside-is)) (marks_more P c.loop-place.self-inside.met.items c.loop-place.self-inside.pairs.items pair _ y v.marks));
            marked = subst (AreMarked P c.match-neighbour_at.self-inside.met.items) (sym items)
                (subst (λ m. AreMarked P m (c.loop-place.self-inside.pairs.items ++ pair ∷ [])) (sym (ap (λ s. s.met.items) w.self-inside-is)) (marked_more P c.loop-place.self-inside.met.items c.loop-place.self-inside.pairs.items pair _ within y v.marked));
          })
      | in-Some+else-not-index w ↦
          (let pair = w.in-Some.pair in
          let neighbour : IsNeighbourAt P h (place_at places n) pair = subst (λ N. IsNeighbourAt N h (place_at places n) pair) net w.in-Some.ensures in
          let y = ap (λ l. slice_index l pair.other) w.scope.ensures in
          let within = has_mark P h (place_at places n) pair c.loop-place.self-inside.met.items c.loop-place.self-inside.pairs.items _ c.law_limits.ensures v.marks neighbour y in
          record {
            network = ap (λ s. s.network.now) w.self-inside-is ∙ v.network;
            room = (let cap = ap (λ s. vec_capacity s.pairs) w.self-inside-is in let room = v.room in omega (arith, cap, room));
            gathered = subst (λ l. AreGathered P h c.args.x places l (n + 1)) (sym (ap (λ s. s.pairs.items) w.self-inside-is))
                (gathered_met P h c.args.x places c.loop-place.self-inside.pairs.items c.loop-place.self-inside.met.items pair n are here v.marks v.gathered neighbour (mark_is P c.loop-place.self-inside.met.items pair _ w.index.result.now true within y w.index.ensures w.if-not-index.false));
            marks = subst (λ l. AreMarks P c.match-neighbour_at.self-inside.met.items l 0) (sym (ap (λ s. s.pairs.items) w.self-inside-is))
                (subst (λ m. AreMarks P m c.loop-place.self-inside.pairs.items 0) (sym (ap (λ s. s.met.items) w.self-inside-is)) v.marks);
            marked = subst (AreMarked P c.match-neighbour_at.self-inside.met.items) (sym (ap (λ s. s.pairs.items) w.self-inside-is))
                (subst (λ m. AreMarked P m c.loop-place.self-inside.pairs.items) (sym (ap (λ s. s.met.items) w.self-inside-is)) v.marked);
          })
      | in_default w ↦
          record {
            network = ap (λ s. s.network.now) w.self-inside-is ∙ v.network;
            room = (let cap = ap (λ s. vec_capacity s.pairs) w.self-inside-is in let room = v.room in omega (arith, cap, room));
            gathered = subst (λ l. AreGathered P h c.args.x places l (n + 1)) (sym (ap (λ s. s.pairs.items) w.self-inside-is)) (gathered_skip P h c.args.x places c.loop-place.self-inside.pairs.items n v.gathered (subst (λ N. HasNoNeighbour N h (place_at places n)) net (λ j p. w.in_default.ensures j p)));
            marks = subst (λ l. AreMarks P c.match-neighbour_at.self-inside.met.items l 0) (sym (ap (λ s. s.pairs.items) w.self-inside-is))
                (subst (λ m. AreMarks P m c.loop-place.self-inside.pairs.items 0) (sym (ap (λ s. s.met.items) w.self-inside-is)) v.marks);
            marked = subst (AreMarked P c.match-neighbour_at.self-inside.met.items) (sym (ap (λ s. s.pairs.items) w.self-inside-is))
                (subst (λ m. AreMarked P m c.loop-place.self-inside.pairs.items) (sym (ap (λ s. s.met.items) w.self-inside-is)) v.marked);
          }
    ]
