use Rattle.std.proofs.Common.{sym, ap, ◌∙◌, subst, take}
use Rattle.cfn_model.specs.Network.{Network}
use Rattle.cfn_model.specs.Steps.{after}
use Rattle.cfn_store.specs.Standing.{history}
use Rattle.cfn_derivation.specs.Watched.{IsWatched}
use Rattle.cfn_vac.specs.Roots.{EndsWith, Root}
use Rattle.cfn_derivation.specs.Banned.{bans_of}
use Rattle.cfn_vac.proofs.Lifted.{lifted_once}
use Rattle.cfn_vac.proofs.Roots.{ready_then, watched_same, before_adds}
use Rattle.cfn_vac.proofs.vac.RootVac.attempt.Goals as goal

pub returns-in-Ok-Lifted-clause-ready : goal.returns-in-Ok-Lifted-clause-ready
returns-in-Ok-Lifted-clause-ready c =
    let is = c.lift_once.ensures in
    ready_then c.args.self.now.network c.args.store.now c.lift_once.new.store c.args.limits c.requires.ready is.adds (λ y a. is.live y a)

pub returns-in-Ok-Lifted-clause-watch : goal.returns-in-Ok-Lifted-clause-watch
returns-in-Ok-Lifted-clause-watch c =
    let is = c.lift_once.ensures in let s = c.args.store.now in let now = c.lift_once.new.store in let P = c.args.self.now.network in let q = c.args.q in
    let here = watched_same P (history s) q c.args.self.now.watch c.lift_once.new.self.watch c.lift_once.new.self.watch.deletions c.requires.watch is.watch in
    let begun = after (take c.block_len-start.result now.block) now.base in
    let same = c.self.invariant.0 ∙ ap (λ (r : Root). r.network) c.self.view_is ∙ is.network in
    let before = subst (λ h. IsWatched P h c.lift_once.new.self.watch q) (sym (before_adds s now c.args.limits c.block_len-start.result is.adds c.block_len-start.ensures)) here in
    let premise = subst (λ (N : Network). IsWatched N begun c.self.inside.deriver q) (sym same) (subst (λ w. IsWatched P begun w q) (sym (ap (λ (r : Root). r.watch) c.self.view_is)) before) in
    subst (λ (N : Network). IsWatched N (history now) c.note.new.self q) same (c.note.ensures.watch q premise)

pub returns-in-Ok-Lifted-clause-lifts : goal.returns-in-Ok-Lifted-clause-lifts
returns-in-Ok-Lifted-clause-lifts c =
    lifted_once c.args.self.now.network c.args.q (bans_of c.args.self.now.bans) c.args.limits c.args.store.now c.lift_once.new.store c.lift_once.new.self.watch.deletions
    (subst (EndsWith c.args.self.now.network c.args.q (bans_of c.args.self.now.bans) c.args.limits c.args.store.now c.lift_once.new.store c.lift_once.new.self.watch.deletions) c.in-Ok-Lifted.field-0-is c.in-Ok-Lifted.ensures.ends)
