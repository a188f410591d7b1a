-- What a search for a list of the cheapest assignments promises, and how a run that lists them ends.
use Rattle.std.proofs.Common.{◌≡◌, ℕ, ◌≤◌, true, false, List, [], ◌∷◌, length, refl, sym, ap, ◌∙◌, subst, arith}
use Rattle.std.specs.Prelude.{Result, Ok, Err, is_ok, is_err, is_some}
use Rattle.cfn_model.specs.declared.step.Event.{Event}
use Rattle.cfn_model.specs.declared.step.Event.TheVariants.{Took, Refused}
use Rattle.cfn_model.specs.Network.{Network, IsNetwork}
use Rattle.cfn_model.specs.Steps.{after}
use Rattle.cfn_best.specs.Tree.{ListTree, Open, Closed, Listed, Split, bound}
use Rattle.cfn_best.specs.List.{ListCertificate, threshold_of}
use Rattle.cfn_best.specs.Lines.{Spells}
use Rattle.cfn_best.specs.Laws.{IsNotIn, OthersCostMore, Cheapest, Fewer}
use Rattle.cfn_ranking.specs.declared.word.ListWord.{ListWord}
use Rattle.cfn_ranking.specs.declared.word.ListWord.TheVariants as words
use Rattle.cfn_ranking.specs.Certificates.{spelling}
use Rattle.cfn_ranking.specs.Trees.{open_leaves}
use Rattle.cfn_ranking.specs.Finished.{IsListOf, threshold}
use Rattle.cfn_kbest.specs.Searching.{HasListCause}
use Rattle.cfn_certwrite.specs.ListTexts.{list_report}
use Rattle.cfn_desk.specs.Outside as desk
use Rattle.cfn_desk.specs.Outside.{Outside, Call, Load, Bytes, HasFile}
use Rattle.cfn_cli.specs.Request.Listing.{KBestRequest}
use Rattle.cfn_app.specs.declared.status.Status.{Status}
use Rattle.cfn_app.specs.Endings.{Outputs}
use Rattle.cfn_app.specs.Loading.{ReadsAs, Unread}
use Rattle.cfn_app.specs.Runs.Listing.{IsComplete, PromisesList, Lists, ListsBest, list_status, status_when_complete}
use Rattle.cfn_app.specs.Runs.Listing as listing

-- a tree without open leaves has the threshold as its bound
bound_closed : (P : Network) (history : List Event) (tree : ListTree) (k : ℕ) → open_leaves tree ≡ 0 → bound P history tree k ≡ k
bound_closed P history (Open block) k none = absurd (omega arith)
bound_closed P history (Closed block) k none = refl
bound_closed P history (Listed block j) k none = refl
bound_closed P history (Split block d first second) k none =
    let l = bound_closed P (Took d ∷ after block history) first k (omega arith) in
    let r = bound_closed P (Refused d ∷ after block history) second k (omega arith) in
    omega (arith, l, r)

no_assignment : (values : List ℕ) → IsNotIn [] values
no_assignment values j there same = omega arith

module _ (P : Network) (ask : KBestRequest) (spent : ℕ) (c : ListCertificate) (word : ListWord) (network : IsNetwork P) (listed : IsListOf P ask.count spent c)
    (cause : HasListCause ask.budget (is_some ask.seconds) spent (open_leaves c.tree) word) where
  bound_whole : word ≡ words.Complete → c.lower ≡ threshold_of P.upper c.count c.list
  bound_whole done = listed.lower ∙ bound_closed P [] c.tree (threshold c) (cause.complete.0 done) ∙ ap (λ u. threshold_of u c.count c.list) listed.good.upper

  pub promised : 1 ≤ ask.count → spent ≤ ask.budget → Spells c (spelling c) → OthersCostMore → Cheapest → Fewer → PromisesList P ask spent c word
  promised some within spells others_law cheapest_law fewer_law = record {
    network = network;
    good = listed.good;
    spells = spells;
    asked = listed.asked_is;
    lower = listed.lower;
    below = listed.below;
    strict = listed.strict;
    within = within;
    expanded = listed.expanded;
    counted = listed.counted;
    cause = cause;
    others = (λ values fits other. others_law P c values network listed.good fits other);
    complete = (λ done. record {
      lower = bound_whole done;
      cheapest = (λ values j fits other there. cheapest_law P c values j network listed.good (bound_whole done) fits other there);
      fewer = (λ few values fits other. fewer_law P c values network listed.good (bound_whole done) few fits other);
    });
    none_below = (λ done empty values fits.
        let none : length c.list ≡ 0 = ap length empty in
        fewer_law P c values network listed.good (bound_whole done) (omega (arith, none, listed.asked_is, some)) fits (subst (λ list. IsNotIn list values) (sym empty) (no_assignment values)));
  }

-- a search behind a file that was opened
pub listed_behind : {T E : Type 0} (P : Network) (ask : KBestRequest) (old middle new : Outside) (opened : Result T E) (status : Status) (spent : ℕ) (c : ListCertificate) (word : ListWord) → is_err opened ≡ false → middle ≡ desk.after (desk.Open ask.certificate (is_ok opened)) old →
    PromisesList P ask spent c word → Outputs (spelling c) (list_report c word) (list_status word c.list) middle new status → Lists P ask old new status
listed_behind P ask old middle new (Ok x) status spent c word fine at promise out =
    listing.listed spent c word promise (subst (λ o. Outputs (spelling c) (list_report c word) (list_status word c.list) o new status) at out)
listed_behind P ask old middle new (Err e) status spent c word fine at promise out = absurd (let no : true ≡ false = fine in cc)

module _ (old new : Outside) (status : Status) where
  -- a network's cheapest assignments were to be listed
  pub lists_unread : (middle : Outside) (ask : KBestRequest) (bytes : List ℕ) → HasFile old ask.file bytes → middle ≡ desk.after (Load ask.file (Bytes bytes)) old → new.files ≡ middle.files → Unread ask.format bytes middle.calls new.calls status → ListsBest ask old new status
  lists_unread middle ask bytes has at same unread =
      listing.unread bytes has (same ∙ ap (λ o. o.files) at) (subst (λ (cs : List Call). Unread ask.format bytes cs new.calls status) (ap (λ o. o.calls) at) unread)

  pub lists_read : (middle last : Outside) (ask : KBestRequest) (bytes : List ℕ) (P : Network) → HasFile old ask.file bytes → middle ≡ desk.after (Load ask.file (Bytes bytes)) old → ReadsAs ask.format bytes P → last ≡ middle → Lists P ask last new status → ListsBest ask old new status
  lists_read middle last ask bytes P has at reads same lists =
      listing.read bytes P has reads (subst (λ o. Lists P ask o new status) (same ∙ at) lists)
