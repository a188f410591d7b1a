-- An event is right and the pool goes on, or its line fails.
use Rattle.std.proofs.Common.{◌≡◌, ℕ, suc, ◌+◌, ◌<◌, ◌≤◌, List, [], ◌∷◌, ◌++◌, length, refl, sym, ap, ◌∙◌, subst, arith, append_assoc, append-nil, length-append}
use Rattle.std.specs.Prelude.{Bool, true, false, MatchBool}
use Rattle.std.specs.List.{AllByRecursion}
use Rattle.cfn_model.specs.Network.{Network}
use Rattle.cfn_fault.specs.Lines as lines
use Rattle.cfn_machine.specs.Pool.{View}
use Rattle.cfn_proof.specs.declared.tree.Node.{Node as Branching}
use Rattle.cfn_leaves.specs.Value.{Holding}
use Rattle.cfn_record.specs.declared.kind.RecordFault.{RecordFault}
use Rattle.cfn_record.specs.declared.kind.RecordFault.TheVariants as kinds
use Rattle.cfn_record.specs.Entries.{Entry, Took, Gave, Freed, CalledBack, Swept}
use Rattle.cfn_record.specs.Lines.{RecordLine, Take, Give, Back, Recall, Sweep, bytes_of, text_of, said, IsSpelledLine, lines_of_tree, lines_of_entry, State, AtEvents, AtHeading, LineFollows, TakeFollows, GiveFollows, BackFollows, SweepFollows}
use Rattle.cfn_record.specs.Fault.{IsOutTo, KeepsGrant, PieceKeepsGrant, GivePasses, GiveFails, NotOut, BreaksGrant, SeenAbove, LineFails, HasPassed, AllPass, Fault, ByGrammar, ByLine}
use Rattle.cfn_record.proofs.CallerLemmas.{entry_passes, no_whole_piece, nodes_pass, one_more_passes, one_tree, pass_append, seen_after, seen_is}
use Rattle.cfn_replay.specs.Position.{Position, IsRead}
use Rattle.cfn_replay.specs.Doing.{Does, DoesGive, Never}
use Rattle.cfn_replay.specs.Piece.{IsWholePiece, IsBroken}
use Rattle.cfn_replay.specs.Standing.{Stands}

text_append : (a b : List RecordLine) (rest : List ℕ) → text_of (a ++ b) ++ rest ≡ text_of a ++ (text_of b ++ rest)
text_append [] b rest = refl
text_append (l ∷ a) b rest = append_assoc (bytes_of l) (text_of (a ++ b)) rest ∙ ap (λ x. bytes_of l ++ x) (text_append a b rest) ∙ sym (append_assoc (bytes_of l) (text_of a) (text_of b ++ rest))

module _ (P : Network) (old mid : Position) (h : Holding) (seen : ℕ) (S : Stands P old h seen) where
  -- a line that fails
  fails : (l : RecordLine) (t : State) (kind : RecordFault) → IsRead old mid l → LineFollows (AtEvents []) l t → LineFails P S.front mid.rest l kind → Fault P old.text (old.count + 1) kind
  fails l t kind read follows wrong = ByLine old.rest mid.rest S.front (AtEvents []) l S.at.passed (read.spelled, t, follows) read.rest wrong (ap (λ n. n + 1) S.at.count)

  -- an entry of one line
  one_line : (l : RecordLine) (entry : Entry) (new : Holding) (now : ℕ) → lines_of_entry entry ≡ l ∷ [] → IsRead old mid l → (does : Does P S.pool entry new) → (seen_after entry S.pool.view).seen ≡ now → Stands P mid new now
  one_line l entry new now its read does sees =
      let behind : old.rest ≡ text_of (lines_of_entry entry) ++ mid.rest = read.rest ∙ ap (λ x. x ++ mid.rest) (sym (append-nil (bytes_of l))) ∙ ap (λ ls. text_of ls ++ mid.rest) (sym its) in
      let passed = subst (λ x. HasPassed P old.text x S.front (AtEvents [])) behind S.at.passed in
      let spelled : AllByRecursion IsSpelledLine (lines_of_entry entry) = subst (AllByRecursion IsSpelledLine) (sym its) (read.spelled, tt) in
      let all = entry_passes P old.text mid.rest S.front S.pool does.new entry passed S.comes does.follows spelled in
      record {
        front = S.front ++ lines_of_entry entry;
        at = record {
          count = read.count ∙ ap (λ n. n + 1) S.at.count ∙ sym (length-append S.front (lines_of_entry entry) ∙ ap (λ ls. length S.front + length ls) its);
          passed = subst (λ x. HasPassed P x mid.rest (S.front ++ lines_of_entry entry) (AtEvents [])) (sym read.text) all.0;
        };
        pool = does.new;
        comes = all.1;
        held = does.held;
        seen_is = ap (λ (v : View). v.seen) (seen_is P S.pool does.new entry does.follows) ∙ sees;
      }

  pub take_right : (worker want leaf grant : ℕ) (new : Holding) → IsRead old mid (Take worker want leaf grant) → Does P S.pool (Took worker want leaf grant) new → Stands P mid new seen
  take_right worker want leaf grant new read does = one_line (Take worker want leaf grant) (Took worker want leaf grant) new seen refl read does S.seen_is

  pub take_wrong : (worker want leaf grant : ℕ) → IsRead old mid (Take worker want leaf grant) → Never P S.pool (Took worker want leaf grant) → Fault P old.text (old.count + 1) kinds.Take
  take_wrong worker want leaf grant read never = fails (Take worker want leaf grant) (AtEvents []) kinds.Take read TakeFollows (refl, record { pool = S.pool; comes = S.comes; such = never })

  pub back_right : (worker leaf grant : ℕ) (new : Holding) → IsRead old mid (Back worker leaf grant) → Does P S.pool (Freed worker leaf grant) new → Stands P mid new seen
  back_right worker leaf grant new read does = one_line (Back worker leaf grant) (Freed worker leaf grant) new seen refl read does S.seen_is

  pub back_wrong : (worker leaf grant : ℕ) → IsRead old mid (Back worker leaf grant) → (IsOutTo S.pool worker leaf grant → ⊥) → Fault P old.text (old.count + 1) kinds.Back
  back_wrong worker leaf grant read none = fails (Back worker leaf grant) (AtEvents []) kinds.Back read BackFollows (refl, record { pool = S.pool; comes = S.comes; such = none })

  pub recall_right : (new : Holding) → IsRead old mid Recall → Does P S.pool CalledBack new → Stands P mid new seen
  recall_right new read does = one_line Recall CalledBack new seen refl read does S.seen_is

  pub sweep_right : (saw : ℕ) (new : Holding) → IsRead old mid (Sweep saw) → Does P S.pool (Swept saw) new → Stands P mid new saw
  sweep_right saw new read does = one_line (Sweep saw) (Swept saw) new saw refl read does refl

  pub sweep_wrong : (saw : ℕ) → IsRead old mid (Sweep saw) → seen < saw → Fault P old.text (old.count + 1) kinds.Seen
  sweep_wrong saw read above = fails (Sweep saw) (AtEvents []) kinds.Seen read SweepFollows (refl, record { pool = S.pool; comes = S.comes; such = omega (arith, S.seen_is, above) })

  -- a give
  module _ (worker leaf grant threshold saw : ℕ) (read : IsRead old mid (Give worker leaf grant threshold saw)) where
    give_fails : (kind : RecordFault) → GiveFails P S.front mid.rest worker leaf grant threshold saw kind → Fault P old.text (old.count + 1) kind
    give_fails kind wrong = fails (Give worker leaf grant threshold saw) (AtEvents ([] ∷ [])) kind read GiveFollows wrong

    pub give_not_out : (IsOutTo S.pool worker leaf grant → ⊥) → Fault P old.text (old.count + 1) kinds.Give
    give_not_out none = give_fails kinds.Give (NotOut S.pool S.comes refl none)

    unseen : (IsOutTo S.pool worker leaf grant) → PieceKeepsGrant mid.rest grant → ((saw ≤ threshold) × (saw ≤ seen) → ⊥) → Fault P old.text (old.count + 1) kinds.Seen
    unseen out keeps none = give_fails kinds.Seen (SeenAbove S.pool S.comes refl out keeps (λ sees. none (sees.0, omega (arith, sees.1, S.seen_is))))

    -- its piece is whole
    module _ (r : Position) (nodes : List Branching) (made : ℕ) (p : IsWholePiece mid r nodes made) where
      pub give_breaks : ((1 ≤ made) × (made ≤ grant) → ⊥) → Fault P old.text (old.count + 1) kinds.Give
      give_breaks none = give_fails kinds.Give (BreaksGrant S.pool S.comes refl p.tree (record { spelled = p.spelled; rest = r.rest; text = p.rest }) (λ keeps. none (omega (arith, keeps.0, p.made_is), omega (arith, keeps.1, p.made_is))))

      keeps_grant : (1 ≤ made) → (made ≤ grant) → PieceKeepsGrant mid.rest grant
      keeps_grant some few tree stands =
          let same : tree ≡ p.tree = one_tree tree p.tree stands.rest r.rest stands.spelled p.spelled (sym stands.text ∙ p.rest) in
          subst (KeepsGrant grant) (sym same) (omega (arith, some, p.made_is), omega (arith, few, p.made_is))

      pub whole_unseen : IsOutTo S.pool worker leaf grant → (1 ≤ made) → (made ≤ grant) → ((saw ≤ threshold) × (saw ≤ seen) → ⊥) → Fault P old.text (old.count + 1) kinds.Seen
      whole_unseen out some few none = unseen out (keeps_grant some few) none

      pub give_right : (new : Holding) → DoesGive h worker leaf grant nodes new → (1 ≤ made) → (made ≤ grant) → (saw ≤ threshold) → (saw ≤ seen) → r.text ≡ mid.text → Stands P r new saw
      give_right new gives some few low before same =
          let entry = Gave worker leaf grant threshold saw p.tree in
          let its = lines_of_entry entry in
          let does = gives P S.pool threshold saw p.tree S.held p.is (omega (arith, some, p.made_is), omega (arith, few, p.made_is)) (low, omega (arith, before, S.seen_is)) in
          let behind : old.rest ≡ text_of its ++ r.rest =
          read.rest ∙ ap (λ x. bytes_of (Give worker leaf grant threshold saw) ++ x) p.rest ∙ sym (append_assoc (bytes_of (Give worker leaf grant threshold saw)) (text_of (lines_of_tree p.tree)) r.rest) in
          let passed = subst (λ x. HasPassed P old.text x S.front (AtEvents [])) behind S.at.passed in
          let all = entry_passes P old.text r.rest S.front S.pool does.new entry passed S.comes does.follows (read.spelled, p.spelled) in
          record {
            front = S.front ++ its;
            at = record {
              count = omega (arith, p.many, read.count, S.at.count, length-append S.front its);
              passed = subst (λ x. HasPassed P x r.rest (S.front ++ its) (AtEvents [])) (sym (same ∙ read.text)) all.0;
            };
            pool = does.new;
            comes = all.1;
            held = does.held;
            seen_is = ap (λ (v : View). v.seen) (seen_is P S.pool does.new entry does.follows);
          }

    -- its piece stops
    module _ (line : ℕ) (b : IsBroken mid line) where
      keeps_broken : PieceKeepsGrant mid.rest grant
      keeps_broken tree stands = absurd (no_whole_piece b.ls b.path b.paths b.more tree b.run b.spelled b.none (record { spelled = stands.spelled; rest = stands.rest; text = sym b.rest ∙ stands.text }))

      pub broken_unseen : IsOutTo S.pool worker leaf grant → ((saw ≤ threshold) × (saw ≤ seen) → ⊥) → Fault P old.text (old.count + 1) kinds.Seen
      broken_unseen out none = unseen out keeps_broken none

      pub broken : IsOutTo S.pool worker leaf grant → (saw ≤ threshold) → (saw ≤ seen) → Fault P old.text line kinds.Text
      broken out low before =
          let give = Give worker leaf grant threshold saw in
          let right : GivePasses P S.front mid.rest worker leaf grant threshold saw = record { pool = S.pool; comes = S.comes; out = out; granted = keeps_broken; sees = (low, omega (arith, before, S.seen_is)) } in
          let one = one_more_passes P old.text old.rest mid.rest S.front (AtEvents []) (AtEvents ([] ∷ [])) give S.at.passed (record { spelled = read.spelled; follows = GiveFollows; right = right }) read.rest in
          let front = S.front ++ give ∷ [] in
          let due = AtEvents (b.path ∷ b.paths) in
          let nodes = nodes_pass P b.more front ([] ∷ []) (b.path ∷ b.paths) b.ls b.run b.spelled in
          let all : AllPass P [] AtHeading (front ++ said b.ls) b.more due = pass_append P [] AtHeading (AtEvents ([] ∷ [])) due front (said b.ls) b.more (subst (λ x. AllPass P [] AtHeading front x (AtEvents ([] ∷ []))) b.rest one.right) nodes in
          let text : old.text ≡ text_of (front ++ said b.ls) ++ b.more = one.text ∙ ap (λ x. text_of front ++ x) b.rest ∙ sym (text_append front (said b.ls) b.more) in
          let line_is : line ≡ length (front ++ said b.ls) + 1 = omega (arith, b.line_is, read.count, S.at.count, length-append S.front (give ∷ []), length-append front (said b.ls), said_long b.ls) in
          ByGrammar b.more (front ++ said b.ls) due (record { text = text; right = all }) b.none line_is refl
        where
          said_long : (ls : List lines.Line) → length (said ls) ≡ length ls
          said_long [] = refl
          said_long (l ∷ ls) = ap suc (said_long ls)

-- what a test answers
pub if_so : (A B : Type 0) (b : Bool) → b ≡ true → MatchBool b A B → A
if_so A B true e m = m
if_so A B false e m = absurd cc

pub if_not : (A B : Type 0) (b : Bool) → b ≡ false → MatchBool b A B → B
if_not A B true e m = absurd cc
if_not A B false e m = m
