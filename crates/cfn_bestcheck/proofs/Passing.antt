-- One line more: it is right and leads on, or it is the fault.
use Rattle.std.proofs.Common.{◌≡◌, ℕ, ◌+◌, List, [], ◌∷◌, ◌++◌, refl, sym, ap, subst, ◌∙◌, arith, append_assoc, append-nil, length-append}
use Rattle.std.specs.Prelude.{Option, Some, None}
use Rattle.cfn_model.specs.Network.{Network}
use Rattle.cfn_fault.specs.declared.kind.FaultKind.TheVariants as kinds
use Rattle.cfn_best.specs.declared.kind.ListFault.{ListFault}
use Rattle.cfn_best.specs.declared.kind.ListFault.TheVariants.{Certificate}
use Rattle.cfn_best.specs.Lines.{ListLine, bytes_of, text_of, Claim, State, AtHeading, AtOver, Follows}
use Rattle.cfn_best.specs.Fault.{LinePasses, Passes, AllPass, MayCome, Fault, ByGrammar, ByLine}
use Rattle.cfn_best.proofs.CallerLemmas.{same_line}
use Rattle.cfn_bestcheck.specs.Position.{Position, IsRead, Tells, At}
use Rattle.cfn_bestcheck.specs.Checking as checking
use Rattle.cfn_bestcheck.specs.Checking.{IsRefused}

text_append : (ls : List ListLine) (l : ListLine) → text_of (ls ++ l ∷ []) ≡ text_of ls ++ bytes_of l
text_append [] l = append-nil (bytes_of l)
text_append (m ∷ ls) l = ap (λ r. bytes_of m ++ r) (text_append ls l) ∙ sym (append_assoc (bytes_of m) (text_of ls) (bytes_of l))

pass_append : (P : Network) (s t u : State) (ls : List ListLine) (l : ListLine) → AllPass P s ls t → Passes P t l u → AllPass P s (ls ++ l ∷ []) u
pass_append P s t u [] l run passes = (u, subst (λ x. Passes P x l u) (sym run) passes, refl)
pass_append P s t u (m ∷ ls) l run passes = (run.0, run.1, pass_append P run.0 t u ls l run.2 passes)

-- nothing was read
pub at_start : (P : Network) (bytes : List ℕ) → At P (record { text = bytes; rest = bytes; count = 0 }) AtHeading
at_start P bytes = record { lines = []; count = refl; text = refl; right = refl }

-- a line that is right
pub at_more : (P : Network) (old new : Position) (s t : State) (o : Option ListLine) (l : ListLine) → At P old s → Tells old new o → o ≡ Some l → Follows P s l t → LinePasses P s l → At P new t
at_more P old new s t o l at tells is follows right =
    let read : IsRead old new l = subst (Tells old new) is tells in
    record {
      lines = at.lines ++ l ∷ [];
      count = length-append at.lines (l ∷ []) ∙ omega (arith, at.count, read.count);
      text =
          read.text ∙ at.text ∙ ap (λ x. text_of at.lines ++ x) read.rest ∙ sym (append_assoc (text_of at.lines) (bytes_of l) new.rest)
          ∙ ap (λ x. x ++ new.rest) (sym (text_append at.lines l));
      right = pass_append P AtHeading s t at.lines l at.right (record { spelled = read.spelled; follows = follows; right = right });
    }

-- a line that is wrong, or no line that may come
abbrev pub IsOver : State → Type 0
IsOver s = (claim : Claim) × (least : ℕ) × (s ≡ AtOver claim least)

pub refused : (P : Network) (old new : Position) (s : State) (o : Option ListLine) (kind : ListFault) → At P old s → (IsOver s → ⊥) → Tells old new o → IsRefused P s o kind → Fault P old.text (old.count + 1) kind
refused P old new s o kind at more tells (checking.ByGrammar is never) = ByGrammar old.rest old.count s at (record { line = by_line o tells never; over = λ claim least e rest. more (claim, least, e) }) refl is
  where
    by_line : (o : Option ListLine) → Tells old new o → ((its : ListLine) (t : State) → o ≡ Some its → Follows P s its t → ⊥) → (l : ListLine) (behind : List ℕ) → MayCome P s l → old.rest ≡ bytes_of l ++ behind → ⊥
    by_line None tells never l behind may e = tells l behind may.0 e
    by_line (Some its) read never l behind may e =
        let same = same_line its l new.rest behind read.spelled may.0 (sym read.rest ∙ e) in
        never its may.1 refl (subst (λ x. Follows P s x may.1) (sym same.line) may.2)
refused P old new s o kind at more tells (checking.ByLine its t is follows fails) =
    let read : IsRead old new its = subst (Tells old new) is tells in
    ByLine old.rest new.rest old.count s its at (read.spelled, t, follows) read.rest fails refl

-- bytes behind the end
pub behind_end : (P : Network) (r : Position) (claim : Claim) (least : ℕ) → At P r (AtOver claim least) → (r.rest ≡ [] → ⊥) → Fault P r.text (r.count + 1) (Certificate kinds.Text)
behind_end P r claim least at some = ByGrammar r.rest r.count (AtOver claim least) at (record { line = λ l more may e. no_line l may.1 may.2; over = λ claim least e rest. some rest }) refl refl
  where
    no_line : (l : ListLine) (t : State) → Follows P (AtOver claim least) l t → ⊥
    no_line l t follows = elim follows [ ]
