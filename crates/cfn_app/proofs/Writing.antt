-- A run that writes a file and then says a text: the count of failed calls, whether a file is being written at the end,
-- and what stands under the file's name.
use Rattle.std.proofs.Common.{◌≡◌, ℕ, suc, ◌<◌, true, List, [], ◌∷◌, refl, sym, ap, ◌∙◌, subst, arith}
use Rattle.cfn_desk.specs.Outside.{Outside, Call, Open, Writing, IsIdle, Stored, faults, puts, written}
use Rattle.cfn_desk.proofs.CallerLemmas.{written-puts, faults-puts}
use Rattle.cfn_app.specs.declared.status.Status.{Status}
use Rattle.cfn_app.specs.Endings.{Wrote, NotWritten, Outputs}
use Rattle.cfn_app.specs.Endings as endings
use Rattle.cfn_app.specs.Saying.{Counts}
use Rattle.cfn_app.proofs.Counting.{counted, ends_idle, put_count}

pub stored_at : (old new : Outside) (name text : List ℕ) (calls : List Call) (middle : Outside) → new.files ≡ middle.files → Stored old.files (written (puts text (Open name true ∷ calls))) middle.files → Stored old.files (Writing name text) new.files
stored_at old new name text calls middle same stored =
    subst (λ now. Stored old.files (Writing name text) now) (sym same)
    (subst (λ file. Stored old.files file middle.files) (written-puts text (Open name true ∷ calls) name [] refl) stored)

pub not_written_counts : (before middle : Outside) (text : List ℕ) → NotWritten text before middle → faults before.calls < faults middle.calls
not_written_counts before middle text (endings.dropped cut part is) =
    let more : faults cut ≡ suc (faults before.calls) = put_count before.calls text cut part in
    let at : faults middle.calls ≡ faults cut = ap (λ o. faults o.calls) is in
    omega (arith, more, at)
not_written_counts before middle text (endings.unclosed calls stored) =
    let at : faults middle.calls ≡ suc (faults (puts text before.calls)) = ap faults calls in
    let same = faults-puts text before.calls in
    omega (arith, at, same)

pub not_written_idle : (before middle : Outside) (text : List ℕ) → NotWritten text before middle → IsIdle middle.calls
not_written_idle before middle text (endings.dropped cut part is) = ap (λ o. written o.calls) is
not_written_idle before middle text (endings.unclosed calls stored) = ap written calls

pub wrote_counts : (before middle : Outside) (text : List ℕ) → Wrote text before middle → faults middle.calls ≡ faults before.calls
wrote_counts before middle text wrote = ap faults wrote.calls ∙ faults-puts text before.calls

module _ (before new : Outside) (text said_text : List ℕ) (due status : Status) where
  -- the count is that of the status that is due, where no more calls have failed by then
  pub output_counts : (start : List Call) → faults before.calls ≡ faults start → ((now : List Call) → faults now ≡ faults start → Counts start now due) → Outputs text said_text due before new status → Counts start new.calls status
  output_counts start same counts (endings.unwritten middle not also ends) =
      let more = not_written_counts before middle text not in
      counted start _ new.calls status ends (omega (arith, more, same))
  output_counts start same counts (endings.wrote middle wrote also ends) =
      counted start _ new.calls status ends (counts middle.calls (wrote_counts before middle text wrote ∙ same))

  pub output_idle : Outputs text said_text due before new status → IsIdle new.calls
  output_idle (endings.unwritten middle not also ends) = ends_idle _ new.calls status ends (not_written_idle before middle text not)
  output_idle (endings.wrote middle wrote also ends) = ends_idle _ new.calls status ends (ap written wrote.calls)
