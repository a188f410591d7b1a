use Rattle.std.proofs.Common.{not, ap, refl, arith, lt-ltb, le-ltb}
use Rattle.std.proofs.lemmas.Bool.{and_from, and_left, and_right}
use Rattle.cfn_scan.proofs.Lines.{cell_there, value_there, line_none, line_found}
use Rattle.cfn_scan.proofs.line.Line.least.Goals.{then-entry-self-via-then-entry-self, then-entry-self-via-else-entry-self+then-self-cell}
use Rattle.cfn_scan.proofs.line.Line.least.Goals as goal

pub overflow_mul-cell : goal.overflow_mul-cell
overflow_mul-cell c = let r = c.requires in let t = cell_there r.0 r.1 r.2 r.3 r.4 r.5 c.args.self.now c.args.value r.6 in let l = t.2 in omega (arith, l)

pub overflow_add-cell : goal.overflow_add-cell
overflow_add-cell c = let r = c.requires in let t = cell_there r.0 r.1 r.2 r.3 r.4 r.5 c.args.self.now c.args.value r.6 in let l = t.2 in omega (arith, l)

pub bounds-self-cell : goal.bounds-self-cell
bounds-self-cell c = let r = c.requires in (cell_there r.0 r.1 r.2 r.3 r.4 r.5 c.args.self.now c.args.value r.6).0

pub bounds-self-cell-else-entry-self : goal.bounds-self-cell-else-entry-self
bounds-self-cell-else-entry-self c = let r = c.requires in (cell_there r.0 r.1 r.2 r.3 r.4 r.5 c.args.self.now c.args.value r.6).1

pub bounds-self-value : goal.bounds-self-value
bounds-self-value c = let r = c.requires in value_there r.0 r.1 r.2 r.3 r.4 r.5 c.args.self.now c.args.value r.6

pub returns-then-entry-self : goal.returns-then-entry-self
returns-then-entry-self c = λ P history f i a j along. line_none P history f i a j c.args.self.now c.args.value along (elim c.then-entry-self.branch [
  | then-entry-self-via-then-entry-self w ↦ and_left _ _ (le-ltb _ _ w.if-entry-self.true)
  | then-entry-self-via-else-entry-self+then-self-cell w ↦ and_right _ _ (ap not w.if-self-cell.true)
])

pub returns : goal.returns
returns c = λ P history f i a j along. line_found P history f i a j c.args.self.now c.args.value along _ (and_from _ _ (lt-ltb _ _ c.if-entry-self.false) (ap not c.if-self-cell.false)) refl refl
