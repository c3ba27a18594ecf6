use Rattle.std.proofs.Common.{◌≡◌, ℕ, List, is_some, Ok, Err, Result, sym, ap, ◌∙◌, true≢false, MatchResult}
use Rattle.faults.specs.declared.ViewFault.{ViewFault}
use Rattle.parts.specs.declared.part.Part.{Part}
use Rattle.parts.specs.Parts.{fault_of}
use Rattle.views.specs.View.{view_bytes, view_fault, WellFormed}
use Rattle.views.proofs.Faults.{formed, unfaulted}
use Rattle.views.proofs.view.View.check.Goals as goal

told : {A : Type 0} (bytes : List ℕ) (buffers : List Part) (w : List ℕ) (r : Result A ViewFault) → fault_of r ≡ view_fault bytes buffers w → MatchResult r (λ _. WellFormed bytes buffers w) (λ _. WellFormed bytes buffers w → ⊥)
told bytes buffers w (Ok x) e = formed bytes buffers w (sym e)
told bytes buffers w (Err f) e = λ well. true≢false (ap is_some (e ∙ unfaulted bytes buffers w well))

pub returns-clause-formed : goal.returns-clause-formed
returns-clause-formed c = told c.args.bytes.now c.args.buffers.now (view_bytes c.args.self) c.find_fault.result c.find_fault.ensures
