-- Scripts: answers, each listed for a step of a leg.
use Rattle.std.specs.Prelude.{◌≡◌, ◌↔◌, ℕ, true, List, Some, Result, Ok, Err, slice_get}
use Rattle.status_table.specs.Words.{Answer, StepCall, is_well_formed}
use Rattle.step_host.specs.declared.fault.ScriptFault.{ScriptFault}
use Rattle.step_host.specs.declared.fault.ScriptFault.TheVariants.{BadScript, Memory}

-- an answer, after the numbers of the leg and of the step that it is for
abbrev pub Line : Type 0
Line = ℕ × ℕ × Answer

-- The answer is listed for the step of the leg.
abbrev pub IsListed : List Line → ℕ → ℕ → Answer → Type 0
IsListed lines leg step a = (k : ℕ) × (slice_get lines k ≡ Some (leg, step, a))

-- Each answer is well-formed, and no step of a leg is listed twice.
pub record IsScript (lines : List Line) : Type 0 where
  pub well_formed : (k : ℕ) (line : Line) → slice_get lines k ≡ Some line → is_well_formed line.2 ≡ true
  pub once : (i k : ℕ) (one other : Line) → slice_get lines i ≡ Some one → slice_get lines k ≡ Some other → one.0 ≡ other.0 → one.1 ≡ other.1 → i ≡ k

-- The answers that are listed for the step of a call are admitted, and no others.
abbrev pub AdmitsListed : List Line → (StepCall → Answer → Type 0) → Type 0
AdmitsListed lines admits = (call : StepCall) (a : Answer) → admits call a ↔ IsListed lines call.leg call.step a

-- Why no host is made of lines: they are no script, or there was no memory.
abbrev pub Refuses : List Line → ScriptFault → Type 0
Refuses lines BadScript = IsScript lines → ⊥
Refuses lines Memory = Unit {0}

-- A host is made of a script, and admits what is listed there; or it is refused.
abbrev pub MakesScript : {H : Type 0} → (H → StepCall → Answer → Type 0) → List Line → Result H ScriptFault → Type 0
MakesScript admits lines (Ok host) = IsScript lines × AdmitsListed lines (admits host)
MakesScript admits lines (Err fault) = Refuses lines fault
