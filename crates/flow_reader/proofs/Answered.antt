-- What is answered of bytes, from what is read of their JSON.
use Rattle.std.proofs.Common.{◌≡◌, ◌<◌, ℕ, zero, suc, List, [], ◌∷◌, length, get_or, Some, Ok, Err, refl, sym, arith, true≢false}
use Rattle.std.specs.List.{Contains}
use Rattle.flow_reader.specs.Checked.{Checked, Stands}
use Rattle.flow_reader.specs.Load.{IsFaultIn, Tells}
use Rattle.flow_reader.specs.declared.fault.FlowFault.{FlowFault}
use Rattle.flow_reader.specs.declared.fault.FlowFault.TheVariants.{NotJson, NotWhole, Missing, WrongShape, BadId, LeftOut, UnknownShell, Memory}

-- what is not the first stands among the others
not_first : (g : FlowFault) (fs : List FlowFault) (f : FlowFault) (k : ℕ) → k < length (g ∷ fs) → get_or (g ∷ fs) k f ≡ f → (g ≡ f → ⊥) → Contains fs f
not_first g fs f zero w e other = absurd (other e)
not_first g fs f (suc k) w e other = (k, omega arith, e)

-- a fault that is not want of memory is one of those in the part
one_of : {A : Type 0} (f : FlowFault) (m : Checked A) → (Memory ≡ f → ⊥) → Stands f m → IsFaultIn f (Some m)
unfolding Stands
one_of f (Ok a) other h = let none : Contains [] f = not_first Memory [] f h.1.0 h.1.1 h.1.2 other in absurd (omega (arith, none.1))
one_of f (Err fs) other h = record { faults = fs; same = refl; one = not_first Memory fs f h.1.0 h.1.1 h.1.2 other }

no_json : {A : Type 0} (m : Checked A) → Stands NotJson m → ⊥
unfolding Stands
no_json (Ok a) h = true≢false (sym h.0)
no_json (Err fs) h = true≢false (sym h.0)

pub tells_fault : {A : Type 0} (f : FlowFault) (m : Checked A) → Stands f m → Tells {A = A} (Err f) (Some m)
tells_fault NotJson m h = absurd (no_json m h)
tells_fault NotWhole m h = one_of NotWhole m (λ e. cc) h
tells_fault (Missing key) m h = one_of (Missing key) m (λ e. cc) h
tells_fault (WrongShape path) m h = one_of (WrongShape path) m (λ e. cc) h
tells_fault (BadId name) m h = one_of (BadId name) m (λ e. cc) h
tells_fault (LeftOut key) m h = one_of (LeftOut key) m (λ e. cc) h
tells_fault UnknownShell m h = one_of UnknownShell m (λ e. cc) h
tells_fault Memory m h = tt
