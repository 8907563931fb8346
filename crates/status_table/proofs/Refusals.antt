-- Refusals that are the row's, and what the table accepts, which is refused for want of memory alone.
use Rattle.std.proofs.Common.{◌≡◌, true, false, Err, ap, sym, refl, ◌∙◌}
use Rattle.std.proofs.lemmas.Bool.{true≢false}
use Rattle.status_table.specs.Words.{Refuses, Row, is_accepted, is_memory}
use Rattle.status_table.specs.declared.fault.EventFault.{EventFault}

no_refusal : (r : Row) (f : EventFault) → is_accepted r ≡ true → r ≡ Err f → ⊥
no_refusal r f held is = true≢false (sym held ∙ ap is_accepted is)

-- what the table accepts is refused for want of memory alone
pub only_memory : (r : Row) (f : EventFault) → is_accepted r ≡ true → Refuses r f → f ≡ EventFault.Memory
only_memory r EventFault.NoSuch held h = absurd (no_refusal r EventFault.NoSuch held h)
only_memory r EventFault.WrongState held h = absurd (no_refusal r EventFault.WrongState held h)
only_memory r EventFault.OtherWorker held h = absurd (no_refusal r EventFault.OtherWorker held h)
only_memory r EventFault.NeedsOpen held h = absurd (no_refusal r EventFault.NeedsOpen held h)
only_memory r EventFault.SlotsFull held h = absurd (no_refusal r EventFault.SlotsFull held h)
only_memory r EventFault.Stopping held h = absurd (no_refusal r EventFault.Stopping held h)
only_memory r EventFault.NotStopping held h = absurd (no_refusal r EventFault.NotStopping held h)
only_memory r EventFault.StepsLeft held h = absurd (no_refusal r EventFault.StepsLeft held h)
only_memory r EventFault.BadAnswer held h = absurd (no_refusal r EventFault.BadAnswer held h)
only_memory r EventFault.Memory held h = refl

-- any other refusal is the row's
pub refused : (r : Row) (f : EventFault) → is_memory f ≡ false → Refuses r f → r ≡ Err f
refused r EventFault.Memory other h = absurd (true≢false other)
refused r f other h = h
