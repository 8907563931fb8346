-- A list that is held against what is settled.
use Rattle.std.proofs.Common.{◌≡◌, ℕ, ◌<◌, false, List, length, take, slice_get, Err, refl, sym, ap, ◌∙◌, arith}
use Rattle.std.proofs.lemmas.List.{length-take-le}
use Rattle.std.proofs.lemmas.Option.{slice_get_within}
use Rattle.status_table.specs.Words.{Entry, Plan, after, is_memory}
use Rattle.status_table.proofs.Refusals.{refused}
use Rattle.status_table.specs.declared.fault.EventFault.{EventFault}
use Rattle.step_host.specs.Replay.{IsRefusedAt}
use Rattle.worker_pool.specs.Checks.{ChecksSettled, IsRefusedAfter, IsUnplayed}
use Rattle.worker_pool.specs.declared.fault.PoolFault.{PoolFault}

no_memory : (f : EventFault) → (f ≡ EventFault.Memory → ⊥) → is_memory f ≡ false
no_memory EventFault.NoSuch other = refl
no_memory EventFault.WrongState other = refl
no_memory EventFault.OtherWorker other = refl
no_memory EventFault.NeedsOpen other = refl
no_memory EventFault.SlotsFull other = refl
no_memory EventFault.Stopping other = refl
no_memory EventFault.NotStopping other = refl
no_memory EventFault.StepsLeft other = refl
no_memory EventFault.BadAnswer other = refl
no_memory EventFault.Memory other = absurd (other refl)

-- a list that is refused at a place is refused after the entries before it
pub refused_after : (p : Plan) (es history : List Entry) (place : ℕ) (f : EventFault) → IsRefusedAt p es (place, f) → history ≡ take place es
    → (f ≡ EventFault.Memory → ⊥) → IsRefusedAfter p es history
refused_after p es history place f at is named =
    let stop = at named in
    let inside : place < length es = slice_get_within es place stop.1.1.0 stop.1.1.1 in
    let sized : length history ≡ place = ap length is ∙ length-take-le place es (omega (arith, inside)) in (
      is ∙ ap (λ (n : ℕ). take n es) (sym sized),
      stop.1.1.0,
      ap (λ (n : ℕ). slice_get es n) sized ∙ stop.1.1.1,
      (stop.0, f, ap (after p) is ∙ stop.1.0, refused _ f (no_memory f named) stop.1.1.2),
    )

-- what is told of a list that is refused
pub told_unplayed : (p : Plan) (es : List Entry) (place : ℕ) (f : EventFault) (told : PoolFault) → IsRefusedAt p es (place, f)
    → IsUnplayed es place f told → ChecksSettled p es (Err told)
told_unplayed p es place f PoolFault.Workers at h = h
told_unplayed p es place f (PoolFault.Host l step g history) at h = h
told_unplayed p es place f (PoolFault.Mismatch history) at h = refused_after p es history place f at h.0 h.1
told_unplayed p es place f (PoolFault.Memory history) at h = h
