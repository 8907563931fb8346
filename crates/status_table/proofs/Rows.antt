-- Each row of the table leads from a lawful board to a lawful one.
use Rattle.std.proofs.Common.{◌≡◌, ℕ, Option, Some, None, Err, nat_le, refl}
use Rattle.status_table.specs.Words.{Board, Event, HasShape, JobAt, LegAt, Plan, RunAt, job_at, leg_at, run_at}
use Rattle.status_table.specs.declared.fault.EventFault.{EventFault}
use Rattle.status_table.specs.Row as rows
use Rattle.status_table.proofs.Entering.{Leads, leads-if}
use Rattle.status_table.proofs.Found.{run_stands as run_found, leg_stands as leg_found}
use Rattle.status_table.proofs.JobRows.{judge_leads}
use Rattle.status_table.proofs.LegRows.{ask_leads, drop_leads, take_leads, begin_leads, end_leads, finish_leads}
use Rattle.status_table.proofs.RunRows.{open_leads, close_leads, cancel_leads}

pub event_leads : (p : Plan) (b : Board) (worker : ℕ) (e : Event) → HasShape p b → Leads p b (rows.event_row p b worker e)
event_leads p b worker (Event.Open r) shape = found (run_at p b r) refl
  where
    found : (o : Option RunAt) → run_at p b r ≡ o → Leads p b (rows.open_found b r o)
    found None is = tt
    found (Some at) is = open_leads p b r at (run_found p b r at is)
event_leads p b worker (Event.Judge j) shape = found (job_at p b j) refl
  where
    found : (o : Option JobAt) → job_at p b j ≡ o → Leads p b (rows.judge_found b j o)
    found None is = tt
    found (Some at) is = judge_leads p b j at is
event_leads p b worker (Event.Ask l) shape = found (leg_at p b l) refl
  where
    found : (o : Option LegAt) → leg_at p b l ≡ o → Leads p b (rows.ask_found b l o)
    found None is = tt
    found (Some at) is = ask_leads p b l at (leg_found p b l at is)
event_leads p b worker (Event.Drop l) shape = found (leg_at p b l) refl
  where
    found : (o : Option LegAt) → leg_at p b l ≡ o → Leads p b (rows.drop_found b l o)
    found None is = tt
    found (Some at) is = drop_leads p b l at (leg_found p b l at is)
event_leads p b worker (Event.Take l) shape = found (leg_at p b l) refl
  where
    found : (o : Option LegAt) → leg_at p b l ≡ o → Leads p b (rows.take_found b worker o)
    found None is = tt
    found (Some at) is = take_leads p b l at (leg_found p b l at is) worker
event_leads p b worker (Event.Begin l) shape = found (leg_at p b l) refl
  where
    found : (o : Option LegAt) → leg_at p b l ≡ o → Leads p b (rows.begin_found b worker l o)
    found None is = tt
    found (Some at) is = begin_leads p b l at (leg_found p b l at is) worker
event_leads p b worker (Event.End l a) shape = found (leg_at p b l) refl
  where
    found : (o : Option LegAt) → leg_at p b l ≡ o → Leads p b (rows.end_found b worker a o)
    found None is = tt
    found (Some at) is = end_leads p b l at (leg_found p b l at is) shape worker a
event_leads p b worker (Event.Finish l) shape = found (leg_at p b l) refl
  where
    found : (o : Option LegAt) → leg_at p b l ≡ o → Leads p b (rows.finish_found b worker l o)
    found None is = tt
    found (Some at) is = finish_leads p b l at (leg_found p b l at is) worker
event_leads p b worker (Event.Close r) shape = found (run_at p b r) refl
  where
    found : (o : Option RunAt) → run_at p b r ≡ o → Leads p b (rows.close_found b r o)
    found None is = tt
    found (Some at) is = close_leads p b r at (run_found p b r at is)
event_leads p b worker (Event.Cancel r) shape = found (run_at p b r) refl
  where
    found : (o : Option RunAt) → run_at p b r ≡ o → Leads p b (rows.cancel_found b r o)
    found None is = tt
    found (Some at) is = cancel_leads p b r at (run_found p b r at is)

-- an event that is accepted leads from a lawful board to a lawful one
pub row_leads : (p : Plan) (b : Board) (worker : ℕ) (e : Event) → HasShape p b → Leads p b (rows.row p b worker e)
row_leads p b worker e shape = leads-if p b (nat_le worker 15) (rows.event_row p b worker e) (Err EventFault.NoSuch) (λ _. event_leads p b worker e shape) (λ _. tt)
