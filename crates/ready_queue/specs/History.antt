-- One history of all puts and takes, of which each pass has its own part.
use Rattle.std.specs.Prelude.{◌≡◌, ℕ, List, ◌++◌, map}
use Rattle.ready_queue.specs.Names.{Name, under}
use Rattle.ready_queue.specs.Bags.{SameBag}
use Rattle.ready_queue.specs.Records.{all_put, all_taken, put_by, taken_by, tickets, IsWhole}
use Rattle.ready_queue.specs.declared.record.Record.{Record}

-- A ticket with the name of the pass that put it.
abbrev pub Put : Type 0
Put = ℕ × Name

-- All puts in order: those whose tickets are taken, each beside its taker's name, and those in the queue.
abbrev pub puts_of : List (Put × Name) → List Put → List Put
puts_of done queued = map (λ e. e.0) done ++ queued

-- At one moment, at which these puts were in the queue, the oldest first: with the records of all other passes there is one
-- history, of which each name has its part. What was put is, as a bag, what was taken and what the queue holds.
pub record IsMoment (rs : List Record) (queued : List Put) : Type 0 where
  pub others : List Record
  pub done : List (Put × Name)
  pub whole : IsWhole (rs ++ others)
  pub puts : (name : Name) → put_by name (rs ++ others) ≡ under name (puts_of done queued)
  pub takes : (name : Name) → taken_by name (rs ++ others) ≡ under name done
  pub bag : SameBag (all_put (rs ++ others)) (all_taken (rs ++ others) ++ tickets queued)

-- A moment at which the queue held these tickets.
abbrev pub GoesWith : List Record → List ℕ → Type 0
GoesWith rs items = (queued : List Put) × (tickets queued ≡ items) × IsMoment rs queued
