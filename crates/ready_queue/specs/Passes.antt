-- What a clause says of a queue and of its passes.
use Rattle.std.specs.Prelude.{◌≡◌, ℕ, List, ◌++◌, length, Option, Result}
use Rattle.crossbeam_queue.specs.Passes.{view, ruled_capacity, IsPassOf as IsSeatOf}
use Rattle.ready_queue.specs.Bags.{SameBag}
use Rattle.ready_queue.specs.Records.{all_put, all_taken}
use Rattle.ready_queue.specs.Steps.{PutTells, TakeTells}
use Rattle.ready_queue.specs.Tally.{counted}
use Rattle.ready_queue.specs.declared.count.Count.{Count}
use Rattle.ready_queue.specs.declared.house.NoRule.{NoRule}
use Rattle.ready_queue.specs.declared.pass.Pass.{Pass}
use Rattle.ready_queue.specs.declared.queue.HouseQueue.{HouseQueue}
use Rattle.ready_queue.specs.declared.record.Record.{Record}

-- A queue with no rule of the house.
abbrev pub TicketQueue : Type 0
TicketQueue = HouseQueue NoRule

-- It is a pass of this queue.
abbrev pub IsPassOf : {H : Type 0} → HouseQueue H → Pass → Type 0
IsPassOf queue pass = IsSeatOf queue.tickets pass.seat

-- The records under a pass.
abbrev pub records_of : Pass → List Record
records_of pass = view pass.seat

-- How many tickets the queue has room for.
abbrev pub capacity_of : {H : Type 0} → HouseQueue H → ℕ
capacity_of queue = ruled_capacity queue.tickets

-- What a put does to its pass.
abbrev pub PutStep : {H : Type 0} → HouseQueue H → Pass → ℕ → Result (Unit {0}) ℕ → Pass → Type 0
PutStep queue old ticket result new = PutTells (capacity_of queue) (records_of old) ticket result (records_of new)

-- What a take does to its pass.
abbrev pub TakeStep : Pass → Option ℕ → Pass → Type 0
TakeStep old result new = TakeTells (records_of old) result (records_of new)

-- The counts of these records: what was put is, as a bag, what was taken and what was left.
pub record IsCountOf (rs : List Record) (count : Count) : Type 0 where
  pub left : List ℕ
  pub bag : SameBag (all_put rs) (all_taken rs ++ left)
  pub put_count : count.put ≡ counted (length (all_put rs))
  pub taken_count : count.taken ≡ counted (length (all_taken rs))
  pub left_count : count.left ≡ counted (length left)
