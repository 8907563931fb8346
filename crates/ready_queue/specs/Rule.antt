-- The rule of the queue: one history of all puts and takes, of which each pass has its own part.
use Rattle.std.specs.Prelude.{◌≡◌, ℕ, ◌+◌, ◌<◌, ◌^◌, List, [], ◌∷◌, length, if◌then◌else◌}
use mathlib.Core.Option.{some}
use lib.ListN.{get_elem?}
use Rattle.ready_queue.specs.Names.{Name, same_name, keeps, under}
use Rattle.ready_queue.specs.Bags.{weigh}
use Rattle.ready_queue.specs.Records.{Each, all_put, all_taken, tickets, keepers}
use Rattle.ready_queue.specs.History.{Put, puts_of}
use Rattle.ready_queue.specs.declared.record.Record.{Record}

-- The history has of the pass itself what its record says, and nothing of a name that is still to be given.
abbrev pub Fits : List (Put × Name) → List Put → Record → Type 0
Fits done queued r =
    (name : Name)
    → 0 < keeps r.name r.splits name
    → (under name (puts_of done queued) ≡ (if same_name name r.name then r.put else []))
    × (under name done ≡ (if same_name name r.name then r.taken else []))

-- The numbers of all passes, added up.
abbrev pub total : (List Record → ℕ) → List (List Record) → ℕ
total f [] = 0
total f (v ∷ vs) = f v + total f vs

-- What holds of the tickets in the queue, oldest first, and of the records under each pass.
pub record KeepsRule (items : List ℕ) (views : List (List Record)) : Type 0 where
  pub done : List (Put × Name)
  pub queued : List Put
  pub held : tickets queued ≡ items
  pub few : length items < 2 ^ 64
  pub once : (name : Name) → total (keepers name) views ≡ 1
  pub bag :
      (weight : ℕ → ℕ)
      → total (λ v. weigh weight (all_put v)) views
      ≡ total (λ v. weigh weight (all_taken v)) views + weigh weight items
  pub fits : (port : ℕ) (v : List Record) → get_elem? views port ≡ some v → Each (Fits done queued) v
