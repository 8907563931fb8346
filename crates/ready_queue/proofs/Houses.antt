-- Each step of a pass keeps the rule of the queue and that of the house.
use Rattle.std.proofs.Common.{ℕ, ◌<◌, ◌^◌, List, [], ◌∷◌, ◌++◌, length, set, sym, subst}
use Rattle.crossbeam_queue.specs.Fifo.{Pushes, Pops, Forks, Merges, Learns}
use Rattle.ready_queue.specs.History.{GoesWith}
use Rattle.ready_queue.specs.House.{StaysAtPut, StaysAtTake, StaysAtSplit, StaysAtJoin, HeldAt}
use Rattle.ready_queue.specs.Rule.{KeepsRule}
use Rattle.ready_queue.specs.Steps.{Puts, Takes, after_split, split_off, joined}
use Rattle.ready_queue.specs.declared.record.Record.{Record}
use Rattle.ready_queue.proofs.Moves.{puts, takes, splits, joins, goes}

module _ (holds : List ℕ → List (List Record) → Type 0) where
  -- Both rules.
  abbrev pub Both : List ℕ → List (List Record) → Type 0
  Both items views = KeepsRule items views × holds items views

  pub house_puts : (n port : ℕ) (v : List Record) (x : ℕ) → 0 < length v → n < 2 ^ 64 → StaysAtPut holds n v x → Pushes Both n port v x (Puts n v x)
  house_puts n port v x live few stays items views room both at =
      let step = puts n port v x live few items views room both.0 at in
      (step.0, (step.1, subst (λ w. holds (items ++ x ∷ []) (set views port w)) (sym step.2.0) (stays items views port room both.1 at)), step.2)

  pub house_takes : (port : ℕ) (v : List Record) → 0 < length v → StaysAtTake holds v → Pops Both port v (Takes v)
  house_takes port v live stays x items views both at =
      let step = takes port v live x items views both.0 at in
      (step.0, (step.1, subst (λ w. holds items (set views port w)) (sym step.2.2) (stays x step.2.0 items views port both.1 at)), step.2)

  pub house_splits : (port : ℕ) (v : List Record) → 0 < length v → StaysAtSplit holds v → Forks Both port v (after_split v) (split_off v)
  house_splits port v live stays items views both at = (splits port v live items views both.0 at, stays port items views both.1 at)

  pub house_joins : (port : ℕ) (v : List Record) (other : ℕ) (w : List Record) → StaysAtJoin holds v w → Merges Both port v other w (joined v w) []
  house_joins port v other w stays items views both at two at' = (joins port v other w items views both.0 at two at', stays port other items views both.1 at two at')

  -- What a pass learns from the rule of the queue alone.
  pub of_queue : (port : ℕ) (v : List Record) (fact : List ℕ → Type 0) → Learns KeepsRule port v fact → Learns Both port v fact
  of_queue port v fact learns items views both at = learns items views both.0 at

  -- What a call that is refused tells.
  pub house_goes : (port : ℕ) (v : List Record) → Learns Both port v (λ items. GoesWith v items × HeldAt holds v items)
  house_goes port v items views both at = (goes port v items views both.0 at, (views, port, at, both.0, both.1))
