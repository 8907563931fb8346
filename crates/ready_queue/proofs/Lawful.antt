-- The laws of the definitions.
use Rattle.std.proofs.Common.{ℕ, List, ◌∷◌, ◌++◌, length, Some, None, Ok, Err, sym, ap, subst, arith}
use Rattle.std.specs.Prelude.{◌==◌, if◌then◌else◌}
use Rattle.ready_queue.specs.Names.{under}
use Rattle.ready_queue.specs.Bags.{InOrder}
use Rattle.ready_queue.specs.Records.{all_taken, tickets}
use Rattle.ready_queue.specs.History.{Put}
use Rattle.ready_queue.specs.Laws.{TakenInOrder, NoneTakenTwice, WholePuts, WholeTakes}
use Rattle.ready_queue.proofs.Orders.{in_history}
use Rattle.ready_queue.proofs.Totals.{weigh_append, length_tickets}
use Rattle.ready_queue.proofs.Whole.{whole_length}

pub taken_in_order : TakenInOrder
taken_in_order rs queued moment taker putter =
    let takes = sym (moment.takes taker) in
    let puts = sym (moment.puts putter) in
    subst (λ (y : List Put × List ℕ). InOrder (under putter y.0) y.1) (λ i. (takes i, puts i)) (in_history putter taker moment.done queued)

pub none_taken_twice : NoneTakenTwice
none_taken_twice rs queued moment ticket =
    let once : ℕ → ℕ = λ y. if ticket == y then 1 else 0 in
    let bag = moment.bag once in
    let parts = weigh_append once (all_taken (rs ++ moment.others)) (tickets queued) in
    omega arith

pub whole_puts : WholePuts
whole_puts capacity ticket v w (Ok done) whole told = let sum = whole_length v told.1.0 told.1.2 whole in let room = told.1.1 in omega arith
whole_puts capacity ticket v w (Err back) whole told =
    let held = told.1.1 in
    let sum = whole_length v held.2.0 held.2.2 whole in
    let full = held.1 in
    let same = ap length held.2.1 in
    let len = length_tickets held.2.0 in
    omega arith

pub whole_takes : WholeTakes
whole_takes v w (Some ticket) whole told = let sum = whole_length v ((ticket, told.0) ∷ told.1) told.3 whole in omega arith
whole_takes v w None whole told =
    let held = told.1 in
    let sum = whole_length v held.2.0 held.2.2 whole in
    let empty = held.1 in
    let same = ap length held.2.1 in
    let len = length_tickets held.2.0 in
    omega arith
