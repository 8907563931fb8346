-- What each step of a pass does to its numbers.
use Rattle.std.proofs.Common.{◌≡◌, ℕ, ◌+◌, ◌<◌, ◌^◌, List, [], ◌∷◌, ◌++◌, length, refl, sym, ap, subst, arith, length-append}
use Rattle.ready_queue.specs.Names.{Name}
use Rattle.ready_queue.specs.Records.{all_put, all_taken, tickets, IsWhole}
use Rattle.ready_queue.specs.Steps.{with_put, with_taken, joined, Closes}
use Rattle.ready_queue.specs.Tally.{Counts}
use Rattle.ready_queue.specs.Passes.{IsCountOf}
use Rattle.ready_queue.specs.declared.record.Record.{Record}
use Rattle.ready_queue.specs.declared.tally.Tally.{Tally}
use Rattle.ready_queue.proofs.Words.{ahead_is}
use Rattle.ready_queue.proofs.Totals.{put_append, taken_append, tickets_append, weigh_length, length_tickets}
use Rattle.ready_queue.proofs.Whole.{whole_bag, whole_length}

-- The numbers of equal counts.
pub recount : (puts takes puts' takes' : ℕ) (t : Tally) → puts' ≡ puts → takes' ≡ takes → Counts puts takes t → Counts puts' takes' t
recount puts takes puts' takes' t e d h = subst (λ (y : ℕ × ℕ). Counts y.0 y.1 t) (λ i. (sym e i, sym d i)) h

-- ---- the counts of a pass

pub put_live : (v : List Record) (x : ℕ) → 0 < length v → 0 < length (with_put x v)
put_live [] x live = live
put_live (own ∷ rest) x live = live

pub put_puts : (v : List Record) (x : ℕ) → 0 < length v → length (all_put (with_put x v)) ≡ length (all_put v) + 1
put_puts [] x live = absurd (omega arith)
put_puts (own ∷ rest) x live =
    let a = length-append (own.put ++ x ∷ []) (all_put rest) in
    let b = length-append own.put (x ∷ []) in
    let c = length-append own.put (all_put rest) in
    omega arith

pub put_takes : (v : List Record) (x : ℕ) → length (all_taken (with_put x v)) ≡ length (all_taken v)
put_takes [] x = refl
put_takes (own ∷ rest) x = refl

pub take_live : (v : List Record) (x : ℕ) (by : Name) → 0 < length v → 0 < length (with_taken x by v)
take_live [] x by live = live
take_live (own ∷ rest) x by live = live

pub take_puts : (v : List Record) (x : ℕ) (by : Name) → length (all_put (with_taken x by v)) ≡ length (all_put v)
take_puts [] x by = refl
take_puts (own ∷ rest) x by = refl

pub take_takes : (v : List Record) (x : ℕ) (by : Name) → 0 < length v → length (all_taken (with_taken x by v)) ≡ length (all_taken v) + 1
take_takes [] x by live = absurd (omega arith)
take_takes (own ∷ rest) x by live =
    let a = length-append (tickets (own.taken ++ (x, by) ∷ [])) (all_taken rest) in
    let b = ap length (tickets_append own.taken ((x, by) ∷ [])) in
    let c = length-append (tickets own.taken) (x ∷ []) in
    let d = length-append (tickets own.taken) (all_taken rest) in
    omega arith

pub both_live : (v w : List Record) → 0 < length v → 0 < length (joined v w)
both_live v w live = let a = length-append v w in omega arith

pub both_puts : (v w : List Record) → length (all_put (joined v w)) ≡ length (all_put v) + length (all_put w)
both_puts v w =
    let a = put_append (λ _. 1) v w in
    let b = weigh_length (all_put (joined v w)) in
    let c = weigh_length (all_put v) in
    let d = weigh_length (all_put w) in
    omega arith

pub both_takes : (v w : List Record) → length (all_taken (joined v w)) ≡ length (all_taken v) + length (all_taken w)
both_takes v w =
    let a = taken_append (λ _. 1) v w in
    let b = weigh_length (all_taken (joined v w)) in
    let c = weigh_length (all_taken v) in
    let d = weigh_length (all_taken w) in
    omega arith

-- The numbers of a pass count its records, when no other pass is out.
pub closed : (v : List Record) (items : List ℕ) (t : Tally) → Counts (length (all_put v)) (length (all_taken v)) t → IsWhole v → Closes v items → IsCountOf v (record { put = t.put; taken = t.taken; left = t.ahead })
closed v items t counts whole closes =
    let queued = closes.0.0 in
    let moment = closes.0.2 in
    let both = whole_length v queued moment whole in
    let ahead = counts.2 in
    let word = counts.3 in
    let same = length_tickets queued in
    let few : length (tickets queued) < 2 ^ 64 = rw closes.0.1 closes.1 in
    let left : t.ahead ≡ length queued = ahead_is (length (all_taken v)) (length queued) t.ahead word (omega arith) (rw both at ahead) in
    record { left = tickets queued; bag = whole_bag v queued moment whole; put_count = counts.0; taken_count = counts.1; left_count = omega arith }
