use Rattle.std.proofs.Common.{refl, ◌≡◌, ◌++◌, ◌∷◌, [], ℕ, false, true, None, Some, get_or, set, sym, arith}
use Rattle.plan_assembler.specs.Layout.{graph_of}
use Rattle.flow_lint.specs.Walks.{behind, first_open, is_left}
use Rattle.flow_lint.proofs.Walks.{absent, again, backward, begins, closes, fewer, free_now, is_empty, longer, new_now, next_is, none_needs_itself, onward}
use Rattle.flow_lint.proofs.cycles.find_cycle.Goals as goal

pub loop-next-init : goal.loop-next-init
loop-next-init c =
    rw (c.new-way.ensures.items, c.in_ok-seen.ensures, c.in_ok-left.ensures, c.in_ok-graph.ensures)
    (begins (graph_of c.args.jobs.now))

pub way_note-requires : goal.way_note-requires
way_note-requires c =
    let open_first : Some c.in-Some.next ≡ first_open c.loop-next.left.items (get_or (graph_of c.args.jobs.now) c.loop-next.place []) =
    rw (c.as_slice.ensures.value, c.in_ok-graph.ensures) at c.in-Some.ensures in
    let found = next_is _ _ _ (sym open_first) in
    let back : Some c.in-Some-behind.ways.now ≡ behind c.in-Some.next (c.loop-next.way.items ++ c.loop-next.place ∷ []) =
    rw (c.as_slice-in-Some.ensures.value, c.in_ok-push-in-Some.ensures.items) at c.in-Some-behind.ensures in
    rw c.as_slice-in-Some-behind.ensures (closes _ _ _ _ _ c.loop-next.invariant.leads found.0 (sym back))

pub loop-next-smaller-in-Some : goal.loop-next-smaller-in-Some
loop-next-smaller-in-Some c =
    let open_first : Some c.in-Some.next ≡ first_open c.loop-next.left.items (get_or (graph_of c.args.jobs.now) c.loop-next.place []) =
    rw (c.as_slice.ensures.value, c.in_ok-graph.ensures) at c.in-Some.ensures in
    let found = next_is _ _ _ (sym open_first) in
    let fresh : None ≡ behind c.in-Some.next (c.loop-next.way.items ++ c.loop-next.place ∷ []) =
    rw (c.as_slice-in-Some.ensures.value, c.in_ok-push-in-Some.ensures.items) at c.in_default.ensures in
    let new : is_left c.loop-next.seen.items c.in-Some.next ≡ false = c.loop-next.invariant.new c.in-Some.next found.1 (absent c.in-Some.next (c.loop-next.way.items ++ c.loop-next.place ∷ []) (sym fresh)) in
    rw c.mark.ensures (omega (arith, longer _ _ _ c.in_ok-push-in-Some.ensures.items, fewer c.loop-next.seen.items c.in-Some.next new))

pub loop-next-preserved-in-Some : goal.loop-next-preserved-in-Some
loop-next-preserved-in-Some c =
    let open_first : Some c.in-Some.next ≡ first_open c.loop-next.left.items (get_or (graph_of c.args.jobs.now) c.loop-next.place []) =
    rw (c.as_slice.ensures.value, c.in_ok-graph.ensures) at c.in-Some.ensures in
    rw (c.mark.ensures, c.in_ok-push-in-Some.ensures.items)
    (onward _ _ _ _ _ _ c.loop-next.invariant (next_is _ _ _ (sym open_first)).0)

pub loop-next-smaller-in-Some-pop : goal.loop-next-smaller-in-Some-pop
loop-next-smaller-in-Some-pop c = omega (arith, longer _ _ _ c.in-Some-pop.ensures.items)

pub loop-next-preserved-in-Some-pop : goal.loop-next-preserved-in-Some-pop
loop-next-preserved-in-Some-pop c =
    let all : None ≡ first_open c.loop-next.left.items (get_or (graph_of c.args.jobs.now) c.loop-next.place []) =
    rw (c.as_slice.ensures.value, c.in_ok-graph.ensures) at c.in-None.ensures in
    rw c.mark-in-None.ensures
    (backward _ _ _ _ _ _ (rw c.in-Some-pop.ensures.items at c.loop-next.invariant) (free_now _ _ _ _ _ c.loop-next.invariant (sym all)))

pub loop-next-smaller : goal.loop-next-smaller
loop-next-smaller c =
    let is_open : is_left (set c.loop-next.left.items c.loop-next.place true) c.in-Some-next_job.other ≡ false =
    rw (c.as_slice-in-None-pop.ensures.value, c.mark-in-None.ensures) at c.in-Some-next_job.ensures in
    let new = new_now _ _ _ _ _ c.in-Some-next_job.other (rw (is_empty c.loop-next.way.items (omega (arith, c.in-None-pop.ensures.cases.0))) at c.loop-next.invariant) is_open refl in
    rw c.mark-in-Some-next_job.ensures
    (omega (arith, c.in-None-pop.ensures.cases.0, c.in-None-pop.ensures.cases.1, fewer c.loop-next.seen.items c.in-Some-next_job.other new))

pub loop-next-preserved : goal.loop-next-preserved
loop-next-preserved c =
    let all : None ≡ first_open c.loop-next.left.items (get_or (graph_of c.args.jobs.now) c.loop-next.place []) =
    rw (c.as_slice.ensures.value, c.in_ok-graph.ensures) at c.in-None.ensures in
    let free = free_now _ _ _ _ _ c.loop-next.invariant (sym all) in
    rw (is_empty c.pop.new.self.items (omega (arith, c.in-None-pop.ensures.cases.1)), c.mark-in-Some-next_job.ensures, c.mark-in-None.ensures)
    (again _ _ _ _ _ (rw (is_empty c.loop-next.way.items (omega (arith, c.in-None-pop.ensures.cases.0))) at c.loop-next.invariant) free)

pub returns-in-None-next_job : goal.returns-in-None-next_job
returns-in-None-next_job c =
    let all : None ≡ first_open c.loop-next.left.items (get_or (graph_of c.args.jobs.now) c.loop-next.place []) =
    rw (c.as_slice.ensures.value, c.in_ok-graph.ensures) at c.in-None.ensures in
    let free = free_now _ _ _ _ _ c.loop-next.invariant (sym all) in
    let left : (other : ℕ) → is_left (set c.loop-next.left.items c.loop-next.place true) other ≡ true =
    rw (c.as_slice-in-None-pop.ensures.value, c.mark-in-None.ensures) at c.in-None-next_job.ensures in
    none_needs_itself _ _ _ _ _ c.loop-next.invariant free left
