-- A list that is refused stops on that entry's line, which has a number.
use Rattle.std.proofs.Common.{◌≡◌, ◌≤◌, ◌<◌, ℕ, false, List, length, take, Some, ap, sym, ◌∙◌, arith}
use Rattle.std.proofs.lemmas.Bool.{true≢false}
use Rattle.std.proofs.lemmas.List.{length-take-le}
use Rattle.std.proofs.lemmas.Option.{slice_get_within}
use Rattle.status_table.specs.Words.{Board, Entry, IsPlan, Plan, after, is_memory}
use Rattle.status_table.specs.declared.fault.EventFault.{EventFault}
use Rattle.step_host.specs.Replay.{IsRefusedAt}
use Rattle.command_io.proofs.Stopped.{has_line, stopped}
use Rattle.command_io.specs.Records.{HasLine, IsStopped, stop_error}

no_memory : (f : EventFault) → is_memory f ≡ false → f ≡ EventFault.Memory → ⊥
no_memory f other is = true≢false (sym (ap is_memory is) ∙ other)

pub stopped_settled : (p : Plan) (es : List Entry) (i : ℕ) (f : EventFault) → IsRefusedAt p es (i, f) → IsStopped p es (stop_error i f)
stopped_settled p es i f at = stopped p es i f (λ other. at (no_memory f other))

pub has_settled_line : ((p : Plan) → IsPlan p → (es : List Entry) (b : Board) → after p es ≡ Some b → length es ≤ 2113728)
    → (p : Plan) → IsPlan p → (es : List Entry) (i : ℕ) (f : EventFault) → IsRefusedAt p es (i, f) → HasLine i f
has_settled_line short p rules es i f at other =
    let stop = at (no_memory f other) in
    let inside : i < length es = slice_get_within es i stop.1.1.0 stop.1.1.1 in
    let few : length (take i es) ≤ 2113728 = short p rules (take i es) stop.0 stop.1.0 in
    let same : length (take i es) ≡ i = length-take-le i es (omega (arith, inside)) in
    has_line i f (omega (arith, few, same)) other
