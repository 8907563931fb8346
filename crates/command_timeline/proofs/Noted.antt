-- A list whose entry is refused stops on that entry's line, where the plan in play was new.
use Rattle.std.proofs.Common.{◌≡◌, ℕ, List, subst}
use Rattle.status_table.specs.Words.{Board, Entry, Plan, Play, StopsAt, new_board, new_play}
use Rattle.status_table.specs.declared.fault.EventFault.{EventFault}
use Rattle.command_io.proofs.Stopped as entries
use Rattle.command_io.specs.Records.{IsStopped, stop_error}

pub stopped : (made : Play) (p : Plan) (es : List Entry) (i : ℕ) (f : EventFault) → made ≡ new_play p
    → ((b : Board) × StopsAt made.plan made.board es i f b) → IsStopped p es (stop_error i f)
stopped made p es i f new stop =
    let from : StopsAt p (new_board p) es i f stop.0 = subst (λ (play : Play). StopsAt play.plan play.board es i f stop.0) new stop.1 in
    entries.stopped p es i f (λ named. (stop.0, from))
