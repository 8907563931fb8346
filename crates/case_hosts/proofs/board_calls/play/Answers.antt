use denote.Param.Send.{sendable}
use Rattle.worker_pool.proofs.Crosses.{flat_board_crosses}
use Rattle.case_hosts.proofs.board_calls.play.Goals as goal

pub play_aside-requires-send-T : goal.play_aside-requires-send-T
play_aside-requires-send-T g c κs within = search (flat_board_crosses, sendable) depth 60 fits 20000
