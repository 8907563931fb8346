use denote.Param.Send.{sendable}
use Rattle.worker_pool.proofs.Crosses.{flat_board_crosses}
use Rattle.worker_pool.proofs.many.play_counted.Goals as goal

pub play_named-requires-send-T : goal.play_named-requires-send-T
play_named-requires-send-T g c κs within = search (flat_board_crosses, sendable) depth 60 fits 20000
