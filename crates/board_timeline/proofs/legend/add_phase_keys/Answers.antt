use Rattle.std.proofs.Common.{codes}
use Rattle.std.proofs.lemmas.Result.{on_ok_weaker}
use Rattle.board_timeline.specs.declared.shape.Look.{Look}
use Rattle.board_timeline.proofs.Parts.{three_parts}
use Rattle.board_timeline.specs.Legend.{key}
use Rattle.board_timeline.proofs.legend.add_phase_keys.Goals as goal

pub returns : goal.returns
returns c =
    on_ok_weaker c.add_key-3.result (three_parts c.args.canvas.now c.add_key.new.canvas c.add_key-2.new.canvas c.add_key-3.new.canvas
    (key 12 8 Look.Waiting (codes "waiting for its group")) (key 230 8 Look.Admitted (codes "admitted")) (key 360 8 Look.Going (codes "going, with a worker"))
    c.in_ok-add_key.ensures c.in_ok-add_key-2.ensures) c.add_key-3.ensures
