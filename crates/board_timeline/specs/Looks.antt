-- The classes of bars and labels, by which the style gives them their colours.
use Rattle.std.specs.Prelude.{ℕ, List, codes}
use Rattle.board_timeline.specs.declared.shape.Font.{Font}
use Rattle.board_timeline.specs.declared.shape.Look.{Look}

abbrev pub look_class : Look → List ℕ
look_class Look.Lane = codes "lane"
look_class Look.Line = codes "line"
look_class Look.Waiting = codes "waiting"
look_class Look.Admitted = codes "admitted"
look_class Look.Going = codes "going"
look_class Look.Calling = codes "calling"
look_class Look.Success = codes "success"
look_class Look.Failure = codes "failure"
look_class Look.Passed = codes "passed"
look_class Look.Cancelled = codes "cancelled"
look_class Look.Skipped = codes "skipped"
look_class Look.Told = codes "told"
look_class Look.Displaced = codes "displaced"

abbrev pub font_class : Font → List ℕ
font_class Font.Run = codes "run"
font_class Font.Job = codes "job"
font_class Font.Leg = codes "leg"
font_class Font.Note = codes "note"
