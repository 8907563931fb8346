-- What bytes stand for: a workflow, or contexts, or the faults in them.
use Rattle.std.specs.Prelude.{◌≡◌, ℕ, List, Option, Some, None, option_map, Result, Ok, Err}
use Rattle.std.specs.List.{Contains}
use Rattle.std.specs.Cmp.Lexicographic.{slice_cmp}
use Rattle.std.specs.List.Sorted.{IsStrictlySortedBy}
use Rattle.std.specs.Ordering.{nat_cmp}
use Rattle.serde_json.specs.Data.{Data, Members}
use Rattle.serde_json.specs.Find.{as_object}
use Rattle.flow_model.specs.JsonText.{json_read}
use Rattle.flow_model.specs.declared.flow.Workflow.{Workflow}
use Rattle.flow_model.specs.declared.plan.Roots.{Roots}
use Rattle.flow_reader.specs.Checked.{Checked, keys_in}
use Rattle.flow_reader.specs.Parts.{roots_of}
use Rattle.flow_reader.specs.Workflow.{workflow_of}
use Rattle.flow_reader.specs.declared.fault.FlowFault.{FlowFault}
use Rattle.flow_reader.specs.declared.fault.FlowFault.TheVariants.{NotJson, NotWhole, Missing, WrongShape, BadId, LeftOut, UnknownShell, Memory}

-- the workflow that the bytes of a file stand for, or the faults in it, where they are JSON
abbrev pub flow_read : List ℕ → List ℕ → Option (Checked Workflow)
flow_read path bytes = option_map (workflow_of path) (json_read bytes)

-- the contexts that bytes stand for, or the faults in them, where they are JSON
abbrev pub roots_read : List ℕ → Option (Checked Roots)
roots_read bytes = option_map roots_of (json_read bytes)

-- the bytes are JSON that stands for nothing, and this is one of the faults in it
pub record IsFaultIn {A : Type 0} (fault : FlowFault) (meaning : Option (Checked A)) : Type 0 where
  pub faults : List FlowFault
  pub same : meaning ≡ Some (Err faults)
  pub one : Contains faults fault

-- A reader answers what the bytes stand for; that they are no JSON, exactly where they are none; or one of the faults in
-- them. Memory may run out besides.
abbrev pub Tells : {A : Type 0} → Result A FlowFault → Option (Checked A) → Type 0
Tells (Ok a) meaning = meaning ≡ Some (Ok a)
Tells (Err NotJson) meaning = meaning ≡ None
Tells (Err NotWhole) meaning = IsFaultIn NotWhole meaning
Tells (Err (Missing key)) meaning = IsFaultIn (Missing key) meaning
Tells (Err (WrongShape path)) meaning = IsFaultIn (WrongShape path) meaning
Tells (Err (BadId name)) meaning = IsFaultIn (BadId name) meaning
Tells (Err (LeftOut key)) meaning = IsFaultIn (LeftOut key) meaning
Tells (Err UnknownShell) meaning = IsFaultIn UnknownShell meaning
Tells (Err Memory) meaning = Unit {0}

-- the keys of an object ascend in byte order
abbrev pub MembersAscend : Option Members → Type 0
MembersAscend None = Unit {0}
MembersAscend (Some ms) = IsStrictlySortedBy (slice_cmp nat_cmp) (keys_in ms)

-- the same of what may be missing
abbrev pub KeysAscend : Option Data → Type 0
KeysAscend None = Unit {0}
KeysAscend (Some d) = MembersAscend (as_object d)
