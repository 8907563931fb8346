-- How the programs of calls are started, whatever a call asks for.
use Rattle.std.proofs.Common.{◌≡◌, ℕ, List, Option, Some, inl, inr, ap, sym, ◌∙◌}
use Rattle.status_table.specs.Words.{CallWork, Shell, StepCall}
use Rattle.flow_commands.specs.PairFiles.{Pair}
use Rattle.flow_model.specs.declared.reply.CallWork.TheVariants.{Script, Uses}
use Rattle.step_host.specs.Program.{AsksScript, IsStartedBy, AsksStub, Launches, other_shell, script_launch, stub_launch}
use Rattle.step_host.specs.declared.launch.Launch.{Launch}

pub script_by : (work : List ℕ) (stubs : List Pair) (call : StepCall) (asked : CallWork) (shell : Shell) (dir : Option (List ℕ)) (launch : Launch)
    → IsStartedBy asked shell dir → launch ≡ script_launch work call shell dir → Launches work stubs call asked launch
script_by work stubs call (Script text named folder) shell dir launch by is = (shell, by.0, is ∙ ap (script_launch work call shell) by.1)
script_by work stubs call (Uses uses given) shell dir launch by is = absurd by

pub first_by : (asked : CallWork) (shell : Shell) (dir : Option (List ℕ)) → AsksScript asked shell dir → IsStartedBy asked shell dir
first_by (Script text named folder) shell dir is = (inl is.0, is.1)
first_by (Uses uses given) shell dir is = absurd is

pub other_by : (asked : CallWork) (shell other : Shell) (dir : Option (List ℕ)) → AsksScript asked shell dir → other_shell shell ≡ Some other
    → IsStartedBy asked other dir
other_by (Script text named folder) shell other dir is stands = (inr (ap other_shell (sym is.0) ∙ stands), is.1)
other_by (Uses uses given) shell other dir is stands = absurd is

pub stub_by : (work : List ℕ) (stubs : List Pair) (call : StepCall) (asked : CallWork) (program : List ℕ) (given : List Pair) (launch : Launch)
    → AsksStub stubs asked program given → launch ≡ stub_launch work call program given → Launches work stubs call asked launch
stub_by work stubs call (Script text named folder) program given launch is made = absurd is
stub_by work stubs call (Uses uses inputs) program given launch is made = (program, is.0, made ∙ ap (stub_launch work call program) is.1)
