-- How the program of a step is started, and what its end answers.
use Rattle.std.specs.Prelude.{◌≡◌, ◌≢◌, ◌⊎◌, ℕ, ℤ, pos, ◌-◌, ◌==◌, true, nat_eq, if◌then◌else◌, List, [], ◌∷◌, ◌++◌, length, map, codes, decimal, slice_get, drop, Option, Some, None, Result, Ok, Err}
use Rattle.std.specs.Char.{to_ascii_uppercase}
use Rattle.std.specs.List.{starts_with}
use Rattle.std.specs.Str.{bytes_eq}
use Rattle.std.specs.Process.{command_program, command_args, command_var, command_dir, clears_env}
use Rattle.std.specs.IoError.{error_kind}
use Rattle.std.specs.declared.alloc.AllocError.{AllocError}
use Rattle.std.specs.declared.io.Error.{Error}
use Rattle.std.specs.declared.io.ErrorKind.{ErrorKind}
use Rattle.std.specs.declared.io.ErrorKind.TheVariants.{OutOfMemory}
use Rattle.std.specs.declared.process.command.Command.{Command}
use Rattle.std.specs.declared.alloc.Global.{Global}
use Rattle.status_table.specs.Words.{Answer, CallWork, Shell, StepCall, newline, value_at}
use Rattle.flow_model.specs.declared.event.Answer.TheVariants.{Exit, BadOutput}
use Rattle.flow_model.specs.declared.plan.Shell.TheVariants.{Default, Sh, Bash}
use Rattle.flow_model.specs.declared.reply.CallWork.TheVariants.{Script, Uses}
use Rattle.flow_commands.specs.PairFiles.{Pair, Reading, Refuses, outputs, env, with_pairs}
use Rattle.flow_commands.specs.Replace.{replaced}
use Rattle.flow_commands.specs.Shell.{words}
use Rattle.step_host.specs.declared.launch.Launch.{Launch}
use Rattle.step_host.specs.declared.watch.Refusal.{Refusal}

-- ---- files and folders

-- the file of a step of a leg in the work folder, by how its name ends
abbrev pub step_file : List ℕ → ℕ → ℕ → List ℕ → List ℕ
step_file work leg step ending = work ++ (codes "/step-" ++ (decimal leg ++ (codes "-" ++ (decimal step ++ ending))))

-- the file of its outputs, that of the variables that it sets, that of its script, and that of what it printed
abbrev pub out_file : List ℕ → StepCall → List ℕ
out_file work call = step_file work call.leg call.step (codes ".out")

abbrev pub env_file : List ℕ → StepCall → List ℕ
env_file work call = step_file work call.leg call.step (codes ".env")

abbrev pub script_file : List ℕ → StepCall → List ℕ
script_file work call = step_file work call.leg call.step (codes ".sh")

abbrev pub log_file : List ℕ → ℕ → ℕ → List ℕ
log_file work leg step = step_file work leg step (codes ".log")

-- the names that the files have at first into which it prints: its standard output, and its standard error
abbrev pub print_file : List ℕ → StepCall → List ℕ
print_file work call = step_file work call.leg call.step (codes ".stdout")

abbrev pub err_file : List ℕ → StepCall → List ℕ
err_file work call = step_file work call.leg call.step (codes ".stderr")

-- the folder in which a script starts: the work folder, or the one that is named below it
abbrev pub folder_of : List ℕ → Option (List ℕ) → List ℕ
folder_of work None = work
folder_of work (Some dir) = work ++ (codes "/" ++ dir)

-- ---- variables

-- a space is replaced by `_`
abbrev pub space_by : List ℕ → Option (List ℕ × ℕ)
space_by text = if starts_with nat_eq text (codes " ") then Some (codes "_", 1) else None

-- the variable of an input: `INPUT_` and its name in large letters, with `_` for spaces
abbrev pub input_name : List ℕ → List ℕ
input_name name = codes "INPUT_" ++ map to_ascii_uppercase (replaced space_by name)

-- the variables of inputs
abbrev pub inputs_of : List Pair → List Pair
inputs_of given = map (λ p. (input_name p.0, p.1)) given

-- the variables that tell a program its files: that of its outputs, and that of the variables that it sets
abbrev pub file_variables : List ℕ → StepCall → List Pair
file_variables work call =
    (codes "GITHUB_OUTPUT", out_file work call) ∷ (codes "GITHUB_ENV", env_file work call) ∷ []

-- The variables that a program has over those of the base: those of the call, over them its inputs, and last its files.
abbrev pub variables : List ℕ → StepCall → List Pair → List Pair
variables work call given = with_pairs (with_pairs call.env (inputs_of given)) (file_variables work call)

-- ---- what is started

-- A script is started by the words of a shell, in its folder, without inputs.
abbrev pub script_launch : List ℕ → StepCall → Shell → Option (List ℕ) → Launch
script_launch work call shell dir =
    record {
      words = words shell (script_file work call);
      variables = variables work call [];
      folder = folder_of work dir;
    }

-- A stub is started without arguments, in the work folder, with the inputs that the step gives.
abbrev pub stub_launch : List ℕ → StepCall → List ℕ → List Pair → Launch
stub_launch work call program given =
    record {
      words = program ∷ [];
      variables = variables work call given;
      folder = work;
    }

-- the shell that stands in where the first cannot be started: sh where none was named
abbrev pub other_shell : Shell → Option Shell
other_shell Default = Some Sh
other_shell Sh = None
other_shell Bash = None

-- the first of some words, and the others
abbrev pub first_word : List (List ℕ) → List ℕ
first_word [] = []
first_word (word ∷ others) = word

-- what a command says of a variable after pairs are set, where it said this before: the last of one name stands
abbrev pub said_after : Option (Option (List ℕ)) → List ℕ → List Pair → Option (Option (List ℕ))
said_after said name [] = said
said_after said name (p ∷ pairs) = said_after (if bytes_eq name p.0 then Some (Some p.1) else said) name pairs

-- The command starts the program with these words, with the variables of the base, over them its own, and no others, in
-- its folder.
pub record IsCommandOf (base : List Pair) (launch : Launch) (command : Command Global) : Type 0 where
  pub program : command_program command ≡ first_word launch.words
  pub arguments : command_args command ≡ drop 1 launch.words
  pub alone : clears_env command ≡ true
  pub variables : (name : List ℕ) → command_var command name ≡ said_after (said_after None name base) name launch.variables
  pub folder : command_dir command ≡ Some launch.folder

-- A call asks for a script, by this shell and in this folder, if one is named.
abbrev pub AsksScript : CallWork → Shell → Option (List ℕ) → Type 0
AsksScript (Script text shell dir) named folder = (named ≡ shell) × (folder ≡ dir)
AsksScript (Uses uses given) named folder = ⊥

-- It does, and the script is started by that shell, or by the one that stands in for it.
abbrev pub IsStartedBy : CallWork → Shell → Option (List ℕ) → Type 0
IsStartedBy (Script text shell dir) by folder = ((by ≡ shell) ⊎ (other_shell shell ≡ Some by)) × (folder ≡ dir)
IsStartedBy (Uses uses given) by folder = ⊥

-- It asks for an action, for which this program is named, and gives it these inputs.
abbrev pub AsksStub : List Pair → CallWork → List ℕ → List Pair → Type 0
AsksStub stubs (Script text shell dir) program inputs = ⊥
AsksStub stubs (Uses uses given) program inputs = (value_at uses stubs ≡ Some program) × (inputs ≡ given)

-- How the program of what a call asks for is started: a script by its shell, or by the one that stands in for it; an action by the
-- program that is named for it.
abbrev pub Launches : List ℕ → List Pair → StepCall → CallWork → Launch → Type 0
Launches work stubs call (Script text shell dir) launch =
    (by : Shell) × ((by ≡ shell) ⊎ (other_shell shell ≡ Some by)) × (launch ≡ script_launch work call by dir)
Launches work stubs call (Uses uses given) launch =
    (program : List ℕ) × (value_at uses stubs ≡ Some program) × (launch ≡ stub_launch work call program given)

abbrev pub IsLaunchOf : List ℕ → List Pair → StepCall → Launch → Type 0
IsLaunchOf work stubs call launch = Launches work stubs call call.work launch

-- ---- how it ended

-- what stands between what a program printed on its two streams: a newline, where the first has not ended its last line
abbrev pub between : Option ℕ → List ℕ
between None = []
between (Some b) = if b == newline then [] else newline ∷ []

-- what a program printed: its standard output, and then its standard error
abbrev pub logged : List ℕ → List ℕ → List ℕ
logged out err = out ++ (between (slice_get out (length out - 1)) ++ err)

-- the code of an exit status; without one it counts as 255
abbrev pub code_of : Option ℤ → ℤ
code_of (Some code) = code
code_of None = pos 255

-- the pairs that a file gives, if it is not refused
abbrev pub accepted : Reading → Option (List Pair)
accepted (Ok pairs) = Some pairs
accepted (Err fault) = None

-- the answer of a program that ended with a code, by the outputs that it gave and the variables that it set
abbrev pub answered : ℤ → Option (List Pair) → Option (List Pair) → Answer
answered code None set = BadOutput
answered code (Some given) None = BadOutput
answered code (Some given) (Some set) = Exit code given set

-- The answer of a program, by its exit code and the bytes in the file of its outputs and in that of its variables.
abbrev pub ended : Option ℤ → List ℕ → List ℕ → Answer
ended code given set = answered (code_of code) (accepted (outputs given)) (accepted (env set))

-- Why one of the two files is refused: that of outputs, or else that of variables; where memory ran out, that is told.
abbrev pub IsReason : List ℕ → List ℕ → Refusal → Type 0
IsReason given set (Refusal.NoEnd kind) = ⊥
IsReason given set (Refusal.NoLog kind) = ⊥
IsReason given set (Refusal.NoOutputs kind) = ⊥
IsReason given set (Refusal.NoVariables kind) = ⊥
IsReason given set (Refusal.Outputs fault) = Refuses fault (outputs given)
IsReason given set (Refusal.Variables fault) = (accepted (outputs given) ≢ None) × Refuses fault (env set)
IsReason given set Refusal.Masked = ⊥

-- What a program is answered for is the answer of its files, or is bad output for this reason.
abbrev pub Answers : Answer → List ℕ → List ℕ → Result Answer Refusal → Type 0
Answers answer given set (Ok told) = (told ≡ answer) × (answer ≢ BadOutput)
Answers answer given set (Err why) = (answer ≡ BadOutput) × IsReason given set why

-- A call is answered whose program ended with this code and wrote these outputs: by them and by the bytes of the file of its
-- variables, or as bad output where that file cannot be read.
abbrev pub AnsweredWith : Option ℤ → List ℕ → Result Answer Refusal → Type 0
AnsweredWith code given (Err (Refusal.NoVariables kind)) = Unit {0}
AnsweredWith code given end = (set : List ℕ) × Answers (ended code given set) given set end

-- A call is answered whose program ended with this code: by the bytes of its two files, or as bad output where one cannot be read.
abbrev pub AnsweredBy : Option ℤ → Result Answer Refusal → Type 0
AnsweredBy code (Err (Refusal.NoOutputs kind)) = Unit {0}
AnsweredBy code end = (given : List ℕ) × AnsweredWith code given end

-- ---- what may fail

-- What was done, or the kind of what failed; where memory ran out, that is told apart.
abbrev pub SortsKind : {A : Type 0} → Result A Error → Result (Result A ErrorKind) AllocError → Type 0
SortsKind (Ok found) answer = answer ≡ Ok (Ok found)
SortsKind (Err error) (Ok found) = (found ≡ Err (error_kind error)) × (error_kind error ≢ OutOfMemory)
SortsKind (Err error) (Err fault) = error_kind error ≡ OutOfMemory

-- What was done; where memory ran out, that is told, and anything else that failed is not.
abbrev pub Sorts : {A : Type 0} → Result A Error → Result (Option A) AllocError → Type 0
Sorts (Ok found) answer = answer ≡ Ok (Some found)
Sorts (Err error) (Ok found) = (found ≡ None) × (error_kind error ≢ OutOfMemory)
Sorts (Err error) (Err fault) = error_kind error ≡ OutOfMemory
