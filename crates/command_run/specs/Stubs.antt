-- The programs that stand for actions: a JSON object whose members are texts.
use Rattle.std.specs.Prelude.{◌≡◌, ℕ, ◌⊎◌, Option, Some, None, Result, Ok, Err, List, []}
use Rattle.status_table.specs.Words.{json_read, with_pair}
use Rattle.serde_json.specs.Data.{Data, null, boolean, number, string, array, object, Members, no_members, member}
use Rattle.command_io.specs.Files.{Content}
use Rattle.command_io.specs.CommandError.{IsContextsError}
use Rattle.command_io.specs.declared.contexts.ContextsFault.{ContextsFault}
use Rattle.command_io.specs.declared.contexts.ContextsFault.TheVariants.{NotJson, WrongShape}
use Rattle.command_io.specs.declared.error.CommandError.{CommandError}
use Rattle.command_io.specs.declared.error.CommandError.TheVariants.{Memory}
use Rattle.command_run.specs.Environment.{StartsOver}
use Rattle.flow_commands.specs.PairFiles.{Pair}

-- programs, each after the action that it stands for
abbrev pub Stubs : Type 0
Stubs = List (List ℕ × List ℕ)

-- The program that stands for an action.
abbrev pub stub_of : Data → Result (List ℕ) ContextsFault
stub_of null = Err WrongShape
stub_of (boolean b) = Err WrongShape
stub_of (number n) = Err WrongShape
stub_of (string bytes) = Ok bytes
stub_of (array ds) = Err WrongShape
stub_of (object ms) = Err WrongShape

-- What follows a program, unless it is a fault.
abbrev pub then_stub : Result (List ℕ) ContextsFault → (List ℕ → Result Stubs ContextsFault) → Result Stubs ContextsFault
then_stub (Ok program) next = next program
then_stub (Err fault) next = Err fault

-- The stubs so far with those of the members; the first fault stands.
abbrev pub stubs_with : Stubs → Members → Result Stubs ContextsFault
stubs_with stubs no_members = Ok stubs
stubs_with stubs (member key d ms) = then_stub (stub_of d) (λ program. stubs_with (with_pair key program stubs) ms)

-- The stubs of a document.
abbrev pub document_stubs : Data → Result Stubs ContextsFault
document_stubs null = Err WrongShape
document_stubs (boolean b) = Err WrongShape
document_stubs (number n) = Err WrongShape
document_stubs (string bytes) = Err WrongShape
document_stubs (array ds) = Err WrongShape
document_stubs (object ms) = stubs_with [] ms

-- The stubs of bytes that are JSON, or not.
abbrev pub stubs_read : Option Data → Result Stubs ContextsFault
stubs_read None = Err NotJson
stubs_read (Some d) = document_stubs d

-- The stubs of a file.
abbrev pub file_stubs : List ℕ → Result Stubs ContextsFault
file_stubs bytes = stubs_read (json_read bytes)

-- A host starts programs so with the stubs that a file gives, over the variables of an environment.
abbrev pub StartsStubs : (ℕ → Option (List ℕ) → Type 0) → (Stubs → List Pair → Type 0) → Content → Type 0
StartsStubs holds starts file =
    (programs : Stubs) × (file_stubs file.bytes ≡ Ok programs) × StartsOver holds (starts programs)

-- The stubs of a file, or why it gives none; want of memory may be answered besides.
abbrev pub HasStubs : Content → Result Stubs CommandError → Type 0
HasStubs file (Ok stubs) = file_stubs file.bytes ≡ Ok stubs
HasStubs file (Err error) =
    ((fault : ContextsFault) × (file_stubs file.bytes ≡ Err fault) × IsContextsError file.name fault error) ⊎ (error ≡ Memory)
