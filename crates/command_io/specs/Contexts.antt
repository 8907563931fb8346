-- The contexts that a file gives: a JSON object whose members named exactly as a context are maps. Its other members
-- are passed over.
use Rattle.std.specs.Prelude.{◌≡◌, ℕ, Bool, if◌then◌else◌, Option, Some, None, Result, Ok, Err, List, [], ◌∷◌, codes}
use Rattle.std.specs.List.{list_any}
use Rattle.std.specs.Str.{bytes_eq}
use Rattle.status_table.specs.Words.{Context, Contexts, Plain, context_name, is_within, json_read, value_of, with_pair}
use Rattle.serde_json.specs.Data.{Data, null, boolean, number, string, array, object, Members, no_members, member}
use Rattle.expr_reader.specs.declared.tree.Context.TheVariants.{Github, Env, Vars, Job, Jobs, Steps, Runner, Secrets, Strategy, Matrix, Needs, Inputs}
use Rattle.command_io.specs.declared.contexts.ContextsFault.{ContextsFault}
use Rattle.command_io.specs.declared.contexts.ContextsFault.TheVariants.{NotJson, NotWhole, WrongShape}
use Rattle.command_io.specs.declared.contexts.Unread.{Unread}
use Rattle.command_io.specs.declared.contexts.Unread.TheVariants.{Fault, Memory}

-- The name of a fault of a file of contexts, as the program prints it.
abbrev pub contexts_fault_name : ContextsFault → List ℕ
contexts_fault_name NotJson = codes "NotJson"
contexts_fault_name NotWhole = codes "NotWhole"
contexts_fault_name WrongShape = codes "WrongShape"

-- Every context.
abbrev pub every_context : List Context
every_context = Github ∷ Env ∷ Vars ∷ Job ∷ Jobs ∷ Steps ∷ Runner ∷ Secrets ∷ Strategy ∷ Matrix ∷ Needs ∷ Inputs ∷ []

-- The key is exactly the name of a context.
abbrev pub is_context : List ℕ → Bool
is_context key = list_any (λ c. bytes_eq key (context_name c)) every_context

-- A value whose properties nest at most 100 deep. A number that is not whole, or is out of range, makes it none.
abbrev pub within_depth : Option Plain → Result Plain ContextsFault
within_depth None = Err NotWhole
within_depth (Some v) = if is_within 101 v then Ok v else Err WrongShape

-- The map of a context.
abbrev pub context_of : Data → Result Plain ContextsFault
context_of null = Err WrongShape
context_of (boolean b) = Err WrongShape
context_of (number n) = Err WrongShape
context_of (string bytes) = Err WrongShape
context_of (array ds) = Err WrongShape
context_of (object ms) = within_depth (value_of (object ms))

-- What follows the map of a context, unless it is a fault.
abbrev pub then_on : Result Plain ContextsFault → (Plain → Result Contexts ContextsFault) → Result Contexts ContextsFault
then_on (Ok v) next = next v
then_on (Err fault) next = Err fault

-- The contexts so far with those of the members; the first fault stands.
abbrev pub contexts_with : Contexts → Members → Result Contexts ContextsFault
contexts_with contexts no_members = Ok contexts
contexts_with contexts (member key d ms) =
    if is_context key
    then then_on (context_of d) (λ v. contexts_with (with_pair key v contexts) ms)
    else contexts_with contexts ms

-- The contexts of a document.
abbrev pub document_contexts : Data → Result Contexts ContextsFault
document_contexts null = Err WrongShape
document_contexts (boolean b) = Err WrongShape
document_contexts (number n) = Err WrongShape
document_contexts (string bytes) = Err WrongShape
document_contexts (array ds) = Err WrongShape
document_contexts (object ms) = contexts_with [] ms

-- The contexts of bytes that are JSON, or not.
abbrev pub contexts_read : Option Data → Result Contexts ContextsFault
contexts_read None = Err NotJson
contexts_read (Some d) = document_contexts d

-- The contexts of a file.
abbrev pub file_contexts : List ℕ → Result Contexts ContextsFault
file_contexts bytes = contexts_read (json_read bytes)

-- What was read is the meaning, or the fault is; want of memory says nothing.
abbrev pub Gives : {X A : Type 0} → (X → A) → Result X Unread → Result A ContextsFault → Type 0
Gives seen (Ok x) meaning = meaning ≡ Ok (seen x)
Gives seen (Err (Fault fault)) meaning = meaning ≡ Err fault
Gives seen (Err Memory) meaning = Unit {0}
