-- What `actrun plan` tells: the text of the plan that the workflows' files come to, or why there is none.
use Rattle.std.specs.Prelude.{◌≡◌, ℕ, ◌++◌, codes, List, [], ◌∷◌, String, Result, Ok, Err}
use Rattle.std.specs.declared.alloc.Global.{Global}
use Rattle.status_table.specs.Words.{Plan}
use Rattle.serde_json.specs.Written.{compact_text}
use Rattle.plan_assembler.specs.declared.choice.Choice.{Choice}
use Rattle.plan_documents.specs.Document.{document}
use Rattle.plan_text.specs.Load.{load}
use Rattle.command_io.specs.Files.{File, Content, AreRead}
use Rattle.command_print.specs.Planning.{ComesTo, ComesToNone}
use Rattle.command_io.specs.Stream.{Stream}
use Rattle.command_io.specs.Tell.{Answer, OrMemory, TellsOf, answer_seen}
use Rattle.command_io.specs.declared.error.CommandError.{CommandError}

-- The compact text of a plan's document, and a newline.
abbrev pub plan_line : Plan → List ℕ
plan_line plan = compact_text (document plan) ++ codes "\n"

-- The text is the line of a plan, whose document loads as that plan.
pub record IsPlanLine (plan : Plan) (text : List ℕ) : Type 0 where
  pub line : text ≡ plan_line plan
  pub loads : load (compact_text (document plan)) ≡ Ok plan

-- An answer to the file of contexts and those of the workflows: the line of the plan that they come to, or why there is
-- none.
abbrev pub AnswersPlan : Choice → Content → List Content → Answer → Type 0
AnswersPlan choice contexts flows (Ok text) = (plan : Plan) × ComesTo choice contexts flows plan × IsPlanLine plan text
AnswersPlan choice contexts flows (Err error) = ComesToNone choice contexts flows error

-- An answer to all files in their order, of which the file of contexts is the first.
abbrev pub IsPlanAnswer : Choice → List Content → Answer → Type 0
IsPlanAnswer choice [] answer = ⊥
IsPlanAnswer choice (contexts ∷ flows) answer = AnswersPlan choice contexts flows answer

-- What `plan` leaves: it reads the file of contexts and those of the workflows to their ends, and tells an answer to them.
abbrev pub PlanTells : Choice → File → File → List File → List File → Stream → Stream → Stream → Stream → ℕ → Type 0
PlanTells choice contexts contexts' flows flows' out out' err err' status =
    TellsOf (IsPlanAnswer choice) (AreRead (contexts ∷ flows) (contexts' ∷ flows')) out out' err err' status

-- Files come to one text at most.
abbrev pub OnePlanText : Type 0
OnePlanText =
    (choice : Choice) (contexts : Content) (flows : List Content) (a b : List ℕ)
    → AnswersPlan choice contexts flows (Ok a) → AnswersPlan choice contexts flows (Ok b) → a ≡ b

-- ---- what the code answers on the way; want of memory may always be answered

-- The line of a plan, or why there is none.
abbrev pub GivesPlan : Choice → Content → List Content → Result (String Global) CommandError → Type 0
GivesPlan choice contexts flows result = OrMemory (answer_seen result) (AnswersPlan choice contexts flows (answer_seen result))
