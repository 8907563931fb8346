-- The line of each error is one line: what it is made of has no control character.
use Rattle.std.proofs.Common.{◌≡◌, ◌==◌, ◌+◌, ◌/◌, ◌%◌, ◌&&◌, ◌++◌, ℕ, zero, suc, Bool, true, false, not, List, [], ◌∷◌, codes, decimal, nat_lt, if◌then◌else◌, refl, sym, ap, ◌∙◌, arith}
use Rattle.std.proofs.lemmas.List.{append_assoc}
use Rattle.std.specs.Fmt.{digits, digits_onto, digit_glyph}
use Rattle.status_table.specs.Words.{ExprFault, ValueFault, event_fault_name, fault_name, fault_place, value_fault_name}
use Rattle.status_table.specs.declared.fault.EventFault.{EventFault}
use Rattle.flow_reader.specs.Fault.{flow_fault_name}
use Rattle.flow_reader.specs.declared.fault.FlowFault.{FlowFault}
use Rattle.matrix_expand.specs.Faults.{matrix_fault_name}
use Rattle.matrix_expand.specs.declared.fault.MatrixFault.{MatrixFault}
use Rattle.plan_assembler.specs.Faults.{plan_fault_text}
use Rattle.plan_assembler.specs.declared.fault.PlanFault.{PlanFault}
use Rattle.plan_text.specs.Fault.{load_fault_name}
use Rattle.plan_text.specs.declared.fault.LoadFault.{LoadFault}
use Rattle.command_io.proofs.Pictures.{both, shown_is_plain}
use Rattle.command_io.specs.CommandError.{line, name_line}
use Rattle.command_io.specs.Contexts.{contexts_fault_name}
use Rattle.command_io.specs.Pictures.{IsPlainLine, is_plain, shown}
use Rattle.command_io.specs.PlayStop.{stop_line}
use Rattle.command_io.specs.declared.contexts.ContextsFault.{ContextsFault}
use Rattle.command_io.specs.declared.error.CommandError.{CommandError}
use Rattle.command_io.specs.declared.stop.PlayStop.{PlayStop}

-- ---- lines by their parts

-- the end of a line
end : IsPlainLine (codes "\n")
end = ([], (refl, refl))

-- a part before the rest of a line
more : (part text : List ℕ) → is_plain part ≡ true → IsPlainLine text → IsPlainLine (part ++ text)
more part text plain rest = (
  part ++ rest.0,
  (both part rest.0 plain rest.1.0, ap (λ (l : List ℕ). part ++ l) rest.1.1 ∙ sym (append_assoc part rest.0 (codes "\n"))),
)

-- ---- numbers

plain_byte : (b : ℕ) (text : List ℕ) → (not (nat_lt b 32) && not (b == 127)) ≡ true → is_plain text ≡ true → is_plain (b ∷ text) ≡ true
plain_byte b text one others = λ i. one i && others i

low_glyph : (d : ℕ) → nat_lt d 10 ≡ true → (not (nat_lt (48 + d) 32) && not (48 + d == 127)) ≡ true
low_glyph d low = grind arith

plain_digits : (k n : ℕ) (others : List ℕ) → is_plain others ≡ true → is_plain (digits_onto k 10 false n others) ≡ true
plain_digits zero n others plain = plain
plain_digits (suc k) n others plain = by_last (n / 10 == 0) (plain_digits k (n / 10))
  where
    glyph : (d : ℕ) (low : Bool) → nat_lt d 10 ≡ low → nat_lt d 10 ≡ true
        → (not (nat_lt (if low then 48 + d else 87 + d) 32) && not ((if low then 48 + d else 87 + d) == 127)) ≡ true
    glyph d true is low = low_glyph d low
    glyph d false is low = cc

    digit : nat_lt (n % 10) 10 ≡ true
    digit = grind arith

    last_plain : is_plain (digit_glyph false (n % 10) ∷ others) ≡ true
    last_plain = plain_byte (digit_glyph false (n % 10)) others (glyph (n % 10) (nat_lt (n % 10) 10) refl digit) plain

    by_last : (last : Bool) → ((after : List ℕ) → is_plain after ≡ true → is_plain (digits_onto k 10 false (n / 10) after) ≡ true)
        → is_plain (if last then digit_glyph false (n % 10) ∷ others else digits_onto k 10 false (n / 10) (digit_glyph false (n % 10) ∷ others)) ≡ true
    by_last true next = last_plain
    by_last false next = next (digit_glyph false (n % 10) ∷ others) last_plain

plain_number : (n : ℕ) → is_plain (decimal n) ≡ true
unfolding digits
plain_number n = plain_digits 64 n [] refl

-- ---- the names of faults

plain_expr : (fault : ExprFault) → is_plain (fault_name fault) ≡ true
plain_expr (ExprFault.UnclosedText n) = refl
plain_expr (ExprFault.BadNumber n) = refl
plain_expr (ExprFault.BadChar n) = refl
plain_expr (ExprFault.Unexpected n) = refl
plain_expr (ExprFault.UnknownName n) = refl
plain_expr (ExprFault.UnknownFunction n) = refl
plain_expr (ExprFault.ArgumentCount n) = refl
plain_expr (ExprFault.TooDeep n) = refl
plain_expr (ExprFault.TooLong n) = refl
plain_expr (ExprFault.UnclosedTemplate n) = refl
plain_expr (ExprFault.StatusHere n) = refl
plain_expr (ExprFault.Memory n) = refl

plain_value : (fault : ValueFault) → is_plain (value_fault_name fault) ≡ true
plain_value ValueFault.NotWhole = refl
plain_value ValueFault.NoIdentity = refl
plain_value ValueFault.BadFormat = refl
plain_value ValueFault.BadJson = refl
plain_value ValueFault.TooLarge = refl
plain_value ValueFault.Memory = refl

plain_contexts : (fault : ContextsFault) → is_plain (contexts_fault_name fault) ≡ true
plain_contexts ContextsFault.NotJson = refl
plain_contexts ContextsFault.NotWhole = refl
plain_contexts ContextsFault.WrongShape = refl

plain_flow : (fault : FlowFault) → is_plain (flow_fault_name fault) ≡ true
plain_flow FlowFault.NotJson = refl
plain_flow FlowFault.NotWhole = refl
plain_flow (FlowFault.Missing key) = refl
plain_flow (FlowFault.WrongShape path) = refl
plain_flow (FlowFault.BadId name) = refl
plain_flow (FlowFault.LeftOut key) = refl
plain_flow FlowFault.UnknownShell = refl
plain_flow FlowFault.Memory = refl

plain_matrix : (fault : MatrixFault) → is_plain (matrix_fault_name fault) ≡ true
plain_matrix MatrixFault.EmptyVariable = refl
plain_matrix MatrixFault.NoCombination = refl
plain_matrix MatrixFault.TooMany = refl
plain_matrix MatrixFault.Memory = refl

plain_plan : (fault : PlanFault) → is_plain (plan_fault_text fault) ≡ true
plain_plan PlanFault.UnknownNeed = refl
plain_plan PlanFault.Cycle = refl
plain_plan PlanFault.UnknownJob = refl
plain_plan PlanFault.NoWorkflow = refl
plain_plan PlanFault.TooMany = refl
plain_plan (PlanFault.Expr at inner) =
    both (codes "Expr ") (fault_name inner ++ (codes " at " ++ decimal (fault_place inner))) refl
    (both (fault_name inner) (codes " at " ++ decimal (fault_place inner)) (plain_expr inner)
    (both (codes " at ") (decimal (fault_place inner)) refl (plain_number (fault_place inner))))
plain_plan (PlanFault.Matrix number inner) = both (codes "Matrix ") (matrix_fault_name inner) refl (plain_matrix inner)
plain_plan PlanFault.Memory = refl

plain_load : (fault : LoadFault) → is_plain (load_fault_name fault) ≡ true
plain_load LoadFault.NotJson = refl
plain_load LoadFault.Version = refl
plain_load (LoadFault.NotPlan path) = refl
plain_load (LoadFault.NotEntry n) = refl
plain_load LoadFault.Memory = refl

plain_event : (fault : EventFault) → is_plain (event_fault_name fault) ≡ true
plain_event EventFault.NoSuch = refl
plain_event EventFault.WrongState = refl
plain_event EventFault.OtherWorker = refl
plain_event EventFault.NeedsOpen = refl
plain_event EventFault.SlotsFull = refl
plain_event EventFault.Stopping = refl
plain_event EventFault.NotStopping = refl
plain_event EventFault.StepsLeft = refl
plain_event EventFault.BadAnswer = refl
plain_event EventFault.Memory = refl

-- ---- the lines

named : (kind name : List ℕ) → is_plain kind ≡ true → is_plain name ≡ true → IsPlainLine (name_line kind name)
named kind name plain_kind plain_name =
    more (codes "actrun: ") (kind ++ (codes " " ++ (name ++ codes "\n"))) refl
    (more kind (codes " " ++ (name ++ codes "\n")) plain_kind (more (codes " ") (name ++ codes "\n") refl (more name (codes "\n") plain_name end)))

of_file : (file name : List ℕ) → is_plain name ≡ true → IsPlainLine (codes "actrun: flow " ++ (shown file ++ (codes " " ++ (name ++ codes "\n"))))
of_file file name plain =
    more (codes "actrun: flow ") (shown file ++ (codes " " ++ (name ++ codes "\n"))) refl
    (more (shown file) (codes " " ++ (name ++ codes "\n")) (shown_is_plain file)
    (more (codes " ") (name ++ codes "\n") refl (more name (codes "\n") plain end)))

numbered : (n : ℕ) (name : List ℕ) → is_plain name ≡ true → IsPlainLine (codes "actrun: line " ++ (decimal n ++ (codes " " ++ (name ++ codes "\n"))))
numbered n name plain =
    more (codes "actrun: line ") (decimal n ++ (codes " " ++ (name ++ codes "\n"))) refl
    (more (decimal n) (codes " " ++ (name ++ codes "\n")) (plain_number n)
    (more (codes " ") (name ++ codes "\n") refl (more name (codes "\n") plain end)))

placed : (name : List ℕ) (place : ℕ) → is_plain name ≡ true → IsPlainLine (codes "actrun: expr " ++ (name ++ (codes " at " ++ (decimal place ++ codes "\n"))))
placed name place plain =
    more (codes "actrun: expr ") (name ++ (codes " at " ++ (decimal place ++ codes "\n"))) refl
    (more name (codes " at " ++ (decimal place ++ codes "\n")) plain
    (more (codes " at ") (decimal place ++ codes "\n") refl (more (decimal place) (codes "\n") (plain_number place) end)))

pub one_line : (e : CommandError) → IsPlainLine (line e)
one_line (CommandError.NoExpression fault) = placed (fault_name fault) (fault_place fault) (plain_expr fault)
one_line (CommandError.NoValue fault) = named (codes "value") (value_fault_name fault) refl (plain_value fault)
one_line (CommandError.NoContexts file fault) = of_file file (contexts_fault_name fault) (plain_contexts fault)
one_line (CommandError.NoFlow file fault) = of_file file (flow_fault_name fault) (plain_flow fault)
one_line (CommandError.NotPlanned fault) = named (codes "plan") (plan_fault_text fault) refl (plain_plan fault)
one_line (CommandError.NoPlan fault) = named (codes "load") (load_fault_name fault) refl (plain_load fault)
one_line (CommandError.NoEntry n) = numbered n (codes "NotEntry") refl
one_line (CommandError.Refused n fault) = numbered n (event_fault_name fault) (plain_event fault)
one_line CommandError.Words = (codes "actrun: words", (refl, refl))
one_line CommandError.Io = (codes "actrun: io", (refl, refl))
one_line CommandError.Memory = (codes "actrun: memory", (refl, refl))

pub one_stop_line : (stop : PlayStop) → IsPlainLine (stop_line stop)
one_stop_line PlayStop.Workers = named (codes "pool") (codes "Workers") refl refl
one_stop_line PlayStop.Host = named (codes "pool") (codes "Host") refl refl
one_stop_line PlayStop.Mismatch = named (codes "pool") (codes "Mismatch") refl refl
one_stop_line PlayStop.Memory = one_line CommandError.Memory
