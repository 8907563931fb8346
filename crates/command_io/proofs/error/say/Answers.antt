use Rattle.std.proofs.Common.{ap, sym, ◌∙◌, codes}
use Rattle.command_io.proofs.Told.{Puts-as}
use Rattle.command_io.specs.CommandError.{line, name_line, file_line, numbered_line}
use Rattle.command_io.proofs.error.say.Goals as goal

pub returns-in-NoValue : goal.returns-in-NoValue
returns-in-NoValue g c = Puts-as _ _ _ _ _ c.say_name.ensures (ap (name_line (codes "value")) c.name-in-NoValue.ensures ∙ sym (ap line c.in-NoValue.is))

pub returns-in-NoContexts : goal.returns-in-NoContexts
returns-in-NoContexts g c =
    Puts-as _ _ _ _ _ c.say_file.ensures (ap (λ file. file_line file c.name-in-NoContexts.result.now) c.as_str.ensures ∙ ap (file_line c.in-NoContexts.file) c.name-in-NoContexts.ensures ∙ sym (ap line c.in-NoContexts.is))

pub returns-in-NoFlow : goal.returns-in-NoFlow
returns-in-NoFlow g c =
    Puts-as _ _ _ _ _ c.say_file-in-NoFlow.ensures (ap (λ file. file_line file c.name-in-NoFlow.result.now) c.as_str-in-NoFlow.ensures ∙ ap (file_line c.in-NoFlow.file) c.name-in-NoFlow.ensures ∙ sym (ap line c.in-NoFlow.is))

pub returns-in-NotPlanned : goal.returns-in-NotPlanned
returns-in-NotPlanned g c = Puts-as _ _ _ _ _ c.say_unplanned.ensures (sym (ap line c.in-NotPlanned.is))

pub returns-in-NoPlan : goal.returns-in-NoPlan
returns-in-NoPlan g c = Puts-as _ _ _ _ _ c.say_name-in-NoPlan.ensures (ap (name_line (codes "load")) c.name-in-NoPlan.ensures ∙ sym (ap line c.in-NoPlan.is))

pub returns-in-NoEntry : goal.returns-in-NoEntry
returns-in-NoEntry g c = Puts-as _ _ _ _ _ c.say_numbered.ensures (sym (ap line c.in-NoEntry.is))

pub returns-in-Refused : goal.returns-in-Refused
returns-in-Refused g c =
    Puts-as _ _ _ _ _ c.say_numbered-in-Refused.ensures (ap (numbered_line c.in-Refused.number) c.name-in-Refused.ensures ∙ sym (ap line c.in-Refused.is))

pub returns-in-Words : goal.returns-in-Words
returns-in-Words g c = Puts-as _ _ _ _ _ c.put.ensures (sym (ap line c.in-Words.is))

pub returns-in-Io : goal.returns-in-Io
returns-in-Io g c = Puts-as _ _ _ _ _ c.put-in-Io.ensures (sym (ap line c.in-Io.is))

pub returns-in-Memory : goal.returns-in-Memory
returns-in-Memory g c = Puts-as _ _ _ _ _ c.put-in-Memory.ensures (sym (ap line c.in-Memory.is))
