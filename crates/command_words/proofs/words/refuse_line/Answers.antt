use Rattle.std.proofs.Common.{◌≡◌, refl, ◌∙◌}
use Rattle.std.specs.IoError.{error_kind}
use Rattle.std.specs.declared.io.ErrorKind.TheVariants.{InvalidData, OutOfMemory}
use Rattle.command_io.specs.declared.error.CommandError.TheVariants.{Words, Io, Memory}
use Rattle.command_words.proofs.words.refuse_line.Goals as goal

pub returns-in-InvalidData : goal.returns-in-InvalidData
returns-in-InvalidData g c = record {
  error = Words;
  said = c.refuse.ensures.line;
  is = c.refuse.ensures.status;
  no_text = λ (kind : error_kind c.args.error ≡ InvalidData). refl;
  memory = λ (kind : error_kind c.args.error ≡ OutOfMemory). absurd (cc (c.in-InvalidData.is, c.kind.ensures));
}

pub returns-in-OutOfMemory : goal.returns-in-OutOfMemory
returns-in-OutOfMemory g c = record {
  error = Memory;
  said = c.refuse-in-OutOfMemory.ensures.line;
  is = c.refuse-in-OutOfMemory.ensures.status;
  no_text = λ (kind : error_kind c.args.error ≡ InvalidData). absurd (cc (c.in-OutOfMemory.is, c.kind.ensures));
  memory = λ (kind : error_kind c.args.error ≡ OutOfMemory). refl;
}

pub returns-in_default : goal.returns-in_default
returns-in_default g c = record {
  error = Io;
  said = c.refuse-in_default.ensures.line;
  is = c.refuse-in_default.ensures.status;
  no_text = λ (kind : error_kind c.args.error ≡ InvalidData). absurd (c.in_default.not-InvalidData (c.kind.ensures ∙ kind));
  memory = λ (kind : error_kind c.args.error ≡ OutOfMemory). absurd (c.in_default.not-OutOfMemory (c.kind.ensures ∙ kind));
}
