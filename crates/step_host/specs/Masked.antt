-- Answers whose values are masked.
use Rattle.std.specs.Prelude.{◌≡◌, ◌≢◌, ℕ, Bool, true, false, if◌then◌else◌, List, Result, Ok, Err, refl}
use Rattle.status_table.specs.Words.{Answer, is_well_formed, map_values}
use Rattle.flow_model.specs.declared.event.Answer.TheVariants.{Exit, NotStarted, BadOutput}
use Rattle.flow_commands.specs.Mask.{masked}
use Rattle.step_host.specs.declared.watch.Refusal.{Refusal}

-- the answer, if it may end a call; else what it gives is bad
abbrev pub checked : Answer → Answer
checked answer = if is_well_formed answer then answer else BadOutput

-- The masked form of an answer: the values of its outputs and variables are masked, and their names are not. A value may
-- grow by that.
abbrev pub masked_answer : List (List ℕ) → Answer → Answer
masked_answer masks (Exit code outputs env) =
    checked (Exit code (map_values (masked masks) outputs) (map_values (masked masks) env))
masked_answer masks NotStarted = NotStarted
masked_answer masks BadOutput = BadOutput

-- What is told of the masked form of an answer: where it is bad output and the answer was not, that masking made it so.
abbrev pub TellsMasked : Answer → Result Answer Refusal → Type 0
TellsMasked plain (Ok made) = made ≡ BadOutput → plain ≡ BadOutput
TellsMasked plain (Err why) = (why ≡ Refusal.Masked) × (plain ≢ BadOutput)

-- The answer is the masked form of one that is admitted.
pub record IsMasked (masks : List (List ℕ)) (admits : Answer → Type 0) (answer : Answer) : Type 0 where
  pub plain : Answer
  pub admitted : admits plain
  pub is : answer ≡ masked_answer masks plain

-- ---- masked forms are well-formed, and an answer has one

checked_by : (answer : Answer) (b : Bool) → is_well_formed answer ≡ b → is_well_formed (if b then answer else BadOutput) ≡ true
checked_by answer true h = h
checked_by answer false h = refl

pub masked_is_well_formed : (masks : List (List ℕ)) (answer : Answer) → is_well_formed (masked_answer masks answer) ≡ true
masked_is_well_formed masks (Exit code outputs env) =
    checked_by (Exit code (map_values (masked masks) outputs) (map_values (masked masks) env)) _ refl
masked_is_well_formed masks NotStarted = refl
masked_is_well_formed masks BadOutput = refl

-- What is the masked form of an answer is well-formed.
pub IsMasked-well_formed : (masks : List (List ℕ)) (admits : Answer → Type 0) (answer : Answer) → IsMasked masks admits answer → is_well_formed answer ≡ true
IsMasked-well_formed masks admits answer h = rw h.is (masked_is_well_formed masks h.plain)

-- Where one answer is admitted, it has one masked form.
pub IsMasked-one : (masks : List (List ℕ)) (admits : Answer → Type 0) → ((one other : Answer) → admits one → admits other → one ≡ other)
    → (one other : Answer) → IsMasked masks admits one → IsMasked masks admits other → one ≡ other
IsMasked-one masks admits alone one other h g = rw (h.is, g.is, alone h.plain g.plain h.admitted g.admitted) refl
