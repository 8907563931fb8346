-- The texts of a template's pieces, one after the other.
use Rattle.std.proofs.Common.{◌≡◌, ℕ, Bool, true, false, not, cond, Some, Option, Result, Ok, Err, List, [], refl, sym, ap, ◌∙◌}
use Rattle.expr_value.proofs.Growing.{grown_grown, limited_grown}
use Rattle.expr_value.specs.Answer.{Gives}
use Rattle.expr_value.specs.Bounded.{grown, grown_value}
use Rattle.expr_value.specs.Evaluate.{Answer}
use Rattle.expr_value.specs.Joined.{grown_answer}
use Rattle.expr_value.specs.Template.{with_text, limited_text}
use Rattle.flow_model.specs.Plain as plain
use Rattle.flow_model.specs.declared.reply.ValueFault.{ValueFault}
use Rattle.flow_model.specs.declared.reply.ValueFault.TheVariants.{NotWhole, NoIdentity, BadFormat, BadJson, TooLarge, Memory}

-- what has grown so far, with the texts that are left
abbrev pub joined_onto : Option (List ℕ) → Result (List ℕ) ValueFault → Answer
joined_onto held (Ok bytes) = grown_value (grown held bytes)
joined_onto held (Err fault) = Err fault

-- a text that grew, with the rest, is the text with both
pub joined_step : (held next : Option (List ℕ)) (m rest : Result (List ℕ) ValueFault) → grown_answer held m ≡ Ok next → joined_onto next rest ≡ joined_onto held (with_text m rest)
joined_step held next (Ok t) (Ok w) h =
    let grew : next ≡ grown held t = cc in
    ap (λ (o : Option (List ℕ)). grown_value (grown o w)) grew ∙ ap grown_value (grown_grown held t w)
joined_step held next (Ok t) (Err fault) h = refl
joined_step held next (Err fault) rest h = absurd (cc)

-- the first fault stands
pub joined_fault : (held : Option (List ℕ)) (m rest : Result (List ℕ) ValueFault) (fault : ValueFault) → grown_answer held m ≡ Err fault → joined_onto held (with_text m rest) ≡ Err fault
joined_fault held (Ok t) rest fault h = absurd (cc)
joined_fault held (Err other) rest fault h = let same : other ≡ fault = cc in ap Err same

-- from nothing on
pub joined_first : (r : Result (List ℕ) ValueFault) → joined_onto (Some []) r ≡ limited_text r
joined_first (Ok w) = limited_grown w
joined_first (Err fault) = refl

by_size : (t : List ℕ) (b : Bool) → not b ≡ true → cond b (Ok (plain.text t)) (Err TooLarge) ≡ Err TooLarge
by_size t true h = absurd (cc)
by_size t false h = refl

-- the fault of a piece is that of the whole
pub fault_stands : {X Y : Type 0} (seen : X → Option (List ℕ)) (view : Y → plain.Plain) (held : Option (List ℕ)) (m rest all : Result (List ℕ) ValueFault) (fault : ValueFault)
    → Gives seen (Err fault) (grown_answer held m) → joined_onto held (with_text m rest) ≡ limited_text all → Gives view (Err fault) (limited_text all)
fault_stands seen view held m rest all NotWhole h e = sym e ∙ joined_fault held m rest NotWhole h
fault_stands seen view held m rest all NoIdentity h e = sym e ∙ joined_fault held m rest NoIdentity h
fault_stands seen view held m rest all BadFormat h e = sym e ∙ joined_fault held m rest BadFormat h
fault_stands seen view held m rest all BadJson h e = sym e ∙ joined_fault held m rest BadJson h
fault_stands seen view held m rest all TooLarge h e = sym e ∙ joined_fault held m rest TooLarge h
fault_stands seen view held m rest all Memory h e = tt
