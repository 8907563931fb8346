-- How an answer stands to its definition: want of memory is apart.
use Rattle.std.specs.Prelude.{◌≡◌, Result, Ok, Err}
use Rattle.flow_model.specs.declared.reply.ValueFault.{ValueFault}
use Rattle.flow_model.specs.declared.reply.ValueFault.TheVariants.{NotWhole, NoIdentity, BadFormat, BadJson, TooLarge, Memory}

-- What a call returned, seen by a view, is what the definition gives, value or fault, unless memory ran out.
abbrev pub Gives : {X A : Type 0} → (X → A) → Result X ValueFault → Result A ValueFault → Type 0
Gives view (Ok x) meaning = meaning ≡ Ok (view x)
Gives view (Err NotWhole) meaning = meaning ≡ Err NotWhole
Gives view (Err NoIdentity) meaning = meaning ≡ Err NoIdentity
Gives view (Err BadFormat) meaning = meaning ≡ Err BadFormat
Gives view (Err BadJson) meaning = meaning ≡ Err BadJson
Gives view (Err TooLarge) meaning = meaning ≡ Err TooLarge
Gives view (Err Memory) meaning = Unit {0}
