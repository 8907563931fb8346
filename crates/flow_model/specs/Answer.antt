-- Which answers may end a call.
use Rattle.std.specs.Prelude.{ℕ, ℤ, pos, negsuc, ◌&&◌, Bool, true, false, not, nat_le, List, length}
use Rattle.std.specs.List.{list_all, list_any}
use Rattle.flow_model.specs.Name.{is_output_name, is_zero}
use Rattle.flow_model.specs.Rules.{is_variable_name}
use Rattle.flow_model.specs.declared.event.Answer.{Answer}
use Rattle.flow_model.specs.declared.event.Answer.TheVariants.{Exit, NotStarted, BadOutput}

-- 0 to 255
abbrev pub is_exit_code : ℤ → Bool
is_exit_code (pos n) = nat_le n 255
is_exit_code (negsuc n) = false

-- a name of an output, and a value of at most 65,536 bytes
abbrev pub is_output : List ℕ × List ℕ → Bool
is_output p = is_output_name p.0 && nat_le (length p.1) 65536

-- a name of a variable, of at most 256 bytes, and a value of at most 65,536 bytes without zero bytes
abbrev pub is_pair : List ℕ × List ℕ → Bool
is_pair p =
    is_variable_name p.0 && nat_le (length p.0) 256 && nat_le (length p.1) 65536 && not (list_any is_zero p.1)

-- an Exit has a code from 0 to 255, at most 256 outputs and at most 256 variables; the other answers are free
abbrev pub is_well_formed : Answer → Bool
is_well_formed (Exit code outputs env) =
    is_exit_code code
    && (nat_le (length outputs) 256 && list_all is_output outputs)
    && (nat_le (length env) 256 && list_all is_pair env)
is_well_formed NotStarted = true
is_well_formed BadOutput = true
