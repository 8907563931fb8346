-- The names of jobs, steps, outputs and variables.
use Rattle.std.specs.Prelude.{ℕ, ◌&&◌, ◌||◌, Bool, false, nat_eq, nat_le, List, [], ◌∷◌, codes, length}
use Rattle.std.specs.List.{list_all, list_any}
pub use Rattle.expr_reader.specs.Bytes.{is_letter, is_digit}

-- one of these bytes
abbrev pub is_one_of : List ℕ → ℕ → Bool
is_one_of bytes b = list_any (nat_eq b) bytes

-- a letter, a digit, `-` or `_`
abbrev pub is_name_byte : ℕ → Bool
is_name_byte b = is_letter b || is_digit b || is_one_of (codes "-_") b

-- letters, digits, `-` and `_`
abbrev pub are_name_bytes : List ℕ → Bool
are_name_bytes bytes = list_all is_name_byte bytes

-- an id begins with a letter or `_`, and has only letters, digits, `-` and `_`
abbrev pub is_id : List ℕ → Bool
is_id [] = false
is_id (b ∷ bs) = (is_letter b || is_one_of (codes "_") b) && are_name_bytes bs

-- an answer's output is named by 1 to 256 letters, digits, `-` and `_`
abbrev pub is_output_name : List ℕ → Bool
is_output_name name = nat_le 1 (length name) && nat_le (length name) 256 && are_name_bytes name

-- the zero byte
abbrev pub is_zero : ℕ → Bool
is_zero b = nat_eq b 0
