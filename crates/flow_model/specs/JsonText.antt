-- The JSON that bytes read as.
use Rattle.std.specs.Prelude.{ℕ, List, if◌then◌else◌, Option, None}
use Rattle.std.specs.Str.{is_utf8}
use Rattle.serde_json.specs.Data.{Data}
use Rattle.serde_json.specs.Read.{read}

-- the JSON that bytes read as (RFC 8259): they are UTF-8, and nest to 127
abbrev pub json_read : List ℕ → Option Data
json_read bytes = if is_utf8 bytes then read bytes else None
