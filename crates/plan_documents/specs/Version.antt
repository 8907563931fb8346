-- The versions of documents: version 1 does not tell the variables that an exit sets; version 2 is the one that is printed.
use Rattle.std.specs.Prelude.{ℕ, [], ◌==◌, ◌||◌, Bool, if◌then◌else◌, Ok, Err}
use Rattle.serde_json.specs.Data.{Data}
use Rattle.plan_documents.specs.Parts.{number_data, number_of, Reading, and_then}
use Rattle.plan_documents.specs.declared.version.Version.{Version}
use Rattle.plan_documents.specs.declared.version.Version.TheVariants.{One, Two}

-- the number of a version
abbrev pub version_number : Version → ℕ
version_number One = 1
version_number Two = 2

-- a version, by its number
abbrev pub version_data : Version → Data
version_data version = number_data (version_number version)

-- whether a version has this number
abbrev pub is_version : ℕ → Bool
is_version n = (n == 1) || (n == 2)

-- the version of a number
abbrev pub version_numbered : ℕ → Reading Version
version_numbered n = if n == 1 then Ok One else (if n == 2 then Ok Two else Err [])

-- a version, by its number
abbrev pub version_of : Data → Reading Version
version_of d = and_then version_numbered (number_of d)
