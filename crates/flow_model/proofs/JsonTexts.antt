-- Bytes read as JSON where they are the text of one.
use Rattle.std.proofs.Common.{◌≡◌, ℕ, List, Bool, true, false, cond, Some, None, refl}
use Rattle.std.proofs.lemmas.Str.{is_utf8-from_IsUtf8, IsUtf8-from_is_utf8}
use Rattle.std.specs.Str.{IsUtf8, is_utf8}
use Rattle.serde_json.specs.Data.{Data}
use Rattle.serde_json.specs.Read.{read}
use Rattle.flow_model.specs.JsonText.{json_read}

pub json_read-utf8 : (bytes : List ℕ) → IsUtf8 bytes → json_read bytes ≡ read bytes
json_read-utf8 bytes utf8 = rw (is_utf8-from_IsUtf8 bytes utf8) refl

pub json_read-some : (bytes : List ℕ) (d : Data) → IsUtf8 bytes → read bytes ≡ Some d → json_read bytes ≡ Some d
json_read-some bytes d utf8 e = rw (is_utf8-from_IsUtf8 bytes utf8) e

pub json_read-none : (bytes : List ℕ) → (IsUtf8 bytes → read bytes ≡ None) → json_read bytes ≡ None
json_read-none bytes h = by_test (is_utf8 bytes) refl
  where
    by_test : (b : Bool) → is_utf8 bytes ≡ b → cond b (read bytes) None ≡ None
    by_test true e = h (IsUtf8-from_is_utf8 bytes e)
    by_test false e = refl
