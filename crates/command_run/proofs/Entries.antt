-- Entries of an environment that are text, and others.
use Rattle.std.proofs.Common.{◌≡◌, ℕ, Bool, true, false, if◌then◌else◌, List, None, refl, sym, ap, ◌∙◌}
use Rattle.std.proofs.lemmas.Str.{is_utf8-from_IsUtf8, IsUtf8-from_is_utf8}
use Rattle.std.specs.Str.{IsUtf8, is_utf8}
use Rattle.command_run.specs.Environment.{variable_in, variable_of}

-- an entry that is text is the variable that the text is, and any other is none
pub text_is_variable : (entry text : List ℕ) → text ≡ entry → IsUtf8 entry → variable_in text ≡ variable_of entry
text_is_variable entry text same utf8 = ap variable_in same ∙ sym (by_test (is_utf8 entry) (is_utf8-from_IsUtf8 entry utf8))
  where
    by_test : (b : Bool) → b ≡ true → (if b then variable_in entry else None) ≡ variable_in entry
    by_test true h = refl
    by_test false h = absurd (cc)

pub no_text_is_none : (entry : List ℕ) → (IsUtf8 entry → ⊥) → None ≡ variable_of entry
no_text_is_none entry unread = by_test (is_utf8 entry) refl
  where
    by_test : (b : Bool) → is_utf8 entry ≡ b → None ≡ (if b then variable_in entry else None)
    by_test true h = absurd (unread (IsUtf8-from_is_utf8 entry h))
    by_test false h = refl
