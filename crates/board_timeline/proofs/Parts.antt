-- Lists that grow part by part.
use Rattle.std.proofs.Common.{◌≡◌, ◌++◌, List, ap, ◌∙◌, append_assoc}

two_parts : {A : Type 0} (old one two a b : List A) → one ≡ old ++ a → two ≡ one ++ b → two ≡ old ++ (a ++ b)
two_parts {A} old one two a b is-one is-two = is-two ∙ ap (λ (xs : List A). xs ++ b) is-one ∙ append_assoc old a b

pub three_parts : {A : Type 0} (old one two three a b c : List A) → one ≡ old ++ a → two ≡ one ++ b → three ≡ two ++ c → three ≡ old ++ ((a ++ b) ++ c)
three_parts old one two three a b c is-one is-two is-three =
    two_parts old two three (a ++ b) c (two_parts old one two a b is-one is-two) is-three
