-- Texts that grow part by part.
use Rattle.std.proofs.Common.{◌≡◌, ◌++◌, ℕ, List, ap, ◌∙◌, append_assoc}

two_parts : (old one two a b : List ℕ) → one ≡ old ++ a → two ≡ one ++ b → two ≡ old ++ (a ++ b)
two_parts old one two a b is-one is-two = is-two ∙ ap (λ (t : List ℕ). t ++ b) is-one ∙ append_assoc old a b

pub four_parts : (old one two three four a b c d : List ℕ) → one ≡ old ++ a → two ≡ one ++ b → three ≡ two ++ c → four ≡ three ++ d
    → four ≡ old ++ (((a ++ b) ++ c) ++ d)
four_parts old one two three four a b c d is-one is-two is-three is-four =
    two_parts old three four ((a ++ b) ++ c) d (two_parts old two three (a ++ b) c (two_parts old one two a b is-one is-two) is-three) is-four
