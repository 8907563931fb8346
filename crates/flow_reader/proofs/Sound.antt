-- What is read keeps the rules of a workflow, part by part.
use Rattle.std.proofs.Common.{◌≡◌, ℕ, ℤ, pos, negsuc, List, [], ◌∷◌, Bool, true, false, not, IsTrue, cond, Option, Some, None, Ok, refl, ap, arith, nat_le, ◌==◌}
use Rattle.std.proofs.lemmas.Bool.Decides.{nat_tests}
use Rattle.std.proofs.lemmas.Grind.{common_steps}
use Rattle.std.specs.List.{list_all, list_any}
use Rattle.std.specs.Str.{bytes_eq}
use Rattle.std.specs.Option.{option_map}
use Rattle.serde_json.specs.Data.{Num, Data, null, boolean, number, string, array, object}
use Rattle.expr_reader.specs.Bytes.{is_blank}
use Rattle.flow_model.specs.Flow.{is_spelled_scalar, is_spelled_variable, is_spelled_input, is_named_output, is_spelled_condition, is_matrix_entry}
use Rattle.flow_model.specs.Json.{value_of, whole_of}
use Rattle.flow_model.specs.Name.{is_id}
use Rattle.flow_model.specs.Plain as plain
use Rattle.flow_model.specs.Rules.{all_there, are_distinct, greatest, is_limit, is_property, is_variable_name, is_whole, is_within}
use Rattle.flow_model.proofs.Conversions.{value_in_range}
use Rattle.flow_model.proofs.Tests.{pair, to_le}
use Rattle.flow_reader.specs.Checked.{bad, under, pairs_checked}
use Rattle.flow_reader.specs.Parts.{text_of, id_text, id_of, truth_text, unless_blank, condition_of, each_once, texts_of, needs_of, limit_at, limit_of, whole_at, scalar_of, plain_at, plain_of, counts_each, variable_at, env_of, input_at, inputs_of, output_at, outputs_of, property_at, properties_of}
use Rattle.flow_reader.proofs.Keeping.{Keeps, keeps_here, keeps_bad, keeps_weaker, keeps_made, keeps_under, keeps_if, keeps_of_members, keeps_pairs}

-- ---- texts

keeps_id_text : (name : List ℕ) → Keeps is_id (id_text name)
keeps_id_text name = keeps_if is_id (is_id name) (Ok name) (bad _) (λ h. keeps_here is_id name h) (λ _. keeps_bad is_id _)

pub keeps_id : (d : Data) → Keeps is_id (id_of d)
keeps_id null = keeps_bad is_id _
keeps_id (boolean b) = keeps_bad is_id _
keeps_id (number n) = keeps_bad is_id _
keeps_id (string bytes) = keeps_id_text bytes
keeps_id (array ds) = keeps_bad is_id _
keeps_id (object ms) = keeps_bad is_id _

not_blank : (text : List ℕ) (b : Bool) → is_blank text ≡ b → IsTrue (all_there is_spelled_condition (cond b None (Some text)))
not_blank text true e = refl
not_blank text false e = ap not e

truth_spelled : (b : Bool) → IsTrue (all_there is_spelled_condition (Some (truth_text b)))
truth_spelled true = refl
truth_spelled false = refl

pub keeps_condition : (d : Data) → Keeps (all_there is_spelled_condition) (condition_of d)
keeps_condition null = keeps_bad (all_there is_spelled_condition) _
keeps_condition (boolean b) = keeps_here (all_there is_spelled_condition) (Some (truth_text b)) (truth_spelled b)
keeps_condition (number n) = keeps_bad (all_there is_spelled_condition) _
keeps_condition (string bytes) = keeps_here (all_there is_spelled_condition) (unless_blank bytes) (not_blank bytes (is_blank bytes) refl)
keeps_condition (array ds) = keeps_bad (all_there is_spelled_condition) _
keeps_condition (object ms) = keeps_bad (all_there is_spelled_condition) _

-- ---- needs

not_kept : (text : List ℕ) (texts : List (List ℕ)) → list_any (bytes_eq text) texts ≡ false → list_any (bytes_eq text) (each_once texts) ≡ false
not_kept text [] h = refl
not_kept text (t ∷ ts) h = by_test (list_any (bytes_eq t) ts) (grind (arith, common_steps)) (not_kept text ts (grind (arith, common_steps)))
  where
    by_test : (b : Bool) → bytes_eq text t ≡ false → list_any (bytes_eq text) (each_once ts) ≡ false → list_any (bytes_eq text) (cond b (each_once ts) (t ∷ each_once ts)) ≡ false
    by_test true e k = k
    by_test false e k = rw e k

pub once_distinct : (texts : List (List ℕ)) → IsTrue (are_distinct (each_once texts))
once_distinct [] = refl
once_distinct (t ∷ ts) = by_test (list_any (bytes_eq t) ts) refl (once_distinct ts)
  where
    by_test : (b : Bool) → list_any (bytes_eq t) ts ≡ b → IsTrue (are_distinct (each_once ts)) → IsTrue (are_distinct (cond b (each_once ts) (t ∷ each_once ts)))
    by_test true e k = k
    by_test false e k = pair (not (list_any (bytes_eq t) (each_once ts))) (are_distinct (each_once ts)) (ap not (not_kept t ts e)) k

pub keeps_needs : (d : Data) → Keeps are_distinct (needs_of d)
unfolding needs_of
keeps_needs d = keeps_made each_once are_distinct (texts_of d) (λ x e. once_distinct x)

-- ---- numbers and values

whole_range : (n : Num) (z : ℤ) → whole_of n ≡ Some z → IsTrue (is_whole z)
whole_range n z e = value_in_range (number n) (plain.whole z) (ap (option_map plain.whole) e)

limit_case : (n : Num) (o : Option ℤ) → whole_of n ≡ o → Keeps is_limit (limit_at o)
limit_case n None e = keeps_bad is_limit _
limit_case n (Some (pos k)) e =
    keeps_if is_limit (k == 0) (bad _) (Ok k) (λ _. keeps_bad is_limit _)
    (λ f. keeps_here is_limit k (pair (nat_le 1 k) (nat_le k greatest) (to_le 1 k (grind (arith, nat_tests, f))) (whole_range n (pos k) e)))
limit_case n (Some (negsuc k)) e = keeps_bad is_limit _

pub keeps_limit : (d : Data) → Keeps is_limit (limit_of d)
keeps_limit null = keeps_bad is_limit _
keeps_limit (boolean b) = keeps_bad is_limit _
keeps_limit (number n) = limit_case n (whole_of n) refl
keeps_limit (string bytes) = keeps_bad is_limit _
keeps_limit (array ds) = keeps_bad is_limit _
keeps_limit (object ms) = keeps_bad is_limit _

whole_case : (n : Num) (o : Option ℤ) → whole_of n ≡ o → Keeps is_spelled_scalar (whole_at o)
whole_case n None e = keeps_bad is_spelled_scalar _
whole_case n (Some z) e = keeps_here is_spelled_scalar (plain.whole z) (whole_range n z e)

pub keeps_scalar : (d : Data) → Keeps is_spelled_scalar (scalar_of d)
keeps_scalar null = keeps_here is_spelled_scalar plain.null refl
keeps_scalar (boolean b) = keeps_here is_spelled_scalar (plain.truth b) refl
keeps_scalar (number n) = whole_case n (whole_of n) refl
keeps_scalar (string bytes) = keeps_here is_spelled_scalar (plain.text bytes) refl
keeps_scalar (array ds) = keeps_bad is_spelled_scalar _
keeps_scalar (object ms) = keeps_bad is_spelled_scalar _

plain_case : (o : Option plain.Plain) → Keeps (is_within 100) (plain_at o)
plain_case None = keeps_bad (is_within 100) _
plain_case (Some v) = keeps_if (is_within 100) (is_within 100 v) (Ok v) (bad _) (λ h. keeps_here (is_within 100) v h) (λ _. keeps_bad (is_within 100) _)

pub keeps_plain : (d : Data) → Keeps (is_within 100) (plain_of d)
unfolding plain_of
keeps_plain d = plain_case (value_of d)

-- ---- maps

variable_case : (k : List ℕ) (d : Data) (c : counts_each k ≡ true) → Keeps (λ v. is_spelled_variable (k, v)) (variable_at k d)
unfolding variable_at
variable_case k d c =
    keeps_if (λ v. is_spelled_variable (k, v)) (is_variable_name k) (under k (scalar_of d)) (bad _)
    (λ h. keeps_weaker is_spelled_scalar (λ v. is_spelled_variable (k, v)) (under k (scalar_of d)) (λ v s. pair (is_variable_name k) (is_spelled_scalar v) h s)
    (keeps_under is_spelled_scalar k (scalar_of d) (keeps_scalar d)))
    (λ _. keeps_bad (λ v. is_spelled_variable (k, v)) _)

pub keeps_env : (d : Data) → Keeps (list_all is_spelled_variable) (env_of d)
unfolding env_of
keeps_env d = keeps_of_members (list_all is_spelled_variable) (pairs_checked counts_each variable_at) d (keeps_pairs is_spelled_variable counts_each variable_at variable_case)

pub keeps_inputs : (d : Data) → Keeps (list_all is_spelled_input) (inputs_of d)
unfolding inputs_of
keeps_inputs d = keeps_of_members (list_all is_spelled_input) (pairs_checked counts_each input_at) d
    (keeps_pairs is_spelled_input counts_each input_at (λ k v c. keeps_under is_spelled_scalar k (scalar_of v) (keeps_scalar v)))

output_case : (k : List ℕ) (d : Data) (c : counts_each k ≡ true) → Keeps (λ v. is_named_output (k, v)) (output_at k d)
unfolding output_at
output_case k d c =
    keeps_if (λ v. is_named_output (k, v)) (is_id k) (under k (text_of d)) (bad _) (λ h x e. h) (λ _. keeps_bad (λ v. is_named_output (k, v)) _)

pub keeps_outputs : (d : Data) → Keeps (list_all is_named_output) (outputs_of d)
unfolding outputs_of
keeps_outputs d = keeps_of_members (list_all is_named_output) (pairs_checked counts_each output_at) d (keeps_pairs is_named_output counts_each output_at output_case)

pub keeps_properties : (d : Data) → Keeps is_matrix_entry (properties_of d)
unfolding properties_of
keeps_properties d = keeps_of_members (list_all is_property) (pairs_checked counts_each property_at) d
    (keeps_pairs is_property counts_each property_at (λ k v c. keeps_under (is_within 100) k (plain_of v) (keeps_plain v)))
