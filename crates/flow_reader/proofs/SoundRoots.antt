-- What is read keeps the rules of contexts.
use Rattle.std.proofs.Common.{◌≡◌, ℕ, List, [], ◌∷◌, Bool, ◌&&◌, IsTrue, None, Ok, refl, codes}
use Rattle.std.specs.Bool.{⊤}
use Rattle.std.specs.List.{list_all}
use Rattle.serde_json.specs.Data.{Data}
use Rattle.flow_model.specs.Found.{rule, under, each_pair}
use Rattle.flow_model.specs.Plain.{Plain}
use Rattle.flow_model.specs.Rules.{is_property, roots_rules}
use Rattle.flow_model.specs.declared.plan.Roots.{Roots}
use Rattle.flow_model.proofs.FoundNothing.{none_or_else, none_under, none_rule}
use Rattle.flow_model.proofs.Tests.{pair, both as both_tests}
use Rattle.flow_reader.specs.Parts.{properties_of, roots_from, roots_of}
use Rattle.flow_reader.proofs.Keeping.{Keeps, keeps_any, keeps_weaker, keeps_both, keeps_made, keeps_defaulted, keeps_in_object}
use Rattle.flow_reader.proofs.Sound.{keeps_properties}
use Rattle.flow_reader.proofs.SoundFlow.{any, next}

abbrev all_properties : List (List ℕ × Plain) → Bool
all_properties ps = list_all is_property ps

abbrev are_roots : Roots → Bool
are_roots r = all_properties r.github && (all_properties r.inputs && (all_properties r.secrets && all_properties r.vars))

abbrev roots_test : List (List ℕ × Plain) × (List (List ℕ × Plain) × (List (List ℕ × Plain) × (List (List ℕ × Plain) × ⊤))) → Bool
roots_test = next all_properties (next all_properties (next all_properties (next all_properties any)))

roots_case : (x : List (List ℕ × Plain) × (List (List ℕ × Plain) × (List (List ℕ × Plain) × (List (List ℕ × Plain) × ⊤)))) → IsTrue (roots_test x) → IsTrue (are_roots (roots_from x))
roots_case x h =
    let github = both_tests (all_properties x.0) _ h in
    let inputs = both_tests (all_properties x.1.0) _ github.1 in
    let secrets = both_tests (all_properties x.1.1.0) _ inputs.1 in
    let vars = both_tests (all_properties x.1.1.1.0) _ secrets.1 in
    pair (all_properties x.0) _ github.0 (pair (all_properties x.1.0) _ inputs.0 (pair (all_properties x.1.1.0) (all_properties x.1.1.1.0) secrets.0 vars.0))

keeps_roots : (d : Data) → Keeps are_roots (roots_of d)
unfolding roots_of
keeps_roots d =
    keeps_made roots_from are_roots _ (keeps_weaker roots_test (λ x. are_roots (roots_from x)) _ roots_case (keeps_in_object roots_test _ d (λ o.
    keeps_both all_properties _ _ _ (keeps_defaulted all_properties [] properties_of (codes "github") o refl keeps_properties)
    (keeps_both all_properties _ _ _ (keeps_defaulted all_properties [] properties_of (codes "inputs") o refl keeps_properties)
    (keeps_both all_properties _ _ _ (keeps_defaulted all_properties [] properties_of (codes "secrets") o refl keeps_properties)
    (keeps_both all_properties any _ _ (keeps_defaulted all_properties [] properties_of (codes "vars") o refl keeps_properties) (keeps_any _)))))))

none_found : (ps : List (List ℕ × Plain)) → IsTrue (all_properties ps) → each_pair is_property ps ≡ None
none_found [] h = refl
none_found (p ∷ ps) h =
    let t = both_tests (is_property p) (all_properties ps) h in
    none_or_else (rule p.0 (is_property p)) (each_pair is_property ps) (none_rule p.0 (is_property p) t.0) (none_found ps t.1)

none_at : (key : List ℕ) (ps : List (List ℕ × Plain)) → IsTrue (all_properties ps) → under key (each_pair is_property ps) ≡ None
none_at key ps h = none_under key (each_pair is_property ps) (none_found ps h)

keep_rules : (r : Roots) → IsTrue (are_roots r) → roots_rules r ≡ None
keep_rules r h =
    let github = both_tests (all_properties r.github) _ h in
    let inputs = both_tests (all_properties r.inputs) _ github.1 in
    let secrets = both_tests (all_properties r.secrets) (all_properties r.vars) inputs.1 in
    none_or_else _ _ (none_at (codes "github") r.github github.0) (none_or_else _ _ (none_at (codes "inputs") r.inputs inputs.0)
    (none_or_else _ _ (none_at (codes "secrets") r.secrets secrets.0) (none_at (codes "vars") r.vars secrets.1)))

pub roots_sound : (d : Data) (r : Roots) → roots_of d ≡ Ok r → roots_rules r ≡ None
roots_sound d r e = keep_rules r (keeps_roots d r e)
