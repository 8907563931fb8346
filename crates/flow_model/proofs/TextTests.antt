-- The tests of what has texts that are evaluated, and what they tell.
use Rattle.std.proofs.Common.{ℕ, IsTrue, List, refl}
use Rattle.expr_reader.specs.Accepts.{is_template}
use Rattle.flow_model.specs.Name.{is_id}
use Rattle.flow_model.specs.Plain.{Plain, null, truth, whole, text, list, map as map_value}
use Rattle.flow_model.specs.Rules.{is_flag, is_scalar, is_variable_name, is_variable, is_input, is_job_output}
use Rattle.flow_model.specs.Sound.{TestsTell, IsFlag, IsScalar, IsVariable, IsInput, IsJobOutput}
use Rattle.flow_model.specs.declared.plan.Flag.{Flag}
use Rattle.flow_model.specs.declared.plan.Flag.TheVariants.{Truth, Text}
use Rattle.flow_model.proofs.Tests.{both, pair}

pub flag_sound : TestsTell → (f : Flag) → IsTrue (is_flag f) → IsFlag f
flag_sound tests (Truth b) h = tt
flag_sound tests (Text t) h = (tests.template t).0 h

pub sound_flag : TestsTell → (f : Flag) → IsFlag f → IsTrue (is_flag f)
sound_flag tests (Truth b) h = refl
sound_flag tests (Text t) h = (tests.template t).1 h

scalar_sound : TestsTell → (v : Plain) → IsTrue (is_scalar v) → IsScalar v
scalar_sound tests null h = tt
scalar_sound tests (truth b) h = tt
scalar_sound tests (whole z) h = h
scalar_sound tests (text t) h = (tests.template t).0 h
scalar_sound tests (list vs) h = absurd (cc)
scalar_sound tests (map_value ms) h = absurd (cc)

sound_scalar : TestsTell → (v : Plain) → IsScalar v → IsTrue (is_scalar v)
sound_scalar tests null h = refl
sound_scalar tests (truth b) h = refl
sound_scalar tests (whole z) h = h
sound_scalar tests (text t) h = (tests.template t).1 h
sound_scalar tests (list vs) h = absurd h
sound_scalar tests (map_value ms) h = absurd h

pub variable_sound : TestsTell → (p : List ℕ × Plain) → IsTrue (is_variable p) → IsVariable p
variable_sound tests p h =
    let parts = both (is_variable_name p.0) (is_scalar p.1) h in
    (parts.0, scalar_sound tests p.1 parts.1)

pub sound_variable : TestsTell → (p : List ℕ × Plain) → IsVariable p → IsTrue (is_variable p)
sound_variable tests p h = pair (is_variable_name p.0) (is_scalar p.1) h.0 (sound_scalar tests p.1 h.1)

pub input_sound : TestsTell → (p : List ℕ × Plain) → IsTrue (is_input p) → IsInput p
input_sound tests p h = scalar_sound tests p.1 h

pub sound_input : TestsTell → (p : List ℕ × Plain) → IsInput p → IsTrue (is_input p)
sound_input tests p h = sound_scalar tests p.1 h

pub output_sound : TestsTell → (p : List ℕ × List ℕ) → IsTrue (is_job_output p) → IsJobOutput p
output_sound tests p h =
    let parts = both (is_id p.0) (is_template p.1) h in
    (parts.0, (tests.template p.1).0 parts.1)

pub sound_output : TestsTell → (p : List ℕ × List ℕ) → IsJobOutput p → IsTrue (is_job_output p)
sound_output tests p h = pair (is_id p.0) (is_template p.1) h.0 ((tests.template p.1).1 h.1)
