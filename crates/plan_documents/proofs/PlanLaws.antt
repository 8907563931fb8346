-- The document of a plan and of each of its parts is read as that part, and no other.
use Rattle.std.proofs.Common.{◌≡◌, ◌≤◌, ℕ, List, [], Bool, true, false, IsTrue, ◌&&◌, ◌==◌, bytes_eq, cond, codes, Option, Ok, refl, sym, ap, ◌∙◌, arith}
use Rattle.std.proofs.lemmas.Bool.{eqb-true}
use Rattle.std.proofs.lemmas.Slice.Eq.{bytes_eq-Decides}
use Rattle.std.specs.List.{list_all}
use Rattle.std.specs.Prelude.{⊤}
use Rattle.serde_json.specs.Data.{Data, null, boolean, number, string, array, object, Members, no_members, member, depth}
use Rattle.serde_json.specs.Written.{has_float}
use Rattle.flow_model.specs.Json.{value_of, json_of}
use Rattle.flow_model.specs.Rules.{is_within}
use Rattle.flow_model.specs.declared.plan.Flag.{Flag}
use Rattle.flow_model.specs.declared.plan.Flag.TheVariants.{Truth, Text}
use Rattle.flow_model.specs.declared.plan.JobPlan.{JobPlan}
use Rattle.flow_model.specs.declared.plan.Plan.{Plan}
use Rattle.flow_model.specs.declared.plan.Roots.{Roots}
use Rattle.flow_model.specs.declared.plan.RunPlan.{RunPlan}
use Rattle.flow_model.specs.declared.plan.Shell.{Shell}
use Rattle.flow_model.specs.declared.plan.Shell.TheVariants.{Default, Sh, Bash}
use Rattle.flow_model.specs.declared.plan.StepPlan.{StepPlan}
use Rattle.flow_model.specs.declared.plan.Work.{Work}
use Rattle.flow_model.specs.declared.plan.Work.TheVariants.{Run, Uses}
use Rattle.flow_model.proofs.Conversions.{value_again, value_only, value_exact, is_within-in_range, depth-json_of}
use Rattle.plan_documents.specs.Parts.{number_data, optional_data, list_data, map_data, Reading, or_refused, text_of, number_of, plain_of, list_of, optional_of, field, no_more, word_of, has_word}
use Rattle.plan_documents.specs.Document.{flag_data, group_data, roots_data, shell_data, work_data, step_data, job_data, run_data, document_in}
use Rattle.plan_documents.specs.Reading.{Values, flag_of, group_from, group_of, values_of, roots_from, roots_of, shell_named, shell_of, script_from, script_of, action_from, action_of, work_of, step_from, step_of, job_from, job_tail, job_of, run_from, run_of, plan_from, plan_of}
use Rattle.plan_documents.specs.Version.{version_data, version_numbered, version_of}
use Rattle.plan_documents.specs.declared.version.Version.{Version}
use Rattle.plan_documents.specs.declared.version.Version.TheVariants.{One, Two}
use Rattle.plan_documents.proofs.Laws.{Reads, ReadsMembers, ReadsForms, Ok-inj, from_and_then, from_either, from_or_refused, text_reads, truth_reads, number_reads, word_reads, number_only, text_only, list_reads, map_reads, deeper, or_null, lists, maps, no_more_reads, field_reads, object_made, from_object, object_reads}

-- ---- texts, numbers and values

pub text_or_null : (n : ℕ) → Reads (optional_data string) (optional_of text_of) (λ _. true) n
text_or_null n = or_null (text_reads n) [] refl

plain_reads : Reads json_of plain_of (is_within 100) 100
plain_reads = record {
  again = λ v h. ap or_refused (value_again v (is_within-in_range 100 v h));
  only = λ d v e. sym (value_only d v (from_or_refused (value_of d) v e));
  low = λ v h. depth-json_of 100 v h;
  exact = value_exact;
}

-- whether each value of a map nests no deeper than 100, with its numbers in range
abbrev pub values_fit : Values → Bool
values_fit ps = list_all (λ p. is_within 100 p.1) ps

values_reads : Reads (map_data json_of) values_of values_fit 101
values_reads = map_reads plain_reads

-- ---- the parts of a plan

flag_again : (f : Flag) → flag_of (flag_data f) ≡ Ok f
flag_again (Truth b) = refl
flag_again (Text t) = refl

flag_only : (d : Data) (f : Flag) → flag_of d ≡ Ok f → d ≡ flag_data f
flag_only null f e = absurd (cc)
flag_only (boolean b) f e = ap flag_data (Ok-inj (Truth b) f e)
flag_only (number n) f e = absurd (cc)
flag_only (string t) f e = ap flag_data (Ok-inj (Text t) f e)
flag_only (array ds) f e = absurd (cc)
flag_only (object ms) f e = absurd (cc)

flag_low : (n : ℕ) (f : Flag) → depth (flag_data f) ≤ n
flag_low n (Truth b) = omega arith
flag_low n (Text t) = omega arith

flag_exact : (f : Flag) → has_float (flag_data f) ≡ false
flag_exact (Truth b) = refl
flag_exact (Text t) = refl

flag_reads : (n : ℕ) → Reads flag_data flag_of (λ _. true) n
flag_reads n = record { again = λ f h. flag_again f; only = flag_only; low = λ f h. flag_low n f; exact = flag_exact }

group_reads : Reads group_data group_of (λ _. true) 1
group_reads =
    object_reads (field_reads (codes "cancel") (flag_reads 0) (field_reads (codes "name") (text_reads 0) (no_more_reads 0))) group_from
    (λ g. (g.cancel, (g.name, tt))) (λ _. refl) (λ _. refl)

group_or_null : (n : ℕ) → 1 ≤ n → Reads (optional_data group_data) (optional_of group_of) (λ _. true) n
group_or_null n le = or_null (deeper group_reads n le) [] refl

-- whether the values of the roots fit
abbrev pub roots_fit : Roots → Bool
roots_fit r = values_fit r.github && (values_fit r.inputs && (values_fit r.secrets && (values_fit r.vars && true)))

roots_reads : Reads roots_data roots_of roots_fit 102
roots_reads =
    object_reads (field_reads (codes "github") values_reads (field_reads (codes "inputs") values_reads
    (field_reads (codes "secrets") values_reads (field_reads (codes "vars") values_reads (no_more_reads 101))))) roots_from
    (λ r. (r.github, (r.inputs, (r.secrets, (r.vars, tt))))) (λ _. refl) (λ _. refl)

shell_again : (s : Shell) → shell_of (shell_data s) ≡ Ok s
shell_again Default = refl
shell_again Sh = refl
shell_again Bash = refl

from_named : (word name : List ℕ) (s : Shell) (rest : Reading Shell) (t : Shell) → shell_data s ≡ string name → (rest ≡ Ok t → string word ≡ shell_data t)
    → cond (bytes_eq word name) (Ok s) rest ≡ Ok t → string word ≡ shell_data t
from_named word name s rest t written later e = named (bytes_eq word name) refl e
  where
    named : (b : Bool) → bytes_eq word name ≡ b → cond b (Ok s) rest ≡ Ok t → string word ≡ shell_data t
    named true same f = ap string ((bytes_eq-Decides word name).0 same) ∙ sym written ∙ ap shell_data (Ok-inj s t f)
    named false other f = later f

shell_named_only : (word : List ℕ) (s : Shell) → shell_named word ≡ Ok s → string word ≡ shell_data s
shell_named_only word s e =
    from_named word (codes "default") Default _ s refl
    (from_named word (codes "sh") Sh _ s refl (from_named word (codes "bash") Bash _ s refl (λ f. absurd (cc)))) e

shell_only : (d : Data) (s : Shell) → shell_of d ≡ Ok s → d ≡ shell_data s
shell_only d s e =
    let r = from_and_then shell_named (text_of d) s e in
    text_only d r.0 r.1.0 ∙ shell_named_only r.0 s r.1.1

shell_low : (n : ℕ) (s : Shell) → depth (shell_data s) ≤ n
shell_low n Default = omega arith
shell_low n Sh = omega arith
shell_low n Bash = omega arith

shell_exact : (s : Shell) → has_float (shell_data s) ≡ false
shell_exact Default = refl
shell_exact Sh = refl
shell_exact Bash = refl

shell_reads : (n : ℕ) → Reads shell_data shell_of (λ _. true) n
shell_reads n = record { again = λ s h. shell_again s; only = shell_only; low = λ s h. shell_low n s; exact = shell_exact }

-- whether the values of an action's inputs fit
abbrev pub work_fits : Work → Bool
work_fits (Run dir run shell) = true
work_fits (Uses uses given) = values_fit given && true

abbrev Script : Type 0
Script = Option (List ℕ) × (⊤ × (List ℕ × (Shell × ⊤)))

abbrev script_members : Script → Members
script_members x =
    member (codes "dir") (optional_data string x.0) (member (codes "kind") (string (codes "run"))
    (member (codes "run") (string x.1.1.0) (member (codes "shell") (shell_data x.1.1.1.0) no_members)))

abbrev script_fields : Members → Reading Script
script_fields =
    field (codes "dir") (optional_of text_of) (field (codes "kind") (word_of (codes "run"))
    (field (codes "run") text_of (field (codes "shell") shell_of no_more)))

script_law : ReadsMembers script_members script_fields (λ _. true) 101
script_law =
    field_reads (codes "dir") (text_or_null 101) (field_reads (codes "kind") (word_reads (codes "run") 101)
    (field_reads (codes "run") (text_reads 101) (field_reads (codes "shell") (shell_reads 101) (no_more_reads 101))))

abbrev Action : Type 0
Action = ⊤ × (List ℕ × (Values × ⊤))

abbrev action_members : Action → Members
action_members x =
    member (codes "kind") (string (codes "uses")) (member (codes "uses") (string x.1.0) (member (codes "with") (map_data json_of x.1.1.0) no_members))

abbrev action_fields : Members → Reading Action
action_fields = field (codes "kind") (word_of (codes "uses")) (field (codes "uses") text_of (field (codes "with") values_of no_more))

action_law : ReadsMembers action_members action_fields (λ x. values_fit x.1.1.0 && true) 101
action_law =
    field_reads (codes "kind") (word_reads (codes "uses") 101) (field_reads (codes "uses") (text_reads 101)
    (field_reads (codes "with") values_reads (no_more_reads 101)))

work_again : (w : Work) → IsTrue (work_fits w) → work_of (work_data w) ≡ Ok w
unfolding work_of
work_again (Run dir run shell) h = object_made script_law script_from (dir, (tt, (run, (shell, tt)))) refl
work_again (Uses uses given) h = object_made action_law action_from (tt, (uses, (given, tt))) h

script_only : (d : Data) (w : Work) → script_of d ≡ Ok w → d ≡ work_data w
script_only d w e =
    let r = from_object script_law script_from d w e in
    r.1.0 ∙ ap work_data r.1.1

action_only : (d : Data) (w : Work) → action_of d ≡ Ok w → d ≡ work_data w
action_only d w e =
    let r = from_object action_law action_from d w e in
    r.1.0 ∙ ap work_data r.1.1

work_only : (d : Data) (w : Work) → work_of d ≡ Ok w → d ≡ work_data w
unfolding work_of
work_only d w e =
    from_either (has_word (codes "kind") (codes "uses") d) (action_of d) (script_of d) w (action_only d w) (script_only d w) e

work_low : (w : Work) → IsTrue (work_fits w) → depth (work_data w) ≤ 102
work_low (Run dir run shell) h = omega (arith, script_law.low (dir, (tt, (run, (shell, tt)))) refl)
work_low (Uses uses given) h = omega (arith, action_law.low (tt, (uses, (given, tt))) h)

work_exact : (w : Work) → has_float (work_data w) ≡ false
work_exact (Run dir run shell) = script_law.exact (dir, (tt, (run, (shell, tt))))
work_exact (Uses uses given) = action_law.exact (tt, (uses, (given, tt)))

work_reads : Reads work_data work_of work_fits 102
work_reads = record { again = work_again; only = work_only; low = work_low; exact = work_exact }

-- whether the values of a step fit
abbrev pub step_fits : StepPlan → Bool
step_fits s = values_fit s.env && (work_fits s.work && true)

step_reads : Reads step_data step_of step_fits 103
step_reads =
    object_reads (field_reads (codes "condition") (text_or_null 102) (field_reads (codes "env") (deeper values_reads 102 (omega arith))
    (field_reads (codes "id") (text_or_null 102) (field_reads (codes "name") (text_or_null 102)
    (field_reads (codes "tolerate") (flag_reads 102) (field_reads (codes "work") work_reads (no_more_reads 102))))))) step_from
    (λ s. (s.condition, (s.env, (s.id, (s.name, (s.tolerate, (s.work, tt))))))) (λ _. refl) (λ _. refl)

-- whether the values of a job fit
abbrev pub job_fits : JobPlan → Bool
job_fits j = values_fit j.env && (list_all values_fit j.legs && (list_all step_fits j.steps && true))

job_reads : Reads job_data job_of job_fits 105
unfolding job_tail
job_reads =
    object_reads (field_reads (codes "condition") (text_or_null 104) (field_reads (codes "env") (deeper values_reads 104 (omega arith))
    (field_reads (codes "fail_fast") (truth_reads 104) (field_reads (codes "group") (group_or_null 104 (omega arith))
    (field_reads (codes "id") (text_reads 104) (field_reads (codes "legs") (deeper (list_reads values_reads) 104 (omega arith))
    (field_reads (codes "max_parallel") (or_null (number_reads 104) [] refl) (field_reads (codes "name") (text_reads 104)
    (field_reads (codes "needs") (lists (number_reads 103)) (field_reads (codes "number") (number_reads 104)
    (field_reads (codes "outputs") (maps (text_reads 103)) (field_reads (codes "steps") (list_reads step_reads)
    (field_reads (codes "tolerate") (flag_reads 104) (no_more_reads 104)))))))))))))) job_from
    (λ j. (j.condition, (j.env, (j.fail_fast, (j.group, (j.id, (j.legs, (j.max_parallel, (j.name, (j.needs, (j.number, (j.outputs, (j.steps, (j.tolerate, tt))))))))))))))
    (λ _. refl) (λ _. refl)

-- whether the values of a run fit
abbrev pub run_fits : RunPlan → Bool
run_fits r = values_fit r.env && (list_all job_fits r.jobs && (roots_fit r.roots && true))

run_reads : Reads run_data run_of run_fits 107
run_reads =
    object_reads (field_reads (codes "env") (deeper values_reads 106 (omega arith)) (field_reads (codes "event") (text_or_null 106)
    (field_reads (codes "flow") (text_reads 106) (field_reads (codes "group") (group_or_null 106 (omega arith))
    (field_reads (codes "jobs") (list_reads job_reads) (field_reads (codes "roots") (deeper roots_reads 106 (omega arith)) (no_more_reads 106))))))) run_from
    (λ r. (r.env, (r.event, (r.flow, (r.group, (r.jobs, (r.roots, tt))))))) (λ _. refl) (λ _. refl)

-- ---- a plan, with the version of its document

version_again : (v : Version) → version_of (version_data v) ≡ Ok v
version_again One = refl
version_again Two = refl

from_numbered : (n k : ℕ) (v : Version) (rest : Reading Version) (u : Version) → version_data v ≡ number_data k
    → (rest ≡ Ok u → number_data n ≡ version_data u) → cond (n == k) (Ok v) rest ≡ Ok u → number_data n ≡ version_data u
from_numbered n k v rest u written later e = numbered (n == k) refl e
  where
    numbered : (b : Bool) → (n == k) ≡ b → cond b (Ok v) rest ≡ Ok u → number_data n ≡ version_data u
    numbered true same f = ap number_data (eqb-true n k same) ∙ sym written ∙ ap version_data (Ok-inj v u f)
    numbered false other f = later f

version_numbered_only : (n : ℕ) (v : Version) → version_numbered n ≡ Ok v → number_data n ≡ version_data v
version_numbered_only n v e = from_numbered n 1 One _ v refl (from_numbered n 2 Two _ v refl (λ f. absurd (cc))) e

version_only : (d : Data) (v : Version) → version_of d ≡ Ok v → d ≡ version_data v
version_only d v e =
    let r = from_and_then version_numbered (number_of d) v e in
    number_only d r.0 r.1.0 ∙ version_numbered_only r.0 v r.1.1

pub version_reads : (n : ℕ) → Reads version_data version_of (λ _. true) n
version_reads n = record { again = λ v h. version_again v; only = version_only; low = λ v h. omega arith; exact = λ v. refl }

-- whether the values of a plan fit
abbrev pub plan_fits : Plan → Bool
plan_fits p = list_all run_fits p.runs && true

abbrev Versioned : Type 0
Versioned = List RunPlan × (Version × ⊤)

abbrev plan_members : Versioned → Members
plan_members x = member (codes "runs") (list_data run_data x.0) (member (codes "version") (version_data x.1.0) no_members)

abbrev plan_fields : Members → Reading Versioned
plan_fields = field (codes "runs") (list_of run_of) (field (codes "version") version_of no_more)

plan_law : ReadsMembers plan_members plan_fields (λ x. list_all run_fits x.0 && true) 108
plan_law = field_reads (codes "runs") (list_reads run_reads) (field_reads (codes "version") (version_reads 108) (no_more_reads 108))

plan_only : (d : Data) (p : Plan) → plan_of d ≡ Ok p → (version : Version) × IsTrue true × (d ≡ document_in version p)
plan_only d p e =
    let r = from_object plan_law plan_from d p e in
    (r.0.1.0, refl, r.1.0 ∙ ap (document_in r.0.1.0) r.1.1)

pub plan_reads : ReadsForms document_in plan_of (λ _ _. true) plan_fits 109
plan_reads = record {
  again = λ version p h told. object_made plan_law plan_from (p.runs, (version, tt)) h;
  only = plan_only;
  low = λ version p h. omega (arith, plan_law.low (p.runs, (version, tt)) h);
  exact = λ version p. plan_law.exact (p.runs, (version, tt));
}
