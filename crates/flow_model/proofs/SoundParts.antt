-- The rules of steps, groups, jobs and contexts: none is broken exactly where each holds in its own words.
use Rattle.std.proofs.Common.{◌≡◌, ◌<◌, ◌≤◌, ◌&&◌, nat_lt, ℕ, suc, Bool, IsTrue, nat_le, codes, List, [], ◌∷◌, length, None, IfSome, refl, ap, sym, subst, arith}
use Rattle.expr_reader.specs.Accepts.{is_template, is_condition}
use Rattle.expr_reader.specs.Template.{IsTemplate, IsCondition}
use Rattle.flow_model.specs.Found.{Path, under, each, each_pair}
use Rattle.flow_model.specs.Name.{is_id}
use Rattle.flow_model.specs.Plain.{Plain}
use Rattle.flow_model.specs.Rules.{is_property, is_variable, is_input, are_distinct, with_id, ascend_between, is_limit, greatest, work_rules, step_rules, group_rules, leg_rules, step_ids, steps_rules, legs_rules, roots_rules}
use Rattle.flow_model.specs.Sound.{TestsTell, Each, HaveDistinctNames, AscendStrictly, IsVariable, IsInput, IsProperty, SoundWork, SoundStep, SoundGroup}
use Rattle.flow_model.specs.declared.plan.Group.{Group}
use Rattle.flow_model.specs.declared.plan.JobPlan.{JobPlan}
use Rattle.flow_model.specs.declared.plan.Roots.{Roots}
use Rattle.flow_model.specs.declared.plan.StepPlan.{StepPlan}
use Rattle.flow_model.specs.declared.plan.Work.{Work}
use Rattle.flow_model.specs.declared.plan.Work.TheVariants.{Run, Uses}
use Rattle.flow_model.proofs.FoundNothing.{or_else_none, none_or_else, under_none, none_under, rule_none, none_rule, each_none, none_each, each_pair_none, none_each_pair}
use Rattle.flow_model.proofs.Nesting.{is_within-nests, nests-is_within}
use Rattle.flow_model.proofs.Places.{Each-nil, Each-cons, Each-head, Each-tail, Each-weaker, names_by, distinct_names, names_distinct, ascend-nil, ascend-cons, ascend-head, ascend-tail}
use Rattle.flow_model.proofs.Tests.{both, pair, from_le, to_le, from_lt, to_lt, from_all_there, to_all_there}
use Rattle.flow_model.proofs.TextTests.{flag_sound, sound_flag, variable_sound, sound_variable, input_sound, sound_input}

-- ---- maps

pub pass : {V : Type 0} (test : List ℕ × V → Bool) (P : List ℕ × V → Type 0) → ((p : List ℕ × V) → IsTrue (test p) → P p)
    → (key : Path) (ps : List (List ℕ × V)) → under key (each_pair test ps) ≡ None → Each P ps
pass test P tells key ps e = each_pair_none test P tells ps (under_none key (each_pair test ps) e)

pub passed : {V : Type 0} (test : List ℕ × V → Bool) (P : List ℕ × V → Type 0) → ((p : List ℕ × V) → P p → IsTrue (test p))
    → (key : Path) (ps : List (List ℕ × V)) → Each P ps → under key (each_pair test ps) ≡ None
passed test P tells key ps h = none_under key (each_pair test ps) (none_each_pair test P tells ps h)

pub properties : (ps : List (List ℕ × Plain)) → each_pair is_property ps ≡ None → Each IsProperty ps
properties ps e = each_pair_none is_property IsProperty (λ p h. is_within-nests 100 p.1 h) ps e

pub no_properties : (ps : List (List ℕ × Plain)) → Each IsProperty ps → each_pair is_property ps ≡ None
no_properties ps h = none_each_pair is_property IsProperty (λ p k. nests-is_within 100 p.1 k) ps h

-- ---- steps

work_sound : TestsTell → (w : Work) → work_rules w ≡ None → SoundWork w
work_sound tests (Run dir run shell) e =
    let r = or_else_none _ _ e in
    (from_all_there is_template IsTemplate (λ t. (tests.template t).0) dir (rule_none _ _ r.0), (tests.template run).0 (rule_none _ _ r.1))
work_sound tests (Uses uses given) e = pass is_input IsInput (input_sound tests) (codes "with") given e

sound_work : TestsTell → (w : Work) → SoundWork w → work_rules w ≡ None
sound_work tests (Run dir run shell) h =
    none_or_else _ _ (none_rule _ _ (to_all_there is_template IsTemplate (λ t. (tests.template t).1) dir h.0)) (none_rule _ _ ((tests.template run).1 h.1))
sound_work tests (Uses uses given) h = passed is_input IsInput (sound_input tests) (codes "with") given h

step_sound : TestsTell → (s : StepPlan) → step_rules s ≡ None → SoundStep s
step_sound tests s e =
    let a = or_else_none _ _ e in
    let b = or_else_none _ _ a.1 in
    let c = or_else_none _ _ b.1 in
    let d = or_else_none _ _ c.1 in
    record {
      condition = from_all_there is_condition IsCondition (λ t. (tests.condition t).0) s.condition (rule_none _ _ a.0);
      env = pass is_variable IsVariable (variable_sound tests) (codes "env") s.env b.0;
      id = from_all_there is_id (λ t. IsTrue (is_id t)) (λ t h. h) s.id (rule_none _ _ c.0);
      tolerate = flag_sound tests s.tolerate (rule_none _ _ d.0);
      work = work_sound tests s.work (under_none (codes "work") (work_rules s.work) d.1);
    }

sound_step : TestsTell → (s : StepPlan) → SoundStep s → step_rules s ≡ None
sound_step tests s h =
    none_or_else _ _ (none_rule _ _ (to_all_there is_condition IsCondition (λ t. (tests.condition t).1) s.condition h.condition))
    (none_or_else _ _ (passed is_variable IsVariable (sound_variable tests) (codes "env") s.env h.env)
    (none_or_else _ _ (none_rule _ _ (to_all_there is_id (λ t. IsTrue (is_id t)) (λ t k. k) s.id h.id))
    (none_or_else _ _ (none_rule _ _ (sound_flag tests s.tolerate h.tolerate))
    (none_under (codes "work") (work_rules s.work) (sound_work tests s.work h.work)))))

-- the ids of the steps that have one
step_ids-names_by : (ss : List StepPlan) → step_ids ss ≡ names_by (λ s. s.id) ss
step_ids-names_by [] = refl
step_ids-names_by (s ∷ ss) = ap (with_id s.id) (step_ids-names_by ss)

pub steps_sound : TestsTell → (ss : List StepPlan) → steps_rules ss ≡ None → (length ss ≤ 256) × HaveDistinctNames (λ s. s.id) ss × Each SoundStep ss
steps_sound tests ss e =
    let a = or_else_none _ _ e in
    let b = or_else_none _ _ a.1 in (
      from_le (length ss) 256 (rule_none _ _ a.0),
      distinct_names (λ s. s.id) ss (subst (λ ids. IsTrue (are_distinct ids)) (step_ids-names_by ss) (rule_none _ _ b.0)),
      each_none step_rules SoundStep (step_sound tests) 0 ss (under_none (codes "steps") (each step_rules 0 ss) b.1),
    )

pub sound_steps : TestsTell → (ss : List StepPlan) → length ss ≤ 256 → HaveDistinctNames (λ s. s.id) ss → Each SoundStep ss → steps_rules ss ≡ None
sound_steps tests ss few ids hs =
    none_or_else _ _ (none_rule _ _ (to_le (length ss) 256 few))
    (none_or_else _ _ (none_rule _ _ (subst (λ names. IsTrue (are_distinct names)) (sym (step_ids-names_by ss)) (names_distinct (λ s. s.id) ss ids)))
    (none_under (codes "steps") (each step_rules 0 ss) (none_each step_rules SoundStep (sound_step tests) 0 ss hs)))

-- ---- groups

pub group_sound : TestsTell → (g : Group) → group_rules g ≡ None → SoundGroup g
group_sound tests g e =
    let a = or_else_none _ _ e in
    record { cancel = flag_sound tests g.cancel (rule_none _ _ a.0); name = (tests.template g.name).0 (rule_none _ _ a.1) }

pub sound_group : TestsTell → (g : Group) → SoundGroup g → group_rules g ≡ None
sound_group tests g h = none_or_else _ _ (none_rule _ _ (sound_flag tests g.cancel h.cancel)) (none_rule _ _ ((tests.template g.name).1 h.name))

-- ---- legs

limit_sound : (n : ℕ) → IsTrue (is_limit n) → (1 ≤ n) × (n ≤ greatest)
limit_sound n h =
    let r = both (nat_le 1 n) (nat_le n greatest) h in
    (from_le 1 n r.0, from_le n greatest r.1)

sound_limit : (n : ℕ) → (1 ≤ n) × (n ≤ greatest) → IsTrue (is_limit n)
sound_limit n h = pair (nat_le 1 n) (nat_le n greatest) (to_le 1 n h.0) (to_le n greatest h.1)

-- the rules of a job's legs, each in its own words
pub record SoundLegs (j : JobPlan) : Type 0 where
  pub some_leg : 1 ≤ length j.legs
  pub few_legs : length j.legs ≤ 256
  pub legs : Each (λ combo. Each IsProperty combo) j.legs
  pub max_parallel : IfSome j.max_parallel (λ n. (1 ≤ n) × (n ≤ greatest))

pub legs_sound : (j : JobPlan) → legs_rules j ≡ None → SoundLegs j
legs_sound j e =
    let a = or_else_none _ _ e in
    let b = or_else_none _ _ a.1 in
    let counts = both (nat_le 1 (length j.legs)) (nat_le (length j.legs) 256) (rule_none _ _ a.0) in
    record {
      some_leg = from_le 1 (length j.legs) counts.0;
      few_legs = from_le (length j.legs) 256 counts.1;
      legs = each_none leg_rules (λ combo. Each IsProperty combo) properties 0 j.legs (under_none (codes "legs") (each leg_rules 0 j.legs) b.0);
      max_parallel = from_all_there is_limit (λ n. (1 ≤ n) × (n ≤ greatest)) limit_sound j.max_parallel (rule_none (codes "max_parallel") _ b.1);
    }

pub sound_legs : (j : JobPlan) → SoundLegs j → legs_rules j ≡ None
sound_legs j h =
    none_or_else _ _ (none_rule _ _ (pair (nat_le 1 (length j.legs)) (nat_le (length j.legs) 256) (to_le 1 (length j.legs) h.some_leg) (to_le (length j.legs) 256 h.few_legs)))
    (none_or_else _ _ (none_under (codes "legs") (each leg_rules 0 j.legs) (none_each leg_rules (λ combo. Each IsProperty combo) no_properties 0 j.legs h.legs))
    (none_rule (codes "max_parallel") _ (to_all_there is_limit (λ n. (1 ≤ n) × (n ≤ greatest)) sound_limit j.max_parallel h.max_parallel)))

-- ---- needs

-- from low on and below high
abbrev pub IsBetween : ℕ → ℕ → ℕ → Type 0
IsBetween low high n = (low ≤ n) × (n < high)

pub needs_sound : (low high : ℕ) (ns : List ℕ) → IsTrue (ascend_between low high ns) → Each (IsBetween low high) ns × AscendStrictly ns
needs_sound low high [] h = (Each-nil _, ascend-nil)
needs_sound low high (n ∷ ns) h =
    let a = both (nat_le low n && nat_lt n high) (ascend_between (suc n) high ns) h in
    let b = both (nat_le low n) (nat_lt n high) a.0 in
    let from : low ≤ n = from_le low n b.0 in
    let later = needs_sound (suc n) high ns a.1 in
    let above : Each (λ m. n < m) ns = Each-weaker (IsBetween (suc n) high) (λ m. n < m) (λ m k. omega (arith, k.0)) ns later.0 in (
      Each-cons (IsBetween low high) n ns (from, from_lt n high b.1) (Each-weaker (IsBetween (suc n) high) (IsBetween low high) (λ m k. (omega (arith, from, k.0), k.1)) ns later.0),
      ascend-cons n ns above later.1,
    )

pub sound_needs : (low high : ℕ) (ns : List ℕ) → Each (IsBetween low high) ns → AscendStrictly ns → IsTrue (ascend_between low high ns)
sound_needs low high [] h up = refl
sound_needs low high (n ∷ ns) h up =
    let here = Each-head (IsBetween low high) n ns h in
    let above = ascend-head n ns up in
    let inside = Each-tail (IsBetween low high) n ns h in
    pair (nat_le low n && nat_lt n high) (ascend_between (suc n) high ns)
    (pair (nat_le low n) (nat_lt n high) (to_le low n here.0) (to_lt n high here.1))
    (sound_needs (suc n) high ns (λ i m e. (omega (arith, above i m e), (inside i m e).1)) (ascend-tail n ns up))

-- ---- contexts

-- the rules of the contexts of a run
pub record SoundRoots (r : Roots) : Type 0 where
  pub github : Each IsProperty r.github
  pub inputs : Each IsProperty r.inputs
  pub secrets : Each IsProperty r.secrets
  pub vars : Each IsProperty r.vars

pub roots_sound : (r : Roots) → roots_rules r ≡ None → SoundRoots r
roots_sound r e =
    let a = or_else_none _ _ e in
    let b = or_else_none _ _ a.1 in
    let c = or_else_none _ _ b.1 in
    record {
      github = properties r.github (under_none (codes "github") (each_pair is_property r.github) a.0);
      inputs = properties r.inputs (under_none (codes "inputs") (each_pair is_property r.inputs) b.0);
      secrets = properties r.secrets (under_none (codes "secrets") (each_pair is_property r.secrets) c.0);
      vars = properties r.vars (under_none (codes "vars") (each_pair is_property r.vars) c.1);
    }

pub sound_roots : (r : Roots) → SoundRoots r → roots_rules r ≡ None
sound_roots r h =
    none_or_else _ _ (none_under (codes "github") (each_pair is_property r.github) (no_properties r.github h.github))
    (none_or_else _ _ (none_under (codes "inputs") (each_pair is_property r.inputs) (no_properties r.inputs h.inputs))
    (none_or_else _ _ (none_under (codes "secrets") (each_pair is_property r.secrets) (no_properties r.secrets h.secrets))
    (none_under (codes "vars") (each_pair is_property r.vars) (no_properties r.vars h.vars))))
