-- A fault of a part is a fault of the whole, and parts that are read are the whole that is read.
use Rattle.std.proofs.Common.{◌≡◌, ◌<◌, ◌+◌, ◌∙◌, ℕ, zero, suc, List, [], ◌∷◌, ◌++◌, map, length, get_or, Option, Some, Ok, Err, refl, ap, sym, subst, arith, true, drop, take, ◌-◌, IsTrue}
use Rattle.std.specs.Bool.{⊤}
use Rattle.std.proofs.lemmas.List.{drop_more, take_all, length-drop}
use Rattle.std.specs.List.{Contains, list_any}
use Rattle.std.specs.Str.{bytes_eq}
use Rattle.flow_reader.specs.declared.fault.FlowFault.{FlowFault}
use Rattle.flow_reader.specs.declared.fault.FlowFault.TheVariants.{NotJson, NotWhole, Missing, WrongShape, BadId, LeftOut, UnknownShell, Memory}
use Rattle.flow_reader.specs.Fault.{at_key}
use Rattle.flow_model.specs.Rules.{step_ids, with_id}
use Rattle.flow_model.specs.declared.plan.StepPlan.{StepPlan}
use Rattle.flow_reader.specs.Step.{distinct, with_distinct_ids}
use Rattle.flow_reader.specs.Checked.{Checked, both, made, under, bad, Stands, IsFault, is_of_part}

-- ---- lists of faults

contains_here : (fs gs : List FlowFault) (g f : FlowFault) (k : ℕ) → k < length (g ∷ fs) → get_or (g ∷ fs) k f ≡ f → (Contains fs f → Contains (fs ++ gs) f) → Contains (g ∷ (fs ++ gs)) f
contains_here fs gs g f zero w e more = (0, omega arith, e)
contains_here fs gs g f (suc k) w e more = let later = more (k, omega arith, e) in (suc later.0, omega (arith, later.1), later.2)

contains_front : (fs gs : List FlowFault) (f : FlowFault) → Contains fs f → Contains (fs ++ gs) f
contains_front [] gs f h = absurd (omega (arith, h.1))
contains_front (g ∷ fs) gs f h = contains_here fs gs g f h.0 h.1 h.2 (contains_front fs gs f)

contains_back : (fs gs : List FlowFault) (f : FlowFault) → Contains gs f → Contains (fs ++ gs) f
contains_back [] gs f h = h
contains_back (g ∷ fs) gs f h = let later = contains_back fs gs f h in (suc later.0, omega (arith, later.1), later.2)

-- what stands first or among the others
first_or : (g : FlowFault) (fs : List FlowFault) (f : FlowFault) (P : Type 0) (k : ℕ) → k < length (g ∷ fs) → get_or (g ∷ fs) k f ≡ f → (g ≡ f → P) → (Contains fs f → P) → P
first_or g fs f P zero w e first other = first e
first_or g fs f P (suc k) w e first other = other (k, omega arith, e)

is_first : (g : FlowFault) (fs : List FlowFault) (f : FlowFault) → g ≡ f → Contains (g ∷ fs) f
is_first g fs f e = (0, omega arith, e)

is_other : (g : FlowFault) (fs : List FlowFault) (f : FlowFault) → Contains fs f → Contains (g ∷ fs) f
is_other g fs f h = (suc h.0, omega (arith, h.1), h.2)

-- faults stay faults where others are added behind the first
with_first : (g : FlowFault) (fs hs : List FlowFault) (f : FlowFault) → (Contains fs f → Contains hs f) → Contains (g ∷ fs) f → Contains (g ∷ hs) f
with_first g fs hs f more h = first_or g fs f (Contains (g ∷ hs) f) h.0 h.1 h.2 (λ e. is_first g hs f e) (λ c. is_other g hs f (more c))

none_there : (fs : List FlowFault) (f : FlowFault) → Contains [] f → Contains fs f
none_there fs f h = absurd (omega (arith, h.1))

map_here : (key : List ℕ) (fs : List FlowFault) (g f : FlowFault) (k : ℕ) → k < length (g ∷ fs) → get_or (g ∷ fs) k f ≡ f → (Contains fs f → Contains (map (at_key key) fs) (at_key key f)) → Contains (at_key key g ∷ map (at_key key) fs) (at_key key f)
map_here key fs g f zero w e more = (0, omega arith, ap (at_key key) e)
map_here key fs g f (suc k) w e more = let later = more (k, omega arith, e) in (suc later.0, omega (arith, later.1), later.2)

contains_map : (key : List ℕ) (fs : List FlowFault) (f : FlowFault) → Contains fs f → Contains (map (at_key key) fs) (at_key key f)
contains_map key [] f h = absurd (omega (arith, h.1))
contains_map key (g ∷ fs) f h = map_here key fs g f h.0 h.1 h.2 (contains_map key fs f)

-- ---- one fault

pub is_itself : (f r : FlowFault) → r ≡ f → IsFault f r
unfolding IsFault
is_itself f r e = (1, omega arith, sym e)

pub is_memory : (f r : FlowFault) → r ≡ Memory → IsFault f r
unfolding IsFault
is_memory f r e = (0, omega arith, sym e)

-- ---- where a fault stands

memory_is_of_part : (f : FlowFault) → f ≡ Memory → IsTrue (is_of_part f)
memory_is_of_part f e = rw e refl

pub stands_memory : (A : Type 0) (m : Checked A) (f : FlowFault) → f ≡ Memory → Stands f m
unfolding Stands
stands_memory A (Ok a) f e = (memory_is_of_part f e, (0, omega arith, sym e))
stands_memory A (Err fs) f e = (memory_is_of_part f e, (0, omega arith, sym e))

-- a fault that is this one, or want of memory
either_is_of_part : (f r : FlowFault) → IsTrue (is_of_part f) → Contains (Memory ∷ f ∷ []) r → IsTrue (is_of_part r)
either_is_of_part f r p h = first_or Memory (f ∷ []) r (IsTrue (is_of_part r)) h.0 h.1 h.2 (λ e. memory_is_of_part r (sym e))
    (λ o. first_or f [] r (IsTrue (is_of_part r)) o.0 o.1 o.2 (λ e. subst (λ (x : FlowFault). IsTrue (is_of_part x)) e p) (λ n. absurd (omega (arith, n.1))))

pub stands_bad : (A : Type 0) (f r : FlowFault) → IsTrue (is_of_part f) → IsFault f r → Stands r (bad {A = A} f)
unfolding Stands bad IsFault
stands_bad A f r p h = (either_is_of_part f r p h, h)

pub stands_itself : (A : Type 0) (f : FlowFault) → IsTrue (is_of_part f) → Stands f (bad {A = A} f)
unfolding Stands bad
stands_itself A f p = (p, (1, omega arith, refl))

pub stands_left : {A B : Type 0} (a : Checked A) (b : Checked B) (f : FlowFault) → Stands f a → Stands f (both a b)
unfolding Stands both
stands_left (Ok a) (Ok b) f h = h
stands_left (Ok a) (Err gs) f h = (h.0, with_first Memory [] gs f (none_there gs f) h.1)
stands_left (Err fs) (Ok b) f h = h
stands_left (Err fs) (Err gs) f h = (h.0, with_first Memory fs (fs ++ gs) f (contains_front fs gs f) h.1)

pub stands_right : {A B : Type 0} (a : Checked A) (b : Checked B) (f : FlowFault) → Stands f b → Stands f (both a b)
unfolding Stands both
stands_right (Ok a) (Ok b) f h = h
stands_right (Ok a) (Err gs) f h = h
stands_right (Err fs) (Ok b) f h = (h.0, with_first Memory [] fs f (none_there fs f) h.1)
stands_right (Err fs) (Err gs) f h = (h.0, with_first Memory gs (fs ++ gs) f (contains_back fs gs f) h.1)

pub stands_made : {A B : Type 0} (m : A → B) (a : Checked A) (f : FlowFault) → Stands f a → Stands f (made m a)
unfolding Stands made
stands_made m (Ok a) f h = h
stands_made m (Err fs) f h = h

either_fault : (f g : FlowFault) (fs : List FlowFault) → Contains (Memory ∷ f ∷ []) g → Contains (Memory ∷ fs) f → Contains (Memory ∷ fs) g
either_fault f g fs h c = first_or Memory (f ∷ []) g (Contains (Memory ∷ fs) g) h.0 h.1 h.2 (λ e. is_first Memory fs g e)
    (λ o. first_or f [] g (Contains (Memory ∷ fs) g) o.0 o.1 o.2 (λ e. subst (λ (x : FlowFault). Contains (Memory ∷ fs) x) e c) (λ n. none_there (Memory ∷ fs) g n))

at_key_is_of_part : (key : List ℕ) (f : FlowFault) → IsTrue (is_of_part f) → IsTrue (is_of_part (at_key key f))
at_key_is_of_part key NotJson p = p
at_key_is_of_part key NotWhole p = p
at_key_is_of_part key (Missing missed) p = p
at_key_is_of_part key (WrongShape path) p = p
at_key_is_of_part key (BadId name) p = p
at_key_is_of_part key (LeftOut left) p = p
at_key_is_of_part key UnknownShell p = p
at_key_is_of_part key Memory p = p

pub stands_under : {A : Type 0} (key : List ℕ) (a : Checked A) (f g : FlowFault) → IsFault (at_key key f) g → Stands f a → Stands g (under key a)
unfolding Stands under IsFault
stands_under key (Ok a) f g i h =
    (either_is_of_part (at_key key f) g (at_key_is_of_part key f h.0) i, either_fault (at_key key f) g [] i (contains_map key (Memory ∷ []) f h.1))
stands_under key (Err fs) f g i h =
    (either_is_of_part (at_key key f) g (at_key_is_of_part key f h.0) i, either_fault (at_key key f) g (map (at_key key) fs) i (contains_map key (Memory ∷ fs) f h.1))

-- want of memory may stand anywhere
with_none : {A : Type 0} (m : Checked A) (f : FlowFault) → IsTrue (is_of_part f) → Contains (Memory ∷ []) f → Stands f m
unfolding Stands
with_none (Ok a) f p h = (p, h)
with_none (Err fs) f p h = (p, with_first Memory [] fs f (none_there fs f) h)

-- ---- what is read

pub ok_both : {A B : Type 0} (a : Checked A) (b : Checked B) (x : A) (y : B) → a ≡ Ok x → b ≡ Ok y → both a b ≡ Ok (x, y)
unfolding both
ok_both a b x y e h = rw (e, h) refl

pub ok_made : {A B : Type 0} (m : A → B) (a : Checked A) (x : A) → a ≡ Ok x → made m a ≡ Ok (m x)
unfolding made
ok_made m a x e = rw e refl

pub ok_under : {A : Type 0} (key : List ℕ) (a : Checked A) (x : A) → a ≡ Ok x → under key a ≡ Ok x
unfolding under
ok_under key a x e = rw e refl

-- ---- steps of distinct ids

pub stands_steps : (a : Checked (List StepPlan)) (f : FlowFault) → Stands f a → Stands f (with_distinct_ids a)
unfolding Stands with_distinct_ids made
stands_steps (Ok steps) f h = stands_made (λ _. steps) (distinct (step_ids steps)) f (with_none (distinct (step_ids steps)) f h.0 h.1)
stands_steps (Err fs) f h = h

pub stands_ids : (a : Checked (List StepPlan)) (steps : List StepPlan) (f : FlowFault) → a ≡ Ok steps → Stands f (distinct (step_ids steps)) → Stands f (with_distinct_ids a)
unfolding with_distinct_ids
stands_ids a steps f e h = rw e (stands_made (λ _. steps) (distinct (step_ids steps)) f h)

pub ok_steps : (a : Checked (List StepPlan)) (steps : List StepPlan) → a ≡ Ok steps → distinct (step_ids steps) ≡ Ok tt → with_distinct_ids a ≡ Ok steps
unfolding with_distinct_ids made
ok_steps a steps e h = rw (e, h) refl

-- all of what is left
left_steps : (steps : List StepPlan) (n : ℕ) → take (length steps - n) (drop n steps) ≡ drop n steps
left_steps steps n = take_all (length steps - n) (drop n steps) (omega (arith, length-drop n steps))

-- the id of the first of what is left stands again
pub stands_again : (steps : List StepPlan) (i : ℕ) (s : StepPlan) (id : List ℕ) (all : Checked ⊤) (f : FlowFault) → i < length steps → s ≡ get_or steps i s → s.id ≡ Some id
    → list_any (bytes_eq id) (step_ids (take (length steps - (i + 1)) (drop (i + 1) steps))) ≡ true → distinct (step_ids (drop i steps)) ≡ all → IsFault (BadId id) f → Stands f all
stands_again steps i s id all f w at is again inv h =
    let rest : List StepPlan = drop (i + 1) steps in
    let here : drop i steps ≡ s ∷ rest = drop_more steps i s w ∙ ap (λ (x : StepPlan). x ∷ rest) (sym at) in
    let later : list_any (bytes_eq id) (step_ids rest) ≡ true = ap (λ (l : List StepPlan). list_any (bytes_eq id) (step_ids l)) (sym (left_steps steps (i + 1))) ∙ again in
    let first : distinct (with_id (Some id) (step_ids rest)) ≡ bad (BadId id) = rw later refl in
    let named : distinct (with_id (Some id) (step_ids rest)) ≡ distinct (step_ids (drop i steps)) =
    ap (λ (o : Option (List ℕ)). distinct (with_id o (step_ids rest))) (sym is) ∙ ap (λ (l : List StepPlan). distinct (step_ids l)) (sym here) in
    subst (λ (m : Checked ⊤). Stands f m) (sym first ∙ named ∙ inv) (stands_bad ⊤ (BadId id) f refl h)
