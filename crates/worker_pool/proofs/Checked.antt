-- What is answered of a play is of the entries that were accepted, as far as they were checked.
use Rattle.std.proofs.Common.{◌≡◌, ℕ, List, [], take, drop, Err, subst, sym, ◌∙◌, append-nil, take-append-drop}
use Rattle.status_table.specs.Words.{Entry}
use Rattle.worker_pool.specs.PoolStop.{fault_after}
use Rattle.worker_pool.specs.Told.{Begins, IsAnswerOf, WasTold, WasToldAll}
use Rattle.worker_pool.specs.declared.fault.PoolFault.{PoolFault}
use Rattle.worker_pool.specs.declared.stop.PoolStop.{PoolStop}

-- the first entries of a list
first_begin : (es : List Entry) (k : ℕ) → Begins (take k es) es
first_begin es k = (drop k es, sym (take-append-drop k es))

stopped_answer : (s : PoolStop) (es : List Entry) (k : ℕ) → IsAnswerOf es (Err (fault_after s (take k es)))
stopped_answer (PoolStop.NoAnswer l step) es k = first_begin es k
stopped_answer PoolStop.Mismatch es k = first_begin es k
stopped_answer PoolStop.Memory es k = first_begin es k

pub is_answer : (s : PoolStop) (es checked : List Entry) (k : ℕ) (fault : PoolFault) → fault ≡ fault_after s checked → checked ≡ take k es → IsAnswerOf es (Err fault)
is_answer s es checked k fault is first =
    subst (λ (f : PoolFault). IsAnswerOf es (Err f)) (sym is)
    (subst (λ (xs : List Entry). IsAnswerOf es (Err (fault_after s xs))) (sym first) (stopped_answer s es k))

-- ---- a play that could not begin

begins_nothing : (es : List Entry) → es ≡ [] → Begins es []
begins_nothing es none = ([], sym none ∙ sym (append-nil es))

pub told_of_nothing : (told : List Entry → Type 0) (es : List Entry) (fault : PoolFault) → told [] → es ≡ [] → fault ≡ fault_after PoolStop.Memory es → WasTold told (Err fault)
told_of_nothing told es fault h none is = ([], h, subst (λ (f : PoolFault). IsAnswerOf [] (Err f)) (sym is) (begins_nothing es none))

pub told_of_nothing_alone : (told : List Entry → Type 0) (es : List Entry) (fault : PoolFault) → told [] → es ≡ [] → fault ≡ fault_after PoolStop.Memory es
    → WasToldAll told (Err fault)
told_of_nothing_alone told es fault h none is = subst (λ (f : PoolFault). WasToldAll told (Err f)) (sym is) (subst told (sym none) h)
