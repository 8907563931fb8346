-- The steps for which a program was started, counted in a history.
use Rattle.std.proofs.Common.{◌≡◌, ℕ, ◌+◌, ◌-◌, ◌<◌, List, [], ◌∷◌, ◌++◌, flat_map, length, take, get_or, refl, ap, sym, ◌∙◌}
use Rattle.std.proofs.lemmas.List.Concat.{flat_map-append}
use Rattle.status_table.specs.Words.{Entry, Event}
use Rattle.step_host.specs.Counted.{begun, answer_counted, counted}
use Rattle.step_host.proofs.Counted.{counted-next}
use Rattle.command_run.specs.StepLogs.{started_step, started_by}

-- where as many steps are begun, the same step ends
same_by : (f g : ℕ → ℕ) (e : Event) → ((l : ℕ) → f l ≡ g l) → started_by f e ≡ started_by g e
same_by f g (Event.Open r) h = refl
same_by f g (Event.Judge j) h = refl
same_by f g (Event.Ask l) h = refl
same_by f g (Event.Drop l) h = refl
same_by f g (Event.Take l) h = refl
same_by f g (Event.Begin l) h = refl
same_by f g (Event.End l a) h = ap (λ n. flat_map started_step ((l, n - 1, a) ∷ [])) (h l)
same_by f g (Event.Finish l) h = refl
same_by f g (Event.Close r) h = refl
same_by f g (Event.Cancel r) h = refl

-- one entry more of a history
pub started_on : (many : ℕ → ℕ) (es : List Entry) (k : ℕ) (e : Entry) (steps more : List (ℕ × ℕ)) → k < length es → e ≡ get_or es k e
    → ((l : ℕ) → many l ≡ begun l (take k es)) → steps ≡ flat_map started_step (counted (take k es)) → more ≡ steps ++ started_by many e.event
    → more ≡ flat_map started_step (counted (take (k + 1) es))
started_on many es k e steps more within is counts lists added =
    added
    ∙ ap (λ (ss : List (ℕ × ℕ)). ss ++ started_by many e.event) lists
    ∙ ap (λ (ss : List (ℕ × ℕ)). flat_map started_step (counted (take k es)) ++ ss) (same_by many (λ l. begun l (take k es)) e.event counts)
    ∙ sym (flat_map-append started_step (counted (take k es)) (answer_counted (λ l. begun l (take k es)) e.event))
    ∙ ap (flat_map started_step) (sym (counted-next es k e within is))
