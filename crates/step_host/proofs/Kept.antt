-- The answers that are kept for the lines of a script.
use Rattle.std.proofs.Common.{◌≡◌, ◌↔◌, ℕ, arith, Bool, true, false, cond, List, [], ◌∷◌, ◌++◌, Option, Some, None, Err, length, slice_get, refl, ap, sym, subst, ◌∙◌}
use Rattle.std.proofs.lemmas.Bool.{true≢false}
use Rattle.std.proofs.lemmas.Cmp.{ranked}
use Rattle.std.proofs.lemmas.List.{append_assoc}
use Rattle.std.proofs.lemmas.Option.{slice_get_within}
use Rattle.std.specs.BTreeMap.{is_at}
use Rattle.std.specs.Cmp.{nat_cmp_is}
use Rattle.std.specs.Ordering.{nat_cmp, ordering_then, is_eq}
use Rattle.std.specs.declared.cmp.Ordering.{Ordering}
use Rattle.std.specs.declared.cmp.Ordering.TheVariants.{Less, Equal, Greater}
use Rattle.status_table.specs.Words.{Answer, is_well_formed}
use Rattle.board_decisions.proofs.Lists.{no_some, same_some}
use Rattle.step_host.specs.declared.fault.ScriptFault.{ScriptFault}
use Rattle.step_host.specs.declared.fault.ScriptFault.TheVariants.{BadScript, Memory}
use Rattle.step_host.specs.Entries.{KeptAnswer, step_cmp, kept_for, AreWellFormed, KeepsLine, Keeps}
use Rattle.step_host.specs.Script.{Line, IsListed, IsScript, Refuses}
use Rattle.step_host.proofs.Scripts.{AtEnd, at_end, before, last, get-last, get-front, append-none, IsFree, script-last}

-- ---- the order of steps

-- one step stands where another does only where it is that step
at-true : (x y : ℕ × ℕ) → is_at (step_cmp x) y ≡ true → (x.0 ≡ y.0) × (x.1 ≡ y.1)
at-true x y = by (nat_cmp x.0 y.0) (nat_cmp x.1 y.1) refl refl
  where
    by : (r s : Ordering) → r ≡ nat_cmp x.0 y.0 → s ≡ nat_cmp x.1 y.1 → is_eq (ordering_then r s) ≡ true → (x.0 ≡ y.0) × (x.1 ≡ y.1)
    by Less s m n h = absurd (true≢false (sym h))
    by Greater s m n h = absurd (true≢false (sym h))
    by Equal Less m n h = absurd (true≢false (sym h))
    by Equal Greater m n h = absurd (true≢false (sym h))
    by Equal Equal m n h = (ranked x.0 y.0 Equal m, ranked x.1 y.1 Equal n)

at-self : (x : ℕ × ℕ) → is_at (step_cmp x) x ≡ true
at-self x = rw (sym (nat_cmp_is x.0 x.0 Equal refl), sym (nat_cmp_is x.1 x.1 Equal refl)) refl

-- ---- what is kept is what is listed

pub record Keeping (lines : List Line) (entries : List KeptAnswer) : Type 0 where
  pub script : IsScript lines
  pub listed : (leg step : ℕ) (a : Answer) → kept_for entries (leg, step) ≡ Some a ↔ IsListed lines leg step a

module _ (lines : List Line) (old new : List KeptAnswer) (line : Line) (keeping : Keeping lines old) (keeps : KeepsLine old line new) where
  free : IsFree lines line.0 line.1
  free k other there leg_is step_is =
      let had = (keeping.listed other.0 other.1 other.2).1 (k, there) in
      no_some other.2 (sym keeps.free ∙ ap (λ i. kept_for old (i, line.1)) (sym leg_is) ∙ ap (λ i. kept_for old (other.0, i)) (sym step_is) ∙ had)

  -- what is kept now is the line, or was kept before
  to_listed : (leg step : ℕ) (a : Answer) (c : Bool) → is_at (step_cmp (line.0, line.1)) (leg, step) ≡ c → cond c (Some line.2) (kept_for old (leg, step)) ≡ Some a
      → IsListed (lines ++ line ∷ []) leg step a
  to_listed leg step a false is h =
      let there = (keeping.listed leg step a).0 h in
      (there.0, get-front lines (line ∷ []) there.0 (leg, step, a) there.1)
  to_listed leg step a true is h =
      let same = at-true (line.0, line.1) (leg, step) is in
      let answer = same_some line.2 a h in
      let whole : line ≡ (leg, step, a) = λ i. (same.0 i, same.1 i, answer i) in
      (length lines, get-last lines line [] ∙ ap (λ x. Some x) whole)

  kept_line : (leg step : ℕ) (a : Answer) (k : ℕ) → AtEnd Line lines line k (leg, step, a) → kept_for new (leg, step) ≡ Some a
  kept_line leg step a k (before there) = keeps.kept (leg, step) ∙ by (is_at (step_cmp (line.0, line.1)) (leg, step)) refl
    where
      by : (c : Bool) → is_at (step_cmp (line.0, line.1)) (leg, step) ≡ c → cond c (Some line.2) (kept_for old (leg, step)) ≡ Some a
      by false is = (keeping.listed leg step a).1 (k, there)
      by true is = let same = at-true (line.0, line.1) (leg, step) is in absurd (free k (leg, step, a) there (sym same.0) (sym same.1))
  kept_line leg step a k (last at is) =
      subst (λ (x : Line). kept_for new (x.0, x.1) ≡ Some x.2) is
      (keeps.kept (line.0, line.1) ∙ ap (λ c. cond c (Some line.2) (kept_for old (line.0, line.1))) (at-self (line.0, line.1)))

  pub keeping-next : Keeping (lines ++ line ∷ []) new
  keeping-next = record {
    script = script-last lines line.0 line.1 line.2 keeping.script keeps.well_formed free;
    listed = λ leg step a. (
      λ h. to_listed leg step a (is_at (step_cmp (line.0, line.1)) (leg, step)) refl (sym (keeps.kept (leg, step)) ∙ h),
      λ h. kept_line leg step a h.0 (at_end lines line h.0 (leg, step, a) h.1),
    );
  }

-- where a line cannot be kept, no list that goes on from there is a script
pub not_kept : (lines : List Line) (old : List KeptAnswer) (line : Line) (more : List Line) → Keeping lines old
    → (is_well_formed line.2 ≡ true → kept_for old (line.0, line.1) ≡ None → ⊥) → IsScript (lines ++ line ∷ more) → ⊥
not_kept lines old line more keeping refused script =
    refused (script.well_formed (length lines) line (get-last lines line more)) (by (kept_for old (line.0, line.1)) refl)
  where
    by : (o : Option Answer) → kept_for old (line.0, line.1) ≡ o → o ≡ None
    by None is = refl
    by (Some a) is =
        let there = (keeping.listed line.0 line.1 a).0 is in
        let at = script.once there.0 (length lines) (line.0, line.1, a) line (get-front lines (line ∷ more) there.0 (line.0, line.1, a) there.1) (get-last lines line more) refl refl in
        absurd (apart there.0 there.1 at)
      where
        apart : (k : ℕ) → slice_get lines k ≡ Some (line.0, line.1, a) → k ≡ length lines → ⊥
        apart k there at = let within = slice_get_within lines k (line.0, line.1, a) there in omega (arith, within, at)

-- what is kept for the lines of a script is well-formed
pub kept_well_formed : (lines : List Line) (entries : List KeptAnswer) → Keeping lines entries → AreWellFormed entries
kept_well_formed lines entries keeping step a h =
    let there = (keeping.listed step.0 step.1 a).0 h in
    keeping.script.well_formed there.0 (step.0, step.1, a) there.1

-- the fault for a line that could not be kept is that of all lines
pub faults : (lines : List Line) (old : List KeptAnswer) (line : Line) (more : List Line) (new : List KeptAnswer) (all : List Line)
    (fault : ScriptFault) → Keeping lines old → lines ++ line ∷ more ≡ all → Keeps old line (Err fault) new → Refuses all fault
faults lines old line more new all BadScript keeping is h =
    λ script. not_kept lines old line more keeping h (subst IsScript (sym is) script)
faults lines old line more new all Memory keeping is h = tt

-- where no line is left, those that were kept are all
pub all_kept : (lines left all : List Line) (entries : List KeptAnswer) → Keeping lines entries → lines ++ left ≡ all → length left ≡ 0 → Keeping all entries
all_kept lines [] all entries keeping is none = subst (λ (xs : List Line). Keeping xs entries) (sym (append-none lines) ∙ is) keeping
all_kept lines (x ∷ xs) all entries keeping is none = absurd (omega (arith, none))

-- the lines so far with one more, and those that are left
pub one_more : (lines left rest all : List Line) (line : Line) → lines ++ left ≡ all → left ≡ line ∷ rest → (lines ++ line ∷ []) ++ rest ≡ all
one_more lines left rest all line is step = append_assoc lines (line ∷ []) rest ∙ ap (λ xs. lines ++ xs) (sym step) ∙ is
