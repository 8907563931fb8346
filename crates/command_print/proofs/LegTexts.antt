-- What is told of legs, of which some alone may differ from those before them.
use Rattle.std.proofs.Common.{◌≡◌, ◌<◌, ◌≤◌, ◌+◌, ◌-◌, ℕ, zero, suc, inl, List, [], ◌∷◌, ◌++◌, Option, Some, None, length, take, drop, slice_get, map, Result, Ok, Err, OnOk, String, string_bytes, refl, sym, ap, ◌∙◌, subst, append_assoc, append-nil, arith}
use Rattle.std.proofs.lemmas.List.{drop-map}
use Rattle.std.specs.List.{flat_map}
use Rattle.std.specs.declared.alloc.Global.{Global}
use Rattle.status_table.specs.Words.{Board, Job, Leg, LegPlace, Run, board_legs, leg_there, sizes, ◌>>=◌}
use Rattle.board_decisions.proofs.Lists.{no_some, same_some}
use Rattle.board_decisions.proofs.Placed.{leg_placed}
use Rattle.status_table.proofs.Numbers.{legs_are_numbered}
use Rattle.plan_text.specs.BoardText.{job_line}
use Rattle.plan_text.specs.Changes.{AddsOf, TellsJob, TellsJobs, TellsLeg, TellsLegs, ToldUnless, after_jobs}
use Rattle.command_print.specs.Touched.{IsIndexOf, RunsStand, TellsFound, between}
use Rattle.command_print.specs.declared.touched.Members.{Members}
use Rattle.command_print.specs.declared.touched.Touched.{Touched}
use Rattle.command_print.specs.declared.index.Index.{Index}

-- ---- a leg by its number

leg_by_place : (index : Index) (b : Board) (l : ℕ) → IsIndexOf index b → (slice_get index.legs.items l >>= leg_there b) ≡ slice_get (board_legs b) l
leg_by_place index b l is =
    ap (λ (ps : List LegPlace). slice_get ps l >>= leg_there b) is.legs
    ∙ ap (λ (place : Option LegPlace). place >>= leg_there b) (leg_placed b l)
    ∙ (legs_are_numbered b).there l

pub leg_there_of : (index : Index) (b : Board) (l : ℕ) (place : LegPlace) → IsIndexOf index b → Some place ≡ slice_get index.legs.items l → leg_there b place ≡ slice_get (board_legs b) l
leg_there_of index b l place is found = ap (λ (o : Option LegPlace). o >>= leg_there b) found ∙ leg_by_place index b l is

pub no_leg_of : (index : Index) (b : Board) (l : ℕ) → IsIndexOf index b → None ≡ slice_get index.legs.items l → None ≡ slice_get (board_legs b) l
no_leg_of index b l is found = ap (λ (o : Option LegPlace). o >>= leg_there b) found ∙ leg_by_place index b l is

-- what is told of a leg that was not there, that is not there, and that is there still
pub found_none : (l : ℕ) (was leg : Option Leg) (text : String Global) → None ≡ was → AddsOf (TellsFound l was leg) text text
found_none l was leg text is = ([], subst (λ (o : Option Leg). TellsFound l o leg []) is refl, sym (append-nil (string_bytes text)))

pub found_gone : (l : ℕ) (was leg : Option Leg) (text : String Global) → None ≡ leg → AddsOf (TellsFound l was leg) text text
found_gone l was leg text is = ([], subst (λ (o : Option Leg). TellsFound l was o []) is (none was), sym (append-nil (string_bytes text)))
  where
    none : (was : Option Leg) → TellsFound l was None []
    none None = refl
    none (Some w) = refl

pub found_both : {E : Type 0} (r : Result (Unit {0}) E) (l : ℕ) (was leg : Option Leg) (w x : Leg) (old new : String Global) → Some w ≡ was → Some x ≡ leg
    → OnOk r (AddsOf (TellsLeg l w x) old new) → OnOk r (AddsOf (TellsFound l was leg) old new)
found_both r l was leg w x old new was_is leg_is tells =
    subst (λ (o : Option Leg). OnOk r (AddsOf (TellsFound l o leg) old new)) was_is
    (subst (λ (o : Option Leg). OnOk r (AddsOf (TellsFound l (Some w) o) old new)) leg_is tells)

-- ---- legs one after the other

no-legs : (l : ℕ) (legs : List Leg) (told : List ℕ) → TellsLegs l [] legs told → told ≡ []
no-legs l [] told is = is
no-legs l (leg ∷ legs) told is = is

none-told : (l : ℕ) (legs : List Leg) (told : List ℕ) → told ≡ [] → TellsLegs l [] legs told
none-told l [] told is = is
none-told l (leg ∷ legs) told is = is

drop-there : {X : Type 0} (xs : List X) (n : ℕ) (x : X) → slice_get xs n ≡ Some x → drop n xs ≡ x ∷ drop (suc n) xs
drop-there [] n x is = absurd (no_some x is)
drop-there {X} (y ∷ ys) zero x is = ap (λ (z : X). z ∷ ys) (same_some y x is)
drop-there (y ∷ ys) (suc n) x is = drop-there ys n x is

drop-past : {X : Type 0} (xs : List X) (n : ℕ) → slice_get xs n ≡ None → drop n xs ≡ []
drop-past [] zero is = refl
drop-past [] (suc n) is = refl
drop-past (y ∷ ys) zero is = absurd (no_some y (sym is))
drop-past (y ∷ ys) (suc n) is = drop-past ys n is

drop-later : {X : Type 0} (xs : List X) (n : ℕ) → drop n xs ≡ [] → drop (suc n) xs ≡ []
drop-later [] n is = refl
drop-later (y ∷ ys) zero is = cc
drop-later (y ∷ ys) (suc n) is = drop-later ys n is

take-none : {X : Type 0} (n : ℕ) (xs : List X) → xs ≡ [] → take n xs ≡ []
take-none zero xs is = refl
take-none {X} (suc n) xs is = ap (λ (ys : List X). take (suc n) ys) is

between-there : (legs : List Leg) (n end : ℕ) (leg : Leg) → n < end → slice_get legs n ≡ Some leg → between n end legs ≡ leg ∷ between (n + 1) end legs
between-there legs n end leg within is =
    let more : end - n ≡ suc (end - (n + 1)) = omega (arith, within) in
    let next : suc n ≡ n + 1 = omega arith in
    ap (take (end - n)) (drop-there legs n leg is)
    ∙ ap (λ (k : ℕ). take k (leg ∷ drop (suc n) legs)) more
    ∙ ap (λ (k : ℕ). leg ∷ take (end - (n + 1)) (drop k legs)) next

between-past : (legs : List Leg) (n end : ℕ) → slice_get legs n ≡ None → between n end legs ≡ []
between-past legs n end is = take-none (end - n) (drop n legs) (drop-past legs n is)

between-after : (legs : List Leg) (n end : ℕ) → slice_get legs n ≡ None → between (n + 1) end legs ≡ []
between-after legs n end is =
    let next : suc n ≡ n + 1 = omega arith in
    take-none (end - (n + 1)) (drop (n + 1) legs) (ap (λ (k : ℕ). drop k legs) (sym next) ∙ drop-later legs n (drop-past legs n is))

module _ (before legs : List Leg) (end : ℕ) where
  -- what is told of the legs from a number on
  abbrev pub LegsFrom : ℕ → List ℕ → Type 0
  LegsFrom n told = TellsLegs n (between n end before) (between n end legs) told

  -- a leg is told, if there is one, and then those after it
  pub one-told : (n : ℕ) (one later : List ℕ) → n < end → TellsFound n (slice_get before n) (slice_get legs n) one → LegsFrom (n + 1) later → LegsFrom n (one ++ later)
  one-told n one later within found rest = by (slice_get before n) (slice_get legs n) refl refl found
    where
      by : (was leg : Option Leg) → slice_get before n ≡ was → slice_get legs n ≡ leg → TellsFound n was leg one → LegsFrom n (one ++ later)
      by None leg was_is is none =
          let after = no-legs (n + 1) (between (n + 1) end legs) later
          (subst (λ (bs : List Leg). TellsLegs (n + 1) bs (between (n + 1) end legs) later) (between-after before n end was_is) rest) in
          subst (λ (bs : List Leg). TellsLegs n bs (between n end legs) (one ++ later)) (sym (between-past before n end was_is))
          (none-told n (between n end legs) (one ++ later) (λ i. none i ++ after i))
      by (Some was) None was_is is none =
          let after : later ≡ [] = subst (λ (ls : List Leg). TellsLegs (n + 1) (between (n + 1) end before) ls later) (between-after legs n end is) rest in
          let all : one ++ later ≡ [] = λ i. none i ++ after i in
          subst (λ (ls : List Leg). TellsLegs n (between n end before) ls (one ++ later)) (sym (between-past legs n end is)) all
      by (Some was) (Some leg) was_is is tells =
          subst (λ (bs : List Leg). TellsLegs n bs (between n end legs) (one ++ later)) (sym (between-there before n end was within was_is))
          (subst (λ (ls : List Leg). TellsLegs n (was ∷ between (n + 1) end before) ls (one ++ later)) (sym (between-there legs n end leg within is))
          (one, later, tells, rest, refl))

  same-told : (n : ℕ) (was leg : Option Leg) → leg ≡ was → TellsFound n was leg []
  same-told n None leg is = refl
  same-told n (Some was) None is = absurd (no_some was is)
  same-told n (Some was) (Some leg) is =
      let same : was ≡ leg = sym (same_some leg was is) in
      inl (
        record {
          state = ap (λ (x : Leg). x.state) same;
          stop = ap (λ (x : Leg). x.stop) same;
          group = ap (λ (x : Leg). x.group) same;
          steps = ap (λ (x : Leg). length x.steps) same;
          outputs = ap (λ (x : Leg). x.outputs) same;
        },
        refl,
      )

  -- nothing is told of legs that are the same
  pub skipped : (d n : ℕ) (later : List ℕ) → n + d ≤ end → ((l : ℕ) → n ≤ l → l < n + d → slice_get legs l ≡ slice_get before l) → LegsFrom (n + d) later → LegsFrom n later
  skipped zero n later within same rest =
      let here : n + 0 ≡ n = omega arith in
      subst (λ (k : ℕ). LegsFrom k later) here rest
  skipped (suc d) n later within same rest =
      let next : n + suc d ≡ n + 1 + d = omega arith in
      one-told n [] later (omega (arith, within)) (same-told n (slice_get before n) (slice_get legs n) (same n (omega arith) (omega arith)))
      (skipped d (n + 1) later (omega (arith, within)) (λ l low high. same l (omega (arith, low)) (omega (arith, high)))
      (subst (λ (k : ℕ). LegsFrom k later) next rest))

  -- up to a number: whatever is told of the others, all is told by it after what was added
  abbrev pub ToldUpTo : ℕ → ℕ → String Global → String Global → Type 0
  ToldUpTo first n old new = AddsOf (λ done. (later : List ℕ) → LegsFrom n later → LegsFrom first (done ++ later)) old new

  pub skip-to : (first n next : ℕ) (old new : String Global) → n ≤ next → next ≤ end → ((l : ℕ) → n ≤ l → l < next → slice_get legs l ≡ slice_get before l)
      → ToldUpTo first n old new → ToldUpTo first next old new
  skip-to first n next old new low high same (done, goes, is) =
      let there : n + (next - n) ≡ next = omega (arith, low) in (
        done,
        λ later rest. goes later
            (skipped (next - n) n later (omega (arith, low, high)) (λ l from to. same l from (omega (arith, low, to)))
            (subst (λ (k : ℕ). LegsFrom k later) (sym there) rest)),
        is,
      )

  pub next-told : (first n : ℕ) (old mid new : String Global) → n < end → ToldUpTo first n old mid → AddsOf (TellsFound n (slice_get before n) (slice_get legs n)) mid new
      → ToldUpTo first (n + 1) old new
  next-told first n old mid new within (done, goes, is) (one, tells, more) = (
    done ++ one,
    λ later rest. subst (LegsFrom first) (sym (append_assoc done one later)) (goes (one ++ later) (one-told n one later within tells rest)),
    more ∙ ap (λ (l : List ℕ). l ++ one) is ∙ append_assoc (string_bytes old) done one,
  )

  pub none-yet : (first : ℕ) (old : String Global) → ToldUpTo first first old old
  none-yet first old = ([], λ later rest. rest, sym (append-nil (string_bytes old)))

  pub all-told : (first n : ℕ) (old new : String Global) → end ≤ n → ToldUpTo first n old new → AddsOf (LegsFrom first) old new
  all-told first n old new over (done, goes, is) =
      let none : end - n ≡ 0 = omega (arith, over) in
      let no_legs : between n end legs ≡ [] = ap (λ (k : ℕ). take k (drop n legs)) none in
      (done, subst (LegsFrom first) (append-nil done) (goes [] (subst (λ (ls : List Leg). TellsLegs n (between n end before) ls []) (sym no_legs) refl)), is)

-- ---- the legs of jobs

-- what is told of legs is told of those before a place, and of the others
legs-apart : (l : ℕ) (was before legs later : List Leg) (told : List ℕ) → length was ≡ length legs → TellsLegs l (was ++ before) (legs ++ later) told
    → (one rest : List ℕ) × TellsLegs l was legs one × TellsLegs (l + length legs) before later rest × (told ≡ one ++ rest)
legs-apart l [] before [] later told size tells =
    let here : l ≡ l + 0 = omega arith in
    ([], told, refl, subst (λ (k : ℕ). TellsLegs k before later told) here tells, refl)
legs-apart l [] before (leg ∷ legs) later told size tells = absurd (omega (arith, size))
legs-apart l (x ∷ was) before [] later told size tells = absurd (omega (arith, size))
legs-apart l (x ∷ was) before (leg ∷ legs) later told size (first, others, tells, more, is) =
    let after = legs-apart (l + 1) was before legs later others (omega (arith, size)) more in
    let next : l + 1 + length legs ≡ l + suc (length legs) = omega arith in (
      first ++ after.0,
      after.1,
      (first, after.0, tells, after.2, refl),
      subst (λ (k : ℕ). TellsLegs k before later after.1) next after.3,
      is ∙ ap (λ (t : List ℕ). first ++ t) after.4 ∙ sym (append_assoc first after.0 after.1),
    )

-- of jobs whose states are the same only what is told of their legs
pub jobs-told : (first : ℕ × ℕ) (was jobs : List Job) (told : List ℕ) → sizes was ≡ sizes jobs → map (λ job. job.state) jobs ≡ map (λ job. job.state) was
    → TellsLegs first.1 (flat_map (λ job. job.legs) was) (flat_map (λ job. job.legs) jobs) told → TellsJobs first was jobs told
jobs-told first [] [] told size same tells = tells
jobs-told first [] (job ∷ jobs) told size same tells = absurd (cc)
jobs-told first (w ∷ was) [] told size same tells = absurd (cc)
jobs-told first (w ∷ was) (job ∷ jobs) told size same tells =
    let state : job.state ≡ w.state = cc in
    let states : map (λ (x : Job). x.state) jobs ≡ map (λ (x : Job). x.state) was = cc in
    let legs : length w.legs ≡ length job.legs = cc in
    let others : sizes was ≡ sizes jobs = cc in
    let apart = legs-apart first.1 w.legs (flat_map (λ (x : Job). x.legs) was) job.legs (flat_map (λ (x : Job). x.legs) jobs) told legs tells in (
      apart.0,
      apart.1,
      ([], apart.0, inl (sym state, refl), apart.2, refl),
      jobs-told (first.0 + 1, first.1 + length job.legs) was jobs apart.1 others states apart.3,
      apart.4,
    )

-- nothing is told of legs that are the same
pub same-legs : (l : ℕ) (legs : List Leg) → TellsLegs l legs legs []
same-legs l [] = refl
same-legs l (leg ∷ legs) =
    ([], [], inl (record { state = refl; stop = refl; group = refl; steps = refl; outputs = refl }, refl), same-legs (l + 1) legs, refl)

-- where the legs of jobs are the same only their lines are told
pub job-alone : (first : ℕ × ℕ) (number : ℕ) (was job : Job) (old new : String Global) → number ≡ first.0 → job.legs ≡ was.legs
    → AddsOf (ToldUnless (was.state ≡ job.state) (job_line number job)) old new → AddsOf (TellsJob first was job) old new
job-alone first number was job old new is same (one, tells, more) = (
  one,
  (
    one,
    [],
    subst (λ (n : ℕ). ToldUnless (was.state ≡ job.state) (job_line n job) one) is tells,
    subst (λ (legs : List Leg). TellsLegs first.1 legs job.legs []) same (same-legs first.1 job.legs),
    sym (append-nil one),
  ),
  more,
)

pub legs-at : (jobs before : List Job) (i : ℕ) (job was : Job) → map (λ job. job.legs) jobs ≡ map (λ job. job.legs) before → drop i jobs ≡ job ∷ drop (i + 1) jobs
    → drop i before ≡ was ∷ drop (i + 1) before → job.legs ≡ was.legs
legs-at jobs before i job was same job_is was_is =
    let legs = λ (x : Job). x.legs in
    let both : job.legs ∷ map legs (drop (i + 1) jobs) ≡ was.legs ∷ map legs (drop (i + 1) before) =
    sym (ap (map legs) job_is) ∙ sym (drop-map legs i jobs) ∙ ap (drop i) same ∙ drop-map legs i before ∙ ap (map legs) was_is in
    cc

-- what is told of the legs of a run is told of its jobs
pub run-told : {E : Type 0} (r : Result (Unit {0}) E) (members : Members) (first next : ℕ × ℕ) (before board : Board) (was run : Run) (old new : String Global)
    → RunsStand (Touched.Legs members) first before board was run → next ≡ after_jobs first run.jobs
    → OnOk r (AddsOf (TellsLegs first.1 (between first.1 next.1 (board_legs before)) (between first.1 next.1 (board_legs board))) old new)
    → OnOk r (AddsOf (TellsJobs first was.jobs run.jobs) old new)
run-told (Ok done) members first next before board was run old new stand is (told, tells, more) =
    let here = subst (λ (n : ℕ × ℕ). TellsLegs first.1 (between first.1 n.1 (board_legs before)) (between first.1 n.1 (board_legs board)) told) is tells in
    let mine = subst (λ (legs : List Leg). TellsLegs first.1 (between first.1 (after_jobs first run.jobs).1 (board_legs before)) legs told) stand.legs here in
    let both = subst (λ (legs : List Leg). TellsLegs first.1 legs (flat_map (λ (x : Job). x.legs) run.jobs) told) stand.legs_before mine in
    (told, jobs-told first was.jobs run.jobs told stand.size stand.keeps both, more)
run-told (Err e) members first next before board was run old new stand is tells = tt
