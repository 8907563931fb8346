-- The workers of a play: the names that their passes keep, before the play, while it lasts and after it.
use Rattle.std.proofs.Common.{◌≡◌, ℕ, zero, suc, ◌+◌, ◌<◌, List, [], ◌∷◌, ◌++◌, map, take, drop, length, slice_index_or, Option, None, Some, IfSome, Vec, Global, refl, ap, subst, sym, ◌∙◌, arith}
use Rattle.std.specs.List.{All}
use Rattle.std.specs.Option.{option_or}
use Rattle.std.proofs.Math.Seq.{take-append_seam}
use Rattle.std.proofs.lemmas.List.{length-map, map-append}
use Rattle.std.proofs.lemmas.List.Elements.{All-pop, All-push, All-same}
use Rattle.status_table.specs.Words.{Answer, Entry, StepCall}
use Rattle.ready_queue.specs.Names.{Name}
use Rattle.ready_queue.specs.Passes.{TicketQueue, IsPassOf, records_of}
use Rattle.ready_queue.specs.Records.{DividesNames, KeepsNames, keepers}
use Rattle.ready_queue.specs.declared.pass.Pass.{Pass}
use Rattle.worker_pool.specs.Log.{AreAdmitted, Answered, HaltsFor, answers_of}
use Rattle.worker_pool.specs.Logs.{AreAnswered}
use Rattle.worker_pool.specs.Worker.{IsFit, crew_keepers}
use Rattle.worker_pool.specs.declared.halt.Halt.{Halt}
use Rattle.worker_pool.specs.declared.log.Log.{Log}
use Rattle.worker_pool.specs.declared.logs.Logs.{Logs}
use Rattle.worker_pool.specs.declared.worker.Worker.{Worker}
use Rattle.worker_pool.proofs.Logging.{answered_more}

module _ {N : Type 0} where
  keepers_last : (name : Name) (crew : List (Worker N)) (w : Worker N)
      → crew_keepers name (crew ++ w ∷ []) ≡ crew_keepers name crew + keepers name (records_of w.pass)
  keepers_last name [] w = omega (arith)
  keepers_last name (x ∷ crew) w = let later = keepers_last name crew w in omega (arith, later)

  -- a worker more, whose pass is split off the one that is left
  pub one_hired : (rest left : Pass) (crew all : List (Worker N)) (w : Worker N) → all ≡ crew ++ w ∷ []
      → DividesNames (records_of rest) (records_of left) (records_of w.pass)
      → ((name : Name) → keepers name (records_of rest) + crew_keepers name crew ≡ 1)
      → (name : Name) → keepers name (records_of left) + crew_keepers name all ≡ 1
  one_hired rest left crew all w is divides whole name =
      let grown = ap (crew_keepers name) is ∙ keepers_last name crew w in
      let parts = divides name in
      let one = whole name in
      omega (arith, grown, parts, one)

  -- the last worker's pass joined to the others
  pub one_gathered : (rest joined : Pass) (crew all : List (Worker N)) (w : Worker N) → all ≡ crew ++ w ∷ []
      → DividesNames (records_of joined) (records_of rest) (records_of w.pass)
      → ((name : Name) → keepers name (records_of rest) + crew_keepers name all ≡ 1)
      → (name : Name) → keepers name (records_of joined) + crew_keepers name crew ≡ 1
  one_gathered rest joined crew all w is divides whole name =
      let shrunk = ap (crew_keepers name) is ∙ keepers_last name crew w in
      let parts = divides name in
      let one = whole name in
      omega (arith, shrunk, parts, one)

  -- each worker's pass keeps its names, and so they all do
  pub names_kept : (olds news : List (Worker N)) → length olds ≡ length news
      → ((i : ℕ) (d : Worker N) → i < length olds → KeepsNames (records_of (slice_index_or olds i d).pass) (records_of (slice_index_or news i d).pass))
      → (name : Name) → crew_keepers name news ≡ crew_keepers name olds
  names_kept [] [] same each name = refl
  names_kept [] (y ∷ ys) same each name = absurd (omega (arith, same))
  names_kept (x ∷ xs) [] same each name = absurd (omega (arith, same))
  names_kept (x ∷ xs) (y ∷ ys) same each name =
      let first = each zero x (omega (arith)) name in
      let later = names_kept xs ys (omega (arith, same)) (λ i d lt. each (suc i) d (omega (arith, lt))) name in
      omega (arith, first, later)

module _ {N : Type 0} (admits : StepCall → Answer → Type 0) (queue : TicketQueue) where
  new_fit : (w : Worker N) → IsPassOf queue w.pass → w.log.entries.items ≡ [] → w.log.calls.items ≡ [] → IsFit admits queue w
  new_fit w of_queue entries calls = record {
    pass = of_queue;
    answered = subst (λ xs. AreAdmitted admits (answers_of w.log.entries.items) xs) (sym calls)
        (subst (λ es. AreAdmitted admits (answers_of es) []) (sym entries) tt);
  }

  -- a worker more, who has logged nothing
  pub fit_hired : (crew all : List (Worker N)) (w : Worker N) → all ≡ crew ++ w ∷ [] → All (IsFit admits queue) crew
      → IsPassOf queue w.pass → w.log.entries.items ≡ [] → w.log.calls.items ≡ [] → All (IsFit admits queue) all
  fit_hired crew all w is fit of_queue entries calls =
      All-same (IsFit admits queue) all (crew ++ w ∷ []) is (All-push (IsFit admits queue) crew w fit (new_fit w of_queue entries calls))

  -- all but the last are fit, and so is the last
  pub fit_left : (crew all : List (Worker N)) (w : Worker N) → all ≡ crew ++ w ∷ [] → All (IsFit admits queue) all → All (IsFit admits queue) crew × IsFit admits queue w
  fit_left crew all w is fit = All-pop (IsFit admits queue) all crew (Some w) is fit

-- the same of why they went no further
pub halts_left : {N : Type 0} (declines : StepCall → Type 0) (crew all : List (Worker N)) (w : Worker N) → all ≡ crew ++ w ∷ []
    → All (λ x. IfSome x.halt (HaltsFor declines)) all → All (λ x. IfSome x.halt (HaltsFor declines)) crew × IfSome w.halt (HaltsFor declines)
halts_left {N} declines crew all w is halts = All-pop (λ (x : Worker N). IfSome x.halt (HaltsFor declines)) all crew (Some w) is halts

-- the first of two
pub first_halt : (P : Halt → Type 0) (a b r : Option Halt) → r ≡ option_or a b → IfSome a P → IfSome b P → IfSome r P
first_halt P None b r is h k = subst (λ o. IfSome o P) (sym is) k
first_halt P (Some x) b r is h k = subst (λ o. IfSome o P) (sym is) h

entry_items : Vec Entry Global → List Entry
entry_items log = log.items

call_items : Vec StepCall Global → List StepCall
call_items log = log.items

-- the logs of one worker more
pub answered_gathered : (admits : StepCall → Answer → Type 0) (old new : Logs) (log : Log) → new.entries.items ≡ old.entries.items ++ log.entries ∷ []
    → new.calls.items ≡ old.calls.items ++ log.calls ∷ [] → length old.entries.items ≡ length old.calls.items
    → AreAnswered admits (map (λ log. log.items) old.entries.items) (map (λ log. log.items) old.calls.items) → Answered admits log.entries.items log.calls.items
    → AreAnswered admits (map (λ log. log.items) new.entries.items) (map (λ log. log.items) new.calls.items)
unfolding entry_items call_items
answered_gathered admits old new log entries calls same all more =
    let es : List (List Entry) = map entry_items old.entries.items in
    let cs : List (List StepCall) = map call_items old.calls.items in
    let long : length es ≡ length cs = length-map old.entries.items entry_items ∙ same ∙ sym (length-map old.calls.items call_items) in
    let grown : map entry_items new.entries.items ≡ es ++ log.entries.items ∷ [] = ap (map entry_items) entries ∙ map-append entry_items old.entries.items (log.entries ∷ []) in
    let called : map call_items new.calls.items ≡ cs ++ log.calls.items ∷ [] = ap (map call_items) calls ∙ map-append call_items old.calls.items (log.calls ∷ []) in
    subst (λ xs. AreAnswered admits xs (map call_items new.calls.items)) (sym grown)
    (subst (AreAnswered admits (es ++ log.entries.items ∷ [])) (sym called) (answered_more admits es cs log.entries.items log.calls.items long all more))

-- what is written back into a list of as many
pub written : {X : Type 0} (n : ℕ) (old new : List X) → n ≡ length old → length new ≡ length old → take n (new ++ drop (length new) old) ≡ new
written n old new long same = ap (λ m. take m (new ++ drop (length new) old)) (long ∙ sym same) ∙ take-append_seam new (drop (length new) old)
