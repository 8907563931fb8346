-- Logs that are told one after the other.
use Rattle.std.proofs.Common.{◌≡◌, ℕ, suc, ◌+◌, ◌<◌, ◌≤◌, List, [], ◌∷◌, ◌++◌, take, drop, length, get_or, flat_map, Option, None, Ok, Err, inl, inr, Bool, true, false, refl, sym, ap, ◌∙◌, subst, append_assoc, append-nil, take-append-drop, add-one, take_all}
use Rattle.std.proofs.Math.Seq.{drop-cons, take-suc}
use Rattle.std.specs.Prelude.{IsErr}
use Rattle.std.specs.declared.alloc.AllocError.{AllocError}
use Rattle.status_table.specs.Words.{Entry, Plan}
use Rattle.command_io.proofs.Known.{Appends-kept, Appends-nothing, Appends-then}
use Rattle.command_io.proofs.Told.{IsKept-same}
use Rattle.command_io.specs.Stream.{Stream, IsCutOff, IsKept, IsWritten, Puts}
use Rattle.flow_commands.specs.Logs.{Log, logs_text}
use Rattle.plan_text.specs.Record.{record_text}
use Rattle.command_run.specs.PlanMasks.{plan_masks}
use Rattle.command_run.specs.RecordFile.{Keeping, RecordKept, Writes}
use Rattle.command_run.specs.Run.{PutsPlayed}
use Rattle.command_run.specs.StepLogs.{AreAdded, AreLogsOf, Gives, IsBegun, PutsLog, PutsLogs, PutsShown, PutsText, ShowsLog, ShowsLogs, Written, files_of, in_folder, is_whole, started_step}
use Rattle.step_host.specs.Replay.{recorded}

-- ---- pieces of a text

-- a piece that is cut off after others cuts off the whole
cut_after : (a b c : Stream) (before piece after whole : List ℕ) → IsWritten a b before → IsCutOff b c piece → whole ≡ before ++ (piece ++ after)
    → IsCutOff a c whole
cut_after a b c before piece after whole written cut is =
    let (kept, failed) = cut in (
      record {
        part = before ++ kept.part;
        rest = kept.rest ++ after;
        whole = is ∙ ap (λ (l : List ℕ). before ++ (l ++ after)) kept.whole ∙ ap (λ (l : List ℕ). before ++ l) (append_assoc kept.part kept.rest after)
            ∙ sym (append_assoc before kept.part (kept.rest ++ after));
        appended = Appends-then _ _ _ before kept.part written.0 kept.appended;
      },
      failed,
    )

-- a piece that is begun after others begins the whole
pub part_after : (a b c : Stream) (before piece after whole : List ℕ) → IsWritten a b before → IsBegun b c piece → whole ≡ before ++ (piece ++ after)
    → IsBegun a c whole
part_after a b c before piece after whole written begun is =
    let (kept, failed) = begun in (
      record {
        part = before ++ kept.part;
        rest = kept.rest ++ after;
        whole = is ∙ ap (λ (l : List ℕ). before ++ (l ++ after)) kept.whole ∙ ap (λ (l : List ℕ). before ++ l) (append_assoc kept.part kept.rest after)
            ∙ sym (append_assoc before kept.part (kept.rest ++ after));
        appended = Appends-then _ _ _ before kept.part written.0 kept.appended;
      },
      failed ∙ written.1,
    )

-- where nothing follows a piece, the whole is begun
pub begun_after : (a b c : Stream) (before after whole : List ℕ) → IsWritten a b before → IsKept b c → whole ≡ before ++ after → IsBegun a c whole
begun_after a b c before after whole written kept is =
    (record { part = before; rest = after; whole = is; appended = Appends-kept _ _ _ before written.0 kept.0 }, kept.1 ∙ written.1)

-- a text with more behind it
pub more_behind : (a b c : Stream) (text more : List ℕ) (whole : Bool) → IsWritten a b text → Puts b c more whole → PutsText a c (text ++ more) (Ok whole)
more_behind a b c text more true written put = (Appends-then _ _ _ text more written.0 put.0, put.1 ∙ written.1)
more_behind a b c text more false written put = cut_after a b c text more [] (text ++ more) written put (ap (λ (l : List ℕ). text ++ l) (sym (append-nil more)))

cut_before : (a b : Stream) (text more : List ℕ) → IsCutOff a b text → PutsText a b (text ++ more) (Ok false)
cut_before a b text more cut =
    let (kept, failed) = cut in (
      record {
        part = kept.part;
        rest = kept.rest ++ more;
        whole = ap (λ (l : List ℕ). l ++ more) kept.whole ∙ append_assoc kept.part kept.rest more;
        appended = kept.appended;
      },
      failed,
    )

pub begun_before : (a b : Stream) (text more : List ℕ) (e : AllocError) → IsBegun a b text → PutsText a b (text ++ more) (Err e)
begun_before a b text more e begun =
    let (kept, failed) = begun in (
      record {
        part = kept.part;
        rest = kept.rest ++ more;
        whole = ap (λ (l : List ℕ). l ++ more) kept.whole ∙ append_assoc kept.part kept.rest more;
        appended = kept.appended;
      },
      failed,
    )

-- ---- the logs of steps

-- What a log gives is also what it begins with, or that is nothing.
pub record AreBegun (gives : Gives) : Type 0 where
  pub none : (step : ℕ × ℕ) → gives step false None
  pub part : (step : ℕ × ℕ) (given : Option (List ℕ)) → gives step true given → gives step false given

pub files_begun : {L : Type 0} (logs : Option L → List ℕ → Type 0) (seen : L → Stream) (work : List ℕ) → AreBegun (in_folder (files_of logs seen) work)
files_begun logs seen work = record { none = λ step. inr tt; part = λ step given is. inl is }

logs_append : (gives : Gives) (whole : Bool) (first steps : List (ℕ × ℕ)) (logs more : List Log) → AreLogsOf gives whole first logs → AreLogsOf gives whole steps more
    → AreLogsOf gives whole (first ++ steps) (logs ++ more)
logs_append gives whole [] steps [] more of next = next
logs_append gives whole [] steps (log ∷ logs) more of next = absurd of
logs_append gives whole (step ∷ first) steps [] more of next = absurd of
logs_append gives whole (step ∷ first) steps (log ∷ logs) more (leg, is, of) next = (leg, is, logs_append gives whole first steps logs more of next)

logs_part : (gives : Gives) (steps : List (ℕ × ℕ)) (logs : List Log) → AreBegun gives → AreLogsOf gives true steps logs → AreLogsOf gives false steps logs
logs_part gives [] [] begun of = tt
logs_part gives [] (log ∷ logs) begun of = of
logs_part gives (step ∷ steps) [] begun of = of
logs_part gives (step ∷ steps) (log ∷ logs) begun (leg, is, of) = (leg, begun.part step log.1 is, logs_part gives steps logs begun of)

-- logs that were not read
unread : List (ℕ × ℕ) → List Log
unread [] = []
unread (step ∷ steps) = (step.0, None) ∷ unread steps

unread_of : (gives : Gives) (steps : List (ℕ × ℕ)) → AreBegun gives → AreLogsOf gives false steps (unread steps)
unfolding unread
unread_of gives [] begun = tt
unread_of gives (step ∷ steps) begun = (refl, begun.none step, unread_of gives steps begun)

-- ---- the logs so far

-- The logs of these steps were told, and the masks that they added are kept.
pub record ToldSoFar (gives : Gives) (given : List (List ℕ)) (steps : List (ℕ × ℕ)) (by : ℕ → List (List ℕ)) (out out' : Stream) : Type 0 where
  pub logs : List Log
  pub of : AreLogsOf gives true steps logs
  pub added : List (ℕ × List ℕ)
  pub kept : AreAdded by added
  pub text : List ℕ
  pub is : (rest : List Log) → logs_text given [] (logs ++ rest) ≡ text ++ logs_text given added rest
  pub written : IsWritten out out' text

pub none_told : (gives : Gives) (given : List (List ℕ)) (by : ℕ → List (List ℕ)) (out : Stream) → ((leg : ℕ) → by leg ≡ []) → ToldSoFar gives given [] by out out
none_told gives given by out none = record {
  logs = [];
  of = tt;
  added = [];
  kept = none;
  text = [];
  is = λ rest. refl;
  written = (Appends-nothing out.bytes, refl);
}

-- one more was told
more_told : (gives : Gives) (given : List (List ℕ)) (steps : List (ℕ × ℕ)) (step : ℕ × ℕ) (by by' : ℕ → List (List ℕ)) (a b c : Stream) → ToldSoFar gives given steps by a b
    → PutsLog (gives step) given step.0 by by' b c (Ok true) → ToldSoFar gives given (steps ++ step ∷ []) by' a c
more_told gives given steps step by by' a b c told puts =
    let (added', keeps, shown, shows, put) = puts told.added told.kept in
    let log : Log = (step.0, shows.bytes) in
    record {
      logs = told.logs ++ log ∷ [];
      of = logs_append gives true steps (step ∷ []) told.logs (log ∷ []) told.of (refl, shows.of, tt);
      added = added';
      kept = keeps;
      text = told.text ++ shown;
      is = λ rest. ap (logs_text given []) (append_assoc told.logs (log ∷ []) rest) ∙ told.is (log ∷ rest)
          ∙ ap (λ t. told.text ++ t) (shows.is rest) ∙ sym (append_assoc told.text shown (logs_text given added' rest));
      written = (Appends-then _ _ _ told.text shown told.written.0 put.0, put.1 ∙ told.written.1);
    }

-- all were told
all_told : (gives : Gives) (given : List (List ℕ)) (steps : List (ℕ × ℕ)) (by : ℕ → List (List ℕ)) (a b : Stream) → ToldSoFar gives given steps by a b
    → PutsLogs gives given steps a b (Ok true)
all_told gives given steps by a b told = record {
  logs = told.logs;
  of = told.of;
  puts = subst (λ (t : List ℕ). IsWritten a b t)
      (sym (ap (logs_text given []) (sym (append-nil told.logs)) ∙ told.is [] ∙ append-nil told.text)) told.written;
}

-- one was told in part, and the others are not told
ended_told : (gives : Gives) (given : List (List ℕ)) (steps : List (ℕ × ℕ)) (step : ℕ × ℕ) (rest all : List (ℕ × ℕ)) (by : ℕ → List (List ℕ)) (added' : List (ℕ × List ℕ))
    (shown : List ℕ) (a b c : Stream) (how : Written) → AreBegun gives → is_whole how ≡ false → (told : ToldSoFar gives given steps by a b)
    → ShowsLog (gives step false) given step.0 told.added added' shown → all ≡ steps ++ step ∷ rest
    → ((after whole : List ℕ) → whole ≡ told.text ++ (shown ++ after) → PutsText a c whole how) → PutsLogs gives given all a c how
ended_told gives given steps step rest all by added' shown a b c how begun part told shows are puts =
    let log : Log = (step.0, shows.bytes) in
    let of : AreLogsOf gives false (steps ++ step ∷ rest) (told.logs ++ log ∷ unread rest) =
    logs_append gives false steps (step ∷ rest) told.logs (log ∷ unread rest) (logs_part gives steps told.logs begun told.of)
    (refl, shows.of, unread_of gives rest begun) in
    record {
      logs = told.logs ++ log ∷ unread rest;
      of = subst (λ (w : Bool). AreLogsOf gives w all (told.logs ++ log ∷ unread rest)) (sym part)
          (subst (λ (ss : List (ℕ × ℕ)). AreLogsOf gives false ss (told.logs ++ log ∷ unread rest)) (sym are) of);
      puts = puts (logs_text given added' (unread rest)) _ (told.is (log ∷ unread rest) ∙ ap (λ t. told.text ++ t) (shows.is (unread rest)));
    }

-- ---- the place among steps

-- the steps up to one, and that one
taken_more : {X : Type 0} (xs : List X) (i : ℕ) (d : X) → i < length xs → take (i + 1) xs ≡ take i xs ++ get_or xs i d ∷ []
taken_more xs i d within = rw add-one (take-suc xs i d within)

taken_at : {X : Type 0} (xs : List X) (i : ℕ) (d : X) → i < length xs → xs ≡ take i xs ++ get_or xs i d ∷ drop (suc i) xs
taken_at xs i d within = sym (take-append-drop i xs) ∙ ap (λ ys. take i xs ++ ys) (drop-cons xs i d within)

-- one more was told
pub step_told : (gives : Gives) (given : List (List ℕ)) (steps : List (ℕ × ℕ)) (i : ℕ) (d : ℕ × ℕ) (by by' : ℕ → List (List ℕ)) (a b c : Stream) (told : Written)
    → i < length steps → ToldSoFar gives given (take i steps) by a b → PutsLog (gives (get_or steps i d)) given (get_or steps i d).0 by by' b c told → told ≡ Ok true
    → ToldSoFar gives given (take (i + 1) steps) by' a c
step_told gives given steps i d by by' a b c told within sofar put is =
    let step = get_or steps i d in
    subst (λ ss. ToldSoFar gives given ss by' a c) (sym (taken_more steps i d within))
    (more_told gives given (take i steps) step by by' a b c sofar (subst (PutsLog (gives step) given step.0 by by' b c) is put))

-- it was cut off
pub step_cut : (gives : Gives) (given : List (List ℕ)) (steps : List (ℕ × ℕ)) (i : ℕ) (d : ℕ × ℕ) (by by' : ℕ → List (List ℕ)) (a b c : Stream) (told : Written)
    → AreBegun gives → i < length steps → ToldSoFar gives given (take i steps) by a b → PutsLog (gives (get_or steps i d)) given (get_or steps i d).0 by by' b c told
    → told ≡ Ok false → PutsLogs gives given steps a c (Ok false)
step_cut gives given steps i d by by' a b c told begun within sofar put is =
    let step = get_or steps i d in
    let puts : PutsLog (gives step) given step.0 by by' b c (Ok false) = subst (PutsLog (gives step) given step.0 by by' b c) is put in
    let (added', shown, shows, cut) = puts sofar.added sofar.kept in
    ended_told gives given (take i steps) step (drop (suc i) steps) steps by added' shown a b c (Ok false) begun refl sofar shows (taken_at steps i d within)
    (λ after whole of. cut_after a b c sofar.text shown after whole sofar.written cut of)

-- there was no memory for the rest of it
pub step_begun : (gives : Gives) (given : List (List ℕ)) (steps : List (ℕ × ℕ)) (i : ℕ) (d : ℕ × ℕ) (by by' : ℕ → List (List ℕ)) (a b c : Stream) (told : Written) (e : AllocError)
    (how : Written) → AreBegun gives → i < length steps → ToldSoFar gives given (take i steps) by a b
    → PutsLog (gives (get_or steps i d)) given (get_or steps i d).0 by by' b c told → told ≡ Err e → IsErr how → PutsLogs gives given steps a c how
step_begun gives given steps i d by by' a b c told e (Err e') begun within sofar put is failed =
    let step = get_or steps i d in
    let puts : PutsLog (gives step) given step.0 by by' b c (Err e) = subst (PutsLog (gives step) given step.0 by by' b c) is put in
    let (added', shown, shows, part) = puts sofar.added sofar.kept in
    ended_told gives given (take i steps) step (drop (suc i) steps) steps by added' shown a b c (Err e') begun refl sofar shows (taken_at steps i d within)
    (λ after whole of. part_after a b c sofar.text shown after whole sofar.written part of)
step_begun gives given steps i d by by' a b c told e (Ok whole) begun within sofar put is failed = let no : false ≡ true = failed in absurd (cc)

pub steps_told : (gives : Gives) (given : List (List ℕ)) (steps : List (ℕ × ℕ)) (i : ℕ) (by : ℕ → List (List ℕ)) (a b : Stream) → length steps ≤ i
    → ToldSoFar gives given (take i steps) by a b → PutsLogs gives given steps a b (Ok true)
steps_told gives given steps i by a b past sofar =
    subst (λ (ss : List (ℕ × ℕ)). PutsLogs gives given ss a b (Ok true)) (take_all i steps past) (all_told gives given (take i steps) by a b sofar)

-- ---- what is shown of a history

-- nothing was written
pub none_shown : (gives : Gives) (p : Plan) (es : List Entry) (a : Stream) (how : Written) → AreBegun gives → IsErr how → PutsShown gives p es a a how
none_shown gives p es a (Err e) begun failed =
    let steps = flat_map started_step (recorded p es) in
    let shown = logs_text (plan_masks p) [] (unread steps) in
    record {
      shown = shown;
      shows = record { logs = unread steps; of = unread_of gives steps begun; is = refl };
      puts = begun_after a a a [] shown shown (Appends-nothing a.bytes, refl) (IsKept-same a) refl;
    }
none_shown gives p es a (Ok whole) begun failed = let no : false ≡ true = failed in absurd (cc)

-- what was told of the logs of its steps
pub logs_shown : (gives : Gives) (p : Plan) (es : List Entry) (masks : List (List ℕ)) (steps : List (ℕ × ℕ)) (a b : Stream) (how : Written)
    → masks ≡ plan_masks p → steps ≡ flat_map started_step (recorded p es) → PutsLogs gives masks steps a b how → PutsShown gives p es a b how
logs_shown gives p es masks steps a b how of_plan of_history told = record {
  shown = logs_text masks [] told.logs;
  shows = record {
    logs = told.logs;
    of = subst (λ (ss : List (ℕ × ℕ)). AreLogsOf gives (is_whole how) ss told.logs) of_history told.of;
    is = ap (λ ms. logs_text ms [] told.logs) of_plan;
  };
  puts = told.puts;
}

-- ---- the text of what was played

-- where all logs are shown, they are where not all is written that follows
shows_part : (gives : Gives) (p : Plan) (es : List Entry) (shown : List ℕ) (whole : Bool) → AreBegun gives → ShowsLogs gives true p es shown → ShowsLogs gives whole p es shown
shows_part gives p es shown true begun shows = shows
shows_part gives p es shown false begun shows =
    record { logs = shows.logs; of = logs_part gives (flat_map started_step (recorded p es)) shows.logs begun shows.of; is = shows.is }

-- the lines follow what was shown
pub played_put : (gives : Gives) (p : Plan) (es : List Entry) (lines : List ℕ) (a b c : Stream) (told : Written) (whole : Bool) → AreBegun gives → PutsShown gives p es a b told
    → told ≡ Ok true → Puts b c lines whole → PutsPlayed gives p es lines a c (Ok whole)
played_put gives p es lines a b c told whole begun shown is put = record {
  shown = shown.shown;
  shows = shows_part gives p es shown.shown whole begun (subst (λ (w : Written). ShowsLogs gives (is_whole w) p es shown.shown) is shown.shows);
  puts = more_behind a b c shown.shown lines whole (subst (PutsText a b shown.shown) is shown.puts) put;
}

-- or they don't
pub played_cut : (gives : Gives) (p : Plan) (es : List Entry) (lines : List ℕ) (a b : Stream) (told : Written) → PutsShown gives p es a b told → told ≡ Ok false
    → PutsPlayed gives p es lines a b (Ok false)
played_cut gives p es lines a b told shown is = record {
  shown = shown.shown;
  shows = subst (λ (w : Written). ShowsLogs gives (is_whole w) p es shown.shown) is shown.shows;
  puts = cut_before a b shown.shown lines (subst (PutsText a b shown.shown) is shown.puts);
}

pub played_begun : (gives : Gives) (p : Plan) (es : List Entry) (lines : List ℕ) (a b : Stream) (told : Written) (e : AllocError) (how : Written) → PutsShown gives p es a b told
    → told ≡ Err e → IsErr how → PutsPlayed gives p es lines a b how
played_begun gives p es lines a b told e (Err e') shown is failed = record {
  shown = shown.shown;
  shows = subst (λ (w : Written). ShowsLogs gives (is_whole w) p es shown.shown) is shown.shows;
  puts = begun_before a b shown.shown lines e' (subst (PutsText a b shown.shown) is shown.puts);
}
played_begun gives p es lines a b told e (Ok whole) shown is failed = let no : false ≡ true = failed in absurd (cc)

-- what is kept of entries is kept of the same entries
pub kept_of : (writes : Writes) (name : Option (List ℕ)) (p : Plan) (out : Stream) (kept : RecordKept) (entries es : List Entry) → entries ≡ es
    → Keeping writes name (record_text p entries) out kept → Keeping writes name (record_text p es) out kept
kept_of writes name p out kept entries es same h = subst (λ (l : List Entry). Keeping writes name (record_text p l) out kept) same h
