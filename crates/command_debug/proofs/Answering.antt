-- Lines are answered one after the other.
use Rattle.std.proofs.Common.{◌≡◌, ◌≢◌, ℕ, true, false, List, [], ◌∷◌, ◌++◌, Option, Some, None, IfSome, Result, Ok, Err, refl, sym, ap, ◌∙◌, subst, append_assoc, append-nil}
use Rattle.std.specs.Io.KnownBytes.{IsAtEnd}
use Rattle.status_table.specs.Words.{lines_of}
use Rattle.debugger.specs.Session.{Session}
use Rattle.command_io.specs.Stream.{Stream, IsCutOff, IsLineRead, IsWritten, TakesLine, TakesLines}
use Rattle.command_io.proofs.Known.{Appends-nothing, Appends-then, cut_off_after}
use Rattle.command_debug.specs.Answers.{TellsLines}
use Rattle.command_debug.specs.Session.{AnswersNext, AnswersOne, Gathers, HandsOn, Holds, IsAnswered, IsGathered, ReadTo, StopsUnwritten}
use Rattle.command_debug.specs.declared.session.Halt.{Halt}

-- ---- lines that are taken

take_none : (known : Option (List ℕ)) → TakesLines known known []
take_none None = tt
take_none (Some text) = refl

take_more : (known left rest : Option (List ℕ)) (lines : List (List ℕ)) (line : List ℕ) → TakesLines known left lines → TakesLine left rest line
    → TakesLines known rest (lines ++ line ∷ [])
take_more None left rest lines line before one = tt
take_more (Some text) None rest lines line before one = absurd before
take_more (Some text) (Some more) None lines line before one = absurd one
take_more (Some text) (Some more) (Some less) lines line before one =
    before ∙ ap (λ (l : List (List ℕ)). lines ++ l) one ∙ sym (append_assoc lines (line ∷ []) (lines_of less))

take_all : (known left : Option (List ℕ)) (lines : List (List ℕ)) → TakesLines known left lines → IsAtEnd left → IfSome known (λ text. lines ≡ lines_of text)
take_all None left lines before end = tt
take_all (Some text) None lines before end = absurd before
take_all (Some text) (Some more) lines before end =
    sym (before ∙ ap (λ (l : List ℕ). lines ++ lines_of l) end ∙ append-nil lines)

-- ---- texts that are written and gathered

written_more : (a b c : Stream) (x y : List ℕ) → IsWritten a b x → IsWritten b c y → IsWritten a c (x ++ y)
written_more a b c x y first next = (Appends-then _ _ _ x y first.0 next.0, next.1 ∙ first.1)

-- what was gathered is handed on
gathered_on : (a b c : Stream) (told gathered left : List ℕ) → IsGathered a b told gathered → IsGathered b c gathered left → IsGathered a c told left
gathered_on a b c told gathered left (before, first, whole) (more, next, rest) =
    (before ++ more, written_more a b c before more first next, whole ∙ ap (λ (l : List ℕ). before ++ l) rest ∙ sym (append_assoc before more left))

-- more is gathered
gathered_more : (a b : Stream) (told gathered words new : List ℕ) → IsGathered a b told gathered → new ≡ gathered ++ words → IsGathered a b (told ++ words) new
gathered_more a b told gathered words new (before, first, whole) is =
    (before, first, ap (λ (l : List ℕ). l ++ words) whole ∙ append_assoc before gathered words ∙ ap (λ (l : List ℕ). before ++ l) (sym is))

-- a part of what was gathered is written
gathered_cut : (a b c : Stream) (told gathered : List ℕ) → IsGathered a b told gathered → IsCutOff b c gathered → IsCutOff a c told
gathered_cut a b c told gathered (before, first, whole) cut =
    subst (λ (l : List ℕ). IsCutOff a c l) (sym whole) (cut_off_after a b c before gathered first cut)

-- ---- a session under way

-- These lines were answered, and a session that goes on from here goes on from all of them.
pub record Going (first : Session) (input out : Stream) (now : Session) (input' out' : Stream) (gathered : List ℕ) : Type 0 where
  pub lines : List (List ℕ)
  pub told : List ℕ
  pub taken : TakesLines input.bytes input'.bytes lines
  pub sound : input'.failed ≡ input.failed
  pub written : IsGathered out out' told gathered
  pub goes : (others : List (List ℕ)) (more : List ℕ) → TellsLines now others more → TellsLines first (lines ++ others) (told ++ more)

pub begin : (s : Session) (input out : Stream) (gathered : List ℕ) → gathered ≡ [] → Going s input out s input out gathered
begin s input out gathered none = record {
  lines = [];
  told = [];
  taken = take_none input.bytes;
  sound = refl;
  written = ([], (Appends-nothing out.bytes, refl), sym none);
  goes = λ others more tells. tells;
}

module _ (first : Session) (input out : Stream) (now : Session) (mid out' : Stream) (gathered : List ℕ) (g : Going first input out now mid out' gathered) where
  -- what is told so far
  so_far : TellsLines first g.lines g.told
  so_far =
      subst (λ (l : List (List ℕ)). TellsLines first l g.told) (append-nil g.lines)
      (subst (λ (t : List ℕ). TellsLines first (g.lines ++ []) t) (append-nil g.told) (g.goes [] [] refl))

  answered_so_far : (input' : Stream) (ended : Result (Unit {0}) Halt) → ReadTo input input' g.lines ended → IsAnswered first input input' out out' gathered ended
  answered_so_far input' ended read = record { lines = g.lines; told = g.told; read = read; tells = so_far; written = g.written }

  -- what is gathered is handed on
  handed : (out'' : Stream) (left : List ℕ) → HandsOn out' out'' gathered left (Ok tt) → Going first input out now mid out'' left
  handed out'' left on = record {
    lines = g.lines;
    told = g.told;
    taken = g.taken;
    sound = g.sound;
    written = gathered_on out out' out'' g.told gathered left g.written on;
    goes = g.goes;
  }

  -- or is not, or in part
  unhanded : (out'' : Stream) → IsCutOff out' out'' gathered → StopsUnwritten first input mid out out''
  unhanded out'' cut = record {
    lines = g.lines;
    told = g.told;
    ended = Err Halt.Unwritten;
    read = (g.taken, g.sound);
    tells = so_far;
    cut_off = gathered_cut out out' out'' g.told gathered g.written cut;
  }

  -- the input has ended
  all_answered : (input' : Stream) → IsLineRead mid input' (Ok None) → IsAnswered first input input' out out' gathered (Ok tt)
  all_answered input' end = answered_so_far input' (Ok tt) (take_all input.bytes mid.bytes g.lines g.taken end.0, end.1 ∙ g.sound)

  -- or a line is answered
  answered : (input' : Stream) (next : Session) (new : List ℕ) → AnswersOne now mid next input' gathered new → Going first input out next input' out' new
  answered input' next new (line, read, (words, one, is)) = record {
    lines = g.lines ++ line ∷ [];
    told = g.told ++ words;
    taken = take_more input.bytes mid.bytes input'.bytes g.lines line g.taken read.0;
    sound = read.1 ∙ g.sound;
    written = gathered_more out out' g.told gathered words new g.written is;
    goes = λ others more tells.
        subst (λ (l : List (List ℕ)). TellsLines first l ((g.told ++ words) ++ more)) (sym (append_assoc g.lines (line ∷ []) others))
        (subst (λ (t : List ℕ). TellsLines first (g.lines ++ line ∷ others) t) (sym (append_assoc g.told words more))
        (g.goes (line ∷ others) (words ++ more) (next, words, more, one, tells, refl)));
  }

module _ (first : Session) (input out : Stream) (now : Session) (mid out' : Stream) (gathered : List ℕ) (g : Going first input out now mid out' gathered)
    (next : Session) (input' out'' : Stream) (new : List ℕ) where
  after_handed : (left : List ℕ) → HandsOn out' out'' gathered left (Ok tt) → Going first input out now mid out'' left
  after_handed left on = handed first input out now mid out' gathered g out'' left on

  -- the session goes on with the next line
  pub goes_on : AnswersNext now mid out' next input' out'' gathered new (Ok true) → Going first input out next input' out'' new
  goes_on (left, on, one) = answered first input out now mid out'' left (after_handed left on) input' next new one

  -- there is none
  pub comes_to_end : AnswersNext now mid out' next input' out'' gathered new (Ok false) → Gathers first input input' out out'' new (Ok tt)
  comes_to_end (on, end) = all_answered first input out now mid out'' new (after_handed new on) input' end

  -- or it stops before
  pub stops : (why : Halt) → AnswersNext now mid out' next input' out'' gathered new (Err why) → Gathers first input input' out out'' new (Err why)
  stops Halt.Unread (on, lost) =
      let h = after_handed new on in
      answered_so_far first input out now mid out'' new h input' (Err Halt.Unread) (mid.bytes, h.taken, lost.0, lost.1)
  stops Halt.Unwritten (cut, same) =
      subst (λ (i : Stream). StopsUnwritten first input i out out'') (sym same) (unhanded first input out now mid out' gathered g out'' cut)
  stops Halt.Memory on =
      let h = after_handed new on in
      answered_so_far first input out now mid out'' new h input' (Err Halt.Memory) (mid.bytes, h.taken)

-- ---- how a session ends

module _ (s : Session) (input input' out mid out' : Stream) (gathered : List ℕ) where
  cut_short : (ended : Result (Unit {0}) Halt) → IsAnswered s input input' out mid gathered ended → IsCutOff mid out' gathered → Holds s input input' out out' (Err Halt.Unwritten)
  cut_short ended a cut = record {
    lines = a.lines;
    told = a.told;
    ended = ended;
    read = a.read;
    tells = a.tells;
    cut_off = gathered_cut out mid out' a.told gathered a.written cut;
  }

  -- the last answers are not written, or in part
  pub not_written : (ended : Result (Unit {0}) Halt) → ended ≢ Err Halt.Unwritten → Gathers s input input' out mid gathered ended → IsCutOff mid out' gathered
      → Holds s input input' out out' (Err Halt.Unwritten)
  not_written (Ok done) goes a cut = cut_short (Ok done) a cut
  not_written (Err Halt.Unread) goes a cut = cut_short (Err Halt.Unread) a cut
  not_written (Err Halt.Unwritten) goes a cut = absurd (goes refl)
  not_written (Err Halt.Memory) goes a cut = cut_short (Err Halt.Memory) a cut
