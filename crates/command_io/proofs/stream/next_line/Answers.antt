use Rattle.std.proofs.Common.{◌<◌, ℕ, List, drop, length, sym, subst, rules}
use Rattle.std.specs.Io.{StopsAt}
use Rattle.std.specs.Io.KnownBytes.{Consumes}
use Rattle.command_io.specs.Stream.{TakesLine}
use Rattle.command_io.proofs.LineReading.{loses, takes_ended, takes_last}
use Rattle.command_io.proofs.stream.next_line.Goals as goal

pub returns-then-cut_newline : goal.returns-then-cut_newline
returns-then-cut_newline g c =
    let read = c.read_until-read.new.buf.items in
    takes_ended (g.R.Read.remaining c.args.reader.now) (g.R.Read.remaining c.read_until-read.new.self) read c.cut_newline.new.bytes.items
    (subst (λ (l : List ℕ). StopsAt (drop (length l) read) 10) c.clear.ensures.items c.read_until-read.ensures.stops) c.if-cut_newline.ensures
    (subst (λ (l : List ℕ). Consumes (g.R.Read.remaining c.args.reader.now) (g.R.Read.remaining c.read_until-read.new.self) (drop (length l) read)) c.clear.ensures.items c.read_until-read.ensures.none_lost)

pub returns-in-Ok : goal.returns-in-Ok
returns-in-Ok g c =
    let read = c.read_until-read.new.buf.items in
    let some : 0 < length read = search rules in
    subst (λ (l : List ℕ). TakesLine (g.R.Read.remaining c.args.reader.now) (g.R.Read.remaining c.read_until-read.new.self) l) (sym c.if-cut_newline.ensures.0)
    (takes_last (g.R.Read.remaining c.args.reader.now) (g.R.Read.remaining c.read_until-read.new.self) read c.clear.new.self.items c.clear.ensures.items
    (subst (λ (l : List ℕ). StopsAt (drop (length l) read) 10) c.clear.ensures.items c.in-Ok.ensures.stops) c.if-cut_newline.ensures.1 some c.in-Ok.ensures.bytes c.in-Ok.ensures.rest
    (subst (λ (l : List ℕ). Consumes (g.R.Read.remaining c.args.reader.now) (g.R.Read.remaining c.read_until-read.new.self) (drop (length l) read)) c.clear.ensures.items c.in-Ok.ensures.none_lost))

pub returns-in-Err : goal.returns-in-Err
returns-in-Err g c =
    let read = c.read_until-read.new.buf.items in
    loses (g.R.Read.remaining c.args.reader.now) (g.R.Read.remaining c.read_until-read.new.self) read
    (subst (λ (l : List ℕ). StopsAt (drop (length l) read) 10) c.clear.ensures.items c.in-Err.ensures.stops) c.if-cut_newline.ensures.1
    (subst (λ (l : List ℕ). Consumes (g.R.Read.remaining c.args.reader.now) (g.R.Read.remaining c.read_until-read.new.self) (drop (length l) read)) c.clear.ensures.items c.in-Err.ensures.none_lost)
