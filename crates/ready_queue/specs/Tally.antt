-- The numbers that a pass carries.
use Rattle.std.specs.Prelude.{◌≡◌, ℕ, ◌+◌, ◌%◌, ◌-◌, ◌^◌, ◌<◌, min}
use Rattle.ready_queue.specs.declared.tally.Tally.{Tally}

-- A count, or the greatest word where it is greater.
abbrev pub counted : ℕ → ℕ
counted n = min n (2 ^ 64 - 1)

-- How far the puts are ahead of the takes, but for whole laps of a word.
abbrev pub IsAhead : ℕ → ℕ → ℕ → Type 0
IsAhead puts takes ahead = (ahead + takes) % 2 ^ 64 ≡ puts % 2 ^ 64

-- The numbers of so many puts and takes.
abbrev pub Counts : ℕ → ℕ → Tally → Type 0
Counts puts takes t = (t.put ≡ counted puts) × (t.taken ≡ counted takes) × IsAhead puts takes t.ahead × (t.ahead < 2 ^ 64)

-- The numbers after one more put.
abbrev pub CountsPut : Tally → Tally → Type 0
CountsPut old new = (puts takes : ℕ) → Counts puts takes old → Counts (puts + 1) takes new

-- The numbers after one more take.
abbrev pub CountsTake : Tally → Tally → Type 0
CountsTake old new = (puts takes : ℕ) → Counts puts takes old → Counts puts (takes + 1) new

-- The numbers of both together.
abbrev pub CountsBoth : Tally → Tally → Tally → Type 0
CountsBoth one other both =
    (puts takes more others : ℕ)
    → Counts puts takes one
    → Counts more others other
    → Counts (puts + more) (takes + others) both
