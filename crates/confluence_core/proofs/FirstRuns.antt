-- One-thread runs, from their ends to their starts.
use Rattle.std.proofs.Common.{◌≡◌, ℕ, ◌+◌, List, [], ◌∷◌, length, refl, sym, arith}
use Rattle.pop_model.specs.Popping.{pop}
use Rattle.pop_model.specs.Families.{Event}
use Rattle.pop_model.specs.Instances.{Instance}
use Rattle.pop_model.specs.Logs.{LogRecord, IsLegalAt, replay}
use Rattle.pop_model.specs.Runs.{IsEnd, IsFirstPoppable, IsFirstRun, IsFirstEnd, IsStuckList, start_of}
use Rattle.confluence_core.specs.Records.{record_at}

-- with this many pops made, and this log to come, the whole is a run from the start
pub record Completes (i : Instance) (c : List ℕ) (pops : ℕ) (log : List LogRecord) : Type 0 where
  pub whole : List LogRecord
  pub run : IsFirstRun i (start_of i) whole
  pub end : replay (start_of i) whole ≡ replay c log
  pub size : length whole ≡ pops + length log

-- each run from here makes a whole run
abbrev pub CanComplete : Instance → List ℕ → ℕ → Type 0
CanComplete i c pops = (log : List LogRecord) → IsFirstRun i c log → Completes i c pops log

-- and so after one pop more of the first poppable event
pub complete_more : (i : Instance) (c : List ℕ) (pops : ℕ) (e : Event) → IsFirstPoppable i c e → CanComplete i c pops
    → CanComplete i (pop c e.cube) (pops + 1)
complete_more i c pops e first old log run =
    let legal : IsLegalAt i c (record_at e.unit e.cube c) =
    record { event = first.event; poppable = first.poppable; entries = refl } in
    let all = old (record_at e.unit e.cube c ∷ log) (first, legal, run) in
    record { whole = all.whole; run = all.run; end = all.end; size = omega (arith, all.size) }

-- at an end the pops are those of the one-thread run
pub complete_end : (i : Instance) (c : List ℕ) (pops : ℕ) (stuck : List Event) → CanComplete i c pops → IsEnd i c
    → IsStuckList i c stuck → IsFirstEnd i c pops stuck
complete_end i c pops stuck old end list =
    let all = old [] end in
    record { run = (all.whole, all.run, sym all.end, omega (arith, all.size)); stuck_list = list }
