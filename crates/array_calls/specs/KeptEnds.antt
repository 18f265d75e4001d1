-- Ends by popping and by rounds as one.
use Rattle.confluence_core.specs.declared.end.End.{End}
use Rattle.prs_rounds.specs.declared.round_end.RoundEnd.{RoundEnd}
use Rattle.array_calls.specs.declared.row_end.KeptEnd.{KeptEnd}
use Rattle.array_calls.specs.declared.row_end.KeptEnd.TheVariants.{Popped, Rounded}

-- an end by rounds as one whose pops are the rounds
abbrev pub rounded : RoundEnd → End
rounded end = record {
  cursors = end.cursors;
  pops = end.rounds;
  stuck = end.stuck;
  values = end.values.items;
}

-- either as an end
abbrev pub end_of : KeptEnd → End
end_of (Popped end) = end
end_of (Rounded end) = rounded end
