use Rattle.std.proofs.Common.{◌≡◌, ◌++◌, map, take, string_bytes, codes, decimal}
use Rattle.pop_model.specs.Text.{spaced}
use Rattle.job_subjects.proofs.refusal.told_in_line.Given as goal

-- the numbers so far are written
abbrev pub invariant-loop-number : goal.invariant-loop-number
invariant-loop-number l =
    string_bytes l.text ≡ codes "s " ++ l.fn.word ++ spaced (map decimal (take l.number-index l.numbers))
