-- What a value that was read sets in the job.
use Rattle.std.specs.Prelude.{Some}
use Rattle.pop_words.specs.declared.job.Job.{Job}
use Rattle.pop_words.specs.declared.setting.Setting.{Setting}
use Rattle.pop_words.specs.declared.setting.Setting.TheVariants.{Stacks, Height, Grow, Count, Pops, Workers, Board, Log, Root, Witness, Reports, Size}

-- the job with what the value sets
abbrev pub sets : Setting → Job → Job
sets (Stacks stacks) job = record job { stacks = stacks }
sets (Height n) job = record job { height = n }
sets (Grow n) job = record job { grow = Some n }
sets (Count n) job = record job { count = Some n }
sets (Pops n) job = record job { pops = Some n }
sets (Workers n) job = record job { workers = n }
sets (Board board) job = record job { board = board }
sets (Log log) job = record job { log = log }
sets (Root n) job = record job { root = n }
sets (Witness pair) job = record job { witness = Some pair }
sets (Reports kinds) job = record job { reports = kinds }
sets (Size n) job = record job { size = n }
