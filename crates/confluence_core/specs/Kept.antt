-- What a run keeps.
use Rattle.std.specs.Prelude.{Bool, true, false}
use Rattle.confluence_core.specs.declared.keep.Keep.{Keep}
use Rattle.confluence_core.specs.declared.keep.Keep.TheVariants.{Nothing, Log}

-- the log is kept
abbrev pub keeps_log : Keep → Bool
keeps_log Nothing = false
keeps_log Log = true
