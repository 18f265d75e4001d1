-- The reports of watchers that received a log.
use Rattle.std.specs.Prelude.{ℕ, Bool, true, false, ◌||◌, List, [], ◌++◌, unwrap_or}
use Rattle.pop_words.specs.declared.reports.Reports.{Reports}
use Rattle.pop_watch.specs.Telling.{Watcher, first_report}

-- the report of the first watcher of a kind, if it is requested and there is one
abbrev pub report_if : Bool → ℕ → List Watcher → List ℕ
report_if false kind watchers = []
report_if true kind watchers = unwrap_or (first_report kind watchers) []

-- the requested reports, by rising kind: totals are of kind 1, heights of kind 2, and layers of
-- kind 3
abbrev pub reports_text : Reports → List Watcher → List ℕ
reports_text asked watchers =
    report_if asked.totals 1 watchers ++ report_if asked.heights 2 watchers
    ++ report_if asked.layers 3 watchers

-- some report is requested
abbrev pub asks_report : Reports → Bool
asks_report asked = asked.totals || (asked.heights || asked.layers)
