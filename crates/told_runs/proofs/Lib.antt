-- What is printed: witnesses, runs and the requested parts of their logs. LayeredOrders: each log has a layered order.
-- ToldOfFirst: what is printed for any run is printed for the one-thread run.
mod WitnessResults
pub mod LayeredOrders
pub mod ToldOfFirst
pub mod ToldRuns
-- Watchers. ChangedFront: each member of a list is changed in turn. ToldLog: all are told a log. FirstOfKind: the one
-- that is asked for its report.
mod ChangedFront
mod ToldLog
mod FirstOfKind
