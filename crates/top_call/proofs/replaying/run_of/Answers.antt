use Rattle.top_call.proofs.EarlyRecords.{early_record}
use Rattle.top_call.proofs.replaying.run_of.Goals as goal

-- a legal log has so few records
pub unlogged-requires : goal.unlogged-requires
unlogged-requires c =
    early_record c.names_of.result c.args.instance.now c.args.text.now c.in-Err.refusal c.numbers_fit.ensures.instance
    c.in-Err.ensures.refusal
