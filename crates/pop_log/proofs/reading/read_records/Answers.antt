use Rattle.std.proofs.Common.{ℕ, List, Result, Ok, Err, IfErr, subst}
use Rattle.std.proofs.lemmas.Result.{on_ok_weaker}
use Rattle.pop_log.specs.declared.log_refusal.LogRefusal.{LogRefusal}
use Rattle.pop_log.specs.Reading.{AreSaid, IsLayerRefusal}
use Rattle.pop_log.proofs.ReadLogs.{read_as, refusal_read}
use Rattle.pop_log.proofs.reading.read_records.Goals as goal

pub returns-clause-log : goal.returns-clause-log
returns-clause-log c =
    let read = c.read_lines.new.progress in
    on_ok_weaker c.check_layers.result
    (λ are. read_as c.args.names.now c.args.instance.now c.args.bytes.now read c.in_ok-version.said.items
    c.in_ok-version.version c.requires.short c.in_ok-version.ensures.read c.if-progress.false
    (subst (AreSaid c.in_ok-version.version read.log) c.deref.ensures.value are))
    c.check_layers.ensures.layered

-- a refusal of other words
refused_so : {X : Type 0} (result : Result X LogRefusal) (P Q : LogRefusal → Type 0)
    → ((refusal : LogRefusal) → P refusal → Q refusal) → IfErr result P → IfErr result Q
refused_so (Ok x) P Q so is = tt
refused_so (Err refusal) P Q so is = so refusal is

pub returns-clause-refusal : goal.returns-clause-refusal
returns-clause-refusal c =
    let read = c.read_lines.new.progress in
    refused_so c.check_layers.result _ _
    (λ refusal is. refusal_read c.args.names.now c.args.instance.now c.args.bytes.now read c.in_ok-version.said.items
    c.in_ok-version.version c.requires.short c.in_ok-version.ensures.read c.if-progress.false refusal
    (subst (λ (ys : List ℕ). IsLayerRefusal c.in_ok-version.version read.log ys refusal) c.deref.ensures.value is))
    c.check_layers.ensures.refusal
