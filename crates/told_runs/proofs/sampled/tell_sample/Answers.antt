use Rattle.std.proofs.Common.{◌≡◌, ℕ, Bool, List, None, true, false, if◌then◌else◌, ◌&&◌, refl, sym, ap, ◌∙◌}
use Rattle.pop_model.specs.Instances.{Instance}
use Rattle.confluence_core.specs.declared.run.Run.{Run}
use Rattle.pop_watch.specs.Telling.{Watcher}
use Rattle.pop_print.specs.Output.{end_text}
use Rattle.told_runs.specs.Names.{names_for}
use Rattle.told_runs.specs.Outcomes.{end_status}
use Rattle.told_runs.proofs.ToldRuns.{told_so, told_ended, told_history, unkept_behind}
use Rattle.told_runs.proofs.sampled.tell_sample.Goals as goal

-- no witness is missing
none_missing : (free : Bool) (status : ℕ) → (if free && false then 6 else status) ≡ status
none_missing true status = refl
none_missing false status = refl

-- nothing is told behind the end, of the run of an extremal instance or of another
pub returns : goal.returns
returns c =
    let asked = c.args.asked in
    let end = c.args.end.now in
    let run : Run = record { end = end; log = None } in
    let names = names_for c.args.facts.now in
    let i = c.args.instance in
    let text = c.in_ok-text.text.items in
    let so = λ (ws : List Watcher). told_so asked ws c.args.facts.now i names run false 0 text text c.let_go-of.ensures.instance
    c.requires.within c.requires.run refl
    (c.in_ok-text.ensures
    ∙ ap (λ (j : Instance). end_text c.args.facts.now j end.cursors end.pops end.stuck) c.let_go-of.ensures.same)
    (unkept_behind asked ws names i run text refl c.requires.run)
    (sym (none_missing asked.free (end_status end.stuck) ∙ ap end_status c.requires.sample)) in
    record { ended = λ ws. told_ended (so ws); history = λ ws. told_history (so ws) }
