use Rattle.std.proofs.Common.{◌≡◌, ◌∙◌, List, ℕ, All, refl, sym, ap, subst}
use Rattle.pop_model.specs.Stacks.{variables_of}
use Rattle.pop_model.specs.Popping.{NamesBelow}
use Rattle.pop_model.specs.Logs.{LogRecord}
use Rattle.pop_model.specs.Runs.{start_of}
use Rattle.pop_log.specs.LayeredTexts.{placed_text}
use Rattle.pop_log.proofs.LayeredPrinting.{records_below}
use Rattle.run_cert.specs.Certificates.{cert_of, cert_text}
use Rattle.told_runs.specs.Outcomes.Outcome.{Paused}
use Rattle.top_call.proofs.PausedComes.{pause_of}
use Rattle.top_call.proofs.pausing.tell_pause.Goals as goal

-- the variables of a legal log are those of the stacks
pub of-requires : goal.of-requires
of-requires c =
    let i = c.args.instance.now in
    let count : c.count.result ≡ variables_of i.stacks = c.count.ensures.count ∙ ap variables_of c.stacks.ensures in
    subst (λ n. All (λ (r : LogRecord). NamesBelow r.event.cube n) c.args.log.now) (sym count)
    (records_below i c.units-units.ensures.instance (start_of i) c.args.log.now c.requires.legal)

pub print-requires : goal.print-requires
print-requires c =
    (pause_of c.args.instance.now c.units-units.ensures.instance c.args.log.now c.in_ok-placed.placed c.requires.legal
    c.in_ok-placed.ensures c.requires.open).legal

pub returns : goal.returns
returns c =
    let i = c.args.instance.now in
    let placed = c.in_ok-placed.placed in
    let job = c.args.job.now in
    let input : List ℕ = c.args.input.now in (
      Paused job input c.args.facts.now i placed,
      (
        refl,
        refl,
        refl,
        refl,
        pause_of i c.units-units.ensures.instance c.args.log.now placed c.requires.legal c.in_ok-placed.ensures
            c.requires.open,
      ),
      record {
        status_is = refl;
        out_is = c.in_ok-text.ensures.text
            ∙ ap (λ (l : List ℕ). cert_text (cert_of job input l))
            (c.deref.ensures.value ∙ c.in_ok-log_text.ensures ∙ ap (λ n. placed_text n i placed) c.names_of-names.ensures);
      },
    )
