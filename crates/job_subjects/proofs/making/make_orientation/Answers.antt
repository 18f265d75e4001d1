use Rattle.std.proofs.Common.{inr, ◌≡◌, ◌∙◌, length, refl, ap, subst}
use Rattle.pop_model.specs.Stacks.{StackTable}
use Rattle.pop_stacks.specs.Faults.{IsSound}
use Rattle.pop_print.specs.declared.facts.Facts.TheVariants.{Orient as OrientFacts}
use Rattle.job_subjects.specs.Refusals.{IsRefusal, unoriented}
use Rattle.job_subjects.specs.StackFaults.{AreFew, RefusesStacks}
use Rattle.job_subjects.specs.Refused.{RefusesOrienting}
use Rattle.job_subjects.specs.Subjects.{pair_weights, instance_of, orientations}
use Rattle.job_subjects.proofs.Carrying.{refused_error, passed_refusal}
use Rattle.job_subjects.proofs.RefusedForms.{pairs_refused, sinks_refused}
use Rattle.job_subjects.proofs.making.make_orientation.Goals as goal

-- a vertex is isolated
pub returns-in_err-events-clause-refused : goal.returns-in_err-events-clause-refused
returns-in_err-events-clause-refused c =
    let fault = c.in_err-events.field-0.0 in
    refused_error (IsRefusal (RefusesOrienting c.args.origin c.args.count c.args.graph)) c.from_residual.result
    (unoriented fault) c.from_residual.ensures.1
    (sinks_refused c.args.origin c.args.count c.args.graph fault c.in_err-events.ensures.fault)

-- the stacks are refused
pub returns-in_err-stacks-clause-refused : goal.returns-in_err-stacks-clause-refused
returns-in_err-stacks-clause-refused c =
    let g = c.args.graph in
    passed_refusal (RefusesStacks (OrientFacts g) c.args.origin c.pairs.result c.args.count)
    (RefusesOrienting c.args.origin c.args.count g) c.from_residual-in_err-stacks.result c.in_err-stacks.field-0.0
    c.from_residual-in_err-stacks.ensures.1
    (λ r h. inr (
      c.in_ok-events.ensures.touched,
      pairs_refused (λ n. OrientFacts g) c.args.origin c.args.count
          c.pairs.result c.edges-edges.result (length g.edges) c.pairs.ensures c.edges-edges.ensures.count r h,
    ))
    c.in_err-stacks.ensures.refused

pub returns-clause-made : goal.returns-clause-made
returns-clause-made c =
    let graph = c.args.graph in
    let events = c.in_ok-events.events in
    let n = c.edges-edges.result in
    let count : n ≡ length graph.edges = c.edges-edges.ensures.count in
    let weights : c.pairs.result ≡ pair_weights (length graph.edges) = c.pairs.ensures ∙ ap pair_weights count in
    let same : c.of_events-instance.result ≡ instance_of c.args.origin n events =
    c.of_events-instance.ensures
    ∙ ap (λ (s : StackTable). instance_of s.origin n events) c.in_ok-stacks.ensures.made in
    record {
      subject = orientations graph events;
      are = record {
        touched = c.in_ok-events.ensures.touched;
        events = events;
        of_graph = c.in_ok-events.ensures.sinks;
        is = refl;
      };
      over = record {
        facts_are = refl;
        instance_is = same ∙ ap (λ k. instance_of c.args.origin k events) count;
        sound = subst (IsSound c.args.origin) weights c.in_ok-stacks.ensures.sound;
        few = subst (λ w. AreFew c.args.count (length w)) weights c.in_ok-stacks.ensures.few;
      };
    }
