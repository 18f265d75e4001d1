use Rattle.std.proofs.Common.{inl, inr, ◌≡◌, ◌≢◌, ◌<◌, ℕ, zero, suc, [], get_or, sym, ap, subst, ◌∙◌, arith, length, All}
use Rattle.std.specs.Prelude.{slice_index}
use Rattle.std.proofs.lemmas.Bool.{cases_lt}
use Rattle.pop_model.specs.Popping.{NamesBelow}
use Rattle.pop_instance.specs.Events.{cube_at}
use Rattle.prs_rounds.specs.Growth.{mark_of, uncovered, AreListed, AreJudged, Meets}
use Rattle.prs_rounds.specs.declared.mark.Mark.TheVariants.{Free}
use Rattle.prs_rounds.proofs.GrowthLemmas.{met_judged, stays_judged}
use Rattle.prs_rounds.proofs.MarkedSteps.{step_marks}
use Rattle.prs_rounds.proofs.MarkedEnds.{first_marks, grown_at_end}
use Rattle.prs_rounds.proofs.growth.Growth.grow.Goals as goal

pub steps-init : goal.steps-init
steps-init c =
    let rows = c.args.events.now in
    let values = c.args.values.now in
    let begun = c.in_ok-begin.ensures in
    record {
      marks = λ s at starts. (
        zero,
        first_marks s rows at values c.args.places.now c.begin.new.self starts
            begun.begins,
      );
      listed = subst (λ n. AreListed (length rows) n c.begin.new.self) c.requires.blank.covered begun.listed;
      none = begun.none;
      spread = omega arith;
      judged = λ k h. absurd (omega arith);
      size = begun.size ∙ c.requires.blank.covered;
    }

pub steps-preserved : goal.steps-preserved
steps-preserved c =
    let rows = c.args.events.now in
    let values = c.args.values.now in
    let index = c.args.index.now in
    let old = c.steps.invariant in
    let g = c.steps.self in
    let mid = c.judge_rows.new.self in
    let new = c.cover_fresh.new.self in
    let judging = c.in_ok-judge_rows.ensures in
    let covering = c.in_ok-cover_fresh.ensures in
    let by_rows : (k : ℕ) → k < length g.variables.items → AreJudged mid
    (get_or index (slice_index g.variables.items k) []) =
    λ k h. elim (cases_lt k c.steps.spread) [
      | inl before ↦ stays_judged rows values g mid judging.judges (get_or index (slice_index g.variables.items k) [])
          (old.judged k before)
      | inr behind ↦ judging.judged k behind h
    ] in
    let judged : (u : ℕ) → u < length rows → Meets g (cube_at rows u) → mark_of mid u ≢ Free =
    met_judged rows index (length values) g mid c.requires.index old.listed by_rows in
    let same : mid.variables ≡ g.variables = judging.judges.variables in
    record {
      marks = λ s at starts.
          let m = old.marks s at starts in
          let fits : All (λ r. NamesBelow r.1 (length at)) rows =
          subst (λ n. All (λ r. NamesBelow r.1 n) rows) starts.values_are.count c.requires.fits in (
            suc m.0,
            step_marks s rows at values m.0 g mid new
                (length values) starts.values_are fits m.1 judging.judges judging.listed judged covering.covers,
          );
      listed = subst (λ n. AreListed (length rows) n new) judging.listed.covered covering.listed;
      none = covering.none;
      spread = omega (arith, covering.covers.long, ap (λ x. length x.items) same, c.len-end.ensures);
      judged = λ k h.
          let within : k < length g.variables.items = omega (arith, h, c.len-end.ensures) in
          let at : slice_index new.variables.items k ≡ slice_index g.variables.items k =
          covering.covers.place k (omega (arith, within, ap (λ x. length x.items) same))
          ∙ ap (λ x. slice_index x.items k) same in
          rw covering.covers.marks (subst (λ v. AreJudged mid (get_or index v [])) (sym at) (by_rows k within));
      size =
          let flags : uncovered mid ≡ uncovered g = ap (λ x. uncovered (record g { covered = x }))
          judging.judges.covered in
          omega (arith, covering.covers.size, flags, ap (λ x. length x.items) same, old.size);
    }

pub returns-clause-grown : goal.returns-clause-grown
returns-clause-grown c s at starts =
    let rows = c.args.events.now in
    let inv = c.steps.invariant in
    let g = c.steps.self in
    let m = inv.marks s at starts in
    let judged : (u : ℕ) → u < length rows → Meets g (cube_at rows u) → mark_of g u ≢ Free =
    met_judged rows c.args.index.now (length c.args.values.now) g g c.requires.index inv.listed
    (λ k h. inv.judged k (omega (arith, h, c.steps-test.false, c.len.ensures))) in
    grown_at_end s rows at m.0 g m.1 judged
